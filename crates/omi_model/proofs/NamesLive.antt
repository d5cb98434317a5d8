-- Each name that an object or a thread holds is the name of a live object.
use Rattle.std.proofs.Common.{◌≡◌, ℕ, Bool, true, false, List, Some, refl, sym, ap, ◌∙◌}
use Rattle.omi_script.specs.declared.program.Program.{Program}
use Rattle.omi_model.specs.declared.event.Event.{Event}
use Rattle.omi_model.specs.declared.id.Rid.{Rid}
use Rattle.omi_model.specs.declared.id.Tid.{Tid}
use Rattle.omi_model.specs.declared.progress.Progress.TheVariants.{Begun, Deferred}
use Rattle.omi_model.specs.declared.region.Region.{Region}
use Rattle.omi_model.specs.declared.task.Task.{Task}
use Rattle.omi_model.specs.LawNames.{AreNamesLive}
use Rattle.omi_model.specs.Reached.{Reached}
use Rattle.omi_model.specs.State.{State, region_of, task_of}
use Rattle.omi_model.proofs.ChainsKept.{current_begun}
use Rattle.omi_model.proofs.freeing.RegionsFreed.{regions_freed}
use Rattle.omi_model.proofs.members.EncounterLaws.{encountering_begun}
use Rattle.omi_model.proofs.OpenNames.{open_names}
use Rattle.omi_model.proofs.Slots.{some_same}
pub use Rattle.omi_model.proofs.OpenNames.{member_alike}

-- the task that encountered a live region lives, and has begun and not finished: while the region is not joined it waits for it, and
-- then it gives it back
pub met_begun : (p : Program) (events : List (ℕ × Event)) (s : State) → Reached p events s
    → (n : Rid) (r : Region) (k : Tid) → region_of s n ≡ Some r → r.encountering ≡ Some k
    → (t : Task) × (task_of s k ≡ Some t) × (t.progress ≡ Begun)
met_begun p events s reached n r k found met = go r.joined refl
  where
    go : (b : Bool) → r.joined ≡ b → (t : Task) × (task_of s k ≡ Some t) × (t.progress ≡ Begun)
    go false is = encountering_begun p events s reached n r k found met is
    go true is =
        let (a, number, met_a, freed) = (regions_freed p events s reached).joined n r found is in
        let one : a ≡ k = some_same met_a met in (
          freed.task,
          ap (task_of s) (sym one) ∙ freed.current.live,
          (current_begun p events s reached n.0.creator a freed.task freed.current.name freed.current.live).0,
        )

begun_deferred : Begun ≡ Deferred → ⊥
begun_deferred e = cc

pub names_live : (p : Program) (events : List (ℕ × Event)) (s : State) → Reached p events s → AreNamesLive s
names_live p events s reached =
    let names = open_names p events s reached in
    record {
      currents = names.currents;
      tasks = names.tasks;
      regions = λ n r found. let of = names.regions n r found in record {
        enclosing = of.enclosing;
        encountering = λ k met. let (t, live, begun) = met_begun p events s reached n r k found met in (t, live, λ d. begun_deferred (sym begun ∙ d));
        team = of.team;
        members = of.members;
      };
    }
