-- The names that a region holds were made: they name no task that is made later.
use Rattle.std.proofs.Common.{◌≡◌, ℕ, zero, suc, List, slice_get, Some, refl, subst}
use Rattle.omi_script.specs.declared.program.Program.{Program}
use Rattle.omi_model.specs.declared.event.Event.{Event}
use Rattle.omi_model.specs.declared.id.Tid.{Tid}
use Rattle.omi_model.specs.declared.region.Region.{Region}
use Rattle.omi_model.specs.LawStays.{Stays}
use Rattle.omi_model.specs.Opening.{initial_task, opening, opening_region, opening_task}
use Rattle.omi_model.specs.Reached.{Reached, Step}
use Rattle.omi_model.specs.State.{State}
use Rattle.omi_model.proofs.EachObject.{EachRegion, IsRegionLaw, over_events, region_step}
use Rattle.omi_model.proofs.NamesKept.{IsMade, made_later, made_live, names_kept}
use Rattle.omi_model.proofs.OpeningObjects.{each_first_region}
use Rattle.omi_model.proofs.Slots.{none_some, some_same}
use Rattle.omi_model.proofs.Steps.{IsRelisted}

pub record AreNamesMade (s : State) (r : Region) : Type 0 where
  pub encountering : (k : Tid) → r.encountering ≡ Some k → IsMade s.tasks k.0
  pub team : (j : ℕ) (m : Tid × ℕ) → slice_get r.team j ≡ Some m → IsMade s.tasks m.0.0

made_step : (p : Program) (s : State) (i : ℕ) (e : Event) (next : State) → Step p s i e next
    → EachRegion (λ n r. AreNamesMade s r) s → EachRegion (λ n r. AreNamesMade next r) next
made_step p s i e next step all = region_step p (λ n r. AreNamesMade next r) s i e next step law
    (λ n r live. record { encountering = λ k is. later k ((all n r live).encountering k is); team = λ j m at. later m.0 ((all n r live).team j m at) })
  where
    later : (k : Tid) → IsMade s.tasks k.0 → IsMade next.tasks k.0
    later k made = made_later s.tasks next.tasks (names_kept p s i e next step).1 k.0 made

    law : (middle : State) → IsRelisted s middle → Stays middle next
        → IsRegionLaw p middle i next (λ n r. AreNamesMade next r)
    law middle before stay = record {
      arrives = λ k t r is found q. record { encountering = q.encountering; team = q.team };
      releases = λ k t r is found may q. record { encountering = q.encountering; team = q.team };
      ends = λ k t r is found im other q. record { encountering = q.encountering; team = q.team };
      joins = λ k t r is found may q. record { encountering = q.encountering; team = q.team };
      forks = λ region team f k t r is found may new. record {
        encountering = λ n met.
            let (v, xs, live, same) = before.tasks k t is.live in
            subst (λ (a : Tid). IsMade next.tasks a.0) (some_same refl met) (later k (made_live s.tasks k.0 v live));
        team = λ j m at. made_live next.tasks m.0.0 _ (new j m at);
      };
    }

pub names_made : (p : Program) (events : List (ℕ × Event)) (s : State) → Reached p events s
    → EachRegion (λ n r. AreNamesMade s r) s
names_made p events s reached =
    over_events p (λ u. EachRegion (λ n r. AreNamesMade u r) u) (λ u i e next step h. made_step p u i e next step h)
    (opening p) events s reached
    (each_first_region p (λ n r. AreNamesMade (opening p) r) (record {
      encountering = λ k is. absurd (none_some refl is);
      team = λ j m at. first j m at;
    }))
  where
    first : (j : ℕ) (m : Tid × ℕ) → slice_get (opening_region p).team j ≡ Some m → IsMade (opening p).tasks m.0.0
    first zero m at =
        subst (λ (a : Tid × ℕ). IsMade (opening p).tasks a.0.0) (some_same refl at)
        (made_live (opening p).tasks initial_task.0 (opening_task p) refl)
    first (suc j) m at = absurd (none_some refl at)
