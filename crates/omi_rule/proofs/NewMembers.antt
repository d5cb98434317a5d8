-- Tasks that wait for their threads stay what they are until they begin, and a fork makes them of a function of the program.
use Rattle.std.proofs.Common.{◌≡◌, ◌<◌, ◌==◌, ℕ, Bool, true, false, List, length, Some, refl, sym, ap, if◌then◌else◌}
use Rattle.omi_script.specs.declared.program.Program.{Program}
use Rattle.omi_model.specs.declared.event.Event.{Event}
use Rattle.omi_model.specs.declared.id.Rid.{Rid}
use Rattle.omi_model.specs.declared.id.Tid.{Tid}
use Rattle.omi_model.specs.declared.item.Item.{Item}
use Rattle.omi_model.specs.declared.item.Item.TheVariants as item
use Rattle.omi_model.specs.declared.progress.Progress.TheVariants.{Begun, NotBegun}
use Rattle.omi_model.specs.declared.region.Region.{Region}
use Rattle.omi_model.specs.declared.task.Task.{Task}
use Rattle.omi_model.specs.Changes.{ahead_of, encounter}
use Rattle.omi_model.specs.Lists.{take_item}
use Rattle.omi_model.specs.Reached.{Step}
use Rattle.omi_model.specs.State.{State}
use Rattle.omi_numbers.specs.Addresses.{exit_frame, exit_below}
use Rattle.omi_model.specs.Teams.{member_task}
use Rattle.omi_model.proofs.EachObject.{IsTaskLaw, task_step_from}
use Rattle.omi_model.proofs.Steps.{move_of, moved_on}
use Rattle.omi_rule.specs.Rule.{AreNewMembers, IsNewMember}

abbrev IsNew : Program → Tid → Task → Type 0
IsNew p k t = t.progress ≡ NotBegun → IsNewMember p t

module _ (p : Program) (z : State) (i : ℕ) (e : Event) (y : Item) (next : State)
    (known : (f : ℕ) → y ≡ item.Fork f → f < length p.funcs) where
  -- a member but member 0
  new_member : (region : Rid) (k : Tid) (t : Task) (r : Region) (f j thread : ℕ) → f < length p.funcs
      → IsNew p k (member_task p region k t r f j thread)
  new_member region k t r f j thread within waits = record {
    function = within;
    exit = go (j == 0) refl;
    final = refl;
  }
    where
      go : (b : Bool) → j == 0 ≡ b → (member_task p region k t r f j thread).exit ≡ exit_frame thread 1
      go false e = ap (λ (b : Bool). if b then exit_below t.exit else exit_frame thread 1) e
      go true e = absurd (cc (ap (λ (b : Bool). if b then Begun else NotBegun) (sym e), waits))

  task_law : IsTaskLaw p z i e y next (IsNew p)
  task_law = record {
    frees = λ k t free how is waits. let o = is waits in record { function = o.function; exit = o.exit; final = o.final };
    shows = λ k t enter is waits. let o = is waits in record { function = o.function; exit = o.exit; final = o.final };
    tools = λ k t x is waits. let o = is waits in record { function = o.function; exit = o.exit; final = o.final };
    groups = λ k t n current how is waits. let o = is waits in record { function = o.function; exit = o.exit; final = o.final };
    sets = λ k t icv value v with_v here is waits. let o = is waits in record { function = o.function; exit = o.exit; final = o.final };
    begins = λ k t waits mine here is begun. absurd (cc begun);
    finishes = λ k t current end is over. absurd (cc over);
    starts = λ k u j t x current live explicit deferred may same here is begun. absurd (cc begun);
    members = λ region team f k t r current found may made same here j m at. new_member region k t r f j m.1 (known f same);
    deferred = λ task f final seen k t current same fresh waits. absurd (cc waits);
    made = λ task f final k t current same fresh here begun. absurd (cc begun);
  }

-- where no team is forked
pub waiting_step : (p : Program) (s : State) (i : ℕ) (e : Event) (next : State) → Step p s i e next
    → ((y : Item × List Item) → take_item p (encounter s i) e (ahead_of s i) ≡ Some y → (f : ℕ) → y.0 ≡ item.Fork f → f < length p.funcs)
    → AreNewMembers p s → AreNewMembers p next
waiting_step p s i e next step known all =
    let m = move_of p s i e next step in
    task_step_from p (IsNew p) (IsNew p) s i e next m
    (λ k t current taken is waits. let o = is waits in record { function = o.function; exit = o.exit; final = o.final })
    (λ k t other live is. is)
    (λ middle. task_law p (moved_on s i e m.item m.behind) i e m.item next (known (m.item, m.behind) m.taken))
    all
