-- A copy of a run keeps what a run keeps.
use Rattle.std.proofs.Common.{◌≡◌, ℕ, List, sym, subst}
use Rattle.omi_script.specs.declared.program.Program.{Program}
use Rattle.omi_pc.specs.declared.actor.Actor.{Actor}
use Rattle.omi_run_lists.specs.Events.{Events}
use Rattle.omi_run_lists.specs.Steps.{Steps}
use Rattle.omi_core.specs.Kept.{KeepsRun}
use Rattle.omi_core.specs.Runs.{Run}
use Rattle.omi_core.proofs.Stepping.{other_room}

-- a run of these parts
abbrev run_of : Program → List ℕ → List ℕ → List Actor → Events → Steps → Run
run_of p w words actors events made = record {
  program = p;
  table = w;
  words = words;
  actors = actors;
  events = events;
  made = made;
}

pub copied_run : (a : Run) → KeepsRun a → (p : Program) (w words : List ℕ) (actors : List Actor) (events : Events) (made : Steps)
    → p ≡ a.program → w ≡ a.table → words ≡ a.words → actors ≡ a.actors → events.items ≡ a.events.items → made.items ≡ a.made.items → KeepsRun (run_of p w words actors events made)
copied_run a k p w words actors events made program table same each listed steps =
    subst (λ (q : Program). KeepsRun (run_of q w words actors events made)) (sym program)
    (subst (λ v. KeepsRun (run_of a.program v words actors events made)) (sym table)
    (subst (λ v. KeepsRun (run_of a.program a.table v actors events made)) (sym same)
    (subst (λ (v : List Actor). KeepsRun (run_of a.program a.table a.words v events made)) (sym each)
    (other_room a k events made listed steps))))
