-- Where the tasks of a run are deferred: in the slots of a row, and nowhere behind them.
use Rattle.std.specs.Prelude.{◌≡◌, ℕ, ◌++◌, List, ◌∷◌}
use Rattle.omi_numbers.specs.declared.limits.TheConstants.{OWN_SLOTS}
use Rattle.omi_word.specs.Memory.{address_of}
use Rattle.omi_script.specs.declared.program.Program.{Program}
use Rattle.omi_model.specs.declared.event.Event.{Event}
use Rattle.omi_model.specs.declared.event.Event.TheVariants as event
use Rattle.omi_model.specs.declared.id.Tid.{Tid}
use Rattle.omi_model.specs.State.{State}
use Rattle.omi_layout.specs.Valid.{IsValid}
use Rattle.omi_rep.specs.declared.outcome.Outcome.TheVariants as outcome
use Rattle.omi_rule.specs.Commits.{of_row_slot}
use Rattle.omi_core.specs.declared.entry.Entry.{Entry}
use Rattle.omi_core.specs.Steps.{Steps, Watches}

-- a step commits a `defer` at the word behind the slots of a record
pub record DefersBehindSlots (w : List ℕ) (e : Entry) : Type 0 where
  pub task : Tid
  pub defers : e.outcome ≡ outcome.Event (event.Defer task)
  pub row : Tid
  pub behind : address_of e.op ≡ of_row_slot w row OWN_SLOTS

-- a list with such a step is no run, whatever stands before and behind it
abbrev pub NoRunDefersBehindSlots : Type 0
NoRunDefersBehindSlots = (p : Program) (w words : List ℕ) (past : List (ℕ × Event)) (s : State)
    (watches : Watches) (before behind : List (ℕ × Entry)) (i : ℕ) (e : Entry) (last : List ℕ)
    (t : State) (later : Watches) → IsValid w
    → Steps p w words past s watches (before ++ (i, e) ∷ behind) last t later
    → DefersBehindSlots w e → ⊥
