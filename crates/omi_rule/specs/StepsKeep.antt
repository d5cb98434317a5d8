-- The step keeps the rule: whatever thread makes it, in every valid layout, and whatever the others do.
use Rattle.std.specs.Prelude.{◌<◌, ◌+◌, ℕ, List, length}
use Rattle.omi_model.specs.declared.limits.TheConstants.{MOST_EVENTS}
use Rattle.omi_script.specs.declared.program.Program.{Program}
use Rattle.omi_model.specs.declared.event.Event.{Event}
use Rattle.omi_model.specs.State.{State}
use Rattle.omi_layout.specs.Memory.{Memory}
use Rattle.omi_layout.specs.Valid.{IsValid}
use Rattle.omi_pc.specs.declared.actor.Actor.{Actor}
use Rattle.omi_rep.specs.Suits.{Suits}
use Rattle.omi_actor.specs.Steps.{next_of, resumed_at}
use Rattle.omi_rule.specs.Rule.{Rule}
use Rattle.omi_rule.specs.Steps.{StepKeeps}

-- For fewer than `MOST_EVENTS` events, which every list in memory meets, no count wraps
abbrev pub StepsKeepRule : Type 0
StepsKeepRule = (p : Program) (w : List ℕ) (m : Memory) (events : List (ℕ × Event)) (s : State)
    (actors : ℕ → Actor) (i : ℕ) → IsValid w → Suits p w → Rule p w m events s actors
    → i < s.count → length events + 1 < MOST_EVENTS
    → StepKeeps p w m events s actors i (next_of p w (actors i))
    (λ old. resumed_at p w (actors i) (actors i).counter old)
