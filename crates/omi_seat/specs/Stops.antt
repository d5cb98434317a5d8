-- The steps at which the threads of a run are to stop, and why a thread made no further one.
use Rattle.std.specs.Prelude.{◌≡◌, ◌<◌, ◌||◌, ℕ, Bool, true, false, List, [], ◌∷◌, length, Option, Some}
use Rattle.omi_rep.specs.declared.outcome.Outcome.{Outcome}
use Rattle.omi_rep.specs.declared.outcome.Outcome.TheVariants as outcome
use Rattle.omi_core.specs.declared.entry.Entry.{Entry}
use Rattle.omi_core.specs.declared.stop.Break.{Break}
use Rattle.omi_core.specs.declared.thread_run.Until.{Until}
use Rattle.omi_core.specs.declared.thread_run.Until.TheVariants as until
use Rattle.omi_core.specs.Ends.{is_done, is_of_kind}

-- a step that commits an event of the kind at which the run is to stop
abbrev pub stops_at : Option Break → Outcome → Bool
stops_at (Some kind) (outcome.Event e) = is_of_kind kind e
stops_at on o = false

-- a step that commits `done`
abbrev pub ends_at : Outcome → Bool
ends_at (outcome.Event e) = is_done e
ends_at o = false

-- some of these steps commits such an event
abbrev pub some_stop : Option Break → List Entry → Bool
some_stop on [] = false
some_stop on (e ∷ es) = stops_at on e.outcome || some_stop on es

-- a thread goes on behind these steps: none commits `done` or an event at which the run is to stop
abbrev pub GoesOn : Option Break → List Entry → Type 0
GoesOn on [] = Unit {0}
GoesOn on (e ∷ es) =
    (ends_at e.outcome ≡ false) × (stops_at on e.outcome ≡ false) × GoesOn on es

-- it went on behind each of these steps but the last
abbrev pub WentOn : Option Break → List Entry → Type 0
WentOn on [] = Unit {0}
WentOn on (e ∷ []) = Unit {0}
WentOn on (e ∷ f ∷ es) =
    (ends_at e.outcome ≡ false) × (stops_at on e.outcome ≡ false) × WentOn on (f ∷ es)

-- the last of these steps commits `done`
abbrev pub is_ended : List Entry → Bool
is_ended [] = false
is_ended (e ∷ []) = ends_at e.outcome
is_ended (e ∷ f ∷ es) = is_ended (f ∷ es)

-- Why a thread with this budget made no further step than these: Ended exactly where the last one commits `done`, else Budget exactly
-- where there are as many as the budget, else Stopped
abbrev pub IsUntil : ℕ → List Entry → Until → Type 0
IsUntil budget es until.Ended = is_ended es ≡ true
IsUntil budget es until.Budget = (is_ended es ≡ false) × (length es ≡ budget)
IsUntil budget es until.Stopped = (is_ended es ≡ false) × (length es < budget)
