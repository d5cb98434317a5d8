-- Where a run ends: at `done`, at the event of a kind that has a number among those of the run, or else after so many steps.
use Rattle.std.specs.Prelude.{◌≡◌, ◌≢◌, ◌<◌, ◌==◌, ℕ, ◌+◌, ◌&&◌, ◌++◌, Bool, true, false, List, [], ◌∷◌, count_by, Option, Some, None, IfSome, MatchOption, if◌then◌else◌}
use Rattle.std.specs.List.{AllByRecursion}
use Rattle.omi_model.specs.declared.event.Event.{Event}
use Rattle.omi_model.specs.declared.event.Event.TheVariants as event
use Rattle.omi_rep.specs.declared.outcome.Outcome.{Outcome}
use Rattle.omi_rep.specs.declared.outcome.Outcome.TheVariants as outcome
use Rattle.omi_core.specs.declared.stop.Break.{Break}
use Rattle.omi_core.specs.declared.stop.Break.TheVariants as kind
use Rattle.omi_core.specs.declared.stop.End.{End}
use Rattle.omi_core.specs.declared.stop.End.TheVariants as end
use Rattle.omi_core.specs.declared.stop.Stop.{Stop}

-- ---- events

-- the events of a kind
abbrev pub is_of_kind : Break → Event → Bool
is_of_kind kind.ParallelBegin (event.Fork region team) = true
is_of_kind kind.ParallelEnd (event.Join region) = true
is_of_kind kind.TaskBegin (event.Start task) = true
is_of_kind kind.TaskBegin (event.StartNow task) = true
is_of_kind kind.TaskEnd (event.Finish task) = true
is_of_kind kind.ThreadBegin event.Begin = true
is_of_kind k e = false

-- how many of these events, each with the number of its step and its thread, are of a kind
abbrev pub count_of : Break → List (ℕ × ℕ × Event) → ℕ
count_of k es = count_by (λ x. is_of_kind k x.2) es

-- ---- ends

-- A run goes on behind these events: none of them is `done`, and of the kind at which it stops there are too few
pub record GoesOn (stop : Stop) (es : List (ℕ × ℕ × Event)) : Type 0 where
  pub not_done : AllByRecursion (λ (x : ℕ × ℕ × Event). x.2 ≢ event.Done) es
  pub too_few : IfSome stop.on (λ on. count_of on.0 es < on.1)

-- The step with this number committed the last of these events, and the run went on behind those before it
pub record EndsAt (stop : Stop) (step : ℕ) (es : List (ℕ × ℕ × Event)) : Type 0 where
  pub before : List (ℕ × ℕ × Event)
  pub goes_on : GoesOn stop before
  pub thread : ℕ
  pub last : Event
  pub are : es ≡ before ++ (step, thread, last) ∷ []

-- A run of so many steps, the last of which has a number among all of its core, committed these events and ends so
abbrev pub IsEnded : Stop → ℕ → ℕ → List (ℕ × ℕ × Event) → End → Type 0
IsEnded stop steps step es end.Steps = GoesOn stop es × (steps ≡ stop.steps)
IsEnded stop steps step es end.Break = (at : EndsAt stop step es)
    × MatchOption stop.on ⊥ (λ on. (is_of_kind on.0 at.last ≡ true) × (count_of on.0 es ≡ on.1))
IsEnded stop steps step es end.Done = (at : EndsAt stop step es) × (at.last ≡ event.Done)

-- ---- step by step

abbrev pub is_done : Event → Bool
is_done event.Done = true
is_done e = false

-- an event of the kind at which a run stops ends it where it has the number, so many having come before
abbrev pub end_of_kind : Option (Break × ℕ) → ℕ → Event → Option End
end_of_kind None met e = None
end_of_kind (Some on) met e =
    if is_of_kind on.0 e && (met + 1 == on.1) then Some end.Break else None

-- why a run ends at an event, and at what came of a step
abbrev pub end_by : Option (Break × ℕ) → ℕ → Event → Option End
end_by on met e = if is_done e then Some end.Done else end_of_kind on met e

abbrev pub end_at : Option (Break × ℕ) → ℕ → Outcome → Option End
end_at on met (outcome.Event e) = end_by on met e
end_at on met o = None

-- how many of the kind there are behind it
abbrev pub met_by : Option (Break × ℕ) → ℕ → Event → ℕ
met_by None met e = met
met_by (Some on) met e = if is_of_kind on.0 e then met + 1 else met

abbrev pub met_at : Option (Break × ℕ) → ℕ → Outcome → ℕ
met_at on met (outcome.Event e) = met_by on met e
met_at on met o = met

-- and these are fewer than the number
abbrev pub IsBelow : Option (Break × ℕ) → ℕ → Type 0
IsBelow None met = Unit {0}
IsBelow (Some on) met = met < on.1
