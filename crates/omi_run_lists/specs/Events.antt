-- What contracts see of a list of events: the events in order, and the room that is left.
use Rattle.std.specs.Prelude.{ℕ, List, []}
use Rattle.omi_model.specs.declared.id.Tid.{Tid}
use Rattle.omi_model.specs.declared.event.Event.{Event}
use Rattle.omi_model.specs.declared.event.Event.TheVariants as event

pub record Events : Type 0 where
  -- each event with its step and its thread
  pub items : List (ℕ × ℕ × Event)
  -- so many more events take no memory, where their teams have seats
  pub spare : ℕ
  -- so many more members of teams take no memory
  pub seats : ℕ

-- the team that an event holds: a fork's, and none else
abbrev pub team_in : Event → List (Tid × ℕ)
team_in (event.Fork region team) = team
team_in _ = []
