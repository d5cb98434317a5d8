-- How many steps find room in a list of events, whatever teams they fork.
use Rattle.std.specs.Prelude.{◌≡◌, ℕ, ◌+◌, ◌-◌, length, min, true}
use Rattle.omi_model.specs.declared.event.Event.{Event}
use Rattle.omi_model.specs.declared.event.Event.TheVariants as event
use Rattle.omi_run_lists.specs.Events.{Events, team_in}

-- A claim is an ask that was got and whose fork has not come. A fork uses one for each member of its team but the first.
abbrev pub claims_after : ℕ → Event → ℕ
claims_after claims (event.Ask w true) = claims + 1
claims_after claims (event.Fork region team) = claims - (length team - 1)
claims_after claims _ = claims

-- A step commits one event at most, and needs one seat at most beyond those that are kept for the claims.
abbrev pub room_for_steps : Events → ℕ → ℕ
room_for_steps events claims = min events.spare (events.seats - claims)

-- an event is added in room that is there
pub record IsAdded (old : Events) (e : Event) (new : Events) : Type 0 where
  pub spare : new.spare + 1 ≡ old.spare
  pub seats : new.seats + length (team_in e) ≡ old.seats
