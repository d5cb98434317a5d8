-- A step needs one seat at most beyond those of the claims.
use Rattle.std.proofs.Common.{◌≡◌, ℕ, ◌+◌, ◌-◌, ◌≤◌, length, arith}
use Rattle.std.specs.Prelude.{true, false}
use Rattle.omi_model.specs.declared.event.Event.{Event}
use Rattle.omi_model.specs.declared.event.Event.TheVariants as event
use Rattle.omi_run_lists.specs.Events.{Events, team_in}
use Rattle.omi_run_lists.specs.StepRoom.{IsAdded, claims_after, room_for_steps}

-- the seats that are left beyond those of the claims fall by one at most
pub free_seats : (old new claims : ℕ) (e : Event) → length (team_in e) ≤ claims + 1
    → new + length (team_in e) ≡ old
    → old - claims ≤ (new - claims_after claims e) + 1
free_seats old new claims (event.Ask w true) fits added = omega arith
free_seats old new claims (event.Ask w false) fits added = omega arith
free_seats old new claims (event.Fork region team) fits added = omega arith
free_seats old new claims _ fits added = omega arith

pub one_less : (old new : Events) (claims : ℕ) (e : Event) → length (team_in e) ≤ claims + 1
    → IsAdded old e new
    → room_for_steps old claims ≤ room_for_steps new (claims_after claims e) + 1
one_less old new claims e fits added =
    omega (arith, free_seats old.seats new.seats claims e fits added.seats, added.spare)
