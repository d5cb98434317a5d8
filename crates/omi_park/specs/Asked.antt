-- A request of the program as a command.
use Rattle.std.specs.Prelude.{◌≤◌}
use Rattle.omi_seat.specs.declared.limits.TheConstants.{MOST_BUDGET}
use Rattle.omi_park.specs.Command.{ParkCommand}
use Rattle.omi_park.specs.declared.command.ParkPlan.{ParkPlan}
use Rattle.omi_park.specs.declared.command.Request.{Request}
use Rattle.omi_park.specs.declared.limits.TheConstants.{MOST_STOPS}

abbrev pub asked : Request → ParkCommand
asked request = record { plan = request.plan; script = request.script.now }

-- neither the budget nor the number of stops is too large
pub record IsPossible (plan : ParkPlan) : Type 0 where
  pub budget : plan.budget ≤ MOST_BUDGET
  pub stops : plan.stops ≤ MOST_STOPS
