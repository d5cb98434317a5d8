-- A request of the program as a command.
use Rattle.std.specs.Prelude.{◌≤◌}
use Rattle.omi_commands.specs.declared.limits.TheConstants.{MOST_LAYOUT}
use Rattle.omi_seat.specs.declared.limits.TheConstants.{MOST_BUDGET}
use Rattle.omi_live.specs.Command.{LiveCommand}
use Rattle.omi_live.specs.declared.command.LivePlan.{LivePlan}
use Rattle.omi_live.specs.declared.command.Request.{Request}

abbrev pub asked : Request → LiveCommand
asked request = record {
  plan = request.plan;
  script = request.script.now;
  core = request.core.now;
}

-- the layout is one of the families, and the budget is not too large
pub record IsPossible (plan : LivePlan) : Type 0 where
  pub layout : plan.layout ≤ MOST_LAYOUT
  pub budget : plan.budget ≤ MOST_BUDGET
