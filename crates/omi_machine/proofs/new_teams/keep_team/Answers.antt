use Rattle.std.proofs.Common.{◌∙◌}
use Rattle.omi_machine.proofs.TeamsMade.{kept_so_far}
use Rattle.omi_machine.proofs.new_teams.keep_team.Goals as goal

pub loop-at-preserved : goal.loop-at-preserved
loop-at-preserved c = record {
  same = c.in_ok-keep_slot.ensures.same ∙ c.loop-at.invariant.same;
  kept = kept_so_far c.loop-at.slots c.keep_slot.new.slots c.args.team.now c.loop-at.at c.get.result c.get.ensures c.in_ok-keep_slot.ensures.keeps c.in_ok-keep_slot.ensures.done c.loop-at.invariant.kept;
}

pub returns-in_err-keep_slot-clause-same : goal.returns-in_err-keep_slot-clause-same
returns-in_err-keep_slot-clause-same c = c.in_err-keep_slot.ensures.same ∙ c.loop-at.invariant.same
