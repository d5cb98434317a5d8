use Rattle.std.proofs.Common.{rules}
use Rattle.omi_rewind.proofs.Stays.{later_self, later_two}
use Rattle.omi_rewind_top.proofs.Printed.{looked_more}
use Rattle.omi_rewind_top.proofs.Turned.{turn_later}
use Rattle.omi_rewind_top.proofs.at.text_of_steps.Goals as goal

pub loop-step-init : goal.loop-step-init
loop-step-init c = record { later = later_self c.args.rewind.now; so_far = c.new-text.ensures.items }

pub push_step-requires-clause-turns : goal.push_step-requires-clause-turns
push_step-requires-clause-turns c =
    turn_later c.args.rewind.now c.loop-step.rewind c.args.contexts.now c.requires.turns c.loop-step.invariant.later

pub returns-in_err-push_step-clause-later : goal.returns-in_err-push_step-clause-later
returns-in_err-push_step-clause-later c =
    later_two c.args.rewind.now c.loop-step.rewind c.push_step.new.rewind c.loop-step.invariant.later c.in_err-push_step.ensures.later

pub loop-step-preserved : goal.loop-step-preserved
loop-step-preserved c = record {
  later = later_two c.args.rewind.now c.loop-step.rewind c.push_step.new.rewind c.loop-step.invariant.later c.in_ok-push_step.ensures.later;
  so_far =
      looked_more c.loop-step.rewind c.push_step.new.rewind c.in_ok-push_step.ensures.later c.args.steps.now c.loop-step.step-index _
      c.loop-step.text.items c.push_step.new.text.items (search rules) c.loop-step.invariant.so_far c.in_ok-push_step.ensures.shown;
}
