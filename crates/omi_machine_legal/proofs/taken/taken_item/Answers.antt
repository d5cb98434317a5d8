use Rattle.omi_machine.proofs.TakenItems.{head_taken, none_taken, next_place}
use Rattle.omi_machine_legal.proofs.taken.taken_item.Goals as goal

pub returns-then-is_events_item : goal.returns-then-is_events_item
returns-then-is_events_item c =
    head_taken c.args.at c.args.e.now c.args.list.now c.loop-k.k _ _ c.get-x.ensures c.head_item-head.ensures c.loop-k.invariant _ c.is_events_item.ensures c.if-is_events_item.true

pub returns-then-not-may_pass_over : goal.returns-then-not-may_pass_over
returns-then-not-may_pass_over c =
    none_taken c.args.at c.args.e.now c.args.list.now c.loop-k.k _ _ c.get-x.ensures c.head_item-head.ensures c.loop-k.invariant _ _ c.is_events_item.ensures c.if-is_events_item.false c.may_pass_over.ensures c.if-not-may_pass_over.true

pub loop-k-preserved : goal.loop-k-preserved
loop-k-preserved c =
    next_place c.args.at c.args.e.now c.args.list.now c.loop-k.k _ _ c.get-x.ensures c.head_item-head.ensures c.loop-k.invariant _ _ c.is_events_item.ensures c.if-is_events_item.false c.may_pass_over.ensures c.if-not-may_pass_over.false
