use Rattle.std.proofs.Common.{refl}
use Rattle.omi_machine.proofs.TakenItems.{moved_here, next_here, none_here}
use Rattle.omi_machine.proofs.moved_list.moved_list.Goals as goal

pub returns-then-is_events_item : goal.returns-then-is_events_item
returns-then-is_events_item c =
    moved_here c.args.p.now c.args.at c.args.e.now c.args.list.now c.loop-k.k _ _ c.get-x.ensures c.head_item-head.ensures c.loop-k.invariant _ c.is_events_item.ensures
    _ _ c.push_staying.new.list c.if-is_events_item.true c.in_ok-rest.ensures c.in_ok-push_opened.ensures c.in_ok-push_staying.ensures _ refl refl

pub returns-then-not-may_pass_over : goal.returns-then-not-may_pass_over
returns-then-not-may_pass_over c =
    none_here c.args.p.now c.args.at c.args.e.now c.args.list.now c.loop-k.k _ _ c.get-x.ensures c.head_item-head.ensures c.loop-k.invariant _ c.is_events_item.ensures
    _ c.if-is_events_item.false c.may_pass_over.ensures c.if-not-may_pass_over.true

pub loop-k-preserved : goal.loop-k-preserved
loop-k-preserved c =
    next_here c.args.p.now c.args.at c.args.e.now c.args.list.now c.loop-k.k _ _ c.get-x.ensures c.head_item-head.ensures c.loop-k.invariant _ c.is_events_item.ensures
    _ c.if-is_events_item.false c.may_pass_over.ensures c.if-not-may_pass_over.false
