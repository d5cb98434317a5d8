use Rattle.std.proofs.Common.{Some, None, sym, ap, ◌∙◌}
use Rattle.omi_rep.specs.Look.{slot_at}
use Rattle.omi_session.specs.Named.{record_kind}
use Rattle.omi_rep.proofs.Slots.{slot_same, thread_slot}
use Rattle.omi_session.proofs.handled.slot_of.Goals as goal

pub returns-in-Region : goal.returns-in-Region
returns-in-Region c =
    sym (slot_same c.args.layout.now.table 3 c.args.addr c.region_of.result c.region_of.ensures)
    ∙ ap (λ kind. slot_at c.args.layout.now.table (record_kind kind) c.args.addr) (sym c.in-Region.is)

pub returns-in-Task : goal.returns-in-Task
returns-in-Task c =
    sym (slot_same c.args.layout.now.table 4 c.args.addr c.task_of.result c.task_of.ensures)
    ∙ ap (λ kind. slot_at c.args.layout.now.table (record_kind kind) c.args.addr) (sym c.in-Task.is)

pub returns-in_err-i-in-Thread : goal.returns-in_err-i-in-Thread
returns-in_err-i-in-Thread c =
    c.from_residual.ensures
    ∙ sym (thread_slot c.args.layout.now.table c.args.addr None c.in_err-i-in-Thread.ensures)
    ∙ ap (λ kind. slot_at c.args.layout.now.table (record_kind kind) c.args.addr) (sym c.in-Thread.is)

pub returns-in_ok-i-in-Thread : goal.returns-in_ok-i-in-Thread
returns-in_ok-i-in-Thread c =
    sym
    (thread_slot c.args.layout.now.table c.args.addr (Some c.in_ok-i-in-Thread.i) c.in_ok-i-in-Thread.ensures)
    ∙ ap (λ kind. slot_at c.args.layout.now.table (record_kind kind) c.args.addr) (sym c.in-Thread.is)
