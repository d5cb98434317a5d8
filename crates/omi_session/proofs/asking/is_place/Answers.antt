use Rattle.std.proofs.Common.{sym, ap, ◌∙◌, arith}
use Rattle.std.specs.Prelude.{is_some}
use Rattle.omi_rep.specs.Look.{slot_at}
use Rattle.omi_session.specs.Named.{record_kind}
use Rattle.omi_rep.proofs.Slots.{slot_same, place_low, thread_same}
use Rattle.omi_session.proofs.asking.is_place.Goals as goal

pub returns-in-Thread-clause-value : goal.returns-in-Thread-clause-value
returns-in-Thread-clause-value c =
    c.is_some.ensures
    ∙ sym (thread_same c.args.layout.now.table c.args.addr c.thread_of.result c.thread_of.ensures)
    ∙ ap (λ kind. is_some (slot_at c.args.layout.now.table (record_kind kind) c.args.addr))
    (sym c.in-Thread.is)

pub returns-in-Thread-clause-low : goal.returns-in-Thread-clause-low
returns-in-Thread-clause-low c = λ is.
    place_low c.args.layout.now.table 2 c.args.addr c.args.layout.now.valid
    (record { from = omega arith; to = omega arith })
    (thread_same c.args.layout.now.table c.args.addr c.thread_of.result c.thread_of.ensures ∙ sym c.is_some.ensures ∙ is)

pub returns-in-Region-clause-value : goal.returns-in-Region-clause-value
returns-in-Region-clause-value c =
    c.is_some-in-Region.ensures
    ∙ sym
    (ap is_some (slot_same c.args.layout.now.table 3 c.args.addr c.region_of.result c.region_of.ensures))
    ∙ ap (λ kind. is_some (slot_at c.args.layout.now.table (record_kind kind) c.args.addr))
    (sym c.in-Region.is)

pub returns-in-Region-clause-low : goal.returns-in-Region-clause-low
returns-in-Region-clause-low c = λ is.
    place_low c.args.layout.now.table 3 c.args.addr c.args.layout.now.valid
    (record { from = omega arith; to = omega arith })
    (ap is_some (slot_same c.args.layout.now.table 3 c.args.addr c.region_of.result c.region_of.ensures) ∙ sym c.is_some-in-Region.ensures ∙ is)

pub returns-in-Task-clause-value : goal.returns-in-Task-clause-value
returns-in-Task-clause-value c =
    c.is_some-in-Task.ensures
    ∙ sym (ap is_some (slot_same c.args.layout.now.table 4 c.args.addr c.task_of.result c.task_of.ensures))
    ∙ ap (λ kind. is_some (slot_at c.args.layout.now.table (record_kind kind) c.args.addr)) (sym c.in-Task.is)

pub returns-in-Task-clause-low : goal.returns-in-Task-clause-low
returns-in-Task-clause-low c = λ is.
    place_low c.args.layout.now.table 4 c.args.addr c.args.layout.now.valid
    (record { from = omega arith; to = omega arith })
    (ap is_some (slot_same c.args.layout.now.table 4 c.args.addr c.task_of.result c.task_of.ensures) ∙ sym c.is_some-in-Task.ensures ∙ is)
