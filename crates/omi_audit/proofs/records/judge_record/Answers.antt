use Rattle.std.proofs.Common.{refl}
use Rattle.omi_audit.proofs.JudgedRecords.{record_fine}
use Rattle.std.proofs.Common.{sym, subst}
use Rattle.omi_audit.specs.Search.{record_places}
use Rattle.omi_audit.specs.declared.stop.Stop.TheVariants.{Fault}
use Rattle.omi_audit.specs.declared.verdict.AuditFault.TheVariants.{OutOfMemory}
use Rattle.omi_audit.specs.InOrder.{AsksOnly, ended}
use Rattle.omi_audit.specs.Listed.{asked_among}
use Rattle.omi_audit.proofs.Asking.{asks_all, asks_out, ended_by}
use Rattle.omi_audit.proofs.records.judge_record.Goals as goal

pub returns-clause-judged : goal.returns-clause-judged
returns-clause-judged g c = λ memory tells known.
    record_fine c.args.s.now.layout memory c.args.addr c.args.search.now c.judge_either.new.search _ c.in_ok-next.next
    (c.in_ok-next.ensures.judged memory tells known) refl c.in_ok-push.ensures.items refl

pub returns-in_err-next-clause-asks : goal.returns-in_err-next-clause-asks
returns-in_err-next-clause-asks g c = λ memory tells known.
    subst
    (AsksOnly (g.C.Callbacks.told c.args.s.now.table.calls) memory
    (asked_among c.args.s.now.layout memory 0 c.args.search.now.met.keys (record_places c.args.s.now.layout memory c.args.addr))
    (g.C.Callbacks.asked c.args.s.now.table.calls) (g.C.Callbacks.asked c.judge_either.new.s.table.calls))
    (sym (ended_by c.from_residual.result c.in_err-next.field-0.0 c.from_residual.ensures.1)) (c.in_err-next.ensures.asks memory tells known)

pub returns-in_err-push-clause-asks : goal.returns-in_err-push-clause-asks
returns-in_err-push-clause-asks g c = λ memory tells known.
    let told = g.C.Callbacks.told c.args.s.now.table.calls in
    let list = asked_among c.args.s.now.layout memory 0 c.args.search.now.met.keys (record_places c.args.s.now.layout memory c.args.addr) in
    let first = g.C.Callbacks.asked c.args.s.now.table.calls in
    let last = g.C.Callbacks.asked c.judge_either.new.s.table.calls in
    asks_out told memory list first last (ended c.from_residual-in_err-push.result)
    (ended_by c.from_residual-in_err-push.result (Fault OutOfMemory) c.from_residual-in_err-push.ensures.1)
    (asks_all told memory list first last (c.in_ok-next.ensures.asks memory tells known))
