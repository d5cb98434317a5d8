use Rattle.std.proofs.Common.{◌<◌, ◌∙◌, sym, length, arith}
use Rattle.omi_audit.proofs.LivesThere.{thread_none, thread_some, begun_at}
use Rattle.omi_audit.proofs.search.Search.is_begun.Goals as goal

pub returns-in-Some : goal.returns-in-Some
returns-in-Some c = λ memory known.
    let there = c.in-Some.ensures in
    let few = there.is.0 in
    let all = c.requires in
    let within : c.in-Some.thread < length c.args.self.now.begun.items = omega (arith, few, all) in
    c.index.ensures
    ∙ begun_at c.args.layout.now.table memory c.args.self.now c.in-Some.thread c.index.result.now known within
    ∙ sym (thread_some c.args.layout.now.table memory c.args.addr c.in-Some.thread there)

pub returns-in-None : goal.returns-in-None
returns-in-None c = λ memory known. sym (thread_none c.args.layout.now.table memory c.args.addr c.in-None.ensures)
