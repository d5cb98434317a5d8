use Rattle.std.proofs.Common.{◌≡◌, ◌-◌, ap, sym, subst, ◌∙◌, arith}
use Rattle.std.specs.Prelude.{filter, length}
use Rattle.omi_elf.proofs.SegmentRows.{filter_shorter}
use Rattle.omi_process.specs.Contexts.{has, AreThose, AreContexts}
use Rattle.omi_process.proofs.EachOnce.{contexts_are}
use Rattle.omi_process.proofs.contexts.contexts_among.Goals as goal

pub overflow_sub-others : goal.overflow_sub-others
overflow_sub-others c =
    let once = c.in_ok-once-in-Threads.once in
    let kept : c.in_ok-contexts-in-Threads.contexts.items ≡ filter (has c.args.recorded.now) once.items =
    c.in_ok-contexts-in-Threads.ensures ∙ ap (filter (has c.args.recorded.now)) c.deref.ensures.value in
    omega (arith, c.len.ensures, c.len-in-Threads.ensures, ap length kept, filter_shorter (has c.args.recorded.now) once.items)

pub returns-in_ok-contexts-in-Threads : goal.returns-in_ok-contexts-in-Threads
returns-in_ok-contexts-in-Threads c =
    let once = c.in_ok-once-in-Threads.once in
    let kept : c.in_ok-contexts-in-Threads.contexts.items ≡ filter (has c.args.recorded.now) once.items =
    c.in_ok-contexts-in-Threads.ensures ∙ ap (filter (has c.args.recorded.now)) c.deref.ensures.value in
    let are = subst (λ ids. AreThose (has ids) once.items) c.as_slice.ensures c.in_ok-once-in-Threads.ensures in
    let count : c.len.result - c.len-in-Threads.result ≡ length once.items - length c.from_vec.result =
    omega (arith, c.len.ensures, c.len-in-Threads.ensures, ap length c.from_vec.ensures) in
    subst (λ listed. AreContexts listed c.args.recorded.now c.from_vec.result (c.len.result - c.len-in-Threads.result)) (sym c.in-Threads.is)
    (contexts_are _ once.items c.from_vec.result c.args.recorded.now _ are (c.from_vec.ensures ∙ kept)
    count)
