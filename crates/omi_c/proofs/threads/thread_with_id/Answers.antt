use Rattle.std.proofs.Common.{◌∙◌}
use Rattle.omi_ask.specs.Threads as threads
use Rattle.omi_c.proofs.Asked.{asked_reads, refused_in}
use Rattle.omi_c.proofs.threads.thread_with_id.Goals as goal

pub returns-in_err-s : goal.returns-in_err-s
returns-in_err-s g c =
    refused_in c.args.table.now c.args.known.now (λ w. threads.thread_with w c.args.kind c.args.native)
    c.from_residual.result _ c.from_residual.ensures.1 c.in_err-s.ensures.refused

pub returns : goal.returns
returns g c =
    c.replied.ensures
    ∙ asked_reads c.args.table.now c.args.known.now c.in_ok-s.s _ c.in_ok-s.ensures.opened
    (λ w. threads.thread_with w c.args.kind c.args.native) c.thread_with-thread.result c.thread_with-thread.ensures.answer
