use Rattle.std.proofs.Common.{Ok, Err, ap, ◌∙◌, sym}
use Rattle.omi_rep.specs.Records.{thread_address}
use Rattle.omi_session.proofs.Asked.{answers_is}
use Rattle.omi_walk.specs.Gives.{Looks}
use Rattle.omi_ps.proofs.ThreadWords.{only_callback, word_gives}
use Rattle.omi_ps.proofs.recorded.thread_word.Goals as goal

pub returns-in-Ok-clause-look : goal.returns-in-Ok-clause-look
unfolding Looks
returns-in-Ok-clause-look g c = λ memory tells.
    word_gives c.args.s.now.layout memory c.args.i c.args.field c.thread_at-addr.result (Ok c.in-Ok.found) (c.thread_at-addr.ensures.address ∙ ap (λ w. thread_address w c.args.i) c.layout.ensures)
    (answers_is c.in-Ok.ensures.answer memory tells)

pub returns-in-Err-clause-look : goal.returns-in-Err-clause-look
unfolding Looks
returns-in-Err-clause-look g c = λ memory tells.
    rw c.word_fault.ensures
    (word_gives c.args.s.now.layout memory c.args.i c.args.field c.thread_at-addr.result (Err c.in-Err.rc) (c.thread_at-addr.ensures.address ∙ ap (λ w. thread_address w c.args.i) c.layout.ensures)
    (answers_is c.in-Err.ensures.answer memory tells))

pub returns-in-Err-clause-cause : goal.returns-in-Err-clause-cause
returns-in-Err-clause-cause g c = record {
  later = c.in-Err.ensures.cause.later;
  failed = λ is. c.in-Err.ensures.cause.failed (ap Err (only_callback c.in-Err.rc (sym c.word_fault.ensures ∙ (cc is))));
}
