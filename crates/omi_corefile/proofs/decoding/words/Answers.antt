use Rattle.std.proofs.Common.{◌∷◌, [], ℕ, arith, length-append}
use Rattle.std.proofs.lemmas.Result.{err_from_is_err_and}
use Rattle.omi_corefile.specs.Refusals.{word_at, words_at}
use Rattle.omi_corefile.proofs.Rows.{goes_on, row_fails, row_ends}
use Rattle.omi_corefile.proofs.decoding.words.Goals as goal

pub returns-in_err-word-clause-read : goal.returns-in_err-word-clause-read
returns-in_err-word-clause-read c =
    let p = err_from_is_err_and c.from_residual.result c.from_residual.ensures.1 in
    rw (p.1, p.2)
    (row_fails c.in_err-word.field-0.0 (λ (s : ℕ). word_at c.args.order c.args.len) (λ (s word : ℕ). s) c.loop.words c.args.count c.loop.counter 0 c.loop.rest.now (words_at c.args.len c.args.order c.args.count c.args.bytes.now) c.loop-test.true c.in_err-word.ensures c.loop.invariant.read)

pub loop-preserved : goal.loop-preserved
loop-preserved c =
    record {
      read = rw c.in_ok-push.ensures.added (goes_on (λ (s : ℕ). word_at c.args.order c.args.len) (λ (s word : ℕ). s) c.loop.words c.args.count c.loop.counter 0 c.loop.rest.now c.in_ok-word.word c.in_ok-word.after.now (words_at c.args.len c.args.order c.args.count c.args.bytes.now) c.loop-test.true c.in_ok-word.ensures c.loop.invariant.read);
      so_many = rw c.in_ok-push.ensures.added (omega (arith, length-append c.loop.words (c.in_ok-word.word ∷ []), c.loop.invariant.so_many));
    }

pub returns-clause-read : goal.returns-clause-read
returns-clause-read c =
    row_ends (λ (s : ℕ). word_at c.args.order c.args.len)
    (λ (s word : ℕ). s) c.loop.words c.args.count c.loop.counter 0 c.loop.rest.now
    (words_at c.args.len c.args.order c.args.count c.args.bytes.now) c.loop-test.false c.loop.invariant.read
