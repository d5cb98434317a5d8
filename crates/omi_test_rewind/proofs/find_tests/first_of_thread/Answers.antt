use Rattle.std.proofs.Common.{◌≡◌, ◌∙◌, ◌<◌, ◌%◌, ◌^◌, ◌==◌, ℕ, Bool, List, ap, subst, sym, arith}
use Rattle.omi_layout.proofs.Stored.{on_word}
use Rattle.omi_layout.specs.Frame.{IsOnWord}
use Rattle.omi_layout.specs.Memory.{IsRecordWord, word_address}
use Rattle.omi_layout.specs.Named.{number}
use Rattle.omi_layout.specs.Table.{thread_count}
use Rattle.omi_layout.specs.Valid.{IsValid}
use Rattle.omi_layout.specs.declared.field.Field.TheVariants.{ThreadState}
use Rattle.omi_rewind.specs.Tests.{IsFit}
use Rattle.omi_word.specs.Memory.{IsWordOf, word_at}
use Rattle.omi_word.specs.declared.op.Op.TheVariants.{Load}
use Rattle.omi_test_rewind.proofs.find_tests.first_of_thread.Goals as goal

-- each thread has a state word
state_of_thread : (w : List ℕ) (thread : ℕ) → thread < thread_count w → IsRecordWord w thread 0 (number ThreadState) 0
state_of_thread w thread has = record {
  field = record { from = omega arith; to = omega arith };
  record_slot = record { made_by = has; within = omega arith };
  within = omega arith;
}

-- it stands in each image that the layout fits
state_word : (w words : List ℕ) (thread addr : ℕ) → IsValid w → thread < thread_count w
    → addr ≡ word_address w thread 0 (number ThreadState) 0 → IsFit w words
    → IsOnWord w words (Load addr) thread 0 (number ThreadState) 0
state_word w words thread addr valid has at fit =
    on_word w valid words (Load addr) thread 0 (number ThreadState) 0 fit.fits (state_of_thread w thread has) at

pub word_at-addr-requires : goal.word_at-addr-requires
word_at-addr-requires c = state_of_thread c.args.layout.now.table c.args.thread c.requires.thread

pub first_by-requires-clause-takes : goal.first_by-requires-clause-takes
first_by-requires-clause-takes c = λ words fit p is.
    subst (λ (ws : List ℕ). IsWordOf ws c.word_at-addr.result) (sym is)
    (state_word c.args.layout.now.table words c.args.thread c.word_at-addr.result c.args.layout.now.valid c.requires.thread c.word_at-addr.ensures fit).inside

pub first_by-requires-clause-answers : goal.first_by-requires-clause-answers
first_by-requires-clause-answers c = λ words answer fit gives.
    gives.says.met
    ∙ ap (λ (ws : List ℕ). word_at ws c.word_at-addr.result % 2 ^ 16 == c.args.state) gives.shows
    ∙ ap (λ n. n % 2 ^ 16 == c.args.state)
    (state_word c.args.layout.now.table words c.args.thread c.word_at-addr.result c.args.layout.now.valid c.requires.thread c.word_at-addr.ensures fit).finds
