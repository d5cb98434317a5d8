use Rattle.std.proofs.Common.{List, ℕ, subst, sym}
use Rattle.omi_word.specs.Memory.{IsWordOf}
use Rattle.omi_rewind_top.proofs.Turned.{state_answers, state_of_thread, state_taken}
use Rattle.omi_rewind_top.proofs.when.first_in_state.Goals as goal

pub word_at-addr-requires : goal.word_at-addr-requires
word_at-addr-requires c = state_of_thread c.args.layout.now.table c.args.thread c.requires.thread

pub first_by-requires-clause-takes : goal.first_by-requires-clause-takes
first_by-requires-clause-takes c = λ words fit p is.
    subst (λ (ws : List ℕ). IsWordOf ws c.word_at-addr.result) (sym is)
    (state_taken c.args.layout.now.table words c.args.thread c.word_at-addr.result c.args.layout.now.valid c.requires.thread c.word_at-addr.ensures fit)

pub first_by-requires-clause-answers : goal.first_by-requires-clause-answers
first_by-requires-clause-answers c = λ words answer fit gives.
    state_answers c.args.layout.now.table words c.args.thread c.args.state c.word_at-addr.result c.args.layout.now.valid c.requires.thread c.word_at-addr.ensures fit
    gives.shown.now gives.shows answer gives.says.met
