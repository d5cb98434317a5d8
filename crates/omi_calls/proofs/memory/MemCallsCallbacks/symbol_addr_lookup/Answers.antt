use Rattle.std.proofs.Common.{sym, ap, ◌∙◌}
use Rattle.omi_word.specs.SymbolTable.{symbol_in}
use Rattle.omi_calls.specs.Told.{aligned_word_at}
use Rattle.omi_calls.specs.CoreWords.{words_of_segments}
use Rattle.omi_calls.proofs.ToldSymbols.{told_symbol}
use Rattle.omi_calls.proofs.memory.MemCallsCallbacks.symbol_addr_lookup.Goals as goal

pub returns-in-Some-clause-symbol : goal.returns-in-Some-clause-symbol
returns-in-Some-clause-symbol c = λ symbols.
    told_symbol
    (symbol_in (aligned_word_at (words_of_segments c.args.self.now.core.segments))) symbols c.args.name.now _
    (ap (λ core. symbol_in (aligned_word_at (words_of_segments core.segments)) c.args.name.now) (sym c.is_failing.ensures.core) ∙ sym c.look_up.ensures ∙ c.in-Some.is)

pub returns-in-None-clause-symbol : goal.returns-in-None-clause-symbol
returns-in-None-clause-symbol c = λ symbols.
    told_symbol
    (symbol_in (aligned_word_at (words_of_segments c.args.self.now.core.segments))) symbols c.args.name.now _
    (ap (λ core. symbol_in (aligned_word_at (words_of_segments core.segments)) c.args.name.now) (sym c.is_failing.ensures.core) ∙ sym c.look_up.ensures ∙ c.in-None.is)
