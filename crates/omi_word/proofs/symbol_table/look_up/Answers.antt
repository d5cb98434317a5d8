use Rattle.std.proofs.Common.{◌+◌, ◌-◌, ◌*◌, sym, ◌∙◌, arith}
use Rattle.omi_word.proofs.Symbols.{unmapped_table, reads_more, not_mapped}
use Rattle.omi_word.proofs.symbol_table.look_up.Goals as goal

pub returns-in_err-words : goal.returns-in_err-words
returns-in_err-words g c =
    c.from_residual-in_err-words.ensures
    ∙ not_mapped (g.M.WordMemory.words c.args.memory.now) c.args.name.now c.in_ok-count.count
    (sym c.word.ensures ∙ c.in_ok-count.was) (omega arith)
    (unmapped_table (g.M.WordMemory.words c.args.memory.now) 65544 (65544 + 40 * (c.loop-left.left - 1)) (c.loop-left.left - 1) c.in_ok-count.count (omega arith) (omega arith) (sym c.five_words.ensures ∙ c.in_err-words.was))

pub loop-left-preserved : goal.loop-left-preserved
loop-left-preserved g c = record {
  within = omega arith;
  read = reads_more _ _ c.in_ok-words.words (65544 + 40 * (c.loop-left.left - 1)) _ _ _ _ _ (sym c.five_words.ensures ∙ c.in_ok-words.was) (omega arith) (omega arith) c.loop-left.invariant.read c.found_with-found.ensures;
}
