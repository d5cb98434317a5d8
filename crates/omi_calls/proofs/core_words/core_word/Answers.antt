use Rattle.std.proofs.Common.{◌+◌, drop, arith, sym, ap, ◌∙◌}
use Rattle.std.specs.Option.{option_or}
use Rattle.omi_calls.specs.CoreWords.{words_of_segments}
use Rattle.omi_calls.proofs.Segments.{segment_more, word_aligned}
use Rattle.omi_calls.proofs.core_words.core_word.Goals as goal

pub returns-in-Some : goal.returns-in-Some
returns-in-Some c = sym (
    word_aligned c.args.core.now.segments c.args.addr c.if-addr-ne0.false
    ∙ c.loop-at.invariant
    ∙ segment_more c.args.core.now.segments c.loop-at.at
    (c.loop-at.at + 1) c.get-segment.result.now c.args.addr (omega arith) c.get-segment.ensures
    ∙ ap (λ found. option_or found (words_of_segments (drop (c.loop-at.at + 1) c.args.core.now.segments) c.args.addr)) (sym c.segment_word.ensures ∙ c.in-Some.is))

pub loop-at-preserved : goal.loop-at-preserved
loop-at-preserved c =
    c.loop-at.invariant
    ∙ segment_more c.args.core.now.segments c.loop-at.at
    (c.loop-at.at + 1) c.get-segment.result.now c.args.addr (omega arith) c.get-segment.ensures
    ∙ ap
    (λ found. option_or found (words_of_segments (drop (c.loop-at.at + 1) c.args.core.now.segments) c.args.addr))
    (sym c.segment_word.ensures ∙ c.in_default.is)
