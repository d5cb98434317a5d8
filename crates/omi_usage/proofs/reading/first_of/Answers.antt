use Rattle.std.proofs.Common.{◌∙◌, ap, rules, sym}
use Rattle.std.specs.Prelude.{Some}
use Rattle.omi_usage.specs.Reading.{mode_after}
use Rattle.omi_usage.proofs.Places.{first_here, first_later, first_none}
use Rattle.omi_usage.proofs.reading.first_of.Goals as goal

pub returns-in-None : goal.returns-in-None
returns-in-None c =
    ap Some c.as_str-word.ensures.value
    ∙ sym
    (first_here c.args.words.now c.loop-word.word-index c.word-item.result (search rules) c.word-item.is
    c.loop-word.mode (ap (mode_after c.loop-word.mode) (sym c.as_str-word.ensures.value) ∙ sym c.in-None.ensures))
    ∙ c.loop-word.invariant

pub loop-word-preserved : goal.loop-word-preserved
loop-word-preserved c =
    sym
    (first_later c.args.words.now c.loop-word.word-index c.word-item.result (search rules) c.word-item.is
    c.loop-word.mode _ (ap (mode_after c.loop-word.mode) (sym c.as_str-word.ensures.value) ∙ sym c.in-Some.ensures))
    ∙ c.loop-word.invariant

pub returns : goal.returns
returns c =
    sym (first_none c.args.words.now c.loop-word.word-index c.loop-word.mode (search rules))
    ∙ c.loop-word.invariant
