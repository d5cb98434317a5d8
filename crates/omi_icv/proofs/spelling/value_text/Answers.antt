use Rattle.std.proofs.Common.{arith}
use Rattle.std.proofs.lemmas.Grind.{common_steps}
use Rattle.omi_icv.proofs.Joined.{joined_from_first, joined_none}
use Rattle.omi_icv.proofs.spelling.value_text.Goals as goal

pub returns-then-numbers-gt0 : goal.returns-then-numbers-gt0
returns-then-numbers-gt0 c =
    grind (
      arith,
      common_steps,
      c.new-text.ensures,
      c.push_number.ensures.text,
      c.push_others.ensures,
      joined_from_first c.args.spelling c.args.numbers.now c.if-numbers-gt0.true,
    )

pub returns-else-numbers-gt0 : goal.returns-else-numbers-gt0
returns-else-numbers-gt0 c =
    grind (
      arith,
      common_steps,
      c.new-text.ensures,
      joined_none c.args.spelling c.args.numbers.now (omega (arith, c.if-numbers-gt0.false)),
    )
