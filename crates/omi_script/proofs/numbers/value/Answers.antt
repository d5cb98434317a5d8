use Rattle.std.proofs.Common.{length}
use Rattle.std.proofs.lemmas.Str.Parse.{parse_digits}
use Rattle.omi_script.specs.Numbers.{value_of}
use Rattle.omi_script.proofs.NumberLemmas.{numerals, IsUtf8-from_digits, parsed_some, parsed_none}
use Rattle.omi_script.proofs.numbers.value.Goals as goal

pub returns-in-Ok-clause-some : goal.returns-in-Ok-clause-some
returns-in-Ok-clause-some c =
    parsed_some _ _ (length c.args.word.now) (value_of c.args.word.now)
    (parse_digits numerals 64 c.args.word.now c.parse.result (rw c.in-Ok.ensures.cases.0 at c.parse.ensures.value.0) c.requires.digits) c.ok.ensures.value

pub returns-in-Ok-clause-none : goal.returns-in-Ok-clause-none
returns-in-Ok-clause-none c =
    parsed_none _ _ (length c.args.word.now) (value_of c.args.word.now) c.requires.some
    (parse_digits numerals 64 c.args.word.now c.parse.result (rw c.in-Ok.ensures.cases.0 at c.parse.ensures.value.0) c.requires.digits) c.ok.ensures.value

pub returns-in-Err-clause-none : goal.returns-in-Err-clause-none
returns-in-Err-clause-none c =
    absurd (c.in-Err.ensures.cases.0 (IsUtf8-from_digits c.args.word.now c.requires.digits))
