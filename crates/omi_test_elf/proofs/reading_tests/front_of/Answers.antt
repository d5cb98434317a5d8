use Rattle.std.proofs.Common.{ℕ, Some, None, sym, ap, ◌∙◌}
use Rattle.omi_outside.specs.Outside.{Told, content_len}
use Rattle.omi_test_elf.proofs.reading_tests.front_of.Goals as goal

abbrev len_of : Told → ℕ
len_of (Some content) = content_len content
len_of None = 0

pub front-requires-clause-len : goal.front-requires-clause-len
front-requires-clause-len c = λ content told. ap len_of (sym told ∙ c.over-file.ensures.told c.args.name.now)
