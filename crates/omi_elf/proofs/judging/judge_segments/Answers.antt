use Rattle.std.proofs.Common.{sym, ◌∙◌}
use Rattle.omi_elf.proofs.Kept.{bounded_from}
use Rattle.omi_elf.proofs.judging.judge_segments.Goals as goal

pub returns-clause-bounded : goal.returns-clause-bounded
returns-clause-bounded c =
    bounded_from c.args.len c.requires.kept.0 c.args.kept.now c.requires.short c.requires.kept.1 (sym c.all_within.ensures ∙ c.if-not-all_within.false)
