use Rattle.std.proofs.Common.{sym, ◌∙◌}
use Rattle.std.specs.Prelude.{find}
use Rattle.std.proofs.lemmas.List.{at_drop_all}
use Rattle.omi_elf.specs.Table.{is_unaligned}
use Rattle.omi_elf.proofs.Kept.{aligned_from}
use Rattle.omi_elf.proofs.judging.judge_starts.Goals as goal

pub returns-clause-aligned : goal.returns-clause-aligned
returns-clause-aligned c =
    aligned_from c.args.kept.now
    (sym c.loop-h.invariant ∙ at_drop_all (find is_unaligned) c.args.kept.now c.loop-h.h-index c.loop-h-test.false)
