use Rattle.std.proofs.Common.{◌≡◌, drop}
use Rattle.std.specs.Prelude.{find}
use Rattle.omi_elf.specs.Table.{is_unaligned}
use Rattle.omi_elf.proofs.judging.judge_starts.Given as goal

abbrev pub invariant-loop-h : goal.invariant-loop-h
invariant-loop-h l = find is_unaligned (drop l.h-index l.kept) ≡ find is_unaligned l.kept
