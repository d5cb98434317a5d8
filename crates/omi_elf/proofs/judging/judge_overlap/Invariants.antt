use Rattle.std.proofs.Common.{◌≡◌, drop}
use Rattle.std.specs.Prelude.{All}
use Rattle.omi_elf.specs.Segments.{overlap_behind, first_overlap}
use Rattle.omi_elf.specs.Found.{IsBounded}
use Rattle.omi_elf.proofs.judging.judge_overlap.Given as goal

abbrev pub invariant-loop-h : goal.invariant-loop-h
invariant-loop-h l = record {
  sought : overlap_behind l.before (drop l.h-index l.others) ≡ first_overlap l.sorted;
  bounded : IsBounded l.before;
  others : All IsBounded l.others;
}
