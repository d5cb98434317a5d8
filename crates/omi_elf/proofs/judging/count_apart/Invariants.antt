use Rattle.std.proofs.Common.{◌≡◌, ◌≤◌, ◌+◌, drop}
use Rattle.std.specs.Prelude.{All}
use Rattle.omi_elf.specs.Segments.{count_behind, count_apart}
use Rattle.omi_elf.specs.Found.{IsBounded}
use Rattle.omi_elf.proofs.judging.count_apart.Given as goal

abbrev pub invariant-loop-h : goal.invariant-loop-h
invariant-loop-h l = record {
  counted : l.count + count_behind l.before (drop l.h-index l.others) ≡ count_apart l.sorted;
  few : l.count ≤ l.h-index + 1;
  bounded : IsBounded l.before;
  others : All IsBounded l.others;
}
