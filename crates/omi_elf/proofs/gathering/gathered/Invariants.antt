use Rattle.std.proofs.Common.{◌≡◌, ◌+◌, ◌*◌, ◌^◌, ◌<◌, ◌++◌, length, drop}
use Rattle.std.specs.Prelude.{All}
use Rattle.omi_elf.specs.Found.{IsReadable, IsBounded}
use Rattle.omi_elf.specs.Gathered.{gathered, gathered_behind}
use Rattle.omi_elf.proofs.gathering.gathered.Given as goal

abbrev pub invariant-loop-h : goal.invariant-loop-h
invariant-loop-h l = record {
  all : l.segments ++ gathered_behind l.order l.bytes l.open (drop l.h-index l.others) ≡ gathered l.order l.bytes l.sorted;
  low : l.open.start + 8 * length l.open.words < 2 ^ 60;
  readable : All (IsReadable (length l.bytes)) l.others;
  bounded : All IsBounded l.others;
}
