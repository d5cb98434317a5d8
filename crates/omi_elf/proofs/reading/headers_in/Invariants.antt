use Rattle.std.proofs.Common.{◌≡◌, List, ℕ, length}
use Rattle.omi_elf.specs.Header.{headers_from}
use Rattle.omi_elf.specs.Found.{IsPieceOf}
use Rattle.omi_elf.proofs.reading.headers_in.Given as goal

abbrev pub invariant-loop-index : goal.invariant-loop-index
invariant-loop-index l = record {
  so_far : (bytes : List ℕ) → IsPieceOf bytes l.at l.table → l.headers.items ≡ headers_from l.order bytes l.at l.index;
  count : length l.headers.items ≡ l.index;
}
