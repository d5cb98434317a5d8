use Rattle.std.proofs.Common.{◌≡◌, true, drop}
use Rattle.std.specs.Prelude.{All}
use Rattle.omi_process.specs.Words.{first_overlap, is_looked_at, overlap_behind}
use Rattle.omi_process.proofs.segments.overlapping.Given as goal

abbrev pub invariant-loop-h : goal.invariant-loop-h
invariant-loop-h l = record {
  sought : overlap_behind l.before (drop l.h-index l.others) ≡ first_overlap l.segments;
  looked : All (λ h. is_looked_at h ≡ true) l.others;
}
