use Rattle.std.proofs.Common.{◌≡◌, ◌≤◌, ◌++◌, drop, length}
use Rattle.std.specs.Prelude.{All}
use Rattle.omi_process.specs.Reading.{Fits, parts_in}
use Rattle.omi_process.proofs.segments.parts_in.Given as goal

abbrev pub invariant-loop-h : goal.invariant-loop-h
invariant-loop-h l = record {
  so_far : l.parts.items ++ parts_in l.len (drop l.h-index l.segments) ≡ parts_in l.len l.segments;
  fit : All (Fits l.len) l.parts.items;
  few : length l.parts.items ≤ l.h-index;
}
