use Rattle.std.proofs.Common.{◌≡◌, ◌+◌, ◌≤◌, ◌++◌, length, take, drop, string_bytes}
use Rattle.std.specs.String.{string_len, string_capacity}
use Rattle.std.specs.List.{flat_map, sum_by}
use Rattle.omi_frame.proofs.refusal_line.push_all.Given as goal

-- the pieces so far were added, and there is room for those that are left
abbrev pub invariant-loop-piece : goal.invariant-loop-piece
invariant-loop-piece l = record {
  added : string_bytes l.room ≡ string_bytes l.fn.room ++ flat_map (λ piece. piece.now) (take l.piece-index l.pieces);
  room_is_left : string_len l.room + sum_by (λ piece. length piece.now) (drop l.piece-index l.pieces) ≤ string_capacity l.room;
  capacity : string_capacity l.fn.room ≤ string_capacity l.room;
}
