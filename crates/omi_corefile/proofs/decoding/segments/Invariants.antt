use Rattle.std.proofs.Common.{◌≡◌, ◌-◌, ◌≤◌}
use Rattle.omi_corefile.specs.declared.limits.TheConstants.{MOST_SEGMENT_WORDS}
use Rattle.omi_corefile.specs.Refusals.{row_at, segment_at, left_after, segments_at}
use Rattle.omi_corefile.proofs.Rows.{with_front}
use Rattle.omi_corefile.proofs.decoding.segments.Given as goal

abbrev pub invariant-loop : goal.invariant-loop
invariant-loop l = record {
  read : with_front l.segments (row_at (segment_at l.len l.order) left_after (l.count - l.counter) (l.least, l.room) l.rest) ≡ segments_at l.len l.order l.count l.bytes;
  room_is_left : l.room ≤ MOST_SEGMENT_WORDS;
}
