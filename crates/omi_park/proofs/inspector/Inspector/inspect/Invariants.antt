use Rattle.std.proofs.Common.{◌≡◌, ◌+◌, ◌*◌, length, vec_len}
use Rattle.omi_park.specs.declared.known.InspectorPart.{InspectorPart}
use Rattle.omi_park.specs.Inspecting.{IsBetween}
use Rattle.omi_park.proofs.inspector.Inspector.inspect.Given as goal

-- so many stops were made, and there is room for the others
abbrev pub invariant-loop-room : goal.invariant-loop-room
invariant-loop-room g l = record {
  part : InspectorPart;
  between : IsBetween l.p l.l l.words.table_id part l.self;
  epoch : l.epoch ≡ 2 * length l.self.stops.items + 1;
  count : vec_len l.self.stops + vec_len l.self.rooms
      ≡ vec_len l.fn.self.stops + vec_len l.fn.self.rooms;
}

abbrev pub decreases-loop-room : goal.decreases-loop-room
decreases-loop-room g l = vec_len l.self.rooms
