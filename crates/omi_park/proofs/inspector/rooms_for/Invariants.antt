use Rattle.std.proofs.Common.{◌≡◌, vec_len}
use Rattle.omi_park.specs.Inspecting.{AreRooms}
use Rattle.omi_park.proofs.inspector.rooms_for.Given as goal

-- so many are made
abbrev pub invariant-loop-stop : goal.invariant-loop-stop
invariant-loop-stop g = record {
  count : vec_len g.rooms ≡ g._stop;
  each : AreRooms g.threads g.words g.rooms.items;
}
