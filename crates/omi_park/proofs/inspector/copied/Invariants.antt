use Rattle.std.proofs.Common.{◌≡◌, length}
use Rattle.omi_park.specs.declared.known.InspectorPart.{InspectorPart}
use Rattle.omi_park.specs.Inspecting.{HasCopied, IsSeeing}
use Rattle.omi_park.proofs.inspector.copied.Given as goal

-- so many words were copied
abbrev pub invariant-loop-at : goal.invariant-loop-at
invariant-loop-at g = record {
  seated : g.seat.table_id ≡ g.fn.seat.table_id;
  long : length g.image ≡ length g.fn.image;
  copied : (i : InspectorPart) → IsSeeing g.epoch g.p.threads i g.fn.seat.me
      → HasCopied i g.at g.image g.seat.me;
}
