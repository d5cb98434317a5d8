-- The inspector within a stop: what its parts leave is what the next one finds.
use Rattle.std.proofs.Common.{◌≡◌, ◌+◌, ◌++◌, ℕ, List, [], ◌∷◌, length, sym, subst}
use Rattle.omi_script.specs.declared.program.Program.{Program}
use Rattle.omi_layout.specs.declared.layout.Layout.{Layout}
use Rattle.omi_layout.specs.Place.{image_words}
use Rattle.omi_seat.specs.Seats.{Seated}
use Rattle.omi_park.specs.declared.known.InspectorPart.{InspectorPart}
use Rattle.omi_park.specs.declared.known.Part.{Part}
use Rattle.omi_park.specs.declared.stopped.Stopped.{Stopped}
use Rattle.omi_park.specs.Inspecting.{HasSeenAll, IsHolding, IsInspectorSeat, IsSeeing}
use Rattle.omi_park.specs.Plays.{lets_go}

-- once it has seen all
pub seeing_all : {i : InspectorPart} {epoch count : ℕ} {steps : List ℕ} {old new : Seated Part}
    → IsSeeing epoch 0 i old → (has : HasSeenAll i count steps new)
    → IsSeeing epoch count (record i { seen = has.words }) new
seeing_all called has = record {
  knows = has.knows;
  called = called.called;
  odd = called.odd;
  seen = has.many;
  none_copied = called.none_copied;
}

-- and copied all
pub held_now : {p : Program} {l : Layout} {i : InspectorPart} {epoch : ℕ} {steps image : List ℕ} {old mid new : Seated Part}
    → IsSeeing epoch 0 i old → (has : HasSeenAll i p.threads steps mid)
    → IsInspectorSeat (record i { seen = has.words; copied = image }) new
    → length image ≡ image_words l.table
    → IsHolding p l epoch (record i { seen = has.words; copied = image }) new
held_now called has knows long = record {
  knows = knows;
  called = called.called;
  odd = called.odd;
  seen = has.many;
  copied = long;
}

-- and let the workers go
pub over_now : (i : InspectorPart) (epoch : ℕ) (image : List ℕ) {count : ℕ} {steps : List ℕ} {mid new : Seated Part}
    → (has : HasSeenAll (record i { epoch = epoch }) count steps mid) → i.seen ≡ [] → i.copied ≡ []
    → IsInspectorSeat (lets_go (record i { epoch = epoch; seen = has.words; copied = image })) new
    → (let stop : Stopped = record { image = image; steps = steps } in let after : InspectorPart = record i { epoch = epoch + 1; stops = i.stops ++ stop ∷ [] } in IsInspectorSeat after new)
over_now i epoch image {steps = steps} {new = new} has none_seen none_copied knows =
    subst (λ (j : InspectorPart). IsInspectorSeat j new) same knows
  where
    same : lets_go (record i { epoch = epoch; seen = has.words; copied = image }) ≡ (let stop : Stopped = record { image = image; steps = steps } in record i { epoch = epoch + 1; stops = i.stops ++ stop ∷ [] })
    same = λ k. record {
      epoch = epoch + 1;
      seen = sym none_seen k;
      copied = sym none_copied k;
      stops = i.stops ++ record { image = image; steps = sym has.say k } ∷ [];
    }
