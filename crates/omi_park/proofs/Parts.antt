-- Parts of seats: a part that a seat knows is that of one worker, or the inspector's.
use Rattle.std.proofs.Common.{◌≡◌, [], ◌∷◌, ap}
use Rattle.omi_seat.proofs.Seats.{head_is}
use Rattle.omi_park.specs.declared.known.InspectorPart.{InspectorPart}
use Rattle.omi_park.specs.declared.known.Part.{Part}
use Rattle.omi_park.specs.declared.known.Part.TheVariants as part
use Rattle.omi_park.specs.declared.known.WorkerPart.{WorkerPart}

abbrev worker_or : WorkerPart → Part → WorkerPart
worker_or d (part.Worker x) = x
worker_or d (part.Inspector i) = d

abbrev inspector_or : InspectorPart → Part → InspectorPart
inspector_or d (part.Worker x) = d
inspector_or d (part.Inspector i) = i

pub worker_is : (x y : WorkerPart) → part.Worker x ∷ [] ≡ part.Worker y ∷ [] → x ≡ y
worker_is x y same = ap (worker_or x) (head_is (part.Worker x) (part.Worker y) same)

pub inspector_is : (i j : InspectorPart) → part.Inspector i ∷ [] ≡ part.Inspector j ∷ [] → i ≡ j
inspector_is i j same = ap (inspector_or i) (head_is (part.Inspector i) (part.Inspector j) same)
