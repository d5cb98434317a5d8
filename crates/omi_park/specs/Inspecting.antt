-- The inspector at work: what its seat knows is what it saw and copied, and the stops that it keeps.
use Rattle.std.specs.Prelude.{◌≡◌, ◌<◌, ◌≤◌, ℕ, ◌+◌, ◌*◌, ◌++◌, List, [], ◌∷◌, length, map, slice_get, slice_index, vec_capacity, vec_len, Some}
use Rattle.atomic_table.specs.Seated.{TableId}
use Rattle.omi_script.specs.declared.program.Program.{Program}
use Rattle.omi_layout.specs.declared.layout.Layout.{Layout}
use Rattle.omi_layout.specs.Place.{image_words}
use Rattle.omi_seat.specs.Seats.{Seated}
use Rattle.omi_park.specs.declared.inspector.Inspector.{Inspector}
use Rattle.omi_park.specs.declared.inspector.Room.{Room}
use Rattle.omi_park.specs.declared.known.InspectorPart.{InspectorPart}
use Rattle.omi_park.specs.declared.known.Part.{Part}
use Rattle.omi_park.specs.declared.known.Part.TheVariants as part
use Rattle.omi_park.specs.declared.limits.TheConstants.{LAST_EPOCH}
use Rattle.omi_park.specs.Acknowledged.{IsOdd, steps_said}

-- ---- what its seat knows

-- the seat stands for the inspector alone
abbrev pub IsInspectorSeat : InspectorPart → Seated Part → Type 0
IsInspectorSeat i me = me ≡ (part.Inspector i ∷ [], [])

-- it is between two stops, before one in this epoch
pub record IsToCall (epoch : ℕ) (i : InspectorPart) (me : Seated Part) : Type 0 where
  pub knows : IsInspectorSeat i me
  pub none_seen : i.seen ≡ []
  pub none_copied : i.copied ≡ []
  pub next : i.epoch + 1 ≡ epoch
  pub odd : IsOdd epoch
  pub last : epoch < LAST_EPOCH

-- it called in this epoch, has seen so many acknowledgements, and copied nothing
pub record IsSeeing (epoch count : ℕ) (i : InspectorPart) (me : Seated Part) : Type 0 where
  pub knows : IsInspectorSeat i me
  pub called : i.epoch ≡ epoch
  pub odd : IsOdd epoch
  pub seen : length i.seen ≡ count
  pub none_copied : i.copied ≡ []

-- it has seen one more, which says so many steps
pub record HasSeen (i : InspectorPart) (steps : ℕ) (me : Seated Part) : Type 0 where
  pub word : ℕ
  pub knows : IsInspectorSeat (record i { seen = i.seen ++ word ∷ [] }) me
  pub says : steps ≡ steps_said word

-- it has seen so many, behind none, which say these numbers of steps
pub record HasSeenAll (i : InspectorPart) (count : ℕ) (steps : List ℕ) (me : Seated Part) : Type 0 where
  pub words : List ℕ
  pub knows : IsInspectorSeat (record i { seen = words }) me
  pub many : length words ≡ count
  pub say : steps ≡ map steps_said words

-- once it has seen all, it has copied so many words, as in this image
pub record HasCopied (i : InspectorPart) (count : ℕ) (image : List ℕ) (me : Seated Part) : Type 0 where
  pub words : List ℕ
  pub knows : IsInspectorSeat (record i { copied = words }) me
  pub many : length words ≡ count
  pub same : (k : ℕ) → k < count → slice_index image k ≡ slice_index words k

-- it holds a stop in this epoch: it has seen the acknowledgements of all, and copied all words of the image
pub record IsHolding (p : Program) (l : Layout) (epoch : ℕ) (i : InspectorPart) (me : Seated Part)
    : Type 0 where
  pub knows : IsInspectorSeat i me
  pub called : i.epoch ≡ epoch
  pub odd : IsOdd epoch
  pub seen : length i.seen ≡ p.threads
  pub copied : length i.copied ≡ image_words l.table

-- ---- its room

-- room for a stop: as many words, and room for the numbers of so many threads
pub record IsRoom (threads words : ℕ) (place : Room) : Type 0 where
  pub image : length place.image ≡ words
  pub empty : place.steps.items ≡ []
  pub room : threads ≤ vec_capacity place.steps

abbrev pub AreRooms : ℕ → ℕ → List Room → Type 0
AreRooms threads words rooms = (k : ℕ) (room : Room) → slice_get rooms k ≡ Some room
    → IsRoom threads words room

-- ---- the inspector

-- it is between two stops, behind those that it keeps, with room for further ones
pub record IsBetween (p : Program) (l : Layout) (id : TableId) (i : InspectorPart)
    (inspector : Inspector) : Type 0 where
  pub table : inspector.seat.table_id ≡ id
  pub knows : IsInspectorSeat i inspector.seat.me
  pub none_seen : i.seen ≡ []
  pub none_copied : i.copied ≡ []
  pub epoch : i.epoch ≡ 2 * length inspector.stops.items
  pub stops : i.stops ≡ inspector.stops.items
  pub rooms : AreRooms p.threads (image_words l.table) inspector.rooms.items
  pub last : 2 * (length inspector.stops.items + length inspector.rooms.items) ≤ LAST_EPOCH
  pub room : vec_len inspector.stops + vec_len inspector.rooms ≤ vec_capacity inspector.stops

-- behind its last stop it keeps so many, and its seat knows them
pub record HasInspected (id : TableId) (count : ℕ) (inspector : Inspector) : Type 0 where
  pub part : InspectorPart
  pub table : inspector.seat.table_id ≡ id
  pub knows : IsInspectorSeat part inspector.seat.me
  pub stops : part.stops ≡ inspector.stops.items
  pub many : length inspector.stops.items ≡ count
