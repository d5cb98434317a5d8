-- The rule of the table of words, between any two steps of any threads: its words are those of a run, the epoch word and the
-- acknowledgement words, and what a seat knows of a thread is what the thread made in this run.
use Rattle.std.specs.Prelude.{◌≡◌, ◌⊎◌, ◌≤◌, ℕ, ◌+◌, ◌/◌, List, [], ◌∷◌, length, slice_get, slice_index, Some, None}
use Rattle.atomic_table.specs.Table.{State}
use Rattle.omi_script.specs.declared.program.Program.{Program}
use Rattle.omi_layout.specs.declared.layout.Layout.{Layout}
use Rattle.omi_pc.specs.declared.actor.Actor.{Actor}
use Rattle.omi_core.specs.declared.entry.Entry.{Entry}
use Rattle.omi_core.specs.Steps.{steps_of}
use Rattle.omi_seat.specs.Behind.{HasRun}
use Rattle.omi_seat.specs.Known.{IsKnown}
use Rattle.omi_seat.specs.Seats.{AreSeated}
use Rattle.omi_park.specs.declared.known.InspectorPart.{InspectorPart}
use Rattle.omi_park.specs.declared.known.Part.{Part}
use Rattle.omi_park.specs.declared.known.Part.TheVariants as part
use Rattle.omi_park.specs.declared.known.WorkerPart.{WorkerPart}
use Rattle.omi_park.specs.declared.limits.TheConstants.{HALF, LAST_EPOCH}
use Rattle.omi_park.specs.Acknowledged.{HasLeft, HasNotBegun, IsOdd, IsParkedIn, IsRunning, IsStill, Stays, steps_said}
use Rattle.omi_park.specs.Parked.{AreStops}

-- the inspector has a number of its own, and each worker that of its thread
abbrev pub number_of : Part → ℕ
number_of (part.Worker x) = x.known.thread + 1
number_of (part.Inspector i) = 0

-- What is known of a worker is what its thread made and what its acknowledgement word is. It loaded no later epoch than this one, and none
-- before it began. Where its word says that it is parked in this epoch, this is the one that it loaded; and where the inspector saw it
-- before it began, it loaded no epoch before this one
pub record IsWorker (p : Program) (l : Layout) (entries : List (ℕ × Entry)) (actors : List Actor)
    (epoch : ℕ) (words seen : List ℕ) (x : WorkerPart) : Type 0 where
  pub known : IsKnown p l entries actors x.known
  pub said : slice_get words x.known.thread ≡ Some x.said
  pub loaded : (n : ℕ) → x.loaded ≡ Some n → n ≤ epoch
  pub begins : HasNotBegun x.said → x.loaded ≡ None
  pub parked : IsParkedIn epoch x.said → x.loaded ≡ Some epoch
  pub waits : (word n : ℕ) → slice_get seen x.known.thread ≡ Some word → HasNotBegun word
      → x.loaded ≡ Some n → n ≡ epoch

-- What an acknowledgement word says of its worker: where the worker is still in this epoch, the word's number of steps is that of its
-- thread. None is of a later epoch
pub record IsSaid (entries : List (ℕ × Entry)) (epoch thread word : ℕ) : Type 0 where
  pub steps : IsStill epoch word → steps_said word ≡ length (steps_of thread entries)
  pub past : HasLeft word ⊎ (IsRunning word ⊎ (word / HALF ≤ epoch))

-- What the inspector saw of a worker in this epoch, which is odd: the worker had not begun then, and has made no step; or the word stays
pub data HasSaid (entries : List (ℕ × Entry)) (epoch : ℕ) (acks : List ℕ) (thread word : ℕ)
    : Type 0 where
  waiting : HasNotBegun word → IsOdd epoch → steps_of thread entries ≡ []
      → HasSaid entries epoch acks thread word
  staying : slice_get acks thread ≡ Some word → Stays epoch word
      → HasSaid entries epoch acks thread word

-- A stop is held: each word of the image that the inspector copied since it began is the word now
abbrev pub IsHeld : List ℕ → List ℕ → Type 0
IsHeld image copied = (k n : ℕ) → slice_get copied k ≡ Some n → slice_index image k ≡ n

-- What is known of the inspector: its epoch is this one; the workers whose acknowledgements it has seen are still; it copied words only
-- once it had seen all, and holds its stop; and its stops before are those of beginnings of these steps
pub record IsInspector (p : Program) (l : Layout) (entries : List (ℕ × Entry)) (epoch : ℕ)
    (image acks : List ℕ) (i : InspectorPart) : Type 0 where
  pub current : i.epoch ≡ epoch
  pub seen : (k n : ℕ) → slice_get i.seen k ≡ Some n → HasSaid entries epoch acks k n
  pub all : (k n : ℕ) → slice_get i.copied k ≡ Some n → length i.seen ≡ p.threads
  pub held : IsHeld image i.copied
  pub stops : AreStops p l 0 entries i.stops

-- a part is that of a worker, or of this inspector
abbrev pub IsPart : Program → Layout → List (ℕ × Entry) → List Actor → ℕ → List ℕ → InspectorPart
    → Part → Type 0
IsPart p l entries actors epoch acks inspector (part.Worker x) =
    IsWorker p l entries actors epoch acks inspector.seen x
IsPart p l entries actors epoch acks inspector (part.Inspector i) = i ≡ inspector

pub record Keeps (p : Program) (l : Layout) (s : State (Unit {0}) (List Part)) : Type 0 where
  pub epoch : ℕ
  pub last : epoch ≤ LAST_EPOCH
  pub acks : List ℕ
  pub many : length acks ≡ p.threads
  pub behind : HasRun p l s.words (epoch ∷ acks)
  pub said : (i n : ℕ) → slice_get acks i ≡ Some n → IsSaid behind.keeps.entries epoch i n
  pub inspector : InspectorPart
  pub inspects : IsInspector p l behind.keeps.entries epoch behind.run.words acks inspector
  pub seats : AreSeated number_of
      (IsPart p l behind.keeps.entries behind.run.actors epoch acks inspector) s.views
