-- What one operation on the table tells the seat that makes it: three of a worker (`loaded`, `stepped`, `said`), and four of the inspector
-- (`called`, `seen`, `copied`, `let_go`).
use Rattle.std.specs.Prelude.{◌≡◌, ◌≤◌, ℕ, ◌+◌, ◌++◌, List, [], ◌∷◌, Some, None, map, if◌then◌else◌}
use Rattle.atomic_table.specs.Table.{Step}
use Rattle.omi_script.specs.declared.program.Program.{Program}
use Rattle.omi_layout.specs.declared.layout.Layout.{Layout}
use Rattle.omi_core.specs.RunSteps.{seats_of}
use Rattle.omi_seat.specs.Behind.{CanStep}
use Rattle.omi_seat.specs.Known.{actor_known, claims_known, entry_known, finds, untouched}
use Rattle.omi_seat.specs.Seats.{Seated, all_below}
use Rattle.omi_park.specs.declared.known.InspectorPart.{InspectorPart}
use Rattle.omi_park.specs.declared.known.Part.{Part}
use Rattle.omi_park.specs.declared.known.Part.TheVariants as part
use Rattle.omi_park.specs.declared.known.WorkerPart.{WorkerPart}
use Rattle.omi_park.specs.declared.limits.TheConstants.{LAST_EPOCH}
use Rattle.omi_park.specs.declared.stopped.Stopped.{Stopped}
use Rattle.omi_park.specs.Acknowledged.{IsParkedIn, is_still, steps_said}

-- ---- what is known

-- a worker before its first step, which has said nothing
abbrev pub first_worker : Program → Layout → ℕ → WorkerPart
first_worker p l thread = record { known = untouched p l thread; loaded = None; said = 0 }

abbrev pub first_part : Program → Layout → ℕ → Part
first_part p l thread = part.Worker (first_worker p l thread)

-- the inspector before its first stop
abbrev pub first_inspector : InspectorPart
first_inspector = record { epoch = 0; seen = []; copied = []; stops = [] }

-- all workers before their first steps, the last one first, and the inspector
abbrev pub first_parts : Program → Layout → List Part
first_parts p l = all_below (first_part p l) p.threads ++ part.Inspector first_inspector ∷ []

-- ---- workers

-- it loaded this epoch
abbrev pub loads : ℕ → WorkerPart → WorkerPart
loads n x = record x { loaded = Some n }

-- its thread made a step, which found this word
abbrev pub makes : ℕ → WorkerPart → WorkerPart
makes n x = record x { known = finds n x.known; loaded = None }

-- its acknowledgement is this word
abbrev pub says : ℕ → WorkerPart → WorkerPart
says word x = record x { said = word }

-- A load of the epoch, while the worker runs or is parked. Where the worker's word says that it is parked in this epoch, the worker loaded
-- this epoch before. It also tells that the thread may make its next step
abbrev pub loaded : Step (Unit {0}) → Seated Part → ℕ → Seated Part → Type 0
loaded st me n after = (x : WorkerPart) → me.0 ≡ part.Worker x ∷ []
    → (after ≡ (part.Worker (loads n x) ∷ [], []))
    × (n ≤ LAST_EPOCH) × (IsParkedIn n x.said → x.loaded ≡ Some n)
    × CanStep x.known.program x.known.layout.table (actor_known x.known)

-- a step of its thread finds a word, and a team that it forks has at most one member more than the thread has claims
abbrev pub stepped : Step (Unit {0}) → Seated Part → ℕ → Seated Part → Type 0
stepped st me n after = (x : WorkerPart) → me.0 ≡ part.Worker x ∷ []
    → (after ≡ (part.Worker (makes n x) ∷ [], []))
    × (seats_of (entry_known x.known n).outcome ≤ claims_known x.known + 1)

-- a store of its own acknowledgement
abbrev pub said : Step (Unit {0}) → Seated Part → ℕ → Seated Part → Type 0
said st me n after = (x : WorkerPart) → me.0 ≡ part.Worker x ∷ []
    → after ≡ (part.Worker (says n x) ∷ [], [])

-- ---- the inspector

-- it stored the next epoch, an odd one
abbrev pub calls : InspectorPart → InspectorPart
calls i = record i { epoch = i.epoch + 1 }

-- it saw an acknowledgement, where the word says that its worker is still
abbrev pub sees : ℕ → InspectorPart → InspectorPart
sees word i = if is_still i.epoch word then record i { seen = i.seen ++ word ∷ [] } else i

-- it copied a word
abbrev pub copies : ℕ → InspectorPart → InspectorPart
copies word i = record i { copied = i.copied ++ word ∷ [] }

-- what it saw and copied, as a stop
abbrev pub stop_of : InspectorPart → Stopped
stop_of i = record { image = i.copied; steps = map steps_said i.seen }

-- it stored the next epoch, an even one: the stop is over
abbrev pub lets_go : InspectorPart → InspectorPart
lets_go i = record {
  epoch = i.epoch + 1;
  seen = [];
  copied = [];
  stops = i.stops ++ stop_of i ∷ [];
}

-- the inspector is this behind the operation
abbrev pub Inspects : (ℕ → InspectorPart → InspectorPart) → Seated Part → ℕ → Seated Part → Type 0
Inspects next me n after = (i : InspectorPart) → me.0 ≡ part.Inspector i ∷ []
    → after ≡ (part.Inspector (next n i) ∷ [], [])

abbrev pub called : Step (Unit {0}) → Seated Part → ℕ → Seated Part → Type 0
called st = Inspects (λ n. calls)

abbrev pub seen : Step (Unit {0}) → Seated Part → ℕ → Seated Part → Type 0
seen st = Inspects sees

abbrev pub copied : Step (Unit {0}) → Seated Part → ℕ → Seated Part → Type 0
copied st = Inspects copies

abbrev pub let_go : Step (Unit {0}) → Seated Part → ℕ → Seated Part → Type 0
let_go st = Inspects (λ n. lets_go)
