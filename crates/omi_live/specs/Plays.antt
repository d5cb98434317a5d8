-- What one operation on the table tells the seat that makes it.
use Rattle.std.specs.Prelude.{◌≡◌, ◌≤◌, ◌==◌, ◌||◌, ℕ, ◌++◌, Bool, true, false, List, [], ◌∷◌, ◌+◌}
use Rattle.atomic_table.specs.Table.{Step}
use Rattle.omi_script.specs.declared.program.Program.{Program}
use Rattle.omi_layout.specs.declared.layout.Layout.{Layout}
use Rattle.omi_core.specs.RunSteps.{seats_of}
use Rattle.omi_seat.specs.Behind.{CanStep}
use Rattle.omi_seat.specs.Known.{actor_known, claims_known, entry_known, finds, untouched}
use Rattle.omi_seat.specs.Seats.{Seated, all_below}
use Rattle.omi_live.specs.declared.known.Access.TheVariants as access
use Rattle.omi_live.specs.declared.known.Part.{Part}

-- ---- what is known

-- a thread before its first step
abbrev pub first_part : Program → Layout → ℕ → Part
first_part p l thread = record { known = untouched p l thread; told = false; accesses = [] }

-- all threads before their first steps, the last one first
abbrev pub first_parts : Program → Layout → List Part
first_parts p l = all_below (first_part p l) p.threads

-- the thread made a step, which found this word
abbrev pub makes : ℕ → Part → Part
makes n x = record x {
  known = finds n x.known;
  accesses = x.accesses ++ access.Step (entry_known x.known n) ∷ [];
}

-- a look found the stop word raised, or not
abbrev pub looks : Bool → Part → Part
looks raised x = record x {
  told = x.told || raised;
  accesses = x.accesses ++ access.Look raised ∷ [];
}

-- the thread raised the stop word
abbrev pub raises : Part → Part
raises x = record x { told = true; accesses = x.accesses ++ access.Raise ∷ [] }

-- ---- what an operation tells

-- Each of them is made by a seat that stands for one thread. A look at the stop word finds 0 or 1, and 1 where the thread was told
-- before. It also tells that the thread may make its next step
abbrev pub looked : Step (Unit {0}) → Seated Part → ℕ → Seated Part → Type 0
looked st me n after = (x : Part) → me.0 ≡ x ∷ [] → (after ≡ (looks (n == 1) x ∷ [], []))
    × (n ≤ 1) × (x.told ≡ true → n ≡ 1)
    × CanStep x.known.program x.known.layout.table (actor_known x.known)

-- a step of the thread finds a word, and a team that it forks has at most one member more than the thread has claims
abbrev pub stepped : Step (Unit {0}) → Seated Part → ℕ → Seated Part → Type 0
stepped st me n after = (x : Part) → me.0 ≡ x ∷ [] → (after ≡ (makes n x ∷ [], []))
    × (seats_of (entry_known x.known n).outcome ≤ claims_known x.known + 1)

-- the thread raises the stop word
abbrev pub raised : Step (Unit {0}) → Seated Part → ℕ → Seated Part → Type 0
raised st me n after = (x : Part) → me.0 ≡ x ∷ [] → after ≡ (raises x ∷ [], [])
