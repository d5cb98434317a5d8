-- Rows of a report that are added to those before.
use Rattle.std.specs.Prelude.{◌≡◌, ◌++◌, ℕ, List, Result, Ok, Err}
use Rattle.omi_calls.specs.Told.{Told}
use Rattle.omi_word.specs.Words.{Words}
use Rattle.omi_rep.specs.Look.{Look}
use Rattle.omi_session.specs.Opened.{Opened}
use Rattle.omi_walk.specs.Gives.{Looks}
use Rattle.omi_walk.specs.declared.fault.WalkFault.{WalkFault}

-- rows that a look gives were added to those before
pub record Added {A C F : Type 0} (told : C → Told) (s : Opened C F) (old new : List A) (look : List ℕ → Words → Look (List A)) : Type 0 where
  pub rows : List A
  pub is : new ≡ old ++ rows
  pub gives : Looks told s (Ok rows) look

-- the rows that a look gives are added to those before, or it is refused
abbrev pub AddsRows : {A C F : Type 0} → (C → Told) → Opened C F → Result (Unit {0}) WalkFault → List A → List A → (List ℕ → Words → Look (List A)) → Type 0
AddsRows told s (Ok done) old new look = Added told s old new look
AddsRows {A} told s (Err fault) old new look = Looks {A = List A} told s (Err fault) look
