-- Locks: a lock is held exactly where one task has its giving back ahead, and then by that task's thread.
use Rattle.std.specs.Prelude.{◌≡◌, ◌==◌, ℕ, zero, suc, Bool, true, false, List, [], ◌∷◌, Option, Some, None, MatchOption, if◌then◌else◌}
use Rattle.omi_script.specs.declared.program.Program.{Program}
use Rattle.omi_model.specs.declared.event.Event.{Event}
use Rattle.omi_model.specs.declared.id.Tid.{Tid}
use Rattle.omi_model.specs.declared.item.Item.{Item}
use Rattle.omi_model.specs.declared.item.Item.TheVariants as item
use Rattle.omi_model.specs.declared.task.Task.{Task}
use Rattle.omi_model.specs.Reached.{Reached}
use Rattle.omi_model.specs.State.{State, task_of}

-- A list in which each take of lock k is followed by its giving back, and which gives it back so many times more.
abbrev pub gives_back : ℕ → List Item → ℕ → Bool
gives_back k [] n = n == 0
gives_back k (item.Lock l ∷ xs) n = gives_back k xs (if l == k then suc n else n)
gives_back k (item.Unlock l ∷ xs) zero = if l == k then false else gives_back k xs zero
gives_back k (item.Unlock l ∷ xs) (suc n) = gives_back k xs (if l == k then n else suc n)
gives_back k (x ∷ xs) n = gives_back k xs n

-- who holds lock k: nobody, and then no task has a giving back of its own ahead; or the thread of this task, which alone has one
pub record IsHeldBy (s : State) (k : ℕ) (holder : Option Tid) : Type 0 where
  pub thread : MatchOption holder (s.locks k ≡ None) (λ n. (t : Task) × (task_of s n ≡ Some t)
      × (s.locks k ≡ Some t.thread) × (gives_back k t.list 1 ≡ true))
  pub others : (n : Tid) (t : Task) → task_of s n ≡ Some t → (holder ≡ Some n → ⊥)
      → gives_back k t.list 0 ≡ true

-- in every reached state, for each lock
abbrev pub LocksAreHeld : Type 0
LocksAreHeld = (p : Program) (events : List (ℕ × Event)) (s : State) → Reached p events s
    → (k : ℕ) → (holder : Option Tid) × IsHeldBy s k holder
