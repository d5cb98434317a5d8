-- Names of new objects.
use Rattle.std.specs.Prelude.{◌≡◌, ℕ, ◌^◌, ◌<◌, List, [], ◌∷◌, None, Contains, ⊤}
use Rattle.omi_model.specs.declared.id.Id.{Id}
use Rattle.omi_model.specs.Put.{Slots}

-- A name is fresh for a thread: the thread is its creator, no object lives in its slot, and its generation is the number of generations that the slot has had. Any such slot is lawful.
pub record IsFresh {A : Type 0} (slots : Slots A) (thread : ℕ) (n : Id) : Type 0 where
  pub creator : n.creator ≡ thread
  pub empty : (slots thread n.slot).live ≡ None
  pub next : n.generation ≡ (slots thread n.slot).generations
  pub below : n.generation < 2 ^ 32

-- no name stands twice
abbrev pub AreDistinct : {A : Type 0} → List A → Type 0
AreDistinct [] = ⊤
AreDistinct (x ∷ xs) = (Contains xs x → ⊥) × AreDistinct xs
