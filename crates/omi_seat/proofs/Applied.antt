-- An operation of a thread on its word of a table, whatever its kind.
use Rattle.std.proofs.Common.{◌≡◌, ◌<◌, ◌==◌, ℕ, Bool, true, false, refl, sym, subst, if◌then◌else◌}
use mathlib.Core.Path.{fun_ext}
use prog.Atomic.{either}
use Rattle.atomic_table.specs.Seated.{TableId}
use Rattle.atomic_table.specs.Table.{Allows, Me, State, Step}
use Rattle.omi_word.specs.declared.op.Op.{Op}
use Rattle.omi_word.specs.Memory.{address_of, left_of, place_of}
use Rattle.omi_seat.specs.Applied.{MayApply}

module _ {V : Type 0} {holds : State (Unit {0}) V → Type 0} {id : TableId} {seat : ℕ} {me : Me (Unit {0}) V}
    {op : Op} {told : Step (Unit {0}) → Me (Unit {0}) V → ℕ → Me (Unit {0}) V → Type 0}
    (may : MayApply holds id seat me op told) {place : ℕ} (at : place ≡ place_of (address_of op)) where
  -- the word is one of the table
  pub inside : place < id.words
  inside = subst (λ n. n < id.words) (sym at) may.inside

  -- the rule is kept
  pub allowed : {f : ℕ → ℕ} → ((n : ℕ) → left_of op n ≡ f n) → (st : Step (Unit {0}))
      → Allows holds id.slots seat me place f (told st me)
  allowed same st =
      subst (λ (g : ℕ → ℕ). Allows holds id.slots seat me place g (told st me)) (fun_ext same)
      (subst (λ k. Allows holds id.slots seat me k (left_of op) (told st me)) (sym at) (may.allows st))

-- a compare and exchange
pub exchanged : (n old new : ℕ) → (if n == old then new else n) ≡ either (n == old) new n
exchanged n old new = go (n == old)
  where
    go : (b : Bool) → (if b then new else n) ≡ either b new n
    go true = refl
    go false = refl
