-- An object of a name that is changed in place, and the current task of a thread.
use Rattle.std.proofs.Common.{◌≡◌, ◌==◌, ◌+◌, ◌<◌, ℕ, Bool, true, false, List, Option, Some, None, refl, sym, subst, arith, if◌then◌else◌}
use Rattle.std.specs.Option.{option_map}
use Rattle.omi_model.specs.declared.id.Id.{Id}
use Rattle.omi_model.specs.declared.id.Tid.{Tid}
use Rattle.omi_model.specs.declared.slot.Slot.{Slot}
use Rattle.omi_model.specs.Changes.{with_current}
use Rattle.omi_model.specs.Put.{Slots, changed, named, on}
use Rattle.omi_model.specs.State.{State}
use Rattle.omi_model.proofs.Slots.{each_slot}
use Rattle.omi_layout.specs.declared.field.Field.TheVariants.{ThreadCurrent}
use Rattle.omi_layout.specs.Field.{threads}
use Rattle.omi_layout.specs.Memory.{Memory, with_word}
use Rattle.omi_layout.specs.Named.{number}
use Rattle.omi_rep.specs.Codes.{thread_told}
use Rattle.omi_rep.specs.Records.{task_word}
use Rattle.omi_rule_words.specs.Owes.{Owed}
use Rattle.omi_rule_words.specs.Words.{KeepsWords}
use Rattle.omi_rule_words.proofs.Renewed.{Becomes, SlotBecomes}
use Rattle.omi_rule_words.proofs.StoredCodes.{current_code_stored}
use Rattle.omi_rule_words.proofs.ThreadStores.{thread_stores_keep}

-- all slots, where the object of a name is changed
pub on_becomes : {A : Type 0} (R : A → A → Type 0) → ((x : A) → R x x)
    → (slots : Slots A) (k : Id) (f : A → A) → ((x : A) → named slots k ≡ Some x → R x (f x))
    → (c j : ℕ) → SlotBecomes R (slots c j) (on slots k f c j)
on_becomes {A} R same slots k f here =
    each_slot slots k (λ c j (y : Slot A). SlotBecomes R (slots c j) y) (changed k.generation f x)
    (at_name (x.generations == k.generation + 1) refl) (λ c j _. stays (slots c j))
  where
    x : Slot A
    x = slots k.creator k.slot

    stays : (y : Slot A) → SlotBecomes R y y
    stays y = record { generations = refl; live = go y.live }
      where
        go : (o : Option A) → Becomes R o o
        go None = tt
        go (Some z) = same z

    at_name : (b : Bool) → x.generations == k.generation + 1 ≡ b
        → SlotBecomes R x (if b then record { generations = x.generations; live = option_map f x.live } else x)
    at_name true e = record { generations = refl; live = go x.live (λ z is. here z (subst (λ t. (if t then x.live else None) ≡ Some z) (sym e) is)) }
      where
        go : (o : Option A) → ((z : A) → o ≡ Some z → R z (f z)) → Becomes R o (option_map f o)
        go None each = tt
        go (Some z) each = each z refl
    at_name false e = stays x

-- another current task of a thread, where its record has it
pub current_stored : (w : List ℕ) (m : Memory) (s : State) (owes : ℕ → Owed) (i : ℕ) (k : Option Tid)
    → KeepsWords w m s owes → i < s.count
    → KeepsWords w (with_word m i threads 0 (number ThreadCurrent) 0 (task_word w k))
    (with_current s i k) owes
current_stored w m s owes i k keeps known =
    thread_stores_keep w m s owes i (record (s.threads i) { current = k }) ThreadCurrent (task_word w k) keeps
    (λ e. absurd (omega (arith, e)))
    (current_code_stored w i (m i threads 0) (thread_told (s.threads i)) (keeps.made i known).thread k)
