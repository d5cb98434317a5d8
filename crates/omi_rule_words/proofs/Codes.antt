-- The code by which a deferred task stands in a slot tells the task, and is not 0.
use Rattle.std.proofs.Common.{◌≡◌, ◌≢◌, ◌==◌, ℕ, ◌+◌, ◌*◌, ◌/◌, ◌%◌, ◌^◌, ◌<◌, Bool, true, false, List, Some, refl, sym, ap, ◌∙◌, arith, eq-eqb, ne_eqb}
use Rattle.std.proofs.lemmas.Bool.Decides.{nat_tests}
use Rattle.std.proofs.lemmas.Nat.{div-mul-add, mod-mul-add}
use Rattle.omi_rep.specs.Records.{slot_word}
use Rattle.omi_model.specs.declared.id.Id.{Id}
use Rattle.omi_model.specs.declared.id.Tid.{Tid}
use Rattle.omi_model.specs.declared.task.Task.{Task}
use Rattle.omi_model.specs.State.{State, task_of}
use Rattle.omi_model.proofs.Slots.{id_same}
use Rattle.omi_layout.specs.Field.{tasks}
use Rattle.omi_layout.specs.Place.{IsSlot, index_of}
use Rattle.omi_layout.specs.Table.{per_thread}
use Rattle.omi_layout.specs.Valid.{IsValid}
use Rattle.omi_layout.proofs.Arenas.{index_few, tasks_of_valid, threads_of_valid}
use Rattle.omi_rep.specs.Shows.{IsWithin}
use Rattle.omi_rule_words.specs.Counts.{is_task, one}
use Rattle.omi_rule_words.proofs.OtherCounts.{is_own_id}

-- a live task has a record of the layout
pub has_record : (w : List ℕ) (s : State) (k : Tid) (t : Task) → IsWithin w s → task_of s k ≡ Some t
    → IsSlot w tasks k.0.creator k.0.slot
has_record w s k t within live =
    let at = within.tasks k.0.creator k.0.slot k.0.generation t live in record { made_by = at.maker; within = at.place }

pub code_some : (w : List ℕ) (k : Tid) → slot_word w k ≢ 0
code_some w k none = omega (arith, none)

module _ (w : List ℕ) (v : IsValid w) where
  index_low : (k : Tid) → IsSlot w tasks k.0.creator k.0.slot → index_of w tasks k.0.creator k.0.slot < 2 ^ 24
  index_low k there =
      let few = index_few w tasks k.0.creator k.0.slot (omega arith) (threads_of_valid w v) (tasks_of_valid w v) there in omega (arith, few)

  pub code_tells : (a b : Tid) → IsSlot w tasks a.0.creator a.0.slot → IsSlot w tasks b.0.creator b.0.slot
      → slot_word w a ≡ slot_word w b → a ≡ b
  code_tells a b first second same =
      let life : 2 * a.0.generation + 1 ≡ 2 * b.0.generation + 1
      = sym (div-mul-add (2 * a.0.generation + 1) (2 ^ 24) (index_of w tasks a.0.creator a.0.slot) (index_low a first)) ∙ (ap (λ x. x / 2 ^ 24) same
      ∙ div-mul-add (2 * b.0.generation + 1) (2 ^ 24) (index_of w tasks b.0.creator b.0.slot) (index_low b second)) in
      let index : index_of w tasks a.0.creator a.0.slot ≡ index_of w tasks b.0.creator b.0.slot
      = sym (mod-mul-add (2 * a.0.generation + 1) (2 ^ 24) (index_of w tasks a.0.creator a.0.slot) (index_low a first)) ∙ (ap (λ x. x % 2 ^ 24) same
      ∙ mod-mul-add (2 * b.0.generation + 1) (2 ^ 24) (index_of w tasks b.0.creator b.0.slot) (index_low b second)) in
      let creator : a.0.creator ≡ b.0.creator
      = sym (div-mul-add a.0.creator (per_thread w tasks) a.0.slot first.within)
      ∙
      (ap (λ x. x / per_thread w tasks) index ∙ div-mul-add b.0.creator (per_thread w tasks) b.0.slot second.within) in
      let slot : a.0.slot ≡ b.0.slot
      = sym (mod-mul-add a.0.creator (per_thread w tasks) a.0.slot first.within)
      ∙
      (ap (λ x. x % per_thread w tasks) index ∙ mod-mul-add b.0.creator (per_thread w tasks) b.0.slot second.within) in
      ap (λ (n : Id). record { 0 = n }) (id_same a.0 b.0 creator slot (omega (arith, life)))

  -- codes are compared as names are
  pub same_codes : (a b : Tid) → IsSlot w tasks a.0.creator a.0.slot → IsSlot w tasks b.0.creator b.0.slot
      → one (slot_word w a == slot_word w b) ≡ one (is_task b a)
  same_codes a b first second = go (is_task b a) refl
    where
      go : (x : Bool) → is_task b a ≡ x → one (slot_word w a == slot_word w b) ≡ one x
      go true e =
          let creator : a.0.creator ≡ b.0.creator = grind (arith, nat_tests) in
          let slot : a.0.slot ≡ b.0.slot = grind (arith, nat_tests) in
          let generation : a.0.generation ≡ b.0.generation = grind (arith, nat_tests) in
          ap one
          (eq-eqb (slot_word w a) (slot_word w b) (ap (λ (n : Id). slot_word w (record { 0 = n })) (id_same a.0 b.0 creator slot generation)))
      go false e =
          ap one (ne_eqb (slot_word w a) (slot_word w b) (λ same.
          let own : is_task b a ≡ true = ap (is_task b) (code_tells a b first second same) ∙ is_own_id b.0 in
          clash own e))
        where
          clash : {x : Bool} → x ≡ true → x ≡ false → ⊥
          clash p q = cc
