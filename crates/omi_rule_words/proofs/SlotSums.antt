-- One word of a row's slots for deferred tasks is stored: in how many slots a word stands then.
use Rattle.std.proofs.Common.{◌≡◌, ◌==◌, ◌+◌, ◌<◌, ◌≤◌, ℕ, true, List, Some, refl, ap, ◌∙◌, arith, eq-eqb, if◌then◌else◌}
use Rattle.omi_model.specs.declared.id.Tid.{Tid}
use Rattle.omi_model.specs.declared.task.Task.{Task}
use Rattle.omi_model.specs.State.{State}
use Rattle.omi_numbers.specs.declared.limits.TheConstants.{OWN_SLOTS}
use Rattle.omi_layout.specs.declared.field.Field.TheVariants.{TaskSlots}
use Rattle.omi_layout.specs.Field.{tasks}
use Rattle.omi_layout.specs.Memory.{Memory, Rec}
use Rattle.omi_layout.specs.Named.{number}
use Rattle.omi_layout.specs.Table.{per_thread}
use Rattle.omi_layout.proofs.Puts.{record_stays, word_read, word_stays}
use Rattle.omi_rule_words.specs.Counts.{of_live, one, sum_below}
use Rattle.omi_rule_words.specs.ExplicitKinds.{slot_of, with_slot}
use Rattle.omi_rule_words.specs.Objects.{slots_with}
use Rattle.omi_rule_words.proofs.Sums.{part_below, sum_changed, sum_same}

module _ (w : List ℕ) (s : State) (row : Tid) (u : Task) (place : ℕ)
    (there : (s.tasks row.0.creator row.0.slot).live ≡ Some u) (implicit : u.implicit ≡ true)
    (maker : row.0.creator < s.count) (within : row.0.slot < per_thread w tasks)
    (inside : place < OWN_SLOTS) where
  -- the slots of a record that hold a word, and those of a live task
  abbrev in_record : Rec → ℕ → ℕ
  in_record r code = sum_below OWN_SLOTS (λ p. one (r (number TaskSlots) p == code))

  abbrev in_task : Rec → ℕ → ℕ → ℕ → ℕ
  in_task r code c j = of_live (λ (t : Task). if t.implicit then in_record r code else 0) (s.tasks c j).live

  in_row : (r : Rec) (code : ℕ) → in_task r code row.0.creator row.0.slot ≡ in_record r code
  in_row r code =
      ap (of_live (λ (t : Task). if t.implicit then in_record r code else 0)) there
      ∙ ap (λ b. if b then in_record r code else 0) implicit

  -- a word that stands in a slot of the row is counted
  pub slot_counted : (m : Memory) → 1 ≤ slots_with w (λ c. m c tasks) s (slot_of m row place)
  slot_counted m =
      let code : ℕ = slot_of m row place in
      let here : one (slot_of m row place == code) ≡ 1 = ap one (eq-eqb code code refl) in
      let first =
      part_below OWN_SLOTS place
      (λ p. one (m row.0.creator tasks row.0.slot (number TaskSlots) p == code)) inside in
      let is = in_row (m row.0.creator tasks row.0.slot) code in
      let second =
      part_below (per_thread w tasks) row.0.slot
      (λ j. in_task (m row.0.creator tasks j) code row.0.creator j) within in
      let third =
      part_below s.count row.0.creator
      (λ c. sum_below (per_thread w tasks) (λ j. in_task (m c tasks j) code c j)) maker in
      omega (arith, here, first, is, second, third)

  pub slots_changed : (m : Memory) (word code : ℕ)
      → slots_with w (λ c. with_slot m row place word c tasks) s code + one (slot_of m row place == code) ≡ slots_with w (λ c. m c tasks) s code + one (word == code)
  slots_changed m word code =
      let here : one (slot_of after row place == code) ≡ one (word == code) =
      ap (λ x. one (x == code)) (word_read m row.0.creator tasks row.0.slot (number TaskSlots) place word) in
      let first = sum_changed OWN_SLOTS place (λ p. one (m row.0.creator tasks row.0.slot (number TaskSlots) p == code))
      (λ p. one (after row.0.creator tasks row.0.slot (number TaskSlots) p == code)) inside
      (λ p ne. ap (λ x. one (x == code)) (word_stays m row.0.creator tasks row.0.slot (number TaskSlots) place word row.0.creator tasks row.0.slot (number TaskSlots) p (λ _ _ _ _ same. ne same))) in
      let before = in_row (m row.0.creator tasks row.0.slot) code in
      let now = in_row (after row.0.creator tasks row.0.slot) code in
      let second = sum_changed (per_thread w tasks) row.0.slot (λ j. in_task (m row.0.creator tasks j) code row.0.creator j) (λ j. in_task (after row.0.creator tasks j) code row.0.creator j) within
      (λ j ne. ap (λ (r : Rec). in_task r code row.0.creator j) (record_stays m row.0.creator tasks row.0.slot (number TaskSlots) place word row.0.creator tasks j (λ _ _ same. ne same))) in
      let third =
      sum_changed s.count row.0.creator (λ c. of_creator m c) (λ c. of_creator after c) maker
      (λ c ne. beside c ne) in
      omega (arith, here, first, before, now, second, third)
    where
      after : Memory
      after = with_slot m row place word

      of_creator : Memory → ℕ → ℕ
      of_creator x c = sum_below (per_thread w tasks) (λ j. in_task (x c tasks j) code c j)

      beside : (c : ℕ) → (c ≡ row.0.creator → ⊥) → of_creator after c ≡ of_creator m c
      beside c ne =
          sum_same (per_thread w tasks) (λ j. in_task (after c tasks j) code c j)
          (λ j. in_task (m c tasks j) code c j)
          (λ j. ap (λ (r : Rec). in_task r code c j) (record_stays m row.0.creator tasks row.0.slot (number TaskSlots) place word c tasks j (λ same _ _. ne same)))
