-- The record that was filled for a new task has the codes of the task that its plan tells, of an implicit one and of an explicit one.
use Rattle.std.proofs.Common.{◌≡◌, ◌+◌, ◌⊎◌, inl, inr, ◌==◌, ◌<◌, ◌≤◌, ◌&&◌, ℕ, zero, suc, Bool, true, false, List, [], ◌∷◌, length, slice_get, Option, Some, None, refl, sym, subst, ◌∙◌, arith, eqb-true, if◌then◌else◌}
use Rattle.std.specs.Prelude.{slice_index_or}
use Rattle.std.proofs.lemmas.Option.{slice_get_within}
use Rattle.omi_model.specs.declared.id.Tid.{Tid}
use Rattle.omi_model.specs.declared.task.Variables.{Variables}
use Rattle.omi_model.specs.declared.group.Group.{Group}
use Rattle.omi_layout.specs.declared.field.Field.{Field}
use Rattle.omi_layout.specs.declared.field.Field.TheVariants.{TaskDevice, TaskDynamic, TaskExit, TaskNthreads, TaskNthreadsLength, TaskNumber, TaskSchedule, TaskScheduling, TaskSlots, TaskThread}
use Rattle.omi_layout.specs.Memory.{Rec}
use Rattle.omi_layout.specs.Named.{number}
use Rattle.omi_layout.specs.declared.limits.TheConstants.{COUNT_PLACE, GROUP_PLACE, OPEN_PLACE}
use Rattle.omi_pc.specs.declared.limits.TheConstants.{TASK_WORDS}
use Rattle.omi_rep.specs.Codes.{HasCodes, TaskWords, is_place, task_code}
use Rattle.omi_rep.proofs.Codes.{same_word}
use Rattle.omi_rep.specs.Records.{group_word}
use Rattle.omi_rule_words.specs.Threads.{Has}
use Rattle.omi_rule_words.proofs.StoredCodes.{group_told}
use Rattle.omi_step_words.specs.declared.plan.NewTask.{NewTask}
use Rattle.omi_step_words.specs.declared.plan.Planned.{Planned}
use Rattle.omi_step_words.specs.Plan.{planned_task, task_plan, task_words, zero_in}
use Rattle.omi_rule.specs.Rows.{IsFilled}
use Rattle.omi_rule.proofs.team.Inherits.{AreVariables}
use Rattle.omi_numbers.specs.declared.limits.TheConstants.{OPEN_GROUPS}

-- the codes of a task beside those of its place don't tell its place
pub same_environment : (w : List ℕ) (t : TaskWords) (thread number exit : ℕ) (scheduling : Option Tid) (f : Field) (at : ℕ)
    → is_place f ≡ false
    → task_code w t f at ≡ task_code w (record t { thread = thread; number = number; scheduling = scheduling; exit = exit }) f at
same_environment w t thread number exit scheduling TaskThread at none = absurd (cc)
same_environment w t thread number exit scheduling TaskNumber at none = absurd (cc)
same_environment w t thread number exit scheduling TaskScheduling at none = absurd (cc)
same_environment w t thread number exit scheduling TaskExit at none = absurd (cc)
same_environment w t thread number exit scheduling f at none = refl

-- ---- the words of a plan

-- the word that is planned for a place of a field, if there is one
abbrev word_in : List Planned → ℕ → ℕ → Option ℕ
word_in [] f at = None
word_in (x ∷ xs) f at = if (number x.field == f) && (x.at == at) then Some x.value else word_in xs f at

stands_in : (r : Rec) (xs : List Planned) (d : Planned)
    → ((j : ℕ) → j < length xs → r (number (slice_index_or xs j d).field) (slice_index_or xs j d).at ≡ (slice_index_or xs j d).value)
    → (f at word : ℕ) → word_in xs f at ≡ Some word → r f at ≡ word
stands_in r [] d each f at word is = absurd (cc)
stands_in r (x ∷ xs) d each f at word is =
    go (number x.field == f) refl (x.at == at) refl is
    (stands_in r xs d (λ j within. each (suc j) (omega (arith, within))) f at word)
  where
    go : (b : Bool) → number x.field == f ≡ b → (c : Bool) → x.at == at ≡ c
        → (if b && c then Some x.value else word_in xs f at) ≡ Some word
        → (word_in xs f at ≡ Some word → r f at ≡ word) → r f at ≡ word
    go true e true h is behind =
        subst (λ k. r k at ≡ word) (eqb-true (number x.field) f e)
        (subst (λ k. r (number x.field) k ≡ word) (eqb-true x.at at h) (each 0 (omega arith) ∙ same_word x.value word is))
    go true e false h is behind = behind is
    go false e c h is behind = behind is

-- a planned word is the code of its field, if it has one
abbrev AgreesWith : Option ℕ → Option ℕ → Type 0
AgreesWith None planned = planned ≡ planned
AgreesWith (Some code) planned = planned ≡ Some code

planned_code : (code planned : Option ℕ) (word : ℕ) → AgreesWith code planned → code ≡ Some word
    → planned ≡ Some word
planned_code None planned word agrees is = absurd (cc)
planned_code (Some code) planned word agrees is = agrees ∙ is

module _ (w : List ℕ) (n : NewTask) (r : Rec) (filled : IsFilled r (task_plan w n) TASK_WORDS) where
  pub planned_stands : (f : Field) (at word : ℕ) → word_in (task_words w n) (number f) at ≡ Some word
      → Has r f at word
  planned_stands f at word is =
      stands_in r (task_words w n) (zero_in TaskSlots 9) filled (number f) at word is

  -- it counts no tasks of its groups
  pub counts_stand : (index : ℕ) → index < OPEN_GROUPS → Has r TaskSlots (COUNT_PLACE + index) 0
  counts_stand zero few = planned_stands TaskSlots COUNT_PLACE 0 refl
  counts_stand (suc zero) few = planned_stands TaskSlots (COUNT_PLACE + 1) 0 refl
  counts_stand (suc (suc zero)) few = planned_stands TaskSlots (COUNT_PLACE + 2) 0 refl
  counts_stand (suc (suc (suc zero))) few = planned_stands TaskSlots (COUNT_PLACE + 3) 0 refl
  counts_stand (suc (suc (suc (suc index)))) few = absurd (omega (arith, few))

  pub planned_codes : (v : Variables) (g : Option Group) → n.group ≡ group_word w g → AreVariables n.variables v
      → length v.nthreads ≤ 4 → HasCodes (task_code w (planned_task n v g)) r
  planned_codes v g group are few = codes
    where
      elements : (k x : ℕ) → slice_get v.nthreads k ≡ Some x → Has r TaskNthreads k x
      elements zero x there = planned_stands TaskNthreads 0 _ refl ∙ are.elements 0 x there
      elements (suc zero) x there = planned_stands TaskNthreads 1 _ refl ∙ are.elements 1 x there
      elements (suc (suc zero)) x there = planned_stands TaskNthreads 2 _ refl ∙ are.elements 2 x there
      elements (suc (suc (suc zero))) x there = planned_stands TaskNthreads 3 _ refl ∙ are.elements 3 x there
      elements (suc (suc (suc (suc k)))) x there =
          let within : suc (suc (suc (suc k))) < length v.nthreads =
          slice_get_within v.nthreads (suc (suc (suc (suc k)))) x there in
          absurd (omega (arith, within, few))

      slots : (at x : ℕ) → ((at ≡ GROUP_PLACE) × (group_word w g ≡ x)) ⊎ ((at ≡ OPEN_PLACE) × (0 ≡ x))
          → r (number TaskSlots) at ≡ x
      slots at x (inl (place, is)) =
          subst (λ k. r (number TaskSlots) k ≡ x) (sym place) (planned_stands TaskSlots GROUP_PLACE n.group refl ∙ (group ∙ is))
      slots at x (inr (place, is)) =
          subst (λ k. r (number TaskSlots) k ≡ x) (sym place) (planned_stands TaskSlots OPEN_PLACE 0 refl ∙ is)

      codes : HasCodes (task_code w (planned_task n v g)) r
      codes TaskDynamic zero x told = planned_stands TaskDynamic 0 _ refl ∙ are.dynamic ∙ same_word _ _ told
      codes TaskNthreadsLength zero x told =
          planned_stands TaskNthreadsLength 0 _ refl ∙ are.size ∙ same_word _ _ told
      codes TaskSchedule zero x told = planned_stands TaskSchedule 0 _ refl ∙ are.schedule ∙ same_word _ _ told
      codes TaskDevice zero x told = planned_stands TaskDevice 0 _ refl ∙ are.device ∙ same_word _ _ told
      codes TaskNthreads k x told = elements k x told
      codes TaskSlots at x told = slots at x (group_told w (planned_task n v g) at x told)
      codes f zero x told =
          planned_stands f 0 x
          (planned_code (task_code w (planned_task n v g) f 0) (word_in (task_words w n) (number f) 0) x refl told)
      codes f (suc at) x told = absurd (cc)
