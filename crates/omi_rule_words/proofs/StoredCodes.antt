-- A record has its codes after a store: of a field of another part of the object, or of one that an object alone doesn't tell.
use Rattle.std.proofs.Common.{◌≡◌, ◌≢◌, ◌==◌, ℕ, zero, suc, Bool, true, false, List, [], ◌∷◌, Option, Some, refl, ap, ◌∙◌, arith, ◌<◌, ◌≤◌, None, nat_lt, if◌then◌else◌, eqb-true, inl, inr}
use Rattle.std.specs.Prelude.{◌⊎◌}
use Rattle.std.specs.List.{list_any}
use Rattle.omi_numbers.specs.Words.{flag, state_word}
use Rattle.omi_numbers.specs.declared.limits.TheConstants.{OWN_SLOTS}
use Rattle.omi_model.specs.declared.claim.Claim.{Claim}
use Rattle.omi_model.specs.declared.id.Tid.{Tid}
use Rattle.omi_model.specs.declared.task.Task.{Task}
use Rattle.omi_model.proofs.Slots.{some_same}
use Rattle.omi_layout.specs.declared.field.Field.{Field}
use Rattle.omi_layout.specs.declared.field.Field.TheVariants.{RegionLeft, RegionPending, TaskChildren, TaskEnter, TaskExit, TaskNumber, TaskScheduling, TaskSlots, TaskThread, ThreadAssign, ThreadClaim, ThreadCurrent, ThreadLife, ThreadState, TaskReferences}
use Rattle.omi_layout.specs.Memory.{Rec, with_word_in}
use Rattle.omi_layout.specs.Named.{number}
use Rattle.omi_layout.specs.declared.limits.TheConstants.{COUNT_PLACE, GROUP_PLACE, OPEN_PLACE}
use Rattle.omi_layout.specs.Table.{width}
use Rattle.omi_rep.specs.Codes.{HasCodes, RegionWords, TaskWords, ThreadWords, claim_word, is_place, region_code, task_code, task_told, thread_code, group_code}
use Rattle.omi_rep.specs.Records.{task_word, group_word}
use Rattle.omi_rep.proofs.Codes.{same_word}
use Rattle.omi_rule_words.specs.Objects.{KeepsEnvironment, KeepsPlace}

-- ---- threads

module _ (w : List ℕ) (i : ℕ) (r : Rec) (h : ThreadWords) (o : HasCodes (thread_code w i h) r) where
  pub life_stored : (begun : Bool)
      → HasCodes (thread_code w i (record h { begun = begun })) (with_word_in r (number ThreadLife) 0 (flag begun))
  life_stored begun ThreadLife zero word is = same_word _ _ is
  life_stored begun ThreadLife (suc at) word is = absurd (cc)
  life_stored begun f at word is = o f at word is

  pub current_code_stored : (current : Option Tid)
      → HasCodes (thread_code w i (record h { current = current })) (with_word_in r (number ThreadCurrent) 0 (task_word w current))
  current_code_stored current ThreadCurrent zero word is = same_word _ _ is
  current_code_stored current ThreadCurrent (suc at) word is = absurd (cc)
  current_code_stored current f at word is = o f at word is

  pub state_stored : (state wait : ℕ)
      → HasCodes (thread_code w i (record h { state = state; wait = wait })) (with_word_in r (number ThreadState) 0 (state_word state wait))
  state_stored state wait ThreadState zero word is = same_word _ _ is
  state_stored state wait ThreadState (suc at) word is = absurd (cc)
  state_stored state wait f at word is = o f at word is

  pub claim_stored : (claim : Claim)
      → HasCodes (thread_code w i (record h { claim = claim })) (with_word_in r (number ThreadClaim) 0 (claim_word claim))
  claim_stored claim ThreadClaim zero word is = same_word _ _ is
  claim_stored claim ThreadClaim (suc at) word is = absurd (cc)
  claim_stored claim f at word is = o f at word is

  pub assign_stored : (task : ℕ) → HasCodes (thread_code w i h) (with_word_in r (number ThreadAssign) 0 task)
  assign_stored task ThreadAssign at word is = absurd (cc)
  assign_stored task f at word is = o f at word is

-- ---- regions and tasks

-- a region doesn't tell the counts of its record
pub region_apart : (w : List ℕ) (r : RegionWords) (f : Field) (at word : ℕ) → region_code w r f at ≡ Some word
    → (number f ≢ number RegionPending) × (number f ≢ number RegionLeft)
region_apart w r RegionPending at word is = absurd (cc)
region_apart w r RegionLeft at word is = absurd (cc)
region_apart w r f at word is = (λ e. absurd (omega (arith, e)), λ e. absurd (omega (arith, e)))

-- a task tells two words of its last field: its group's, and the number of its open groups
pub group_told : (w : List ℕ) (t : TaskWords) (at word : ℕ) → task_code w t TaskSlots at ≡ Some word
    → ((at ≡ GROUP_PLACE) × (group_word w t.group ≡ word)) ⊎ ((at ≡ OPEN_PLACE) × (t.open_groups ≡ word))
group_told w t at word is = go (nat_lt at (width w (number TaskSlots))) is
  where
    places : (b c : Bool) → at == GROUP_PLACE ≡ b → at == OPEN_PLACE ≡ c
        → (if b then Some (group_word w t.group) else (if c then Some t.open_groups else None)) ≡ Some word
        → ((at ≡ GROUP_PLACE) × (group_word w t.group ≡ word)) ⊎ ((at ≡ OPEN_PLACE) × (t.open_groups ≡ word))
    places true c first second some = inl (eqb-true at GROUP_PLACE first, some_same refl some)
    places false true first second some = inr (eqb-true at OPEN_PLACE second, some_same refl some)
    places false false first second none = absurd (cc)

    go : (b : Bool) → (if b then group_code w t at else None) ≡ Some word
        → ((at ≡ GROUP_PLACE) × (group_word w t.group ≡ word)) ⊎ ((at ≡ OPEN_PLACE) × (t.open_groups ≡ word))
    go true some = places (at == GROUP_PLACE) (at == OPEN_PLACE) refl refl some
    go false none = absurd (cc)

-- nor a task the counts of its: of children, of references, and of groups. Of the words of its last field it tells the two between the slots
-- and these counts
pub record IsTold (f : Field) (at : ℕ) : Type 0 where
  pub children : number f ≢ number TaskChildren
  pub references : number f ≢ number TaskReferences
  pub slots : number f ≡ number TaskSlots → OWN_SLOTS ≤ at
  pub counts : number f ≡ number TaskSlots → at < COUNT_PLACE

pub task_apart : (w : List ℕ) (t : TaskWords) (f : Field) (at word : ℕ) → task_code w t f at ≡ Some word → IsTold f at
task_apart w t TaskChildren at word is = absurd (cc)
task_apart w t TaskReferences at word is = absurd (cc)
task_apart w t TaskSlots at word is = go (group_told w t at word is)
  where
    told : OWN_SLOTS ≤ at → at < COUNT_PLACE → IsTold TaskSlots at
    told behind before =
        record { children = λ e. absurd (omega (arith, e)); references = λ e. absurd (omega (arith, e)); slots = λ _. behind; counts = λ _. before }

    go : ((at ≡ GROUP_PLACE) × (group_word w t.group ≡ word)) ⊎ ((at ≡ OPEN_PLACE) × (t.open_groups ≡ word)) → IsTold TaskSlots at
    go (inl (place, _)) = told (omega (arith, place)) (omega (arith, place))
    go (inr (place, _)) = told (omega (arith, place)) (omega (arith, place))
task_apart w t f at word is =
    record { children = λ e. absurd (omega (arith, e)); references = λ e. absurd (omega (arith, e)); slots = λ e. absurd (omega (arith, e)); counts = λ e. absurd (omega (arith, e)) }

-- a field of a task's place is another than one that is none
pub place_apart : (f g : Field) → is_place f ≡ true → is_place g ≡ false → number f ≢ number g
place_apart f g one none same =
    clash one
    (ap (λ n. list_any (λ x. number x == n) (TaskThread ∷ TaskNumber ∷ TaskScheduling ∷ TaskExit ∷ TaskEnter ∷ [])) same ∙ none)
  where
    clash : {b : Bool} → b ≡ true → b ≡ false → ⊥
    clash p q = cc

-- a task has the codes of its environment wherever its place is
pub environment_placed : (w : List ℕ) (r : Rec) (t : Task) (thread member : ℕ) (scheduling : Option Tid) (exit enter : ℕ)
    → KeepsEnvironment w r t
    → KeepsEnvironment w r
    (record t { thread = thread; number = member; scheduling = scheduling; exit = exit; enter = enter })
environment_placed w r t thread member scheduling exit enter o TaskThread at word none is = absurd (cc)
environment_placed w r t thread member scheduling exit enter o TaskNumber at word none is = absurd (cc)
environment_placed w r t thread member scheduling exit enter o TaskScheduling at word none is = absurd (cc)
environment_placed w r t thread member scheduling exit enter o TaskExit at word none is = absurd (cc)
environment_placed w r t thread member scheduling exit enter o TaskEnter at word none is = absurd (cc)
environment_placed w r t thread member scheduling exit enter o f at word none is = o f at word none is

-- all codes are those of the environment and of the place
pub all_codes : (w : List ℕ) (r : Rec) (t : Task) → KeepsEnvironment w r t → KeepsPlace w r t
    → HasCodes (task_code w (task_told t)) r
all_codes w r t environment place f at word is = go (is_place f) refl
  where
    go : (b : Bool) → is_place f ≡ b → r (number f) at ≡ word
    go true e = place f at word e is
    go false e = environment f at word e is
