-- The words of a plan are words of the records of its kind, and once stored they stay.
use Rattle.std.proofs.Common.{◌≡◌, ◌≢◌, ◌==◌, ◌+◌, ◌<◌, ◌&&◌, nat_lt, ℕ, zero, suc, Bool, true, false, List, [], ◌∷◌, length, refl, sym, ◌∙◌, subst, arith, eq-eqb, eqb-true, ltb-true}
use Rattle.std.specs.Prelude.{slice_index_or}
use Rattle.omi_layout.specs.declared.field.Field.TheVariants.{TaskLife}
use Rattle.omi_layout.specs.declared.limits.TheConstants.{FIELDS}
use Rattle.omi_layout.proofs.Arenas.{test_left, test_right}
use Rattle.omi_layout.specs.Field.{kind_of, regions, tasks}
use Rattle.omi_layout.specs.Memory.{IsRecordWord, Rec}
use Rattle.omi_layout.specs.Named.{number}
use Rattle.omi_layout.specs.Place.{IsSlot}
use Rattle.omi_layout.specs.Table.{width}
use Rattle.omi_pc.specs.declared.limits.TheConstants.{REGION_WORDS, TASK_WORDS}
use Rattle.omi_step_words.specs.declared.plan.NewRegion.{NewRegion}
use Rattle.omi_step_words.specs.declared.plan.NewTask.{NewTask}
use Rattle.omi_step_words.specs.declared.plan.Planned.{Planned}
use Rattle.omi_step_words.specs.Placed.{HasGroupWords}
use Rattle.omi_step_words.specs.Plan.{region_plan, region_words, task_plan, task_words}
use Rattle.omi_step_words.specs.PlanLaws.{rank}
use Rattle.omi_rule.specs.Rows.{IsFilled}

-- a planned word: of a field of the kind, between the life word and a last field
pub record IsPlannedWord (w : List ℕ) (kind life last : ℕ) (x : Planned) : Type 0 where
  pub kind_is : kind_of (number x.field) ≡ kind
  pub within : x.at < width w (number x.field)
  pub above : life < number x.field
  pub below : number x.field < last

abbrev is_planned : List ℕ → ℕ → ℕ → ℕ → Planned → Bool
is_planned w kind life last x =
    (kind_of (number x.field) == kind && nat_lt x.at (width w (number x.field))) && (nat_lt life (number x.field) && nat_lt (number x.field) last)

abbrev are_planned : List ℕ → ℕ → ℕ → ℕ → List Planned → Bool
are_planned w kind life last [] = true
are_planned w kind life last (x ∷ xs) = is_planned w kind life last x && are_planned w kind life last xs

each_planned : (w : List ℕ) (kind life last : ℕ) (xs : List Planned) (d : Planned) (k : ℕ)
    → are_planned w kind life last xs ≡ true → k < length xs
    → IsPlannedWord w kind life last (slice_index_or xs k d)
each_planned w kind life last [] d k all within = absurd (omega (arith, within))
each_planned w kind life last (x ∷ xs) d zero all within =
    let here : is_planned w kind life last x ≡ true =
    test_left (is_planned w kind life last x) (are_planned w kind life last xs) all in
    let first : (kind_of (number x.field) == kind && nat_lt x.at (width w (number x.field))) ≡ true =
    test_left (kind_of (number x.field) == kind && nat_lt x.at (width w (number x.field)))
    (nat_lt life (number x.field) && nat_lt (number x.field) last) here in
    let second : (nat_lt life (number x.field) && nat_lt (number x.field) last) ≡ true =
    test_right (kind_of (number x.field) == kind && nat_lt x.at (width w (number x.field)))
    (nat_lt life (number x.field) && nat_lt (number x.field) last) here in
    record {
      kind_is = eqb-true (kind_of (number x.field)) kind (test_left (kind_of (number x.field) == kind) (nat_lt x.at (width w (number x.field))) first);
      within = ltb-true x.at (width w (number x.field)) (test_right (kind_of (number x.field) == kind) (nat_lt x.at (width w (number x.field))) first);
      above = ltb-true life (number x.field) (test_left (nat_lt life (number x.field)) (nat_lt (number x.field) last) second);
      below = ltb-true (number x.field) last (test_right (nat_lt life (number x.field)) (nat_lt (number x.field) last) second);
    }
each_planned w kind life last (x ∷ xs) d (suc k) all within =
    each_planned w kind life last xs d k
    (test_right (is_planned w kind life last x) (are_planned w kind life last xs) all) (omega (arith, within))

pub region_planned : (w : List ℕ) (n : NewRegion) (k : ℕ) → k < REGION_WORDS
    → IsPlannedWord w regions 13 24 (region_plan w n k)
region_planned w n k within = each_planned w regions 13 24 (region_words w n) _ k refl within

-- of a layout that has words for groups
pub task_planned : (w : List ℕ) (t : NewTask) (k : ℕ) → HasGroupWords w → k < TASK_WORDS
    → IsPlannedWord w tasks (number TaskLife) (FIELDS + 1) (task_plan w t k)
task_planned w t k groups within =
    let all : are_planned w tasks (number TaskLife) (FIELDS + 1) (task_words w t) ≡ true = rw groups refl in
    each_planned w tasks (number TaskLife) (FIELDS + 1) (task_words w t) _ k all within

pub planned_there : (w : List ℕ) (kind life last creator slot : ℕ) (x : Planned) → last < FIELDS + 2
    → IsSlot w kind creator slot → IsPlannedWord w kind life last x
    → IsRecordWord w creator slot (number x.field) x.at
planned_there w kind life last creator slot x few there o = record {
  field = record { from = (let above = o.above in omega (arith, above)); to = (let below = o.below in omega (arith, below, few)) };
  record_slot = subst (λ q. IsSlot w q creator slot) (sym o.kind_is) there;
  within = o.within;
}

-- one word more of a plan stands
pub fill_next : (r q : Rec) (plan : ℕ → Planned) (word limit : ℕ)
    → q (number (plan word).field) (plan word).at ≡ (plan word).value
    → ((f k : ℕ) → (f ≡ number (plan word).field → k ≡ (plan word).at → ⊥) → q f k ≡ r f k)
    → ((j k : ℕ) → j < k → k < limit → rank (plan j) < rank (plan k)) → word < limit → IsFilled r plan word → IsFilled q plan (word + 1)
fill_next r q plan word limit here others up within o = λ j below. go j below (j == word) refl
  where
    go : (j : ℕ) → j < word + 1 → (b : Bool) → j == word ≡ b
        → q (number (plan j).field) (plan j).at ≡ (plan j).value
    go j below true e =
        subst (λ k. q (number (plan k).field) (plan k).at ≡ (plan k).value) (sym (eqb-true j word e)) here
    go j below false e =
        let apart : j ≢ word = λ same. cc (sym (eq-eqb j word same), e) in
        let before : j < word = omega (arith, below, apart) in
        others (number (plan j).field) (plan j).at
        (λ field place. let rises = up j word before within in absurd (omega (arith, rises, field, place)))
        ∙ o j before
