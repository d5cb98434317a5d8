-- Words at which no clause fails: each is mapped, every clause holds of it, and what it names is reached.
use Rattle.std.proofs.Common.{◌≡◌, ◌⊎◌, inl, inr, ℕ, suc, ◌/◌, ◌<◌, ◌&&◌, not, Bool, true, false, cond, List, [], ◌∷◌, map, Option, Some, None, refl, sym, ap, subst, ◌∙◌, eqb-true, eq-eqb, zero, ◌+◌, ◌++◌, length, arith}
use Rattle.std.specs.Prelude.{◌==◌, is_some, filter, slice_get}
use Rattle.std.specs.Option.{option_map_or, option_and_then}
use Rattle.std.specs.List.{flat_map, range_with_len}
use Rattle.omi_layout.specs.declared.field.Field.{Field}
use Rattle.omi_layout.specs.declared.field.Field.TheVariants.{RegionSize, RegionTeam, TaskNthreadsLength, TaskNthreads, TaskSlots}
use Rattle.omi_layout.specs.Field.{threads}
use Rattle.omi_layout.specs.Named.{number}
use Rattle.omi_layout.specs.Place.{slot_address, IsSlot}
use Rattle.omi_layout.specs.Table.{thread_count, version}
use Rattle.omi_layout.proofs.Arenas.{test_left, test_right}
use Rattle.omi_layout.specs.declared.limits.TheConstants.{GROUP_PLACE, GROUP_VERSION, OPEN_PLACE}
use Rattle.omi_model.specs.declared.id.Id.{Id}
use Rattle.omi_word.specs.Words.{Words}
use Rattle.omi_rep.specs.Look.{slot_at, live_at, life_of, is_live}
use Rattle.omi_rep.specs.Records.{record_at}
use Rattle.omi_rep.proofs.Slots.{slot_is}
use Rattle.omi_audit.specs.Clauses.{leads_to, led_to, may_be_none, clause_2, clause_3, clause_4, clause_5, clause_6, failing, pointer_clause}
use Rattle.omi_audit.specs.Search.{Place, word_at, region_places, value_places, group_places, task_places, record_places, thread_places, number_in, named_at, named_by, current_tasks, reached}
use Rattle.omi_audit.specs.Verdicts.{refused_at, failing_at}
use Rattle.omi_audit.specs.Judged.{place_at, named_by_thread, refused_among}
use Rattle.omi_audit.proofs.Chained.{all_has, each_clear, map_none, reached_next, named_there}
use Rattle.omi_audit.proofs.FirstOnes.{has, or_cases, or_first}
use Rattle.omi_audit.proofs.JudgedPlaces.{element_at}
use Rattle.omi_audit.proofs.JudgedRecords.{range_at}
use Rattle.omi_audit.proofs.NamedWords.{named_live, clause_of}
use Rattle.omi_audit.proofs.Reaches.{reached_whole}
use Rattle.omi_audit.proofs.Rounds.{has_first}

-- all of five tests pass where none of them is kept
all_pass : (n : ℕ) (a b c d e : Bool)
    → map (λ (clause : ℕ × Bool). clause.0) (filter (λ (clause : ℕ × Bool). not clause.1) ((2, a) ∷ (3, b) ∷ (n, c) ∷ (5, d) ∷ (6, e) ∷ [])) ≡ []
    → record { second : a ≡ true; third : b ≡ true; fourth : c ≡ true; fifth : d ≡ true; sixth : e ≡ true }
all_pass n true true true true true none = record { second = refl; third = refl; fourth = refl; fifth = refl; sixth = refl }
all_pass n false b c d e none = absurd (cc)
all_pass n true false c d e none = absurd (cc)
all_pass n true true false d e none = absurd (cc)
all_pass n true true true false e none = absurd (cc)
all_pass n true true true true false none = absurd (cc)

-- the places of two lists
pub in_front : {A : Type 0} (xs ys : List A) (k : ℕ) (x : A) → slice_get xs k ≡ Some x → slice_get (xs ++ ys) k ≡ Some x
in_front [] ys k x is = absurd (cc)
in_front (y ∷ xs) ys zero x is = is
in_front (y ∷ xs) ys (suc k) x is = in_front xs ys k x is

pub in_back : {A : Type 0} (xs ys : List A) (k : ℕ) (x : A) → slice_get ys k ≡ Some x → slice_get (xs ++ ys) (length xs + k) ≡ Some x
in_back [] ys k x is = ap (slice_get ys) (let same : 0 + k ≡ k = omega arith in same) ∙ is
in_back (y ∷ xs) ys k x is =
    ap (slice_get (y ∷ (xs ++ ys))) (let same : suc (length xs) + k ≡ suc (length xs + k) = omega arith in same) ∙ in_back xs ys k x is

pub in_either : {A : Type 0} (xs ys : List A) (k : ℕ) (x : A) → slice_get (xs ++ ys) k ≡ Some x
    → (slice_get xs k ≡ Some x) ⊎ ((j : ℕ) × (slice_get ys j ≡ Some x))
in_either [] ys k x is = inr (k, is)
in_either (y ∷ xs) ys zero x is = inl is
in_either (y ∷ xs) ys (suc k) x is = in_either xs ys k x is

-- behind the fields of a region and of a task
abbrev pub member_place : ℕ → ℕ
member_place at = suc (suc (suc (suc (suc (suc at)))))

abbrev pub element_place : ℕ → ℕ
element_place at = suc (suc (suc (suc (suc (suc (suc (suc (suc (member_place at)))))))))

module _ (w : List ℕ) (words : Words) where
  -- a word of a field of a record, 0 where it isn't mapped
  abbrev pub word_in : ℕ → Field → ℕ → ℕ
  word_in address f at = option_map_or (λ word. word) (record_at w words address (number f) at) 0

  -- no clause fails at a place
  pub record Passes (i : ℕ) (p : Place) : Type 0 where
    pub mapped : word_at w words p ≡ Some (word_in p.address p.field p.at)
    pub second : clause_2 w p.field (word_in p.address p.field p.at) ≡ true
    pub third : clause_3 i p.field (word_in p.address p.field p.at) ≡ true
    pub fourth : clause_4 w words p.field p.at (word_in p.address p.field p.at) ≡ true
    pub fifth : clause_5 w p.field (word_in p.address p.field p.at) ≡ true
    pub sixth : clause_6 w p.field p.at (word_in p.address p.field p.at) ≡ true

  pub passes : (i : ℕ) (p : Place) → refused_at w words i p ≡ [] → Passes i p
  passes i p none = go (word_at w words p) refl
    where
      go : (o : Option ℕ) → word_at w words p ≡ o → Passes i p
      go None e =
          absurd (let failed : 1 ∷ [] ≡ [] = ap (λ o. option_map_or (failing w words i p.field p.at) o (1 ∷ [])) (sym e) ∙ map_none _ (failing_at w words i p) none in cc)
      go (Some v) e =
          let is : word_in p.address p.field p.at ≡ v = ap (λ o. option_map_or (λ word. word) o 0) e in
          let all =
          all_pass (pointer_clause p.field) (clause_2 w p.field v) (clause_3 i p.field v) (clause_4 w words p.field p.at v) (clause_5 w p.field v)
          (clause_6 w p.field p.at v) (ap (λ o. option_map_or (failing w words i p.field p.at) o (1 ∷ [])) (sym e) ∙ map_none _ (failing_at w words i p) none) in
          record {
            mapped = e ∙ ap (λ (x : ℕ). Some x) (sym is);
            second = ap (clause_2 w p.field) is ∙ all.second;
            third = ap (clause_3 i p.field) is ∙ all.third;
            fourth = ap (clause_4 w words p.field p.at) is ∙ all.fourth;
            fifth = ap (clause_5 w p.field) is ∙ all.fifth;
            sixth = ap (clause_6 w p.field p.at) is ∙ all.sixth;
          }

  -- none at each of some places
  pub pass_each : (i : ℕ) (places : List Place) → refused_among w words i places ≡ [] → (k : ℕ) (p : Place)
      → slice_get places k ≡ Some p → Passes i p
  pass_each i places none k p is = passes i p (each_clear (refused_at w words i) places k p none is)

  -- a pointer is 0, where it may be, or leads to a live record
  pub points : (i : ℕ) (p : Place) (kind : ℕ) → leads_to p.field p.at ≡ Some kind → Passes i p
      → ((may_be_none p.field ≡ true) × (word_in p.address p.field p.at ≡ 0))
      ⊎ (is_some (live_at w words kind (led_to p.field (word_in p.address p.field p.at))) ≡ true)
  points i p kind leads pass =
      let v = word_in p.address p.field p.at in
      elim (or_cases (may_be_none p.field && v == 0) (is_some (live_at w words kind (led_to p.field v))) (sym (clause_of w words i p.field p.at kind v leads) ∙ pass.fourth)) [
        | inl none ↦ inl (test_left (may_be_none p.field) (v == 0) none, eqb-true v 0 (test_right (may_be_none p.field) (v == 0) none))
        | inr live ↦ inr live
      ]

  -- ---- what is named is reached

  named_among : (places : List Place) (k : ℕ) (p : Place) (kind v : ℕ) → slice_get places k ≡ Some p → leads_to p.field p.at ≡ Some kind
      → (kind == threads) ≡ false → word_at w words p ≡ Some v → is_some (live_at w words kind (led_to p.field v)) ≡ true
      → has (flat_map (named_at w words) places) (led_to p.field v) ≡ true
  named_among places k p kind v at leads other word live =
      let x = led_to p.field v in
      all_has (named_at w words) places k p x at
      (ap (λ l. has l x) (named_there w words p kind v leads word ∙ named_live w words kind x other live) ∙ or_first (x == x) false (eq-eqb x x refl))

  pub reached_by : (a k : ℕ) (p : Place) (kind v : ℕ) → has (reached w words) a ≡ true → slice_get (record_places w words a) k ≡ Some p
      → leads_to p.field p.at ≡ Some kind → (kind == threads) ≡ false → word_at w words p ≡ Some v
      → is_some (live_at w words kind (led_to p.field v)) ≡ true → has (reached w words) (led_to p.field v) ≡ true
  reached_by a k p kind v among at leads other word live =
      reached_next w words a (led_to p.field v) among (named_among (record_places w words a) k p kind v at leads other word live)

  pub reached_from : (i k : ℕ) (p : Place) (kind v : ℕ) → i < thread_count w → slice_get (thread_places w words i) k ≡ Some p
      → leads_to p.field p.at ≡ Some kind → (kind == threads) ≡ false → word_at w words p ≡ Some v
      → is_some (live_at w words kind (led_to p.field v)) ≡ true → has (reached w words) (led_to p.field v) ≡ true
  reached_from i k p kind v within at leads other word live =
      let x = led_to p.field v in
      let current : has (current_tasks w words) x ≡ true =
      all_has (named_by_thread w words) (range_with_len 0 (thread_count w)) i i x (range_at (thread_count w) i within)
      (named_among (thread_places w words i) k p kind v at leads other word live) in
      ap (λ l. has l x) (sym (reached_whole w words)) ∙ has_first (current_tasks w words) (named_by w words) (reached w words) x current

  -- ---- a live record

  pub record LivesAt (kind address : ℕ) (n : Id) : Type 0 where
    pub place : slot_at w kind address ≡ Some (n.creator, n.slot)
    pub slot : IsSlot w kind n.creator n.slot
    pub there : address ≡ slot_address w kind n.creator n.slot
    pub life : ℕ
    pub word : record_at w words address (number (life_of kind)) 0 ≡ Some life
    pub live : is_live kind life ≡ true
    pub generation : n.generation ≡ life / 2

  pub lives_at : (kind address : ℕ) (n : Id) → live_at w words kind address ≡ Some n → LivesAt kind address n
  lives_at kind address n is = go (slot_at w kind address) refl is
    where
      last : (at : ℕ × ℕ) (life : ℕ) (b : Bool) → slot_at w kind address ≡ Some at
          → record_at w words address (number (life_of kind)) 0 ≡ Some life → is_live kind life ≡ b
          → cond b (Some (record { creator = at.0; slot = at.1; generation = life / 2 })) None ≡ Some n → LivesAt kind address n
      last at life false place word live is = absurd (cc)
      last at life true place word live is =
          let same : record { creator = at.0; slot = at.1; generation = life / 2 } ≡ n = cc in
          let there = slot_is w kind address at place in
          subst (LivesAt kind address) same (record {
            place = place;
            slot = there.0;
            there = there.1;
            life = life;
            word = word;
            live = live;
            generation = refl;
          })

      next : (at : ℕ × ℕ) (o : Option ℕ) → slot_at w kind address ≡ Some at
          → record_at w words address (number (life_of kind)) 0 ≡ o
          → option_and_then (λ life. cond (is_live kind life) (Some (record { creator = at.0; slot = at.1; generation = life / 2 })) None) o ≡ Some n
          → LivesAt kind address n
      next at None place word is = absurd (cc)
      next at (Some life) place word is = last at life (is_live kind life) place word refl is

      go : (o : Option (ℕ × ℕ)) → slot_at w kind address ≡ o
          → option_and_then (λ at. option_and_then (λ life. cond (is_live kind life) (Some (record { creator = at.0; slot = at.1; generation = life / 2 })) None)
          (record_at w words address (number (life_of kind)) 0)) o ≡ Some n
          → LivesAt kind address n
      go None place is = absurd (cc)
      go (Some at) place is = next at (record_at w words address (number (life_of kind)) 0) place refl is

  -- ---- the places of a record

  pub region_member : (a at : ℕ) → at < number_in w words a RegionSize
      → slice_get (region_places w words a) (member_place at) ≡ Some (place_at a RegionTeam at)
  region_member a at within = element_at a RegionTeam (number_in w words a RegionSize) at within

  pub task_element : (a at : ℕ) → at < number_in w words a TaskNthreadsLength
      → slice_get (task_places w words a) (element_place at) ≡ Some (place_at a TaskNthreads at)
  task_element a at within =
      in_front (value_places w words a) (group_places w words a) (element_place at) (place_at a TaskNthreads at)
      (element_at a TaskNthreads (number_in w words a TaskNthreadsLength) at within)

  -- the words for groups stand behind the values
  pub task_group : (a k : ℕ) (p : Place) → version w == GROUP_VERSION ≡ true
      → slice_get (place_at a TaskSlots GROUP_PLACE ∷ place_at a TaskSlots OPEN_PLACE ∷ []) k ≡ Some p
      → slice_get (task_places w words a) (length (value_places w words a) + k) ≡ Some p
  task_group a k p known is =
      in_back (value_places w words a) (group_places w words a) k p
      (ap (λ b. slice_get (cond b (place_at a TaskSlots GROUP_PLACE ∷ place_at a TaskSlots OPEN_PLACE ∷ []) []) k) known ∙ is)
