-- The next record of a chain is one that was met, and of the same kind: a pointer in a record in which no clause fails names one, or is 0, and no record is there.
use Rattle.std.proofs.Common.{◌≡◌, ◌⊎◌, inl, inr, ℕ, zero, suc, ◌<◌, ◌&&◌, Bool, true, false, cond, List, [], ◌∷◌, ◌++◌, map, length, Option, Some, None, refl, sym, ap, ◌∙◌, arith, eqb-true, eq-eqb}
use Rattle.std.specs.Prelude.{◌==◌, is_some, filter, slice_get, slice_index}
use Rattle.std.specs.Option.{option_map, option_map_or}
use Rattle.std.specs.List.{flat_map}
use Rattle.std.proofs.lemmas.Option.{slice_get-get_or, slice_get-map, get_or_from_slice_get}
use Rattle.omi_word.specs.Words.{Words}
use Rattle.omi_layout.specs.declared.field.Field.TheVariants.{RegionEnclosing, TaskScheduling}
use Rattle.omi_layout.specs.Field.{threads, regions, tasks, IsKind}
use Rattle.omi_layout.specs.Valid.{IsValid}
use Rattle.omi_layout.proofs.Arenas.{test_right}
use Rattle.omi_layout.proofs.Frame.{kind_3, kind_4, none_is_null}
use Rattle.omi_rep.specs.Look.{slot_at, live_at}
use Rattle.omi_rep.proofs.Slots.{slot_is}
use Rattle.omi_audit.specs.Clauses.{leads_to, led_to, may_be_none, clause_4, failing, pointer_clause}
use Rattle.omi_audit.specs.Search.{Place, word_at, is_region, region_places, task_places, record_places, named_at, named_by, current_tasks, reached}
use Rattle.omi_audit.specs.Verdicts.{refused_at, failing_at, chain_field, next_in_chain}
use Rattle.omi_audit.specs.Judged.{place_at, lives, named_of, link_of, refused_record, AreClear}
use Rattle.omi_audit.proofs.FirstOnes.{has, or_cases, or_first, or_second, has_append}
use Rattle.omi_audit.proofs.Reaches.{some_first, places_live, current_live, reached_whole}
use Rattle.omi_audit.proofs.LivesThere.{apart_some}
use Rattle.omi_audit.proofs.NamedWords.{named_live, named_dead, pointer_fails, clause_of}
use Rattle.omi_audit.proofs.Rounds.{round_has, has_next}

-- ---- lists

-- what is refused of some things is refused of each of them
pub each_clear : {A B : Type 0} (refused : A → List B) (xs : List A) (k : ℕ) (x : A) → flat_map refused xs ≡ []
    → slice_get xs k ≡ Some x → refused x ≡ []
each_clear refused [] k x none is = absurd (cc)
each_clear refused (y ∷ ys) zero x none is =
    let same : y ≡ x = cc in ap refused (sym same) ∙ front (refused y) (flat_map refused ys) none
  where
    front : {B : Type 0} (l m : List B) → l ++ m ≡ [] → l ≡ []
    front [] m e = refl
    front (z ∷ l) m e = absurd (cc)
each_clear refused (y ∷ ys) (suc k) x none is = each_clear refused ys k x (behind (refused y) (flat_map refused ys) none) is
  where
    behind : {B : Type 0} (l m : List B) → l ++ m ≡ [] → m ≡ []
    behind [] m e = e
    behind (z ∷ l) m e = absurd (cc)

pub at_has : (xs : List ℕ) (k x : ℕ) → slice_get xs k ≡ Some x → has xs x ≡ true
at_has [] k x is = absurd (cc)
at_has (y ∷ ys) zero x is = let same : y ≡ x = cc in or_first (x == y) (has ys x) (eq-eqb x y (sym same))
at_has (y ∷ ys) (suc k) x is = or_second (x == y) (has ys x) (at_has ys k x is)

pub all_has : {A : Type 0} (f : A → List ℕ) (xs : List A) (k : ℕ) (p : A) (v : ℕ) → slice_get xs k ≡ Some p
    → has (f p) v ≡ true → has (flat_map f xs) v ≡ true
all_has f [] k p v is named = absurd (cc)
all_has f (x ∷ xs) zero p v is named =
    let same : x ≡ p = cc in
    has_append (f x) (flat_map f xs) v ∙ or_first (has (f x) v) (has (flat_map f xs) v) (ap (λ q. has (f q) v) same ∙ named)
all_has f (x ∷ xs) (suc k) p v is named =
    has_append (f x) (flat_map f xs) v ∙ or_second (has (f x) v) (has (flat_map f xs) v) (all_has f xs k p v is named)

pub map_none : {A B : Type 0} (f : A → B) (l : List A) → map f l ≡ [] → l ≡ []
map_none f [] none = refl
map_none f (x ∷ xs) none = absurd (cc)

-- ---- addresses

-- no record begins at 0
module _ (w : List ℕ) (valid : IsValid w) where
  pub none_at : (kind : ℕ) → IsKind kind → is_some (slot_at w kind 0) ≡ true → ⊥
  none_at kind is some = go (slot_at w kind 0) refl some
    where
      go : (o : Option (ℕ × ℕ)) → slot_at w kind 0 ≡ o → is_some o ≡ true → ⊥
      go None e there = absurd (cc)
      go (Some at) e there =
          let found = slot_is w kind 0 at e in
          let low = none_is_null w valid kind at.0 at.1 is in
          absurd (let same = found.1 in omega (arith, low, same))

  none_lives : (words : Words) → lives w words 0 ≡ true → ⊥
  none_lives words is = elim (or_cases (is_some (live_at w words regions 0)) (is_some (live_at w words tasks 0)) is) [
    | inl region ↦ none_at regions kind_3 (some_first _ (slot_at w regions 0) region)
    | inr task ↦ none_at tasks kind_4 (some_first _ (slot_at w tasks 0) task)
  ]

-- ---- what is reached

module _ (w : List ℕ) (words : Words) where
  pub reached_lives : (a : ℕ) → has (reached w words) a ≡ true → lives w words a ≡ true
  reached_lives a is =
      elim (round_has (current_tasks w words) (named_by w words) (reached w words) a (ap (λ l. has l a) (reached_whole w words) ∙ is)) [
        | inl named ↦ current_live w words a named
        | inr named ↦ places_live w words (record_places w words named.0) a named.2
      ]

  pub reached_next : (a x : ℕ) → has (reached w words) a ≡ true → has (named_by w words a) x ≡ true
      → has (reached w words) x ≡ true
  reached_next a x among named =
      ap (λ l. has l x) (sym (reached_whole w words))
      ∙ has_next (current_tasks w words) (named_by w words) (reached w words) a x among named

  -- ---- the field that a chain follows

  abbrev pub link_place : ℕ → Place
  link_place a = place_at a (chain_field w words a) 0

  -- it leads to a record of the same kind as the chain's, or none
  abbrev pub chain_kind : ℕ → ℕ
  chain_kind a = cond (is_region w words a) regions tasks

  chain_leads : (b : Bool) → leads_to (cond b RegionEnclosing TaskScheduling) 0 ≡ Some (cond b regions tasks)
  chain_leads true = refl
  chain_leads false = refl

  pub chain_led : (b : Bool) (v : ℕ) → led_to (cond b RegionEnclosing TaskScheduling) v ≡ v
  chain_led true v = refl
  chain_led false v = refl

  chain_other : (b : Bool) → (cond b regions tasks == threads) ≡ false
  chain_other true = refl
  chain_other false = refl

  link_judged : (a : ℕ) → (k : ℕ) × (slice_get (record_places w words a) k ≡ Some (link_place a))
  link_judged a = go (is_region w words a)
    where
      go : (b : Bool) → (k : ℕ) × (slice_get (cond b (region_places w words a) (task_places w words a)) k
          ≡ Some (place_at a (cond b RegionEnclosing TaskScheduling) 0))
      go true = (1, refl)
      go false = (5, refl)

  -- what a word that points to a record names
  pub named_there : (p : Place) (kind v : ℕ) → leads_to p.field p.at ≡ Some kind → word_at w words p ≡ Some v
      → named_at w words p ≡ named_of w words kind (led_to p.field v)
  named_there p kind v leads word =
      ap (λ o. option_map_or (λ one. cond (one == threads) [] (filter (λ x. is_some (live_at w words one x)) (option_map_or (λ x. led_to p.field x ∷ []) (word_at w words p) []))) o []) leads
      ∙ ap (λ o. cond (kind == threads) [] (filter (λ x. is_some (live_at w words kind x)) (option_map_or (λ x. led_to p.field x ∷ []) o []))) word

  link_names : (a v : ℕ) → word_at w words (link_place a) ≡ Some v
      → named_at w words (link_place a) ≡ named_of w words (chain_kind a) v
  link_names a v word =
      named_there (link_place a) (chain_kind a) v (chain_leads (is_region w words a)) word
      ∙ ap (named_of w words (chain_kind a)) (chain_led (is_region w words a) v)

  -- where no clause fails there
  link_right : (a v : ℕ) → word_at w words (link_place a) ≡ Some v → refused_at w words 0 (link_place a) ≡ []
      → (v ≡ 0) ⊎ (is_some (live_at w words (chain_kind a) v) ≡ true)
  link_right a v word none =
      let f = chain_field w words a in
      let leads = chain_leads (is_region w words a) in
      let all : failing w words 0 f 0 v ≡ [] =
      ap (λ o. option_map_or (failing w words 0 f 0) o (1 ∷ [])) (sym word) ∙ map_none _ (failing_at w words 0 (link_place a)) none in
      let holds = passes (pointer_clause f) (clause_4 w words f 0 v) (sym (pointer_fails w words 0 f 0 (chain_kind a) v leads) ∙ all) in
      elim (or_cases (may_be_none f && v == 0) (is_some (live_at w words (chain_kind a) (led_to f v))) (sym (clause_of w words 0 f 0 (chain_kind a) v leads) ∙ holds)) [
        | inl none ↦ inl (eqb-true v 0 (test_right (may_be_none f) (v == 0) none))
        | inr live ↦ inr (ap (λ x. is_some (live_at w words (chain_kind a) x)) (sym (chain_led (is_region w words a) v)) ∙ live)
      ]
    where
      passes : (n : ℕ) (b : Bool) → cond {A = List ℕ} b [] (n ∷ []) ≡ [] → b ≡ true
      passes n true e = refl
      passes n false e = absurd (cc)

  link_mapped : (a : ℕ) → refused_at w words 0 (link_place a) ≡ [] → (v : ℕ) × (word_at w words (link_place a) ≡ Some v)
  link_mapped a none = go (word_at w words (link_place a)) refl
    where
      go : (o : Option ℕ) → word_at w words (link_place a) ≡ o → (v : ℕ) × (word_at w words (link_place a) ≡ Some v)
      go (Some v) e = (v, e)
      go None e =
          let all = map_none _ (failing_at w words 0 (link_place a)) none in
          absurd (let failed : 1 ∷ [] ≡ [] = ap (λ o. option_map_or (failing w words 0 (chain_field w words a) 0) o (1 ∷ [])) (sym e) ∙ all in cc)

  -- the next record of a chain lives, as one of the same kind
  pub next_lives : (a x : ℕ) → next_in_chain w words a ≡ Some x → is_some (live_at w words (chain_kind a) x) ≡ true
  next_lives a x is = go (word_at w words (link_place a)) refl
    where
      first_lives : (v : ℕ) (b : Bool) → is_some (live_at w words (chain_kind a) v) ≡ b
          → slice_get (cond (chain_kind a == threads) [] (cond b (v ∷ []) [])) 0 ≡ Some x
          → is_some (live_at w words (chain_kind a) x) ≡ true
      first_lives v b live found = kind (chain_kind a == threads) b live found
        where
          kind : (t c : Bool) → is_some (live_at w words (chain_kind a) v) ≡ c → slice_get (cond t [] (cond c (v ∷ []) [])) 0 ≡ Some x
              → is_some (live_at w words (chain_kind a) x) ≡ true
          kind true c live found = absurd (cc)
          kind false true live found = let same : v ≡ x = cc in ap (λ y. is_some (live_at w words (chain_kind a) y)) (sym same) ∙ live
          kind false false live found = absurd (cc)

      go : (o : Option ℕ) → word_at w words (link_place a) ≡ o → is_some (live_at w words (chain_kind a) x) ≡ true
      go None e =
          absurd (let none : slice_get (cond (chain_kind a == threads) [] []) 0 ≡ Some x =
          ap (λ o. slice_get (cond (chain_kind a == threads) [] (filter (λ one. is_some (live_at w words (chain_kind a) one)) (option_map_or (λ one. led_to (chain_field w words a) one ∷ []) o []))) 0) (sym e)
          ∙ ap (λ o. slice_get (option_map_or
          (λ kind. cond (kind == threads) [] (filter (λ one. is_some (live_at w words kind one)) (option_map_or (λ one. led_to (chain_field w words a) one ∷ []) (word_at w words (link_place a)) []))) o []) 0)
          (sym (chain_leads (is_region w words a)))
          ∙ is in never (chain_kind a == threads) none)
        where
          never : (t : Bool) → slice_get (cond {A = List ℕ} t [] []) 0 ≡ Some x → ⊥
          never true e = cc
          never false e = cc
      go (Some v) e =
          first_lives v (is_some (live_at w words (chain_kind a) v)) refl
          (ap (λ l. slice_get l 0) (sym (link_names a v e)) ∙ is)

  -- and is reached with it
  pub next_reached : (a x : ℕ) → has (reached w words) a ≡ true → next_in_chain w words a ≡ Some x → has (reached w words) x ≡ true
  next_reached a x among is =
      let judged = link_judged a in
      reached_next a x among (all_has (named_at w words) (record_places w words a) judged.0 (link_place a) x judged.1 (first (named_at w words (link_place a)) is))
    where
      first : (l : List ℕ) → slice_get l 0 ≡ Some x → has l x ≡ true
      first l e = at_has l 0 x e

  module _ (valid : IsValid w) where
    -- so along a chain the kind stays
    pub next_kind : (a x : ℕ) → next_in_chain w words a ≡ Some x → is_region w words x ≡ is_region w words a
    next_kind a x is = go (is_region w words a) (next_lives a x is) (is_region w words x) refl
      where
        go : (b : Bool) → is_some (live_at w words (cond b regions tasks) x) ≡ true → (c : Bool) → is_region w words x ≡ c → c ≡ b
        go true live c e = sym e ∙ some_first _ (slot_at w regions x) live
        go false live true e = absurd (apart_some w valid x e (some_first _ (slot_at w tasks x) live))
        go false live false e = refl

    -- the next one is where it was met
    pub next_index : (keys : List ℕ) (at : ℕ) (r : Option ℕ) → keys ≡ reached w words → AreClear w words → at < length keys
        → is_some r ≡ has keys (link_of w words (slice_index keys at))
        → ((k : ℕ) → r ≡ Some k → slice_index keys k ≡ link_of w words (slice_index keys at))
        → next_in_chain w words (slice_index keys at) ≡ option_map (slice_index keys) r
    next_index keys at r all clear within found there =
        let a = slice_index keys at in
        let place : slice_get (reached w words) at ≡ Some a = ap (λ l. slice_get l at) (sym all) ∙ slice_get-get_or keys at 0 within in
        let among : has (reached w words) a ≡ true = at_has (reached w words) at a place in
        let record_clear = each_clear (refused_record w words) (reached w words) at a clear place in
        let judged = link_judged a in
        let none = each_clear (refused_at w words 0) (record_places w words a) judged.0 (link_place a) record_clear judged.1 in
        let mapped = link_mapped a none in
        let v = mapped.0 in
        let link : link_of w words a ≡ v = ap (λ o. option_map_or (λ word. word) o 0) mapped.1 in
        let dead : v ≡ 0 → has keys v ≡ false =
        λ absent. has_none absent (has keys v) refl all in
        go a v judged.0 judged.1 mapped.1 among (is_some (live_at w words (chain_kind a) v)) refl (link_right a v mapped.1 none) dead r
        (found ∙ ap (has keys) link) (λ k is. there k is ∙ link)
      where
        has_none : {v : ℕ} → v ≡ 0 → (b : Bool) → has keys v ≡ b → keys ≡ reached w words → b ≡ false
        has_none {v} none true is all = absurd (none_lives w valid words (reached_lives 0 (ap (λ l. has l 0) (sym all) ∙ ap (has keys) (sym none) ∙ is)))
        has_none none false is all = refl

        go : (a v k : ℕ) → slice_get (record_places w words a) k ≡ Some (link_place a) → word_at w words (link_place a) ≡ Some v
            → has (reached w words) a ≡ true
            → (b : Bool) → is_some (live_at w words (chain_kind a) v) ≡ b → (v ≡ 0) ⊎ (is_some (live_at w words (chain_kind a) v) ≡ true)
            → (v ≡ 0 → has keys v ≡ false) → (r : Option ℕ) → is_some r ≡ has keys v → ((k : ℕ) → r ≡ Some k → slice_index keys k ≡ v)
            → next_in_chain w words a ≡ option_map (slice_index keys) r
        go a v k judged word among true live right dead r found there =
            let named : named_at w words (link_place a) ≡ v ∷ [] = link_names a v word ∙ named_live w words (chain_kind a) v (chain_other (is_region w words a)) live in
            let by : has (named_by w words a) v ≡ true = all_has (named_at w words) (record_places w words a) k (link_place a) v
            judged (ap (λ l. has l v) named ∙ or_first (v == v) false (eq-eqb v v refl)) in
            let met : has keys v ≡ true = ap (λ l. has l v) all ∙ reached_next a v among by in
            ap (λ l. slice_get l 0) named ∙ some v r (found ∙ met) there
          where
            some : (v : ℕ) (r : Option ℕ) → is_some r ≡ true → ((k : ℕ) → r ≡ Some k → slice_index keys k ≡ v) → Some v ≡ option_map (slice_index keys) r
            some v None is there = absurd (cc)
            some v (Some k) is there = ap (λ (x : ℕ). Some x) (sym (there k refl))
        go a v k judged word among false live right dead r found there =
            let absent : v ≡ 0 = elim right [ inl z ↦ z | inr l ↦ absurd (let never = sym l ∙ live in cc) ] in
            ap (λ l. slice_get l 0) (link_names a v word ∙ named_dead w words (chain_kind a) v live) ∙ none r (found ∙ dead absent)
          where
            none : (r : Option ℕ) → is_some r ≡ false → None ≡ option_map (slice_index keys) r
            none None is = refl
            none (Some k) is = absurd (cc)

  -- what is kept of a record that was met is what the field that its chain follows holds
  pub link_at : (keys : List ℕ) (at : ℕ) → keys ≡ reached w words → at < length keys
      → slice_index (map (link_of w words) (reached w words)) at ≡ link_of w words (slice_index keys at)
  link_at keys at all within =
      ap (λ l. slice_index (map (link_of w words) l) at) (sym all)
      ∙ get_or_from_slice_get (map (link_of w words) keys) at (link_of w words (slice_index keys at)) 0
      (slice_get-map (link_of w words) keys at ∙ ap (option_map (link_of w words)) (slice_get-get_or keys at 0 within))

-- nothing is there
pub option_none : (o : Option ℕ) → ((x : ℕ) → o ≡ Some x → ⊥) → o ≡ None
option_none None none = refl
option_none (Some x) none = absurd (none x refl)
