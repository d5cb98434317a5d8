-- A walk along a chain, by the places of its records among those that were met: it comes to each place once, and so to an end.
use Rattle.std.proofs.Common.{◌≡◌, ◌≢◌, ◌⊎◌, inl, inr, ℕ, zero, suc, ◌+◌, ◌<◌, ◌≤◌, ◌||◌, Bool, true, false, cond, List, [], ◌∷◌, ◌++◌, map, length, get_or, set, Option, Some, refl, sym, ap, subst, ◌∙◌, arith, eqb-true, eq-eqb, get_or-set_same, get_or-set_other}
use Rattle.std.specs.Prelude.{◌==◌, slice_get, slice_index, sum_by}
use Rattle.std.specs.Option.{option_map}
use Rattle.std.specs.List.{flat_map}
use Rattle.std.proofs.lemmas.List.{length-map, get_or_past}
use Rattle.std.proofs.lemmas.List.Sums.{sum_by-set, sum_by-cons}
use Rattle.std.proofs.lemmas.Bool.Decides.{eqb_tells, leb_tells}
use Rattle.omi_layout.specs.declared.field.Field.TheVariants.{RegionEnclosing, TaskScheduling}
use Rattle.omi_layout.specs.Named.{number}
use Rattle.omi_layout.specs.Valid.{IsValid}
use Rattle.omi_word.specs.Words.{Words}
use Rattle.omi_rep.specs.Look.{was_met}
use Rattle.omi_audit.specs.declared.search.Search.{Search}
use Rattle.omi_audit.specs.declared.stop.Stop.{Stop}
use Rattle.omi_audit.specs.declared.stop.Stop.TheVariants.{Fails}
use Rattle.omi_audit.specs.declared.verdict.Verdict.TheVariants.{No}
use Rattle.omi_audit.specs.Judged.{EndsIn, HasWalked, IsFine, IsFirst}
use Rattle.omi_audit.specs.Search.{is_region, current_tasks, named_by, record_places, all_records, reached}
use Rattle.omi_audit.specs.Verdicts.{chain_field, chain_clause, next_in_chain, refused_chain}
use Rattle.omi_audit.proofs.Chained.{next_kind}
use Rattle.omi_audit.proofs.FirstOnes.{has, with_one, with_all, or_cases, or_first, or_second, has_append}
use Rattle.omi_audit.proofs.Reaches.{record_addresses, lives_within, places_live, current_live, all_long, reached_whole}
use Rattle.omi_audit.proofs.Rounds.{few_met}
use Rattle.omi_audit.proofs.Walks.{IsWalk, Finishes, walk_first, walk_next, walk_again, walk_ends, ends_clear}

-- ---- records that no walk came to

abbrev pub unwalked : ℕ → ℕ
unwalked walk = cond (walk == 0) 1 0

pub unwalked_few : (walks : List ℕ) → sum_by unwalked walks ≤ length walks
unwalked_few [] = omega arith
unwalked_few (x ∷ xs) =
    let rest = unwalked_few xs in
    let step : unwalked x + sum_by unwalked xs ≤ suc (length xs) = one (x == 0) rest in
    let cons = sum_by-cons unwalked x xs in
    omega (arith, cons, step)
  where
    one : (b : Bool) → sum_by unwalked xs ≤ length xs → cond b 1 0 + sum_by unwalked xs ≤ suc (length xs)
    one true low = omega arith
    one false low = omega arith

-- one fewer behind a walk that comes to one
pub unwalked_less : (walks : List ℕ) (k walk : ℕ) → k < length walks → get_or walks k 0 ≡ 0 → (walk ≡ 0 → ⊥)
    → suc (sum_by unwalked (set walks k walk)) ≡ sum_by unwalked walks
unwalked_less walks k walk within none some =
    let all = sum_by-set unwalked walks k walk 0 within in
    let before : unwalked (get_or walks k 0) ≡ 1 = ap unwalked none in
    let after : unwalked walk ≡ 0 = go walk some in
    omega (arith, all, before, after)
  where
    go : (n : ℕ) → (n ≡ 0 → ⊥) → unwalked n ≡ 0
    go n not = elim (eqb_tells n 0) [
      | inl same ↦ absurd (not same.1)
      | inr apart ↦ ap (λ b. cond b 1 0) apart.0
    ]

-- ---- lists in which each number stands once

-- each stands where it comes first
abbrev pub IsOnce : List ℕ → Type 0
IsOnce [] = Unit {0}
IsOnce (x ∷ xs) = (has xs x ≡ false) × IsOnce xs

neither : (a b : Bool) → a ≡ false → b ≡ false → (a || b) ≡ false
neither true b e f = absurd (cc)
neither false b e f = f

nor_first : (a b : Bool) → (a || b) ≡ false → a ≡ false
nor_first true b e = absurd (cc)
nor_first false b e = refl

nor_second : (a b : Bool) → (a || b) ≡ false → b ≡ false
nor_second true b e = absurd (cc)
nor_second false b e = e

flipped : (x y : ℕ) → (x == y) ≡ false → (y == x) ≡ false
flipped x y not = go (y == x) refl
  where
    go : (b : Bool) → (y == x) ≡ b → b ≡ false
    go true e = sym (eq-eqb x y (sym (eqb-true y x e))) ∙ not
    go false e = refl

once_push : (xs : List ℕ) (x : ℕ) → IsOnce xs → has xs x ≡ false → IsOnce (xs ++ x ∷ [])
once_push [] x once none = (refl, tt)
once_push (y ∷ ys) x once none = (
  has_append ys (x ∷ []) y ∙ neither (has ys y) ((y == x) || false) once.0 (neither (y == x) false (flipped x y (nor_first (x == y) (has ys x) none)) refl),
  once_push ys x once.1 (nor_second (x == y) (has ys x) none),
)

once_one : (met : List ℕ) (x : ℕ) → IsOnce met → IsOnce (with_one met x)
once_one met x once = go (has met x) refl
  where
    go : (b : Bool) → has met x ≡ b → IsOnce (cond b met (met ++ x ∷ []))
    go true e = once
    go false e = once_push met x once e

once_all : (met xs : List ℕ) → IsOnce met → IsOnce (with_all met xs)
once_all met [] once = once
once_all met (x ∷ xs) once = once_all (with_one met x) xs (once_one met x once)

index_has : (xs : List ℕ) (k : ℕ) → k < length xs → has xs (get_or xs k 0) ≡ true
index_has [] k within = absurd (omega arith)
index_has (x ∷ xs) zero within = or_first (x == x) (has xs x) (eq-eqb x x refl)
index_has (x ∷ xs) (suc k) within = or_second (get_or xs k 0 == x) (has xs (get_or xs k 0)) (index_has xs k (omega arith))

once_apart : (xs : List ℕ) (i j : ℕ) → IsOnce xs → i < length xs → j < length xs → get_or xs i 0 ≡ get_or xs j 0 → i ≡ j
once_apart [] i j once low high same = absurd (omega arith)
once_apart (x ∷ xs) zero zero once low high same = refl
once_apart (x ∷ xs) zero (suc j) once low high same =
    absurd (let there = ap (has xs) same ∙ index_has xs j (omega arith) in let clash = sym once.0 ∙ there in cc)
once_apart (x ∷ xs) (suc i) zero once low high same =
    absurd (let there = ap (has xs) (sym same) ∙ index_has xs i (omega arith) in let clash = sym once.0 ∙ there in cc)
once_apart (x ∷ xs) (suc i) (suc j) once low high same = ap suc (once_apart xs i j once.1 (omega arith) (omega arith) same)

module _ (w : List ℕ) (words : Words) where
  reached_once : IsOnce (reached w words)
  reached_once =
      subst IsOnce (reached_whole w words) (once_all [] (current_tasks w words ++ flat_map (named_by w words) (reached w words)) tt)

  -- there are no more than the layout has records
  reached_few : length (reached w words) ≤ all_records w words
  reached_few =
      let most =
      few_met (current_tasks w words) (named_by w words) (record_addresses w)
      (λ a is. lives_within w words a (current_live w words a is))
      (λ by a is. lives_within w words a (places_live w words (record_places w words by) a is)) (reached w words) in
      let long = all_long w words in
      let same = ap length (reached_whole w words) in
      omega (arith, most, long, same)

-- ---- a walk, by places

-- the address at a place is met where the place is
path_met : (keys path : List ℕ) (k : ℕ) → has path k ≡ true → was_met (map (slice_index keys) path) (slice_index keys k) ≡ true
path_met keys [] k is = absurd (cc)
path_met keys (p ∷ path) k is = elim (or_cases (k == p) (has path k) is) [
  | inl same ↦ or_first (slice_index keys p == slice_index keys k) _ (eq-eqb _ _ (ap (slice_index keys) (sym (eqb-true k p same))))
  | inr among ↦ or_second (slice_index keys p == slice_index keys k) _ (path_met keys path k among)
]

-- and nowhere else
met_path : (keys path : List ℕ) (k : ℕ) → IsOnce keys → k < length keys → ((p : ℕ) → has path p ≡ true → p < length keys)
    → was_met (map (slice_index keys) path) (slice_index keys k) ≡ true → has path k ≡ true
met_path keys [] k once within inside is = absurd (cc)
met_path keys (p ∷ path) k once within inside is =
    elim (or_cases (slice_index keys p == slice_index keys k) (was_met (map (slice_index keys) path) (slice_index keys k)) is) [
      | inl same ↦ or_first (k == p) (has path k) (eq-eqb k p (sym (once_apart keys p k once (inside p (or_first (p == p) (has path p) (eq-eqb p p refl))) within (eqb-true _ _ same))))
      | inr among ↦ or_second (k == p) (has path k) (met_path keys path k once within (λ q there. inside q (or_second (q == p) (has path q) there)) among)
    ]

module _ (w : List ℕ) (words : Words) (s : Search) (start : ℕ) (before : List ℕ) where
  -- the address of the record at a place
  abbrev pub address_at : ℕ → ℕ
  address_at = slice_index s.met.keys

  -- so far the walk came to the places of the path, from the last to the first, and to no others
  pub record IsFollowed (walks : List ℕ) (current : Option ℕ) : Type 0 where
    pub path : List ℕ
    pub walk : IsWalk w words (address_at start) (map address_at path) (option_map address_at current)
    pub first : (current ≡ Some start) ⊎ (has path start ≡ true)
    pub kinds : (k : ℕ) → current ≡ Some k → is_region w words (address_at k) ≡ is_region w words (address_at start)
    pub few : length path + sum_by unwalked walks ≤ length s.met.keys
    pub on : (k : ℕ) → has path k ≡ true → slice_index walks k ≡ start + 1
    pub off : (k : ℕ) → has path k ≡ false → slice_index walks k ≡ slice_index before k

  pub followed_first : length before ≡ length s.met.keys → IsFollowed before (Some start)
  followed_first all = record {
    path = [];
    walk = walk_first w words (address_at start);
    first = inl refl;
    kinds = λ k is. (let same : start ≡ k = cc in ap (λ j. is_region w words (address_at j)) (sym same));
    few = (let most = unwalked_few before in omega (arith, most, all));
    on = λ k is. absurd (cc);
    off = λ k is. refl;
  }

  module _ (valid : IsValid w) (all : s.met.keys ≡ reached w words) (walked : HasWalked w words start s before) (walks : List ℕ)
      (long : length walks ≡ length s.met.keys) where
    -- a place of the path is one of those that were met
    inside : (current : Option ℕ) (f : IsFollowed walks current) (k : ℕ) → has f.path k ≡ true → k < length s.met.keys
    inside current f k is = elim (leb_tells (length walks) k) [
      | inl past ↦ absurd (let low = past.1 in let none = get_or_past walks k 0 low in let some = f.on k is in omega (arith, none, some))
      | inr low ↦ (let here = low.1 in omega (arith, here, long))
    ]

    -- it is not on the path where its number is another
    not_on : (current : Option ℕ) (f : IsFollowed walks current) (k : ℕ) → slice_index walks k ≢ start + 1 → has f.path k ≡ false
    not_on current f k other = go (has f.path k) refl
      where
        go : (b : Bool) → has f.path k ≡ b → b ≡ false
        go true e = absurd (other (f.on k e))
        go false e = refl

    -- it comes to a place that no walk came to
    pub followed_next : (at : ℕ) (next : Option ℕ) → IsFollowed walks (Some at) → at < length s.met.keys → slice_index walks at ≡ 0
        → next_in_chain w words (address_at at) ≡ option_map address_at next → IsFollowed (set walks at (start + 1)) next
    followed_next at next f within none goes =
        let path = f.path in
        let off : has path at ≡ false = not_on (Some at) f at (λ e. (let clash = sym none ∙ e in omega (arith, clash))) in
        let place : at < length walks = omega (arith, within, long) in
        let apart : (k : ℕ) → has path k ≡ true → k ≢ at = λ k is e. (let clash = sym off ∙ ap (has path) (sym e) ∙ is in cc) in
        let less = unwalked_less walks at (start + 1) place none (λ e. (omega (arith, e))) in
        record {
          path = at ∷ path;
          walk = subst (IsWalk w words (address_at start) (address_at at ∷ map address_at path)) goes
              (walk_next w words (address_at start) (address_at at) (map address_at path) f.walk
              (fresh (was_met (map address_at path) (address_at at)) refl off));
          first = elim f.first [
            | inl here ↦ inr (let same : at ≡ start = cc in or_first (start == at) (has path start) (eq-eqb start at (sym same)))
            | inr there ↦ inr (or_second (start == at) (has path start) there)
          ];
          kinds = λ k is. next_kind w words valid (address_at at) (address_at k) (goes ∙ ap (option_map address_at) is) ∙ f.kinds at refl;
          few = (let low = f.few in omega (arith, low, less));
          on = λ k is. elim (or_cases (k == at) (has path k) is) [
            | inl same ↦ ap (λ j. slice_index (set walks at (start + 1)) j) (eqb-true k at same) ∙ get_or-set_same walks at (start + 1) 0 place
            | inr among ↦ get_or-set_other walks at k (start + 1) 0 (apart k among) ∙ f.on k among
          ];
          off = λ k is.
              let other : k ≢ at = λ e. (let clash = sym (nor_first (k == at) (has path k) is) ∙ eq-eqb k at e in cc) in
              get_or-set_other walks at k (start + 1) 0 other ∙ f.off k (nor_second (k == at) (has path k) is);
        }
      where
        fresh : (b : Bool) → was_met (map address_at f.path) (address_at at) ≡ b → has f.path at ≡ false → b ≡ false
        fresh true e off =
            absurd (let there = met_path s.met.keys f.path at (subst IsOnce (sym all) (reached_once w words)) within (inside (Some at) f) e in let clash = sym off ∙ there in cc)
        fresh false e off = refl

    -- it comes to a place of its own
    pub followed_again : (at : ℕ) (stop : Stop) → IsFollowed walks (Some at) → slice_index walks at ≡ start + 1
        → stop ≡ Fails (address_at at) (number (chain_field w words (address_at at))) (chain_clause w words (address_at at))
        → IsFirst (refused_chain w words (address_at start)) stop
    followed_again at stop f is fails =
        let a = address_at at in
        let few = f.few in
        let most = reached_few w words in
        let short : length (map address_at f.path) ≤ all_records w words = (let same = length-map f.path address_at in let keys = ap length all in omega (arith, few, most, same, keys)) in
        let refused = walk_again w words (address_at start) a (map address_at f.path) f.walk (path_met s.met.keys f.path at (back (has f.path at) refl)) short in
        subst (IsFirst (refused_chain w words (address_at start))) (sym fails)
        (ap (λ l. slice_get l 0) refused
        ∙ ap (λ b. Some (No a (number (cond b RegionEnclosing TaskScheduling)) (cond b 8 7))) (sym (f.kinds at refl)))
      where
        back : (b : Bool) → has f.path at ≡ b → b ≡ true
        back true e = refl
        back false e = absurd (let before = f.off at e in let low = walked.few at in omega (arith, before, low, is))

    -- it comes to an end, or to a place of an earlier walk
    pub followed_end : (current : Option ℕ) → IsFollowed walks current → Finishes w words (option_map address_at current)
        → IsFine (refused_chain w words (address_at start)) (HasWalked w words (start + 1) s walks)
    followed_end current f ends =
        let all_end = walk_ends w words (map address_at f.path) (option_map address_at current) f.walk.linked ends in
        let begin : (d : ℕ) × EndsIn w words d (address_at start) = elim f.first [
          | inl here ↦ subst (λ o. Finishes w words (option_map address_at o)) here ends
          | inr there ↦ all_end (address_at start) (path_met s.met.keys f.path start there)
        ] in
        record {
          none = ends_clear w words begin.0 (address_at start) begin.1;
          known = record {
            few = λ k. few k (has f.path k) refl;
            ends = λ k within some. each_ends all_end k within some (has f.path k) refl;
          };
        }
      where
        few : (k : ℕ) (b : Bool) → has f.path k ≡ b → slice_index walks k ≤ start + 1
        few k true e = (let is = f.on k e in omega (arith, is))
        few k false e = (let is = f.off k e in let low = walked.few k in omega (arith, is, low))

        each_ends : ((x : ℕ) → was_met (map address_at f.path) x ≡ true → Finishes w words (Some x))
            → (k : ℕ) → k < length s.met.keys → slice_index walks k ≢ 0
            → (b : Bool) → has f.path k ≡ b → (d : ℕ) × EndsIn w words d (address_at k)
        each_ends all_end k within some true e = all_end (address_at k) (path_met s.met.keys f.path k e)
        each_ends all_end k within some false e = walked.ends k within (λ none. some (f.off k e ∙ none))

    -- it comes to a place of an earlier walk
    pub followed_joins : (at : ℕ) → IsFollowed walks (Some at) → at < length s.met.keys → slice_index walks at ≢ start + 1 → slice_index walks at ≢ 0
        → IsFine (refused_chain w words (address_at start)) (HasWalked w words (start + 1) s walks)
    followed_joins at f within other some =
        followed_end (Some at) f (walked.ends at within (λ none. some (f.off at (not_on (Some at) f at other) ∙ none)))
