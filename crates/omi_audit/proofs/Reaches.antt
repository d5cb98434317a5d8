-- What is named is the record of a region or a task in its arena. So the search reaches the least set that has those that are named, breadth-first.
use Rattle.std.proofs.Common.{◌≡◌, ◌==◌, ◌⊎◌, inl, inr, ℕ, zero, suc, ◌*◌, Bool, true, false, cond, List, [], ◌∷◌, ◌++◌, map, length, Option, Some, None, refl, sym, ap, subst, ◌∙◌, arith, eqb-true, eq-eqb}
use Rattle.std.specs.Prelude.{◌↔◌, Contains, filter, is_some}
use Rattle.std.specs.Option.{option_map_or, option_and_then}
use Rattle.std.specs.List.{flat_map, range_with_len}
use Rattle.std.proofs.Math.Nat.{suc-mul}
use Rattle.std.proofs.lemmas.List.{length-append, length-map}
use Rattle.std.proofs.lemmas.List.FromFn.{length-range_with_len, length-map-range_with_len}
use Rattle.omi_layout.specs.declared.field.Field.{Field}
use Rattle.omi_layout.specs.declared.field.Field.TheVariants.{ThreadCurrent, RegionEnclosing, RegionEncountering, RegionTeam, TaskRegion, TaskThread, TaskGenerating, TaskScheduling, TaskSlots}
use Rattle.omi_layout.specs.Field.{threads, regions, tasks}
use Rattle.omi_layout.specs.Table.{thread_count, makers, per_thread}
use Rattle.omi_layout.specs.Place.{slot_address}
use Rattle.omi_layout.specs.declared.limits.TheConstants.{GROUP_PLACE}
use Rattle.omi_word.specs.Words.{Words}
use Rattle.omi_rep.specs.Look.{slot_list, slot_at, live_at}
use Rattle.omi_rep.proofs.Lists.{here, later, either, in_map}
use Rattle.omi_rep.proofs.Slots.{in_slots, slot_is}
use Rattle.omi_audit.specs.Clauses.{leads_to, led_to}
use Rattle.omi_audit.specs.Search.{Place, word_at, thread_places, record_places, named_at, named_by, current_tasks, met_within, all_records, reached}
use Rattle.omi_audit.specs.Judged.{lives}
use Rattle.omi_audit.specs.Promise.{IsReached, Current, Named, SearchIsWhole, SearchIsBreadthFirst}
use Rattle.omi_audit.proofs.FirstOnes.{has, or_cases, or_first, or_second, has_append}
use Rattle.omi_audit.proofs.Rounds.{rounds, round, round_has, has_first, has_next, rounds_end}

-- a number is among these
pub has_contains : (xs : List ℕ) (a : ℕ) → has xs a ≡ true → Contains xs a
has_contains [] a is = absurd (cc)
has_contains (x ∷ xs) a is = elim (or_cases (a == x) (has xs a) is) [
  | inl same ↦ subst (Contains (x ∷ xs)) (sym (eqb-true a x same)) (here x xs)
  | inr behind ↦ later x a xs (has_contains xs a behind)
]

pub contains_has : (xs : List ℕ) (a : ℕ) → Contains xs a → has xs a ≡ true
contains_has [] a (k, within, is) = absurd (omega (arith, within))
contains_has (x ∷ xs) a among = elim (either x a xs among) [
  | inl same ↦ or_first (a == x) (has xs a) (eq-eqb a x (sym same))
  | inr behind ↦ or_second (a == x) (has xs a) (contains_has xs a behind)
]

pub has_filter : (p : ℕ → Bool) (xs : List ℕ) (a : ℕ) → has (filter p xs) a ≡ true
    → (has xs a ≡ true) × (p a ≡ true)
has_filter p [] a is = absurd (cc)
has_filter p (x ∷ xs) a is = go (p x) refl is (has_filter p xs a)
  where
    go : (b : Bool) → p x ≡ b → has (cond b (x ∷ filter p xs) (filter p xs)) a ≡ true
        → (has (filter p xs) a ≡ true → (has xs a ≡ true) × (p a ≡ true))
        → (has (x ∷ xs) a ≡ true) × (p a ≡ true)
    go true passes found rest = elim (or_cases (a == x) (has (filter p xs) a) found) [
      | inl same ↦ (or_first (a == x) (has xs a) same, ap p (eqb-true a x same) ∙ passes)
      | inr behind ↦ (or_second (a == x) (has xs a) (rest behind).0, (rest behind).1)
    ]
    go false fails found rest = (or_second (a == x) (has xs a) (rest found).0, (rest found).1)

-- what holds of all that each of these names holds of all that they name
pub each_named : {A : Type 0} (P : ℕ → Type 0) (next : A → List ℕ)
    → ((x : A) (a : ℕ) → has (next x) a ≡ true → P a)
    → (xs : List A) (a : ℕ) → has (flat_map next xs) a ≡ true → P a
each_named P next holds [] a is = absurd (cc)
each_named P next holds (x ∷ xs) a is =
    elim (or_cases (has (next x) a) (has (flat_map next xs) a) (sym (has_append (next x) (flat_map next xs) a) ∙ is)) [
      | inl first ↦ holds x a first
      | inr behind ↦ each_named P next holds xs a behind
    ]

-- a field leads to one of the three kinds of objects
pub kinds_led : (f : Field) (at kind : ℕ) → leads_to f at ≡ Some kind
    → (kind ≡ threads) ⊎ ((kind ≡ regions) ⊎ (kind ≡ tasks))
kinds_led ThreadCurrent at kind is = inr (inr (let e : kind ≡ 4 = cc in e))
kinds_led RegionEnclosing at kind is = inr (inl (let e : kind ≡ 3 = cc in e))
kinds_led RegionEncountering at kind is = inr (inr (let e : kind ≡ 4 = cc in e))
kinds_led RegionTeam at kind is = inr (inr (let e : kind ≡ 4 = cc in e))
kinds_led TaskRegion at kind is = inr (inl (let e : kind ≡ 3 = cc in e))
kinds_led TaskThread at kind is = inl (let e : kind ≡ 2 = cc in e)
kinds_led TaskGenerating at kind is = inr (inr (let e : kind ≡ 4 = cc in e))
kinds_led TaskScheduling at kind is = inr (inr (let e : kind ≡ 4 = cc in e))
kinds_led TaskSlots at kind is = go (at == GROUP_PLACE) is
  where
    go : (b : Bool) → cond b (Some tasks) None ≡ Some kind → (kind ≡ threads) ⊎ ((kind ≡ regions) ⊎ (kind ≡ tasks))
    go true some = inr (inr (let e : kind ≡ 4 = cc in e))
    go false some = absurd (cc)
kinds_led _ at kind is = absurd (cc)

pub some_first : {A B : Type 0} (f : A → Option B) (o : Option A) → is_some (option_and_then f o) ≡ true
    → is_some o ≡ true
some_first f None is = is
some_first f (Some x) is = refl

module _ (w : List ℕ) where
  -- the addresses of the records of a kind
  abbrev pub addresses : ℕ → List ℕ
  addresses kind = map (λ at. slot_address w kind at.0 at.1) (slot_list w kind)

  abbrev pub record_addresses : List ℕ
  record_addresses = addresses regions ++ addresses tasks

  pub slot_has : (kind a : ℕ) → is_some (slot_at w kind a) ≡ true → has (addresses kind) a ≡ true
  slot_has kind a is = go (slot_at w kind a) refl is
    where
      go : (o : Option (ℕ × ℕ)) → slot_at w kind a ≡ o → is_some o ≡ true → has (addresses kind) a ≡ true
      go None e is = absurd (cc)
      go (Some at) e is =
          let there = slot_is w kind a at e in
          contains_has (addresses kind) a
          (subst (Contains (addresses kind)) (sym there.1)
          (in_map (λ (at : ℕ × ℕ). slot_address w kind at.0 at.1) (slot_list w kind) (at.0, at.1) (in_slots w kind at.0 at.1 there.0)))

  abbrev row : ℕ → ℕ → List (ℕ × ℕ)
  row m creator = map (λ slot. (creator, slot)) (range_with_len 0 m)

  rows_long : (m : ℕ) (xs : List ℕ) → length (flat_map (row m) xs) ≡ length xs * m
  rows_long m [] = omega arith
  rows_long m (x ∷ xs) =
      let one : length (row m x) ≡ m =
      length-map-range_with_len {X = ℕ × ℕ} (λ slot. (x, slot)) 0 m in
      let both = length-append (row m x) (flat_map (row m) xs) in
      let rest = rows_long m xs in
      omega (arith, one, both, rest, suc-mul (length xs) m)

  addresses_long : (kind : ℕ) → length (addresses kind) ≡ makers w kind * per_thread w kind
  addresses_long kind =
      length-map (slot_list w kind) (λ (at : ℕ × ℕ). slot_address w kind at.0 at.1)
      ∙ rows_long (per_thread w kind) (range_with_len 0 (makers w kind))
      ∙ ap (λ n. n * per_thread w kind) (length-range_with_len 0 (makers w kind))

  module _ (words : Words) where
    pub lives_within : (a : ℕ) → lives w words a ≡ true → has record_addresses a ≡ true
    lives_within a is =
        has_append (addresses regions) (addresses tasks) a
        ∙ elim (or_cases (is_some (live_at w words regions a)) (is_some (live_at w words tasks a)) is) [
          | inl region ↦ or_first (has (addresses regions) a) (has (addresses tasks) a) (slot_has regions a (some_first _ (slot_at w regions a) region))
          | inr task ↦ or_second (has (addresses regions) a) (has (addresses tasks) a) (slot_has tasks a (some_first _ (slot_at w tasks a) task))
        ]

    -- the word at a place, and what it names of a kind
    abbrev pub found : Place → List ℕ
    found p = option_map_or (λ word. led_to p.field word ∷ []) (word_at w words p) []

    abbrev pub named : Place → ℕ → List ℕ
    named p kind = cond (kind == threads) [] (filter (λ word. is_some (live_at w words kind word)) (found p))

    -- what is named lives
    pub named_lives : (p : Place) (a : ℕ) → has (named_at w words p) a ≡ true → lives w words a ≡ true
    named_lives p a is = go (leads_to p.field p.at) refl is
      where
        go : (o : Option ℕ) → leads_to p.field p.at ≡ o → has (option_map_or (named p) o []) a ≡ true → lives w words a ≡ true
        go None e is = absurd (cc)
        go (Some kind) e is = elim (kinds_led p.field p.at kind e) [
          | inl thread ↦ absurd (let none : has (named p threads) a ≡ true = ap (λ k. has (named p k) a) (sym thread) ∙ is in cc)
          | inr other ↦ elim other [
            | inl region ↦ or_first (is_some (live_at w words regions a)) (is_some (live_at w words tasks a))
                (has_filter (λ word. is_some (live_at w words regions word)) (found p) a (ap (λ k. has (named p k) a) (sym region) ∙ is)).1
            | inr task ↦ or_second (is_some (live_at w words regions a)) (is_some (live_at w words tasks a))
                (has_filter (λ word. is_some (live_at w words tasks word)) (found p) a (ap (λ k. has (named p k) a) (sym task) ∙ is)).1
          ]
        ]

    pub places_live : (places : List Place) (a : ℕ) → has (flat_map (named_at w words) places) a ≡ true
        → lives w words a ≡ true
    places_live places a is =
        each_named (λ a. lives w words a ≡ true) (named_at w words) named_lives places a is

    pub current_live : (a : ℕ) → has (current_tasks w words) a ≡ true → lives w words a ≡ true
    current_live a is =
        each_named (λ a. lives w words a ≡ true) (λ (i : ℕ). flat_map (named_at w words) (thread_places w words i))
        (λ i a is. places_live (thread_places w words i) a is) (range_with_len 0 (thread_count w)) a is

    -- the records of the search are those of its rounds
    pub met_in_rounds : (n : ℕ) → met_within w words n ≡ rounds (current_tasks w words) (named_by w words) n
    met_in_rounds zero = refl
    met_in_rounds (suc n) =
        ap (round (current_tasks w words) (named_by w words)) (met_in_rounds n)

    pub all_long : all_records w words ≡ length record_addresses
    all_long =
        let both = length-append (addresses regions) (addresses tasks) in
        let first = addresses_long regions in
        let second = addresses_long tasks in
        omega (arith, both, first, second)

    -- nothing more is met
    pub reached_whole : round (current_tasks w words) (named_by w words) (reached w words) ≡ reached w words
    reached_whole =
        let same = met_in_rounds (all_records w words) in
        ap (round (current_tasks w words) (named_by w words)) same
        ∙ rounds_end (current_tasks w words) (named_by w words) record_addresses
        (λ a is. lives_within a (current_live a is))
        (λ by a is. lives_within a (places_live (record_places w words by) a is)) (all_records w words) all_long
        ∙ sym same

    is_reached : (n a : ℕ) → has (rounds (current_tasks w words) (named_by w words) n) a ≡ true
        → IsReached w words a
    is_reached zero a is = absurd (cc)
    is_reached (suc n) a is =
        elim (round_has (current_tasks w words) (named_by w words) (rounds (current_tasks w words) (named_by w words) n) a is) [
          | inl named ↦ Current a (has_contains (current_tasks w words) a named)
          | inr named ↦ Named named.0 a (is_reached n named.0 named.1) (has_contains (named_by w words named.0) a named.2)
        ]

    has_reached : (a : ℕ) → IsReached w words a → has (reached w words) a ≡ true
    has_reached _ (Current a is) =
        ap (λ l. has l a) (sym reached_whole)
        ∙ has_first (current_tasks w words) (named_by w words) (reached w words) a (contains_has (current_tasks w words) a is)
    has_reached _ (Named by a before is) =
        ap (λ l. has l a) (sym reached_whole)
        ∙ has_next (current_tasks w words) (named_by w words) (reached w words) by a (has_reached by before) (contains_has (named_by w words by) a is)

    pub reaches : (a : ℕ) → Contains (reached w words) a ↔ IsReached w words a
    reaches a = (
      (λ among. is_reached (all_records w words) a (ap (λ l. has l a) (sym (met_in_rounds (all_records w words))) ∙ contains_has (reached w words) a among)),
      (λ is. has_contains (reached w words) a (has_reached a is)),
    )

pub search_is_whole : SearchIsWhole
search_is_whole w words address valid = reaches w words address

pub search_is_breadth_first : SearchIsBreadthFirst
search_is_breadth_first w words valid = sym (reached_whole w words)
