-- The words with which a program opens in a layout are one list.
use Rattle.std.proofs.Common.{◌≡◌, ◌≢◌, ◌==◌, ◌+◌, ◌*◌, ◌-◌, ◌/◌, ◌%◌, ◌<◌, ◌≤◌, ◌⊎◌, inl, inr, ℕ, zero, suc, Bool, true, false, List, slice_index, refl, sym, ◌∙◌, subst, arith, eqb-true, eq-eqb}
use Rattle.std.proofs.lemmas.Bool.{cases_lt}
use Rattle.std.proofs.lemmas.Bool.Decides.{nat_tests}
use Rattle.std.proofs.lemmas.List.{ext_get_or}
use Rattle.std.proofs.lemmas.Nat.{div-add-mod'}
use Rattle.std.proofs.Math.Nat.{div-lt_iff_lt-mul}
use Rattle.omi_script.specs.declared.program.Program.{Program}
use Rattle.omi_layout.specs.declared.limits.TheConstants.{FIELDS, FRONT_WORDS, TABLE_PLACE, TABLE_WORDS}
use Rattle.omi_layout.specs.declared.field.Field.{Field}
use Rattle.omi_layout.specs.Field.{IsField, IsKind, kind_of, regions, runtime, tasks, threads}
use Rattle.omi_layout.specs.Memory.{IsRecordWord, Rec, memory_of}
use Rattle.omi_layout.specs.Named.{number}
use Rattle.omi_layout.specs.OpeningWords.{AreOpening, IsZero, region_opening, runtime_opening, task_opening, thread_opening}
use Rattle.omi_layout.specs.Place.{IsSlot}
use Rattle.omi_layout.specs.Table.{makers, per_thread, records, thread_count, width}
use Rattle.omi_layout.specs.Valid.{IsValid}
use Rattle.omi_layout.specs.Words.{IsGap, IsWord, word_place}
use Rattle.omi_layout.proofs.Arenas.{each_kind, records_made, some_regions, some_tasks}
use Rattle.omi_layout.proofs.Numbers.{field_at}
use Rattle.omi_layout.proofs.Stored.{memory_read}
use Rattle.omi_layout.proofs.Turned.{kind_is}

-- ---- each place has a word of a record, or is a gap

-- one of so many numbers has a fact that can be told, or none has
search : (P : ℕ → Type 0) → ((k : ℕ) → P k ⊎ (P k → ⊥)) → (n : ℕ)
    → ((k : ℕ) × (k < n) × P k) ⊎ ((k : ℕ) → k < n → P k → ⊥)
search P told zero = inr (λ k below has. omega (arith, below))
search P told (suc n) = go (search P told n) (told n)
  where
    go : ((k : ℕ) × (k < n) × P k) ⊎ ((k : ℕ) → k < n → P k → ⊥) → P n ⊎ (P n → ⊥)
        → ((k : ℕ) × (k < suc n) × P k) ⊎ ((k : ℕ) → k < suc n → P k → ⊥)
    go (inl (k, below, has)) here = let less : k < suc n = omega (arith, below) in inl (k, less, has)
    go (inr none) (inl has) = let less : n < suc n = omega arith in inl (n, less, has)
    go (inr none) (inr not) = inr (λ k below has. each k (cases_lt k n) below has)
      where
        each : (k : ℕ) → (k < n) ⊎ (n ≤ k) → k < suc n → P k → ⊥
        each k (inl less) below has = none k less has
        each k (inr more) below has = let same : k ≡ n = omega (arith, more, below) in not (subst P same has)

told_equal : (a b : ℕ) → (a ≡ b) ⊎ (a ≡ b → ⊥)
told_equal a b = go (a == b) refl
  where
    go : (t : Bool) → a == b ≡ t → (a ≡ b) ⊎ (a ≡ b → ⊥)
    go true is = inl (eqb-true a b is)
    go false is = inr (λ same. let yes : a == b ≡ true = eq-eqb a b same in cc (is, yes))

-- some of so many numbers has a fact
abbrev Some_of : ℕ → (ℕ → Type 0) → Type 0
Some_of n P = (k : ℕ) × (k < n) × P k

told_some : (P : ℕ → Type 0) → ((k : ℕ) → P k ⊎ (P k → ⊥)) → (n : ℕ) → Some_of n P ⊎ (Some_of n P → ⊥)
told_some P told n = go (search P told n)
  where
    go : Some_of n P ⊎ ((k : ℕ) → k < n → P k → ⊥) → Some_of n P ⊎ (Some_of n P → ⊥)
    go (inl some) = inl some
    go (inr none) = inr (λ some. none some.0 some.1 some.2)

module _ (w : List ℕ) (place : ℕ) where
  -- a word of a field that stands at the place; field f + 1
  abbrev HasWord : ℕ → Type 0
  HasWord f =
      Some_of (records w (kind_of (f + 1)))
      (λ index. Some_of (width w (f + 1)) (λ at. word_place w (f + 1) index at ≡ place))

  told_word : (f : ℕ) → HasWord f ⊎ (HasWord f → ⊥)
  told_word f =
      told_some (λ index. Some_of (width w (f + 1)) (λ at. word_place w (f + 1) index at ≡ place))
      (λ index. told_some (λ at. word_place w (f + 1) index at ≡ place) (λ at. told_equal (word_place w (f + 1) index at) place) (width w (f + 1)))
      (records w (kind_of (f + 1)))

  abbrev IsAtWord : Type 0
  IsAtWord = (f : ℕ) × (index : ℕ) × (at : ℕ) × IsWord w f index at × (word_place w f index at ≡ place)

  word_or_gap : FRONT_WORDS ≤ place → IsAtWord ⊎ IsGap w place
  word_or_gap behind = go (search HasWord told_word FIELDS)
    where
      go : Some_of FIELDS HasWord ⊎ ((f : ℕ) → f < FIELDS → HasWord f → ⊥) → IsAtWord ⊎ IsGap w place
      go (inl (f, below, (index, made, (at, within, same)))) = let last : f + 1 ≤ FIELDS = omega (arith, below) in inl (f + 1, index, at, record { field = record { from = omega arith; to = last }; made = made; within = within }, same)
      go (inr none) = inr (record {
        behind = behind;
        free = λ f index at is same.
            let from = is.field.from in
            let to = is.field.to in
            let before : f - 1 < FIELDS = omega (arith, from, to) in
            let here : f ≡ f - 1 + 1 = omega (arith, from) in
            none (f - 1) before (index, subst (λ g. index < records w (kind_of g)) here is.made, (at, subst (λ g. at < width w g) here is.within, subst (λ g. word_place w g index at ≡ place) here same));
      })

-- ---- records

-- two records with the same words in each field by name
same_words : (words : Field → ℕ → ℕ) (r q : Rec) → ((f : Field) (at : ℕ) → r (number f) at ≡ words f at)
    → ((f : Field) (at : ℕ) → q (number f) at ≡ words f at) → (n : ℕ) → IsField n → (at : ℕ) → r n at ≡ q n at
same_words words r q a b n is at =
    let named = field_at n is in
    subst (λ k. r k at ≡ q k at) named.1 (a named.0 at ∙ sym (b named.0 at))

same_zero : (r q : Rec) → IsZero r → IsZero q → (f at : ℕ) → r f at ≡ q f at
same_zero r q a b f at = a f at ∙ sym (b f at)

-- ---- all words

module _ (p : Program) (w : List ℕ) (v : IsValid w) (a b : List ℕ) (x : AreOpening p w a)
    (y : AreOpening p w b) where
  -- a field of a record of a kind
  abbrev SameIn : ℕ → ℕ → ℕ → ℕ → Type 0
  SameIn kind f c s = (at : ℕ) → memory_of w a c kind s f at ≡ memory_of w b c kind s f at

  abbrev SameOf : ℕ → ℕ → Type 0
  SameOf kind f = (c s : ℕ) → IsSlot w kind c s → SameIn kind f c s

  in_runtime : (f : ℕ) → IsField f → SameOf runtime f
  in_runtime f is c s slot =
      let one = slot.made_by in
      let only = slot.within in
      let first : c ≡ 0 = omega (arith, one) in
      let none : s ≡ 0 = omega (arith, only) in
      subst (λ i. SameIn runtime f i s) (sym first)
      (subst (λ i. SameIn runtime f 0 i) (sym none)
      (same_words (runtime_opening p) (memory_of w a 0 runtime 0) (memory_of w b 0 runtime 0) x.runtime_record.words y.runtime_record.words f is))

  in_threads : (f : ℕ) → IsField f → SameOf threads f
  in_threads f is c s slot =
      let known = slot.made_by in
      let only = slot.within in
      let none : s ≡ 0 = omega (arith, only) in
      subst (λ i. SameIn threads f c i) (sym none)
      (same_words (thread_opening w c) (memory_of w a c threads 0) (memory_of w b c threads 0) (x.made c known).thread.words (y.made c known).thread.words f is)

  in_regions : (f : ℕ) → IsField f → SameOf regions f
  in_regions f is c s slot = go slot.made_by (told_equal c 0) (told_equal s 0)
    where
      go : c < thread_count w → (c ≡ 0) ⊎ (c ≡ 0 → ⊥) → (s ≡ 0) ⊎ (s ≡ 0 → ⊥) → SameIn regions f c s
      go known (inl first) (inl none) =
          subst (λ i. SameIn regions f c i) (sym none)
          (same_words (region_opening p w) (memory_of w a c regions 0) (memory_of w b c regions 0) ((x.made c known).region first).words ((y.made c known).region first).words f is)
      go known (inl first) (inr other) =
          same_zero _ _ ((x.made c known).no_region s (λ _ same. other same))
          ((y.made c known).no_region s (λ _ same. other same)) f
      go known (inr other) none =
          same_zero _ _ ((x.made c known).no_region s (λ same _. other same))
          ((y.made c known).no_region s (λ same _. other same)) f

  in_tasks : (f : ℕ) → IsField f → SameOf tasks f
  in_tasks f is c s slot = go slot.made_by (told_equal c 0) (told_equal s 0)
    where
      go : c < thread_count w → (c ≡ 0) ⊎ (c ≡ 0 → ⊥) → (s ≡ 0) ⊎ (s ≡ 0 → ⊥) → SameIn tasks f c s
      go known (inl first) (inl none) =
          subst (λ i. SameIn tasks f c i) (sym none)
          (same_words (task_opening p w) (memory_of w a c tasks 0) (memory_of w b c tasks 0) ((x.made c known).task first).words ((y.made c known).task first).words f is)
      go known (inl first) (inr other) =
          same_zero _ _ ((x.made c known).no_task s (λ _ same. other same))
          ((y.made c known).no_task s (λ _ same. other same)) f
      go known (inr other) none =
          same_zero _ _ ((x.made c known).no_task s (λ same _. other same))
          ((y.made c known).no_task s (λ same _. other same)) f

  -- so in each kind, by its number
  in_kind : (f : ℕ) → IsField f → (kind : ℕ) → IsKind kind → SameOf kind f
  in_kind f is = each_kind (λ kind. SameOf kind f) (in_runtime f is) (in_threads f is) (in_regions f is) (in_tasks f is)

  some_there : (kind : ℕ) → IsKind kind → 0 < per_thread w kind
  some_there =
      each_kind (λ kind. 0 < per_thread w kind) (omega arith) (omega arith) (some_regions w v) (some_tasks w v)

  same_word : (f index at : ℕ) → IsWord w f index at
      → slice_index a (word_place w f index at) ≡ slice_index b (word_place w f index at)
  same_word f index at is =
      let n = per_thread w (kind_of f) in
      let some = some_there (kind_of f) (kind_is f) in
      let number : index / n * n + index % n ≡ index = div-add-mod' index n in
      let made = is.made in
      let all = records_made w (kind_of f) in
      let less : index < makers w (kind_of f) * n = omega (arith, made, all) in
      let by : index / n < makers w (kind_of f) =
      (div-lt_iff_lt-mul {k = n} {x = index} {y = makers w (kind_of f)} some).1 less in
      let slot : index % n < n = omega (arith, some) in
      let there : IsRecordWord w (index / n) (index % n) f at = record { field = is.field; record_slot = record { made_by = by; within = slot }; within = is.within } in
      subst (λ i. slice_index a (word_place w f i at) ≡ slice_index b (word_place w f i at)) number
      (sym (memory_read w v a (index / n) (index % n) f at there)
      ∙ in_kind f is.field (kind_of f) (kind_is f) (index / n) (index % n) there.record_slot at
      ∙ memory_read w v b (index / n) (index % n) f at there)

  same_place : (i : ℕ) → slice_index a i ≡ slice_index b i
  same_place i = go (cases_lt i TABLE_PLACE) (cases_lt i FRONT_WORDS)
    where
      go : (i < TABLE_PLACE) ⊎ (TABLE_PLACE ≤ i) → (i < FRONT_WORDS) ⊎ (FRONT_WORDS ≤ i)
          → slice_index a i ≡ slice_index b i
      go (inl before) f = x.tables.symbols i before ∙ sym (y.tables.symbols i before)
      go (inr from) (inl before) =
          let less : i - TABLE_PLACE < TABLE_WORDS = omega (arith, from, before) in
          let here : TABLE_PLACE + (i - TABLE_PLACE) ≡ i = omega (arith, from) in
          subst (λ k. slice_index a k ≡ slice_index b k) here
          (x.tables.table (i - TABLE_PLACE) less ∙ sym (y.tables.table (i - TABLE_PLACE) less))
      go (inr from) (inr behind) = by (word_or_gap w i behind)
        where
          by : IsAtWord w i ⊎ IsGap w i → slice_index a i ≡ slice_index b i
          by (inl (f, index, at, is, same)) =
              subst (λ k. slice_index a k ≡ slice_index b k) same (same_word f index at is)
          by (inr gap) = x.gaps i gap ∙ sym (y.gaps i gap)

  pub one_opening : a ≡ b
  one_opening = ext_get_or 0 a b (x.count ∙ sym y.count) (λ i within. same_place i)
