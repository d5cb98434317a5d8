-- Over words that show a reached state, the records that the search reaches are those of visible objects, and no clause fails in them.
use Rattle.std.proofs.Common.{◌≡◌, ◌⊎◌, inl, inr, ℕ, zero, suc, ◌+◌, ◌*◌, ◌/◌, ◌<◌, ◌≤◌, ◌&&◌, ◌||◌, not, Bool, true, false, cond, List, [], ◌∷◌, ◌++◌, map, length, Option, Some, None, refl, sym, ap, ◌∙◌, arith, eqb-true, eq-eqb}
use Rattle.std.specs.Prelude.{◌==◌, nat_le, nat_lt, slice_get, is_some, filter, Contains}
use Rattle.std.specs.Option.{option_map_or, option_and_then}
use Rattle.std.specs.List.{flat_map, list_all}
use Rattle.std.proofs.lemmas.Bool.{le-leb}
use Rattle.std.proofs.lemmas.Bool.Decides.{nat_tests}
use Rattle.omi_script.specs.declared.limits.TheConstants.{MAX_FUNCTIONS, MAX_LOCK}
use Rattle.omi_script.specs.declared.program.Program.{Program}
use Rattle.omi_numbers.specs.declared.words.TheConstants.{WAIT_PLACE}
use Rattle.omi_numbers.specs.Addresses.{entry_address, function_at}
use Rattle.omi_numbers.specs.Holders.{lock_wait}
use Rattle.omi_numbers.specs.States.{state_numbers}
use Rattle.omi_numbers.specs.Words.{flag, state_of, state_word, wait_of}
use Rattle.omi_layout.specs.declared.field.Field.{Field}
use Rattle.omi_layout.specs.Field.{threads, regions, tasks, IsKind}
use Rattle.omi_layout.specs.Named.{number}
use Rattle.omi_layout.specs.Table.{offset}
use Rattle.omi_layout.specs.Valid.{IsValid, is_between}
use Rattle.omi_layout.proofs.Arenas.{test_left, test_right}
use Rattle.omi_layout.proofs.Frame.{kind_3, kind_4}
use Rattle.omi_model.specs.declared.event.Event.{Event}
use Rattle.omi_model.specs.declared.id.Id.{Id}
use Rattle.omi_model.specs.declared.id.Rid.{Rid}
use Rattle.omi_model.specs.declared.id.Tid.{Tid}
use Rattle.omi_model.specs.Reached.{Reached}
use Rattle.omi_model.specs.State.{State}
use Rattle.omi_model.specs.Visible.{IsVisibleRegion, IsVisibleTask}
use Rattle.omi_model.specs.WellFormed.{IsWellFormed}
use Rattle.omi_word.specs.Words.{Words}
use Rattle.omi_rep.specs.Look.{slot_at, live_at, is_live, life_of, was_met}
use Rattle.omi_rep.specs.Records.{record_at, region_address, region_word, task_address, task_word}
use Rattle.omi_rep.specs.ShownLooks.{AreNames}
use Rattle.omi_rep.specs.Shows.{Shows}
use Rattle.omi_rep.proofs.LiveObjects.{Lives, region_lives, task_lives}
use Rattle.omi_session.proofs.NamesReached.{reached_are_names}
use Rattle.omi_audit.specs.declared.verdict.Verdict.{Verdict}
use Rattle.omi_audit.specs.declared.verdict.Verdict.TheVariants.{No}
use Rattle.omi_audit.specs.Clauses.{leads_to, led_to, may_be_none, clause_2, clause_3, clause_4, clause_5, clause_6, failing, pointer_clause, is_flag, is_entry, is_state}
use Rattle.omi_audit.specs.Search.{Place, word_at, named_at}
use Rattle.omi_audit.specs.Verdicts.{refused_at}
use Rattle.omi_audit.proofs.Chained.{none_at}
use Rattle.omi_audit.proofs.ChainsEnd.{met_has}
use Rattle.omi_audit.proofs.FirstOnes.{has, or_cases, or_first, or_second, has_append}
use Rattle.omi_audit.proofs.Reaches.{found, named, has_filter, contains_has, some_first}

-- ---- tests of values

pub low_test : (a b : ℕ) → a ≤ b → nat_le a b ≡ true
low_test a b low = le-leb a b low

pub between_test : (a n b : ℕ) → a ≤ n → n ≤ b → is_between a n b ≡ true
between_test a n b low high = ap (λ t. t && nat_le n b) (low_test a n low) ∙ low_test n b high

pub flag_test : (b : Bool) → is_flag (flag b) ≡ true
flag_test true = refl
flag_test false = refl

pub flag_one : (b : Bool) → (flag b == 1) ≡ b
flag_one true = refl
flag_one false = refl

pub entry_test : (f : ℕ) → f < MAX_FUNCTIONS → is_entry (entry_address f) ≡ true
entry_test f low =
    let back : function_at (entry_address f) ≡ f = omega (arith, low) in
    ap (λ g. entry_address g == entry_address f && nat_lt g MAX_FUNCTIONS) back
    ∙ ap (λ t. t && nat_lt f MAX_FUNCTIONS) (eq-eqb (entry_address f) (entry_address f) refl)
    ∙ le-leb (suc f) MAX_FUNCTIONS low

all_at : (q : ℕ → Bool) (xs : List ℕ) (x : ℕ) → list_all q xs ≡ true → has xs x ≡ true → q x ≡ true
all_at q [] x all among = absurd (cc)
all_at q (y ∷ ys) x all among = elim (or_cases (x == y) (has ys x) among) [
  | inl same ↦ ap q (eqb-true x y same) ∙ test_left (q y) (list_all q ys) all
  | inr behind ↦ all_at q ys x (test_right (q y) (list_all q ys) all) behind
]

pub state_test : (state wait : ℕ) → Contains state_numbers state → wait ≤ lock_wait MAX_LOCK → is_state (state_word state wait) ≡ true
state_test state wait listed low =
    let among = contains_has state_numbers state listed in
    let small : state < WAIT_PLACE = grind (arith, nat_tests, all_at (λ x. nat_lt x WAIT_PLACE) state_numbers state refl among) in
    let of : state_of (state_word state wait) ≡ state = omega (arith, small) in
    let waits : wait_of (state_word state wait) ≡ wait = omega (arith, small) in
    ap (λ x. was_met state_numbers x && nat_le (wait_of (state_word state wait)) (lock_wait MAX_LOCK)) of
    ∙ ap (λ x. was_met state_numbers state && nat_le x (lock_wait MAX_LOCK)) waits
    ∙ ap (λ t. t && nat_le wait (lock_wait MAX_LOCK)) (met_has state_numbers state ∙ among)
    ∙ low_test wait (lock_wait MAX_LOCK) low

-- ---- places

-- an element is there
pub at_within : {A : Type 0} (xs : List A) (k : ℕ) → k < length xs → (x : A) × (slice_get xs k ≡ Some x)
at_within [] k within = absurd (omega (arith, within))
at_within (x ∷ xs) zero within = (x, refl)
at_within (x ∷ xs) (suc k) within = at_within xs k (omega (arith, within))

pub none_each : {A B : Type 0} (refused : A → List B) (xs : List A) → ((k : ℕ) (x : A) → slice_get xs k ≡ Some x → refused x ≡ [])
    → flat_map refused xs ≡ []
none_each refused [] each = refl
none_each refused (x ∷ xs) each =
    ap (λ l. l ++ flat_map refused xs) (each 0 x refl) ∙ none_each refused xs (λ k y is. each (suc k) y is)

pub place_named : {A : Type 0} (names : A → List ℕ) (xs : List A) (a : ℕ) → has (flat_map names xs) a ≡ true
    → (k : ℕ) × (x : A) × (slice_get xs k ≡ Some x) × (has (names x) a ≡ true)
place_named names [] a is = absurd (cc)
place_named names (x ∷ xs) a is =
    elim (or_cases (has (names x) a) (has (flat_map names xs) a) (sym (has_append (names x) (flat_map names xs) a) ∙ is)) [
      | inl here ↦ (0, x, refl, here)
      | inr there ↦ let rest = place_named names xs a there in (suc rest.0, rest.1, rest.2, rest.3)
    ]

module _ (w : List ℕ) (words : Words) where
  -- the word at a place leads to the one that is named
  pub led_word : (p : Place) (kind a : ℕ) → leads_to p.field p.at ≡ Some kind → has (named_at w words p) a ≡ true
      → (v : ℕ) × (word_at w words p ≡ Some v) × (led_to p.field v ≡ a) × (is_some (live_at w words kind a) ≡ true)
  led_word p kind a leads is = go (kind == threads) (ap (λ o. has (option_map_or (named w words p) o []) a) (sym leads) ∙ is)
    where
      word : (o : Option ℕ) → has (option_map_or (λ x. led_to p.field x ∷ []) o []) a ≡ true
          → (v : ℕ) × (o ≡ Some v) × (led_to p.field v ≡ a)
      word None e = absurd (cc)
      word (Some v) e = elim (or_cases (a == led_to p.field v) false e) [
        | inl same ↦ (v, refl, sym (eqb-true a (led_to p.field v) same))
        | inr never ↦ absurd (let no : false ≡ true = never in cc)
      ]

      go : (b : Bool) → has (cond b [] (filter (λ x. is_some (live_at w words kind x)) (found w words p))) a ≡ true
          → (v : ℕ) × (word_at w words p ≡ Some v) × (led_to p.field v ≡ a) × (is_some (live_at w words kind a) ≡ true)
      go true e = absurd (cc)
      go false e =
          let both = has_filter (λ x. is_some (live_at w words kind x)) (found w words p) a e in
          let (v, at, led) = word (word_at w words p) both.0 in
          (v, at, led, both.1)

  -- in a field whose words are addresses it is the one that is named
  pub named_word : (p : Place) (kind a : ℕ) → leads_to p.field p.at ≡ Some kind → ((v : ℕ) → led_to p.field v ≡ v)
      → has (named_at w words p) a ≡ true → (word_at w words p ≡ Some a) × (is_some (live_at w words kind a) ≡ true)
  named_word p kind a leads plain is =
      let (v, at, led, live) = led_word p kind a leads is in
      (at ∙ ap (λ (x : ℕ). Some x) (sym (plain v) ∙ led), live)

  -- the clauses that fail, by whether each holds
  abbrev those : ℕ → Bool → Bool → Bool → Bool → Bool → List ℕ
  those n a b c d e =
      map (λ (clause : ℕ × Bool). clause.0) (filter (λ (clause : ℕ × Bool). not clause.1) ((2, a) ∷ (3, b) ∷ (n, c) ∷ (5, d) ∷ (6, e) ∷ []))

  abbrev refusal : Place → ℕ → Verdict
  refusal p clause = No (p.address + 8 * (offset w (number p.field) + p.at)) (number p.field) clause

  -- a word of which every clause holds is not refused
  pub no_refusal : (i : ℕ) (p : Place) (v : ℕ) → word_at w words p ≡ Some v → clause_2 w p.field v ≡ true → clause_3 i p.field v ≡ true
      → clause_4 w words p.field p.at v ≡ true → clause_5 w p.field v ≡ true → clause_6 w p.field p.at v ≡ true → refused_at w words i p ≡ []
  no_refusal i p v word second third fourth fifth sixth =
      let n = pointer_clause p.field in
      ap (λ o. map (refusal p) (option_map_or (failing w words i p.field p.at) o (1 ∷ []))) word
      ∙ ap (map (refusal p))
      (ap (λ b. those n b (clause_3 i p.field v) (clause_4 w words p.field p.at v) (clause_5 w p.field v) (clause_6 w p.field p.at v)) second
      ∙ ap (λ b. those n true b (clause_4 w words p.field p.at v) (clause_5 w p.field v) (clause_6 w p.field p.at v)) third
      ∙ ap (λ b. those n true true b (clause_5 w p.field v) (clause_6 w p.field p.at v)) fourth
      ∙ ap (λ b. those n true true true b (clause_6 w p.field p.at v)) fifth
      ∙ ap (λ b. those n true true true true b) sixth)

  -- what lives is live
  pub lives_live : (kind a life : ℕ) → Lives w words kind a life → is_some (live_at w words kind a) ≡ true
  lives_live kind a life lives = go (slot_at w kind a) lives.place
    where
      go : (o : Option (ℕ × ℕ)) → is_some o ≡ true
          → is_some {T = Id} (option_and_then
          (λ at. option_and_then (λ x. cond (is_live kind x) (Some (record { creator = at.0; slot = at.1; generation = x / 2 })) None) (record_at w words a (number (life_of kind)) 0)) o) ≡ true
      go None e = absurd (cc)
      go (Some at) e =
          ap (λ o. is_some {T = Id} (option_and_then (λ x. cond (is_live kind x) (Some (record { creator = at.0; slot = at.1; generation = x / 2 })) None) o)) lives.word
          ∙ ap (λ b. is_some {T = Id} (cond b (Some (record { creator = at.0; slot = at.1; generation = life / 2 })) None)) lives.live

  -- a pointer to what lives may stand in its field, and so may none
  pub live_may : (f : Field) (at kind v : ℕ) → leads_to f at ≡ Some kind → is_some (live_at w words kind (led_to f v)) ≡ true
      → clause_4 w words f at v ≡ true
  live_may f at kind v leads live =
      ap (λ o. option_map_or (λ one. (may_be_none f && v == 0) || is_some (live_at w words one (led_to f v))) o true) leads
      ∙ or_second (may_be_none f && v == 0) (is_some (live_at w words kind (led_to f v))) live

  pub none_may : (f : Field) (at kind v : ℕ) → leads_to f at ≡ Some kind → may_be_none f ≡ true → v ≡ 0 → clause_4 w words f at v ≡ true
  none_may f at kind v leads may none =
      ap (λ o. option_map_or (λ one. (may_be_none f && v == 0) || is_some (live_at w words one (led_to f v))) o true) leads
      ∙ or_first (may_be_none f && v == 0) (is_some (live_at w words kind (led_to f v))) (ap (λ b. b && v == 0) may ∙ eq-eqb v 0 none)

-- ---- a state that the words show

module _ (w : List ℕ) (words : Words) (valid : IsValid w) (p : Program) (events : List (ℕ × Event)) (s : State)
    (reaches_it : Reached p events s) (shows : Shows w words s) where
  pub names : AreNames s
  names = reached_are_names p events s reaches_it

  pub formed : IsWellFormed s
  formed = shows.within.well_formed

  -- nothing lives at 0
  pub dead : (kind : ℕ) → IsKind kind → is_some (live_at w words kind 0) ≡ false
  dead kind known = go (is_some (live_at w words kind 0)) refl
    where
      go : (b : Bool) → is_some (live_at w words kind 0) ≡ b → b ≡ false
      go true e = absurd (none_at w valid kind known (some_first _ (slot_at w kind 0) e))
      go false e = refl

  pub region_live : (n : Rid) → IsVisibleRegion s n → is_some (live_at w words regions (region_address w n)) ≡ true
  region_live n seen = lives_live w words regions (region_address w n) _ (region_lives w words s valid shows names n seen)

  pub task_live : (k : Tid) → IsVisibleTask s k → is_some (live_at w words tasks (task_address w k)) ≡ true
  task_live k seen = lives_live w words tasks (task_address w k) _ (task_lives w words s valid shows names k seen)

  -- the record of a visible object
  abbrev pub IsSeen : ℕ → Type 0
  IsSeen a = ((n : Rid) × IsVisibleRegion s n × (a ≡ region_address w n)) ⊎ ((k : Tid) × IsVisibleTask s k × (a ≡ task_address w k))

  pub seen_region : (o : Option Rid) → ((n : Rid) → o ≡ Some n → IsVisibleRegion s n) → (a : ℕ) → region_word w o ≡ a
      → is_some (live_at w words regions a) ≡ true → IsSeen a
  seen_region None each a is live = absurd (let no = sym (dead regions kind_3) ∙ ap (λ x. is_some (live_at w words regions x)) is ∙ live in cc)
  seen_region (Some n) each a is live = inl (n, each n refl, sym is)

  pub seen_task : (o : Option Tid) → ((k : Tid) → o ≡ Some k → IsVisibleTask s k) → (a : ℕ) → task_word w o ≡ a
      → is_some (live_at w words tasks a) ≡ true → IsSeen a
  seen_task None each a is live = absurd (let no = sym (dead tasks kind_4) ∙ ap (λ x. is_some (live_at w words tasks x)) is ∙ live in cc)
  seen_task (Some k) each a is live = inr (k, each k refl, sym is)

  pub region_may : (f : Field) (o : Option Rid) → leads_to f 0 ≡ Some regions → may_be_none f ≡ true → ((v : ℕ) → led_to f v ≡ v)
      → ((n : Rid) → o ≡ Some n → IsVisibleRegion s n) → clause_4 w words f 0 (region_word w o) ≡ true
  region_may f None leads may plain each = none_may w words f 0 regions 0 leads may refl
  region_may f (Some n) leads may plain each =
      live_may w words f 0 regions (region_address w n) leads
      (ap (λ x. is_some (live_at w words regions x)) (plain (region_address w n)) ∙ region_live n (each n refl))

  pub task_may : (f : Field) (o : Option Tid) → leads_to f 0 ≡ Some tasks → may_be_none f ≡ true → ((v : ℕ) → led_to f v ≡ v)
      → ((k : Tid) → o ≡ Some k → IsVisibleTask s k) → clause_4 w words f 0 (task_word w o) ≡ true
  task_may f None leads may plain each = none_may w words f 0 tasks 0 leads may refl
  task_may f (Some k) leads may plain each =
      live_may w words f 0 tasks (task_address w k) leads
      (ap (λ x. is_some (live_at w words tasks x)) (plain (task_address w k)) ∙ task_live k (each k refl))

  pub same_word : (q : Place) (x a : ℕ) → word_at w words q ≡ Some x → word_at w words q ≡ Some a → x ≡ a
  same_word q x a first second = let both : Some x ≡ Some a = sym first ∙ second in cc
