-- Where no clause fails, the state that the words of the reached records show is well-formed: all that a reached record names is reached.
use Rattle.std.proofs.Common.{◌≡◌, ◌⊎◌, inl, inr, ℕ, zero, suc, ◌<◌, ◌≤◌, ◌&&◌, Bool, true, false, cond, List, [], ◌∷◌, ◌++◌, map, Option, Some, None, refl, sym, ap, subst, ◌∙◌, arith, eqb-true, ◌+◌, ◌%◌, length}
use Rattle.std.specs.Prelude.{◌==◌, nat_le, slice_get, is_some, IsSome, All, Contains, MatchBool}
use Rattle.std.specs.Option.{option_map, option_map_or, option_and_then}
use Rattle.std.specs.List.{range_with_len}
use Rattle.std.proofs.lemmas.Bool.Decides.{nat_tests}
use Rattle.std.proofs.lemmas.List.FromFn.{get_or-map-range_with_len, length-map-range_with_len}
use Rattle.omi_script.specs.declared.limits.TheConstants.{MAX_SIZES}
use Rattle.omi_numbers.specs.declared.schedules.TheConstants.{STATIC, AUTO}
use Rattle.omi_numbers.specs.declared.states.TheConstants.{IDLE}
use Rattle.omi_numbers.specs.States.{state_numbers}
use Rattle.omi_numbers.specs.Words.{state_of}
use Rattle.omi_numbers.specs.declared.limits.TheConstants.{OPEN_GROUPS}
use Rattle.omi_script.specs.Schedules.{kind_in}
use Rattle.omi_layout.specs.declared.field.Field.{Field}
use Rattle.omi_layout.specs.declared.field.Field.TheVariants.{ThreadLife, ThreadNative, ThreadCurrent, ThreadState, RegionEnclosing, RegionEncountering, RegionSize, RegionTeam, TaskRegion, TaskThread, TaskGenerating, TaskScheduling, TaskNthreadsLength, TaskSchedule, TaskNthreads, TaskSlots}
use Rattle.omi_layout.specs.Field.{threads, regions, tasks}
use Rattle.omi_layout.specs.Place.{slot_address}
use Rattle.omi_layout.specs.Table.{thread_count, version}
use Rattle.omi_layout.specs.Valid.{IsValid}
use Rattle.omi_layout.proofs.Arenas.{test_left, test_right}
use Rattle.omi_layout.specs.declared.limits.TheConstants.{GROUP_PLACE, GROUP_VERSION}
use Rattle.omi_model.specs.declared.id.Id.{Id}
use Rattle.omi_model.specs.declared.id.Rid.{Rid}
use Rattle.omi_model.specs.declared.id.Tid.{Tid}
use Rattle.omi_model.specs.declared.task.Task.{Task}
use Rattle.omi_model.specs.declared.progress.Progress.TheVariants.{Begun}
use Rattle.omi_model.specs.State.{State, region_of, task_of, scheduling_of, enclosing_of}
use Rattle.omi_model.specs.Visible.{IsVisibleRegion, IsVisibleTask, HasStarted}
use Rattle.omi_model.specs.WellFormed.{IsWellFormed, IsRegionRight, IsTaskRight, IsMember, HasBegun, along}
use Rattle.omi_model.specs.declared.group.Group.{Group}
use Rattle.omi_word.specs.Words.{Words}
use Rattle.omi_rep.specs.Look.{slot_at, live_at, was_met}
use Rattle.omi_rep.specs.Records.{thread_address}
use Rattle.omi_audit.specs.Clauses.{leads_to, led_to}
use Rattle.omi_audit.specs.Search.{Place, word_at, is_region, places_of, runtime_places, thread_places, region_places, value_places, task_places, record_places, named_at, reached}
use Rattle.omi_audit.specs.Verdicts.{next_in_chain, refused_chain, refusals}
use Rattle.omi_audit.specs.Judged.{place_at, named_of, EndsIn, refused_thread, refused_record}
use Rattle.omi_audit.proofs.Built.{built, group_named, rid_at, tid_at, id_or, thread_of, member_at, region_in, task_in, thread_in, lives_here, IsBuilt, built_only}
use Rattle.omi_audit.proofs.Chained.{chain_led, each_clear, named_there}
use Rattle.omi_audit.proofs.ChainsEnd.{chain_ends, met_has}
use Rattle.omi_audit.proofs.FirstOnes.{has, or_cases}
use Rattle.omi_audit.proofs.JudgedAll.{of_runtime, of_threads, of_records, of_chains}
use Rattle.omi_audit.proofs.JudgedRecords.{range_at}
use Rattle.omi_audit.proofs.LivesThere.{apart_some}
use Rattle.omi_audit.proofs.NamedWords.{named_live}
use Rattle.omi_audit.proofs.Passes.{word_in, Passes, pass_each, points, reached_by, reached_from, lives_at, region_member, member_place, task_group}
use Rattle.omi_audit.proofs.Reaches.{some_first, has_contains}

-- ---- lists

front_none : {A : Type 0} (l m : List A) → l ++ m ≡ [] → l ≡ []
front_none [] m e = refl
front_none (x ∷ l) m e = absurd (cc)

rest_none : {A : Type 0} (l m : List A) → l ++ m ≡ [] → m ≡ []
rest_none [] m e = e
rest_none (x ∷ l) m e = absurd (cc)

-- where a number stands
pub has_at : (xs : List ℕ) (a : ℕ) → has xs a ≡ true → (k : ℕ) × (slice_get xs k ≡ Some a)
has_at [] a is = absurd (cc)
has_at (x ∷ xs) a is = elim (or_cases (a == x) (has xs a) is) [
  | inl same ↦ (0, ap (λ (y : ℕ). Some y) (sym (eqb-true a x same)))
  | inr behind ↦ let rest = has_at xs a behind in (suc rest.0, rest.1)
]

-- what holds of each that is made holds of all
pub all_made : {A : Type 0} (P : A → Type 0) (f : ℕ → A) (n : ℕ) → ((k : ℕ) → k < n → P (f k)) → All P (map f (range_with_len 0 n))
all_made P f n each = λ k d within.
    let long = length-map-range_with_len f 0 n in
    let low : k < n = omega (arith, within, long) in
    subst P (sym (get_or-map-range_with_len f 0 n k k d low (omega arith))) (each k low)

-- ---- no refusal

pub record IsClear (w : List ℕ) (words : Words) : Type 0 where
  pub runtime : of_runtime w words ≡ []
  pub threads : of_threads w words ≡ []
  pub records : of_records w words ≡ []
  pub chains : of_chains w words ≡ []

pub clear_parts : (w : List ℕ) (words : Words) → refusals w words ≡ [] → IsClear w words
clear_parts w words none =
    let front = front_none (of_runtime w words ++ of_threads w words ++ of_records w words) (of_chains w words) none in
    let first = front_none (of_runtime w words ++ of_threads w words) (of_records w words) front in
    record {
      runtime = front_none (of_runtime w words) (of_threads w words) first;
      threads = rest_none (of_runtime w words) (of_threads w words) first;
      records = rest_none (of_runtime w words ++ of_threads w words) (of_records w words) front;
      chains = rest_none (of_runtime w words ++ of_threads w words ++ of_records w words) (of_chains w words) none;
    }

-- the object that is there
pub some_id : (w : List ℕ) (words : Words) (kind a : ℕ) → is_some (live_at w words kind a) ≡ true
    → live_at w words kind a ≡ Some (id_or w words kind a)
some_id w words kind a is = go (live_at w words kind a) is
  where
    go : (o : Option Id) → is_some o ≡ true → o ≡ Some (option_map_or (λ n. n) o (record { creator = 0; slot = 0; generation = 0 }))
    go None e = absurd (cc)
    go (Some n) e = refl

is_some_of : {A : Type 0} (o : Option A) (x : A) → o ≡ Some x → is_some o ≡ true
is_some_of o x is = ap is_some is

module _ (w : List ℕ) (words : Words) (valid : IsValid w) (clear : IsClear w words) where
  -- ---- the words that are judged

  pub runtime_passes : (k : ℕ) (p : Place) → slice_get (runtime_places w words) k ≡ Some p → Passes w words 0 p
  runtime_passes k p is = pass_each w words 0 (runtime_places w words) clear.runtime k p is

  pub thread_passes : (i k : ℕ) (p : Place) → i < thread_count w → slice_get (thread_places w words i) k ≡ Some p
      → Passes w words i p
  thread_passes i k p within is =
      pass_each w words i (thread_places w words i)
      (each_clear (refused_thread w words) (range_with_len 0 (thread_count w)) i i clear.threads (range_at (thread_count w) i within)) k p is

  record_passes : (a k : ℕ) (p : Place) → has (reached w words) a ≡ true → slice_get (record_places w words a) k ≡ Some p
      → Passes w words 0 p
  record_passes a k p among is =
      let place = has_at (reached w words) a among in
      pass_each w words 0 (record_places w words a) (each_clear (refused_record w words) (reached w words) place.0 a clear.records place.1) k p is

  -- ---- of regions

  module _ (a : ℕ) (among : has (reached w words) a ≡ true) (region : is_region w words a ≡ true) where
    in_region : (k : ℕ) (p : Place) → slice_get (region_places w words a) k ≡ Some p → slice_get (record_places w words a) k ≡ Some p
    in_region k p is = ap (λ b. slice_get (cond b (region_places w words a) (task_places w words a)) k) region ∙ is

    pub region_passes : (k : ℕ) (p : Place) → slice_get (region_places w words a) k ≡ Some p → Passes w words 0 p
    region_passes k p is = record_passes a k p among (in_region k p is)

    -- what a region names is reached
    pub region_names : (k kind : ℕ) (f : Field) (at : ℕ) → slice_get (region_places w words a) k ≡ Some (place_at a f at)
        → leads_to f at ≡ Some kind → (kind == threads) ≡ false → is_some (live_at w words kind (led_to f (word_in w words a f at))) ≡ true
        → has (reached w words) (led_to f (word_in w words a f at)) ≡ true
    region_names k kind f at is leads other live =
        reached_by w words a k (place_at a f at) kind (word_in w words a f at) among (in_region k (place_at a f at) is) leads other
        (region_passes k (place_at a f at) is).mapped live

    -- a member's task lives
    pub member_lives : (at : ℕ) → at < word_in w words a RegionSize 0 → is_some (live_at w words tasks (word_in w words a RegionTeam at)) ≡ true
    member_lives at within =
        elim (points w words 0 (place_at a RegionTeam at) tasks refl (region_passes (member_place at) (place_at a RegionTeam at) (region_member w words a at within))) [
          | inl none ↦ absurd (let never : false ≡ true = none.0 in cc)
          | inr live ↦ live
        ]

    pub member_reached : (at : ℕ) → at < word_in w words a RegionSize 0 → has (reached w words) (word_in w words a RegionTeam at) ≡ true
    member_reached at within =
        region_names (member_place at) tasks RegionTeam at (region_member w words a at within) refl refl (member_lives at within)

  -- ---- of tasks

  module _ (a : ℕ) (among : has (reached w words) a ≡ true) (other_kind : is_region w words a ≡ false) where
    in_task : (k : ℕ) (p : Place) → slice_get (task_places w words a) k ≡ Some p → slice_get (record_places w words a) k ≡ Some p
    in_task k p is = ap (λ b. slice_get (cond b (region_places w words a) (task_places w words a)) k) other_kind ∙ is

    pub task_passes : (k : ℕ) (p : Place) → slice_get (task_places w words a) k ≡ Some p → Passes w words 0 p
    task_passes k p is = record_passes a k p among (in_task k p is)

    pub task_names : (k kind : ℕ) (f : Field) → slice_get (task_places w words a) k ≡ Some (place_at a f 0)
        → leads_to f 0 ≡ Some kind → (kind == threads) ≡ false → is_some (live_at w words kind (led_to f (word_in w words a f 0))) ≡ true
        → has (reached w words) (led_to f (word_in w words a f 0)) ≡ true
    task_names k kind f is leads other live =
        reached_by w words a k (place_at a f 0) kind (word_in w words a f 0) among (in_task k (place_at a f 0) is) leads other
        (task_passes k (place_at a f 0) is).mapped live

    -- and the owner of its group is
    pub owner_reached : version w == GROUP_VERSION ≡ true
        → is_some (live_at w words tasks (led_to TaskSlots (word_in w words a TaskSlots GROUP_PLACE))) ≡ true
        → has (reached w words) (led_to TaskSlots (word_in w words a TaskSlots GROUP_PLACE)) ≡ true
    owner_reached known live =
        let p = place_at a TaskSlots GROUP_PLACE in
        let k = length (value_places w words a) + 0 in
        let there = task_group w words a 0 p known refl in
        reached_by w words a k p tasks (word_in w words a TaskSlots GROUP_PLACE) among (in_task k p there) refl refl (task_passes k p there).mapped live

    -- its region and its thread live
    pub region_lives_of : is_some (live_at w words regions (word_in w words a TaskRegion 0)) ≡ true
    region_lives_of = elim (points w words 0 (place_at a TaskRegion 0) regions refl (task_passes 1 (place_at a TaskRegion 0) refl)) [
      | inl none ↦ absurd (let never : false ≡ true = none.0 in cc)
      | inr live ↦ live
    ]

    pub thread_lives_of : is_some (live_at w words threads (word_in w words a TaskThread 0)) ≡ true
    thread_lives_of = elim (points w words 0 (place_at a TaskThread 0) threads refl (task_passes 2 (place_at a TaskThread 0) refl)) [
      | inl none ↦ absurd (let never : false ≡ true = none.0 in cc)
      | inr live ↦ live
    ]

  -- the kind of a record
  pub is_of_region : (a : ℕ) (n : Id) → live_at w words regions a ≡ Some n → is_region w words a ≡ true
  is_of_region a n live = some_first _ (slot_at w regions a) (is_some_of (live_at w words regions a) n live)

  pub is_of_task : (a : ℕ) (n : Id) → live_at w words tasks a ≡ Some n → is_region w words a ≡ false
  is_of_task a n live = go (is_region w words a) refl
    where
      go : (b : Bool) → is_region w words a ≡ b → b ≡ false
      go true e = absurd (apart_some w valid a e (some_first _ (slot_at w tasks a) (is_some_of (live_at w words tasks a) n live)))
      go false e = refl

  -- ---- what is visible

  abbrev pub s : State
  s = built w words

  pub region_here : (a : ℕ) (n : Id) → has (reached w words) a ≡ true → live_at w words regions a ≡ Some n
      → region_of s (record { 0 = n }) ≡ Some (region_in w words a)
  region_here a n among live = lives_here w words regions (region_in w words) a n among live

  pub task_here : (a : ℕ) (n : Id) → has (reached w words) a ≡ true → live_at w words tasks a ≡ Some n
      → task_of s (record { 0 = n }) ≡ Some (task_in w words a)
  task_here a n among live = lives_here w words tasks (task_in w words) a n among live

  pub region_visible : (a : ℕ) (n : Id) → has (reached w words) a ≡ true → live_at w words regions a ≡ Some n
      → IsVisibleRegion s (record { 0 = n })
  region_visible a n among live =
      let region = is_of_region a n live in
      record {
        region = region_in w words a;
        live = region_here a n among live;
        team = all_made (λ (m : Tid × ℕ). IsSome (task_of s m.0)) (λ at. member_at w words (word_in w words a RegionTeam at)) (word_in w words a RegionSize 0)
            (λ at within.
            let p = word_in w words a RegionTeam at in
            ap is_some (task_here p (id_or w words tasks p) (member_reached a among region at within) (some_id w words tasks p (member_lives a among region at within))));
      }

  pub task_visible : (a : ℕ) (n : Id) → has (reached w words) a ≡ true → live_at w words tasks a ≡ Some n
      → IsVisibleTask s (record { 0 = n })
  task_visible a n among live =
      let other = is_of_task a n live in
      let p = word_in w words a TaskRegion 0 in
      let region = region_lives_of a among other in
      record {
        task = task_in w words a;
        live = task_here a n among live;
        shown = either (task_in w words a).implicit
            (region_visible p (id_or w words regions p) (task_names a among other 1 regions TaskRegion refl refl refl region) (some_id w words regions p region));
      }
    where
      either : (b : Bool) → IsVisibleRegion s (task_in w words a).region → MatchBool b (IsVisibleRegion s (task_in w words a).region) (HasStarted Begun)
      either true seen = seen
      either false seen = tt

  -- a thread that a task names has begun, and its record is the one that is named
  pub thread_named : (v : ℕ) → is_some (live_at w words threads v) ≡ true
      → record { address : v ≡ thread_address w (thread_of w words v); begun : HasBegun s (thread_of w words v) }
  thread_named v live =
      let n = id_or w words threads v in
      let there = lives_at w words threads v n (some_id w words threads v live) in
      let slot = there.slot in
      let low = slot.within in
      let first : n.slot ≡ 0 = omega (arith, low) in
      let by : thread_of w words v ≡ n.creator = ap (λ o. option_map_or (λ (at : ℕ × ℕ). at.0) o 0) there.place in
      let address : v ≡ thread_address w (thread_of w words v) =
      there.there ∙ ap (λ j. slot_address w threads n.creator j) first ∙ ap (λ i. thread_address w i) (sym by) in
      record {
        address = address;
        begun = record {
          known = (let made = slot.made_by in omega (arith, made, by));
          begun = ap (λ x. word_in w words x ThreadLife 0 == 1) (sym address)
              ∙ ap (λ o. option_map_or (λ (word : ℕ). word) o 0 == 1) there.word
              ∙ there.live;
        };
      }

  -- ---- names

  -- what is there is what is named
  taken_region : (o : Option Id) (m : Rid) → option_map (λ (n : Id). record { 0 = n }) o ≡ Some m → o ≡ Some m.0
  taken_region None m is = absurd (cc)
  taken_region (Some n) m is = let same : record { 0 = n } ≡ m = cc in ap (λ (r : Rid). Some r.0) same

  taken_task : (o : Option Id) (m : Tid) → option_map (λ (n : Id). record { 0 = n }) o ≡ Some m → o ≡ Some m.0
  taken_task None m is = absurd (cc)
  taken_task (Some n) m is = let same : record { 0 = n } ≡ m = cc in ap (λ (r : Tid). Some r.0) same

  names_region : (v : ℕ) (m : Rid) → rid_at w words v ≡ Some m
      → (is_some (live_at w words regions v) ≡ true → has (reached w words) v ≡ true) → IsVisibleRegion s m
  names_region v m is named =
      let live = taken_region (live_at w words regions v) m is in
      region_visible v m.0 (named (is_some_of (live_at w words regions v) m.0 live)) live

  names_task : (v : ℕ) (m : Tid) → tid_at w words v ≡ Some m
      → (is_some (live_at w words tasks v) ≡ true → has (reached w words) v ≡ true) → IsVisibleTask s m
  names_task v m is named =
      let live = taken_task (live_at w words tasks v) m is in
      task_visible v m.0 (named (is_some_of (live_at w words tasks v) m.0 live)) live

  -- ---- chains

  -- the next record of a chain is the one that its field leads to
  next_is : (a kind v : ℕ) (b : Bool) → is_region w words a ≡ b → leads_to (cond b RegionEnclosing TaskScheduling) 0 ≡ Some kind
      → (kind == threads) ≡ false → word_at w words (place_at a (cond b RegionEnclosing TaskScheduling) 0) ≡ Some v
      → is_some (live_at w words kind v) ≡ true → next_in_chain w words a ≡ Some v
  next_is a kind v b region leads other word live =
      ap (λ c. slice_get (named_at w words (place_at a (cond c RegionEnclosing TaskScheduling) 0)) 0) region
      ∙ ap (λ l. slice_get l 0) (named_there w words (place_at a (cond b RegionEnclosing TaskScheduling) 0) kind v leads word
      ∙ ap (named_of w words kind) (chain_led w words b v) ∙ named_live w words kind v other live)

  along_none : {A : Type 0} (next : A → Option A) (d : ℕ) → along next d None ≡ None
  along_none next zero = refl
  along_none next (suc d) = along_none next d

  -- a step of a chain of names goes as the one of its records, or both end
  abbrev Steps : (A : Type 0) → (A → Option A) → (ℕ → Option A) → (ℕ → Type 0) → ℕ → Type 0
  Steps A next goes IsOn a =
      (goes a ≡ None)
      ⊎ ((v : ℕ) × (n : A) × (next_in_chain w words a ≡ Some v) × (goes a ≡ Some n) × (next n ≡ goes v) × IsOn v)

  -- so it does where the field of a record names a live one, or none
  step_by : (A : Type 0) (make : Id → A) (next : A → Option A) (goes : ℕ → Option A) (IsOn : ℕ → Type 0)
      (kind : ℕ) (b : Bool) (a v : ℕ) → is_region w words a ≡ b → leads_to (cond b RegionEnclosing TaskScheduling) 0 ≡ Some kind
      → (kind == threads) ≡ false → word_at w words (place_at a (cond b RegionEnclosing TaskScheduling) 0) ≡ Some v
      → goes a ≡ option_map make (live_at w words kind v)
      → ((n : Id) → live_at w words kind v ≡ Some n → (next (make n) ≡ goes v) × IsOn v)
      → Steps A next goes IsOn a
  step_by A make next goes IsOn kind b a v region leads other word is more = go (live_at w words kind v) refl
    where
      go : (o : Option Id) → live_at w words kind v ≡ o → Steps A next goes IsOn a
      go None e = inl (is ∙ ap (option_map make) e)
      go (Some n) e =
          inr (
            v,
            make n,
            next_is a kind v b region leads other word (is_some_of (live_at w words kind v) n e),
            is ∙ ap (option_map make) e,
            (more n e).0,
            (more n e).1,
          )

  -- a chain of names ends where one of records does
  module _ {A : Type 0} (next : A → Option A) (goes : ℕ → Option A) (IsOn : ℕ → Type 0)
      (step : (a : ℕ) → IsOn a → Steps A next goes IsOn a) where
    along_ends : (d a : ℕ) → IsOn a → EndsIn w words d a → along next d (goes a) ≡ None
    along_ends zero a is ends = elim (step a is) [
      | inl none ↦ none
      | inr more ↦ absurd (let clash = sym ends ∙ more.2 in cc)
    ]
    along_ends (suc d) a is ends = elim (step a is) [
      | inl none ↦ ap (along next (suc d)) none ∙ along_none next d
      | inr more ↦
          let both : ◌≡◌ {A = Option ℕ} (Some ends.0) (Some more.0) = sym ends.1 ∙ more.2 in
          let same : ends.0 ≡ more.0 = cc in
          ap (along next (suc d)) more.3 ∙ ap (along next d) more.4 ∙ along_ends d more.0 more.5 (subst (EndsIn w words d) same ends.2)
    ]

  chain_clear : (a : ℕ) → has (reached w words) a ≡ true → (d : ℕ) × EndsIn w words d a
  chain_clear a among =
      let place = has_at (reached w words) a among in
      chain_ends w words a among (each_clear (refused_chain w words) (reached w words) place.0 a clear.chains place.1)

  abbrev IsRegion : ℕ → Type 0
  IsRegion a = (has (reached w words) a ≡ true) × (is_region w words a ≡ true)

  region_step : (a : ℕ) → IsRegion a
      → Steps Rid (enclosing_of s) (λ b. (region_in w words b).enclosing) IsRegion a
  region_step a is =
      let v = word_in w words a RegionEnclosing 0 in
      step_by Rid (λ n. record { 0 = n }) (enclosing_of s) (λ b. (region_in w words b).enclosing) IsRegion regions true a v
      is.1 refl refl (region_passes a is.0 is.1 1 (place_at a RegionEnclosing 0) refl).mapped refl (λ n e.
      let among = region_names a is.0 is.1 1 regions RegionEnclosing 0 refl refl refl (is_some_of (live_at w words regions v) n e) in
      (ap (option_and_then (λ r. r.enclosing)) (region_here v n among e), (among, is_of_region v n e)))

  abbrev IsTask : ℕ → Type 0
  IsTask a = (has (reached w words) a ≡ true) × (is_region w words a ≡ false)

  task_step : (a : ℕ) → IsTask a
      → Steps Tid (scheduling_of s) (λ b. (task_in w words b).scheduling) IsTask a
  task_step a is =
      let v = word_in w words a TaskScheduling 0 in
      step_by Tid (λ n. record { 0 = n }) (scheduling_of s) (λ b. (task_in w words b).scheduling) IsTask tasks false a v
      is.1 refl refl (task_passes a is.0 is.1 5 (place_at a TaskScheduling 0) refl).mapped refl (λ n e.
      let among = task_names a is.0 is.1 5 tasks TaskScheduling refl refl refl (is_some_of (live_at w words tasks v) n e) in
      (ap (option_and_then (λ t. t.scheduling)) (task_here v n among e), (among, is_of_task v n e)))

  -- ---- objects

  region_right : (a : ℕ) (n : Id) → has (reached w words) a ≡ true → live_at w words regions a ≡ Some n
      → IsRegionRight s (region_in w words a)
  region_right a n among live =
      let region = is_of_region a n live in
      let count = word_in w words a RegionSize 0 in
      let long = length-map-range_with_len (λ at. member_at w words (word_in w words a RegionTeam at)) 0 count in
      let size = (region_passes a among region 3 (place_at a RegionSize 0) refl).fifth in
      let low : 1 ≤ count = grind (arith, nat_tests, test_left (nat_le 1 count) (nat_le count (thread_count w)) size) in
      let high : count ≤ thread_count w = grind (arith, nat_tests, test_right (nat_le 1 count) (nat_le count (thread_count w)) size) in
      record {
        enclosing = λ m is. names_region (word_in w words a RegionEnclosing 0) m is (region_names a among region 1 regions RegionEnclosing 0 refl refl refl);
        encountering = λ m is. names_task (word_in w words a RegionEncountering 0) m is (region_names a among region 2 tasks RegionEncountering 0 refl refl refl);
        members = all_made (λ (m : Tid × ℕ). IsMember s m.0 m.1) (λ at. member_at w words (word_in w words a RegionTeam at)) count (λ at within.
            member (word_in w words a RegionTeam at) (member_reached a among region at within) (member_lives a among region at within));
        some = omega (arith, long, low);
        few = omega (arith, long, high);
        ends = (let chain = chain_clear a among in (chain.0, along_ends (enclosing_of s) (λ b. (region_in w words b).enclosing) IsRegion region_step chain.0 a (among, region) chain.1));
      }
    where
      member : (p : ℕ) → has (reached w words) p ≡ true → is_some (live_at w words tasks p) ≡ true
          → IsMember s (record { 0 = id_or w words tasks p }) (thread_of w words (word_in w words p TaskThread 0))
      member p there alive =
          let m = id_or w words tasks p in
          let is = some_id w words tasks p alive in
          record {
            visible = task_visible p m there is;
            same = λ t named. (let both = sym (task_here p m there is) ∙ named in let same : task_in w words p ≡ t = cc in ap (λ (u : Task). u.thread) (sym same));
            begun = (thread_named (word_in w words p TaskThread 0) (thread_lives_of p there (is_of_task p m is))).begun;
          }

  task_right : (a : ℕ) (n : Id) → has (reached w words) a ≡ true → live_at w words tasks a ≡ Some n
      → IsTaskRight s (task_in w words a)
  task_right a n among live =
      let other = is_of_task a n live in
      let v = word_in w words a TaskRegion 0 in
      let region = region_lives_of a among other in
      let count = word_in w words a TaskNthreadsLength 0 in
      let long = length-map-range_with_len (word_in w words a TaskNthreads) 0 count in
      let sizes = (task_passes a among other 10 (place_at a TaskNthreadsLength 0) refl).sixth in
      let schedule = (task_passes a among other 11 (place_at a TaskSchedule 0) refl).sixth in
      let kind = kind_in (word_in w words a TaskSchedule 0) in
      let between = test_left (nat_le STATIC kind && nat_le kind AUTO) _ schedule in
      record {
        region = region_visible v (id_or w words regions v) (task_names a among other 1 regions TaskRegion refl refl refl region) (some_id w words regions v region);
        generating = λ m is. names_task (word_in w words a TaskGenerating 0) m is (task_names a among other 4 tasks TaskGenerating refl refl refl);
        scheduling = λ m is. names_task (word_in w words a TaskScheduling 0) m is (task_names a among other 5 tasks TaskScheduling refl refl refl);
        owner = λ g is. owner_visible g (version w == GROUP_VERSION) refl is;
        begun = (thread_named (word_in w words a TaskThread 0) (thread_lives_of a among other)).begun;
        ends = (let chain = chain_clear a among in (chain.0, along_ends (scheduling_of s) (λ b. (task_in w words b).scheduling) IsTask task_step chain.0 a (among, other) chain.1));
        variables = record {
          some = (let low : 1 ≤ count = grind (arith, nat_tests, test_left (nat_le 1 count) (nat_le count MAX_SIZES) sizes) in omega (arith, long, low));
          few = (let high : count ≤ MAX_SIZES = grind (arith, nat_tests, test_right (nat_le 1 count) (nat_le count MAX_SIZES) sizes) in omega (arith, long, high));
          kind_from = grind (arith, nat_tests, test_left (nat_le STATIC kind) (nat_le kind AUTO) between);
          kind_to = grind (arith, nat_tests, test_right (nat_le STATIC kind) (nat_le kind AUTO) between);
        };
      }
    where
      named_owner : (g : Group) (index : ℕ) (o : Option Id)
          → option_map (λ (m : Id). record { owner = record { 0 = m }; index = index }) o ≡ Some g → o ≡ Some g.owner.0
      named_owner g index None is = absurd (cc)
      named_owner g index (Some m) is =
          let same : record { owner = record { 0 = m }; index = index } ≡ g = cc in ap (λ (h : Group). Some h.owner.0) same

      owner_visible : (g : Group) (b : Bool) → version w == GROUP_VERSION ≡ b
          → cond b (group_named w words (word_in w words a TaskSlots GROUP_PLACE)) None ≡ Some g → IsVisibleTask s g.owner
      owner_visible g false e is = absurd (cc)
      owner_visible g true e is =
          let v = led_to TaskSlots (word_in w words a TaskSlots GROUP_PLACE) in
          let live_there = named_owner g (word_in w words a TaskSlots GROUP_PLACE % OPEN_GROUPS) (live_at w words tasks v) is in
          task_visible v g.owner.0 (owner_reached a among (is_of_task a n live) e (is_some_of (live_at w words tasks v) g.owner.0 live_there)) live_there

  -- ---- threads

  -- the places of a thread that has begun
  begun_place : (i k : ℕ) → (word_in w words (thread_address w i) ThreadLife 0 == 1) ≡ true
      → slice_get (thread_places w words i) k
      ≡ slice_get (places_of (thread_address w i) (ThreadLife ∷ ThreadNative ∷ ThreadCurrent ∷ ThreadState ∷ [])) k
  begun_place i k is =
      ap (λ b. slice_get (places_of (thread_address w i) (ThreadLife ∷ ThreadNative ∷ []) ++ cond b (places_of (thread_address w i) (ThreadCurrent ∷ ThreadState ∷ [])) []) k) is

  pub current_passes : (i : ℕ) → i < thread_count w → (word_in w words (thread_address w i) ThreadLife 0 == 1) ≡ true
      → Passes w words i (place_at (thread_address w i) ThreadCurrent 0)
  current_passes i within is = thread_passes i 2 (place_at (thread_address w i) ThreadCurrent 0) within (begun_place i 2 is)

  pub state_passes : (i : ℕ) → i < thread_count w → (word_in w words (thread_address w i) ThreadLife 0 == 1) ≡ true
      → Passes w words i (place_at (thread_address w i) ThreadState 0)
  state_passes i within is = thread_passes i 3 (place_at (thread_address w i) ThreadState 0) within (begun_place i 3 is)

  currents : (i : ℕ) (k : Tid) → i < thread_count w → (thread_in w words i).current ≡ Some k → IsVisibleTask s k
  currents i k within is = go (word_in w words (thread_address w i) ThreadLife 0 == 1) refl is
    where
      go : (b : Bool) → (word_in w words (thread_address w i) ThreadLife 0 == 1) ≡ b
          → cond b (tid_at w words (word_in w words (thread_address w i) ThreadCurrent 0)) None ≡ Some k → IsVisibleTask s k
      go true begun named =
          let v = word_in w words (thread_address w i) ThreadCurrent 0 in
          names_task v k named (reached_from w words i 2 (place_at (thread_address w i) ThreadCurrent 0) tasks v within (begun_place i 2 begun) refl refl (current_passes i within begun).mapped)
      go false begun named = absurd (cc)

  listed : (i : ℕ) → i < thread_count w → Contains state_numbers (thread_in w words i).state
  listed i within = go (word_in w words (thread_address w i) ThreadLife 0 == 1) refl
    where
      go : (b : Bool) → (word_in w words (thread_address w i) ThreadLife 0 == 1) ≡ b
          → Contains state_numbers (cond b (state_of (word_in w words (thread_address w i) ThreadState 0)) IDLE)
      go true begun =
          let v = word_in w words (thread_address w i) ThreadState 0 in
          has_contains state_numbers (state_of v) (sym (met_has state_numbers (state_of v)) ∙ test_left (was_met state_numbers (state_of v)) _ (state_passes i within begun).third)
      go false begun = has_contains state_numbers IDLE refl

  -- ---- all

  -- what is visible is what is reached
  pub region_built : (n : Rid) (seen : IsVisibleRegion s n)
      → IsBuilt w words regions (region_in w words) n.0.creator n.0.slot n.0.generation seen.region
  region_built n seen = built_only w words regions (region_in w words) n.0.creator n.0.slot n.0.generation seen.region seen.live

  pub task_built : (k : Tid) (seen : IsVisibleTask s k)
      → IsBuilt w words tasks (task_in w words) k.0.creator k.0.slot k.0.generation seen.task
  task_built k seen = built_only w words tasks (task_in w words) k.0.creator k.0.slot k.0.generation seen.task seen.live

  pub built_well_formed : IsWellFormed s
  built_well_formed = record {
    currents = currents;
    states = listed;
    regions = λ n seen. (let b = region_built n seen in subst (IsRegionRight s) b.is (region_right (slot_address w regions n.0.creator n.0.slot) n.0 b.among b.live));
    tasks = λ k seen. (let b = task_built k seen in subst (IsTaskRight s) b.is (task_right (slot_address w tasks k.0.creator k.0.slot) k.0 b.among b.live));
  }
