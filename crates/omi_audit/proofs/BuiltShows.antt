-- Where no clause fails, the words show the state that is built of them: each word that is shown is the code of what is built.
use Rattle.std.proofs.Common.{◌≡◌, ◌⊎◌, inl, inr, ℕ, zero, suc, ◌+◌, ◌*◌, ◌/◌, ◌%◌, ◌^◌, ◌<◌, ◌≤◌, ◌&&◌, true, cond, List, map, Option, Some, None, refl, sym, ap, subst, ◌∙◌, arith, eqb-true, eq-eqb, ltb-true, ◌-◌, Bool, false, [], ◌∷◌, length}
use Rattle.std.specs.Prelude.{◌==◌, nat_lt, slice_get, is_some}
use Rattle.std.specs.Option.{option_map}
use Rattle.std.specs.List.{range_with_len}
use Rattle.std.proofs.lemmas.Bool.Decides.{nat_tests}
use Rattle.std.proofs.lemmas.List.FromFn.{get_or-map-range_with_len, length-map-range_with_len}
use Rattle.std.proofs.lemmas.Option.{slice_get_within, get_or_from_slice_get}
use Rattle.omi_script.specs.declared.limits.TheConstants.{MAX_FUNCTIONS}
use Rattle.omi_numbers.specs.declared.words.TheConstants.{OPENMP_VERSION, CHUNK_PLACE}
use Rattle.omi_numbers.specs.declared.lives.TheConstants.{LIFE_END}
use Rattle.omi_numbers.specs.declared.states.TheConstants.{IDLE}
use Rattle.omi_numbers.specs.Addresses.{entry_address, function_at}
use Rattle.omi_numbers.specs.Words.{flag, native_id, state_of, wait_of, state_word}
use Rattle.omi_numbers.specs.declared.limits.TheConstants.{OPEN_GROUPS, OWN_SLOTS}
use Rattle.omi_layout.specs.declared.field.Field.{Field}
use Rattle.omi_layout.specs.declared.field.Field.TheVariants.{RuntimeVersion, RuntimeThreads, RuntimeProcs, RuntimeDebug, RuntimeMaxActive, ThreadLife, ThreadNative, ThreadCurrent, ThreadState, RegionLife, RegionFunction, RegionEnclosing, RegionEncountering, RegionSize, RegionLevels, RegionActive, RegionTeam, TaskLife, TaskImplicit, TaskRegion, TaskThread, TaskNumber, TaskGenerating, TaskScheduling, TaskFunction, TaskExit, TaskEnter, TaskDynamic, TaskNthreadsLength, TaskSchedule, TaskDevice, TaskFinal, TaskTool, TaskNthreads, TaskSlots}
use Rattle.omi_layout.specs.Field.{regions, tasks, IsKind}
use Rattle.omi_layout.specs.Given.{GivesLayout}
use Rattle.omi_layout.specs.Place.{slot_address}
use Rattle.omi_layout.specs.Table.{thread_count, makers, version}
use Rattle.omi_layout.specs.Valid.{IsValid}
use Rattle.omi_layout.proofs.Arenas.{test_left, test_right}
use Rattle.omi_layout.proofs.Frame.{kind_3, kind_4}
use Rattle.omi_layout.specs.declared.limits.TheConstants.{GROUP_PLACE, GROUP_VERSION, GROUP_WORDS, OPEN_PLACE}
use Rattle.omi_model.specs.declared.id.Id.{Id}
use Rattle.omi_model.specs.declared.id.Tid.{Tid}
use Rattle.omi_model.specs.declared.slot.Slot.{Slot}
use Rattle.omi_model.specs.Put.{found}
use Rattle.omi_model.specs.State.{State}
use Rattle.omi_model.specs.declared.task.Task.{Task}
use Rattle.omi_word.specs.Words.{Words}
use Rattle.omi_rep.specs.Codes.{single, group_code, runtime_code, runtime_told, thread_code, thread_told, region_code, region_told, task_code, task_told, shown, shown_unbegun}
use Rattle.omi_rep.specs.Look.{slot_at, live_at}
use Rattle.omi_rep.specs.Records.{Seen, record_at, runtime_address, thread_address, region_word, task_word, task_address, group_word}
use Rattle.omi_rep.specs.Shows.{Stands, CodesStand, ShowsSlot, AreWithin, LiveAreNamed}
use Rattle.omi_audit.specs.Search.{Place, word_at, region_places, value_places, task_places, reached}
use Rattle.omi_audit.specs.Judged.{place_at}
use Rattle.omi_audit.specs.Promise.{ShowSome}
use Rattle.omi_audit.specs.Clauses.{is_flag, is_entry, leads_to, led_to}
use Rattle.omi_audit.proofs.Built.{built, group_named, rid_at, tid_at, id_or, member_at, region_in, task_in, thread_in, slots_by, built_only, slot_kinds}
use Rattle.omi_audit.proofs.BuiltRight.{IsClear, some_id, runtime_passes, thread_passes, region_passes, task_passes, current_passes, state_passes, member_lives, region_lives_of, thread_lives_of, thread_named, is_of_region, is_of_task, region_built, task_built, built_well_formed}
use Rattle.omi_audit.proofs.Chained.{none_at}
use Rattle.omi_audit.proofs.FirstOnes.{has}
use Rattle.omi_audit.proofs.Passes.{word_in, Passes, points, lives_at, region_member, task_element, member_place, element_place, task_group}
use Rattle.omi_audit.proofs.Reaches.{some_first}

-- ---- values and their words

flag_of : (v : ℕ) → is_flag v ≡ true → flag (v == 1) ≡ v
flag_of zero is = refl
flag_of (suc zero) is = refl
flag_of (suc (suc v)) is = absurd (let low : suc (suc v) ≤ 1 = grind (arith, nat_tests) in omega (arith, low))

entry_of : (v : ℕ) → is_entry v ≡ true → entry_address (function_at v) ≡ v
entry_of v is = eqb-true (entry_address (function_at v)) v (test_left (entry_address (function_at v) == v) (nat_lt (function_at v) MAX_FUNCTIONS) is)

-- ---- words that stand

module _ (w : List ℕ) (words : Words) (a : ℕ) where
  abbrev r : Seen
  r = record_at w words a

  -- a code of one word
  stand : (i : ℕ) (f : Field) (code : ℕ) → Passes w words i (place_at a f 0) → code ≡ word_in w words a f 0
      → (at word : ℕ) → single code at ≡ Some word → Stands r f at word
  stand i f code pass same zero word is = pass.mapped ∙ ap (λ (x : ℕ). Some x) (sym same) ∙ is
  stand i f code pass same (suc at) word is = absurd (cc)

-- an element of what is made of a range
pub made_at : {A : Type 0} (f : ℕ → A) (n at : ℕ) (x : A) → slice_get (map f (range_with_len 0 n)) at ≡ Some x
    → (at < n) × (f at ≡ x)
made_at f n at x is =
    let inside = slice_get_within (map f (range_with_len 0 n)) at x is in
    let long = length-map-range_with_len f 0 n in
    let low : at < n = omega (arith, inside, long) in
    (low, sym (get_or-map-range_with_len f 0 n at at x low (omega arith)) ∙ get_or_from_slice_get (map f (range_with_len 0 n)) at x x is)

module _ (w : List ℕ) (words : Words) (valid : IsValid w) (clear : IsClear w words) where
  abbrev s : State
  s = built w words

  -- ---- pointers

  -- the record of what is there is there
  id_address : (kind v : ℕ) (n : Id) → live_at w words kind v ≡ Some n → slot_address w kind n.creator n.slot ≡ v
  id_address kind v n live = sym (lives_at w words kind v n live).there

  none_live : (kind v : ℕ) → IsKind kind → v ≡ 0 → (o : Option Id) → live_at w words kind v ≡ o → o ≡ None
  none_live kind v known none None e = refl
  none_live kind v known none (Some n) e =
      absurd (none_at w valid kind known (some_first _ (slot_at w kind 0) (ap (λ x. is_some (live_at w words kind x)) (sym none) ∙ ap is_some e)))

  region_pointer : (v : ℕ) → (v ≡ 0) ⊎ (is_some (live_at w words regions v) ≡ true) → region_word w (rid_at w words v) ≡ v
  region_pointer v (inl none) =
      ap (λ o. region_word w (option_map (λ (n : Id). record { 0 = n }) o)) (none_live regions v kind_3 none (live_at w words regions v) refl) ∙ sym none
  region_pointer v (inr live) =
      let is = some_id w words regions v live in
      ap (λ o. region_word w (option_map (λ (n : Id). record { 0 = n }) o)) is ∙ id_address regions v (id_or w words regions v) is

  task_pointer : (v : ℕ) → (v ≡ 0) ⊎ (is_some (live_at w words tasks v) ≡ true) → task_word w (tid_at w words v) ≡ v
  task_pointer v (inl none) =
      ap (λ o. task_word w (option_map (λ (n : Id). record { 0 = n }) o)) (none_live tasks v kind_4 none (live_at w words tasks v) refl) ∙ sym none
  task_pointer v (inr live) =
      let is = some_id w words tasks v live in
      ap (λ o. task_word w (option_map (λ (n : Id). record { 0 = n }) o)) is ∙ id_address tasks v (id_or w words tasks v) is

  group_pointer : (v : ℕ) → (v ≡ 0) ⊎ (is_some (live_at w words tasks (led_to TaskSlots v)) ≡ true) → group_word w (group_named w words v) ≡ v
  group_pointer v (inl none) =
      ap (λ o. group_word w (option_map (λ (n : Id). record { owner = record { 0 = n }; index = v % OPEN_GROUPS }) o))
      (none_live tasks (led_to TaskSlots v) kind_4 (let zero_at : v - v % OPEN_GROUPS ≡ 0 = omega (arith, none) in zero_at) (live_at w words tasks (led_to TaskSlots v)) refl) ∙ sym none
  group_pointer v (inr live) =
      let is = some_id w words tasks (led_to TaskSlots v) live in
      ap (λ o. group_word w (option_map (λ (n : Id). record { owner = record { 0 = n }; index = v % OPEN_GROUPS }) o)) is
      ∙ ap (λ x. x + v % OPEN_GROUPS) (id_address tasks (led_to TaskSlots v) (id_or w words tasks (led_to TaskSlots v)) is)
      ∙ (let whole : v - v % OPEN_GROUPS + v % OPEN_GROUPS ≡ v = omega arith in whole)

  -- a pointer that may be 0
  led : (i : ℕ) (p : Place) (kind : ℕ) → leads_to p.field p.at ≡ Some kind → Passes w words i p
      → (word_in w words p.address p.field p.at ≡ 0) ⊎ (is_some (live_at w words kind (led_to p.field (word_in w words p.address p.field p.at))) ≡ true)
  led i p kind leads pass = elim (points w words i p kind leads pass) [
    | inl none ↦ inl none.1
    | inr live ↦ inr live
  ]

  -- ---- the runtime

  globals : CodesStand shown (runtime_code w (runtime_told s)) (record_at w words (runtime_address w))
  globals RuntimeVersion at word kept is =
      let pass = runtime_passes w words valid clear 0 (place_at (runtime_address w) RuntimeVersion 0) refl in
      stand w words (runtime_address w) 0 RuntimeVersion OPENMP_VERSION pass (sym (eqb-true _ OPENMP_VERSION pass.second)) at word is
  globals RuntimeThreads at word kept is =
      let pass = runtime_passes w words valid clear 1 (place_at (runtime_address w) RuntimeThreads 0) refl in
      stand w words (runtime_address w) 0 RuntimeThreads (thread_count w) pass (sym (eqb-true _ (thread_count w) pass.second)) at word is
  globals RuntimeProcs at word kept is =
      stand w words (runtime_address w) 0 RuntimeProcs _ (runtime_passes w words valid clear 2 (place_at (runtime_address w) RuntimeProcs 0) refl) refl at word is
  globals RuntimeDebug at word kept is =
      let pass = runtime_passes w words valid clear 3 (place_at (runtime_address w) RuntimeDebug 0) refl in
      stand w words (runtime_address w) 0 RuntimeDebug _ pass (flag_of _ pass.second) at word is
  globals RuntimeMaxActive at word kept is =
      stand w words (runtime_address w) 0 RuntimeMaxActive _ (runtime_passes w words valid clear 4 (place_at (runtime_address w) RuntimeMaxActive 0) refl) refl at word is
  globals _ at word kept is = absurd (cc)

  -- ---- threads

  module _ (i : ℕ) (within : i < thread_count w) where
    abbrev thread_record : ℕ
    thread_record = thread_address w i

    life_stands : (at word : ℕ) → single (flag (word_in w words thread_record ThreadLife 0 == 1)) at ≡ Some word
        → Stands (record_at w words thread_record) ThreadLife at word
    life_stands at word is =
        let pass = thread_passes w words valid clear i 0 (place_at thread_record ThreadLife 0) within refl in
        stand w words thread_record i ThreadLife _ pass (flag_of _ pass.third) at word is

    native_stands : (at word : ℕ) → single (native_id i) at ≡ Some word → Stands (record_at w words thread_record) ThreadNative at word
    native_stands at word is =
        let pass = thread_passes w words valid clear i 1 (place_at thread_record ThreadNative 0) within refl in
        stand w words thread_record i ThreadNative _ pass (sym (eqb-true _ (native_id i) pass.third)) at word is

    thread_unbegun : CodesStand shown_unbegun (thread_code w i (thread_told (thread_in w words i))) (record_at w words thread_record)
    thread_unbegun ThreadLife at word kept is = life_stands at word is
    thread_unbegun ThreadNative at word kept is = native_stands at word is
    thread_unbegun _ at word kept is = absurd (cc)

    thread_shown : (word_in w words thread_record ThreadLife 0 == 1) ≡ true
        → CodesStand shown (thread_code w i (thread_told (thread_in w words i))) (record_at w words thread_record)
    thread_shown begun ThreadLife at word kept is = life_stands at word is
    thread_shown begun ThreadNative at word kept is = native_stands at word is
    thread_shown begun ThreadCurrent at word kept is =
        let pass = current_passes w words valid clear i within begun in
        let v = word_in w words thread_record ThreadCurrent 0 in
        stand w words thread_record i ThreadCurrent _ pass
        (ap (λ b. task_word w (cond b (tid_at w words v) None)) begun ∙ task_pointer v (led i (place_at thread_record ThreadCurrent 0) tasks refl pass)) at word is
    thread_shown begun ThreadState at word kept is =
        let v = word_in w words thread_record ThreadState 0 in
        let whole : state_word (state_of v) (wait_of v) ≡ v = omega arith in
        stand w words thread_record i ThreadState _ (state_passes w words valid clear i within begun)
        (ap (λ b. state_word (cond b (state_of v) IDLE) (cond b (wait_of v) 0)) begun ∙ whole) at word is
    thread_shown begun _ at word kept is = absurd (cc)

  -- ---- a region

  module _ (a : ℕ) (n : Id) (among : has (reached w words) a ≡ true) (live : live_at w words regions a ≡ Some n) where
    region_pass : (k : ℕ) (p : Place) → slice_get (region_places w words a) k ≡ Some p → Passes w words 0 p
    region_pass = region_passes w words valid clear a among (is_of_region w words valid clear a n live)

    region_shown : CodesStand shown (region_code w (region_told (region_in w words a))) (record_at w words a)
    region_shown RegionFunction at word kept is =
        let pass = region_pass 0 (place_at a RegionFunction 0) refl in
        stand w words a 0 RegionFunction _ pass (entry_of _ pass.fifth) at word is
    region_shown RegionEnclosing at word kept is =
        let pass = region_pass 1 (place_at a RegionEnclosing 0) refl in
        stand w words a 0 RegionEnclosing _ pass (region_pointer _ (led 0 (place_at a RegionEnclosing 0) regions refl pass)) at word is
    region_shown RegionEncountering at word kept is =
        let pass = region_pass 2 (place_at a RegionEncountering 0) refl in
        stand w words a 0 RegionEncountering _ pass (task_pointer _ (led 0 (place_at a RegionEncountering 0) tasks refl pass)) at word is
    region_shown RegionSize at word kept is =
        stand w words a 0 RegionSize _ (region_pass 3 (place_at a RegionSize 0) refl)
        (length-map-range_with_len (λ k. member_at w words (word_in w words a RegionTeam k)) 0 (word_in w words a RegionSize 0)) at word is
    region_shown RegionLevels at word kept is = stand w words a 0 RegionLevels _ (region_pass 4 (place_at a RegionLevels 0) refl) refl at word is
    region_shown RegionActive at word kept is = stand w words a 0 RegionActive _ (region_pass 5 (place_at a RegionActive 0) refl) refl at word is
    region_shown RegionTeam at word kept is = go (slice_get (region_in w words a).team at) refl is
      where
        go : (o : Option (Tid × ℕ)) → slice_get (region_in w words a).team at ≡ o → option_map (λ (m : Tid × ℕ). task_address w m.0) o ≡ Some word
            → Stands (record_at w words a) RegionTeam at word
        go None e f = absurd (cc)
        go (Some m) e f =
            let made = made_at (λ k. member_at w words (word_in w words a RegionTeam k)) (word_in w words a RegionSize 0) at m e in
            let p = word_in w words a RegionTeam at in
            let region = is_of_region w words valid clear a n live in
            let there = some_id w words tasks p (member_lives w words valid clear a among region at made.0) in
            let address : p ≡ task_address w m.0 = sym (id_address tasks p (id_or w words tasks p) there) ∙ ap (λ (x : Tid × ℕ). task_address w x.0) made.1 in
            (region_pass (member_place at) (place_at a RegionTeam at) (region_member w words a at made.0)).mapped ∙ ap (λ (x : ℕ). Some x) address ∙ f
    region_shown _ at word kept is = absurd (cc)

  -- ---- a task

  module _ (a : ℕ) (n : Id) (among : has (reached w words) a ≡ true) (live : live_at w words tasks a ≡ Some n) where
    task_pass : (k : ℕ) (p : Place) → slice_get (task_places w words a) k ≡ Some p → Passes w words 0 p
    task_pass = task_passes w words valid clear a among (is_of_task w words valid clear a n live)

    task_shown : CodesStand shown (task_code w (task_told (task_in w words a))) (record_at w words a)
    task_shown TaskImplicit at word kept is =
        let pass = task_pass 0 (place_at a TaskImplicit 0) refl in
        stand w words a 0 TaskImplicit _ pass (flag_of _ pass.sixth) at word is
    task_shown TaskRegion at word kept is =
        let v = word_in w words a TaskRegion 0 in
        let there = some_id w words regions v (region_lives_of w words valid clear a among (is_of_task w words valid clear a n live)) in
        stand w words a 0 TaskRegion _ (task_pass 1 (place_at a TaskRegion 0) refl) (id_address regions v (id_or w words regions v) there) at word is
    task_shown TaskThread at word kept is =
        let v = word_in w words a TaskThread 0 in
        let there = thread_named w words valid clear v (thread_lives_of w words valid clear a among (is_of_task w words valid clear a n live)) in
        stand w words a 0 TaskThread _ (task_pass 2 (place_at a TaskThread 0) refl) (sym there.address) at word is
    task_shown TaskNumber at word kept is = stand w words a 0 TaskNumber _ (task_pass 3 (place_at a TaskNumber 0) refl) refl at word is
    task_shown TaskGenerating at word kept is =
        let pass = task_pass 4 (place_at a TaskGenerating 0) refl in
        stand w words a 0 TaskGenerating _ pass (task_pointer _ (led 0 (place_at a TaskGenerating 0) tasks refl pass)) at word is
    task_shown TaskScheduling at word kept is =
        let pass = task_pass 5 (place_at a TaskScheduling 0) refl in
        stand w words a 0 TaskScheduling _ pass (task_pointer _ (led 0 (place_at a TaskScheduling 0) tasks refl pass)) at word is
    task_shown TaskFunction at word kept is =
        let pass = task_pass 6 (place_at a TaskFunction 0) refl in
        stand w words a 0 TaskFunction _ pass (entry_of _ pass.sixth) at word is
    task_shown TaskExit at word kept is = stand w words a 0 TaskExit _ (task_pass 7 (place_at a TaskExit 0) refl) refl at word is
    task_shown TaskEnter at word kept is = stand w words a 0 TaskEnter _ (task_pass 8 (place_at a TaskEnter 0) refl) refl at word is
    task_shown TaskDynamic at word kept is =
        let pass = task_pass 9 (place_at a TaskDynamic 0) refl in
        stand w words a 0 TaskDynamic _ pass (flag_of _ pass.sixth) at word is
    task_shown TaskNthreadsLength at word kept is =
        stand w words a 0 TaskNthreadsLength _ (task_pass 10 (place_at a TaskNthreadsLength 0) refl)
        (length-map-range_with_len (word_in w words a TaskNthreads) 0 (word_in w words a TaskNthreadsLength 0)) at word is
    task_shown TaskSchedule at word kept is =
        let v = word_in w words a TaskSchedule 0 in
        let whole : v / CHUNK_PLACE * CHUNK_PLACE + v % CHUNK_PLACE ≡ v = omega arith in
        stand w words a 0 TaskSchedule _ (task_pass 11 (place_at a TaskSchedule 0) refl) whole at word is
    task_shown TaskDevice at word kept is = stand w words a 0 TaskDevice _ (task_pass 12 (place_at a TaskDevice 0) refl) refl at word is
    task_shown TaskFinal at word kept is =
        let pass = task_pass 13 (place_at a TaskFinal 0) refl in
        stand w words a 0 TaskFinal _ pass (flag_of _ pass.sixth) at word is
    task_shown TaskTool at word kept is = stand w words a 0 TaskTool _ (task_pass 14 (place_at a TaskTool 0) refl) refl at word is
    task_shown TaskNthreads at word kept is =
        let made = made_at (word_in w words a TaskNthreads) (word_in w words a TaskNthreadsLength 0) at word is in
        (task_pass (element_place at) (place_at a TaskNthreads at) (task_element w words a at made.0)).mapped ∙ ap (λ (x : ℕ). Some x) made.1
    task_shown TaskSlots at word kept is = slots (version w == GROUP_VERSION) refl is
      where
        -- one of the words for groups
        group_pass : (k : ℕ) (p : Place) → version w == GROUP_VERSION ≡ true
            → slice_get (place_at a TaskSlots GROUP_PLACE ∷ place_at a TaskSlots OPEN_PLACE ∷ []) k ≡ Some p → Passes w words 0 p
        group_pass k p known there = task_pass (length (value_places w words a) + k) p (task_group w words a k p known there)

        first : version w == GROUP_VERSION ≡ true
            → word_at w words (place_at a TaskSlots GROUP_PLACE) ≡ Some (group_word w (task_in w words a).group)
        first known =
            let pass = group_pass 0 (place_at a TaskSlots GROUP_PLACE) known refl in
            let v = word_in w words a TaskSlots GROUP_PLACE in
            let same : group_word w (task_in w words a).group ≡ v =
            ap (λ c. group_word w (cond c (group_named w words v) None)) known ∙ group_pointer v (led 0 (place_at a TaskSlots GROUP_PLACE) tasks refl pass) in
            pass.mapped ∙ ap (λ (x : ℕ). Some x) (sym same)

        second : version w == GROUP_VERSION ≡ true
            → word_at w words (place_at a TaskSlots OPEN_PLACE) ≡ Some (task_in w words a).open_groups
        second known =
            (group_pass 1 (place_at a TaskSlots OPEN_PLACE) known refl).mapped
            ∙ ap (λ (c : Bool). Some (cond c (word_in w words a TaskSlots OPEN_PLACE) 0)) (sym known)

        codes : version w == GROUP_VERSION ≡ true → (g o : Bool) → at == GROUP_PLACE ≡ g → at == OPEN_PLACE ≡ o
            → cond g (Some (group_word w (task_in w words a).group)) (cond o (Some (task_in w words a).open_groups) None) ≡ Some word
            → Stands (record_at w words a) TaskSlots at word
        codes known true o e f some =
            ap (λ n. word_at w words (place_at a TaskSlots n)) (eqb-true at GROUP_PLACE e) ∙ first known ∙ some
        codes known false true e f some =
            ap (λ n. word_at w words (place_at a TaskSlots n)) (eqb-true at OPEN_PLACE f) ∙ second known ∙ some
        codes known false false e f some = absurd (cc)

        inside : version w == GROUP_VERSION ≡ true → (b : Bool)
            → cond b (group_code w (task_told (task_in w words a)) at) None ≡ Some word → Stands (record_at w words a) TaskSlots at word
        inside known true some = codes known (at == GROUP_PLACE) (at == OPEN_PLACE) refl refl some
        inside known false some = absurd (cc)

        -- in front of these stand no codes
        no_code : (g o : Bool) → at == GROUP_PLACE ≡ g → at == OPEN_PLACE ≡ o → at < OWN_SLOTS
            → cond g (Some (group_word w (task_in w words a).group)) (cond o (Some (task_in w words a).open_groups) None) ≡ Some word → ⊥
        no_code true o e f low some = let same = eqb-true at GROUP_PLACE e in omega (arith, same, low)
        no_code false true e f low some = let same = eqb-true at OPEN_PLACE f in omega (arith, same, low)
        no_code false false e f low some = cc

        outside : (b : Bool) → nat_lt at OWN_SLOTS ≡ b
            → cond b (group_code w (task_told (task_in w words a)) at) None ≡ Some word → ⊥
        outside true e some = no_code (at == GROUP_PLACE) (at == OPEN_PLACE) refl refl (ltb-true at OWN_SLOTS e) some
        outside false e some = cc

        slots : (v : Bool) → version w == GROUP_VERSION ≡ v
            → cond (nat_lt at (cond v (OWN_SLOTS + GROUP_WORDS) OWN_SLOTS)) (group_code w (task_told (task_in w words a)) at) None ≡ Some word
            → Stands (record_at w words a) TaskSlots at word
        slots true known some = inside known (nat_lt at (OWN_SLOTS + GROUP_WORDS)) some
        slots false known some = absurd (outside (nat_lt at OWN_SLOTS) refl some)
    task_shown _ at word kept is = absurd (cc)

  -- ---- slots

  -- the life word of what is built tells its generation
  life_told : (life g : ℕ) → life % 2 == 1 && nat_lt life LIFE_END ≡ true → g ≡ life / 2 → (life ≡ 2 * g + 1) × (g < 2 ^ 32)
  life_told life g live is =
      let odd : life % 2 ≡ 1 = eqb-true (life % 2) 1 (test_left (life % 2 == 1) (nat_lt life LIFE_END) live) in
      let low : life < LIFE_END = grind (arith, nat_tests, test_right (life % 2 == 1) (nat_lt life LIFE_END) live) in
      (omega (arith, odd, is), omega (arith, low, is))

  -- a slot in which nothing lives has had nothing
  free_slot : {A : Type 0} (kind : ℕ) (make : ℕ → A) (creator slot word : ℕ) → (slots_by w words kind make creator slot).live ≡ None
      → 2 * (slots_by w words kind make creator slot).generations ≤ word
  free_slot {A} kind make creator slot word is = elim (slot_kinds w words kind make creator slot) [
    | inl some ↦ absurd (let clash : None ≡ Some some.1 = sym is ∙ ap (λ (x : Slot A). x.live) some.2 in cc)
    | inr none ↦ (let no : (slots_by w words kind make creator slot).generations ≡ 0 = ap (λ (x : Slot A). x.generations) none in omega (arith, no))
  ]

  -- what lives has a name, in a slot of the layout
  slot_named : {A : Type 0} (kind : ℕ) (make : ℕ → A) → LiveAreNamed (slots_by w words kind make)
  slot_named {A} kind make creator slot x is = elim (slot_kinds w words kind make creator slot) [
    | inl some ↦ (some.0, ap (found some.0) some.2 ∙ ap (λ b. cond b (Some some.1) None) (eq-eqb (some.0 + 1) (some.0 + 1) refl) ∙ sym (ap (λ (y : Slot A). y.live) some.2) ∙ is)
    | inr none ↦ absurd (let clash : None ≡ Some x = sym (ap (λ (y : Slot A). y.live) none) ∙ is in cc)
  ]

  slot_inside : {A : Type 0} (kind : ℕ) (make : ℕ → A) → makers w kind ≡ thread_count w → AreWithin w kind (slots_by w words kind make)
  slot_inside kind make all creator slot g x is =
      let b = built_only w words kind make creator slot g x is in
      let there = (lives_at w words kind (slot_address w kind creator slot) (record { creator = creator; slot = slot; generation = g }) b.live).slot in
      record {
        maker = (let made = there.made_by in omega (arith, made, all));
        place = there.within;
      }

  region_slot : (creator slot : ℕ) → ShowsSlot (record_at w words (slot_address w regions creator slot)) RegionLife (s.regions creator slot)
  region_slot creator slot = record {
    live = λ g x is.
        let b = built_only w words regions (region_in w words) creator slot g x is in
        let there = lives_at w words regions (slot_address w regions creator slot) (record { creator = creator; slot = slot; generation = g }) b.live in
        there.word ∙ ap (λ (y : ℕ). Some y) (life_told there.life g there.live there.generation).0;
    free = λ word is stands. free_slot regions (region_in w words) creator slot word is;
  }

  task_slot : (creator slot : ℕ) → ShowsSlot (record_at w words (slot_address w tasks creator slot)) TaskLife (s.tasks creator slot)
  task_slot creator slot = record {
    live = λ g x is.
        let b = built_only w words tasks (task_in w words) creator slot g x is in
        let there = lives_at w words tasks (slot_address w tasks creator slot) (record { creator = creator; slot = slot; generation = g }) b.live in
        there.word ∙ ap (λ (y : ℕ). Some y) (life_told there.life g there.live there.generation).0;
    free = λ word is stands. free_slot tasks (task_in w words) creator slot word is;
  }

  -- ---- all

  pub clear_shows : GivesLayout words w → ShowSome w words
  clear_shows gives = record {
    state = s;
    names = record {
      regions = λ n seen.
          let b = region_built w words valid clear n seen in
          let there = lives_at w words regions (slot_address w regions n.0.creator n.0.slot) n.0 b.live in
          (life_told there.life n.0.generation there.live there.generation).1;
      tasks = λ k seen.
          let b = task_built w words valid clear k seen in
          let there = lives_at w words tasks (slot_address w tasks k.0.creator k.0.slot) k.0 b.live in
          (life_told there.life k.0.generation there.live there.generation).1;
    };
    shows = record {
      layout = gives;
      within = record {
        well_formed = built_well_formed w words valid clear;
        count = refl;
        regions = slot_inside regions (region_in w words) refl;
        tasks = slot_inside tasks (task_in w words) refl;
        regions_named = slot_named regions (region_in w words);
        tasks_named = slot_named tasks (task_in w words);
      };
      groups = λ first k t live.
          let b = built_only w words tasks (task_in w words) k.0.creator k.0.slot k.0.generation t live in
          let a = slot_address w tasks k.0.creator k.0.slot in
          let none : version w == GROUP_VERSION ≡ false = ap (λ v. v == GROUP_VERSION) first in
          record {
            member = ap (λ (u : Task). u.group) (sym b.is) ∙ ap (λ c. cond c (group_named w words (word_in w words a TaskSlots GROUP_PLACE)) None) none;
            open_groups = ap (λ (u : Task). u.open_groups) (sym b.is) ∙ ap (λ c. cond c (word_in w words a TaskSlots OPEN_PLACE) 0) none;
          };
      records = record {
        globals = globals;
        lives = λ i known. thread_unbegun i known;
        threads = λ i known begun. thread_shown i known begun;
        region_lives = λ creator slot made placed. region_slot creator slot;
        task_lives = λ creator slot made placed. task_slot creator slot;
        regions = λ n seen.
            let b = region_built w words valid clear n seen in
            let a = slot_address w regions n.0.creator n.0.slot in
            subst (λ x. CodesStand shown (region_code w (region_told x)) (record_at w words a)) b.is (region_shown a n.0 b.among b.live);
        tasks = λ k seen.
            let b = task_built w words valid clear k seen in
            let a = slot_address w tasks k.0.creator k.0.slot in
            subst (λ x. CodesStand shown (task_code w (task_told x)) (record_at w words a)) b.is (task_shown a k.0 b.among b.live);
      };
    };
  }
