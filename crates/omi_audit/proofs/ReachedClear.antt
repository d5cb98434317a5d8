-- Over words that show a reached state no word is refused, and each chain ends.
use Rattle.std.proofs.Common.{◌≡◌, inl, inr, ℕ, zero, suc, ◌/◌, ◌%◌, ◌<◌, ◌≤◌, ◌&&◌, Bool, true, false, cond, List, [], ◌∷◌, ◌++◌, length, Option, Some, None, refl, sym, ap, subst, ◌∙◌, arith, eq-eqb, ◌+◌}
use Rattle.std.specs.Prelude.{◌==◌, nat_le, slice_get, slice_index, MatchBool, is_some, nat_lt}
use Rattle.std.specs.Option.{option_map, option_map_or, option_and_then}
use Rattle.std.specs.List.{flat_map, range_with_len}
use Rattle.std.proofs.lemmas.Bool.{le-leb}
use Rattle.std.proofs.lemmas.Option.{slice_get_within, get_or_from_slice_get}
use Rattle.omi_script.proofs.RuleLemmas.{Rules-from_accepted}
use Rattle.omi_script.specs.Schedules.{schedule_word}
use Rattle.omi_script.specs.declared.limits.TheConstants.{MAX_CHUNK, MAX_DEVICE, MAX_LEVELS, MAX_PROCS, MAX_SIZE, MAX_SIZES}
use Rattle.omi_script.specs.declared.program.Program.{Program}
use Rattle.omi_script.specs.declared.statement.Sched.{Sched}
use Rattle.omi_numbers.specs.declared.schedules.TheConstants.{STATIC, AUTO}
use Rattle.omi_numbers.specs.declared.words.TheConstants.{OPENMP_VERSION, CHUNK_PLACE}
use Rattle.omi_numbers.specs.Words.{flag, native_id}
use Rattle.omi_numbers.specs.declared.limits.TheConstants.{OPEN_GROUPS, OWN_SLOTS}
use Rattle.omi_layout.specs.declared.field.Field.{Field}
use Rattle.omi_layout.specs.declared.field.Field.TheVariants.{RuntimeVersion, RuntimeThreads, RuntimeProcs, RuntimeDebug, RuntimeMaxActive, ThreadLife, ThreadNative, ThreadCurrent, ThreadState, RegionFunction, RegionEnclosing, RegionEncountering, RegionSize, RegionLevels, RegionActive, RegionTeam, TaskImplicit, TaskRegion, TaskThread, TaskNumber, TaskGenerating, TaskScheduling, TaskFunction, TaskExit, TaskEnter, TaskDynamic, TaskNthreadsLength, TaskSchedule, TaskDevice, TaskFinal, TaskTool, TaskNthreads, TaskSlots}
use Rattle.omi_layout.specs.Field.{threads, regions, tasks}
use Rattle.omi_layout.specs.Table.{thread_count, version}
use Rattle.omi_layout.specs.Valid.{IsValid, is_between}
use Rattle.omi_layout.proofs.Frame.{kind_3, kind_4}
use Rattle.omi_layout.specs.declared.limits.TheConstants.{GROUP_PLACE, GROUP_VERSION, GROUP_WORDS, OPEN_PLACE}
use Rattle.omi_model.specs.declared.event.Event.{Event}
use Rattle.omi_model.specs.declared.id.Rid.{Rid}
use Rattle.omi_model.specs.declared.id.Tid.{Tid}
use Rattle.omi_model.specs.declared.progress.Progress.{Progress}
use Rattle.omi_model.specs.declared.progress.Progress.TheVariants.{Begun, Deferred, Finished, NotBegun}
use Rattle.omi_model.specs.Reached.{Reached}
use Rattle.omi_model.specs.State.{State, scheduling_of, enclosing_of}
use Rattle.omi_model.specs.Visible.{HasStarted, IsVisibleRegion, IsVisibleTask}
use Rattle.omi_model.specs.WellFormed.{IsMember, along}
use Rattle.omi_model.proofs.ReleaseAmong.{undeferred}
use Rattle.omi_model.specs.declared.group.Group.{Group}
use Rattle.omi_model.proofs.groups.GroupLaws.{groups_right}
use Rattle.omi_word.specs.Words.{Words}
use Rattle.omi_rep.specs.Codes.{group_code, region_code, region_told, shown, task_code, task_told, thread_code, thread_told}
use Rattle.omi_rep.specs.Look.{slot_at, live_at}
use Rattle.omi_rep.specs.Records.{runtime_address, thread_address, region_address, region_word, task_address, task_word, group_word}
use Rattle.omi_rep.specs.Shows.{Shows}
use Rattle.omi_rep.proofs.Lists.{from_range}
use Rattle.omi_rep.proofs.LiveObjects.{thread_lives}
use Rattle.omi_session.proofs.ShownAnswers.{element_of_all}
use Rattle.omi_audit.specs.Clauses.{is_schedule, clause_4, led_to}
use Rattle.omi_audit.specs.Promise.{IsReached, Current, Named}
use Rattle.omi_audit.specs.Search.{Place, places_of, word_at, number_in, is_region, runtime_places, thread_places, region_places, value_places, group_places, task_places, named_at, named_by, current_tasks, reached}
use Rattle.omi_audit.specs.Verdicts.{next_in_chain, refused_at, refused_chain, refusals}
use Rattle.omi_audit.specs.Judged.{EndsIn, place_at, named_of, named_by_thread, refused_among, refused_record, refused_thread}
use Rattle.omi_audit.proofs.BuiltShows.{made_at}
use Rattle.omi_audit.proofs.Chained.{at_has, named_there}
use Rattle.omi_audit.proofs.FirstOnes.{has, has_named}
use Rattle.omi_audit.proofs.GroupWords.{owner_led}
use Rattle.omi_audit.proofs.JudgedAll.{none_refused}
use Rattle.omi_audit.proofs.LivesThere.{apart_some}
use Rattle.omi_audit.proofs.NamedWords.{named_live, named_dead}
use Rattle.omi_audit.proofs.Passes.{member_place, element_place, in_either}
use Rattle.omi_audit.proofs.RangesKept.{in_ranges}
use Rattle.omi_audit.proofs.ReachedRanges.{TaskRanges, region_ranges, task_ranges}
use Rattle.omi_audit.proofs.ReachedRecords.{led_word, none_may, low_test, between_test, flag_test, flag_one, entry_test, state_test, at_within, none_each, place_named, named_word, no_refusal, lives_live, live_may, formed, dead, region_live, task_live, IsSeen, seen_region, seen_task, region_may, task_may, same_word}
use Rattle.omi_audit.proofs.Reaches.{has_contains, contains_has, some_first, reaches}
use Rattle.omi_audit.proofs.Walks.{ends_clear}

-- a kind of schedule and a chunk
schedule_test : (c : Sched) → STATIC ≤ c.kind → c.kind ≤ AUTO → c.chunk ≤ MAX_CHUNK → is_schedule (schedule_word c) ≡ true
schedule_test c from to low =
    let kind : schedule_word c % CHUNK_PLACE ≡ c.kind = omega (arith, from, to) in
    let chunk : schedule_word c / CHUNK_PLACE ≡ c.chunk = omega (arith, from, to) in
    ap (λ x. is_between STATIC x AUTO && nat_le (schedule_word c / CHUNK_PLACE) MAX_CHUNK) kind
    ∙ ap (λ x. is_between STATIC c.kind AUTO && nat_le x MAX_CHUNK) chunk
    ∙ ap (λ b. b && nat_le c.chunk MAX_CHUNK) (between_test STATIC c.kind AUTO from to)
    ∙ low_test c.chunk MAX_CHUNK low

module _ (w : List ℕ) (words : Words) (valid : IsValid w) (p : Program) (events : List (ℕ × Event)) (s : State)
    (reaches_it : Reached p events s) (shows : Shows w words s) where
  count : s.count ≡ thread_count w
  count = shows.within.count

  -- ---- chains

  -- the record that a link names is that of what it stands for
  named_onward : {N : Type 0} (Seen : N → Type 0) (kind : ℕ) (address : N → ℕ) → (kind == threads) ≡ false
      → is_some (live_at w words kind 0) ≡ false → ((n : N) → Seen n → is_some (live_at w words kind (address n)) ≡ true)
      → (o : Option N) → ((n : N) → o ≡ Some n → Seen n)
      → slice_get (named_of w words kind (option_map_or address o 0)) 0 ≡ option_map address o
  named_onward Seen kind address other none some None each = ap (λ l. slice_get l 0) (named_dead w words kind 0 none)
  named_onward Seen kind address other none some (Some n) each =
      ap (λ l. slice_get l 0) (named_live w words kind (address n) other (some n (each n refl)))

  -- a chain of records ends where that of what they stand for does
  module _ {N : Type 0} (Seen : N → Type 0) (address : N → ℕ) (step : N → Option N) (onward : (n : N) → Seen n → Option N)
      (leads : (n : N) (seen : Seen n) → step n ≡ onward n seen)
      (each : (n : N) (seen : Seen n) (q : N) → onward n seen ≡ Some q → Seen q)
      (next : (n : N) (seen : Seen n) → next_in_chain w words (address n) ≡ option_map address (onward n seen)) where
    chain_ends : (m : ℕ) (n : N) (seen : Seen n) → along step m (onward n seen) ≡ None
        → (d : ℕ) × EndsIn w words d (address n)
    chain_ends zero n seen none = (0, next n seen ∙ ap (option_map address) none)
    chain_ends (suc m) n seen none = go (onward n seen) refl (each n seen) (chain_ends m) (next n seen) none
      where
        go : (o : Option N) → onward n seen ≡ o → ((q : N) → onward n seen ≡ Some q → Seen q)
            → ((q : N) (there : Seen q) → along step m (onward q there) ≡ None → (d : ℕ) × EndsIn w words d (address q))
            → next_in_chain w words (address n) ≡ option_map address (onward n seen) → along step (suc m) (onward n seen) ≡ None
            → (d : ℕ) × EndsIn w words d (address n)
        go None e each more next ends = (0, next ∙ ap (option_map address) e)
        go (Some q) e each more next ends =
            let there = each q e in
            let rest = more q there (ap (along step m) (sym (leads q there)) ∙ ap (along step (suc m)) (sym e) ∙ ends) in
            (suc rest.0, (address q, next ∙ ap (option_map address) e, rest.1))

  -- ---- a visible region

  module _ (n : Rid) (seen : IsVisibleRegion s n) where
    abbrev region_record : ℕ
    region_record = region_address w n

    -- its words are its codes
    region_word_is : (f : Field) (at word : ℕ) → shown f ≡ true → region_code w (region_told seen.region) f at ≡ Some word
        → word_at w words (place_at region_record f at) ≡ Some word
    region_word_is f at word kept is = shows.records.regions n seen f at word kept is

    of_region : is_region w words region_record ≡ true
    of_region = some_first _ (slot_at w regions region_record) (region_live w words valid p events s reaches_it shows n seen)

    size_is : number_in w words region_record RegionSize ≡ length seen.region.team
    size_is = ap (λ o. option_map_or (λ (word : ℕ). word) o 0) (region_word_is RegionSize 0 (length seen.region.team) refl refl)

    -- a member of its team
    record MemberAt (q : Place) : Type 0 where
      at : ℕ
      member : Tid × ℕ
      place : place_at region_record RegionTeam at ≡ q
      visible : IsVisibleTask s member.0
      word : word_at w words (place_at region_record RegionTeam at) ≡ Some (task_address w member.0)

    member_at_place : (at : ℕ) (q : Place) → slice_get (region_places w words region_record) (member_place at) ≡ Some q → MemberAt q
    member_at_place at q is =
        let made = made_at (place_at region_record RegionTeam) (number_in w words region_record RegionSize) at q is in
        let low = made.0 in
        let size = size_is in
        let there = at_within seen.region.team at (omega (arith, low, size)) in
        let right = (formed w words valid p events s reaches_it shows).regions n seen in
        let member : IsMember s there.0.0 there.0.1 = element_of_all (λ (m : Tid × ℕ). IsMember s m.0 m.1) seen.region.team at there.0 right.members there.1 in
        record {
          at = at;
          member = there.0;
          place = made.1;
          visible = member.visible;
          word = region_word_is RegionTeam at (task_address w there.0.0) refl (ap (option_map (λ (m : Tid × ℕ). task_address w m.0)) there.1);
        }

    -- what it names is visible
    region_names : (a k : ℕ) (q : Place) → slice_get (region_places w words region_record) k ≡ Some q → has (named_at w words q) a ≡ true
        → IsSeen w words valid p events s reaches_it shows a
    region_names a zero q at is =
        absurd (let same : place_at region_record RegionFunction 0 ≡ q = cc in let none = ap (λ x. has (named_at w words x) a) same ∙ is in cc)
    region_names a (suc zero) q at is =
        let same : place_at region_record RegionEnclosing 0 ≡ q = cc in
        let by = named_word w words (place_at region_record RegionEnclosing 0) regions a refl (λ v. refl) (ap (λ x. has (named_at w words x) a) same ∙ is) in
        seen_region w words valid p events s reaches_it shows seen.region.enclosing ((formed w words valid p events s reaches_it shows).regions n seen).enclosing a
        (same_word w words valid p events s reaches_it shows (place_at region_record RegionEnclosing 0) _ a (region_word_is RegionEnclosing 0 _ refl refl) by.0) by.1
    region_names a (suc (suc zero)) q at is =
        let same : place_at region_record RegionEncountering 0 ≡ q = cc in
        let by = named_word w words (place_at region_record RegionEncountering 0) tasks a refl (λ v. refl) (ap (λ x. has (named_at w words x) a) same ∙ is) in
        seen_task w words valid p events s reaches_it shows seen.region.encountering ((formed w words valid p events s reaches_it shows).regions n seen).encountering a
        (same_word w words valid p events s reaches_it shows (place_at region_record RegionEncountering 0) _ a (region_word_is RegionEncountering 0 _ refl refl) by.0) by.1
    region_names a (suc (suc (suc zero))) q at is =
        absurd (let same : place_at region_record RegionSize 0 ≡ q = cc in let none = ap (λ x. has (named_at w words x) a) same ∙ is in cc)
    region_names a (suc (suc (suc (suc zero)))) q at is =
        absurd (let same : place_at region_record RegionLevels 0 ≡ q = cc in let none = ap (λ x. has (named_at w words x) a) same ∙ is in cc)
    region_names a (suc (suc (suc (suc (suc zero))))) q at is =
        absurd (let same : place_at region_record RegionActive 0 ≡ q = cc in let none = ap (λ x. has (named_at w words x) a) same ∙ is in cc)
    region_names a (suc (suc (suc (suc (suc (suc k)))))) q at is =
        let m = member_at_place k q at in
        let by = named_word w words (place_at region_record RegionTeam m.at) tasks a refl (λ v. refl) (ap (λ x. has (named_at w words x) a) m.place ∙ is) in
        inr (m.member.0, m.visible, sym (same_word w words valid p events s reaches_it shows (place_at region_record RegionTeam m.at) (task_address w m.member.0) a m.word by.0))

    -- no word of it is refused
    region_clear : (k : ℕ) (q : Place) → slice_get (region_places w words region_record) k ≡ Some q → refused_at w words 0 q ≡ []
    region_clear zero q at =
        let same : place_at region_record RegionFunction 0 ≡ q = cc in
        let r = region_ranges p events s reaches_it n seen in
        subst (λ x. refused_at w words 0 x ≡ []) same
        (no_refusal w words 0 (place_at region_record RegionFunction 0) _ (region_word_is RegionFunction 0 _ refl refl) refl refl refl (entry_test seen.region.function r.function) refl)
    region_clear (suc zero) q at =
        let same : place_at region_record RegionEnclosing 0 ≡ q = cc in
        let right = (formed w words valid p events s reaches_it shows).regions n seen in
        subst (λ x. refused_at w words 0 x ≡ []) same
        (no_refusal w words 0 (place_at region_record RegionEnclosing 0) _ (region_word_is RegionEnclosing 0 _ refl refl) refl refl
        (region_may w words valid p events s reaches_it shows RegionEnclosing seen.region.enclosing refl refl (λ v. refl) right.enclosing) refl refl)
    region_clear (suc (suc zero)) q at =
        let same : place_at region_record RegionEncountering 0 ≡ q = cc in
        let right = (formed w words valid p events s reaches_it shows).regions n seen in
        subst (λ x. refused_at w words 0 x ≡ []) same
        (no_refusal w words 0 (place_at region_record RegionEncountering 0) _ (region_word_is RegionEncountering 0 _ refl refl) refl refl
        (task_may w words valid p events s reaches_it shows RegionEncountering seen.region.encountering refl refl (λ v. refl) right.encountering) refl refl)
    region_clear (suc (suc (suc zero))) q at =
        let same : place_at region_record RegionSize 0 ≡ q = cc in
        let r = region_ranges p events s reaches_it n seen in
        let few = r.few in
        let all = count in
        subst (λ x. refused_at w words 0 x ≡ []) same
        (no_refusal w words 0 (place_at region_record RegionSize 0) _ (region_word_is RegionSize 0 _ refl refl) refl refl refl
        (between_test 1 (length seen.region.team) (thread_count w) r.some (omega (arith, few, all))) refl)
    region_clear (suc (suc (suc (suc zero)))) q at =
        let same : place_at region_record RegionLevels 0 ≡ q = cc in
        let r = region_ranges p events s reaches_it n seen in
        subst (λ x. refused_at w words 0 x ≡ []) same
        (no_refusal w words 0 (place_at region_record RegionLevels 0) _ (region_word_is RegionLevels 0 _ refl refl) refl refl refl (low_test seen.region.levels MAX_LEVELS r.levels) refl)
    region_clear (suc (suc (suc (suc (suc zero))))) q at =
        let same : place_at region_record RegionActive 0 ≡ q = cc in
        let r = region_ranges p events s reaches_it n seen in
        subst (λ x. refused_at w words 0 x ≡ []) same
        (no_refusal w words 0 (place_at region_record RegionActive 0) _ (region_word_is RegionActive 0 _ refl refl) refl refl refl (low_test seen.region.active MAX_LEVELS r.active) refl)
    region_clear (suc (suc (suc (suc (suc (suc k)))))) q at =
        let m = member_at_place k q at in
        subst (λ x. refused_at w words 0 x ≡ []) m.place
        (no_refusal w words 0 (place_at region_record RegionTeam m.at) (task_address w m.member.0) m.word refl refl
        (live_may w words RegionTeam m.at tasks (task_address w m.member.0) refl (task_live w words valid p events s reaches_it shows m.member.0 m.visible)) refl refl)

    -- the next region of its chain
    next_region : next_in_chain w words region_record ≡ option_map (region_address w) seen.region.enclosing
    next_region =
        ap (λ b. slice_get (named_at w words (place_at region_record (cond b RegionEnclosing TaskScheduling) 0)) 0) of_region
        ∙ ap (λ l. slice_get l 0) (named_there w words (place_at region_record RegionEnclosing 0) regions _ refl (region_word_is RegionEnclosing 0 _ refl refl))
        ∙ named_onward (IsVisibleRegion s) regions (region_address w) refl (dead w words valid p events s reaches_it shows regions kind_3)
        (region_live w words valid p events s reaches_it shows) seen.region.enclosing ((formed w words valid p events s reaches_it shows).regions n seen).enclosing

  -- ---- a visible task

  -- it isn't deferred
  not_deferred : (k : Tid) (seen : IsVisibleTask s k) → seen.task.progress ≡ Deferred → ⊥
  not_deferred k seen = go seen.task.implicit refl seen.shown
    where
      started : (q : Progress) → HasStarted q → q ≡ Deferred → ⊥
      started Deferred h e = h
      started NotBegun h e = h
      started Begun h e = cc
      started Finished h e = cc

      go : (b : Bool) → seen.task.implicit ≡ b → MatchBool b (IsVisibleRegion s seen.task.region) (HasStarted seen.task.progress)
          → seen.task.progress ≡ Deferred → ⊥
      go true im around = undeferred p events s reaches_it k seen.task seen.live im
      go false ex started_so = started seen.task.progress started_so

  module _ (k : Tid) (seen : IsVisibleTask s k) where
    abbrev task_record : ℕ
    task_record = task_address w k

    task_word_is : (f : Field) (at word : ℕ) → shown f ≡ true → task_code w (task_told seen.task) f at ≡ Some word
        → word_at w words (place_at task_record f at) ≡ Some word
    task_word_is f at word kept is = shows.records.tasks k seen f at word kept is

    of_task : is_region w words task_record ≡ false
    of_task = go (is_region w words task_record) refl
      where
        go : (b : Bool) → is_region w words task_record ≡ b → b ≡ false
        go true e = absurd (apart_some w valid task_record e (some_first _ (slot_at w tasks task_record) (task_live w words valid p events s reaches_it shows k seen)))
        go false e = refl

    length_is : number_in w words task_record TaskNthreadsLength ≡ length seen.task.variables.nthreads
    length_is = ap (λ o. option_map_or (λ (word : ℕ). word) o 0) (task_word_is TaskNthreadsLength 0 (length seen.task.variables.nthreads) refl refl)

    -- an element of nthreads-var
    record ElementAt (q : Place) : Type 0 where
      at : ℕ
      size : ℕ
      place : place_at task_record TaskNthreads at ≡ q
      there : slice_get seen.task.variables.nthreads at ≡ Some size

    element_at_place : (at : ℕ) (q : Place) → slice_get (value_places w words task_record) (element_place at) ≡ Some q → ElementAt q
    element_at_place at q is =
        let made = made_at (place_at task_record TaskNthreads) (number_in w words task_record TaskNthreadsLength) at q is in
        let low = made.0 in
        let size = length_is in
        let there = at_within seen.task.variables.nthreads at (omega (arith, low, size)) in
        record { at = at; size = there.0; place = made.1; there = there.1 }

    value_names : (a j : ℕ) (q : Place) → slice_get (value_places w words task_record) j ≡ Some q → has (named_at w words q) a ≡ true
        → IsSeen w words valid p events s reaches_it shows a
    value_names a zero q at is =
        absurd (let same : place_at task_record TaskImplicit 0 ≡ q = cc in let none = ap (λ x. has (named_at w words x) a) same ∙ is in cc)
    value_names a (suc zero) q at is =
        let same : place_at task_record TaskRegion 0 ≡ q = cc in
        let by = named_word w words (place_at task_record TaskRegion 0) regions a refl (λ v. refl) (ap (λ x. has (named_at w words x) a) same ∙ is) in
        inl (
          seen.task.region,
          ((formed w words valid p events s reaches_it shows).tasks k seen).region,
          sym
              (same_word w words valid p events s reaches_it shows (place_at task_record TaskRegion 0) _ a (task_word_is TaskRegion 0 _ refl refl) by.0),
        )
    value_names a (suc (suc zero)) q at is =
        absurd (let same : place_at task_record TaskThread 0 ≡ q = cc in let none = ap (λ x. has (named_at w words x) a) same ∙ is in cc)
    value_names a (suc (suc (suc zero))) q at is =
        absurd (let same : place_at task_record TaskNumber 0 ≡ q = cc in let none = ap (λ x. has (named_at w words x) a) same ∙ is in cc)
    value_names a (suc (suc (suc (suc zero)))) q at is =
        let same : place_at task_record TaskGenerating 0 ≡ q = cc in
        let by = named_word w words (place_at task_record TaskGenerating 0) tasks a refl (λ v. refl) (ap (λ x. has (named_at w words x) a) same ∙ is) in
        seen_task w words valid p events s reaches_it shows seen.task.generating ((formed w words valid p events s reaches_it shows).tasks k seen).generating a
        (same_word w words valid p events s reaches_it shows (place_at task_record TaskGenerating 0) _ a (task_word_is TaskGenerating 0 _ refl refl) by.0) by.1
    value_names a (suc (suc (suc (suc (suc zero))))) q at is =
        let same : place_at task_record TaskScheduling 0 ≡ q = cc in
        let by = named_word w words (place_at task_record TaskScheduling 0) tasks a refl (λ v. refl) (ap (λ x. has (named_at w words x) a) same ∙ is) in
        seen_task w words valid p events s reaches_it shows seen.task.scheduling ((formed w words valid p events s reaches_it shows).tasks k seen).scheduling a
        (same_word w words valid p events s reaches_it shows (place_at task_record TaskScheduling 0) _ a (task_word_is TaskScheduling 0 _ refl refl) by.0) by.1
    value_names a (suc (suc (suc (suc (suc (suc zero)))))) q at is =
        absurd (let same : place_at task_record TaskFunction 0 ≡ q = cc in let none = ap (λ x. has (named_at w words x) a) same ∙ is in cc)
    value_names a (suc (suc (suc (suc (suc (suc (suc zero))))))) q at is =
        absurd (let same : place_at task_record TaskExit 0 ≡ q = cc in let none = ap (λ x. has (named_at w words x) a) same ∙ is in cc)
    value_names a (suc (suc (suc (suc (suc (suc (suc (suc zero)))))))) q at is =
        absurd (let same : place_at task_record TaskEnter 0 ≡ q = cc in let none = ap (λ x. has (named_at w words x) a) same ∙ is in cc)
    value_names a (suc (suc (suc (suc (suc (suc (suc (suc (suc zero))))))))) q at is =
        absurd (let same : place_at task_record TaskDynamic 0 ≡ q = cc in let none = ap (λ x. has (named_at w words x) a) same ∙ is in cc)
    value_names a (suc (suc (suc (suc (suc (suc (suc (suc (suc (suc zero)))))))))) q at is =
        absurd (let same : place_at task_record TaskNthreadsLength 0 ≡ q = cc in let none = ap (λ x. has (named_at w words x) a) same ∙ is in cc)
    value_names a (suc (suc (suc (suc (suc (suc (suc (suc (suc (suc (suc zero))))))))))) q at is =
        absurd (let same : place_at task_record TaskSchedule 0 ≡ q = cc in let none = ap (λ x. has (named_at w words x) a) same ∙ is in cc)
    value_names a (suc (suc (suc (suc (suc (suc (suc (suc (suc (suc (suc (suc zero)))))))))))) q at is =
        absurd (let same : place_at task_record TaskDevice 0 ≡ q = cc in let none = ap (λ x. has (named_at w words x) a) same ∙ is in cc)
    value_names a (suc (suc (suc (suc (suc (suc (suc (suc (suc (suc (suc (suc (suc zero))))))))))))) q at is =
        absurd (let same : place_at task_record TaskFinal 0 ≡ q = cc in let none = ap (λ x. has (named_at w words x) a) same ∙ is in cc)
    value_names a (suc (suc (suc (suc (suc (suc (suc (suc (suc (suc (suc (suc (suc (suc zero)))))))))))))) q at is =
        absurd (let same : place_at task_record TaskTool 0 ≡ q = cc in let none = ap (λ x. has (named_at w words x) a) same ∙ is in cc)
    value_names a (suc (suc (suc (suc (suc (suc (suc (suc (suc (suc (suc (suc (suc (suc (suc j))))))))))))))) q at is =
        let m = element_at_place j q at in
        absurd (let none = ap (λ x. has (named_at w words x) a) m.place ∙ is in cc)

    -- the words for its group and for its open groups, by whether the layout has them
    abbrev groups_by : Bool → List Place
    groups_by b = cond b (place_at task_record TaskSlots GROUP_PLACE ∷ place_at task_record TaskSlots OPEN_PLACE ∷ []) []

    group_code_is : version w == GROUP_VERSION ≡ true → (at word : ℕ) → at < OWN_SLOTS + GROUP_WORDS
        → group_code w (task_told seen.task) at ≡ Some word → word_at w words (place_at task_record TaskSlots at) ≡ Some word
    group_code_is known at word low is =
        task_word_is TaskSlots at word refl
        (ap (λ b. cond (nat_lt at (cond b (OWN_SLOTS + GROUP_WORDS) OWN_SLOTS)) (group_code w (task_told seen.task) at) None) known
        ∙ ap (λ b. cond b (group_code w (task_told seen.task) at) None) (le-leb (suc at) (OWN_SLOTS + GROUP_WORDS) low) ∙ is)

    -- its group is one of a visible task
    group_right : (g : Group) → seen.task.group ≡ Some g → (g.index < OPEN_GROUPS) × IsVisibleTask s g.owner
    group_right g is = (
      ((groups_right p events s reaches_it k seen.task seen.live).member g is).index,
      ((formed w words valid p events s reaches_it shows).tasks k seen).owner g is,
    )

    owner_seen : (o : Option Group) → ((g : Group) → o ≡ Some g → (g.index < OPEN_GROUPS) × IsVisibleTask s g.owner) → (a : ℕ)
        → led_to TaskSlots (group_word w o) ≡ a → is_some (live_at w words tasks a) ≡ true → IsSeen w words valid p events s reaches_it shows a
    owner_seen None each a is live =
        absurd (let no = sym (dead w words valid p events s reaches_it shows tasks kind_4) ∙ ap (λ x. is_some (live_at w words tasks x)) is ∙ live in cc)
    owner_seen (Some g) each a is live = inr (g.owner, (each g refl).1, sym is ∙ owner_led w valid g (each g refl).0)

    group_names : (a j : ℕ) (q : Place) (b : Bool) → version w == GROUP_VERSION ≡ b → slice_get (groups_by b) j ≡ Some q
        → has (named_at w words q) a ≡ true → IsSeen w words valid p events s reaches_it shows a
    group_names a j q false known at is = absurd (cc)
    group_names a zero q true known at is =
        let same : place_at task_record TaskSlots GROUP_PLACE ≡ q = cc in
        let (v, word, led, live) = led_word w words (place_at task_record TaskSlots GROUP_PLACE) tasks a refl (ap (λ x. has (named_at w words x) a) same ∙ is) in
        let code =
        same_word w words valid p events s reaches_it shows (place_at task_record TaskSlots GROUP_PLACE) (group_word w seen.task.group) v
        (group_code_is known GROUP_PLACE (group_word w seen.task.group) (omega arith) refl) word in
        owner_seen seen.task.group group_right a (ap (led_to TaskSlots) code ∙ led) live
    group_names a (suc zero) q true known at is =
        absurd (let same : place_at task_record TaskSlots OPEN_PLACE ≡ q = cc in let none = ap (λ x. has (named_at w words x) a) same ∙ is in cc)
    group_names a (suc (suc j)) q true known at is = absurd (cc)

    task_names : (a j : ℕ) (q : Place) → slice_get (task_places w words task_record) j ≡ Some q → has (named_at w words q) a ≡ true
        → IsSeen w words valid p events s reaches_it shows a
    task_names a j q at is = elim (in_either (value_places w words task_record) (group_places w words task_record) j q at) [
      | inl value ↦ value_names a j q value is
      | inr group ↦ group_names a group.0 q (version w == GROUP_VERSION) refl group.1 is
    ]

    group_may : (o : Option Group) → ((g : Group) → o ≡ Some g → (g.index < OPEN_GROUPS) × IsVisibleTask s g.owner)
        → clause_4 w words TaskSlots GROUP_PLACE (group_word w o) ≡ true
    group_may None each = none_may w words TaskSlots GROUP_PLACE tasks 0 refl refl refl
    group_may (Some g) each =
        live_may w words TaskSlots GROUP_PLACE tasks (group_word w (Some g)) refl
        (ap (λ x. is_some (live_at w words tasks x)) (owner_led w valid g (each g refl).0)
        ∙ task_live w words valid p events s reaches_it shows g.owner (each g refl).1)

    group_clear : (j : ℕ) (q : Place) (b : Bool) → version w == GROUP_VERSION ≡ b → slice_get (groups_by b) j ≡ Some q → refused_at w words 0 q ≡ []
    group_clear j q false known at = absurd (cc)
    group_clear zero q true known at =
        let same : place_at task_record TaskSlots GROUP_PLACE ≡ q = cc in
        subst (λ x. refused_at w words 0 x ≡ []) same
        (no_refusal w words 0 (place_at task_record TaskSlots GROUP_PLACE) (group_word w seen.task.group)
        (group_code_is known GROUP_PLACE (group_word w seen.task.group) (omega arith) refl) refl refl (group_may seen.task.group group_right) refl refl)
    group_clear (suc zero) q true known at =
        let same : place_at task_record TaskSlots OPEN_PLACE ≡ q = cc in
        subst (λ x. refused_at w words 0 x ≡ []) same
        (no_refusal w words 0 (place_at task_record TaskSlots OPEN_PLACE) seen.task.open_groups
        (group_code_is known OPEN_PLACE seen.task.open_groups (omega arith) refl) refl refl refl refl
        (low_test seen.task.open_groups OPEN_GROUPS (groups_right p events s reaches_it k seen.task seen.live).few))
    group_clear (suc (suc j)) q true known at = absurd (cc)

    -- no word of it is refused
    module _ (r : TaskRanges s seen.task) where
      value_clear : (j : ℕ) (q : Place) → slice_get (value_places w words task_record) j ≡ Some q → refused_at w words 0 q ≡ []
      value_clear zero q at =
          let same : place_at task_record TaskImplicit 0 ≡ q = cc in
          subst (λ x. refused_at w words 0 x ≡ []) same
          (no_refusal w words 0 (place_at task_record TaskImplicit 0) _ (task_word_is TaskImplicit 0 _ refl refl) refl refl refl refl (flag_test seen.task.implicit))
      value_clear (suc zero) q at =
          let same : place_at task_record TaskRegion 0 ≡ q = cc in
          subst (λ x. refused_at w words 0 x ≡ []) same
          (no_refusal w words 0 (place_at task_record TaskRegion 0) _ (task_word_is TaskRegion 0 _ refl refl) refl refl
          (live_may w words TaskRegion 0 regions (region_address w seen.task.region) refl
          (region_live w words valid p events s reaches_it shows seen.task.region ((formed w words valid p events s reaches_it shows).tasks k seen).region)) refl refl)
      value_clear (suc (suc zero)) q at =
          let same : place_at task_record TaskThread 0 ≡ q = cc in
          subst (λ x. refused_at w words 0 x ≡ []) same
          (no_refusal w words 0 (place_at task_record TaskThread 0) _ (task_word_is TaskThread 0 _ refl refl) refl refl
          (live_may w words TaskThread 0 threads (thread_address w seen.task.thread) refl
          (lives_live w words threads (thread_address w seen.task.thread) 1
          (thread_lives w words s valid shows seen.task.thread ((formed w words valid p events s reaches_it shows).tasks k seen).begun))) refl refl)
      value_clear (suc (suc (suc zero))) q at =
          let same : place_at task_record TaskNumber 0 ≡ q = cc in
          let low = r.number in
          let all = count in
          subst (λ x. refused_at w words 0 x ≡ []) same
          (no_refusal w words 0 (place_at task_record TaskNumber 0) _ (task_word_is TaskNumber 0 _ refl refl) refl refl refl refl
          (le-leb (suc seen.task.number) (thread_count w) (omega (arith, low, all))))
      value_clear (suc (suc (suc (suc zero)))) q at =
          let same : place_at task_record TaskGenerating 0 ≡ q = cc in
          subst (λ x. refused_at w words 0 x ≡ []) same
          (no_refusal w words 0 (place_at task_record TaskGenerating 0) _ (task_word_is TaskGenerating 0 _ refl refl) refl refl
          (task_may w words valid p events s reaches_it shows TaskGenerating seen.task.generating refl refl (λ v. refl) ((formed w words valid p events s reaches_it shows).tasks k seen).generating) refl refl)
      value_clear (suc (suc (suc (suc (suc zero))))) q at =
          let same : place_at task_record TaskScheduling 0 ≡ q = cc in
          subst (λ x. refused_at w words 0 x ≡ []) same
          (no_refusal w words 0 (place_at task_record TaskScheduling 0) _ (task_word_is TaskScheduling 0 _ refl refl) refl refl
          (task_may w words valid p events s reaches_it shows TaskScheduling seen.task.scheduling refl refl (λ v. refl) ((formed w words valid p events s reaches_it shows).tasks k seen).scheduling) refl refl)
      value_clear (suc (suc (suc (suc (suc (suc zero)))))) q at =
          let same : place_at task_record TaskFunction 0 ≡ q = cc in
          subst (λ x. refused_at w words 0 x ≡ []) same
          (no_refusal w words 0 (place_at task_record TaskFunction 0) _ (task_word_is TaskFunction 0 _ refl refl) refl refl refl refl (entry_test seen.task.function r.function))
      value_clear (suc (suc (suc (suc (suc (suc (suc zero))))))) q at =
          let same : place_at task_record TaskExit 0 ≡ q = cc in
          subst (λ x. refused_at w words 0 x ≡ []) same
          (no_refusal w words 0 (place_at task_record TaskExit 0) _ (task_word_is TaskExit 0 _ refl refl) refl refl refl refl refl)
      value_clear (suc (suc (suc (suc (suc (suc (suc (suc zero)))))))) q at =
          let same : place_at task_record TaskEnter 0 ≡ q = cc in
          subst (λ x. refused_at w words 0 x ≡ []) same
          (no_refusal w words 0 (place_at task_record TaskEnter 0) _ (task_word_is TaskEnter 0 _ refl refl) refl refl refl refl refl)
      value_clear (suc (suc (suc (suc (suc (suc (suc (suc (suc zero))))))))) q at =
          let same : place_at task_record TaskDynamic 0 ≡ q = cc in
          subst (λ x. refused_at w words 0 x ≡ []) same
          (no_refusal w words 0 (place_at task_record TaskDynamic 0) _ (task_word_is TaskDynamic 0 _ refl refl) refl refl refl refl (flag_test seen.task.variables.dynamic))
      value_clear (suc (suc (suc (suc (suc (suc (suc (suc (suc (suc zero)))))))))) q at =
          let same : place_at task_record TaskNthreadsLength 0 ≡ q = cc in
          subst (λ x. refused_at w words 0 x ≡ []) same
          (no_refusal w words 0 (place_at task_record TaskNthreadsLength 0) _ (task_word_is TaskNthreadsLength 0 _ refl refl) refl
          refl refl refl (between_test 1 (length seen.task.variables.nthreads) MAX_SIZES ((formed w words valid p events s reaches_it shows).tasks k seen).variables.some
          ((formed w words valid p events s reaches_it shows).tasks k seen).variables.few))
      value_clear (suc (suc (suc (suc (suc (suc (suc (suc (suc (suc (suc zero))))))))))) q at =
          let same : place_at task_record TaskSchedule 0 ≡ q = cc in
          let kind_from = ((formed w words valid p events s reaches_it shows).tasks k seen).variables.kind_from in
          let kind_to = ((formed w words valid p events s reaches_it shows).tasks k seen).variables.kind_to in
          subst (λ x. refused_at w words 0 x ≡ []) same
          (no_refusal w words 0 (place_at task_record TaskSchedule 0) _ (task_word_is TaskSchedule 0 _ refl refl) refl refl refl
          refl (schedule_test seen.task.variables.schedule kind_from kind_to r.variables.chunk))
      value_clear (suc (suc (suc (suc (suc (suc (suc (suc (suc (suc (suc (suc zero)))))))))))) q at =
          let same : place_at task_record TaskDevice 0 ≡ q = cc in
          subst (λ x. refused_at w words 0 x ≡ []) same
          (no_refusal w words 0 (place_at task_record TaskDevice 0) _ (task_word_is TaskDevice 0 _ refl refl) refl refl refl refl (low_test seen.task.variables.device MAX_DEVICE r.variables.device))
      value_clear (suc (suc (suc (suc (suc (suc (suc (suc (suc (suc (suc (suc (suc zero))))))))))))) q at =
          let same : place_at task_record TaskFinal 0 ≡ q = cc in
          subst (λ x. refused_at w words 0 x ≡ []) same
          (no_refusal w words 0 (place_at task_record TaskFinal 0) _ (task_word_is TaskFinal 0 _ refl refl) refl refl refl refl (flag_test seen.task.is_final))
      value_clear (suc (suc (suc (suc (suc (suc (suc (suc (suc (suc (suc (suc (suc (suc zero)))))))))))))) q at =
          let same : place_at task_record TaskTool 0 ≡ q = cc in
          subst (λ x. refused_at w words 0 x ≡ []) same
          (no_refusal w words 0 (place_at task_record TaskTool 0) _ (task_word_is TaskTool 0 _ refl refl) refl refl refl refl refl)
      value_clear (suc (suc (suc (suc (suc (suc (suc (suc (suc (suc (suc (suc (suc (suc (suc j))))))))))))))) q at =
          let m = element_at_place j q at in
          let sizes = r.variables.sizes m.at (slice_get_within seen.task.variables.nthreads m.at m.size m.there) in
          let size : slice_index seen.task.variables.nthreads m.at ≡ m.size = get_or_from_slice_get seen.task.variables.nthreads m.at m.size 0 m.there in
          let low = sizes.0 in
          let high = sizes.1 in
          subst (λ x. refused_at w words 0 x ≡ []) m.place
          (no_refusal w words 0 (place_at task_record TaskNthreads m.at) m.size (task_word_is TaskNthreads m.at m.size refl m.there) refl refl refl refl
          (between_test 1 m.size MAX_SIZE (omega (arith, low, size)) (omega (arith, high, size))))

      task_clear : (j : ℕ) (q : Place) → slice_get (task_places w words task_record) j ≡ Some q → refused_at w words 0 q ≡ []
      task_clear j q at = elim (in_either (value_places w words task_record) (group_places w words task_record) j q at) [
        | inl value ↦ value_clear j q value
        | inr group ↦ group_clear group.0 q (version w == GROUP_VERSION) refl group.1
      ]

    -- the next task of its chain
    next_task : next_in_chain w words task_record ≡ option_map (task_address w) seen.task.scheduling
    next_task =
        ap (λ b. slice_get (named_at w words (place_at task_record (cond b RegionEnclosing TaskScheduling) 0)) 0) of_task
        ∙ ap (λ l. slice_get l 0) (named_there w words (place_at task_record TaskScheduling 0) tasks _ refl (task_word_is TaskScheduling 0 _ refl refl))
        ∙ named_onward (IsVisibleTask s) tasks (task_address w) refl (dead w words valid p events s reaches_it shows tasks kind_4)
        (task_live w words valid p events s reaches_it shows) seen.task.scheduling ((formed w words valid p events s reaches_it shows).tasks k seen).scheduling

  region_ends : (m : ℕ) (n : Rid) (seen : IsVisibleRegion s n) → along (enclosing_of s) m seen.region.enclosing ≡ None
      → (d : ℕ) × EndsIn w words d (region_address w n)
  region_ends =
      chain_ends (IsVisibleRegion s) (region_address w) (enclosing_of s) (λ n seen. seen.region.enclosing)
      (λ n seen. ap (option_and_then (λ r. r.enclosing)) seen.live)
      (λ n seen. ((formed w words valid p events s reaches_it shows).regions n seen).enclosing) next_region

  task_ends : (m : ℕ) (k : Tid) (seen : IsVisibleTask s k) → along (scheduling_of s) m seen.task.scheduling ≡ None
      → (d : ℕ) × EndsIn w words d (task_address w k)
  task_ends =
      chain_ends (IsVisibleTask s) (task_address w) (scheduling_of s) (λ k seen. seen.task.scheduling)
      (λ k seen. ap (option_and_then (λ t. t.scheduling)) seen.live)
      (λ k seen. ((formed w words valid p events s reaches_it shows).tasks k seen).scheduling) next_task

  -- ---- threads

  module _ (i : ℕ) (within : i < thread_count w) where
    abbrev thread_record : ℕ
    thread_record = thread_address w i

    known : i < s.count
    known = let all = count in omega (arith, within, all)

    life_word : word_at w words (place_at thread_record ThreadLife 0) ≡ Some (flag (s.threads i).begun)
    life_word = shows.records.lives i known ThreadLife 0 _ refl refl

    begun_is : (number_in w words thread_record ThreadLife == 1) ≡ (s.threads i).begun
    begun_is = ap (λ o. option_map_or (λ (word : ℕ). word) o 0 == 1) life_word ∙ flag_one (s.threads i).begun

    thread_word_is : (s.threads i).begun ≡ true → (f : Field) (at word : ℕ) → shown f ≡ true → thread_code w i (thread_told (s.threads i)) f at ≡ Some word
        → word_at w words (place_at thread_record f at) ≡ Some word
    thread_word_is begun f at word kept is = shows.records.threads i known begun f at word kept is

    -- the places of a thread, by whether it has begun
    abbrev places_by : Bool → List Place
    places_by b = places_of thread_record (ThreadLife ∷ ThreadNative ∷ []) ++ cond b (places_of thread_record (ThreadCurrent ∷ ThreadState ∷ [])) []

    thread_names : (a j : ℕ) (q : Place) (b : Bool) → (s.threads i).begun ≡ b → slice_get (places_by b) j ≡ Some q → has (named_at w words q) a ≡ true
        → IsSeen w words valid p events s reaches_it shows a
    thread_names a zero q b begun at is =
        absurd (let same : place_at thread_record ThreadLife 0 ≡ q = cc in let none = ap (λ x. has (named_at w words x) a) same ∙ is in cc)
    thread_names a (suc zero) q b begun at is =
        absurd (let same : place_at thread_record ThreadNative 0 ≡ q = cc in let none = ap (λ x. has (named_at w words x) a) same ∙ is in cc)
    thread_names a (suc (suc zero)) q true begun at is =
        let same : place_at thread_record ThreadCurrent 0 ≡ q = cc in
        let by = named_word w words (place_at thread_record ThreadCurrent 0) tasks a refl (λ v. refl) (ap (λ x. has (named_at w words x) a) same ∙ is) in
        seen_task w words valid p events s reaches_it shows (s.threads i).current (λ k e. (formed w words valid p events s reaches_it shows).currents i k known e) a
        (same_word w words valid p events s reaches_it shows (place_at thread_record ThreadCurrent 0) _ a (thread_word_is begun ThreadCurrent 0 _ refl refl) by.0) by.1
    thread_names a (suc (suc (suc zero))) q true begun at is =
        absurd (let same : place_at thread_record ThreadState 0 ≡ q = cc in let none = ap (λ x. has (named_at w words x) a) same ∙ is in cc)
    thread_names a (suc (suc (suc (suc j)))) q true begun at is = absurd (cc)
    thread_names a (suc (suc j)) q false begun at is = absurd (cc)

    thread_clear : (j : ℕ) (q : Place) (b : Bool) → (s.threads i).begun ≡ b → slice_get (places_by b) j ≡ Some q → refused_at w words i q ≡ []
    thread_clear zero q b begun at =
        let same : place_at thread_record ThreadLife 0 ≡ q = cc in
        subst (λ x. refused_at w words i x ≡ []) same
        (no_refusal w words i (place_at thread_record ThreadLife 0) _ life_word refl (flag_test (s.threads i).begun) refl refl refl)
    thread_clear (suc zero) q b begun at =
        let same : place_at thread_record ThreadNative 0 ≡ q = cc in
        subst (λ x. refused_at w words i x ≡ []) same
        (no_refusal w words i (place_at thread_record ThreadNative 0) _ (shows.records.lives i known ThreadNative 0 _ refl refl) refl (eq-eqb (native_id i) (native_id i) refl) refl refl refl)
    thread_clear (suc (suc zero)) q true begun at =
        let same : place_at thread_record ThreadCurrent 0 ≡ q = cc in
        subst (λ x. refused_at w words i x ≡ []) same
        (no_refusal w words i (place_at thread_record ThreadCurrent 0) _ (thread_word_is begun ThreadCurrent 0 _ refl refl) refl refl
        (task_may w words valid p events s reaches_it shows ThreadCurrent (s.threads i).current refl refl (λ v. refl) (λ k e. (formed w words valid p events s reaches_it shows).currents i k known e)) refl refl)
    thread_clear (suc (suc (suc zero))) q true begun at =
        let same : place_at thread_record ThreadState 0 ≡ q = cc in
        let own = in_ranges p events s reaches_it in
        subst (λ x. refused_at w words i x ≡ []) same
        (no_refusal w words i (place_at thread_record ThreadState 0) _ (thread_word_is begun ThreadState 0 _ refl refl) refl
        (state_test (s.threads i).state (s.threads i).wait ((formed w words valid p events s reaches_it shows).states i known) (own.threads i).1) refl refl refl)
    thread_clear (suc (suc (suc (suc j)))) q true begun at = absurd (cc)
    thread_clear (suc (suc j)) q false begun at = absurd (cc)

    thread_places_are : thread_places w words i ≡ places_by (s.threads i).begun
    thread_places_are = ap places_by begun_is

    thread_refuses_none : refused_thread w words i ≡ []
    thread_refuses_none =
        ap (refused_among w words i) thread_places_are
        ∙ none_each (refused_at w words i) (places_by (s.threads i).begun) (λ j q at. thread_clear j q (s.threads i).begun refl at)

    current_seen : (a : ℕ) → has (named_by_thread w words i) a ≡ true → IsSeen w words valid p events s reaches_it shows a
    current_seen a is =
        let at = place_named (named_at w words) (places_by (s.threads i).begun) a (ap (λ l. has (flat_map (named_at w words) l) a) (sym thread_places_are) ∙ is) in
        thread_names a at.0 at.1 (s.threads i).begun refl at.2 at.3

  -- ---- the runtime

  runtime_clear : (j : ℕ) (q : Place) → slice_get (runtime_places w words) j ≡ Some q → refused_at w words 0 q ≡ []
  runtime_clear zero q at =
      let same : place_at (runtime_address w) RuntimeVersion 0 ≡ q = cc in
      subst (λ x. refused_at w words 0 x ≡ []) same
      (no_refusal w words 0 (place_at (runtime_address w) RuntimeVersion 0) OPENMP_VERSION (shows.records.globals RuntimeVersion 0 _ refl refl) refl refl refl refl refl)
  runtime_clear (suc zero) q at =
      let same : place_at (runtime_address w) RuntimeThreads 0 ≡ q = cc in
      subst (λ x. refused_at w words 0 x ≡ []) same
      (no_refusal w words 0 (place_at (runtime_address w) RuntimeThreads 0) s.count (shows.records.globals RuntimeThreads 0 _ refl refl) (eq-eqb s.count (thread_count w) count) refl refl refl refl)
  runtime_clear (suc (suc zero)) q at =
      let same : place_at (runtime_address w) RuntimeProcs 0 ≡ q = cc in
      let own = in_ranges p events s reaches_it in
      let procs : s.environment.procs ≡ p.env.procs = ap (λ e. e.procs) own.environment in
      let range = (Rules-from_accepted p).procs in
      let low = range.0 in
      let high = range.1 in
      subst (λ x. refused_at w words 0 x ≡ []) same
      (no_refusal w words 0 (place_at (runtime_address w) RuntimeProcs 0) s.environment.procs (shows.records.globals RuntimeProcs 0 _ refl refl)
      (between_test 1 s.environment.procs MAX_PROCS (omega (arith, procs, low)) (omega (arith, procs, high))) refl refl refl refl)
  runtime_clear (suc (suc (suc zero))) q at =
      let same : place_at (runtime_address w) RuntimeDebug 0 ≡ q = cc in
      subst (λ x. refused_at w words 0 x ≡ []) same
      (no_refusal w words 0 (place_at (runtime_address w) RuntimeDebug 0) _ (shows.records.globals RuntimeDebug 0 _ refl refl) (flag_test s.environment.debug) refl refl refl refl)
  runtime_clear (suc (suc (suc (suc zero)))) q at =
      let same : place_at (runtime_address w) RuntimeMaxActive 0 ≡ q = cc in
      let own = in_ranges p events s reaches_it in
      subst (λ x. refused_at w words 0 x ≡ []) same
      (no_refusal w words 0 (place_at (runtime_address w) RuntimeMaxActive 0) s.max_active (shows.records.globals RuntimeMaxActive 0 _ refl refl)
      (low_test s.max_active MAX_LEVELS own.max_active) refl refl refl refl)
  runtime_clear (suc (suc (suc (suc (suc j))))) q at = absurd (cc)

  -- ---- all that is reached

  seen_named : (by a : ℕ) → IsSeen w words valid p events s reaches_it shows by → has (named_by w words by) a ≡ true → IsSeen w words valid p events s reaches_it shows a
  seen_named by a (inl (n, seen, is)) named =
      let at = place_named (named_at w words) (region_places w words (region_address w n)) a
      (ap (λ b. has (flat_map (named_at w words) (cond b (region_places w words (region_address w n)) (task_places w words (region_address w n)))) a) (sym (of_region n seen))
      ∙ ap (λ x. has (named_by w words x) a) (sym is) ∙ named) in
      region_names n seen a at.0 at.1 at.2 at.3
  seen_named by a (inr (k, seen, is)) named =
      let at = place_named (named_at w words) (task_places w words (task_address w k)) a
      (ap (λ b. has (flat_map (named_at w words) (cond b (region_places w words (task_address w k)) (task_places w words (task_address w k)))) a) (sym (of_task k seen))
      ∙ ap (λ x. has (named_by w words x) a) (sym is) ∙ named) in
      task_names k seen a at.0 at.1 at.2 at.3

  seen_reached : (a : ℕ) → IsReached w words a → IsSeen w words valid p events s reaches_it shows a
  seen_reached _ (Current a among) =
      let by = has_named (named_by_thread w words) (range_with_len 0 (thread_count w)) a (contains_has (current_tasks w words) a among) in
      let within = (from_range 0 (thread_count w) by.0 (has_contains (range_with_len 0 (thread_count w)) by.0 by.1)).1 in
      current_seen by.0 (omega (arith, within)) a by.2
  seen_reached _ (Named by a before among) = seen_named by a (seen_reached by before) (contains_has (named_by w words by) a among)

  pub reached_seen : (a : ℕ) → has (reached w words) a ≡ true → IsSeen w words valid p events s reaches_it shows a
  reached_seen a is = seen_reached a ((reaches w words a).0 (has_contains (reached w words) a is))

  record_refuses_none : (a : ℕ) → IsSeen w words valid p events s reaches_it shows a → refused_record w words a ≡ []
  record_refuses_none a (inl (n, seen, is)) =
      ap (refused_record w words) is
      ∙ ap (λ b. refused_among w words 0 (cond b (region_places w words (region_address w n)) (task_places w words (region_address w n)))) (of_region n seen)
      ∙ none_each (refused_at w words 0) (region_places w words (region_address w n)) (region_clear n seen)
  record_refuses_none a (inr (k, seen, is)) =
      ap (refused_record w words) is
      ∙ ap (λ b. refused_among w words 0 (cond b (region_places w words (task_address w k)) (task_places w words (task_address w k)))) (of_task k seen)
      ∙ none_each (refused_at w words 0) (task_places w words (task_address w k)) (task_clear k seen (task_ranges p events s reaches_it k seen (not_deferred k seen)))

  chain_refuses_none : (a : ℕ) → IsSeen w words valid p events s reaches_it shows a → refused_chain w words a ≡ []
  chain_refuses_none a (inl (n, seen, is)) =
      let ends = ((formed w words valid p events s reaches_it shows).regions n seen).ends in
      let chain = region_ends ends.0 n seen ends.1 in
      ap (refused_chain w words) is ∙ ends_clear w words chain.0 (region_address w n) chain.1
  chain_refuses_none a (inr (k, seen, is)) =
      let ends = ((formed w words valid p events s reaches_it shows).tasks k seen).ends in
      let chain = task_ends ends.0 k seen ends.1 in
      ap (refused_chain w words) is ∙ ends_clear w words chain.0 (task_address w k) chain.1

  pub reached_clear : refusals w words ≡ []
  reached_clear =
      none_refused w words
      (none_each (refused_at w words 0) (runtime_places w words) runtime_clear)
      (none_each (refused_thread w words) (range_with_len 0 (thread_count w)) (λ j i at.
      let within = (from_range 0 (thread_count w) i (has_contains (range_with_len 0 (thread_count w)) i (at_has (range_with_len 0 (thread_count w)) j i at))).1 in
      thread_refuses_none i (omega (arith, within))))
      (none_each (refused_record w words) (reached w words) (λ j a at. record_refuses_none a (reached_seen a (at_has (reached w words) j a at))))
      (none_each (refused_chain w words) (reached w words) (λ j a at. chain_refuses_none a (reached_seen a (at_has (reached w words) j a at))))
