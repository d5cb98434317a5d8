-- The steps of a wait: the look at the slots of the team, the start of a task, and the ends of taskwait and taskyield.
use Rattle.std.proofs.Common.{◌≡◌, ◌<◌, ◌+◌, ◌*◌, ◌/◌, ◌%◌, ◌==◌, ◌&&◌, ◌||◌, nat_lt, not, ℕ, Bool, true, false, List, [], length, Option, Some, None, refl, sym, ap, ◌∙◌, subst, arith, if◌then◌else◌, ◌-◌, suc, ◌∷◌}
use Rattle.std.specs.Prelude.{slice_get, nat_le}
use Rattle.std.specs.Option.{option_and_then, option_map, option_map_or}
use Rattle.std.proofs.lemmas.Bool.Decides.{nat_tests}
use Rattle.omi_word.specs.declared.op.Op.TheVariants as op
use Rattle.omi_word.specs.declared.op.Op.{Op}
use Rattle.omi_script.specs.declared.program.Program.{Program}
use Rattle.omi_model.specs.declared.event.Event.{Event}
use Rattle.omi_model.specs.declared.event.Event.TheVariants as event
use Rattle.omi_model.specs.declared.id.Tid.{Tid}
use Rattle.omi_model.specs.declared.region.Region.{Region}
use Rattle.omi_model.specs.declared.task.Task.{Task}
use Rattle.omi_model.specs.Changes.{list_of}
use Rattle.omi_model.specs.State.{State, region_of, task_of}
use Rattle.omi_model.specs.declared.item.Item.{Item}
use Rattle.omi_model.specs.declared.item.Item.TheVariants as item
use Rattle.omi_model.specs.Groups.{innermost, innermost_or}
use Rattle.omi_model.proofs.groups.GroupLaws.{groups_right}
use Rattle.omi_layout.specs.declared.field.Field.TheVariants.{RegionTeam, TaskChildren, TaskFinal, TaskFunction, TaskGenerating, TaskSlots}
use Rattle.omi_layout.specs.Field.{tasks}
use Rattle.omi_layout.specs.Memory.{IsRecordWord, Memory}
use Rattle.omi_layout.specs.Named.{number}
use Rattle.omi_layout.specs.Table.{thread_count}
use Rattle.omi_layout.proofs.Numbers.{numbered_field}
use Rattle.omi_layout.proofs.SlotWords.{slot_within, group_word_within}
use Rattle.omi_layout.specs.declared.limits.TheConstants.{COUNT_PLACE, GROUP_PLACE}
use Rattle.omi_pc.specs.declared.actor.Actor.{Actor}
use Rattle.omi_pc.specs.declared.counter.Counter.{Counter}
use Rattle.omi_pc.specs.declared.counter.Counter.TheVariants as counter
use Rattle.omi_pc.specs.declared.counter.PlainCounter.TheVariants as plain
use Rattle.omi_pc.specs.declared.frame.Barrier.{Barrier}
use Rattle.omi_pc.specs.declared.frame.Wait.{Wait}
use Rattle.omi_pc.specs.declared.frame.Wait.TheVariants as wait
use Rattle.omi_numbers.specs.declared.limits.TheConstants.{OWN_SLOTS, OPEN_GROUPS}
use Rattle.omi_numbers.specs.declared.states.TheConstants.{WAIT_TASKGROUP}
use Rattle.omi_pc.specs.declared.limits.TheConstants.{START_WORDS}
use Rattle.omi_pc.specs.declared.place.Place.{Place}
use Rattle.omi_pc.specs.declared.task_counter.LookCounter.{LookCounter}
use Rattle.omi_pc.specs.declared.task_counter.LookCounter.TheVariants as look
use Rattle.omi_pc.specs.declared.team_counter.BarrierCounter.TheVariants as barrier
use Rattle.omi_pc.specs.Fits.{TestsChildren, slots_of}
use Rattle.omi_pc.specs.Moves.{begun_explicit, back_to_work}
use Rattle.omi_pc.specs.FitLaws.{grouped}
use Rattle.omi_rep.specs.declared.outcome.Outcome.TheVariants as outcome
use Rattle.omi_rep.specs.Records.{task_address, task_word, group_word}
use Rattle.omi_step_words.specs.Moving.{to_look}
use Rattle.omi_step_words.specs.Words.{of_task, of_groups}
use Rattle.omi_task.specs.LookSteps.{behind_code, behind_look, body_begun, look_at, look_moved, look_next, look_outcome, looking_on, member_at, next_look, of_slot}
use Rattle.omi_task.specs.Slots.{coded_place, coded_task}
use Rattle.omi_task.specs.Starts.{task_context}
use Rattle.omi_rule.specs.Ahead as Ahead
use Rattle.omi_rule.specs.Chains.{KeepsContext}
use Rattle.omi_rule.specs.Rows.{IsRowOf, OfRegion}
use Rattle.omi_rule.specs.Steps.{IsOn, RecordWord, found_in}
use Rattle.omi_rule.proofs.Assembly.{Before}
use Rattle.omi_rule.proofs.OwnTask.{own_list}
use Rattle.omi_rule.proofs.barrier.AtCounter.{IsOfMember, ahead_is, body, context_placed, fits_counter, here, is_context, placed_counter, row_is, sees, stands}
use Rattle.omi_rule.proofs.Groups.{one_open}
use Rattle.omi_task.proofs.CodedRecords.{coded_there}
use Rattle.omi_task.specs.Groups.{innermost_index, innermost_word, of_innermost_count}
use Rattle.omi_rule_watch.specs.Given.{Has, HasAll, IsLookGiven, IsSearchGiven}
use Rattle.omi_rule_watch.specs.Watch.{SlotLook, Watch, children_start, current_region, is_generating_of, is_gone, is_no_child, is_slot, looked_at, current_member_task, current_team_size, group_to_end, is_group_of, is_no_member, is_waiting, members_start, no_look}
use Rattle.omi_rule_watch.proofs.Parts.{IsCalm, KeepsParts, PartsKeep, calm_at, event_parts, event_rests, look_loads, look_passes, look_stays, quiet_parts, quiet_rests, waits_parts}
use Rattle.omi_rule_watch.proofs.Resting.{IsFresh, Rests, rests_plain, rests_settled, rests_working, seeks_none}
use Rattle.omi_rule_watch.proofs.Standing.{record_word, same_number, some_word, word_of}

-- ---- the team of a waiting thread

module _ (p : Program) (w : List ℕ) (m : Memory) (events : List (ℕ × Event)) (s : State) (actors : ℕ → Actor)
    (i : ℕ) (before : Before p w m events s actors i) (x : Counter) (at : (actors i).counter ≡ x)
    (of_member : IsOfMember x) where
  abbrev known : KeepsContext s i (actors i).context
  known = here p w m events s actors i before x at of_member

  pub region_is : (r : Region) → region_of s (actors i).context.region ≡ Some r → current_region s i ≡ Some r
  region_is r found =
      ap
      (λ (k : Option Tid). option_and_then (λ (t : Task). region_of s t.region) (option_and_then (task_of s) k))
      (stands p w m events s actors i before x at of_member).current
      ∙ ap (λ (t : Option Task). option_and_then (λ (t : Task). region_of s t.region) t) known.live
      ∙ ap (region_of s) known.region_is
      ∙ found

  pub size_is : current_team_size s i ≡ (actors i).context.size
  size_is =
      ap (λ (r : Option Region). option_map_or (λ (r : Region). length r.team) r 0)
      (region_is known.region known.found)
      ∙ known.size

  -- all slots are four times the size
  pub all_slots : (h : SlotLook) → HasAll (actors i) h → h.looked ≡ OWN_SLOTS * current_team_size s i
  all_slots h has = has.looked ∙ sym (ap (λ n. OWN_SLOTS * n) size_is)

  -- a task that waits for the end of a group has that one open
  module _ (rest : List Item) (ends : known.task.list ≡ item.Tasks WAIT_TASKGROUP ∷ item.GroupEnd ∷ rest) where
    open_is : (l : ℕ) × ((known.task.open_groups ≡ suc l) × ((actors i).context.open_groups ≡ suc l))
    open_is =
        let (l, some) = one_open p events s before.rule.reached (actors i).context.task known.task known.live _ _ ends in
        (l, (some, sym known.groups ∙ some))

    -- its index is one of a task's groups
    pub index_few : innermost_index (actors i) < OPEN_GROUPS
    index_few =
        let (l, (some, same)) = open_is in
        let most = (groups_right p events s before.rule.reached (actors i).context.task known.task known.live).few in
        omega (arith, some, same, most)

    -- and its word is known
    pub group_to_end_is : group_to_end w s i ≡ innermost_word w (actors i)
    group_to_end_is =
        let (l, (some, same)) = open_is in
        ap
        (λ (k : Option Tid). group_word w (option_and_then (λ (k : Tid). option_and_then (innermost k) (task_of s k)) k))
        (stands p w m events s actors i before x at of_member).current
        ∙ ap (λ (t : Option Task). group_word w (option_and_then (innermost (actors i).context.task) t)) known.live
        ∙ ap (λ l. group_word w (innermost_or None (actors i).context.task l)) some
        ∙ omega (arith, same)

  -- a body is open
  pub some_body : (actors i).stack ≡ [] → Rests (actors i).counter
  some_body none =
      let (f, fs, is, o) = body p w m events s actors i before x at of_member in absurd (cc (sym is, none))

  -- the slot with number n is in the row that was loaded
  pub slot_is : (row : Place) (n : ℕ) → OfRegion s (actors i) (IsRowOf row n)
      → is_slot s i n (record { creator = row.creator; slot = row.slot; field = TaskSlots; place = n % OWN_SLOTS }) ≡ true
  slot_is row n (r, found, (k, there, is)) =
      let member : current_member_task s i (n / OWN_SLOTS) ≡ Some k.0 =
      ap
      (λ (r : Option Region). option_and_then (λ (r : Region). option_map (λ (m : Tid × ℕ). m.0) (slice_get r.team (n / OWN_SLOTS))) r)
      (region_is r found)
      ∙ ap (option_map (λ (m : Tid × ℕ). m.0)) there in
      ap
      (λ b. b && option_map_or (λ (k : Tid). row.creator == k.0.creator && row.slot == k.0.slot) (current_member_task s i (n / OWN_SLOTS)) false)
      (same_number (n % OWN_SLOTS))
      ∙ ap
      (λ (t : Option Tid). option_map_or (λ (k : Tid). row.creator == k.0.creator && row.slot == k.0.slot) t false) member
      ∙ ap (λ (q : Place). q.creator == k.0.0.creator && q.slot == k.0.0.slot) (sym is)
      ∙ ap (λ b. b && k.0.0.slot == k.0.0.slot) (same_number k.0.0.creator) ∙ same_number k.0.0.slot

-- ---- the next slot

next_fresh : (a : Actor) (v : Wait) (n : ℕ) (row : Place) → IsFresh (next_look a v n row)
next_fresh a v n row = go (nat_lt n (slots_of a))
  where
    first : (b : Barrier) (d : Bool) → IsFresh (counter.Barrier (if d then barrier.LoadArrived b else barrier.LoadReleased b))
    first b true = seeks_none refl refl (λ a. refl)
    first b false = seeks_none refl refl (λ a. refl)

    behind : (v : Wait) → IsFresh (behind_look a v)
    behind (wait.Barrier b) = first b (a.context.number == 0)
    behind wait.Taskwait = seeks_none refl refl (λ a. refl)
    behind wait.Taskyield = seeks_none refl refl (λ a. refl)
    behind wait.Taskgroup = seeks_none refl refl (λ a. refl)

    at : (d : Bool) → IsFresh (counter.Look (if d then look.LoadRow v n else look.LoadSlot v n row))
    at true = seeks_none refl refl (λ a. refl)
    at false = seeks_none refl refl (λ a. refl)

    go : (b : Bool) → IsFresh (if b then counter.Look (look_at v n row) else behind_look a v)
    go true = at (n % OWN_SLOTS == 0)
    go false = behind v

-- so many slots were passed: the next one is looked at, or all were
next_given : (a b : Actor) (v : Wait) (n : ℕ) (row : Place) (h : SlotLook) → b.context ≡ a.context
    → n < slots_of a → Has h (n + 1) None → IsLookGiven b (next_look a v (n + 1) row) h
next_given a b v n row h same within has = go (nat_lt (n + 1) (slots_of a)) refl
  where
    all : nat_lt (n + 1) (slots_of a) ≡ false → HasAll b h
    all past = record { looked = has.looked ∙ whole ∙ ap (λ c. OWN_SLOTS * c.size) (sym same); seen = has.seen }
      where
        whole : n + 1 ≡ slots_of a
        whole = grind (arith, nat_tests, past, within)

    first : (b' : Barrier) (d : Bool) → HasAll b h
        → IsLookGiven b (counter.Barrier (if d then barrier.LoadArrived b' else barrier.LoadReleased b')) h
    first b' true whole = whole
    first b' false whole = λ other. whole

    behind : (v : Wait) → HasAll b h → IsLookGiven b (behind_look a v) h
    behind (wait.Barrier b') whole = first b' (a.context.number == 0) whole
    behind wait.Taskwait whole = whole
    behind wait.Taskyield whole = tt
    behind wait.Taskgroup whole = whole

    at : (d : Bool)
        → IsLookGiven b (counter.Look (if d then look.LoadRow v (n + 1) else look.LoadSlot v (n + 1) row)) h
    at true = has
    at false = has

    go : (d : Bool) → nat_lt (n + 1) (slots_of a) ≡ d
        → IsLookGiven b (if d then counter.Look (look_at v (n + 1) row) else behind_look a v) h
    go true e = at ((n + 1) % OWN_SLOTS == 0)
    go false e = behind v (all e)

-- ---- the steps

rests_look : (c : LookCounter) → ((a : Actor) (h : SlotLook) → IsLookGiven a (counter.Look c) h)
    → Rests (counter.Look c)
rests_look c given = record { fresh = seeks_none refl refl (λ a. refl); look = given }

module _ (p : Program) (w : List ℕ) (m : Memory) (events : List (ℕ × Event)) (s : State) (actors : ℕ → Actor)
    (i : ℕ) (before : Before p w m events s actors i) (h : Watch) where
  abbrev a : Actor
  a = actors i

  -- the step at this counter keeps its parts
  abbrev Keeps : LookCounter → Type 0
  Keeps c = PartsKeep w m s i (look_next w a c) (λ old. (look_moved p w a c old, look_outcome w a c old)) h

  module _ (c : LookCounter) (at : (actors i).counter ≡ counter.Look c)
      (given : IsSearchGiven (actors i) (counter.Look c) h.search) where
    calm : IsCalm h.search
    calm = calm_at a (counter.Look c) h.search refl refl refl given

    any : (x : RecordWord) × IsOn w (look_next w (actors i) c) x
    any = some_word p w m events s actors i before (counter.Look c) at

  -- the row of a member
  module _ (v : Wait) (n : ℕ) (at : (actors i).counter ≡ counter.Look (look.LoadRow v n))
      (given : IsSearchGiven (actors i) (counter.Look (look.LoadRow v n)) h.search)
      (has : Has h.look n None) where
    row_there : IsRecordWord w a.context.region.0.creator a.context.region.0.slot (number RegionTeam) (member_at n)
    row_there = record {
      field = numbered_field RegionTeam;
      record_slot = (context_placed p w m events s actors i before (counter.Look (look.LoadRow v n)) at tt).region;
      within =
          let looks =
          (fits_counter p w m events s actors i before (counter.Look (look.LoadRow v n)) at tt).0.1 in
          let few =
          (is_context p w m events s actors i before (counter.Look (look.LoadRow v n)) at tt).size.1 in
          let same : p.threads ≡ thread_count w = before.suits.threads in
          omega (arith, looks, few, same);
    }

    load_row : Keeps (look.LoadRow v n)
    load_row =
        let x : RecordWord = record { creator = a.context.region.0.creator; slot = a.context.region.0.slot; field = RegionTeam; place = member_at n } in (
          x,
          record { there = row_there; address = refl },
          quiet_parts w m s i _ x _ h (calm (look.LoadRow v n) at given) refl refl
              (seeks_none refl refl (λ a. refl)) (look_stays w s i x (look_next w (actors i) (look.LoadRow v n)) (found_in m x) n h.look has (λ k. refl)),
        )

  -- a slot
  module _ (v : Wait) (n : ℕ) (row : Place) (at : (actors i).counter ≡ counter.Look (look.LoadSlot v n row))
      (given : IsSearchGiven (actors i) (counter.Look (look.LoadSlot v n row)) h.search)
      (has : Has h.look n None) where
    abbrev on_slot : RecordWord
    on_slot = record { creator = row.creator; slot = row.slot; field = TaskSlots; place = n % OWN_SLOTS }

    abbrev code_there : ℕ
    code_there = found_in m on_slot

    loaded_is : (d : Bool) → code_there == 0 ≡ d
        → looked_at w s i on_slot (op.Load (of_slot w row n)) code_there h.look.looked h.look.seen
        ≡ (if d then record { looked = n + 1; seen = None } else record { looked = n; seen = Some code_there })
    loaded_is d e =
        look_loads w s i on_slot (op.Load (of_slot w row n)) code_there n h.look has
        (slot_is p w m events s actors i before (counter.Look (look.LoadSlot v n row)) at tt row n
        (row_is p w m events s actors i before (counter.Look (look.LoadSlot v n row)) at tt))
        ∙ ap
        (λ (d : Bool). if d then record { looked = n + 1; seen = None } else record { looked = n; seen = Some code_there }) e

    seen_code : (v : Wait) (h : SlotLook) → Has h n (Some code_there)
        → IsLookGiven (to_look (behind_code v n row code_there) a) (counter.Look (behind_code v n row code_there)) h
    seen_code (wait.Barrier b) h is = is
    seen_code wait.Taskwait h is = is
    seen_code wait.Taskyield h is = is
    seen_code wait.Taskgroup h is = is

    by_code : (d : Bool) → code_there == 0 ≡ d
        → KeepsParts w m s i (op.Load (of_slot w row n)) on_slot
        (if d then looking_on v n row a else to_look (behind_code v n row code_there) a, outcome.Quiet) h
    by_code true none =
        let fresh = next_fresh a v (n + 1) row in
        let fit = fits_counter p w m events s actors i before (counter.Look (look.LoadSlot v n row)) at tt in
        quiet_parts w m s i _ on_slot (looking_on v n row a) h
        (calm (look.LoadSlot v n row) at given) refl refl fresh
        (subst
        (λ (l : SlotLook). IsLookGiven (looking_on v n row a) (next_look a v (n + 1) row) l)
        (sym (loaded_is true none))
        (next_given a (looking_on v n row a) v n row _ refl fit.0.1 (record { looked = refl; seen = refl })))
    by_code false some =
        quiet_parts w m s i _ on_slot (to_look (behind_code v n row code_there) a) h
        (calm (look.LoadSlot v n row) at given) refl refl (seeks_none refl refl (λ a. refl))
        (subst (λ (l : SlotLook). IsLookGiven (to_look (behind_code v n row code_there) a) (counter.Look (behind_code v n row code_there)) l)
        (sym (loaded_is false some)) (seen_code v _ (record { looked = refl; seen = refl })))

    load_slot : Keeps (look.LoadSlot v n row)
    load_slot = (
      on_slot,
      record {
        there = record {
          field = numbered_field TaskSlots;
          record_slot = placed_counter p w m events s actors i before (counter.Look (look.LoadSlot v n row)) at tt;
          within = slot_within w (n % OWN_SLOTS) (omega arith);
        };
        address = refl;
      },
      by_code (code_there == 0) refl,
    )

  -- the test of a task that was seen
  module _ (v : Wait) (n : ℕ) (row : Place) (code : ℕ)
      (at : (actors i).counter ≡ counter.Look (look.LoadGenerating v n row code))
      (given : IsSearchGiven (actors i) (counter.Look (look.LoadGenerating v n row code)) h.search)
      (has : Has h.look n (Some code)) where
    abbrev on_generating : RecordWord
    on_generating = word_of (coded_task w code).0.creator (coded_task w code).0.slot TaskGenerating

    abbrev maker : ℕ
    maker = found_in m on_generating

    generating_is : is_generating_of w code on_generating ≡ true
    generating_is =
        ap (λ b. b && (coded_place w code).slot == (coded_place w code).slot)
        (same_number (coded_place w code).creator)
        ∙ same_number (coded_place w code).slot

    starts_children : (x : Wait) → TestsChildren x
        → children_start (Ahead.waiting p (sees p w m events s actors i before (counter.Look (look.LoadGenerating v n row code)) at tt) a.stack x) ≡ true
    starts_children (wait.Barrier b) tests = absurd tests
    starts_children wait.Taskwait tests = refl
    starts_children wait.Taskyield tests = refl
    starts_children wait.Taskgroup tests = absurd tests

    children_is : children_start (list_of s i) ≡ true
    children_is =
        let list =
        own_list p s i a
        (stands p w m events s actors i before (counter.Look (look.LoadGenerating v n row code)) at tt) in
        let ahead =
        ahead_is p w m events s actors i before (counter.Look (look.LoadGenerating v n row code)) at tt in
        let fit =
        fits_counter p w m events s actors i before (counter.Look (look.LoadGenerating v n row code)) at tt in
        ap children_start (list ∙ ahead) ∙ starts_children v fit.2

    no_child : is_no_child w s i on_generating
        (op.Load (of_task w (coded_task w code) TaskGenerating)) maker code
        ≡ not (maker == task_address w a.context.task)
    no_child =
        ap
        (λ b. b && (children_start (list_of s i) && not (maker == task_word w (s.threads i).current))) generating_is
        ∙ ap (λ b. b && not (maker == task_word w (s.threads i).current)) children_is
        ∙ ap (λ (k : Option Tid). not (maker == task_word w k))
        (stands p w m events s actors i before (counter.Look (look.LoadGenerating v n row code)) at tt).current

    tested_is : (d : Bool) → maker == task_address w a.context.task ≡ d
        → looked_at w s i on_generating
        (op.Load (of_task w (coded_task w code) TaskGenerating)) maker h.look.looked h.look.seen
        ≡ (if not d || false then record { looked = n + 1; seen = None } else record { looked = n; seen = Some code })
    tested_is d e =
        look_passes w s i on_generating
        (op.Load (of_task w (coded_task w code) TaskGenerating)) maker n code h.look (not d || false) has
        (ap (λ b. b || false) (no_child ∙ ap not e))

    by_maker : (d : Bool) → maker == task_address w a.context.task ≡ d
        → KeepsParts w m s i (op.Load (of_task w (coded_task w code) TaskGenerating)) on_generating
        (if d then to_look (look.Take v n row code) a else looking_on v n row a, outcome.Quiet) h
    by_maker true same =
        quiet_parts w m s i _ on_generating (to_look (look.Take v n row code) a) h
        (calm (look.LoadGenerating v n row code) at given) refl refl (seeks_none refl refl (λ a. refl))
        (subst (λ (l : SlotLook). Has l n (Some code)) (sym (tested_is true same)) (record { looked = refl; seen = refl }))
    by_maker false other =
        let fresh = next_fresh a v (n + 1) row in
        let fit =
        fits_counter p w m events s actors i before (counter.Look (look.LoadGenerating v n row code)) at tt in
        quiet_parts w m s i _ on_generating (looking_on v n row a) h
        (calm (look.LoadGenerating v n row code) at given) refl refl fresh
        (subst (λ (l : SlotLook). IsLookGiven (looking_on v n row a) (next_look a v (n + 1) row) l) (sym (tested_is false other))
        (next_given a (looking_on v n row a) v n row _ refl fit.0.0.1 (record { looked = refl; seen = refl })))

    load_generating : Keeps (look.LoadGenerating v n row code)
    load_generating = (
      on_generating,
      record {
        there = record_word p w m events s actors i before tasks (coded_task w code).0.creator (coded_task w code).0.slot TaskGenerating refl
            (coded_there w before.valid code);
        address = refl;
      },
      by_maker (maker == task_address w a.context.task) refl,
    )

  -- at the end of a taskgroup region
  module _ (n : ℕ) (row : Place) (code : ℕ)
      (at : (actors i).counter ≡ counter.Look (look.LoadGroup n row code))
      (given : IsSearchGiven (actors i) (counter.Look (look.LoadGroup n row code)) h.search)
      (has : Has h.look n (Some code)) where
    abbrev testing : Counter
    testing = counter.Look (look.LoadGroup n row code)

    abbrev on_group : RecordWord
    on_group = record { creator = (coded_task w code).0.creator; slot = (coded_task w code).0.slot; field = TaskSlots; place = GROUP_PLACE }

    abbrev load : Op
    load = op.Load (of_groups w (coded_task w code) GROUP_PLACE)

    abbrev group : ℕ
    group = found_in m on_group

    group_is : is_group_of w code on_group ≡ true
    group_is =
        ap (λ b. b && (coded_place w code).slot == (coded_place w code).slot)
        (same_number (coded_place w code).creator)
        ∙ same_number (coded_place w code).slot

    members_is : members_start (list_of s i) ≡ true
    members_is =
        ap members_start
        (own_list p s i a (stands p w m events s actors i before testing at tt)
        ∙ ahead_is p w m events s actors i before testing at tt)

    no_member : is_no_member w s i on_group load group code ≡ not (group == innermost_word w a)
    no_member =
        ap (λ b. b && (members_start (list_of s i) && not (group == group_to_end w s i))) group_is
        ∙ ap (λ b. b && not (group == group_to_end w s i)) members_is
        ∙ ap (λ x. not (group == x))
        (group_to_end_is p w m events s actors i before testing at tt _
        (ahead_is p w m events s actors i before testing at tt))

    member_tested : (d : Bool) → group == innermost_word w a ≡ d
        → looked_at w s i on_group load group h.look.looked h.look.seen
        ≡ (if not d then record { looked = n + 1; seen = None } else record { looked = n; seen = Some code })
    member_tested d e = look_passes w s i on_group load group n code h.look (not d) has (no_member ∙ ap not e)

    by_group : (d : Bool) → group == innermost_word w a ≡ d
        → KeepsParts w m s i load on_group
        (if d then to_look (look.Take wait.Taskgroup n row code) a else looking_on wait.Taskgroup n row a, outcome.Quiet) h
    by_group true same =
        quiet_parts w m s i load on_group (to_look (look.Take wait.Taskgroup n row code) a) h
        (calm (look.LoadGroup n row code) at given) refl refl (seeks_none refl refl (λ a. refl))
        (subst (λ (l : SlotLook). Has l n (Some code)) (sym (member_tested true same)) (record { looked = refl; seen = refl }))
    by_group false other =
        let fresh = next_fresh a wait.Taskgroup (n + 1) row in
        let fit = fits_counter p w m events s actors i before testing at tt in
        quiet_parts w m s i load on_group (looking_on wait.Taskgroup n row a) h
        (calm (look.LoadGroup n row code) at given) refl refl fresh
        (subst
        (λ (l : SlotLook). IsLookGiven (looking_on wait.Taskgroup n row a) (next_look a wait.Taskgroup (n + 1) row) l)
        (sym (member_tested false other))
        (next_given a (looking_on wait.Taskgroup n row a) wait.Taskgroup n row _ refl fit.0.0.1 (record { looked = refl; seen = refl })))

    load_group : Keeps (look.LoadGroup n row code)
    load_group = (
      on_group,
      record {
        there = record {
          field = numbered_field TaskSlots;
          record_slot = coded_there w before.valid code;
          within = group_word_within w GROUP_PLACE before.suits.groups (omega arith);
        };
        address = refl;
      },
      by_group (group == innermost_word w a) refl,
    )

  -- the exchange that takes it
  module _ (v : Wait) (n : ℕ) (row : Place) (code : ℕ)
      (at : (actors i).counter ≡ counter.Look (look.Take v n row code))
      (given : IsSearchGiven (actors i) (counter.Look (look.Take v n row code)) h.search)
      (has : Has h.look n (Some code)) where
    abbrev on_seen : RecordWord
    on_seen = record { creator = row.creator; slot = row.slot; field = TaskSlots; place = n % OWN_SLOTS }

    abbrev now : ℕ
    now = found_in m on_seen

    gone_is : is_gone s i on_seen (op.Cas (of_slot w row n) code 0) now n code ≡ not (now == code)
    gone_is =
        ap (λ b. b && (is_slot s i n on_seen && not (now == code))) (same_number code)
        ∙ ap (λ b. b && not (now == code))
        (slot_is p w m events s actors i before (counter.Look (look.Take v n row code)) at tt row n
        (row_is p w m events s actors i before (counter.Look (look.Take v n row code)) at tt).0)

    taken_is : (d : Bool) → now == code ≡ d
        → looked_at w s i on_seen (op.Cas (of_slot w row n) code 0) now h.look.looked h.look.seen
        ≡ (if not d || false then record { looked = n + 1; seen = None } else record { looked = n; seen = Some code })
    taken_is d e =
        look_passes w s i on_seen (op.Cas (of_slot w row n) code 0) now n code h.look (not d || false) has
        (ap (λ b. b || false) (gone_is ∙ ap not e))

    by_exchange : (d : Bool) → now == code ≡ d
        → KeepsParts w m s i (op.Cas (of_slot w row n) code 0) on_seen
        (if d then to_look (look.LoadFunction v n code (coded_task w code)) a else looking_on v n row a, outcome.Quiet) h
    by_exchange true same =
        quiet_rests w m s i _ on_seen _ h (calm (look.Take v n row code) at given) refl refl
        (rests_look (look.LoadFunction v n code (coded_task w code)) (λ a h. tt))
    by_exchange false other =
        let fresh = next_fresh a v (n + 1) row in
        let fit = fits_counter p w m events s actors i before (counter.Look (look.Take v n row code)) at tt in
        quiet_parts w m s i _ on_seen (looking_on v n row a) h
        (calm (look.Take v n row code) at given) refl refl fresh
        (subst (λ (l : SlotLook). IsLookGiven (looking_on v n row a) (next_look a v (n + 1) row) l) (sym (taken_is false other))
        (next_given a (looking_on v n row a) v n row _ refl fit.0.0.1 (record { looked = refl; seen = refl })))

    take : Keeps (look.Take v n row code)
    take = (
      on_seen,
      record {
        there = record {
          field = numbered_field TaskSlots;
          record_slot = placed_counter p w m events s actors i before (counter.Look (look.Take v n row code)) at tt;
          within = slot_within w (n % OWN_SLOTS) (omega arith);
        };
        address = refl;
      },
      by_exchange (now == code) refl,
    )

  -- the children of the current task
  module _ (at : (actors i).counter ≡ counter.Look look.LoadChildren)
      (given : IsSearchGiven (actors i) (counter.Look look.LoadChildren) h.search)
      (has : HasAll (actors i) h.look) where
    abbrev on_children : RecordWord
    on_children = word_of a.context.task.0.creator a.context.task.0.slot TaskChildren

    by_children : (b : Bool)
        → KeepsParts w m s i (op.Load (of_task w a.context.task TaskChildren)) on_children (
          if b then back_to_work p a else to_look (look.LoadRow wait.Taskwait 0) a,
          if b then outcome.Event event.WaitDone
              else outcome.NotReady (of_task w a.context.task TaskChildren) (found_in m on_children),
        ) h
    by_children true =
        event_rests w m s i _ on_children _ h (calm look.LoadChildren at given) _
        (rests_working p a (some_body p w m events s actors i before (counter.Look look.LoadChildren) at tt))
    by_children false =
        waits_parts w m s i _ on_children _ h (calm look.LoadChildren at given) _ _ refl refl (seeks_none refl refl (λ a. refl))
        (λ waits. all_slots p w m events s actors i before (counter.Look look.LoadChildren) at tt h.look has)
        (record { looked = refl; seen = refl })

    load_children : Keeps look.LoadChildren
    load_children = (
      on_children,
      record {
        there = record_word p w m events s actors i before tasks a.context.task.0.creator a.context.task.0.slot TaskChildren refl
            (context_placed p w m events s actors i before (counter.Look look.LoadChildren) at tt).task;
        address = refl;
      },
      by_children (found_in m on_children == 0),
    )

  -- the count of the innermost open group
  module _ (at : (actors i).counter ≡ counter.Look look.LoadCount)
      (given : IsSearchGiven (actors i) (counter.Look look.LoadCount) h.search)
      (has : HasAll (actors i) h.look) where
    abbrev counting : Counter
    counting = counter.Look look.LoadCount

    abbrev on_count : RecordWord
    on_count = record { creator = a.context.task.0.creator; slot = a.context.task.0.slot; field = TaskSlots; place = COUNT_PLACE + innermost_index (actors i) }

    counts : is_waiting on_count ≡ true
    counts = go (nat_le COUNT_PLACE (COUNT_PLACE + innermost_index (actors i))) refl
      where
        go : (b : Bool) → nat_le COUNT_PLACE (COUNT_PLACE + innermost_index (actors i)) ≡ b → b ≡ true
        go true e = refl
        go false e = absurd (grind (arith, nat_tests))

    by_count : (b : Bool)
        → KeepsParts w m s i (op.Load (of_innermost_count w (actors i))) on_count (
          if b then to_look look.GroupEnd a else to_look (look.LoadRow wait.Taskgroup 0) a,
          if b then outcome.Quiet else outcome.NotReady (of_innermost_count w (actors i)) (found_in m on_count),
        ) h
    by_count true =
        quiet_rests w m s i _ on_count _ h (calm look.LoadCount at given) refl refl (rests_look look.GroupEnd (λ a h. tt))
    by_count false =
        waits_parts w m s i _ on_count _ h (calm look.LoadCount at given) _ _ refl refl (seeks_none refl refl (λ a. refl))
        (λ waits. all_slots p w m events s actors i before counting at tt h.look has)
        (subst (λ b. Has (if b then no_look else h.look) 0 None) (sym counts) (record { looked = refl; seen = refl }))

    load_count : Keeps look.LoadCount
    load_count = (
      on_count,
      record {
        there = record {
          field = numbered_field TaskSlots;
          record_slot = (context_placed p w m events s actors i before counting at tt).task;
          within = group_word_within w (COUNT_PLACE + innermost_index a) before.suits.groups
              (let less = index_few p w m events s actors i before counting at tt _ (ahead_is p w m events s actors i before counting at tt) in omega (arith, less));
        };
        address = refl;
      },
      by_count (found_in m on_count == 0),
    )

  rests_start : (word : ℕ) (v : Wait) (n code : ℕ) (t : Tid) (f : ℕ) (final : Bool) (d : Bool)
      → Rests (counter.Look (if d then look.Fill v n code t f final (word + 1) else look.Start v n code t f final))
  rests_start word v n code t f final true = rests_look (look.Fill v n code t f final (word + 1)) (λ a h. tt)
  rests_start word v n code t f final false = rests_look (look.Start v n code t f final) (λ a h. tt)

  rests_body : (v : Wait) (b : Actor) → Rests b.counter → Rests (body_begun p v b).counter
  rests_body (wait.Barrier k) b now = rests_working p b (λ none. now)
  rests_body wait.Taskwait b now = rests_working p b (λ none. now)
  rests_body wait.Taskyield b now = rests_settled p b (λ none. now)
  rests_body wait.Taskgroup b now = rests_working p b (λ none. now)

  pub look_parts : (c : LookCounter) (at : (actors i).counter ≡ counter.Look c)
      → IsSearchGiven (actors i) (counter.Look c) h.search → IsLookGiven (actors i) (counter.Look c) h.look
      → PartsKeep w m s i (look_next w (actors i) c)
      (λ old. (look_moved p w (actors i) c old, look_outcome w (actors i) c old)) h
  look_parts (look.State v) at given has =
      let (x, on) = any (look.State v) at given in (
        x,
        on,
        event_parts w m s i _ x (to_look (look.LoadRow v 0) a) h (calm (look.State v) at given) _ (seeks_none refl refl (λ a. refl))
            (record { looked = refl; seen = refl }),
      )
  look_parts (look.LoadRow v n) at given has = load_row v n at given has
  look_parts (look.LoadSlot v n row) at given has = load_slot v n row at given has
  look_parts (look.LoadGenerating v n row code) at given has = load_generating v n row code at given has
  look_parts (look.LoadGroup n row code) at given has = load_group n row code at given has
  look_parts (look.Take v n row code) at given has = take v n row code at given has
  look_parts (look.LoadFunction v n code t) at given has = (
    word_of t.0.creator t.0.slot TaskFunction,
    record {
      there = record_word p w m events s actors i before tasks t.0.creator t.0.slot TaskFunction refl
          (placed_counter p w m events s actors i before (counter.Look (look.LoadFunction v n code t)) at tt);
      address = refl;
    },
    quiet_rests w m s i _ (word_of t.0.creator t.0.slot TaskFunction) _ h (calm (look.LoadFunction v n code t) at given) refl refl
        (rests_look (look.LoadFinal v n code t _) (λ a h. tt)),
  )
  look_parts (look.LoadFinal v n code t f) at given has = (
    word_of t.0.creator t.0.slot TaskFinal,
    record {
      there = record_word p w m events s actors i before tasks t.0.creator t.0.slot TaskFinal refl
          (placed_counter p w m events s actors i before (counter.Look (look.LoadFinal v n code t f)) at tt);
      address = refl;
    },
    quiet_rests w m s i _ (word_of t.0.creator t.0.slot TaskFinal) _ h (calm (look.LoadFinal v n code t f) at given) refl refl
        (rests_look (look.Fill v n code t f _ 0) (λ a h. tt)),
  )
  look_parts (look.Fill v n code t f final word) at given has =
      let (x, on) = any (look.Fill v n code t f final word) at given in (
        x,
        on,
        quiet_rests w m s i _ x _ h (calm (look.Fill v n code t f final word) at given) refl refl
            (rests_start word v n code t f final (nat_lt (word + 1) START_WORDS)),
      )
  look_parts (look.Start v n code t f final) at given has =
      let (x, on) = any (look.Start v n code t f final) at given in
      let now : Rests (actors i).counter =
      subst Rests (sym at) (rests_look (look.Start v n code t f final) (λ a h. tt)) in (
        x,
        on,
        event_rests w m s i _ x _ h (calm (look.Start v n code t f final) at given) _
            (rests_body v (begun_explicit f (Some v) (task_context a t final) a) now),
      )
  look_parts look.LoadChildren at given has = load_children at given has
  look_parts look.LoadCount at given has = load_count at given has
  look_parts look.GroupEnd at given has =
      let (x, on) = any look.GroupEnd at given in (
        x,
        on,
        event_rests w m s i _ x _ h (calm look.GroupEnd at given) _
            (rests_working p (record a { context = grouped (a.context.open_groups - 1) a.context })
            (some_body p w m events s actors i before (counter.Look look.GroupEnd) at tt)),
      )
  look_parts (look.Yield n) at given has =
      let (x, on) = any (look.Yield n) at given in
      (x, on, event_rests w m s i _ x _ h (calm (look.Yield n) at given) _ (rests_plain plain.Leave))
