-- The steps of a `task` construct, and the plain steps.
use Rattle.std.proofs.Common.{◌≡◌, inl, ◌+◌, ◌==◌, ◌||◌, nat_lt, ℕ, Bool, true, false, List, length, Option, Some, None, refl, sym, ap, ◌∙◌, subst, arith, if◌then◌else◌}
use Rattle.omi_word.specs.declared.op.Op.TheVariants as op
use Rattle.omi_script.specs.declared.program.Program.{Program}
use Rattle.omi_script.specs.declared.statement.Stmt.{Stmt}
use Rattle.omi_script.specs.declared.statement.Stmt.TheVariants as stmt
use Rattle.omi_model.specs.declared.event.Event.{Event}
use Rattle.omi_model.specs.declared.event.Event.TheVariants as event
use Rattle.omi_model.specs.declared.id.Tid.{Tid}
use Rattle.omi_model.specs.State.{State}
use Rattle.omi_layout.specs.declared.field.Field.TheVariants.{RuntimeLocks, TaskLife, TaskSlots}
use Rattle.omi_layout.specs.Field.{tasks}
use Rattle.omi_layout.specs.Memory.{Memory}
use Rattle.omi_layout.proofs.Numbers.{numbered_field}
use Rattle.omi_layout.proofs.SlotWords.{slot_within, group_word_within}
use Rattle.omi_layout.specs.declared.limits.TheConstants.{GROUP_PLACE}
use Rattle.omi_pc.specs.declared.actor.Actor.{Actor}
use Rattle.omi_pc.specs.declared.counter.Counter.TheVariants as counter
use Rattle.omi_pc.specs.declared.counter.PlainCounter.{PlainCounter}
use Rattle.omi_pc.specs.declared.counter.PlainCounter.TheVariants as plain
use Rattle.omi_numbers.specs.declared.limits.TheConstants.{OWN_SLOTS}
use Rattle.omi_pc.specs.declared.limits.TheConstants.{TASK_WORDS, VARIABLE_WORDS}
use Rattle.omi_pc.specs.declared.task_counter.TaskCounter.{TaskCounter}
use Rattle.omi_pc.specs.declared.task_counter.TaskCounter.TheVariants as task
use Rattle.omi_pc.specs.Fits.{FitsCounter}
use Rattle.omi_pc.specs.Moves.{begun_explicit, back_to_work}
use Rattle.omi_rep.specs.declared.outcome.Outcome.TheVariants as outcome
use Rattle.omi_rule_words.specs.Owes.{Owed, all_owed}
use Rattle.omi_step_words.specs.Moving.{to_task}
use Rattle.omi_step_words.specs.Plan.{of_variable, variable_at}
use Rattle.omi_step_words.specs.Searches.{next_slot, own_place}
use Rattle.omi_step_words.specs.Words.{is_free, object_in, of_place}
use Rattle.omi_plain.specs.PlainSteps.{behind_enter, past_enter, left_behind, of_lock, plain_moved, plain_next, plain_outcome, group_begun}
use Rattle.omi_plain.specs.Statements.{in_work, lock_in}
use Rattle.omi_task.specs.MakingSteps.{behind_raises, made_function, makes_final, making_moved, making_next, making_outcome, of_own_slot, behind_variables}
use Rattle.omi_task.specs.Starts.{task_context}
use Rattle.omi_task.specs.Groups.{new_group}
use Rattle.omi_rule.specs.Steps.{IsOn, RecordWord, found_in}
use Rattle.omi_rule.proofs.Assembly.{Before}
use Rattle.omi_rule.proofs.plain.Locks.{lock_there}
use Rattle.omi_rule.proofs.task.Within.{context_placed, fits, owes, placed}
use Rattle.omi_rule.proofs.team.Loads.{variable_word}
use Rattle.omi_rule_watch.specs.Demands.{MayOweTask}
use Rattle.omi_rule_watch.specs.Given.{IsFirst, IsLookGiven, IsSearchGiven, own_life, region_found, sought, task_found}
use Rattle.omi_rule_watch.specs.Watch.{Watch, no_look}
use Rattle.omi_rule_watch.proofs.Cases.{one_of}
use Rattle.omi_rule_watch.proofs.OwedRecords.{tasks_owed}
use Rattle.omi_rule_watch.proofs.Parts.{IsCalm, KeepsParts, PartsKeep, calm_at, either_none, ended_parts, event_parts, event_rests, quiet_rests, waits_rests}
use Rattle.omi_rule_watch.proofs.Resting.{IsFresh, Rests, rests_plain, rests_returned, rests_settled, rests_task, rests_worked, rests_working, seeks_none}
use Rattle.omi_rule_watch.proofs.Searching.{task_found_free, task_passed, task_taken}
use Rattle.omi_rule_watch.proofs.Standing.{own, own_maker, record_word, some_word, word_of}
use Rattle.omi_rule_watch.proofs.Teams.{no_life}

module _ (p : Program) (w : List ℕ) (m : Memory) (events : List (ℕ × Event)) (s : State) (actors : ℕ → Actor)
    (i : ℕ) (before : Before p w m events s actors i) (h : Watch) where
  abbrev a : Actor
  a = actors i

  -- the step at this counter keeps its parts
  abbrev Keeps : TaskCounter → Type 0
  Keeps c = PartsKeep w m s i (making_next p w a c) (λ old. (making_moved p w a c old, making_outcome w a c old)) h

  abbrev KeepsPlain : PlainCounter → Type 0
  KeepsPlain c = PartsKeep w m s i (plain_next p w a c) (λ old. (plain_moved p a c old, plain_outcome p w a c old)) h

  mine : (actors i).thread ≡ i
  mine = (own p w m events s actors i before).thread

  -- ---- `task` constructs

  rests_making : (c : TaskCounter) → region_found (counter.Task c) ≡ None → task_found (counter.Task c) ≡ None
      → ((a : Actor) → IsFirst (sought a (counter.Task c))) → Rests (counter.Task c)
  rests_making c no_region no_task first =
      record { fresh = record { region = no_region; task = no_task; first = first }; look = λ a h. tt }

  rests_two : (b : Bool) (c d : TaskCounter) → Rests (counter.Task c) → Rests (counter.Task d)
      → Rests (counter.Task (if b then c else d))
  rests_two b c d one other = one_of (λ (x : TaskCounter). Rests (counter.Task x)) b c d one other

  rests_raised : (place : Option ℕ) (t : Tid) → Rests (counter.Task (behind_raises place t))
  rests_raised None t = rests_making (task.StartNow t) refl refl (λ a. tt)
  rests_raised (Some place) t = rests_making (task.Defer place t) refl refl (λ a. tt)

  -- the data environment is loaded
  rests_variables : (groups : ℕ) (place : Option ℕ) → Rests (counter.Task (behind_variables groups place))
  rests_variables groups place =
      rests_two (groups == 0) (task.LoadGroup place) (task.LoadLife place 0)
      (rests_making (task.LoadGroup place) refl refl (λ a. tt)) (rests_making (task.LoadLife place 0) refl refl (λ a. refl))

  module _ (c : TaskCounter) (at : (actors i).counter ≡ counter.Task c) where
    any : (x : RecordWord) × IsOn w (making_next p w (actors i) c) x
    any = some_word p w m events s actors i before (counter.Task c) at

  module _ (place : ℕ) (at : (actors i).counter ≡ counter.Task (task.LoadSlot place))
      (given : IsSearchGiven (actors i) (counter.Task (task.LoadSlot place)) h.search) where
    abbrev x : RecordWord
    x = record { creator = a.context.row.0.creator; slot = a.context.row.0.slot; field = TaskSlots; place = place }

    calm : IsCalm h.search
    calm = calm_at a (counter.Task (task.LoadSlot place)) h.search refl refl refl given

    by_slot : (b : Bool)
        → KeepsParts w m s i (op.Load (of_own_slot w a place)) x (
          to_task
              (if b then task.LoadVariable (Some place) 0
              else (if nat_lt (place + 1) OWN_SLOTS then task.LoadSlot (place + 1) else task.LoadVariable None 0))
              a,
          if b then outcome.Quiet else outcome.Event (event.Seen place),
        ) h
    by_slot true =
        quiet_rests w m s i _ x _ h calm refl refl (rests_making (task.LoadVariable (Some place) 0) refl refl (λ a. tt))
    by_slot false =
        event_rests w m s i _ x _ h calm _
        (rests_two (nat_lt (place + 1) OWN_SLOTS) (task.LoadSlot (place + 1)) (task.LoadVariable None 0)
        (rests_making (task.LoadSlot (place + 1)) refl refl (λ a. tt)) (rests_making (task.LoadVariable None 0) refl refl (λ a. tt)))

    own_slots : Keeps (task.LoadSlot place)
    own_slots = (
      x,
      record {
        there = record {
          field = numbered_field TaskSlots;
          record_slot = (context_placed p w m events s actors i before (task.LoadSlot place) at).row;
          within = slot_within w place (fits p w m events s actors i before (task.LoadSlot place) at).1;
        };
        address = refl;
      },
      by_slot (found_in m x == 0),
    )

  module _ (place : Option ℕ) (slot : ℕ) (at : (actors i).counter ≡ counter.Task (task.LoadLife place slot))
      (given : IsSearchGiven (actors i) (counter.Task (task.LoadLife place slot)) h.search) where
    abbrev y : RecordWord
    y = own_life (actors i) TaskLife slot

    one_task : MayOweTask w m s i
    one_task = inl
        (let most = tasks_owed w m s (all_owed actors) before.rule.words i before.known in
        let none =
        ap (λ (o : Owed). length o.tasks) (owes p w m events s actors i before (task.LoadLife place slot) at) in
        omega (arith, most, none))

    by_life : (b : Bool) → is_free (found_in m y) ≡ b
        → KeepsParts w m s i (op.Load (of_place w (own_place a slot) TaskLife)) y (
          to_task
              (if b then task.Take place (record { 0 = object_in (own_place a slot) (found_in m y) })
              else task.LoadLife place (next_slot w tasks slot))
              a,
          if b then outcome.Quiet else outcome.NotReady (of_place w (own_place a slot) TaskLife) (found_in m y),
        ) h
    by_life true free =
        task_found_free w m s i a mine h _ slot given.expected given.region given.task
        (to_task (task.Take place (record { 0 = object_in (own_place a slot) (found_in m y) })) a) refl free refl tt tt
    by_life false taken =
        task_passed w m s i a mine h _ slot given.expected given.region given.task
        (to_task (task.LoadLife place (next_slot w tasks slot)) a) refl _
        (placed p w m events s actors i before (task.LoadLife place slot) at) one_task refl refl tt

    task_search : Keeps (task.LoadLife place slot)
    task_search = (
      y,
      record {
        there = record_word p w m events s actors i before tasks (actors i).thread slot TaskLife refl
            (record {
              made_by = own_maker p w m events s actors i before;
              within = placed p w m events s actors i before (task.LoadLife place slot) at;
            });
        address = refl;
      },
      by_life (is_free (found_in m y)) refl,
    )

  pub making_parts : (c : TaskCounter) (at : (actors i).counter ≡ counter.Task c)
      → IsSearchGiven (actors i) (counter.Task c) h.search
      → PartsKeep w m s i (making_next p w (actors i) c)
      (λ old. (making_moved p w (actors i) c old, making_outcome w (actors i) c old)) h
  making_parts (task.LoadSlot place) at given = own_slots place at given
  making_parts (task.LoadVariable place word) at given =
      let k = (actors i).context.task.0 in
      let below = (fits p w m events s actors i before (task.LoadVariable place word) at).1 in
      let x : RecordWord = record { creator = k.creator; slot = k.slot; field = (variable_at word).0; place = (variable_at word).1 } in
      let (no_region, no_task) = no_life word i (found_in m x) k.creator k.slot (of_variable w k word) below in (
        x,
        record { there = variable_word w k word below (context_placed p w m events s actors i before (task.LoadVariable place word) at).task; address = refl },
        quiet_rests w m s i (op.Load (of_variable w k word)) x _ h
            (calm_at a (counter.Task (task.LoadVariable place word)) h.search refl refl refl given) no_region no_task
            (rests_two (nat_lt (word + 1) VARIABLE_WORDS) (task.LoadVariable place (word + 1))
            (behind_variables (actors i).context.open_groups place)
            (rests_making (task.LoadVariable place (word + 1)) refl refl (λ a. tt))
            (rests_variables (actors i).context.open_groups place)),
      )
  making_parts (task.LoadGroup place) at given =
      let k = (actors i).context.task.0 in
      let x : RecordWord = record { creator = k.creator; slot = k.slot; field = TaskSlots; place = GROUP_PLACE } in (
        x,
        record {
          there = record {
            field = numbered_field TaskSlots;
            record_slot = (context_placed p w m events s actors i before (task.LoadGroup place) at).task;
            within = group_word_within w GROUP_PLACE before.suits.groups (omega arith);
          };
          address = refl;
        },
        quiet_rests w m s i _ x _ h (calm_at a (counter.Task (task.LoadGroup place)) h.search refl refl refl given) refl refl
            (rests_making (task.LoadLife place 0) refl refl (λ a. refl)),
      )
  making_parts (task.LoadLife place slot) at given = task_search place slot at given
  making_parts (task.Take place t) at given = (
    word_of t.0.creator t.0.slot TaskLife,
    record {
      there = record_word p w m events s actors i before tasks t.0.creator t.0.slot TaskLife refl
          (placed p w m events s actors i before (task.Take place t) at);
      address = refl;
    },
    task_taken w m s i a mine h _ t.0 _ ((fits p w m events s actors i before (task.Take place t) at).1 ∙ mine)
        (either_none given.expected) given.region given.task (rests_making (task.Fill place t 0) refl refl (λ a. tt)),
  )
  making_parts (task.Fill place t word) at given =
      let (x, on) = any (task.Fill place t word) at in (
        x,
        on,
        quiet_rests w m s i _ x _ h
            (calm_at a (counter.Task (task.Fill place t word)) h.search refl refl refl given) refl refl
            (rests_two (nat_lt (word + 1) TASK_WORDS) (task.Fill place t (word + 1)) (task.AddPending place t)
            (rests_making (task.Fill place t (word + 1)) refl refl (λ a. tt)) (rests_making (task.AddPending place t) refl refl (λ a. tt))),
      )
  making_parts (task.AddPending place t) at given =
      let (x, on) = any (task.AddPending place t) at in (
        x,
        on,
        quiet_rests w m s i _ x _ h (calm_at a (counter.Task (task.AddPending place t)) h.search refl refl refl given) refl refl
            (rests_making (task.AddChildren place t) refl refl (λ a. tt)),
      )
  making_parts (task.AddChildren place t) at given =
      let (x, on) = any (task.AddChildren place t) at in (
        x,
        on,
        quiet_rests w m s i _ x _ h (calm_at a (counter.Task (task.AddChildren place t)) h.search refl refl refl given) refl refl
            (rests_making (task.AddReferences place t) refl refl (λ a. tt)),
      )
  making_parts (task.AddReferences place t) at given =
      let (x, on) = any (task.AddReferences place t) at in (
        x,
        on,
        quiet_rests w m s i _ x _ h (calm_at a (counter.Task (task.AddReferences place t)) h.search refl refl refl given) refl refl
            (rests_two (new_group w (actors i) == 0) (behind_raises place t) (task.AddCount place t)
            (rests_raised place t) (rests_making (task.AddCount place t) refl refl (λ a. tt))),
      )
  making_parts (task.AddCount place t) at given =
      let (x, on) = any (task.AddCount place t) at in (
        x,
        on,
        quiet_rests w m s i _ x _ h (calm_at a (counter.Task (task.AddCount place t)) h.search refl refl refl given) refl refl
            (rests_raised place t),
      )
  making_parts (task.Defer place t) at given =
      let (x, on) = any (task.Defer place t) at in
      (x, on, event_rests w m s i _ x _ h (calm_at a (counter.Task (task.Defer place t)) h.search refl refl refl given) _ (rests_plain plain.Leave))
  making_parts (task.StartNow t) at given =
      let (x, on) = any (task.StartNow t) at in (
        x,
        on,
        event_rests w m s i _ x _ h
            (calm_at a (counter.Task (task.StartNow t)) h.search refl refl refl given) _
            (rests_settled p (begun_explicit (made_function p a) None (task_context a t (makes_final p a)) a)
            (λ none. subst Rests (sym at) (rests_making (task.StartNow t) refl refl (λ a. tt)))),
      )

  -- ---- plain steps

  module _ (c : PlainCounter) (at : (actors i).counter ≡ counter.Plain c)
      (given : IsSearchGiven (actors i) (counter.Plain c) h.search) where
    calm_plain : IsCalm h.search
    calm_plain = calm_at a (counter.Plain c) h.search refl refl refl given

    here : Rests (actors i).counter
    here = subst Rests (sym at) (rests_plain c)

    word : (x : RecordWord) × IsOn w (plain_next p w (actors i) c) x
    word = some_word p w m events s actors i before (counter.Plain c) at

    commits : (b : Actor) (e : Event) → Rests b.counter
        → (x : RecordWord) × IsOn w (plain_next p w (actors i) c) x × KeepsParts w m s i (plain_next p w (actors i) c) x (b, outcome.Event e) h
    commits b e rests =
        (word.0, word.1, event_rests w m s i (plain_next p w (actors i) c) word.0 b h calm_plain e rests)

  rests_left : (x : Option Stmt) → Rests (actors i).counter → Rests (left_behind p x (actors i)).counter
  rests_left None now = rests_settled p (actors i) (λ none. now)
  rests_left (Some (stmt.Critical k f)) now = rests_plain plain.Call
  rests_left (Some x) now = rests_settled p (actors i) (λ none. now)

  rests_grouped : (x : Option Stmt) → Rests (actors i).counter → Rests (group_begun x (actors i)).counter
  rests_grouped (Some (stmt.Taskgroup f)) now = rests_plain plain.Call
  rests_grouped x now = now

  -- behind an enter: a look may begin
  entered_calm : (debug final : Bool) (x : Option Stmt)
      → IsFresh (behind_enter debug final x) × ((b : Actor) → IsLookGiven b (behind_enter debug final x) no_look)
  entered_calm debug final None = (seeks_none refl refl (λ a. refl), λ b. tt)
  entered_calm true final (Some (stmt.Parallel f num)) = (seeks_none refl refl (λ a. refl), λ b. tt)
  entered_calm false final (Some (stmt.Parallel f num)) = (seeks_none refl refl (λ a. refl), λ b. tt)
  entered_calm debug final (Some (stmt.Task f undeferred given)) =
      let rests = rests_task (undeferred || final) in (rests.fresh, λ b. rests.look b no_look)
  entered_calm true final (Some stmt.Taskwait) = (seeks_none refl refl (λ a. refl), λ b. tt)
  entered_calm false final (Some stmt.Taskwait) = (seeks_none refl refl (λ a. refl), λ b. record { looked = refl; seen = refl })
  entered_calm debug final (Some stmt.Taskyield) = (seeks_none refl refl (λ a. refl), λ b. record { looked = refl; seen = refl })
  entered_calm true final (Some (stmt.Taskgroup f)) = (seeks_none refl refl (λ a. refl), λ b. tt)
  entered_calm false final (Some (stmt.Taskgroup f)) = (seeks_none refl refl (λ a. refl), λ b. record { looked = refl; seen = refl })
  entered_calm true final (Some stmt.Barrier) = (seeks_none refl refl (λ a. refl), λ b. tt)
  entered_calm false final (Some stmt.Barrier) = (seeks_none refl refl (λ a. refl), λ b. tt)
  entered_calm true final (Some (stmt.Critical k f)) = (seeks_none refl refl (λ a. refl), λ b. tt)
  entered_calm false final (Some (stmt.Critical k f)) = (seeks_none refl refl (λ a. refl), λ b. tt)
  entered_calm debug final (Some x) = (seeks_none refl refl (λ a. refl), λ b. tt)

  module _ (at : (actors i).counter ≡ counter.Plain plain.Lock)
      (given : IsSearchGiven (actors i) (counter.Plain plain.Lock) h.search) where
    abbrev lock : RecordWord
    lock = record { creator = 0; slot = 0; field = RuntimeLocks; place = lock_in (in_work p (actors i)) }

    by_lock : (b : Bool) → KeepsParts w m s i (plain_next p w (actors i) plain.Lock) lock (
      if b then back_to_work p a else a,
      if b then outcome.Event (event.Lock (lock_in (in_work p a)))
          else outcome.NotReady (of_lock w (lock_in (in_work p a))) (found_in m lock),
    ) h
    by_lock true =
        event_rests w m s i _ lock _ h (calm_plain plain.Lock at given) _
        (rests_working p a (λ none. here plain.Lock at given))
    by_lock false =
        waits_rests w m s i _ lock a h (calm_plain plain.Lock at given) _ _ refl refl refl
        (here plain.Lock at given)

    locks : KeepsPlain plain.Lock
    locks = (
      lock,
      record {
        there = lock_there p w m events s actors i before plain.Lock at
            (subst (FitsCounter p (actors i)) at (own p w m events s actors i before).fits.counter);
        address = refl;
      },
      by_lock (found_in m lock == 0),
    )

  pub plain_parts : (c : PlainCounter) (at : (actors i).counter ≡ counter.Plain c)
      → IsSearchGiven (actors i) (counter.Plain c) h.search
      → PartsKeep w m s i (plain_next p w (actors i) c)
      (λ old. (plain_moved p (actors i) c old, plain_outcome p w (actors i) c old)) h
  plain_parts plain.Work at given =
      commits plain.Work at given _ _ (rests_settled p a (λ none. here plain.Work at given))
  plain_parts plain.Call at given =
      commits plain.Call at given _ _ (rests_settled p a (λ none. here plain.Call at given))
  plain_parts plain.Skip at given =
      commits plain.Skip at given _ _ (rests_settled p a (λ none. here plain.Skip at given))
  plain_parts plain.Return at given =
      commits plain.Return at given _ _ (rests_returned p a (here plain.Return at given))
  plain_parts plain.Set at given =
      commits plain.Set at given _ _ (rests_settled p a (λ none. here plain.Set at given))
  plain_parts plain.Tool at given =
      commits plain.Tool at given _ _ (rests_settled p a (λ none. here plain.Tool at given))
  plain_parts plain.Enter at given =
      let (x, on) = word plain.Enter at given in
      let (fresh, look) = entered_calm p.env.debug a.context.is_final (in_work p a) in
      (x, on, event_parts w m s i _ x _ h (calm_plain plain.Enter at given) _ fresh (look (past_enter p a)))
  plain_parts plain.Leave at given =
      commits plain.Leave at given _ _ (rests_left (in_work p a) (here plain.Leave at given))
  plain_parts plain.WorkState at given =
      commits plain.WorkState at given _ _ (rests_worked p a (λ none. here plain.WorkState at given))
  plain_parts plain.LockState at given = commits plain.LockState at given _ _ (rests_plain plain.Lock)
  plain_parts plain.Lock at given = locks at given
  plain_parts plain.Unlock at given =
      commits plain.Unlock at given _ _ (rests_settled p a (λ none. here plain.Unlock at given))
  plain_parts plain.GroupBegin at given =
      commits plain.GroupBegin at given _ _ (rests_grouped (in_work p a) (here plain.GroupBegin at given))
  plain_parts plain.Done at given = commits plain.Done at given _ _ (rests_plain plain.Ended)
  plain_parts plain.Ended at given =
      let (x, on) = word plain.Ended at given in
      (x, on, ended_parts w m s i _ x a h (calm_plain plain.Ended at given) (here plain.Ended at given))
