-- A task in the hand starts: it is scheduled from the current one, which waits under its body.
use Rattle.std.proofs.Common.{◌≡◌, ◌+◌, inl, ℕ, zero, Bool, false, List, [], ◌∷◌, ◌++◌, Option, Some, None, refl, sym, ap, ◌∙◌, arith, subst}
use Rattle.std.specs.Option.{option_and_then, option_map}
use Rattle.omi_numbers.specs.Addresses.{exit_below, exit_frame}
use Rattle.omi_word.specs.declared.op.Op.TheVariants as op
use Rattle.omi_script.specs.declared.env.Env.{Env}
use Rattle.omi_script.specs.declared.program.Program.{Program}
use Rattle.omi_model.specs.declared.encounter.Encounter.{Encounter}
use Rattle.omi_model.specs.declared.event.Event.{Event}
use Rattle.omi_model.specs.declared.event.Event.TheVariants as event
use Rattle.omi_model.specs.declared.id.Id.{Id}
use Rattle.omi_model.specs.declared.id.Rid.{Rid}
use Rattle.omi_model.specs.declared.id.Tid.{Tid}
use Rattle.omi_model.specs.declared.item.Item.{Item}
use Rattle.omi_model.specs.declared.item.Item.TheVariants as item
use Rattle.omi_model.specs.declared.task.Task.{Task}
use Rattle.omi_model.specs.declared.thread.Thread.{Thread}
use Rattle.omi_model.specs.Changes.{IsCurrent, encounter, encounter_by, level_of, on_task, with_current}
use Rattle.omi_model.specs.Lists.{stays, take_item}
use Rattle.omi_numbers.specs.declared.states.TheConstants.{WAIT_TASKGROUP, WAIT_TASKWAIT}
use Rattle.omi_model.specs.Put.{put}
use Rattle.omi_model.specs.Reached.{Step}
use Rattle.omi_model.specs.Rows.{task_items, working}
use Rattle.omi_model.specs.Rules.{effect}
use Rattle.omi_model.specs.State.{State, task_of}
use Rattle.omi_model.specs.Groups.{IsInInnermost, innermost_or}
use Rattle.omi_model.specs.Tasking.{MayStartAt, scheduled, started, started_alone}
use Rattle.omi_model.proofs.groups.GroupLaws.{groups_right}
use Rattle.omi_model.proofs.Slots.{on_other, on_same, put_same, some_same}
use Rattle.omi_model.proofs.StaysKept.{stays_step}
use Rattle.omi_model.proofs.Steps.{at_current, current_moved, relisted}
use Rattle.omi_model.proofs.members.ClosingItems.{lists_right}
use Rattle.omi_layout.specs.declared.field.Field.TheVariants.{TaskEnter, TaskExit, TaskNumber, TaskScheduling, TaskThread, ThreadCurrent}
use Rattle.omi_layout.specs.Field.{tasks, threads}
use Rattle.omi_layout.specs.Memory.{Memory, with_word}
use Rattle.omi_layout.specs.Named.{number}
use Rattle.omi_pc.specs.declared.actor.Actor.{Actor}
use Rattle.omi_pc.specs.declared.context.Context.{Context}
use Rattle.omi_pc.specs.declared.counter.Counter.{Counter}
use Rattle.omi_pc.specs.declared.counter.Counter.TheVariants as counter
use Rattle.omi_pc.specs.declared.frame.Barrier.TheVariants.{Explicit, Implicit}
use Rattle.omi_pc.specs.declared.frame.Frame.{Frame}
use Rattle.omi_pc.specs.declared.frame.Opened.TheVariants as opened
use Rattle.omi_pc.specs.declared.frame.Wait.{Wait}
use Rattle.omi_pc.specs.declared.frame.Wait.TheVariants as wait
use Rattle.omi_pc.specs.declared.limits.TheConstants.{START_WORDS}
use Rattle.omi_pc.specs.declared.task_counter.LookCounter.TheVariants as look
use Rattle.omi_pc.specs.Fits.{HasLoaded, HasTask as HasSomeTask}
use Rattle.omi_pc.specs.Frames.{at_start}
use Rattle.omi_pc.specs.Moves.{begun_explicit}
use Rattle.omi_pc.specs.Moves as Moves
use Rattle.omi_pc.specs.OpenBodies.{AreOpen}
use Rattle.omi_pc.specs.Settle.{settled}
use Rattle.omi_pc.proofs.Moved.{body_opens}
use Rattle.omi_rep.specs.declared.outcome.Outcome.TheVariants as outcome
use Rattle.omi_rep.specs.Records.{task_address, thread_address}
use Rattle.omi_rule_words.specs.Groups.{group_at}
use Rattle.omi_rule_words.specs.ExplicitKinds.{IsDeferred, IsReady}
use Rattle.omi_rep.proofs.Codes.{same_word}
use Rattle.omi_rule_words.specs.Objects.{KeepsPlace}
use Rattle.omi_rule_words.specs.Owes.{all_owed, nothing, owed}
use Rattle.omi_rule_words.specs.Words.{KeepsWords}
use Rattle.omi_rule_words.proofs.Starts.{starts_alone_keep, starts_keep}
use Rattle.omi_step_words.specs.Placed.{AreContextsPlaced, HasTask}
use Rattle.omi_step_words.specs.Words.{of_thread}
use Rattle.omi_task.specs.LookSteps.{body_begun, look_moved, look_next, look_outcome}
use Rattle.omi_task.specs.Starts.{task_context}
use Rattle.omi_task.proofs.StartedBodies.{start_opens}
use Rattle.omi_rule.specs.Ahead as Ahead
use Rattle.omi_rule.specs.Chains.{IsSuspended, KeepsBodies, KeepsContext, RunsFunctions, encounter_of, IsPassable}
use Rattle.omi_rule.specs.Rows.{HasPlaced, MayStartIn}
use Rattle.omi_rule.specs.Rule.{KeepsThread}
use Rattle.omi_rule.specs.Steps.{IsOn, KeepsRule, RecordWord, StepKeeps}
use Rattle.omi_rule.proofs.Groups.{one_open}
use Rattle.omi_rule.proofs.OwnWords.{store_on, thread_word}
use Rattle.omi_rule.proofs.Assembly.{Before, plain_event_keeps, spares_threads}
use Rattle.omi_rule.proofs.Begun.{settles, settles_owing_nothing, works, works_owing_nothing}
use Rattle.omi_rule.proofs.OthersStand.{of_innermost}
use Rattle.omi_rule.proofs.Own.{ChangesTask, bodies_kept}
use Rattle.omi_rule.proofs.Own as Own
use Rattle.omi_rule.proofs.Owing.{owed_after}
use Rattle.omi_rule.proofs.OwnTask.{is_current, own_below}
use Rattle.omi_rule.proofs.Runs.{stack_runs}
use Rattle.omi_rule.proofs.barrier.AtCounter.{ahead_is, context_placed, fits_counter, here, own, owes_now, placed_counter, row_is, sees, stands}
use Rattle.omi_rule.proofs.barrier.Events.{none_new, relisted_changes, relisted_state, relisted_words, steps_to}
use Rattle.omi_rule.proofs.join.BodiesUnder.{LeavesUnder, under_kept}
use Rattle.omi_rule.proofs.join.BodiesUnder as BodiesUnder
use Rattle.omi_rule.proofs.look.ApartBodies.{are_below, other_task}
use Rattle.omi_rule.proofs.plain.OwnEvents.{environment_stays}
use Rattle.omi_rule.proofs.WaitingFronts.{waiting_passes}

module _ (p : Program) (w : List ℕ) (m : Memory) (events : List (ℕ × Event)) (s : State) (actors : ℕ → Actor)
    (i : ℕ) (before : Before p w m events s actors i) (v : Wait) (n code : ℕ) (t : Tid) (f : ℕ) (final : Bool)
    (at : (actors i).counter ≡ counter.Look (look.Start v n code t f final)) where
  abbrev a : Actor
  a = actors i

  abbrev standing : Counter
  standing = counter.Look (look.Start v n code t f final)

  abbrev At : Encounter
  At = sees p w m events s actors i before standing at tt

  abbrev mine : KeepsContext s i (actors i).context
  mine = here p w m events s actors i before standing at tt

  abbrev K : Tid
  K = (actors i).context.task

  -- the task in the hand
  hand : HasPlaced w m s a v t f final START_WORDS
  hand = row_is p w m events s actors i before standing at tt

  abbrev U : Task
  U = hand.0.task

  fits : HasLoaded p a v n t f
  fits = fits_counter p w m events s actors i before standing at tt

  has_task : HasTask w t
  has_task = placed_counter p w m events s actors i before standing at tt

  -- the current task waits on
  abbrev waits_on : List Item
  waits_on = Ahead.entering_wait p At a.stack v

  abbrev listed : State
  listed = relisted_state p w m events s actors i before standing at tt waits_on

  abbrev T : Task
  T = relisted waits_on mine.task

  current : IsCurrent s i K mine.task
  current = is_current p s i a (stands p w m events s actors i before standing at tt)

  current_listed : IsCurrent listed i K T
  current_listed = current_moved s i K current.name waits_on K mine.task current

  apart : K ≡ t → ⊥
  apart = other_task p s i t U hand.0.is a.context mine

  deferred : IsDeferred listed t U
  deferred = record { live = on_other s.tasks K.0 (relisted waits_on) t.0 (λ (e : t.0 ≡ K.0). apart (ap (λ (d : Id). record { 0 = d }) (sym e))) ∙ hand.0.is.live; explicit = hand.0.is.explicit; progress = hand.0.is.progress }

  -- ---- the words

  exit_is : exit_below T.exit ≡ exit_frame i (a.context.depth + 1)
  exit_is = let is = mine.exit in omega (arith, is)

  placed_here : KeepsPlace w (m t.0.creator tasks t.0.slot) (scheduled i K T U)
  placed_here TaskThread zero x _ told =
      hand.1 0 (omega arith)
      ∙ ap (thread_address w) (own p w m events s actors i before standing at tt).thread
      ∙ same_word _ _ told
  placed_here TaskNumber zero x _ told = hand.1 1 (omega arith) ∙ sym mine.number ∙ same_word _ _ told
  placed_here TaskScheduling zero x _ told = hand.1 2 (omega arith) ∙ same_word _ _ told
  placed_here TaskExit zero x _ told =
      hand.1 3 (omega arith)
      ∙ ap (λ j. exit_frame j (a.context.depth + 1))
      (own p w m events s actors i before standing at tt).thread
      ∙ sym exit_is
      ∙ same_word _ _ told
  placed_here TaskEnter zero x _ told = hand.1 4 (omega arith) ∙ same_word _ _ told
  placed_here f at x place told = absurd (cc)

  ready : IsReady w m listed (all_owed actors) i t U K T
  ready = (owes_now p w m events s actors i before standing at tt, deferred, placed_here)

  abbrev stored : Memory
  stored = with_word m i threads 0 (number ThreadCurrent) 0 (task_address w t)

  -- ---- the event, by the wait

  abbrev item_of : Wait → Item
  item_of (wait.Barrier b) = item.Tasks (Ahead.barrier_state b)
  item_of wait.Taskwait = item.Tasks WAIT_TASKWAIT
  item_of wait.Taskyield = item.OneTask
  item_of wait.Taskgroup = item.Tasks WAIT_TASKGROUP

  abbrev rest_of : Wait → List Item
  rest_of (wait.Barrier b) = Ahead.behind_tasks p At a.stack b
  rest_of wait.Taskwait = item.WaitDone ∷ working At (Ahead.leaving p At a.stack)
  rest_of wait.Taskyield = item.Yield ∷ Ahead.leaving p At a.stack
  rest_of wait.Taskgroup = item.GroupEnd ∷ working At (Ahead.leaving p At a.stack)

  -- in front of the started task's list stands a state, but not at `taskyield`
  abbrev in_front : Wait → List Item → List Item
  in_front (wait.Barrier b) xs = working (encounter listed i) xs
  in_front wait.Taskwait xs = working (encounter listed i) xs
  in_front wait.Taskyield xs = xs
  in_front wait.Taskgroup xs = working (encounter listed i) xs

  abbrev starting : (List Item → List Item) → Task → Task
  starting F u = record (scheduled i K T u) { list = F u.list }

  abbrev next_of : (List Item → List Item) → State
  next_of F = with_current (on_task listed t (starting F)) i (Some t)

  takes : (x : Wait)
      → take_item p At (event.Start t) (Ahead.waiting p At a.stack x) ≡ Some (item_of x, rest_of x)
  takes (wait.Barrier b) = refl
  takes wait.Taskwait = refl
  takes wait.Taskyield = refl
  takes wait.Taskgroup = refl

  taken : take_item p At (event.Start t) mine.task.list ≡ Some (item_of v, rest_of v)
  taken =
      ap (λ xs. take_item p At (event.Start t) xs) (ahead_is p w m events s actors i before standing at tt)
      ∙ takes v

  stay : (x : Wait) → stays At (event.Start t) (item_of x) (rest_of x) ≡ Ahead.entering_wait p At a.stack x
  stay (wait.Barrier b) = refl
  stay wait.Taskwait = refl
  stay wait.Taskyield = refl
  stay wait.Taskgroup = refl

  -- a task of the innermost open group
  is_member : mine.task.list ≡ Ahead.waiting p At a.stack wait.Taskgroup → MayStartIn wait.Taskgroup a U
      → IsInInnermost K mine.task U
  is_member list may =
      let (l, some) = one_open p events s before.rule.reached K mine.task mine.live _ _ list in (
        group_at K l,
        ap (innermost_or None K) some,
        may ∙ ap (innermost_or None K) (sym mine.groups ∙ some),
      )

  allowed : (x : Wait) → mine.task.list ≡ Ahead.waiting p At a.stack x → MayStartIn x a U
      → MayStartAt (item_of x) K mine.task U
  allowed (wait.Barrier Explicit) list may = hand.0.region ∙ sym mine.region_is
  allowed (wait.Barrier Implicit) list may = hand.0.region ∙ sym mine.region_is
  allowed wait.Taskwait list may = may
  allowed wait.Taskyield list may = may
  allowed wait.Taskgroup list may = is_member list may

  effect_is : (x : Wait) → effect p listed i (event.Start t) (item_of x) ≡ Some (next_of (in_front x))
  effect_is (wait.Barrier b) = at_current listed i K T (started listed i t) current_listed
  effect_is wait.Taskwait = at_current listed i K T (started listed i t) current_listed
  effect_is wait.Taskgroup = at_current listed i K T (started listed i t) current_listed
  effect_is wait.Taskyield = at_current listed i K T (started_alone listed i t) current_listed

  words_of : (x : Wait) → KeepsWords w stored (next_of (in_front x)) (λ j. put (all_owed actors) i nothing j)
  words_of (wait.Barrier b) =
      starts_keep w m listed (all_owed actors) i t U K T
      (relisted_words p w m events s actors i before standing at tt waits_on) before.known ready
  words_of wait.Taskwait =
      starts_keep w m listed (all_owed actors) i t U K T
      (relisted_words p w m events s actors i before standing at tt waits_on) before.known ready
  words_of wait.Taskgroup =
      starts_keep w m listed (all_owed actors) i t U K T
      (relisted_words p w m events s actors i before standing at tt waits_on) before.known ready
  words_of wait.Taskyield =
      starts_alone_keep w m listed (all_owed actors) i t U K T
      (relisted_words p w m events s actors i before standing at tt waits_on) before.known ready

  no_fork : (x : Wait) (g : ℕ) → item_of x ≡ item.Fork g → ⊥
  no_fork (wait.Barrier b) g e = absurd (cc e)
  no_fork wait.Taskwait g e = absurd (cc e)
  no_fork wait.Taskyield g e = absurd (cc e)
  no_fork wait.Taskgroup g e = absurd (cc e)

  -- ---- the state

  abbrev F : List Item → List Item
  F = in_front v

  abbrev next : State
  next = next_of F

  step : Step p s i (event.Start t) next
  step =
      steps_to p w m events s actors i before standing at tt (event.Start t) (item_of v)
      (rest_of v) waits_on next taken
      (K, mine.task, current, record { new = U; live = hand.0.is.live; explicit = hand.0.is.explicit; deferred = hand.0.is.progress; allowed = allowed v (ahead_is p w m events s actors i before standing at tt) hand.0.may })
      (stay v) (effect_is v)

  abbrev New : Task
  New = starting F U

  live_next : task_of next t ≡ Some New
  live_next = on_same listed.tasks t.0 (starting F) ∙ ap (option_map (starting F)) deferred.live

  passes : IsPassable U.frees
  passes =
      waiting_passes p events s before.rule.reached t U hand.0.is.live (λ is. cc (sym hand.0.is.progress, is))

  leaves : LeavesUnder listed next t
  leaves = record { environment = refl; others = λ k other x live. (x.frees, on_other listed.tasks t.0 (starting F) k.0 other ∙ live); regions = λ k x live r found. (r, found, refl, refl, refl) }

  -- ---- the bodies

  changes : ChangesTask s listed i K
  changes = relisted_changes p w m events s actors i before standing at tt waits_on

  bodies_moved : KeepsBodies p listed i a.context a.stack
  bodies_moved =
      bodies_kept p s listed i K changes a.context a.stack
      (own_below p s i a (stands p w m events s actors i before standing at tt) events before.rule.reached)
      (stands p w m events s actors i before standing at tt).bodies

  top_moved : KeepsContext listed i a.context
  top_moved = of_innermost p listed i a.context a.stack bodies_moved

  bodies_under : KeepsBodies p next i a.context a.stack
  bodies_under =
      under_kept p listed next i t leaves a.context a.stack
      (other_task p listed i t U deferred a.context top_moved)
      (are_below p listed i t U deferred a.context a.stack bodies_moved) bodies_moved

  same_encounter : encounter_of next a.context ≡ At
  same_encounter =
      BodiesUnder.encounter_kept p listed next i t leaves a.context
      (other_task p listed i t U deferred a.context top_moved) top_moved
      ∙ Own.encounter_kept p s listed i K changes a.context mine

  abbrev context : Context
  context = task_context (actors i) t final

  abbrev b : Actor
  b = begun_explicit f (Some v) (task_context (actors i) t final) (actors i)

  abbrev frame : Frame
  frame = at_start f (opened.Task (Some v) (actors i).context)

  kept : KeepsContext next i context
  kept = record {
    task = New;
    live = live_next;
    begun = refl;
    thread = refl;
    implicit = hand.0.is.explicit;
    region_is = hand.0.region;
    number = mine.number;
    final = hand.0.knows.1;
    exit = exit_is;
    region = mine.region;
    found = mine.found;
    size = mine.size;
    row = mine.row;
    arrivals = mine.arrivals;
    groups = (groups_right p events s before.rule.reached t U hand.0.is.live).closed (λ is. cc (sym hand.0.is.progress, is));
  }

  suspended : IsSuspended next a.context (Ahead.resuming p (encounter_of next a.context) a.stack (Some v))
  suspended = record {
    task = T;
    live = on_other listed.tasks t.0 (starting F) K.0 (λ (e : K.0 ≡ t.0). apart (ap (λ (d : Id). record { 0 = d }) e)) ∙ current_listed.live;
    list_is = ap (λ (e : Encounter). Ahead.entering_wait p e a.stack v) (sym same_encounter);
  }

  bodies : KeepsBodies p next i context (frame ∷ a.stack)
  bodies = (kept, (record { task = New; live = live_next; scheduling = refl }, suspended), bodies_under)

  runs : RunsFunctions next context (frame ∷ a.stack)
  runs =
      let o = own p w m events s actors i before standing at tt in (
        λ opens x live. ap (λ (y : Task). y.function) (some_same live live_next) ∙ hand.0.knows.0,
        stack_runs p s next i (stays_step p s i (event.Start t) next step) a o.stands o.runs,
      )

  now_current : (next.threads i).current ≡ Some t
  now_current =
      ap (λ (h : Thread). h.current) (put_same s.threads i (record (s.threads i) { current = Some t }))

  -- ---- what is ahead

  abbrev Seen : Encounter
  Seen = encounter_of next context

  seen_debug : Seen.debug ≡ p.env.debug
  seen_debug =
      ap (λ (o : Option Task). (encounter_by next o).debug) live_next
      ∙ ap (λ (e : Env). e.debug) (environment_stays p events s before.rule.reached)

  list_is : U.list ≡ task_items p f
  list_is =
      (lists_right p events s before.rule.reached t U hand.0.is.live).deferred hand.0.is.progress
      ∙ ap (task_items p) hand.0.knows.0

  -- the state in front is the one that the thread stores
  same_front : (xs : List Item) → working (encounter listed i) xs ≡ working Seen xs
  same_front xs =
      ap
      (λ (o : Option Tid). working (encounter_by listed (option_and_then (task_of listed) o)) xs) current_listed.name
      ∙ ap (λ (o : Option Task). working (encounter_by listed o) xs) current_listed.live
      ∙ ap
      (λ (r : Rid). working (record { debug = s.environment.debug; number = 0; level = level_of s r; is_final = false }) xs)
      (mine.region_is ∙ sym hand.0.region)
      ∙ ap (λ (o : Option Task). working (encounter_by next o) xs) (sym live_next)

  open_bodies : AreOpen p context (frame ∷ a.stack)
  open_bodies =
      start_opens p a v t f final body_opens
      (own p w m events s actors i before standing at tt).fits fits.0.0.0 fits.0.1 fits.1

  has : HasSomeTask p b
  has =
      let o = own p w m events s actors i before standing at tt in record { thread = o.fits.thread; variables = o.fits.variables; bodies = open_bodies; some = omega arith }

  contexts_placed : AreContextsPlaced w context (frame ∷ a.stack)
  contexts_placed =
      let there = context_placed p w m events s actors i before standing at tt in
      (record { task = has_task; region = there.region; row = there.row }, (own p w m events s actors i before standing at tt).placed.bodies)

  -- ---- the step

  abbrev later : List (ℕ × Event)
  later = events ++ (i, event.Start t) ∷ []

  abbrev on_current : RecordWord
  on_current = thread_word i ThreadCurrent

  is_on : IsOn w (op.Store (of_thread w a.thread ThreadCurrent) (task_address w t)) on_current
  is_on = store_on p w m events s actors i before ThreadCurrent (task_address w t) refl

  abbrev Goes : Actor → Type 0
  Goes c =
      KeepsRule p w m events s actors i
      (op.Store (of_thread w a.thread ThreadCurrent) (task_address w t)) on_current
      (c, outcome.Event (event.Start t))

  leads_to : (c : Actor) → owed c ≡ nothing → KeepsThread p w stored later next i c → Goes c
  leads_to c idle thread =
      let o = own p w m events s actors i before standing at tt in
      plain_event_keeps p w m events s actors i before
      (op.Store (of_thread w a.thread ThreadCurrent) (task_address w t)) on_current
      (c, outcome.Event (event.Start t)) (event.Start t) next
      (λ no_object. no_object) refl step
      (task_address w t, ap (λ j. op.Store (of_thread w j ThreadCurrent) (task_address w t)) o.thread)
      (none_new p w m events s actors i before standing at tt (event.Start t) (item_of v) (rest_of v) next taken step (no_fork v))
      (owed_after w stored next actors i c nothing idle (words_of v))
      (λ j other. spares_threads m s i ThreadCurrent (task_address w t) j (actors j) (λ same. omega (arith, same)))
      thread

  works_now : ((xs : List Item) → F xs ≡ working (encounter listed i) xs) → Goes (Moves.back_to_work p b)
  works_now front =
      let o = own p w m events s actors i before standing at tt in
      leads_to (Moves.back_to_work p b) (works_owing_nothing p b frame a.stack refl)
      (works p w stored later next i b frame a.stack refl o.thread has (inl (refl, tt)) contexts_placed seen_debug now_current bodies runs
      (λ x live. ap (λ (y : Task). y.list) (some_same live live_next) ∙ front U.list ∙ ap (working (encounter listed i)) list_is ∙ same_front (task_items p f))
      (λ x live. subst (λ (y : Task). IsPassable y.frees) (some_same live_next live) passes))

  settles_now : ((xs : List Item) → F xs ≡ xs) → Goes (settled p b)
  settles_now front =
      let o = own p w m events s actors i before standing at tt in
      leads_to (settled p b) (settles_owing_nothing p b frame a.stack refl)
      (settles p w stored later next i b frame a.stack refl o.thread has contexts_placed seen_debug now_current bodies runs
      (λ x live. ap (λ (y : Task). y.list) (some_same live live_next) ∙ front U.list ∙ list_is)
      (λ x live. subst (λ (y : Task). IsPassable y.frees) (some_same live_next live) passes))

  goes : (x : Wait) → ((xs : List Item) → F xs ≡ in_front x xs) → Goes (body_begun p x b)
  goes (wait.Barrier c) front = works_now front
  goes wait.Taskwait front = works_now front
  goes wait.Taskyield front = settles_now front
  goes wait.Taskgroup front = works_now front

  pub start_keeps : StepKeeps p w m events s actors i (look_next w (actors i) (look.Start v n code t f final)) (λ old. (look_moved p w (actors i) (look.Start v n code t f final) old, look_outcome w (actors i) (look.Start v n code t f final) old))
  start_keeps = (on_current, is_on, goes v (λ xs. refl))
