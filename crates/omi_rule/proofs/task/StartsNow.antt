-- A new task starts at once: its record is stored as the current task's, and its thread goes on in its body.
use Rattle.std.proofs.Common.{◌≡◌, ◌||◌, ℕ, Bool, true, false, List, [], ◌∷◌, ◌++◌, Option, Some, None, refl, sym, ap, ◌∙◌, arith, if◌then◌else◌, subst}
use Rattle.omi_word.specs.declared.op.Op.TheVariants as op
use Rattle.omi_script.specs.declared.env.Env.{Env}
use Rattle.omi_script.specs.declared.program.Program.{Program}
use Rattle.omi_model.specs.declared.encounter.Encounter.{Encounter}
use Rattle.omi_model.specs.declared.event.Event.{Event}
use Rattle.omi_model.specs.declared.event.Event.TheVariants as event
use Rattle.omi_model.specs.declared.id.Tid.{Tid}
use Rattle.omi_model.specs.declared.item.Item.{Item}
use Rattle.omi_model.specs.declared.item.Item.TheVariants as item
use Rattle.omi_model.specs.declared.task.Task.{Task}
use Rattle.omi_model.specs.declared.thread.Thread.{Thread}
use Rattle.omi_model.specs.Changes.{encounter_by, on_task}
use Rattle.omi_model.specs.Rows.{task_items}
use Rattle.omi_model.specs.Lists.{take_item}
use Rattle.omi_model.specs.Reached.{Step}
use Rattle.omi_model.specs.Rules as Rules
use Rattle.omi_model.specs.State.{State, task_of}
use Rattle.omi_model.specs.Tasking.{deferred_task, scheduled, started_now}
use Rattle.omi_model.proofs.Slots.{put_same, some_same}
use Rattle.omi_model.proofs.StaysKept.{stays_step}
use Rattle.omi_model.proofs.Steps.{at_current, relisted}
use Rattle.omi_layout.specs.declared.field.Field.TheVariants.{ThreadCurrent}
use Rattle.omi_layout.specs.Field.{tasks, threads}
use Rattle.omi_layout.specs.Memory.{Memory, replace_at, with_word}
use Rattle.omi_layout.specs.Named.{number}
use Rattle.omi_pc.specs.declared.actor.Actor.{Actor}
use Rattle.omi_pc.specs.declared.context.Context.{Context}
use Rattle.omi_pc.specs.declared.counter.Counter.TheVariants as counter
use Rattle.omi_pc.specs.declared.frame.Frame.{Frame}
use Rattle.omi_pc.specs.declared.frame.Opened.TheVariants as opened
use Rattle.omi_pc.specs.declared.task_counter.TaskCounter.{TaskCounter}
use Rattle.omi_pc.specs.declared.task_counter.TaskCounter.TheVariants as task
use Rattle.omi_pc.specs.declared.limits.TheConstants.{TASK_WORDS}
use Rattle.omi_pc.specs.Frames.{at_start}
use Rattle.omi_pc.specs.Moves.{begun_explicit}
use Rattle.omi_pc.specs.OpenBodies.{AreOpen}
use Rattle.omi_pc.specs.Settle.{settled}
use Rattle.omi_pc.proofs.Moved.{body_opens}
use Rattle.omi_rep.specs.declared.outcome.Outcome.TheVariants as outcome
use Rattle.omi_rep.specs.Records.{task_address}
use Rattle.omi_rule_words.specs.Owes.{all_owed, nothing}
use Rattle.omi_rule_words.specs.Words.{KeepsWords}
use Rattle.omi_step_words.specs.Placed.{AreContextsPlaced, HasTask}
use Rattle.omi_step_words.specs.Words.{of_thread}
use Rattle.omi_task.specs.MakingSteps.{made_function, makes_final, making_moved, making_next, making_outcome}
use Rattle.omi_task.specs.Starts.{task_context}
use Rattle.omi_task.proofs.StartedBodies.{start_now_opens}
use Rattle.omi_rule.specs.Ahead as Ahead
use Rattle.omi_rule.specs.Ahead.{leaving, task_ahead}
use Rattle.omi_rule.specs.Chains.{KeepsBodies, KeepsContext, RunsFunctions, encounter_of, IsPassable}
use Rattle.omi_rule.specs.Rows.{HasFilledTask}
use Rattle.omi_rule.specs.Rule.{KeepsThread}
use Rattle.omi_rule.specs.Steps.{RecordWord, StepKeeps}
use Rattle.omi_rule.proofs.OwnWords.{store_on, thread_word}
use Rattle.omi_rule.proofs.Assembly.{Before, event_keeps, spares_threads}
use Rattle.omi_rule_words.proofs.Defers.{starts_now_keep}
use Rattle.omi_rule.proofs.Begun.{settled_is_first, settles}
use Rattle.omi_rule.proofs.OwnTask.{is_current}
use Rattle.omi_rule.proofs.Owing.{owed_after}
use Rattle.omi_rule.proofs.Runs.{stack_runs}
use Rattle.omi_rule.proofs.plain.OwnEvents.{environment_stays}
use Rattle.omi_rule.proofs.task.Events.{making_is, none_new, sees_final, step, words_moved}
use Rattle.omi_rule.proofs.task.Making.{IsReady, IsTaskNext, bodies_grown, final_as, is_ready, larger, live_new, made_as, sees_grown, task_next, tasks_within}
use Rattle.omi_rule.proofs.task.NewTasks.{place_is_filled, record_is_filled}
use Rattle.omi_rule.proofs.task.Within.{context, context_placed, fits, own, owes, placed, row, stands, task_few}

module _ (p : Program) (w : List ℕ) (m : Memory) (events : List (ℕ × Event)) (s : State) (actors : ℕ → Actor)
    (i : ℕ) (before : Before p w m events s actors i) (t : Tid)
    (at : (actors i).counter ≡ counter.Task (task.StartNow t)) where
  abbrev C : TaskCounter
  C = task.StartNow t

  abbrev K : Tid
  K = (actors i).context.task

  abbrev At : Encounter
  At = encounter_of s (actors i).context

  here : KeepsContext s i (actors i).context
  here = context p w m events s actors i before C at

  next : IsTaskNext p (actors i).stack
  next = task_next p (actors i) (fits p w m events s actors i before C at).0.0

  filled : HasFilledTask p w m s (actors i) None t TASK_WORDS
  filled = row p w m events s actors i before C at

  there : HasTask w t
  there = placed p w m events s actors i before C at

  abbrev f : ℕ
  f = next.function

  abbrev final : Bool
  final = next.final || (encounter_of s (actors i).context).is_final

  abbrev rest : List Item
  rest = leaving p (encounter_of s (actors i).context) (actors i).stack

  abbrev Z : State
  Z = on_task s (actors i).context.task (relisted rest)

  -- the task that makes it, and the new one
  abbrev Maker : Task
  Maker = relisted rest (context p w m events s actors i before C at).task

  abbrev New : Task
  New = scheduled i (actors i).context.task Maker (deferred_task p (actors i).context.task Maker f final 0)

  abbrev U : State
  U = started_now p Z i t f final (actors i).context.task Maker

  abbrev X : RecordWord
  X = thread_word i ThreadCurrent

  abbrev N : Memory
  N = with_word m i threads 0 (number ThreadCurrent) 0 (task_address w t)

  -- ---- the event is legal

  abbrev made_item : Bool → Item
  made_item b = if b then item.StartNow f final else item.Defer 4 f final

  abbrev undeferred : Bool
  undeferred = next.undeferred || (encounter_of s (actors i).context).is_final

  taken : take_item p At (event.StartNow t) (task_ahead p At (actors i).stack C) ≡ Some (made_item undeferred, rest)
  taken =
      ap (take_item p At (event.StartNow t))
      (making_is p At (actors i).stack None f next.undeferred next.final undeferred next.is refl)
      ∙ go undeferred
    where
      go : (b : Bool) → take_item p At (event.StartNow t) (made_item b ∷ rest) ≡ Some (made_item b, rest)
      go true = refl
      go false = refl

  ready : IsReady p w m s (all_owed actors) i (actors i) t Maker Z
  ready =
      is_ready p w m events s actors i before C at t rest
      (owes p w m events s actors i before C at) there None filled

  done : Step p s i (event.StartNow t) U
  done = go undeferred taken
    where
      legal : Rules.Rule s i (event.StartNow t) (made_item undeferred)
      legal =
          (K, (context p w m events s actors i before C at).task, is_current p s i (actors i) (stands p w m events s actors i before C at), ready.fresh)

      go : (b : Bool)
          → take_item p At (event.StartNow t) (task_ahead p At (actors i).stack C) ≡ Some (made_item b, rest)
          → Step p s i (event.StartNow t) U
      go true is =
          step p w m events s actors i before C at (event.StartNow t)
          (item.StartNow f final) rest rest U is legal refl
          (at_current Z i K Maker (started_now p Z i t f final) ready.current)
      go false is =
          step p w m events s actors i before C at (event.StartNow t)
          (item.Defer 4 f final) rest rest U is legal refl
          (at_current Z i K Maker (started_now p Z i t f final) ready.current)

  -- ---- words

  made_is : made_function p (actors i) ≡ f
  made_is = made_as p (actors i) next

  final_is : makes_final p (actors i) ≡ final
  final_is =
      final_as p (actors i) next
      ∙ ap (λ (x : Bool). next.final || x) (sym (sees_final p w m events s actors i before C at))

  words : KeepsWords w N U (replace_at (all_owed actors) i nothing)
  words =
      let o = context p w m events s actors i before C at in
      starts_now_keep p w m Z (all_owed actors) i t f final K Maker
      (words_moved p w m events s actors i before C at rest) ready.within ready.names ready.owners before.valid before.known ready.owes
      (record_is_filled p w (actors i) f final 0 Maker (m i tasks t.0.slot) made_is final_is o.region_is ready.group ready.filled (task_few p w m events s actors i before C at) ready.variables)
      (place_is_filled p w (actors i) f final 0 Maker (m i tasks t.0.slot) made_is final_is o.region_is ready.group ready.filled (task_few p w m events s actors i before C at) ready.variables i (own p w m events s actors i before C at).thread o.number o.exit)

  -- ---- the state has grown

  new_lives : task_of U t ≡ Some New
  new_lives = live_new p w m s (all_owed actors) i (actors i) t Maker Z ready New U refl refl refl

  current : (U.threads i).current ≡ Some t
  current = ap (λ (h : Thread). h.current) (put_same s.threads i (record (s.threads i) { current = Some t }))

  -- ---- the bodies

  abbrev c : Context
  c = task_context (actors i) t (makes_final p (actors i))

  abbrev frame : Frame
  frame = at_start (made_function p (actors i)) (opened.Task None (actors i).context)

  abbrev b : Actor
  b =
      begun_explicit (made_function p (actors i)) None (task_context (actors i) t (makes_final p (actors i)))
      (actors i)

  kept : KeepsContext U i c
  kept =
      let o = context p w m events s actors i before C at in
      record {
        task = New;
        live = new_lives;
        begun = refl;
        thread = refl;
        implicit = refl;
        region_is = o.region_is;
        number = o.number;
        final = sym final_is;
        exit = (let is = o.exit in omega (arith, is));
        region = o.region;
        found = o.found;
        size = o.size;
        row = o.row;
        arrivals = o.arrivals;
        groups = refl;
      }

  bodies : KeepsBodies p U i c (frame ∷ (actors i).stack)
  bodies = (
    kept,
    (
      record { task = New; live = new_lives; scheduling = refl },
      record {
        task = Maker;
        live = (larger p w m s (all_owed actors) i (actors i) t Maker Z ready New U refl refl refl).tasks K Maker ready.current.live;
        list_is = ap (λ (e : Encounter). leaving p e (actors i).stack) (sym (sees_grown p w m s (all_owed actors) i (actors i) t Maker Z ready New U refl refl refl));
      },
    ),
    bodies_grown p w m s (all_owed actors) i (actors i) t Maker Z ready New U refl refl refl,
  )

  runs : RunsFunctions U c (frame ∷ (actors i).stack)
  runs =
      let mine = own p w m events s actors i before C at in
      (λ opens x live. ap (λ (y : Task). y.function) (some_same live new_lives) ∙ sym made_is, stack_runs p s U i (stays_step p s i (event.StartNow t) U done) (actors i) mine.stands mine.runs)

  debug : (encounter_of U c).debug ≡ p.env.debug
  debug =
      ap (λ (o : Option Task). (encounter_by U o).debug) new_lives
      ∙ ap (λ (e : Env). e.debug) (environment_stays p events s before.rule.reached)

  ahead : (x : Task) → task_of U t ≡ Some x
      → x.list ≡ Ahead.ahead p (encounter_of U c) (frame ∷ (actors i).stack)
  ahead x live = ap (λ (y : Task). y.list) (some_same live new_lives) ∙ ap (λ g. task_items p g) (sym made_is)

  front : (x : Task) → task_of U t ≡ Some x → IsPassable x.frees
  front x live = subst (λ (y : Task). IsPassable y.frees) (some_same new_lives live) tt

  -- ---- the thread afterwards

  abbrev Later : List (ℕ × Event)
  Later = events ++ (i, event.StartNow t) ∷ []

  open_bodies : AreOpen p c (frame ∷ (actors i).stack)
  open_bodies =
      start_now_opens p (actors i) t body_opens (own p w m events s actors i before C at).fits
      (fits p w m events s actors i before C at)

  contexts_placed : AreContextsPlaced w c (frame ∷ (actors i).stack)
  contexts_placed =
      let o = context_placed p w m events s actors i before C at in
      (record { task = there; region = o.region; row = o.row }, (own p w m events s actors i before C at).placed.bodies)

  thread_now : KeepsThread p w N Later U i (settled p b)
  thread_now =
      let mine = own p w m events s actors i before C at in
      settles p w N Later U i b frame (actors i).stack refl mine.thread
      (record { thread = mine.fits.thread; variables = mine.fits.variables; bodies = open_bodies; some = omega arith }) contexts_placed debug current bodies runs ahead front

  -- ---- the step

  pub start_now_keeps : StepKeeps p w m events s actors i (making_next p w (actors i) C) (λ old. (making_moved p w (actors i) C old, making_outcome w (actors i) C old))
  start_now_keeps = (
    X,
    store_on p w m events s actors i before ThreadCurrent (task_address w t) refl,
    event_keeps p w m events s actors i before
        (op.Store (of_thread w (actors i).thread ThreadCurrent) (task_address w t)) X
        (settled p b, outcome.Event (event.StartNow t)) (event.StartNow t) U refl done
        (task_address w t, ap (λ j. op.Store (of_thread w j ThreadCurrent) (task_address w t)) (own p w m events s actors i before C at).thread)
        tt before.rule.within.regions
        (tasks_within p w m s (all_owed actors) i (actors i) t Maker Z ready New U refl refl refl)
        (none_new p w m events s actors i before C at (event.StartNow t) (made_item undeferred) rest U taken done (no_fork undeferred))
        (owed_after w N U actors i (settled p b) nothing ((settled_is_first p b frame (actors i).stack refl).owes (settled p b).context (settled p b).gathered.team) words)
        (λ j other. spares_threads m s i ThreadCurrent (task_address w t) j (actors j) (λ same. absurd (omega (arith, same))))
        thread_now,
  )
    where
      no_fork : (x : Bool) (g : ℕ) → made_item x ≡ item.Fork g → ⊥
      no_fork true g e = cc e
      no_fork false g e = cc e
