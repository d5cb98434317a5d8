-- A step of a thread within a `task` construct: no event, the same bodies open, and the same ahead of the task.
use Rattle.std.proofs.Common.{◌≡◌, ◌<◌, ◌≤◌, ℕ, List, ◌∷◌, length, sym, ap, ◌∙◌, subst, arith}
use Rattle.omi_script.specs.declared.program.Program.{Program}
use Rattle.omi_model.specs.declared.encounter.Encounter.{Encounter}
use Rattle.omi_model.specs.declared.event.Event.{Event}
use Rattle.omi_model.specs.declared.task.Task.{Task}
use Rattle.omi_model.specs.State.{State}
use Rattle.omi_model.specs.Visible.{IsVisibleTask}
use Rattle.omi_model.proofs.ReachedWellFormed.{reached_well_formed}
use Rattle.omi_model.proofs.Slots.{some_same}
use Rattle.omi_layout.specs.Field.{tasks}
use Rattle.omi_layout.specs.Memory.{Memory}
use Rattle.omi_layout.specs.Table.{thread_count}
use Rattle.omi_pc.specs.declared.actor.Actor.{Actor}
use Rattle.omi_pc.specs.declared.counter.Counter.{Counter}
use Rattle.omi_pc.specs.declared.counter.Counter.TheVariants as counter
use Rattle.omi_pc.specs.declared.frame.Frame.{Frame}
use Rattle.omi_pc.specs.declared.gathered.Gathered.{Gathered}
use Rattle.omi_pc.specs.declared.limits.TheConstants.{VARIABLE_WORDS}
use Rattle.omi_pc.specs.declared.task_counter.TaskCounter.{TaskCounter}
use Rattle.omi_pc.specs.Fits.{FitsCounter, FitsTask}
use Rattle.omi_rule_words.specs.ExplicitKinds.{IsRow}
use Rattle.omi_rule_words.specs.Objects.{KeepsEnvironment}
use Rattle.omi_rule_words.specs.Owes.{by_task, owed, owed_at}
use Rattle.omi_step_words.specs.Placed.{AreContextsPlaced, IsContextPlaced, IsPlacedCounter, IsPlacedTask}
use Rattle.omi_rule.specs.Ahead.{IsAhead, task_ahead}
use Rattle.omi_rule.specs.Chains.{KeepsContext, StandsInTask, encounter_of, IsFront}
use Rattle.omi_rule.specs.Rows.{KeepsRow, KeepsTaskRow}
use Rattle.omi_rule.specs.Rule.{KeepsThread}
use Rattle.omi_rule.proofs.Assembly.{Before}
use Rattle.omi_rule.proofs.KeptObjects.{task_kept}
use Rattle.omi_rule.proofs.OwnRow.{own_row}
use Rattle.omi_rule.proofs.OwnTask.{in_task, own_ahead, top}
use Rattle.omi_rule.proofs.SameBodies.{same_bodies}

-- at another counter of the construct, with this gathered
abbrev pub going : TaskCounter → Gathered → Actor → Actor
going d g a = record a { counter = counter.Task d; gathered = g }

module _ (p : Program) (w : List ℕ) (m : Memory) (events : List (ℕ × Event)) (s : State) (actors : ℕ → Actor)
    (i : ℕ) (before : Before p w m events s actors i) (c : TaskCounter)
    (at : (actors i).counter ≡ counter.Task c) where
  pub own : KeepsThread p w m events s i (actors i)
  own = before.rule.threads i before.known

  pub fits : FitsTask p (actors i) c
  fits = subst (λ (x : Counter). FitsCounter p (actors i) x) at own.fits.counter

  pub placed : IsPlacedTask w c
  placed = subst (λ (x : Counter). IsPlacedCounter w (actors i) x) at own.placed.counter

  pub row : KeepsTaskRow p w m s i (actors i) c
  row = subst (λ (x : Counter). KeepsRow p w m s i (actors i) x) at own.row

  pub owes : owed (actors i) ≡ by_task (actors i).context c
  owes = ap (owed_at (actors i).context (actors i).gathered.team) at

  pub standing : (f : Frame) × (fs : List Frame) × ((actors i).stack ≡ f ∷ fs) × StandsInTask p s i (actors i)
  standing = in_task p s i (actors i) (λ d e. absurd (cc (sym at, e))) own.stands

  abbrev pub stands : StandsInTask p s i (actors i)
  stands = standing.3

  -- the context of the current task
  abbrev pub context : KeepsContext s i (actors i).context
  context = top p s i (actors i) stands

  abbrev pub At : Encounter
  At = encounter_of s (actors i).context

  pub list_is : context.task.list ≡ task_ahead p (encounter_of s (actors i).context) (actors i).stack c
  list_is =
      subst
      (λ (x : Counter). IsAhead p (encounter_of s (actors i).context) (actors i).stack x context.task.list) at
      (own_ahead p s i (actors i) stands)

  pub context_placed : IsContextPlaced w (actors i).context
  context_placed =
      let (f, fs, stack, o) = standing in (subst (AreContextsPlaced w (actors i).context) stack own.placed.bodies).0

  -- the implicit task on whose slots this thread defers
  pub own_slots : IsRow s i (actors i).context.row context.task
  own_slots = own_row p events s before.rule.reached i (actors i).context context

  -- the environment in the record of the current task
  pub task_record : KeepsEnvironment w (m (actors i).context.task.0.creator tasks (actors i).context.task.0.slot) context.task
  task_record =
      (task_kept p w m events s actors before.rule (actors i).context.task context.task context.live).environment

  -- the thread is one of the layout
  pub thread_there : (actors i).thread < thread_count w
  thread_there =
      let known = before.known in let count = before.rule.within.count in let same = own.thread in omega (arith, same, known, count)

  -- ---- the thread

  pub goes_on : (n : Memory) (d : TaskCounter) (g : Gathered) → length g.variables ≡ VARIABLE_WORDS
      → task_ahead p (encounter_of s (actors i).context) (actors i).stack d ≡ task_ahead p (encounter_of s (actors i).context) (actors i).stack c
      → FitsTask p (going d g (actors i)) d → IsPlacedTask w d → KeepsTaskRow p w n s i (going d g (actors i)) d
      → KeepsThread p w n events s i (going d g (actors i))
  goes_on n d g variables same fits_there placed_there row_there =
      let (f, fs, stack, o) = standing in
      same_bodies p w m events s i (actors i) own f fs stack o n
      (counter.Task d) g variables fits_there placed_there
      (λ t live. subst (λ (x : Counter). IsAhead p (encounter_of s (actors i).context) (actors i).stack x t.list) at (o.ahead t live) ∙ sym same)
      (λ t live. subst (λ (x : Counter). IsFront x t.frees) at (o.front t live)) row_there tt

  -- ---- the task that makes another

  -- its nthreads-var has at most four elements
  pub task_few : length (context.task).variables.nthreads ≤ 4
  task_few =
      let formed = reached_well_formed p events s before.rule.reached in
      let seen : IsVisibleTask s (actors i).context.task =
      formed.currents i (actors i).context.task before.known stands.current in
      let same : seen.task ≡ context.task = some_same seen.live context.live in
      subst (λ (t : Task). length t.variables.nthreads ≤ 4) same
      (formed.tasks (actors i).context.task seen).variables.few
