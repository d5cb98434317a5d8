-- A step of a thread within a parallel construct: no event, the same bodies open, and the same ahead of the task.
use Rattle.std.proofs.Common.{◌≡◌, ℕ, List, ◌∷◌, length, sym, ap, ◌∙◌, subst, ◌≤◌}
use Rattle.omi_rule.proofs.KeptObjects.{region_kept, task_kept}
use Rattle.omi_model.specs.WellFormed.{AreInRange}
use Rattle.omi_model.specs.declared.task.Task.{Task}
use Rattle.omi_script.specs.declared.program.Program.{Program}
use Rattle.omi_model.specs.declared.event.Event.{Event}
use Rattle.omi_model.specs.State.{State}
use Rattle.omi_model.specs.Visible.{IsVisibleTask}
use Rattle.omi_model.proofs.ReachedWellFormed.{reached_well_formed}
use Rattle.omi_model.proofs.Slots.{some_same}
use Rattle.omi_layout.specs.Field.{regions, tasks}
use Rattle.omi_layout.specs.Memory.{Memory}
use Rattle.omi_layout.specs.Place.{IsSlot}
use Rattle.omi_pc.specs.declared.actor.Actor.{Actor}
use Rattle.omi_pc.specs.declared.counter.Counter.{Counter}
use Rattle.omi_pc.specs.declared.counter.Counter.TheVariants as counter
use Rattle.omi_pc.specs.declared.frame.Frame.{Frame}
use Rattle.omi_pc.specs.declared.gathered.Gathered.{Gathered}
use Rattle.omi_pc.specs.declared.limits.TheConstants.{VARIABLE_WORDS}
use Rattle.omi_pc.specs.declared.team_counter.TeamCounter.{TeamCounter}
use Rattle.omi_pc.specs.Fits.{FitsCounter, FitsTeam}
use Rattle.omi_rule_words.specs.Objects.{KeepsEnvironment, KeepsRegion}
use Rattle.omi_rule_words.specs.Owes.{all_owed, by_team, owed, owed_at}
use Rattle.omi_step_words.specs.Placed.{AreContextsPlaced, IsContextPlaced, IsPlacedCounter, IsPlacedTeam}
use Rattle.omi_rule.specs.Ahead.{IsAhead, team_ahead}
use Rattle.omi_rule.specs.Chains.{KeepsContext, StandsInTask, encounter_of, IsFront}
use Rattle.omi_rule.specs.Rows.{KeepsRow, KeepsTeamRow}
use Rattle.omi_rule.specs.Rule.{KeepsThread}
use Rattle.omi_rule.proofs.Assembly.{Before}
use Rattle.omi_rule.proofs.OwnTask.{in_task, top}
use Rattle.omi_rule.proofs.SameBodies.{same_bodies}

-- at another counter of the construct, with this gathered
abbrev pub going : TeamCounter → Gathered → Actor → Actor
going d g a = record a { counter = counter.Team d; gathered = g }

module _ (p : Program) (w : List ℕ) (m : Memory) (events : List (ℕ × Event)) (s : State) (actors : ℕ → Actor)
    (i : ℕ) (before : Before p w m events s actors i) (c : TeamCounter)
    (at : (actors i).counter ≡ counter.Team c) where
  abbrev a : Actor
  a = actors i

  pub own : KeepsThread p w m events s i (actors i)
  own = before.rule.threads i before.known

  pub fits : FitsTeam p (actors i) c
  fits = subst (λ (x : Counter). FitsCounter p (actors i) x) at own.fits.counter

  pub placed : IsPlacedTeam w (actors i) c
  placed = subst (λ (x : Counter). IsPlacedCounter w (actors i) x) at own.placed.counter

  pub row : KeepsTeamRow p w m s i (actors i) c
  row = subst (λ (x : Counter). KeepsRow p w m s i (actors i) x) at own.row

  pub owes : owed (actors i) ≡ by_team (actors i).gathered.team c
  owes = ap (owed_at (actors i).context (actors i).gathered.team) at

  pub standing : (f : Frame) × (fs : List Frame) × ((actors i).stack ≡ f ∷ fs) × StandsInTask p s i (actors i)
  standing = in_task p s i (actors i) (λ d e. absurd (cc (sym at, e))) own.stands

  -- the context of the current task
  pub context : KeepsContext s i (actors i).context
  context = let (f, fs, stack, o) = standing in top p s i (actors i) o

  pub context_placed : IsContextPlaced w (actors i).context
  context_placed =
      let (f, fs, stack, o) = standing in (subst (AreContextsPlaced w (actors i).context) stack own.placed.bodies).0

  -- its nthreads-var has one to four elements
  variables_in_range : AreInRange context.task.variables
  variables_in_range =
      let (f, fs, stack, o) = standing in
      let formed = reached_well_formed p events s before.rule.reached in
      let seen : IsVisibleTask s (actors i).context.task =
      formed.currents i (actors i).context.task before.known o.current in
      let same : seen.task ≡ context.task = some_same seen.live context.live in
      subst (λ (t : Task). AreInRange t.variables) same (formed.tasks (actors i).context.task seen).variables

  pub task_in_range : 1 ≤ length context.task.variables.nthreads
  task_in_range = variables_in_range.some

  pub task_few : length context.task.variables.nthreads ≤ 4
  task_few = variables_in_range.few

  -- ---- the thread

  pub goes_on : (n : Memory) (d : TeamCounter) (g : Gathered) → length g.variables ≡ VARIABLE_WORDS
      → team_ahead p (encounter_of s (actors i).context) (actors i).stack d ≡ team_ahead p (encounter_of s (actors i).context) (actors i).stack c
      → FitsTeam p (going d g (actors i)) d → IsPlacedTeam w (going d g (actors i)) d → KeepsTeamRow p w n s i (going d g (actors i)) d
      → KeepsThread p w n events s i (going d g (actors i))
  goes_on n d g variables same fits_there placed_there row_there =
      let (f, fs, stack, o) = standing in
      same_bodies p w m events s i (actors i) own f fs stack o n
      (counter.Team d) g variables fits_there placed_there
      (λ t live. subst (λ (x : Counter). IsAhead p (encounter_of s (actors i).context) (actors i).stack x t.list) at (o.ahead t live) ∙ sym same)
      (λ t live. subst (λ (x : Counter). IsFront x t.frees) at (o.front t live)) row_there tt

  -- ---- records

  -- the record of the current region
  pub region_slot : IsSlot w regions (actors i).context.region.0.creator (actors i).context.region.0.slot
  region_slot = context_placed.region

  pub region_record : KeepsRegion w s (all_owed actors) (actors i).context.region (m (actors i).context.region.0.creator regions (actors i).context.region.0.slot) context.region
  region_record =
      region_kept p w m events s actors before.rule (actors i).context.region context.region context.found

  pub task_slot : IsSlot w tasks (actors i).context.task.0.creator (actors i).context.task.0.slot
  task_slot = context_placed.task

  -- the environment in the record of the current task
  pub task_record : KeepsEnvironment w (m (actors i).context.task.0.creator tasks (actors i).context.task.0.slot) context.task
  task_record =
      (task_kept p w m events s actors before.rule (actors i).context.task context.task context.live).environment
