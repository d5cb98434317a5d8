-- The loads of a `task` construct: the data environment of the task that makes another, and its group where it has none open.
use Rattle.std.proofs.Common.{◌≡◌, ◌+◌, ◌<◌, nat_lt, ℕ, Bool, true, false, List, length, slice_set, Option, Some, None, refl, sym, ap, ◌∙◌, subst, arith, ltb-true, lt-ltb, eq-eqb, ◌==◌, if◌then◌else◌}
use Rattle.std.proofs.lemmas.List.{length-set}
use Rattle.std.proofs.lemmas.Bool.Decides.{nat_tests}
use Rattle.omi_word.specs.declared.op.Op.TheVariants as op
use Rattle.omi_script.specs.declared.program.Program.{Program}
use Rattle.omi_model.specs.declared.event.Event.{Event}
use Rattle.omi_model.specs.declared.id.Id.{Id}
use Rattle.omi_model.specs.declared.task.Task.{Task}
use Rattle.omi_model.specs.State.{State}
use Rattle.omi_model.proofs.Slots.{some_same}
use Rattle.omi_layout.specs.Field.{tasks}
use Rattle.omi_layout.specs.Memory.{Memory}
use Rattle.omi_layout.specs.Named.{number}
use Rattle.omi_layout.proofs.Arenas.{some_tasks}
use Rattle.omi_layout.specs.declared.field.Field.TheVariants.{TaskSlots}
use Rattle.omi_layout.specs.declared.limits.TheConstants.{GROUP_PLACE}
use Rattle.omi_layout.specs.Table.{width}
use Rattle.omi_layout.proofs.SlotWords.{group_word_within}
use Rattle.omi_pc.specs.declared.actor.Actor.{Actor}
use Rattle.omi_pc.specs.declared.counter.Counter.TheVariants as counter
use Rattle.omi_pc.specs.declared.gathered.Gathered.{Gathered}
use Rattle.omi_pc.specs.declared.limits.TheConstants.{VARIABLE_WORDS}
use Rattle.omi_pc.specs.declared.task_counter.TaskCounter.{TaskCounter}
use Rattle.omi_pc.specs.declared.task_counter.TaskCounter.TheVariants as task
use Rattle.omi_rep.specs.declared.outcome.Outcome.TheVariants as outcome
use Rattle.omi_rep.specs.Codes.{group_code, task_told}
use Rattle.omi_rep.specs.Records.{group_word}
use Rattle.omi_step_words.specs.Moving.{to_task, with_loaded_variable}
use Rattle.omi_step_words.specs.Plan.{of_variable, variable_at}
use Rattle.omi_step_words.specs.Words.{of_groups}
use Rattle.omi_task.specs.MakingSteps.{making_moved, making_next, making_outcome, behind_variables}
use Rattle.omi_rule.specs.Rows.{HasPlace, IsVariable, KnowsVariables, HasEnvironment}
use Rattle.omi_rule.specs.Steps.{KeepsRule, RecordWord, StepKeeps, found_in}
use Rattle.omi_rule.proofs.Assembly.{Before, load_stays}
use Rattle.omi_rule.proofs.task.Within.{context, context_placed, fits, going, goes_on, own, owes, row, task_record}
use Rattle.omi_rule.proofs.team.Loads.{variable_field, variable_is, variable_word, variables_more}

-- the slot into which the task goes stays empty where the thread goes on within its construct
pub place_goes : (p : Program) (m : Memory) (a : Actor) (d : TaskCounter) (g : Gathered) (place : Option ℕ)
    → HasPlace p m a place → HasPlace p m (going d g a) place
place_goes p m a d g None o = tt
place_goes p m a d g (Some k) o = o

module _ (p : Program) (w : List ℕ) (m : Memory) (events : List (ℕ × Event)) (s : State) (actors : ℕ → Actor)
    (i : ℕ) (before : Before p w m events s actors i) (place : Option ℕ) (word : ℕ)
    (at : (actors i).counter ≡ counter.Task (task.LoadVariable place word)) where
  abbrev C : TaskCounter
  C = task.LoadVariable place word

  abbrev Name : Id
  Name = (actors i).context.task.0

  abbrev X : RecordWord
  X = record { creator = (actors i).context.task.0.creator; slot = (actors i).context.task.0.slot; field = (variable_at word).0; place = (variable_at word).1 }

  abbrev Then : Gathered
  Then =
      record (actors i).gathered { variables = slice_set (actors i).gathered.variables word (found_in m X) }

  below : word < VARIABLE_WORDS
  below = (fits p w m events s actors i before C at).1

  whole : length (actors i).gathered.variables ≡ VARIABLE_WORDS
  whole = (own p w m events s actors i before C at).fits.variables

  variables : length Then.variables ≡ VARIABLE_WORDS
  variables = length-set (actors i).gathered.variables word (found_in m X) ∙ whole

  -- one word more is known
  known : (d : TaskCounter) → KnowsVariables s (going d Then (actors i)) (word + 1)
  known d =
      let (empty, (t, live, are)) = row p w m events s actors i before C at in
      let o = context p w m events s actors i before C at in
      let same : o.task ≡ t = some_same o.live live in
      let found : found_in m X ≡ m Name.creator tasks Name.slot (number (variable_at word).0) (variable_at word).1 =
      ap (λ kind. m Name.creator kind Name.slot (number (variable_at word).0) (variable_at word).1)
      (variable_field word below) in
      let here : IsVariable t.variables word (found_in m X) =
      subst (IsVariable t.variables word) (sym found)
      (subst (λ (v : Task). IsVariable v.variables word (m Name.creator tasks Name.slot (number (variable_at word).0) (variable_at word).1)) same
      (variable_is w (m Name.creator tasks Name.slot) o.task word below (task_record p w m events s actors i before C at))) in
      (t, live, variables_more t (actors i).gathered.variables word (found_in m X) whole below are here)

  pub variable_keeps : StepKeeps p w m events s actors i (making_next p w (actors i) C) (λ old. (making_moved p w (actors i) C old, making_outcome w (actors i) C old))
  variable_keeps = (
    X,
    record { there = variable_word w Name word below (context_placed p w m events s actors i before C at).task; address = refl },
    go (nat_lt (word + 1) VARIABLE_WORDS) refl,
  )
    where
      go : (b : Bool) → nat_lt (word + 1) VARIABLE_WORDS ≡ b
          → KeepsRule p w m events s actors i (op.Load (of_variable w Name word)) X (to_task (if b then task.LoadVariable place (word + 1) else behind_variables (actors i).context.open_groups place) (with_loaded_variable word (found_in m X) (actors i)), outcome.Quiet)
      go true e =
          let d : TaskCounter = task.LoadVariable place (word + 1) in
          load_stays p w m events s actors i before (of_variable w Name word) X (going d Then (actors i))
          (sym (owes p w m events s actors i before C at))
          (goes_on p w m events s actors i before C at m d Then variables refl
          ((fits p w m events s actors i before C at).0, ltb-true (word + 1) VARIABLE_WORDS e) tt
          (place_goes p m (actors i) d Then place (row p w m events s actors i before C at).0, known d))
      go false e = behind ((actors i).context.open_groups == 0) refl
        where
          all : word + 1 ≡ VARIABLE_WORDS
          all = grind (arith, nat_tests, below)

          loaded : (d : TaskCounter) → HasEnvironment p m s (going d Then (actors i)) place
          loaded d =
              (place_goes p m (actors i) d Then place (row p w m events s actors i before C at).0, subst (KnowsVariables s (going d Then (actors i))) all (known d))

          behind : (b : Bool) → (actors i).context.open_groups == 0 ≡ b
              → KeepsRule p w m events s actors i (op.Load (of_variable w Name word)) X (to_task (if b then task.LoadGroup place else task.LoadLife place 0) (with_loaded_variable word (found_in m X) (actors i)), outcome.Quiet)
          behind true none =
              let d : TaskCounter = task.LoadGroup place in
              load_stays p w m events s actors i before (of_variable w Name word) X (going d Then (actors i))
              (sym (owes p w m events s actors i before C at))
              (goes_on p w m events s actors i before C at m d Then variables refl (fits p w m events s actors i before C at).0 tt (loaded d))
          behind false some =
              let d : TaskCounter = task.LoadLife place 0 in
              let o = context p w m events s actors i before C at in
              load_stays p w m events s actors i before (of_variable w Name word) X (going d Then (actors i))
              (sym (owes p w m events s actors i before C at))
              (goes_on p w m events s actors i before C at m d Then variables refl
              (fits p w m events s actors i before C at).0 (some_tasks w before.valid)
              (loaded d, (o.task, o.live, λ none. absurd (cc (eq-eqb (actors i).context.open_groups 0 none, some)))))

-- the group of the current task
module _ (p : Program) (w : List ℕ) (m : Memory) (events : List (ℕ × Event)) (s : State) (actors : ℕ → Actor)
    (i : ℕ) (before : Before p w m events s actors i) (place : Option ℕ)
    (at : (actors i).counter ≡ counter.Task (task.LoadGroup place)) where
  abbrev loading_group : TaskCounter
  loading_group = task.LoadGroup place

  abbrev on_group : RecordWord
  on_group = record { creator = (actors i).context.task.0.creator; slot = (actors i).context.task.0.slot; field = TaskSlots; place = GROUP_PLACE }

  abbrev Loaded : Gathered
  Loaded = record (actors i).gathered { group = found_in m on_group }

  inside : GROUP_PLACE < width w (number TaskSlots)
  inside = group_word_within w GROUP_PLACE before.suits.groups (omega arith)

  -- it stands in the record of the task
  group_is : found_in m on_group ≡ group_word w (context p w m events s actors i before loading_group at).task.group
  group_is =
      task_record p w m events s actors i before loading_group at TaskSlots GROUP_PLACE
      (group_word w (context p w m events s actors i before loading_group at).task.group) refl
      (ap
      (λ (b : Bool). if b then group_code w (task_told (context p w m events s actors i before loading_group at).task) GROUP_PLACE else None)
      (lt-ltb GROUP_PLACE (width w (number TaskSlots)) inside))

  pub group_keeps : StepKeeps p w m events s actors i (making_next p w (actors i) loading_group) (λ old. (making_moved p w (actors i) loading_group old, making_outcome w (actors i) loading_group old))
  group_keeps =
      let o = context p w m events s actors i before loading_group at in
      let d : TaskCounter = task.LoadLife place 0 in (
        on_group,
        record { there = record { field = record { from = omega arith; to = omega arith }; record_slot = (context_placed p w m events s actors i before loading_group at).task; within = inside }; address = refl },
        load_stays p w m events s actors i before (of_groups w (actors i).context.task GROUP_PLACE) on_group (going d Loaded (actors i))
            (sym (owes p w m events s actors i before loading_group at))
            (goes_on p w m events s actors i before loading_group at m d Loaded (own p w m events s actors i before loading_group at).fits.variables refl
            (fits p w m events s actors i before loading_group at) (some_tasks w before.valid)
            ((place_goes p m (actors i) d Loaded place (row p w m events s actors i before loading_group at).0, (row p w m events s actors i before loading_group at).1), (o.task, o.live, λ _. group_is))),
      )
