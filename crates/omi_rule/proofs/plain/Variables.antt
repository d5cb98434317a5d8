-- The plain step that sets an internal control variable: one of the current task's data environment, or that of the whole program.
use Rattle.std.proofs.Common.{◌≡◌, ◌+◌, ◌*◌, ◌/◌, ◌%◌, ◌==◌, ◌&&◌, ℕ, zero, suc, inl, inr, Bool, true, false, not, List, [], ◌∷◌, ◌++◌, length, slice_get, Option, Some, refl, sym, ap, ◌∙◌, subst, arith, eq-eqb, ne_eqb, if◌then◌else◌}
use Rattle.std.specs.Option.{option_and_then, option_map}
use Rattle.omi_word.specs.declared.op.Op.TheVariants as op
use Rattle.omi_script.specs.declared.program.Program.{Program}
use Rattle.omi_script.specs.declared.statement.Stmt.{Stmt}
use Rattle.omi_script.specs.declared.statement.Stmt.TheVariants as stmt
use Rattle.omi_model.proofs.ListLaws.{takes_head}
use Rattle.omi_model.specs.declared.encounter.Encounter.{Encounter}
use Rattle.omi_model.specs.declared.event.Event.{Event}
use Rattle.omi_model.specs.declared.event.Event.TheVariants as event
use Rattle.omi_model.specs.declared.id.Tid.{Tid}
use Rattle.omi_model.specs.declared.item.Item.{Item}
use Rattle.omi_model.specs.declared.item.Item.TheVariants as item
use Rattle.omi_model.specs.declared.task.Task.{Task}
use Rattle.omi_model.specs.declared.task.Variables.{Variables}
use Rattle.omi_model.specs.Changes.{on_task}
use Rattle.omi_model.specs.Lists.{opened, take_item}
use Rattle.omi_numbers.specs.declared.variables.TheConstants.{DEFAULT_DEVICE_VAR, DYN_VAR, MAX_ACTIVE_LEVELS_VAR, NTHREADS_VAR, RUN_SCHED_VAR}
use Rattle.omi_numbers.specs.Words.{flag}
use Rattle.omi_script.specs.Schedules.{schedule_word}
use Rattle.omi_model.specs.Settings.{with_head, with_set, with_task_variable, with_variable, with_variable_of}
use Rattle.omi_model.specs.State.{State, task_of}
use Rattle.omi_layout.specs.declared.field.Field.{Field}
use Rattle.omi_layout.specs.declared.field.Field.TheVariants.{RuntimeMaxActive, TaskDevice, TaskDynamic, TaskNthreads, TaskNthreadsLength, TaskSchedule}
use Rattle.omi_layout.specs.Field.{kind_of, runtime, tasks}
use Rattle.omi_layout.specs.Memory.{Memory, Rec, with_word_in}
use Rattle.omi_layout.specs.Named.{number}
use Rattle.omi_layout.proofs.Numbers.{numbered_field}
use Rattle.omi_pc.specs.declared.actor.Actor.{Actor}
use Rattle.omi_pc.specs.declared.counter.Counter.TheVariants as counter
use Rattle.omi_pc.specs.declared.counter.PlainCounter.TheVariants as plain
use Rattle.omi_pc.specs.Fits.{Sets}
use Rattle.omi_pc.specs.OpenBodies.{IsAt}
use Rattle.omi_pc.specs.Settle.{settled}
use Rattle.omi_plain.specs.PlainSteps.{plain_moved, plain_next, plain_outcome, set_outcome}
use Rattle.omi_plain.specs.Statements.{set_address, set_word}
use Rattle.omi_plain.proofs.StayPlaced.{steps_stay_placed}
use Rattle.omi_rep.specs.declared.outcome.Outcome.TheVariants as outcome
use Rattle.omi_rep.specs.Codes.{HasCodes, task_code, task_told}
use Rattle.omi_rep.proofs.Codes.{same_word}
use Rattle.omi_rule_words.specs.TaskKinds.{IsOfTask, with_runtime}
use Rattle.omi_rule_words.specs.Threads.{KeepsRuntime}
use Rattle.omi_step_words.specs.Words.{of_runtime, of_task}
use Rattle.omi_rule.specs.Ahead.{ahead, plain_ahead}
use Rattle.omi_rule.specs.Commits.{IsVariableField}
use Rattle.omi_rule.specs.Steps.{StepKeeps}
use Rattle.omi_rule.proofs.Assembly.{Before}
use Rattle.omi_rule.proofs.Settling.{in_work_is}
use Rattle.omi_rule.proofs.plain.Firsts.{IsFirst, settled_first}
use Rattle.omi_rule.proofs.plain.OwnEvents.{GoesOn, fits_counter}
use Rattle.omi_rule.proofs.plain.Loads.{sees, settled_goes, was_first}
use Rattle.omi_rule.proofs.plain.Locks.{runtime_event}
use Rattle.omi_rule.proofs.plain.TaskWords.{has_codes, middle, middle_current, middle_words, now_current, own_task, task_event, task_on, task_word_at}

-- ---- the record

-- a schedule is read back from its word
schedule_back : (word : ℕ) → word ≡ word / 8 * 8 + word % 8
schedule_back word = omega arith

flag_back : (b : Bool) → flag b ≡ flag (not (flag b == 0))
flag_back true = refl
flag_back false = refl

head_length : (n : ℕ) (xs : List ℕ) → length (with_head n xs) ≡ length xs
head_length n [] = refl
head_length n (x ∷ xs) = refl

-- the first element is another
head_kept : (r : ℕ → ℕ) (n : ℕ) (xs : List ℕ) → ((j d : ℕ) → slice_get xs j ≡ Some d → r j ≡ d) → (j d : ℕ)
    → slice_get (with_head n xs) j ≡ Some d → (if j == 0 then n else r j) ≡ d
head_kept r n [] all j d e = absurd (cc e)
head_kept r n (x ∷ xs) all zero d e = cc e
head_kept r n (x ∷ xs) all (suc j) d e =
    ap (λ (b : Bool). if b then n else r (suc j)) (ne_eqb (suc j) 0 (λ same. omega (arith, same)))
    ∙ all (suc j) d e

abbrev with_variables : Task → List Item → Variables → Task
with_variables t zs v = record t { list = zs; variables = v }

module _ (w : List ℕ) (r : Rec) (t : Task) (zs : List Item) (o : HasCodes (task_code w (task_told t)) r) where
  -- the record in which the first word of a field is another has the codes of a task with these variables
  abbrev Stored : Field → ℕ → Variables → Type 0
  Stored f x v = HasCodes (task_code w (task_told (with_variables t zs v))) (with_word_in r (number f) 0 x)

  dynamic_kept : (b : Bool) → Stored TaskDynamic (flag b) (record t.variables { dynamic = not (flag b == 0) })
  dynamic_kept b TaskDynamic zero word is = flag_back b ∙ same_word _ _ is
  dynamic_kept b TaskDynamic (suc at) word is = absurd (cc)
  dynamic_kept b f at word is = o f at word is

  schedule_kept : (x : ℕ) → Stored TaskSchedule x (record t.variables { schedule = record { kind = x % 8; chunk = x / 8 } })
  schedule_kept x TaskSchedule zero word is = schedule_back x ∙ same_word _ _ is
  schedule_kept x TaskSchedule (suc at) word is = absurd (cc)
  schedule_kept x f at word is = o f at word is

  device_kept : (x : ℕ) → Stored TaskDevice x (record t.variables { device = x })
  device_kept x TaskDevice zero word is = same_word _ _ is
  device_kept x TaskDevice (suc at) word is = absurd (cc)
  device_kept x f at word is = o f at word is

  nthreads_kept : (x : ℕ)
      → Stored TaskNthreads x (record t.variables { nthreads = with_head x t.variables.nthreads })
  nthreads_kept x TaskNthreadsLength zero word is =
      o TaskNthreadsLength 0 _ refl ∙ sym (head_length x t.variables.nthreads) ∙ same_word _ _ is
  nthreads_kept x TaskNthreads at word is =
      head_kept (r (number TaskNthreads)) x t.variables.nthreads (o TaskNthreads) at word is
  nthreads_kept x f at word is = o f at word is

module _ (p : Program) (w : List ℕ) (m : Memory) (events : List (ℕ × Event)) (s : State) (actors : ℕ → Actor)
    (i : ℕ) (before : Before p w m events s actors i)
    (at_counter : (actors i).counter ≡ counter.Plain plain.Set) where
  abbrev a : Actor
  a = actors i

  abbrev k : Tid
  k = (actors i).context.task

  abbrev at : Encounter
  at = sees p w m events s actors i before plain.Set at_counter

  abbrev rest : List Item
  rest = ahead p at a.stack

  abbrev z : State
  z = middle p w m events s actors i before plain.Set at_counter rest

  abbrev t : Task
  t = (own_task p w m events s actors i before plain.Set at_counter).task

  goes : GoesOn p w i at a (settled p a) rest
  goes =
      settled_goes p w m events s actors i before plain.Set at_counter tt
      (steps_stay_placed p w a plain.Set 0 (before.rule.threads i before.known).placed at_counter)

  first : IsFirst (settled p a).counter
  first = settled_first p a (was_first p w m events s actors i before plain.Set at_counter tt)

  -- the event takes the item of the statement in work
  set_takes : (x : Stmt) (icv value : ℕ) → IsAt p a.stack x
      → opened p at (item.Do x) rest ≡ (item.Set icv value, rest)
      → take_item p at (event.Set icv value) (plain_ahead p at a.stack plain.Set) ≡ Some (item.Set icv value, rest)
  set_takes x icv value is row =
      ap (take_item p at (event.Set icv value)) (in_work_is p a.stack x (λ y. item.Do y ∷ rest) is)
      ∙ takes_head p at (event.Set icv value) (item.Do x) rest (item.Set icv value) rest row
      (ap (λ (b : Bool). b && (value == value)) (eq-eqb icv icv refl) ∙ eq-eqb value value refl)

  -- a variable of the current task
  set_effect : (icv value : ℕ) (v : Variables) → with_variable icv value t.variables ≡ Some v
      → with_task_variable z i icv value ≡ Some (on_task z k (λ u. record u { variables = v }))
  set_effect icv value v is =
      let current = middle_current p w m events s actors i before plain.Set at_counter rest in
      ap
      (option_and_then (λ (n : Tid). option_and_then (with_variable_of z icv value n) (task_of z n))) current.name
      ∙ ap (option_and_then (with_variable_of z icv value k)) current.live
      ∙ ap (option_map (λ (q : Variables). on_task z k (λ u. record u { variables = q }))) is

  abbrev own_record : Rec
  own_record = m (actors i).context.task.0.creator tasks (actors i).context.task.0.slot

  variable_event : (x : Stmt) (f : Field) (icv value : ℕ) (v : Variables) → IsAt p a.stack x
      → opened p at (item.Do x) rest ≡ (item.Set icv value, rest) → kind_of (number f) ≡ tasks → IsOfTask f
      → with_variable icv value t.variables ≡ Some v → with_set z i icv value ≡ with_task_variable z i icv value
      → HasCodes (task_code w (task_told (with_variables t rest v))) (with_word_in own_record (number f) 0 value) → IsVariableField icv f
      → StepKeeps p w m events s actors i (op.Store (of_task w k f) value)
      (λ old. (settled p a, outcome.Event (event.Set icv value)))
  variable_event x f icv value v is row kind of set is_task codes field = (
    task_word_at p w m events s actors i before plain.Set at_counter f,
    task_on p w m events s actors i before plain.Set at_counter f value kind,
    task_event p w m events s actors i before plain.Set at_counter rest f value
        (λ u. record u { variables = v }) kind of
        (λ q. record { implicit = refl; region = refl; thread = refl; number = refl; scheduling = refl; exit = refl; final = refl; progress = refl; groups = refl })
        (λ q. (refl, refl))
        (record { implicit = refl; region = refl; thread = refl; generating = refl; progress = refl; place = refl; group = refl; open_groups = refl }) codes
        (settled p a) (outcome.Event (event.Set icv value)) (event.Set icv value) (item.Set icv value) refl
        (λ q. q) (λ n e. absurd (cc e))
        (set_takes x icv value is row)
        (k, t, now_current p w m events s actors i before plain.Set at_counter, tt) refl
        (is_task ∙ set_effect icv value v set)
        (inr (f, field, (k, t, now_current p w m events s actors i before plain.Set at_counter, (value, refl)))) goes (first.ended (events ++ (i, event.Set icv value) ∷ []) i),
  )

  -- the variable of the whole program
  max_active_stored : (n : ℕ) → KeepsRuntime w (m 0 runtime 0) z
      → KeepsRuntime w (with_word_in (m 0 runtime 0) (number RuntimeMaxActive) 0 n) (with_runtime z n z.locks)
  max_active_stored n o RuntimeMaxActive zero word told = same_word _ _ told
  max_active_stored n o RuntimeMaxActive (suc at) word told = absurd (cc)
  max_active_stored n o f at word told = o f at word told

  max_active_event : (n : ℕ) → IsAt p a.stack (stmt.SetMaxActive n)
      → StepKeeps p w m events s actors i (op.Store (of_runtime w RuntimeMaxActive) n)
      (λ old. (settled p a, outcome.Event (event.Set MAX_ACTIVE_LEVELS_VAR n)))
  max_active_event n is =
      let o = (middle_words p w m events s actors i before plain.Set at_counter rest).runtime_record in (
        record { creator = 0; slot = 0; field = RuntimeMaxActive; place = 0 },
        record { there = record { field = numbered_field RuntimeMaxActive; record_slot = record { made_by = omega arith; within = omega arith }; within = omega arith }; address = refl },
        runtime_event p w m events s actors i before plain.Set at_counter rest
            (op.Store (of_runtime w RuntimeMaxActive) n) RuntimeMaxActive 0 n n z.locks refl
            (max_active_stored n o)
            (settled p a) (outcome.Event (event.Set MAX_ACTIVE_LEVELS_VAR n))
            (event.Set MAX_ACTIVE_LEVELS_VAR n) (item.Set MAX_ACTIVE_LEVELS_VAR n) refl (λ q. q)
            (λ q e. absurd (cc e))
            (set_takes (stmt.SetMaxActive n) MAX_ACTIVE_LEVELS_VAR n is refl)
            (k, t, now_current p w m events s actors i before plain.Set at_counter, tt) refl refl
            (inl (refl, (n, refl))) goes (first.ended (events ++ (i, event.Set MAX_ACTIVE_LEVELS_VAR n) ∷ []) i),
      )

  codes : HasCodes (task_code w (task_told t)) own_record
  codes = has_codes p w m events s actors i before plain.Set at_counter

  sets_by : (x : Stmt) → IsAt p a.stack x → Sets x
      → StepKeeps p w m events s actors i (op.Store (set_address w a (Some x)) (set_word (Some x))) (λ old. (settled p a, set_outcome (Some x)))
  sets_by (stmt.SetNumThreads n) is sets =
      variable_event (stmt.SetNumThreads n) TaskNthreads NTHREADS_VAR n _ is refl refl
      (record { life = λ e. absurd (omega (arith, e)); children = λ e. absurd (omega (arith, e)); references = λ e. absurd (omega (arith, e)); slots = λ e. absurd (omega (arith, e)) })
      refl refl (nthreads_kept w own_record t rest codes n) refl
  sets_by (stmt.SetDynamic b) is sets =
      variable_event (stmt.SetDynamic b) TaskDynamic DYN_VAR (flag b) _ is refl refl
      (record { life = λ e. absurd (omega (arith, e)); children = λ e. absurd (omega (arith, e)); references = λ e. absurd (omega (arith, e)); slots = λ e. absurd (omega (arith, e)) })
      refl refl (dynamic_kept w own_record t rest codes b) refl
  sets_by (stmt.SetSchedule x) is sets =
      variable_event (stmt.SetSchedule x) TaskSchedule RUN_SCHED_VAR (schedule_word x) _ is refl refl
      (record { life = λ e. absurd (omega (arith, e)); children = λ e. absurd (omega (arith, e)); references = λ e. absurd (omega (arith, e)); slots = λ e. absurd (omega (arith, e)) })
      refl refl (schedule_kept w own_record t rest codes (schedule_word x)) refl
  sets_by (stmt.SetDevice d) is sets =
      variable_event (stmt.SetDevice d) TaskDevice DEFAULT_DEVICE_VAR d _ is refl refl
      (record { life = λ e. absurd (omega (arith, e)); children = λ e. absurd (omega (arith, e)); references = λ e. absurd (omega (arith, e)); slots = λ e. absurd (omega (arith, e)) })
      refl refl (device_kept w own_record t rest codes d) refl
  sets_by (stmt.SetMaxActive n) is sets = max_active_event n is
  sets_by _ is sets = absurd sets

  pub set_keeps : StepKeeps p w m events s actors i (plain_next p w (actors i) plain.Set) (λ old. (plain_moved p (actors i) plain.Set old, plain_outcome p w (actors i) plain.Set old))
  set_keeps =
      let (x, is, sets) = fits_counter p w m events s actors i before plain.Set at_counter in
      subst
      (λ (o : Option Stmt). StepKeeps p w m events s actors i (op.Store (set_address w a o) (set_word o)) (λ old. (settled p a, set_outcome o)))
      (sym is) (sets_by x is sets)
