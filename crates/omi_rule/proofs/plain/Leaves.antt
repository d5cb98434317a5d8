-- The plain steps by which a task leaves the runtime, and sets the tool word.
use Rattle.std.proofs.Common.{◌≡◌, ℕ, zero, suc, List, [], ◌∷◌, ◌++◌, Option, Some, refl, sym, ap, ◌∙◌, subst, arith, eq-eqb}
use Rattle.omi_script.specs.declared.program.Program.{Program}
use Rattle.omi_script.specs.declared.statement.Stmt.{Stmt}
use Rattle.omi_script.specs.declared.statement.Stmt.TheVariants as stmt
use Rattle.omi_model.proofs.ListLaws.{takes_head}
use Rattle.omi_model.specs.declared.encounter.Encounter.{Encounter}
use Rattle.omi_model.specs.declared.event.Event.{Event}
use Rattle.omi_model.specs.declared.event.Event.TheVariants as event
use Rattle.omi_model.specs.declared.item.Item.{Item}
use Rattle.omi_model.specs.declared.item.Item.TheVariants as item
use Rattle.omi_model.specs.declared.task.Task.{Task}
use Rattle.omi_model.specs.Lists.{take_item}
use Rattle.omi_model.specs.Settings as Settings
use Rattle.omi_model.specs.State.{State}
use Rattle.omi_model.proofs.Steps.{at_current, relisted}
use Rattle.omi_layout.specs.declared.field.Field.TheVariants.{TaskEnter, TaskTool}
use Rattle.omi_layout.specs.Field.{tasks}
use Rattle.omi_layout.specs.Memory.{Memory, Rec, with_word_in}
use Rattle.omi_layout.specs.Named.{number}
use Rattle.omi_pc.specs.declared.actor.Actor.{Actor}
use Rattle.omi_pc.specs.declared.counter.Counter.TheVariants as counter
use Rattle.omi_pc.specs.declared.counter.PlainCounter.TheVariants as plain
use Rattle.omi_pc.specs.declared.frame.Frame.{Frame}
use Rattle.omi_pc.specs.declared.frame.Opened.TheVariants as bodies
use Rattle.omi_pc.specs.Frames.{statement_of}
use Rattle.omi_pc.specs.OpenBodies.{IsAt}
use Rattle.omi_pc.specs.Settle.{calling, settled}
use Rattle.omi_pc.proofs.Settled.{call_opens}
use Rattle.omi_plain.specs.PlainSteps.{past_leave, left_behind, plain_moved, plain_next, plain_outcome}
use Rattle.omi_plain.specs.Statements.{tool_in}
use Rattle.omi_plain.proofs.StayPlaced.{steps_stay_placed}
use Rattle.omi_rep.specs.declared.outcome.Outcome.TheVariants as outcome
use Rattle.omi_rep.specs.Codes.{HasCodes, task_code, task_told}
use Rattle.omi_rep.proofs.Codes.{same_word}
use Rattle.omi_rule_words.specs.TaskKinds.{IsOfTask}
use Rattle.omi_step_words.specs.Placed.{IsPlaced}
use Rattle.omi_rule.specs.Ahead.{ahead, behind_leave}
use Rattle.omi_rule.specs.Steps.{StepKeeps}
use Rattle.omi_rule.proofs.Assembly.{Before}
use Rattle.omi_rule.proofs.Settling.{in_work_is}
use Rattle.omi_rule.proofs.plain.Firsts.{IsFirst, plain_first, settled_first}
use Rattle.omi_rule.proofs.plain.OwnEvents.{GoesOn, body, fits_counter}
use Rattle.omi_rule.proofs.plain.Loads.{goes_on, on_ground, sees, settled_goes, was_first}
use Rattle.omi_rule.proofs.plain.TaskWords.{has_codes, middle, middle_current, now_current, own_task, task_event, task_on, task_word_at}

pub enter_of_task : IsOfTask TaskEnter
enter_of_task = record { life = λ e. absurd (omega (arith, e)); children = λ e. absurd (omega (arith, e)); references = λ e. absurd (omega (arith, e)); slots = λ e. absurd (omega (arith, e)) }

tool_of_task : IsOfTask TaskTool
tool_of_task = record { life = λ e. absurd (omega (arith, e)); children = λ e. absurd (omega (arith, e)); references = λ e. absurd (omega (arith, e)); slots = λ e. absurd (omega (arith, e)) }

-- ---- the record

-- an enter frame is stored
pub enter_stored : (w : List ℕ) (r : Rec) (t : Task) (word enter : ℕ) (zs : List Item) → word ≡ enter
    → HasCodes (task_code w (task_told t)) r
    → HasCodes (task_code w (task_told (record t { list = zs; enter = enter })))
    (with_word_in r (number TaskEnter) 0 word)
enter_stored w r t word enter zs is o TaskEnter zero x told = is ∙ same_word _ _ told
enter_stored w r t word enter zs is o TaskEnter (suc at) x told = absurd (cc)
enter_stored w r t word enter zs is o f at x told = o f at x told

-- a tool word is stored
tool_stored : (w : List ℕ) (r : Rec) (t : Task) (word : ℕ) (zs : List Item)
    → HasCodes (task_code w (task_told t)) r
    → HasCodes (task_code w (task_told (record t { list = zs; tool = word })))
    (with_word_in r (number TaskTool) 0 word)
tool_stored w r t word zs o TaskTool zero x told = same_word _ _ told
tool_stored w r t word zs o TaskTool (suc at) x told = absurd (cc)
tool_stored w r t word zs o f at x told = o f at x told

module _ (p : Program) (w : List ℕ) (m : Memory) (events : List (ℕ × Event)) (s : State) (actors : ℕ → Actor)
    (i : ℕ) (before : Before p w m events s actors i) where
  abbrev a : Actor
  a = actors i

  -- ---- leave

  module _ (at_counter : (actors i).counter ≡ counter.Plain plain.Leave) where
    abbrev at : Encounter
    at = sees p w m events s actors i before plain.Leave at_counter

    abbrev Goes : Stmt → Type 0
    Goes x = GoesOn p w i at a (left_behind p (Some x) a) (behind_leave p x (ahead p at a.stack))

    settles : IsPlaced w (settled p a) → GoesOn p w i at a (settled p a) (ahead p at a.stack)
    settles placed = settled_goes p w m events s actors i before plain.Leave at_counter tt placed

    -- the body of a critical construct begins, and any other statement is over
    leaves_by : (x : Stmt) → IsAt p a.stack x → IsPlaced w (left_behind p (Some x) a) → Goes x
    leaves_by (stmt.Critical l f) is placed =
        let o = (before.rule.threads i before.known).fits in
        goes_on p w m events s actors i before plain.Leave at_counter (calling f (bodies.Critical l) a) _
        (record { thread = refl; context = refl; gathered = refl })
        (record {
          thread = o.thread;
          variables = o.variables;
          bodies = call_opens p a.context a.stack (stmt.Critical l f) f (bodies.Critical l) o.bodies is refl is refl;
          counter = (refl, refl);
        })
        placed (λ called. on_ground p w m events s actors i before plain.Leave at_counter)
        (plain_first plain.Call tt)
        (λ P laws all.
        let (g, gs, stack, rest) = body p w m events s actors i before plain.Leave at_counter in
        subst
        (λ (y : List Frame). P a.context (record { function = f; next = 0; opened = bodies.Critical l } ∷ y))
        (sym stack)
        (laws.calls a.context f (bodies.Critical l) g gs refl (subst (λ (y : List Frame). P a.context y) stack all)))
        refl
    leaves_by x is placed = settles placed

    left_first : (x : Stmt) → IsFirst (left_behind p (Some x) a).counter
    left_first (stmt.Critical l f) = plain_first plain.Call tt
    left_first x = settled_first p a (was_first p w m events s actors i before plain.Leave at_counter tt)

    pub leave_keeps : StepKeeps p w m events s actors i (plain_next p w (actors i) plain.Leave) (λ old. (plain_moved p (actors i) plain.Leave old, plain_outcome p w (actors i) plain.Leave old))
    leave_keeps =
        let own = before.rule.threads i before.known in
        let (x, is, enters) = fits_counter p w m events s actors i before plain.Leave at_counter in
        let zs : List Item = behind_leave p x (ahead p at a.stack) in
        let t : Task = (own_task p w m events s actors i before plain.Leave at_counter).task in
        let placed : IsPlaced w (past_leave p a) =
        steps_stay_placed p w a plain.Leave 0 own.placed at_counter in
        let goes : GoesOn p w i at a (past_leave p a) zs =
        subst (λ (o : Option Stmt). GoesOn p w i at a (left_behind p o a) zs) (sym is)
        (leaves_by x is (subst (λ (o : Option Stmt). IsPlaced w (left_behind p o a)) is placed)) in
        let first : IsFirst (past_leave p a).counter = subst (λ (o : Option Stmt). IsFirst (left_behind p o a).counter) (sym is) (left_first x) in (
          task_word_at p w m events s actors i before plain.Leave at_counter TaskEnter,
          task_on p w m events s actors i before plain.Leave at_counter TaskEnter 0 refl,
          task_event p w m events s actors i before plain.Leave at_counter zs TaskEnter 0
              (λ u. record u { enter = 0 }) refl enter_of_task
              (λ v. record { implicit = refl; region = refl; thread = refl; number = refl; scheduling = refl; exit = refl; final = refl; progress = refl; groups = refl })
              (λ v. (refl, refl))
              (record { implicit = refl; region = refl; thread = refl; generating = refl; progress = refl; place = refl; group = refl; open_groups = refl })
              (enter_stored w (m (actors i).context.task.0.creator tasks (actors i).context.task.0.slot) t 0 0 zs refl (has_codes p w m events s actors i before plain.Leave at_counter))
              (past_leave p a) (outcome.Event event.Leave) event.Leave item.Leave refl (λ q. q)
              (λ n e. absurd (cc e))
              (ap (take_item p at event.Leave) (in_work_is p a.stack x (λ y. item.Leave ∷ behind_leave p y (ahead p at a.stack)) is))
              (a.context.task, t, now_current p w m events s actors i before plain.Leave at_counter, tt) refl
              (at_current (middle p w m events s actors i before plain.Leave at_counter zs) i a.context.task (relisted zs t) (Settings.left (middle p w m events s actors i before plain.Leave at_counter zs)) (middle_current p w m events s actors i before plain.Leave at_counter zs))
              (a.context.task, t, now_current p w m events s actors i before plain.Leave at_counter, (0, refl)) goes (first.ended (events ++ (i, event.Leave) ∷ []) i),
        )

  -- ---- the tool word

  pub tool_keeps : (actors i).counter ≡ counter.Plain plain.Tool
      → StepKeeps p w m events s actors i (plain_next p w (actors i) plain.Tool)
      (λ old. (plain_moved p (actors i) plain.Tool old, plain_outcome p w (actors i) plain.Tool old))
  tool_keeps at_counter =
      let own = before.rule.threads i before.known in
      let at : Encounter = sees p w m events s actors i before plain.Tool at_counter in
      let (x, is) = fits_counter p w m events s actors i before plain.Tool at_counter in
      let zs : List Item = ahead p at a.stack in
      let t : Task = (own_task p w m events s actors i before plain.Tool at_counter).task in
      let word : ℕ = tool_in (statement_of p a.stack) in
      let word_is : word ≡ x = ap tool_in is in
      let first = settled_first p a (was_first p w m events s actors i before plain.Tool at_counter tt) in
      let z : State = middle p w m events s actors i before plain.Tool at_counter zs in (
        task_word_at p w m events s actors i before plain.Tool at_counter TaskTool,
        task_on p w m events s actors i before plain.Tool at_counter TaskTool word refl,
        task_event p w m events s actors i before plain.Tool at_counter zs TaskTool word
            (λ u. record u { tool = word }) refl tool_of_task
            (λ v. record { implicit = refl; region = refl; thread = refl; number = refl; scheduling = refl; exit = refl; final = refl; progress = refl; groups = refl })
            (λ v. (refl, refl))
            (record { implicit = refl; region = refl; thread = refl; generating = refl; progress = refl; place = refl; group = refl; open_groups = refl })
            (tool_stored w (m (actors i).context.task.0.creator tasks (actors i).context.task.0.slot) t word zs (has_codes p w m events s actors i before plain.Tool at_counter))
            (settled p a) (outcome.Event (event.SetTool word)) (event.SetTool word) (item.SetTool x) refl
            (λ q. q) (λ n e. absurd (cc e))
            (ap (take_item p at (event.SetTool word)) (in_work_is p a.stack (stmt.Tool x) (λ y. item.Do y ∷ ahead p at a.stack) is)
            ∙ takes_head p at (event.SetTool word) (item.Do (stmt.Tool x)) zs (item.SetTool x) zs refl (eq-eqb word x word_is))
            (a.context.task, t, now_current p w m events s actors i before plain.Tool at_counter, tt) refl
            (at_current z i a.context.task (relisted zs t) (λ n u. Settings.with_tool z word n) (middle_current p w m events s actors i before plain.Tool at_counter zs))
            (a.context.task, t, now_current p w m events s actors i before plain.Tool at_counter, (word, refl))
            (settled_goes p w m events s actors i before plain.Tool at_counter tt (steps_stay_placed p w a plain.Tool 0 own.placed at_counter))
            (first.ended (events ++ (i, event.SetTool word) ∷ []) i),
      )
