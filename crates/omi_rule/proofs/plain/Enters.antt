-- The plain step by which a task enters the runtime: what comes next is by the statement in work.
use Rattle.std.proofs.Common.{◌≡◌, ◌+◌, ◌==◌, ◌||◌, ℕ, Bool, true, false, List, [], ◌∷◌, ◌++◌, Option, Some, None, refl, sym, ap, ◌∙◌, subst, arith, if◌then◌else◌}
use Rattle.omi_script.specs.declared.program.Program.{Program}
use Rattle.omi_script.specs.declared.statement.Stmt.{Stmt}
use Rattle.omi_script.specs.declared.statement.Stmt.TheVariants as stmt
use Rattle.omi_model.specs.declared.encounter.Encounter.{Encounter}
use Rattle.omi_model.specs.declared.event.Event.{Event}
use Rattle.omi_model.specs.declared.event.Event.TheVariants as event
use Rattle.omi_model.specs.declared.id.Tid.{Tid}
use Rattle.omi_model.specs.declared.item.Item.{Item}
use Rattle.omi_model.specs.declared.item.Item.TheVariants as item
use Rattle.omi_model.specs.declared.task.Task.{Task}
use Rattle.omi_model.specs.Changes.{encounter_by, on_task}
use Rattle.omi_model.specs.LawOrder.{AreBarriersInOrder, HasNoBarrier}
use Rattle.omi_model.specs.Lists.{take_item}
use Rattle.omi_numbers.specs.declared.states.TheConstants.{OVERHEAD, WAIT_BARRIER_EXPLICIT, WAIT_CRITICAL, WAIT_TASKGROUP, WAIT_TASKWAIT}
use Rattle.omi_numbers.specs.Addresses.{exit_frame, enter_frame}
use Rattle.omi_model.specs.Opening.{opening}
use Rattle.omi_model.specs.Reached.{Reached, Step}
use Rattle.omi_model.specs.Rows as Rows
use Rattle.omi_model.specs.Rows.{behind, call_items}
use Rattle.omi_model.specs.Settings as Settings
use Rattle.omi_model.specs.State.{State}
use Rattle.omi_model.proofs.members.ListOrder.{barriers_ordered}
use Rattle.omi_model.proofs.ReachedStates.{leads_on}
use Rattle.omi_model.proofs.Steps.{at_current, relisted}
use Rattle.omi_model.specs.declared.freeable.Freeable.{Freeable}
use Rattle.omi_layout.specs.declared.field.Field.TheVariants.{TaskEnter}
use Rattle.omi_layout.specs.Field.{tasks}
use Rattle.omi_layout.specs.Memory.{Memory}
use Rattle.omi_pc.specs.declared.actor.Actor.{Actor}
use Rattle.omi_pc.specs.declared.context.Context.{Context}
use Rattle.omi_pc.specs.declared.counter.Counter.{Counter}
use Rattle.omi_pc.specs.declared.counter.Counter.TheVariants as counter
use Rattle.omi_pc.specs.declared.counter.PlainCounter.TheVariants as plain
use Rattle.omi_pc.specs.declared.frame.Frame.{Frame}
use Rattle.omi_pc.specs.Fits.{Enters}
use Rattle.omi_pc.specs.OpenBodies.{IsAt}
use Rattle.omi_plain.specs.PlainSteps.{behind_enter, enter_word, past_enter, plain_moved, plain_next, plain_outcome, task_counter}
use Rattle.omi_plain.specs.StepLaws.{IsImplicitAtBarrier}
use Rattle.omi_plain.proofs.Fitting.{steps_fit}
use Rattle.omi_plain.proofs.StayPlaced.{steps_stay_placed}
use Rattle.omi_rule_words.specs.Owes.{nothing, owed_at}
use Rattle.omi_rep.specs.declared.outcome.Outcome.TheVariants as outcome
use Rattle.omi_rule.specs.Ahead.{IsAhead, ahead, behind_leave, entering_in, leaving, locking_in, lock_of, plain_ahead, task_item, wanting_in}
use Rattle.omi_rule.specs.Chains.{KeepsContext, IsPassable, IsFront}
use Rattle.omi_rule.specs.Rows.{KeepsRow}
use Rattle.omi_rule.specs.Rule.{HasEnded}
use Rattle.omi_rule.specs.Steps.{StepKeeps}
use Rattle.omi_rule.proofs.Assembly.{Before}
use Rattle.omi_rule.proofs.Settling.{in_work_is}
use Rattle.omi_rule.proofs.plain.Firsts.{IsFirst, plain_first}
use Rattle.omi_rule.proofs.plain.OwnEvents.{GoesOn, at_debug, fits_counter, steps}
use Rattle.omi_rule.proofs.plain.Loads.{goes_to_row, on_ground, sees}
use Rattle.omi_rule.proofs.plain.Leaves.{enter_of_task, enter_stored}
use Rattle.omi_rule.proofs.plain.TaskWords.{has_codes, middle, middle_current, now_current, own_task, task_event, task_on, task_word_at, twice}

-- ---- what is ahead behind the enter

module _ (p : Program) (at : Encounter) (fs : List Frame) where
  abbrev rest : List Item
  rest = ahead p at fs

  leaves : (x : Stmt) → IsAt p fs x → item.Leave ∷ behind_leave p x rest ≡ leaving p at fs
  leaves x is = sym (in_work_is p fs x (λ y. item.Leave ∷ behind_leave p y rest) is)

  -- a state in front, where states are kept
  abbrev with_state : Bool → ℕ → ℕ → List Item → List Item
  with_state b state word xs = if b then item.State state word ∷ xs else xs

  abbrev of_team : ℕ → Option ℕ → List Item → List Item
  of_team f num xs = item.Want num ∷ item.Asks ∷ item.Fork f ∷ Rows.working at xs

  abbrev of_wait : ℕ → Item → List Item → List Item
  of_wait state end xs = item.Tasks state ∷ end ∷ Rows.working at xs

  abbrev of_barrier : List Item → List Item
  of_barrier xs =
      item.Arrive ∷ item.Tasks WAIT_BARRIER_EXPLICIT ∷ (if at.number == 0 then item.Release ∷ item.Pass ∷ Rows.working at xs else item.Pass ∷ Rows.working at xs)

  abbrev of_lock : ℕ → List Item → List Item
  of_lock l xs = item.Lock l ∷ Rows.working at xs

  -- what is left of a construct behind its entry
  abbrev pub entered : Stmt → List Item
  entered (stmt.Taskgroup f) =
      with_state at.debug WAIT_TASKGROUP 0 (of_wait WAIT_TASKGROUP item.GroupEnd (item.Leave ∷ rest))
  entered x = behind p at x rest

  task_ahead : (f : ℕ) (undeferred given final : Bool) → at.is_final ≡ final
      → IsAt p fs (stmt.Task f undeferred given)
      → IsAhead p at fs (task_counter (undeferred || final)) (behind p at (stmt.Task f undeferred given) rest)
  task_ahead f undeferred given final is_final is =
      subst
      (λ (b : Bool). IsAhead p at fs (task_counter (undeferred || b)) (behind p at (stmt.Task f undeferred given) rest)) is_final
      (go (undeferred || at.is_final) refl)
    where
      start : Item
      start = item.StartNow f (given || at.is_final)

      deferred : ℕ → Item
      deferred n = item.Defer n f (given || at.is_final)

      go : (b : Bool) → undeferred || at.is_final ≡ b
          → IsAhead p at fs (task_counter b) (behind p at (stmt.Task f undeferred given) rest)
      go true e =
          ap (λ (b : Bool). (if b then start else deferred 0) ∷ item.Leave ∷ rest) e
          ∙ ap (λ (b : Bool). (if b then start else deferred 4) ∷ item.Leave ∷ rest) (sym e)
          ∙ ap (λ (xs : List Item). (if undeferred || at.is_final then start else deferred 4) ∷ xs)
          (leaves (stmt.Task f undeferred given) is)
          ∙ sym
          (in_work_is p fs (stmt.Task f undeferred given) (λ y. task_item at None y (leaving p at fs)) is)
      go false e =
          ap (λ (xs : List Item). (if undeferred || at.is_final then start else deferred 0) ∷ xs)
          (leaves (stmt.Task f undeferred given) is)
          ∙ sym
          (in_work_is p fs (stmt.Task f undeferred given) (λ y. task_item at (Some 0) y (leaving p at fs)) is)

  enter_ahead : (d : Bool) → at.debug ≡ d → (final : Bool) → at.is_final ≡ final → (x : Stmt) → IsAt p fs x
      → Enters x → IsAhead p at fs (behind_enter d final (Some x)) (entered x)
  enter_ahead true e final is_final (stmt.Parallel f num) is enters =
      ap (λ (b : Bool). with_state b OVERHEAD 0 (of_team f num (item.Leave ∷ rest))) e
      ∙ ap (λ (xs : List Item). item.State OVERHEAD 0 ∷ of_team f num xs) (leaves (stmt.Parallel f num) is)
      ∙ ap (λ (xs : List Item). item.State OVERHEAD 0 ∷ xs)
      (sym (in_work_is p fs (stmt.Parallel f num) (wanting_in p at fs) is))
  enter_ahead false e final is_final (stmt.Parallel f num) is enters =
      ap (λ (b : Bool). with_state b OVERHEAD 0 (of_team f num (item.Leave ∷ rest))) e
      ∙ ap (λ (xs : List Item). of_team f num xs) (leaves (stmt.Parallel f num) is)
      ∙ sym (in_work_is p fs (stmt.Parallel f num) (wanting_in p at fs) is)
  enter_ahead d e final is_final (stmt.Task f undeferred given) is enters =
      task_ahead f undeferred given final is_final is
  enter_ahead true e final is_final stmt.Taskwait is enters =
      ap (λ (b : Bool). with_state b WAIT_TASKWAIT 0 (of_wait WAIT_TASKWAIT item.WaitDone (item.Leave ∷ rest))) e
      ∙ ap (λ (xs : List Item). item.State WAIT_TASKWAIT 0 ∷ of_wait WAIT_TASKWAIT item.WaitDone xs) (leaves stmt.Taskwait is)
  enter_ahead false e final is_final stmt.Taskwait is enters =
      ap (λ (b : Bool). with_state b WAIT_TASKWAIT 0 (of_wait WAIT_TASKWAIT item.WaitDone (item.Leave ∷ rest))) e
      ∙ ap (λ (xs : List Item). of_wait WAIT_TASKWAIT item.WaitDone xs) (leaves stmt.Taskwait is)
  enter_ahead d e final is_final stmt.Taskyield is enters =
      ap (λ (xs : List Item). item.OneTask ∷ item.Yield ∷ xs) (leaves stmt.Taskyield is)
  enter_ahead true e final is_final stmt.Barrier is enters =
      ap (λ (b : Bool). with_state b WAIT_BARRIER_EXPLICIT 0 (of_barrier (item.Leave ∷ rest))) e
      ∙ ap (λ (xs : List Item). item.State WAIT_BARRIER_EXPLICIT 0 ∷ of_barrier xs) (leaves stmt.Barrier is)
  enter_ahead false e final is_final stmt.Barrier is enters =
      ap (λ (b : Bool). with_state b WAIT_BARRIER_EXPLICIT 0 (of_barrier (item.Leave ∷ rest))) e
      ∙ ap (λ (xs : List Item). of_barrier xs) (leaves stmt.Barrier is)
  enter_ahead true e final is_final (stmt.Critical l f) is enters =
      ap
      (λ (b : Bool). with_state b WAIT_CRITICAL (l + 1) (of_lock l (item.Leave ∷ item.Call f ∷ call_items p f (item.Unlock l ∷ rest)))) e
      ∙ ap (λ (xs : List Item). item.State WAIT_CRITICAL (l + 1) ∷ of_lock l xs)
      (leaves (stmt.Critical l f) is)
      ∙ sym
      (in_work_is p fs (stmt.Critical l f) (λ y. item.State WAIT_CRITICAL (lock_of y + 1) ∷ locking_in p at fs y) is)
  enter_ahead false e final is_final (stmt.Critical l f) is enters =
      ap
      (λ (b : Bool). with_state b WAIT_CRITICAL (l + 1) (of_lock l (item.Leave ∷ item.Call f ∷ call_items p f (item.Unlock l ∷ rest)))) e
      ∙ ap (λ (xs : List Item). of_lock l xs) (leaves (stmt.Critical l f) is)
      ∙ sym (in_work_is p fs (stmt.Critical l f) (locking_in p at fs) is)
  enter_ahead true e final is_final (stmt.Taskgroup f) is enters =
      ap (λ (b : Bool). with_state b WAIT_TASKGROUP 0 (of_wait WAIT_TASKGROUP item.GroupEnd (item.Leave ∷ rest))) e
      ∙ ap (λ (xs : List Item). item.State WAIT_TASKGROUP 0 ∷ of_wait WAIT_TASKGROUP item.GroupEnd xs)
      (leaves (stmt.Taskgroup f) is)
  enter_ahead false e final is_final (stmt.Taskgroup f) is enters =
      ap (λ (b : Bool). with_state b WAIT_TASKGROUP 0 (of_wait WAIT_TASKGROUP item.GroupEnd (item.Leave ∷ rest))) e
      ∙ ap (λ (xs : List Item). of_wait WAIT_TASKGROUP item.GroupEnd xs) (leaves (stmt.Taskgroup f) is)
  enter_ahead d e final is_final _ is enters = absurd enters

  -- its entry is next: at its begin, and of a taskgroup region at its end
  enter_next : (x : Stmt) → Enters x
      → take_item p at event.Enter (entering_in p at fs x) ≡ Some (item.Enter, entered x)
  enter_next (stmt.Parallel f num) enters = refl
  enter_next (stmt.Task f undeferred given) enters = refl
  enter_next stmt.Taskwait enters = refl
  enter_next stmt.Taskyield enters = refl
  enter_next stmt.Barrier enters = refl
  enter_next (stmt.Critical l f) enters = refl
  enter_next (stmt.Taskgroup f) enters = refl
  enter_next _ enters = absurd enters

-- ---- the counter

-- a thread owes nothing at a counter behind the entry, and its registers are right there, whatever state its task is in
record IsEntered (p : Program) (a : Actor) (x : Counter) : Type 0 where
  owes : (c : Context) (members : List (Tid × ℕ)) → owed_at c members x ≡ nothing
  row : (w : List ℕ) (m : Memory) (s : State) (i : ℕ) → KeepsContext s i a.context → KeepsRow p w m s i a x
  ended : (events : List (ℕ × Event)) (i : ℕ) → HasEnded events i x
  front : (o : Option Freeable) → IsPassable o → IsFront x o

entered_first : (p : Program) (a : Actor) (x : Counter) → IsFirst x → IsEntered p a x
entered_first p a x first = record { owes = first.owes; row = λ w m s i o. first.row p w m s i a; ended = first.ended; front = first.front }

-- the making of a task begins with a look at the first slot where it may be deferred
task_entered : (p : Program) (a : Actor) (f : ℕ) (undeferred given : Bool)
    → IsAt p a.stack (stmt.Task f undeferred given) → (b final : Bool) → undeferred ≡ b
    → a.context.is_final ≡ final → IsEntered p a (task_counter (b || final))
task_entered p a f undeferred given is true final e q = record { owes = λ c ms. refl; row = λ w m s i o. (tt, (o.task, o.live, λ j below. absurd (omega (arith, below)))); ended = λ events i. tt; front = λ o may. may }
task_entered p a f undeferred given is false true e q = record { owes = λ c ms. refl; row = λ w m s i o. (tt, (o.task, o.live, λ j below. absurd (omega (arith, below)))); ended = λ events i. tt; front = λ o may. may }
task_entered p a f undeferred given is false false e q = record { owes = λ c ms. refl; row = λ w m s i o. (f, given, subst (λ (b : Bool). IsAt p a.stack (stmt.Task f b given)) e is, q); ended = λ events i. tt; front = λ o may. may }

enter_first : (p : Program) (a : Actor) (d : Bool) (x : Stmt) → IsAt p a.stack x → Enters x
    → IsEntered p a (behind_enter d a.context.is_final (Some x))
enter_first p a true (stmt.Parallel f num) is enters =
    entered_first p a _ (record { owes = λ c ms. refl; row = λ q w m s i b. tt; ended = λ events i. tt; front = λ o may. may })
enter_first p a false (stmt.Parallel f num) is enters =
    entered_first p a _ (record { owes = λ c ms. refl; row = λ q w m s i b. tt; ended = λ events i. tt; front = λ o may. may })
enter_first p a d (stmt.Task f undeferred given) is enters =
    task_entered p a f undeferred given is undeferred a.context.is_final refl refl
enter_first p a true stmt.Taskwait is enters =
    entered_first p a _ (record { owes = λ c ms. refl; row = λ q w m s i b. tt; ended = λ events i. tt; front = λ o may. may })
enter_first p a false stmt.Taskwait is enters =
    entered_first p a _ (record { owes = λ c ms. refl; row = λ q w m s i b. tt; ended = λ events i. tt; front = λ o may. may })
enter_first p a true (stmt.Taskgroup f) is enters =
    entered_first p a _ (record { owes = λ c ms. refl; row = λ q w m s i b. tt; ended = λ events i. tt; front = λ o may. may })
enter_first p a false (stmt.Taskgroup f) is enters =
    entered_first p a _ (record { owes = λ c ms. refl; row = λ q w m s i b. tt; ended = λ events i. tt; front = λ o may. may })
enter_first p a d stmt.Taskyield is enters =
    entered_first p a _ (record { owes = λ c ms. refl; row = λ q w m s i b. tt; ended = λ events i. tt; front = λ o may. may })
enter_first p a true stmt.Barrier is enters =
    entered_first p a _ (record { owes = λ c ms. refl; row = λ q w m s i b. tt; ended = λ events i. tt; front = λ o may. may })
enter_first p a false stmt.Barrier is enters =
    entered_first p a _ (record { owes = λ c ms. refl; row = λ q w m s i b. tt; ended = λ events i. tt; front = λ o may. may })
enter_first p a true (stmt.Critical l f) is enters = entered_first p a _ (plain_first plain.LockState tt)
enter_first p a false (stmt.Critical l f) is enters = entered_first p a _ (plain_first plain.Lock tt)
enter_first p a d _ is enters = absurd enters

-- ---- the step

module _ (p : Program) (w : List ℕ) (m : Memory) (events : List (ℕ × Event)) (s : State) (actors : ℕ → Actor)
    (i : ℕ) (before : Before p w m events s actors i)
    (at_counter : (actors i).counter ≡ counter.Plain plain.Enter) where
  abbrev a : Actor
  a = actors i

  abbrev k : Tid
  k = (actors i).context.task

  abbrev at : Encounter
  at = sees p w m events s actors i before plain.Enter at_counter

  abbrev t : Task
  t = (own_task p w m events s actors i before plain.Enter at_counter).task

  abbrev zs : Stmt → List Item
  zs x = entered p at a.stack x

  -- the task shows its enter frame
  abbrev shown : Task → Task
  shown u = record u { enter = enter_frame t.exit }

  abbrev after_enter : Stmt → State
  after_enter x = on_task (middle p w m events s actors i before plain.Enter at_counter (zs x)) k shown

  takes : (x : Stmt) → IsAt p a.stack x → Enters x
      → take_item p at event.Enter (plain_ahead p at a.stack plain.Enter) ≡ Some (item.Enter, zs x)
  takes x is enters =
      ap (take_item p at event.Enter) (in_work_is p a.stack x (entering_in p at a.stack) is)
      ∙ enter_next p at a.stack x enters

  enter_step : (x : Stmt) → IsAt p a.stack x → Enters x → Step p s i event.Enter (after_enter x)
  enter_step x is enters =
      let z : State = middle p w m events s actors i before plain.Enter at_counter (zs x) in
      steps p w m events s actors i before plain.Enter at_counter event.Enter item.Enter (zs x)
      (after_enter x) (takes x is enters)
      (k, t, now_current p w m events s actors i before plain.Enter at_counter, tt) refl
      (at_current z i k (relisted (zs x) t) (Settings.entered z) (middle_current p w m events s actors i before plain.Enter at_counter (zs x)))

  -- no explicit task is at a barrier: it would have an arrival ahead once it has entered
  implicit_at_barrier : IsImplicitAtBarrier p a
  implicit_at_barrier is = go a.context.implicit refl
    where
      reached : Reached p (events ++ (i, event.Enter) ∷ []) (after_enter stmt.Barrier)
      reached =
          leads_on p (opening p) events s (i, event.Enter) (after_enter stmt.Barrier) before.rule.reached
          (enter_step stmt.Barrier is tt)

      has_one : (b : Bool) (xs : List Item)
          → HasNoBarrier (if b then item.State WAIT_BARRIER_EXPLICIT 0 ∷ item.Arrive ∷ xs else item.Arrive ∷ xs)
          → ⊥
      has_one true xs none = none
      has_one false xs none = none

      go : (b : Bool) → a.context.implicit ≡ b → a.context.implicit ≡ true
      go true e = e
      go false e =
          let order : AreBarriersInOrder (shown (relisted (zs stmt.Barrier) t)) =
          barriers_ordered p (events ++ (i, event.Enter) ∷ []) (after_enter stmt.Barrier) reached k
          (shown (relisted (zs stmt.Barrier) t))
          (twice p w m events s actors i before plain.Enter at_counter (zs stmt.Barrier) shown t (own_task p w m events s actors i before plain.Enter at_counter).live) in
          absurd
          (has_one at.debug _ (order.explicit ((own_task p w m events s actors i before plain.Enter at_counter).implicit ∙ e)))

  enter_goes : (x : Stmt) → IsAt p a.stack x → Enters x → GoesOn p w i at a (past_enter p a) (zs x)
  enter_goes x is enters =
      let own = before.rule.threads i before.known in
      let o = own_task p w m events s actors i before plain.Enter at_counter in
      let final : at.is_final ≡ a.context.is_final =
      ap (λ (q : Option Task). (encounter_by s q).is_final) o.live ∙ o.final in
      let first : IsEntered p (past_enter p a) (past_enter p a).counter =
      subst
      (λ (q : Option Stmt). IsEntered p (past_enter p a) (behind_enter p.env.debug a.context.is_final q))
      (sym is) (enter_first p (past_enter p a) p.env.debug x is enters) in
      goes_to_row p w m events s actors i before plain.Enter at_counter (past_enter p a) (zs x)
      (record { thread = refl; context = refl; gathered = refl })
      (steps_fit p a plain.Enter 0 own.fits at_counter implicit_at_barrier tt)
      (steps_stay_placed p w a plain.Enter 0 own.placed at_counter)
      (on_ground p w m events s actors i before plain.Enter at_counter)
      (first.owes a.context a.gathered.team) (λ n u o. first.row w n u i o)
      (λ P laws all. all)
      (subst (λ (q : Option Stmt). IsAhead p at a.stack (behind_enter p.env.debug a.context.is_final q) (zs x)) (sym is)
      (enter_ahead p at a.stack p.env.debug (at_debug p w m events s actors i before plain.Enter at_counter) a.context.is_final final x is enters))
      first.front

  pub enter_keeps : StepKeeps p w m events s actors i (plain_next p w (actors i) plain.Enter) (λ old. (plain_moved p (actors i) plain.Enter old, plain_outcome p w (actors i) plain.Enter old))
  enter_keeps =
      let own = before.rule.threads i before.known in
      let o = own_task p w m events s actors i before plain.Enter at_counter in
      let (x, is, enters) = fits_counter p w m events s actors i before plain.Enter at_counter in
      let word : ℕ = enter_word a in
      let word_is : word ≡ enter_frame t.exit =
      ap enter_frame (ap (λ j. exit_frame j a.context.depth) own.thread ∙ sym o.exit) in
      let z : State = middle p w m events s actors i before plain.Enter at_counter (zs x) in
      let first : IsEntered p (past_enter p a) (past_enter p a).counter = subst (λ (q : Option Stmt). IsEntered p (past_enter p a) (behind_enter p.env.debug a.context.is_final q)) (sym is) (enter_first p (past_enter p a) p.env.debug x is enters) in (
        task_word_at p w m events s actors i before plain.Enter at_counter TaskEnter,
        task_on p w m events s actors i before plain.Enter at_counter TaskEnter word refl,
        task_event p w m events s actors i before plain.Enter at_counter
            (zs x) TaskEnter word shown refl enter_of_task
            (λ v. record { implicit = refl; region = refl; thread = refl; number = refl; scheduling = refl; exit = refl; final = refl; progress = refl; groups = refl })
            (λ v. (refl, refl))
            (record { implicit = refl; region = refl; thread = refl; generating = refl; progress = refl; place = refl; group = refl; open_groups = refl })
            (enter_stored w (m (actors i).context.task.0.creator tasks (actors i).context.task.0.slot) t word (enter_frame t.exit) (zs x) word_is (has_codes p w m events s actors i before plain.Enter at_counter))
            (past_enter p a) (outcome.Event event.Enter) event.Enter item.Enter refl (λ q. q)
            (λ n e. absurd (cc e)) (takes x is enters)
            (k, t, now_current p w m events s actors i before plain.Enter at_counter, tt) refl
            (at_current z i k (relisted (zs x) t) (Settings.entered z) (middle_current p w m events s actors i before plain.Enter at_counter (zs x)))
            (k, t, now_current p w m events s actors i before plain.Enter at_counter, (word, refl))
            (enter_goes x is enters)
            (first.ended (events ++ (i, event.Enter) ∷ []) i),
      )
