-- A `taskwait` construct ends once the children of its task have finished, and a `taskyield` construct behind its look.
use Rattle.std.proofs.Common.{◌≡◌, ◌==◌, ◌<◌, ◌⊎◌, inl, inr, ℕ, Bool, true, false, List, [], ◌∷◌, ◌++◌, Some, refl, sym, ap, ◌∙◌, subst, arith, eq-eqb, eqb-true, if◌then◌else◌}
use Rattle.omi_word.specs.declared.op.Op.TheVariants as op
use Rattle.omi_script.specs.declared.program.Program.{Program}
use Rattle.omi_script.specs.declared.statement.Stmt.TheVariants as stmt
use Rattle.omi_model.specs.declared.encounter.Encounter.{Encounter}
use Rattle.omi_model.specs.declared.event.Event.{Event}
use Rattle.omi_model.specs.declared.event.Event.TheVariants as event
use Rattle.omi_model.specs.declared.item.Item.{Item}
use Rattle.omi_model.specs.declared.item.Item.TheVariants as item
use Rattle.omi_model.specs.Changes.{IsCurrent}
use Rattle.omi_model.specs.Lists.{take_item}
use Rattle.omi_model.specs.Reached.{Step}
use Rattle.omi_model.specs.Rows.{work_state}
use Rattle.omi_model.specs.Rows as Rows
use Rattle.omi_model.specs.State.{State}
use Rattle.omi_layout.specs.declared.field.Field.TheVariants.{TaskChildren, ThreadNative}
use Rattle.omi_layout.specs.Field.{tasks}
use Rattle.omi_layout.specs.Memory.{Memory}
use Rattle.omi_layout.specs.Named.{number}
use Rattle.omi_layout.proofs.Numbers.{numbered_field}
use Rattle.omi_pc.specs.declared.actor.Actor.{Actor}
use Rattle.omi_pc.specs.declared.counter.Counter.{Counter}
use Rattle.omi_pc.specs.declared.counter.Counter.TheVariants as counter
use Rattle.omi_pc.specs.declared.counter.PlainCounter.TheVariants as plain
use Rattle.omi_pc.specs.declared.frame.Wait.TheVariants as wait
use Rattle.omi_pc.specs.declared.task_counter.LookCounter.TheVariants as look
use Rattle.omi_pc.specs.Fits.{slots_of}
use Rattle.omi_pc.specs.Moves.{worked, back_to_work}
use Rattle.omi_pc.specs.OpenBodies.{IsAt}
use Rattle.omi_rep.specs.declared.outcome.Outcome.TheVariants as outcome
use Rattle.omi_rule_words.specs.Owes.{all_owed}
use Rattle.omi_rule_words.specs.Words.{KeepsWords}
use Rattle.omi_rule_words.proofs.ChildrenFinished.{all_children_finished}
use Rattle.omi_step_words.specs.Moving.{to_look}
use Rattle.omi_step_words.specs.Words.{of_task, of_thread}
use Rattle.omi_task.specs.LookSteps.{look_moved, look_next, look_outcome}
use Rattle.omi_rule.specs.Ahead.{leaving}
use Rattle.omi_rule.specs.Ahead as Ahead
use Rattle.omi_rule.specs.Chains.{KeepsContext}
use Rattle.omi_rule.specs.Steps.{KeepsRule, RecordWord, StepKeeps}
use Rattle.omi_rule.specs.Waits.{Waits, children_next}
use Rattle.omi_rule.proofs.Assembly.{Before, of_load, spares_none}
use Rattle.omi_rule.proofs.OwnTask.{is_current}
use Rattle.omi_rule.proofs.RowsStay.{Spares}
use Rattle.omi_rule.proofs.barrier.AtCounter.{ahead_is, at_counter, body, context_placed, fits_counter, here, is_context, load_waits, sees, sees_debug, stands, wide, front_is}
use Rattle.omi_rule.proofs.barrier.Events.{IsReadyAt, event_leads_to, relisted_changes, relisted_state, relisted_words, steps}
use Rattle.omi_rule.proofs.barrier.Constructs.{at_construct}
use Rattle.omi_rule.proofs.plain.Loads.{native, native_on}

module _ (p : Program) (w : List ℕ) (m : Memory) (events : List (ℕ × Event)) (s : State) (actors : ℕ → Actor)
    (i : ℕ) (before : Before p w m events s actors i) where
  abbrev a : Actor
  a = actors i

  -- ---- taskwait

  module _ (at : (actors i).counter ≡ counter.Look look.LoadChildren) where
    abbrev standing : Counter
    standing = counter.Look look.LoadChildren

    abbrev At : Encounter
    At = sees p w m events s actors i before standing at tt

    abbrev mine : KeepsContext s i (actors i).context
    mine = here p w m events s actors i before standing at tt

    abbrev behind : List Item
    behind = Rows.working At (leaving p At a.stack)

    abbrev next : State
    next = relisted_state p w m events s actors i before standing at tt behind

    abbrev on_children : RecordWord
    on_children = record { creator = a.context.task.0.creator; slot = a.context.task.0.slot; field = TaskChildren; place = 0 }

    abbrev word : ℕ
    word = m a.context.task.0.creator tasks a.context.task.0.slot (number TaskChildren) 0

    abbrev load : ℕ
    load = of_task w a.context.task TaskChildren

    waits : IsAt p a.stack stmt.Taskwait
    waits = fits_counter p w m events s actors i before standing at tt

    list_is : mine.task.list ≡ Ahead.waiting p At a.stack wait.Taskwait
    list_is = ahead_is p w m events s actors i before standing at tt

    current : IsCurrent s i a.context.task mine.task
    current = is_current p s i a (stands p w m events s actors i before standing at tt)

    some_slot : 0 < slots_of a
    some_slot =
        let some = (is_context p w m events s actors i before standing at tt).size.0 in omega (arith, some)

    taken : take_item p At event.WaitDone mine.task.list ≡ Some (item.WaitDone, behind)
    taken = ap (λ xs. take_item p At event.WaitDone xs) list_is

    step : word ≡ 0 → Step p s i event.WaitDone next
    step none =
        steps p w m events s actors i before standing at tt event.WaitDone item.WaitDone behind next taken (
          a.context.task,
          mine.task,
          current,
          all_children_finished w m s (all_owed actors) a.context.task mine.task before.rule.words before.rule.within mine.live none,
        ) refl refl

    abbrev Goes : Actor → Type 0
    Goes b = KeepsRule p w m events s actors i (op.Load load) on_children (b, outcome.Event event.WaitDone)

    done : word ≡ 0 → (y : Counter)
        → ((n : Memory) → IsReadyAt p w n (events ++ (i, event.WaitDone) ∷ []) next i At a y behind)
        → Goes (at_counter y a)
    done none y ready =
        let same = of_load p w m events s actors i before load on_children in
        event_leads_to p w m events s actors i before standing at tt refl (op.Load load) on_children y
        (outcome.Event event.WaitDone) event.WaitDone item.WaitDone behind next refl (λ no_object. no_object)
        (λ f e. absurd (cc e)) taken (step none)
        (a.context.task, mine.task, current, refl)
        (subst (λ (n : Memory). KeepsWords w n next (all_owed actors)) (sym same) (relisted_words p w m events s actors i before standing at tt behind))
        (λ j other. subst (λ (n : Memory). Spares m n s j (actors j)) (sym same) (spares_none m s j (actors j)))
        (relisted_changes p w m events s actors i before standing at tt behind) refl (ready _)

    works : word ≡ 0 → (d : Bool) → p.env.debug ≡ d → (worked p a ≡ at_counter (counter.Plain plain.Leave) a)
        → Ahead.worked p At a.stack ≡ leaving p At a.stack
        → Goes (if d then at_counter (counter.Plain plain.WorkState) a else worked p a)
    works none true e leaves ahead =
        done none (counter.Plain plain.WorkState)
        (λ n. record { fits = inr (stmt.Taskwait, waits, tt); placed = tt; ahead = list_of true e ∙ ap (λ xs. item.State (work_state At.level) 0 ∷ xs) (sym ahead); front = tt; owes = refl; row = tt; ended = tt })
      where
        list_of : (d : Bool) → p.env.debug ≡ d
            → behind ≡ (if d then item.State (work_state At.level) 0 ∷ leaving p At a.stack else leaving p At a.stack)
        list_of d e =
            ap
            (λ (x : Bool). if x then item.State (work_state At.level) 0 ∷ leaving p At a.stack else leaving p At a.stack)
            (sees_debug p w m events s actors i before standing at tt ∙ e)
    works none false e leaves ahead =
        subst Goes (sym leaves)
        (done none (counter.Plain plain.Leave)
        (λ n. record { fits = (stmt.Taskwait, waits, tt); placed = tt; ahead = ap (λ (x : Bool). if x then item.State (work_state At.level) 0 ∷ leaving p At a.stack else leaving p At a.stack) (sees_debug p w m events s actors i before standing at tt ∙ e); front = tt; owes = refl; row = tt; ended = tt }))

    by_word : (d : Bool) → word == 0 ≡ d
        → KeepsRule p w m events s actors i (op.Load load) on_children (if d then back_to_work p a else to_look (look.LoadRow wait.Taskwait 0) a, if d then outcome.Event event.WaitDone else outcome.NotReady load word)
    by_word true none =
        let (f, fs, is, task) = body p w m events s actors i before standing at tt in
        let (leaves, ahead) = at_construct p a f fs stmt.Taskwait is waits in
        works (eqb-true word 0 none) p.env.debug refl leaves (ahead At)
    by_word false some =
        load_waits p w m events s actors i before standing at tt load on_children
        (counter.Look (look.LoadRow wait.Taskwait 0))
        (record { fits = ((waits, some_slot), refl); placed = tt; ahead = list_is; front = front_is p w m events s actors i before standing at tt; owes = refl; row = tt; ended = tt })
        (Waits.ForChildren (a.context.task, mine.task, current, (subst children_next (sym list_is) tt, refl, λ e. cc (sym some, eq-eqb word 0 e))))

    pub load_children_keeps : StepKeeps p w m events s actors i (look_next w (actors i) look.LoadChildren) (λ old. (look_moved p w (actors i) look.LoadChildren old, look_outcome w (actors i) look.LoadChildren old))
    load_children_keeps = (
      on_children,
      record { there = record { field = numbered_field TaskChildren; record_slot = (context_placed p w m events s actors i before standing at tt).task; within = wide p w m events s actors i before standing at tt (number TaskChildren) }; address = refl },
      by_word (word == 0) refl,
    )

  -- ---- taskyield

  module _ (n : ℕ) (at : (actors i).counter ≡ counter.Look (look.Yield n)) where
    abbrev yielding : Counter
    yielding = counter.Look (look.Yield n)

    abbrev Sees : Encounter
    Sees = sees p w m events s actors i before yielding at tt

    abbrev own_list : List Item
    own_list = (here p w m events s actors i before yielding at tt).task.list

    abbrev leaves : List Item
    leaves = leaving p Sees a.stack

    abbrev after_yield : State
    after_yield = relisted_state p w m events s actors i before yielding at tt leaves

    takes_yield : (own_list ≡ Ahead.waiting p Sees a.stack wait.Taskyield) ⊎ (own_list ≡ Ahead.entering_wait p Sees a.stack wait.Taskyield)
        → take_item p Sees event.Yield own_list ≡ Some (item.Yield, leaves)
    takes_yield (inl is) = ap (λ xs. take_item p Sees event.Yield xs) is
    takes_yield (inr is) = ap (λ xs. take_item p Sees event.Yield xs) is

    taken_yield : take_item p Sees event.Yield own_list ≡ Some (item.Yield, leaves)
    taken_yield = takes_yield (ahead_is p w m events s actors i before yielding at tt)

    abbrev load_native : ℕ
    load_native = of_thread w a.thread ThreadNative

    pub yield_keeps : StepKeeps p w m events s actors i (look_next w (actors i) (look.Yield n)) (λ old. (look_moved p w (actors i) (look.Yield n) old, look_outcome w (actors i) (look.Yield n) old))
    yield_keeps =
        let same = of_load p w m events s actors i before load_native (native p w m events s actors i before) in (
          native p w m events s actors i before,
          native_on p w m events s actors i before,
          event_leads_to p w m events s actors i before yielding at tt refl (op.Load load_native)
              (native p w m events s actors i before) (counter.Plain plain.Leave)
              (outcome.Event event.Yield) event.Yield item.Yield leaves after_yield refl (λ no_object. no_object)
              (λ f e. absurd (cc e)) taken_yield
              (steps p w m events s actors i before yielding at tt event.Yield item.Yield leaves after_yield taken_yield tt refl refl)
              (ap (λ j. op.Load (of_thread w j ThreadNative)) (before.rule.threads i before.known).thread)
              (subst (λ (k : Memory). KeepsWords w k after_yield (all_owed actors)) (sym same) (relisted_words p w m events s actors i before yielding at tt leaves))
              (λ j other. subst (λ (k : Memory). Spares m k s j (actors j)) (sym same) (spares_none m s j (actors j)))
              (relisted_changes p w m events s actors i before yielding at tt leaves) refl
              (record { fits = (stmt.Taskyield, (fits_counter p w m events s actors i before yielding at tt).0, tt); placed = tt; ahead = refl; front = tt; owes = refl; row = tt; ended = tt }),
        )
