-- A taskgroup region ends once no task of its group is unfinished: its task loads the count of the group until this is 0, and has one open group less.
use Rattle.std.proofs.Common.{◌≡◌, ◌==◌, ◌+◌, ◌-◌, ◌<◌, inr, ℕ, suc, Bool, true, false, List, [], ◌∷◌, ◌++◌, length, Some, None, refl, sym, ap, ◌∙◌, subst, arith, eq-eqb, eqb-true, if◌then◌else◌}
use Rattle.omi_word.specs.declared.op.Op.TheVariants as op
use Rattle.omi_script.specs.declared.program.Program.{Program}
use Rattle.omi_script.specs.declared.statement.Stmt.TheVariants as stmt
use Rattle.omi_model.specs.declared.encounter.Encounter.{Encounter}
use Rattle.omi_model.specs.declared.event.Event.{Event}
use Rattle.omi_model.specs.declared.event.Event.TheVariants as event
use Rattle.omi_model.specs.declared.item.Item.{Item}
use Rattle.omi_model.specs.declared.item.Item.TheVariants as item
use Rattle.omi_model.specs.Changes.{IsCurrent, on_task}
use Rattle.omi_model.specs.Groups.{group_ended, innermost_or, with_groups}
use Rattle.omi_model.specs.Lists.{take_item}
use Rattle.omi_model.specs.Reached.{Step}
use Rattle.omi_model.specs.Rows as Rows
use Rattle.omi_model.specs.State.{State}
use Rattle.omi_model.proofs.groups.GroupLaws.{groups_right}
use Rattle.omi_model.proofs.Steps.{at_current, relisted}
use Rattle.omi_layout.specs.declared.field.Field.TheVariants.{TaskSlots}
use Rattle.omi_layout.specs.declared.limits.TheConstants.{COUNT_PLACE}
use Rattle.omi_layout.specs.Field.{tasks}
use Rattle.omi_layout.specs.Memory.{Memory}
use Rattle.omi_layout.specs.Named.{number}
use Rattle.omi_layout.proofs.Numbers.{numbered_field}
use Rattle.omi_layout.proofs.SlotWords.{group_word_within}
use Rattle.omi_numbers.specs.declared.limits.TheConstants.{OPEN_GROUPS}
use Rattle.omi_pc.specs.declared.actor.Actor.{Actor}
use Rattle.omi_pc.specs.declared.counter.Counter.{Counter}
use Rattle.omi_pc.specs.declared.counter.Counter.TheVariants as counter
use Rattle.omi_pc.specs.declared.frame.Wait.TheVariants as wait
use Rattle.omi_pc.specs.declared.task_counter.LookCounter.TheVariants as look
use Rattle.omi_pc.specs.FitLaws.{grouped}
use Rattle.omi_pc.specs.Fits.{HasTask, slots_of}
use Rattle.omi_pc.specs.OpenBodies.{IsAt}
use Rattle.omi_pc.proofs.Grouped.{grouped_open}
use Rattle.omi_rep.specs.declared.outcome.Outcome.TheVariants as outcome
use Rattle.omi_rule_words.specs.Groups.{group_at}
use Rattle.omi_rule_words.specs.Owes.{all_owed}
use Rattle.omi_rule_words.proofs.MembersFinished.{all_members_finished}
use Rattle.omi_step_words.specs.Moving.{to_look}
use Rattle.omi_step_words.specs.Words.{of_count}
use Rattle.omi_step_words.proofs.Grouped.{contexts_grouped}
use Rattle.omi_task.specs.Groups.{innermost_index, of_innermost_count}
use Rattle.omi_task.specs.LookSteps.{look_moved, look_next, look_outcome, past_group_end}
use Rattle.omi_rule.specs.Ahead.{leaving}
use Rattle.omi_rule.specs.Ahead as Ahead
use Rattle.omi_rule.specs.Chains.{KeepsContext}
use Rattle.omi_rule.specs.Rows.{HasNoMember}
use Rattle.omi_rule.specs.Steps.{KeepsRule, RecordWord, StepKeeps}
use Rattle.omi_rule.specs.Waits.{Waits, members_next}
use Rattle.omi_rule.proofs.Assembly.{Before}
use Rattle.omi_rule.proofs.barrier.AtCounter.{ahead_is, body, context_placed, fits_counter, front_is, here, is_context, load_quiet, load_waits, own, owes_now, row_is, sees, sees_debug, stands}
use Rattle.omi_rule.proofs.barrier.Constructs.{at_construct}
use Rattle.omi_rule.proofs.barrier.Events.{none_new, steps}
use Rattle.omi_rule.proofs.Begun.{works, works_owing_nothing}
use Rattle.omi_rule.proofs.GroupChanges.{bodies_later, is_on_open, list_later, listed_current, on_open, regrouped, runs_later, sees_later, store_keeps}
use Rattle.omi_rule.proofs.Groups.{one_open}
use Rattle.omi_rule.proofs.OwnTask.{is_current}

module _ (p : Program) (w : List ℕ) (m : Memory) (events : List (ℕ × Event)) (s : State) (actors : ℕ → Actor)
    (i : ℕ) (before : Before p w m events s actors i) where
  abbrev a : Actor
  a = actors i

  -- ---- the count

  module _ (at : (actors i).counter ≡ counter.Look look.LoadCount) where
    abbrev standing : Counter
    standing = counter.Look look.LoadCount

    abbrev At : Encounter
    At = sees p w m events s actors i before standing at tt

    abbrev mine : KeepsContext s i (actors i).context
    mine = here p w m events s actors i before standing at tt

    abbrev on_count : RecordWord
    on_count = record { creator = a.context.task.0.creator; slot = a.context.task.0.slot; field = TaskSlots; place = COUNT_PLACE + innermost_index (actors i) }

    abbrev word : ℕ
    word = m a.context.task.0.creator tasks a.context.task.0.slot (number TaskSlots) (COUNT_PLACE + innermost_index (actors i))

    abbrev load : ℕ
    load = of_innermost_count w (actors i)

    waits : (f : ℕ) × IsAt p a.stack (stmt.Taskgroup f)
    waits = fits_counter p w m events s actors i before standing at tt

    list_is : mine.task.list ≡ Ahead.waiting p At a.stack wait.Taskgroup
    list_is = ahead_is p w m events s actors i before standing at tt

    current : IsCurrent s i a.context.task mine.task
    current = is_current p s i a (stands p w m events s actors i before standing at tt)

    -- the task has a group open
    some_open : (l : ℕ) × (a.context.open_groups ≡ suc l)
    some_open =
        let (l, some) = one_open p events s before.rule.reached a.context.task mine.task mine.live _ _ list_is in (l, sym mine.groups ∙ some)

    few : innermost_index a < OPEN_GROUPS
    few =
        let (l, some) = some_open in
        let most = (groups_right p events s before.rule.reached a.context.task mine.task mine.live).few in
        let same = mine.groups in
        omega (arith, some, most, same)

    some_slot : 0 < slots_of a
    some_slot =
        let some = (is_context p w m events s actors i before standing at tt).size.0 in omega (arith, some)

    innermost_is : innermost_or None a.context.task a.context.open_groups ≡ Some (group_at a.context.task (innermost_index a))
    innermost_is =
        let (l, some) = some_open in
        ap (innermost_or None a.context.task) some
        ∙ ap (λ x. Some (group_at a.context.task x)) (omega (arith, some))

    no_member : word ≡ 0 → HasNoMember s a
    no_member none = (
      group_at a.context.task (innermost_index a),
      innermost_is,
      all_members_finished w m s (all_owed actors) (group_at a.context.task (innermost_index a)) mine.task before.rule.words before.rule.within mine.live few none,
    )

    by_word : (d : Bool) → word == 0 ≡ d
        → KeepsRule p w m events s actors i (op.Load load) on_count (if d then to_look look.GroupEnd a else to_look (look.LoadRow wait.Taskgroup 0) a, if d then outcome.Quiet else outcome.NotReady load word)
    by_word true none =
        load_quiet p w m events s actors i before standing at tt load on_count (counter.Look look.GroupEnd)
        (record { fits = waits; placed = tt; ahead = list_is; front = front_is p w m events s actors i before standing at tt; owes = refl; row = no_member (eqb-true word 0 none); ended = tt })
    by_word false some =
        load_waits p w m events s actors i before standing at tt load on_count
        (counter.Look (look.LoadRow wait.Taskgroup 0))
        (record { fits = ((waits, some_slot), refl); placed = tt; ahead = list_is; front = front_is p w m events s actors i before standing at tt; owes = refl; row = tt; ended = tt })
        (Waits.ForGroup (a.context.task, mine.task, current, (subst members_next (sym list_is) tt, ap (λ x. of_count w a.context.task (x - 1)) (sym mine.groups), λ e. cc (sym some, eq-eqb word 0 e))))

    pub load_count_keeps : StepKeeps p w m events s actors i (look_next w (actors i) look.LoadCount) (λ old. (look_moved p w (actors i) look.LoadCount old, look_outcome w (actors i) look.LoadCount old))
    load_count_keeps = (
      on_count,
      record { there = record { field = numbered_field TaskSlots; record_slot = (context_placed p w m events s actors i before standing at tt).task; within = group_word_within w (COUNT_PLACE + innermost_index a) before.suits.groups (let less = few in omega (arith, less)) }; address = refl },
      by_word (word == 0) refl,
    )

  -- ---- the end

  module _ (at : (actors i).counter ≡ counter.Look look.GroupEnd) where
    abbrev ending : Counter
    ending = counter.Look look.GroupEnd

    abbrev Sees : Encounter
    Sees = sees p w m events s actors i before ending at tt

    abbrev own_task : KeepsContext s i (actors i).context
    own_task = here p w m events s actors i before ending at tt

    abbrev left : ℕ
    left = (actors i).context.open_groups - 1

    abbrev behind : List Item
    behind = Rows.working Sees (leaving p Sees a.stack)

    abbrev moved : State
    moved = on_task s (actors i).context.task (relisted behind)

    abbrev next : State
    next = regrouped p w m events s actors i before (stands p w m events s actors i before ending at tt) (owes_now p w m events s actors i before ending at tt) left behind

    abbrev b : Actor
    b = record (actors i) { context = grouped ((actors i).context.open_groups - 1) (actors i).context }

    construct : (f : ℕ) × IsAt p a.stack (stmt.Taskgroup f)
    construct = fits_counter p w m events s actors i before ending at tt

    list_at : own_task.task.list ≡ Ahead.waiting p Sees a.stack wait.Taskgroup
    list_at = ahead_is p w m events s actors i before ending at tt

    now_current : IsCurrent s i a.context.task own_task.task
    now_current = is_current p s i a (stands p w m events s actors i before ending at tt)

    taken : take_item p Sees event.GroupEnd own_task.task.list ≡ Some (item.GroupEnd, behind)
    taken = ap (λ xs. take_item p Sees event.GroupEnd xs) list_at

    step : Step p s i event.GroupEnd next
    step =
        let (g, innermost, finished) = row_is p w m events s actors i before ending at tt in
        let listed = listed_current p w m events s actors i before (stands p w m events s actors i before ending at tt) (owes_now p w m events s actors i before ending at tt) left behind in
        steps p w m events s actors i before ending at tt event.GroupEnd item.GroupEnd behind next taken
        (a.context.task, own_task.task, now_current, record { group = g; innermost_is = ap (innermost_or None a.context.task) own_task.groups ∙ innermost; finished = finished }) refl
        (at_current moved i a.context.task (relisted behind own_task.task) (group_ended moved) listed
        ∙ ap (λ x. Some (with_groups moved (x - 1) a.context.task)) own_task.groups)

    stack_is_open : HasTask p b
    stack_is_open =
        let o = own p w m events s actors i before ending at tt in
        let most = (groups_right p events s before.rule.reached a.context.task own_task.task own_task.live).few in
        let same = own_task.groups in
        let (f, fs, is, task) = body p w m events s actors i before ending at tt in record {
          thread = o.fits.thread;
          variables = o.fits.variables;
          bodies = grouped_open p a.context left (omega (arith, most, same)) a.stack o.fits.bodies;
          some = subst (λ xs. 0 < length xs) (sym is) (omega arith);
        }

    pub group_end_keeps : StepKeeps p w m events s actors i (look_next w (actors i) look.GroupEnd) (λ old. (look_moved p w (actors i) look.GroupEnd old, look_outcome w (actors i) look.GroupEnd old))
    group_end_keeps =
        let o = own p w m events s actors i before ending at tt in
        let (f, fs, is, task) = body p w m events s actors i before ending at tt in
        let (g, there) = construct in
        let (leaves, worked) = at_construct p a f fs (stmt.Taskgroup g) is there in
        let seen = sees_later p w m events s actors i before task (owes_now p w m events s actors i before ending at tt) left behind in (
          on_open p w m events s actors i before task (owes_now p w m events s actors i before ending at tt) left behind,
          is_on_open p w m events s actors i before task (owes_now p w m events s actors i before ending at tt) left behind,
          store_keeps p w m events s actors i before task (owes_now p w m events s actors i before ending at tt) left behind
              (past_group_end p a) (outcome.Event event.GroupEnd) event.GroupEnd refl (λ x. x) step
              (none_new p w m events s actors i before ending at tt event.GroupEnd item.GroupEnd behind next taken step (λ h e. absurd (cc e)))
              (a.context.task, own_task.task, now_current, (left, refl)) (works_owing_nothing p b f fs is)
              (works p w _ (events ++ (i, event.GroupEnd) ∷ []) next i b f fs is o.thread stack_is_open (inr (stmt.Taskgroup g, there, tt))
              (contexts_grouped w left a.context a.stack o.placed.bodies)
              (ap (λ (e : Encounter). e.debug) seen ∙ sees_debug p w m events s actors i before ending at tt)
              task.current
              (bodies_later p w m events s actors i before task (owes_now p w m events s actors i before ending at tt) left behind)
              (runs_later p w m events s actors i before task (owes_now p w m events s actors i before ending at tt) left behind event.GroupEnd step)
              (λ t live. (list_later p w m events s actors i before task (owes_now p w m events s actors i before ending at tt) left behind t live).0
              ∙ ap (λ (xs : List Item). Rows.working Sees xs) (sym (worked Sees))
              ∙ ap (λ (e : Encounter). Rows.working e (Ahead.worked p e a.stack)) (sym seen))
              (λ t live. (list_later p w m events s actors i before task (owes_now p w m events s actors i before ending at tt) left behind t live).1)),
        )
