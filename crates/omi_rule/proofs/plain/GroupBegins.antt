-- The plain step by which a task begins a taskgroup region: it has one more open group, and calls the function of its construct.
use Rattle.std.proofs.Common.{◌≡◌, ◌+◌, ◌<◌, ℕ, suc, List, [], ◌∷◌, ◌++◌, Option, Some, refl, sym, ap, ◌∙◌, subst, arith}
use Rattle.std.proofs.Common.{add-one}
use Rattle.omi_script.specs.declared.program.Program.{Program}
use Rattle.omi_script.specs.declared.statement.Stmt.{Stmt}
use Rattle.omi_script.specs.declared.statement.Stmt.TheVariants as stmt
use Rattle.omi_model.specs.declared.encounter.Encounter.{Encounter}
use Rattle.omi_model.specs.declared.event.Event.{Event}
use Rattle.omi_model.specs.declared.event.Event.TheVariants as event
use Rattle.omi_model.specs.declared.item.Item.{Item}
use Rattle.omi_model.specs.declared.item.Item.TheVariants as item
use Rattle.omi_model.specs.Changes.{IsCurrent, on_task}
use Rattle.omi_model.specs.Groups.{MayBeginGroup, with_groups}
use Rattle.omi_model.specs.Groups as Groups
use Rattle.omi_model.specs.Lists.{take_item}
use Rattle.omi_model.specs.Reached.{Step}
use Rattle.omi_model.specs.Rows.{call_items, end_of_group}
use Rattle.omi_model.specs.State.{State}
use Rattle.omi_model.proofs.groups.GroupLaws.{groups_may_begin}
use Rattle.omi_model.proofs.Steps.{at_current, relisted}
use Rattle.omi_layout.specs.declared.limits.TheConstants.{OPEN_PLACE}
use Rattle.omi_layout.specs.Memory.{Memory}
use Rattle.omi_numbers.specs.declared.limits.TheConstants.{OPEN_GROUPS}
use Rattle.omi_pc.specs.declared.actor.Actor.{Actor}
use Rattle.omi_pc.specs.declared.counter.Counter.TheVariants as counter
use Rattle.omi_pc.specs.declared.counter.PlainCounter.TheVariants as plain
use Rattle.omi_pc.specs.declared.frame.Frame.{Frame}
use Rattle.omi_pc.specs.declared.frame.Opened.TheVariants as bodies
use Rattle.omi_pc.specs.FitLaws.{grouped}
use Rattle.omi_pc.specs.Fits.{Fits, IsTaskgroup}
use Rattle.omi_pc.specs.Frames.{at_start}
use Rattle.omi_pc.specs.OpenBodies.{IsAt}
use Rattle.omi_pc.specs.Settle.{calling}
use Rattle.omi_plain.specs.PlainSteps.{plain_moved, plain_next, plain_outcome}
use Rattle.omi_plain.specs.PlainSteps as PlainSteps
use Rattle.omi_plain.proofs.Fitting.{steps_fit}
use Rattle.omi_plain.proofs.StayPlaced.{steps_stay_placed}
use Rattle.omi_rep.specs.declared.outcome.Outcome.TheVariants as outcome
use Rattle.omi_rule_words.specs.ExplicitKinds.{with_slot}
use Rattle.omi_rule_words.specs.Owes.{nothing, owed}
use Rattle.omi_step_words.specs.Placed.{IsPlaced}
use Rattle.omi_rule.specs.Ahead.{ahead, called, plain_ahead}
use Rattle.omi_rule.specs.Chains.{KeepsContext, StandsInTask}
use Rattle.omi_rule.specs.Rule.{KeepsThread}
use Rattle.omi_rule.specs.Steps.{KeepsRule, StepKeeps}
use Rattle.omi_rule.proofs.Assembly.{Before}
use Rattle.omi_rule.proofs.GroupChanges.{bodies_later, context_later, is_on_open, list_later, listed_current, on_open, regrouped, runs_later, sees_later, store_keeps}
use Rattle.omi_rule.proofs.OwnTask.{is_current, top}
use Rattle.omi_rule.proofs.Settling.{in_work_is}
use Rattle.omi_rule.proofs.plain.OwnEvents.{at, body, fits_counter, none_new, owes_nothing, own, steps, takes}

module _ (p : Program) (w : List ℕ) (m : Memory) (events : List (ℕ × Event)) (s : State) (actors : ℕ → Actor)
    (i : ℕ) (before : Before p w m events s actors i)
    (at_counter : (actors i).counter ≡ counter.Plain plain.GroupBegin) where
  abbrev a : Actor
  a = actors i

  abbrev here : StandsInTask p s i (actors i)
  here = (body p w m events s actors i before plain.GroupBegin at_counter).3

  abbrev mine : KeepsContext s i (actors i).context
  mine = top p s i (actors i) here

  abbrev sees : Encounter
  sees = at p w m events s actors i before plain.GroupBegin at_counter

  abbrev idle : owed (actors i) ≡ nothing
  idle = owes_nothing p w m events s actors i before plain.GroupBegin at_counter

  current : IsCurrent s i a.context.task mine.task
  current = is_current p s i a here

  module _ (f : ℕ) (is : IsAt p (actors i).stack (stmt.Taskgroup f)) where
    abbrev more : ℕ
    more = (actors i).context.open_groups + 1

    abbrev zs : List Item
    zs = item.Call f ∷ call_items p f (end_of_group sees (ahead p sees (actors i).stack))

    abbrev moved : State
    moved = on_task s (actors i).context.task (relisted zs)

    abbrev next : State
    next = regrouped p w m events s actors i before here idle more zs

    abbrev frame : Frame
    frame = at_start f bodies.Taskgroup

    abbrev b : Actor
    b =
        calling f bodies.Taskgroup
        (record (actors i) { context = grouped ((actors i).context.open_groups + 1) (actors i).context })

    -- ---- the event

    taken : take_item p sees event.GroupBegin (plain_ahead p sees (actors i).stack plain.GroupBegin) ≡ Some (item.GroupBegin, zs)
    taken =
        ap (take_item p sees event.GroupBegin)
        (in_work_is p (actors i).stack (stmt.Taskgroup f) (λ x. item.Do x ∷ ahead p sees (actors i).stack) is)

    few : MayBeginGroup mine.task
    few =
        groups_may_begin p events s before.rule.reached i a.context.task mine.task zs current
        (takes p w m events s actors i before plain.GroupBegin at_counter event.GroupBegin item.GroupBegin zs taken)

    step : Step p s i event.GroupBegin next
    step =
        steps p w m events s actors i before plain.GroupBegin at_counter event.GroupBegin item.GroupBegin zs next taken
        (a.context.task, mine.task, current, few) refl
        (at_current moved i a.context.task (relisted zs mine.task) (Groups.group_begun moved)
        (listed_current p w m events s actors i before here idle more zs)
        ∙ ap (λ x. Some (with_groups moved (suc x) a.context.task)) mine.groups
        ∙ ap (λ x. Some (with_groups moved x a.context.task)) (sym (add-one a.context.open_groups)))

    -- ---- the thread afterwards

    less : a.context.open_groups < OPEN_GROUPS
    less = let most = few in let same = mine.groups in omega (arith, most, same)

    thread : KeepsThread p w (with_slot m a.context.task OPEN_PLACE more) (events ++ (i, event.GroupBegin) ∷ []) next i b
    thread =
        let o = own p w m events s actors i before plain.GroupBegin at_counter in
        let seen = sees_later p w m events s actors i before here idle more zs in record {
          thread = o.thread;
          fits = subst (λ (q : Option Stmt). Fits p (PlainSteps.group_begun q a)) is (steps_fit p a plain.GroupBegin 0 o.fits at_counter (λ barrier. absurd (cc (sym is, barrier))) less);
          placed = subst (λ (q : Option Stmt). IsPlaced w (PlainSteps.group_begun q a)) is (steps_stay_placed p w a plain.GroupBegin 0 o.placed at_counter);
          stands = record {
            current = here.current;
            bodies = (context_later p w m events s actors i before here idle more zs, tt, bodies_later p w m events s actors i before here idle more zs);
            ahead = λ t live. subst (λ (e : Encounter). t.list ≡ called p e (frame ∷ (actors i).stack)) (sym seen) (list_later p w m events s actors i before here idle more zs t live).0;
            front = λ t live. (list_later p w m events s actors i before here idle more zs t live).1;
          };
          runs = (λ opens t live. absurd (cc opens), runs_later p w m events s actors i before here idle more zs event.GroupBegin step);
          row = tt;
          ended = tt;
        }

    begins : KeepsRule p w m events s actors i (plain_next p w (actors i) plain.GroupBegin) (on_open p w m events s actors i before here idle more zs) (b, outcome.Event event.GroupBegin)
    begins =
        store_keeps p w m events s actors i before here idle more zs b (outcome.Event event.GroupBegin) event.GroupBegin refl (λ x. x) step
        (none_new p w m events s actors i before plain.GroupBegin at_counter event.GroupBegin item.GroupBegin zs next taken step (λ g e. absurd (cc e)))
        (a.context.task, mine.task, current, (more, refl)) refl thread

    pub construct_keeps : StepKeeps p w m events s actors i (plain_next p w (actors i) plain.GroupBegin) (λ old. (plain_moved p (actors i) plain.GroupBegin old, plain_outcome p w (actors i) plain.GroupBegin old))
    construct_keeps = (
      on_open p w m events s actors i before here idle more zs,
      is_on_open p w m events s actors i before here idle more zs,
      subst
          (λ (q : Option Stmt). KeepsRule p w m events s actors i (plain_next p w (actors i) plain.GroupBegin) (on_open p w m events s actors i before here idle more zs) (PlainSteps.group_begun q (actors i), outcome.Event event.GroupBegin)) (sym is) begins,
    )

  pub group_begin_keeps : StepKeeps p w m events s actors i (plain_next p w (actors i) plain.GroupBegin) (λ old. (plain_moved p (actors i) plain.GroupBegin old, plain_outcome p w (actors i) plain.GroupBegin old))
  group_begin_keeps = let (x, is, group) = fits_counter p w m events s actors i before plain.GroupBegin at_counter in by x is group
    where
      by : (x : Stmt) → IsAt p (actors i).stack x → IsTaskgroup x
          → StepKeeps p w m events s actors i (plain_next p w (actors i) plain.GroupBegin) (λ old. (plain_moved p (actors i) plain.GroupBegin old, plain_outcome p w (actors i) plain.GroupBegin old))
      by (stmt.Taskgroup f) is group = construct_keeps f is
      by _ is group = absurd group
