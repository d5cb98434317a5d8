-- The region's word for unfinished tasks is lowered for an explicit task that has finished, and the thread goes back to where it started.
use Rattle.std.proofs.Common.{◌≡◌, ◌<◌, ◌^◌, inl, inr, ◌*◌, ℕ, Bool, true, false, List, ◌∷◌, Option, Some, None, refl, sym, ap, ◌∙◌, arith, if◌then◌else◌}
use Rattle.omi_word.specs.declared.op.Op.TheVariants as op
use Rattle.omi_script.specs.declared.program.Program.{Program}
use Rattle.omi_script.specs.declared.statement.Stmt.{Stmt}
use Rattle.omi_script.specs.declared.statement.Stmt.TheVariants as stmt
use Rattle.omi_model.specs.declared.encounter.Encounter.{Encounter}
use Rattle.omi_model.specs.declared.event.Event.{Event}
use Rattle.omi_model.specs.declared.item.Item.{Item}
use Rattle.omi_model.specs.declared.item.Item.TheVariants as item
use Rattle.omi_numbers.specs.declared.states.TheConstants.{WAIT_TASKGROUP, WAIT_TASKWAIT}
use Rattle.omi_model.specs.Rows as Rows
use Rattle.omi_model.specs.State.{State}
use Rattle.omi_layout.specs.declared.field.Field.TheVariants.{RegionPending}
use Rattle.omi_layout.specs.Memory.{Memory, replace_at}
use Rattle.omi_pc.specs.declared.actor.Actor.{Actor}
use Rattle.omi_pc.specs.declared.counter.Counter.{Counter}
use Rattle.omi_pc.specs.declared.counter.Counter.TheVariants as counter
use Rattle.omi_pc.specs.declared.counter.PlainCounter.TheVariants as plain
use Rattle.omi_pc.specs.declared.frame.Barrier.{Barrier}
use Rattle.omi_pc.specs.declared.frame.Wait.{Wait}
use Rattle.omi_pc.specs.declared.frame.Wait.TheVariants as wait
use Rattle.omi_pc.specs.declared.task_counter.FinishCounter.TheVariants as finish
use Rattle.omi_pc.specs.declared.task_counter.LookCounter.TheVariants as look
use Rattle.omi_pc.specs.Fits.{Enters, IsBack, IsTask, StoresWait}
use Rattle.omi_rep.specs.declared.outcome.Outcome.TheVariants as outcome
use Rattle.omi_rule_words.specs.BarrierKinds.{with_region_word, word_of_region}
use Rattle.omi_rule_words.specs.CountKinds.{one_less}
use Rattle.omi_rule_words.specs.Owes.{all_owed, nothing, owed}
use Rattle.omi_rule_words.specs.Words.{KeepsWords}
use Rattle.omi_rule_words.proofs.PendingWords.{pending_subtracts_keep}
use Rattle.omi_step_words.specs.Words.{of_region}
use Rattle.omi_task.specs.FinishSteps.{behind_finish, finish_moved, finish_next, finish_outcome}
use Rattle.omi_rule.specs.Ahead.{resuming}
use Rattle.omi_rule.specs.Ahead as Ahead
use Rattle.omi_rule.specs.Steps.{KeepsRule, StepKeeps}
use Rattle.omi_rule.proofs.Assembly.{Before, quiet_keeps, spares_region}
use Rattle.omi_rule.proofs.CountsFew.{pending_few}
use Rattle.omi_rule.proofs.Owing.{owed_after}
use Rattle.omi_rule.proofs.barrier.AtCounter.{StandsAt, ahead_is, at_counter, fits_counter, here, is_context, keeps_region, owes_now, region_word, sees, sees_debug, thread_with, word_of, front_is}

module _ (p : Program) (w : List ℕ) (m : Memory) (events : List (ℕ × Event)) (s : State) (actors : ℕ → Actor)
    (i : ℕ) (before : Before p w m events s actors i) (v : Option Wait)
    (at : (actors i).counter ≡ counter.Finish (finish.SubtractPending v)) where
  abbrev a : Actor
  a = actors i

  abbrev standing : Counter
  standing = counter.Finish (finish.SubtractPending v)

  abbrev At : Encounter
  At = sees p w m events s actors i before standing at tt

  abbrev list : List Item
  list = (here p w m events s actors i before standing at tt).task.list

  abbrev n : Memory
  n =
      with_region_word m a.context.region RegionPending
      (one_less (word_of_region m a.context.region RegionPending))

  few : word_of_region m a.context.region RegionPending < 2 ^ 64
  few =
      let count = (keeps_region p w m events s actors i before standing at tt).pending in
      let most = pending_few w s before.valid before.rule.within.count (all_owed actors) a.context.region in
      omega (arith, count, most)

  owes : owed a ≡ record nothing { pending = Some a.context.region }
  owes = owes_now p w m events s actors i before standing at tt

  words : KeepsWords w n s (replace_at (all_owed actors) i nothing)
  words =
      pending_subtracts_keep w m s (all_owed actors) i a.context.region before.rule.words before.known owes few

  abbrev Goes : Counter → Type 0
  Goes to =
      KeepsRule p w m events s actors i (op.Sub (of_region w a.context.region RegionPending) 1)
      (word_of p w m events s actors i before standing at tt RegionPending) (at_counter to a, outcome.Quiet)

  leads : (to : Counter) → owed (at_counter to a) ≡ nothing
      → StandsAt p w m events s actors i before standing at tt n to → Goes to
  leads to idle stands =
      quiet_keeps p w m events s actors i before (op.Sub (of_region w a.context.region RegionPending) 1)
      (word_of p w m events s actors i before standing at tt RegionPending)
      (at_counter to a, outcome.Quiet) refl
      (owed_after w n s actors i (at_counter to a) nothing idle words)
      (λ j other. spares_region m s a.context.region (here p w m events s actors i before standing at tt).region RegionPending 0 (one_less (word_of_region m a.context.region RegionPending)) j (actors j) (here p w m events s actors i before standing at tt).found (inl (λ same. omega (arith, same))))
      (thread_with p w m events s actors i before standing at tt n to stands)

  -- the construct of a task that started at once ends
  enters : (x : Stmt) → IsTask x → Enters x
  enters (stmt.Task f undeferred final) is = tt
  enters _ is = absurd is

  some_slot : 0 < 4 * a.context.size
  some_slot =
      let some = (is_context p w m events s actors i before standing at tt).size.0 in omega (arith, some)

  -- the wait goes on. Its state is stored first where states are kept
  abbrev by_debug : Wait → Bool → Counter
  by_debug x b = counter.Look (if b then look.State x else look.LoadRow x 0)

  barrier_waits : (x : Barrier) (b : Bool) → p.env.debug ≡ b → IsBack p a (Some (wait.Barrier x))
      → list ≡ resuming p At a.stack (Some (wait.Barrier x)) → Goes (by_debug (wait.Barrier x) b)
  barrier_waits x true e back is =
      leads (counter.Look (look.State (wait.Barrier x))) refl
      (record { fits = (back, tt); placed = tt; ahead = is ∙ ap (λ (d : Bool). if d then item.State (Ahead.barrier_state x) 0 ∷ Ahead.arrived p At a.stack x else Ahead.arrived p At a.stack x) (sees_debug p w m events s actors i before standing at tt ∙ e); front = front_is p w m events s actors i before standing at tt; row = tt; ended = tt })
  barrier_waits x false e back is =
      leads (counter.Look (look.LoadRow (wait.Barrier x) 0)) refl
      (record { fits = ((back, some_slot), refl); placed = tt; ahead = is ∙ ap (λ (d : Bool). if d then item.State (Ahead.barrier_state x) 0 ∷ Ahead.arrived p At a.stack x else Ahead.arrived p At a.stack x) (sees_debug p w m events s actors i before standing at tt ∙ e); front = front_is p w m events s actors i before standing at tt; row = tt; ended = tt })

  -- for the children of the task, and for the tasks of its innermost group
  construct_waits : (x : Wait) (state : ℕ) → StoresWait x → (b : Bool) → p.env.debug ≡ b → IsBack p a (Some x)
      → list ≡ Rows.shown At state 0 (Ahead.waiting p At a.stack x)
      → Ahead.showing_wait p At a.stack x ≡ item.State state 0 ∷ Ahead.waiting p At a.stack x → Goes (by_debug x b)
  construct_waits x state stores true e back is showing =
      leads (counter.Look (look.State x)) refl
      (record { fits = (back, stores); placed = tt; ahead = is ∙ ap (λ (d : Bool). if d then item.State state 0 ∷ Ahead.waiting p At a.stack x else Ahead.waiting p At a.stack x) (sees_debug p w m events s actors i before standing at tt ∙ e) ∙ sym showing; front = front_is p w m events s actors i before standing at tt; row = tt; ended = tt })
  construct_waits x state stores false e back is showing =
      leads (counter.Look (look.LoadRow x 0)) refl
      (record { fits = ((back, some_slot), refl); placed = tt; ahead = is ∙ ap (λ (d : Bool). if d then item.State state 0 ∷ Ahead.waiting p At a.stack x else Ahead.waiting p At a.stack x) (sees_debug p w m events s actors i before standing at tt ∙ e); front = front_is p w m events s actors i before standing at tt; row = tt; ended = tt })

  waits : (x : Wait) → IsBack p a (Some x) → list ≡ resuming p At a.stack (Some x)
      → Goes (behind_finish p (Some x))
  waits (wait.Barrier x) back is = barrier_waits x p.env.debug refl back is
  waits wait.Taskwait back is = construct_waits wait.Taskwait WAIT_TASKWAIT tt p.env.debug refl back is refl
  waits wait.Taskgroup back is = construct_waits wait.Taskgroup WAIT_TASKGROUP tt p.env.debug refl back is refl
  waits wait.Taskyield back is =
      leads (counter.Look (look.Yield 0)) refl
      (record { fits = (back, inl refl); placed = tt; ahead = inr is; front = front_is p w m events s actors i before standing at tt; row = tt; ended = tt })

  back_at : (x : Option Wait) → IsBack p a x → list ≡ resuming p At a.stack x → Goes (behind_finish p x)
  back_at None (y, is_at, task) is =
      leads (counter.Plain plain.Leave) refl
      (record { fits = (y, is_at, enters y task); placed = tt; ahead = is; front = front_is p w m events s actors i before standing at tt; row = tt; ended = tt })
  back_at (Some x) back is = waits x back is

  pub subtract_pending_keeps : StepKeeps p w m events s actors i (finish_next w (actors i) (finish.SubtractPending v)) (λ old. (finish_moved p w (actors i) (finish.SubtractPending v) old, finish_outcome (actors i) (finish.SubtractPending v)))
  subtract_pending_keeps = (
    word_of p w m events s actors i before standing at tt RegionPending,
    record { there = region_word p w m events s actors i before standing at tt RegionPending refl; address = refl },
    back_at v (fits_counter p w m events s actors i before standing at tt) (ahead_is p w m events s actors i before standing at tt),
  )
