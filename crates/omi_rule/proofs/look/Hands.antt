-- A task that was taken from a slot is in the thread's hand, which loads its function and its final flag.
use Rattle.std.proofs.Common.{◌≡◌, ◌==◌, ◌<◌, ℕ, Bool, true, false, List, length, Some, None, refl, sym, ap, ◌∙◌, subst, arith}
use Rattle.std.specs.Prelude.{not}
use Rattle.omi_script.specs.declared.program.Program.{Program}
use Rattle.omi_script.proofs.RuleLemmas.{Rules-from_accepted}
use Rattle.omi_model.specs.declared.encounter.Encounter.{Encounter}
use Rattle.omi_model.specs.declared.event.Event.{Event}
use Rattle.omi_model.specs.declared.id.Tid.{Tid}
use Rattle.omi_model.specs.declared.task.Task.{Task}
use Rattle.omi_model.specs.Groups.{innermost_or}
use Rattle.omi_numbers.specs.Words.{flag}
use Rattle.omi_numbers.specs.Addresses.{function_at}
use Rattle.omi_model.specs.State.{State, region_of}
use Rattle.omi_layout.specs.declared.field.Field.{Field}
use Rattle.omi_layout.specs.declared.field.Field.TheVariants.{TaskFinal, TaskFunction}
use Rattle.omi_layout.specs.Field.{tasks}
use Rattle.omi_layout.specs.Memory.{Memory}
use Rattle.omi_layout.specs.Named.{number}
use Rattle.omi_layout.proofs.Numbers.{numbered_field}
use Rattle.omi_pc.specs.declared.actor.Actor.{Actor}
use Rattle.omi_pc.specs.declared.counter.Counter.{Counter}
use Rattle.omi_pc.specs.declared.counter.Counter.TheVariants as counter
use Rattle.omi_pc.specs.declared.frame.Frame.{Frame}
use Rattle.omi_pc.specs.declared.frame.Wait.{Wait}
use Rattle.omi_pc.specs.declared.frame.Wait.TheVariants as wait
use Rattle.omi_pc.specs.declared.task_counter.LookCounter.TheVariants as look
use Rattle.omi_pc.specs.Fits.{HasInHand, IsBack}
use Rattle.omi_pc.specs.Stacks.{task_function}
use Rattle.omi_rule_words.specs.Groups.{group_at}
use Rattle.omi_rule_words.specs.Objects.{KeepsEnvironment}
use Rattle.omi_step_words.specs.Placed.{HasTask}
use Rattle.omi_step_words.specs.Words.{of_task}
use Rattle.omi_step_words.proofs.ReadBack.{functions_back}
use Rattle.omi_task.specs.LookSteps.{look_moved, look_next, look_outcome}
use Rattle.omi_rule.specs.Ahead as Ahead
use Rattle.omi_rule.specs.Chains.{KeepsContext}
use Rattle.omi_rule.specs.Rows.{IsInHand, MayStartIn}
use Rattle.omi_rule.specs.Steps.{RecordWord, StepKeeps}
use Rattle.omi_rule.proofs.Assembly.{Before}
use Rattle.omi_rule.proofs.Descends.{below_members, below_owner, tasks_descend}
use Rattle.omi_rule.proofs.Groups.{one_open}
use Rattle.omi_rule.proofs.KeptObjects.{task_kept}
use Rattle.omi_rule.proofs.MemberFunctions.{member_function}
use Rattle.omi_rule.proofs.barrier.AtCounter.{GoesTo, ahead_is, body, fits_counter, here, load_quiet, own, placed_counter, region_there, row_is, sees, wide, front_is}
use Rattle.omi_rule.proofs.look.InHand.{hand_at}
use Rattle.omi_rule.proofs.look.TaskFunctions.{RunsTask, runs_task}

module _ (p : Program) (w : List ℕ) (m : Memory) (events : List (ℕ × Event)) (s : State) (actors : ℕ → Actor)
    (i : ℕ) (before : Before p w m events s actors i) where
  abbrev a : Actor
  a = actors i

  abbrev on_word : Tid → Field → RecordWord
  on_word t f = record { creator = t.0.creator; slot = t.0.slot; field = f; place = 0 }

  -- the words of a deferred task are its codes
  environment : (v : Wait) (t : Tid) (known : Task → Type 0) (o : IsInHand s a v t known)
      → KeepsEnvironment w (m t.0.creator tasks t.0.slot) o.task
  environment v t known o = (task_kept p w m events s actors before.rule t o.task o.is.live).environment

  -- ---- the function

  module _ (v : Wait) (n code : ℕ) (t : Tid)
      (at : (actors i).counter ≡ counter.Look (look.LoadFunction v n code t)) where
    abbrev standing : Counter
    standing = counter.Look (look.LoadFunction v n code t)

    abbrev mine : KeepsContext s i (actors i).context
    mine = here p w m events s actors i before standing at tt

    abbrev word : ℕ
    word = m t.0.creator tasks t.0.slot (number TaskFunction) 0

    fits : HasInHand p a v n t
    fits = fits_counter p w m events s actors i before standing at tt

    has_task : HasTask w t
    has_task = placed_counter p w m events s actors i before standing at tt

    hand : IsInHand s a v t (λ u. Unit {0})
    hand = row_is p w m events s actors i before standing at tt

    runs : RunsTask p mine.task a.stack
    runs =
        let (f, fs, is, task) = body p w m events s actors i before standing at tt in
        let o = own p w m events s actors i before standing at tt in
        runs_task p s a.stack a.context mine.task o.fits.bodies o.runs
        (subst (λ (xs : List Frame). 0 < length xs) (sym is) (omega arith)) mine.live

    -- it is smaller than that of the current task
    abbrev At : Encounter
    At = sees p w m events s actors i before standing at tt

    smaller : (x : Wait) → IsBack p a (Some x) → mine.task.list ≡ Ahead.waiting p At a.stack x
        → MayStartIn x a hand.task → hand.task.function < mine.task.function
    smaller (wait.Barrier b) waits list may =
        let found : region_of s hand.task.region ≡ Some mine.region =
        ap (region_of s) hand.region ∙ mine.found in
        let less =
        below_members p events s before.rule.reached t hand.task mine.region hand.is.live hand.is.explicit found in
        let same =
        member_function p events s before.rule.reached a.context.task mine.task mine.region mine.live
        (mine.implicit ∙ waits.1) (region_there p w m events s actors i before standing at tt) in
        omega (arith, less, same)
    smaller wait.Taskwait waits list may =
        tasks_descend p events s before.rule.reached t hand.task hand.is.live hand.is.explicit a.context.task mine.task may mine.live
    smaller wait.Taskyield waits list may =
        tasks_descend p events s before.rule.reached t hand.task hand.is.live hand.is.explicit a.context.task mine.task may mine.live
    smaller wait.Taskgroup waits list may =
        let (l, some) = one_open p events s before.rule.reached a.context.task mine.task mine.live _ _ list in
        below_owner p events s before.rule.reached t hand.task hand.is.live (group_at a.context.task l)
        (may ∙ ap (innermost_or None a.context.task) (sym mine.groups ∙ some)) mine.task mine.live

    less : hand.task.function < task_function a.stack
    less = let below = smaller v fits.0.0 (ahead_is p w m events s actors i before standing at tt) hand.may in let same = runs.function in omega (arith, below, same)

    loaded : function_at word ≡ hand.task.function
    loaded =
        let below = less in
        let known = runs.known in
        let few = (Rules-from_accepted p).functions in
        ap function_at (environment v t (λ u. Unit {0}) hand TaskFunction 0 _ refl refl)
        ∙ functions_back hand.task.function (omega (arith, below, known, few))

    goes : GoesTo p w m events s actors i before standing at tt (counter.Look (look.LoadFinal v n code t (function_at word)))
    goes = record {
      fits = (fits, (let same = loaded in let below = less in omega (arith, same, below)));
      placed = has_task;
      ahead = ahead_is p w m events s actors i before standing at tt;
      front = front_is p w m events s actors i before standing at tt;
      owes = refl;
      row = hand_at s a (counter.Look (look.LoadFinal v n code t (function_at word))) v t (λ u. Unit {0}) (λ u. u.function ≡ function_at word) hand (sym loaded);
      ended = tt;
    }

    pub load_function_keeps : StepKeeps p w m events s actors i (look_next w (actors i) (look.LoadFunction v n code t)) (λ old. (look_moved p w (actors i) (look.LoadFunction v n code t) old, look_outcome w (actors i) (look.LoadFunction v n code t) old))
    load_function_keeps = (
      on_word t TaskFunction,
      record { there = record { field = numbered_field TaskFunction; record_slot = has_task; within = wide p w m events s actors i before standing at tt (number TaskFunction) }; address = refl },
      load_quiet p w m events s actors i before standing at tt (of_task w t TaskFunction) (on_word t TaskFunction) (counter.Look (look.LoadFinal v n code t (function_at word))) goes,
    )

  -- ---- the final flag

  module _ (v : Wait) (n code : ℕ) (t : Tid) (f : ℕ)
      (at : (actors i).counter ≡ counter.Look (look.LoadFinal v n code t f)) where
    abbrev final_at : Counter
    final_at = counter.Look (look.LoadFinal v n code t f)

    abbrev final_word : ℕ
    final_word = m t.0.creator tasks t.0.slot (number TaskFinal) 0

    has : HasTask w t
    has = placed_counter p w m events s actors i before final_at at tt

    known_hand : IsInHand s a v t (λ u. u.function ≡ f)
    known_hand = row_is p w m events s actors i before final_at at tt

    read_flag : (b : Bool) → not (flag b == 0) ≡ b
    read_flag true = refl
    read_flag false = refl

    is_final : known_hand.task.is_final ≡ not (final_word == 0)
    is_final =
        sym (read_flag known_hand.task.is_final)
        ∙ ap (λ x. not (x == 0))
        (sym (environment v t (λ u. u.function ≡ f) known_hand TaskFinal 0 _ refl refl))

    filling_goes : GoesTo p w m events s actors i before final_at at tt (counter.Look (look.Fill v n code t f (not (final_word == 0)) 0))
    filling_goes = record {
      fits = (fits_counter p w m events s actors i before final_at at tt, omega arith);
      placed = has;
      ahead = ahead_is p w m events s actors i before final_at at tt;
      front = front_is p w m events s actors i before final_at at tt;
      owes = refl;
      row = (hand_at s a (counter.Look (look.Fill v n code t f (not (final_word == 0)) 0)) v t (λ u. u.function ≡ f) (λ u. (u.function ≡ f) × (u.is_final ≡ not (final_word == 0))) known_hand (known_hand.knows, is_final), λ j below. absurd (omega (arith, below)));
      ended = tt;
    }

    pub load_final_keeps : StepKeeps p w m events s actors i (look_next w (actors i) (look.LoadFinal v n code t f)) (λ old. (look_moved p w (actors i) (look.LoadFinal v n code t f) old, look_outcome w (actors i) (look.LoadFinal v n code t f) old))
    load_final_keeps = (
      on_word t TaskFinal,
      record { there = record { field = numbered_field TaskFinal; record_slot = has; within = wide p w m events s actors i before final_at at tt (number TaskFinal) }; address = refl },
      load_quiet p w m events s actors i before final_at at tt (of_task w t TaskFinal) (on_word t TaskFinal) (counter.Look (look.Fill v n code t f (not (final_word == 0)) 0)) filling_goes,
    )
