-- A thread works behind the begin of a task: a body that has not begun, with the task's list ahead.
use Rattle.std.proofs.Common.{◌≡◌, ℕ, Bool, true, false, List, ◌∷◌, Some, refl, sym, ap, ◌∙◌, subst, if◌then◌else◌}
use Rattle.omi_script.specs.declared.program.Program.{Program}
use Rattle.omi_model.specs.declared.event.Event.{Event}
use Rattle.omi_model.specs.declared.task.Task.{Task}
use Rattle.omi_model.specs.Rows.{working}
use Rattle.omi_model.specs.State.{State, task_of}
use Rattle.omi_layout.specs.Memory.{Memory}
use Rattle.omi_pc.specs.declared.actor.Actor.{Actor}
use Rattle.omi_pc.specs.declared.context.Context.{Context}
use Rattle.omi_pc.specs.declared.counter.Counter.TheVariants as counter
use Rattle.omi_pc.specs.declared.counter.PlainCounter.TheVariants as plain
use Rattle.omi_pc.specs.declared.frame.Frame.{Frame}
use Rattle.omi_pc.specs.Fits.{FitsPlain, HasTask}
use Rattle.omi_pc.specs.FitLaws.{DifferInBodies}
use Rattle.omi_pc.specs.Moves as Moves
use Rattle.omi_pc.specs.Settle.{goes_to, settled}
use Rattle.omi_pc.proofs.Moved.{working_fits}
use Rattle.omi_pc.proofs.Settled.{settled_fits}
use Rattle.omi_pc.proofs.Unmoved.{settled_differs, working_differs}
use Rattle.omi_plain.proofs.StayPlaced.{steps_stay_placed}
use Rattle.omi_rule_words.specs.Owes.{nothing, owed}
use Rattle.omi_step_words.specs.Placed.{AreContextsPlaced, IsPlaced}
use Rattle.omi_rule.specs.Ahead as Ahead
use Rattle.omi_rule.specs.Ahead.{IsAhead}
use Rattle.omi_rule.specs.Chains.{KeepsBodies, IsPassable, StandsWith, encounter_of}
use Rattle.omi_rule.specs.Rule.{KeepsThread}
use Rattle.omi_rule.proofs.BodyMoves.{settled_of, working_of}
use Rattle.omi_rule.proofs.Forgotten.{at_counter, settled_forgets, worked_forgets}
use Rattle.omi_rule.proofs.OwnTask.{bodies_are_of_bodies}
use Rattle.omi_rule.proofs.Settling.{settled_ahead, working_ahead}
use Rattle.omi_rule.proofs.plain.Firsts.{IsFirst, IsGrounded, grounded, grounds_are_of_bodies, plain_first, settled_first, some_frame, working_first}
use Rattle.omi_rule.specs.Chains.{RunsFunctions}
use Rattle.omi_rule.proofs.Runs.{runs_are_of_bodies}

-- whatever the counter was
working_is : (p : Program) (a : Actor) (f : Frame) (fs : List Frame) → a.stack ≡ f ∷ fs
    → Moves.back_to_work p (at_counter (counter.Plain plain.WorkState) a) ≡ Moves.back_to_work p a
working_is p a f fs is = go p.env.debug
  where
    go : (d : Bool)
        → (if d then goes_to plain.WorkState (at_counter (counter.Plain plain.WorkState) a) else Moves.worked p (at_counter (counter.Plain plain.WorkState) a)) ≡ (if d then goes_to plain.WorkState a else Moves.worked p a)
    go true = refl
    go false = worked_forgets p a f fs (counter.Plain plain.WorkState) is

pub working_is_first : (p : Program) (a : Actor) (f : Frame) (fs : List Frame) → a.stack ≡ f ∷ fs
    → IsFirst (Moves.back_to_work p a).counter
working_is_first p a f fs is =
    subst (λ (b : Actor). IsFirst b.counter) (working_is p a f fs is)
    (working_first p (at_counter (counter.Plain plain.WorkState) a) (plain_first plain.WorkState tt))

pub working_is_placed : (p : Program) (w : List ℕ) (a : Actor) (f : Frame) (fs : List Frame)
    → a.stack ≡ f ∷ fs → AreContextsPlaced w a.context a.stack → IsPlaced w (Moves.back_to_work p a)
working_is_placed p w a f fs is placed = go p.env.debug
  where
    b : Actor
    b = at_counter (counter.Plain plain.WorkState) a

    go : (d : Bool) → IsPlaced w (if d then goes_to plain.WorkState a else Moves.worked p a)
    go true = record { bodies = placed; counter = tt }
    go false =
        subst (IsPlaced w) (worked_forgets p a f fs (counter.Plain plain.WorkState) is)
        (steps_stay_placed p w (at_counter (counter.Plain plain.WorkState) a) plain.WorkState 0 (record { bodies = placed; counter = tt }) refl)

-- the thread's part where it works in the task with its context
pub works : (p : Program) (w : List ℕ) (m : Memory) (events : List (ℕ × Event)) (u : State) (i : ℕ) (a : Actor) (f : Frame) (fs : List Frame)
    → a.stack ≡ f ∷ fs → a.thread ≡ i → HasTask p a → FitsPlain p a plain.WorkState
    → AreContextsPlaced w a.context a.stack → (encounter_of u a.context).debug ≡ p.env.debug → (u.threads i).current ≡ Some a.context.task → KeepsBodies p u i a.context a.stack → RunsFunctions u a.context a.stack
    → ((t : Task) → task_of u a.context.task ≡ Some t → t.list ≡ working (encounter_of u a.context) (Ahead.worked p (encounter_of u a.context) a.stack))
    → ((t : Task) → task_of u a.context.task ≡ Some t → IsPassable t.frees) → KeepsThread p w m events u i (Moves.back_to_work p a)
works p w m events u i a f fs is thread has fits placed debug current bodies runs list front =
    let differs : DifferInBodies a (Moves.back_to_work p a) = working_differs p a in
    let first : IsFirst (Moves.back_to_work p a).counter = working_is_first p a f fs is in
    let (g, gs, stack) =
    some_frame (Moves.back_to_work p a).stack
    (working_of (λ c xs. IsGrounded xs) grounds_are_of_bodies p a (grounded p a.context a.stack has.bodies has.some)) in
    record {
      thread = differs.thread ∙ thread;
      fits = working_fits p a has fits;
      placed = working_is_placed p w a f fs is placed;
      stands = subst (StandsWith p u i (Moves.back_to_work p a)) (sym stack) (record {
        current = current ∙ ap (λ (c : Context). Some c.task) (sym differs.context);
        bodies = working_of (KeepsBodies p u i) (bodies_are_of_bodies p u i) p a bodies;
        ahead = λ t live.
            subst
            (λ (c : Context). IsAhead p (encounter_of u c) (Moves.back_to_work p a).stack (Moves.back_to_work p a).counter t.list)
            (sym differs.context)
            (subst (IsAhead p (encounter_of u a.context) (Moves.back_to_work p a).stack (Moves.back_to_work p a).counter)
            (sym (list t (subst (λ (c : Context). task_of u c.task ≡ Some t) differs.context live)))
            (working_ahead p (encounter_of u a.context) debug a f fs is));
        front = λ t live. first.front t.frees (front t (subst (λ (c : Context). task_of u c.task ≡ Some t) differs.context live));
      });
      runs = working_of (RunsFunctions u) (runs_are_of_bodies u) p a runs;
      row = first.row p w m u i (Moves.back_to_work p a);
      ended = first.ended events i;
    }

pub works_owing_nothing : (p : Program) (a : Actor) (f : Frame) (fs : List Frame) → a.stack ≡ f ∷ fs
    → owed (Moves.back_to_work p a) ≡ nothing
works_owing_nothing p a f fs is =
    (working_is_first p a f fs is).owes (Moves.back_to_work p a).context
    (Moves.back_to_work p a).gathered.team

-- ---- a task that starts without a state

pub settled_is_first : (p : Program) (a : Actor) (f : Frame) (fs : List Frame) → a.stack ≡ f ∷ fs
    → IsFirst (settled p a).counter
settled_is_first p a f fs is =
    subst (λ (b : Actor). IsFirst b.counter) (settled_forgets p a f fs (counter.Plain plain.Work) is)
    (settled_first p (at_counter (counter.Plain plain.Work) a) (plain_first plain.Work tt))

settled_is_placed : (p : Program) (w : List ℕ) (a : Actor) (f : Frame) (fs : List Frame) → a.stack ≡ f ∷ fs
    → AreContextsPlaced w a.context a.stack → IsPlaced w (settled p a)
settled_is_placed p w a f fs is placed =
    subst (IsPlaced w) (settled_forgets p a f fs (counter.Plain plain.Work) is)
    (steps_stay_placed p w (at_counter (counter.Plain plain.Work) a) plain.Work 0 (record { bodies = placed; counter = tt }) refl)

-- the thread's part where it goes on in the body of its task
pub settles : (p : Program) (w : List ℕ) (m : Memory) (events : List (ℕ × Event)) (u : State) (i : ℕ) (a : Actor) (f : Frame) (fs : List Frame)
    → a.stack ≡ f ∷ fs → a.thread ≡ i → HasTask p a
    → AreContextsPlaced w a.context a.stack → (encounter_of u a.context).debug ≡ p.env.debug → (u.threads i).current ≡ Some a.context.task → KeepsBodies p u i a.context a.stack → RunsFunctions u a.context a.stack
    → ((t : Task) → task_of u a.context.task ≡ Some t → t.list ≡ Ahead.ahead p (encounter_of u a.context) a.stack)
    → ((t : Task) → task_of u a.context.task ≡ Some t → IsPassable t.frees) → KeepsThread p w m events u i (settled p a)
settles p w m events u i a f fs is thread has placed debug current bodies runs list front =
    let differs : DifferInBodies a (settled p a) = settled_differs p a in
    let first : IsFirst (settled p a).counter = settled_is_first p a f fs is in
    let (g, gs, stack) =
    some_frame (settled p a).stack
    (settled_of (λ c xs. IsGrounded xs) grounds_are_of_bodies p a (grounded p a.context a.stack has.bodies has.some)) in
    record {
      thread = differs.thread ∙ thread;
      fits = settled_fits p a has;
      placed = settled_is_placed p w a f fs is placed;
      stands = subst (StandsWith p u i (settled p a)) (sym stack) (record {
        current = current ∙ ap (λ (c : Context). Some c.task) (sym differs.context);
        bodies = settled_of (KeepsBodies p u i) (bodies_are_of_bodies p u i) p a bodies;
        ahead = λ t live.
            subst
            (λ (c : Context). IsAhead p (encounter_of u c) (settled p a).stack (settled p a).counter t.list)
            (sym differs.context)
            (subst (IsAhead p (encounter_of u a.context) (settled p a).stack (settled p a).counter)
            (sym (list t (subst (λ (c : Context). task_of u c.task ≡ Some t) differs.context live)))
            (settled_ahead p (encounter_of u a.context) debug a f fs is));
        front = λ t live. first.front t.frees (front t (subst (λ (c : Context). task_of u c.task ≡ Some t) differs.context live));
      });
      runs = settled_of (RunsFunctions u) (runs_are_of_bodies u) p a runs;
      row = first.row p w m u i (settled p a);
      ended = first.ended events i;
    }

pub settles_owing_nothing : (p : Program) (a : Actor) (f : Frame) (fs : List Frame) → a.stack ≡ f ∷ fs
    → owed (settled p a) ≡ nothing
settles_owing_nothing p a f fs is =
    (settled_is_first p a f fs is).owes (settled p a).context (settled p a).gathered.team
