-- The end of the program: thread 0 commits it, and makes the same step again from then on.
use Rattle.std.proofs.Common.{lit<, ◌≡◌, ℕ, List, [], ◌∷◌, ◌++◌, Some, refl, sym, ◌∙◌, subst}
use Rattle.std.proofs.lemmas.List.Elements.{Contains-append_right}
use Rattle.omi_script.specs.declared.program.Program.{Program}
use Rattle.omi_model.specs.declared.event.Event.{Event}
use Rattle.omi_model.specs.declared.event.Event.TheVariants as event
use Rattle.omi_model.specs.declared.id.Tid.{Tid}
use Rattle.omi_model.specs.declared.item.Item.TheVariants as item
use Rattle.omi_model.specs.declared.task.Task.{Task}
use Rattle.omi_model.specs.Opening.{initial_task, opening, opening_task}
use Rattle.omi_model.specs.Reached.{Reached}
use Rattle.omi_model.specs.State.{State, task_of}
use Rattle.omi_model.proofs.StaysLater.{stay}
use Rattle.omi_layout.specs.Memory.{Memory, replace_at}
use Rattle.omi_pc.specs.declared.actor.Actor.{Actor}
use Rattle.omi_pc.specs.declared.counter.Counter.{Counter}
use Rattle.omi_pc.specs.declared.counter.Counter.TheVariants as counter
use Rattle.omi_pc.specs.declared.counter.PlainCounter.TheVariants as plain
use Rattle.omi_pc.specs.declared.frame.Frame.{Frame}
use Rattle.omi_pc.specs.declared.frame.Opened.{Opened}
use Rattle.omi_pc.specs.declared.frame.Opened.TheVariants as bodies
use Rattle.omi_pc.specs.OpenBodies.{IsAtEnd, IsMain}
use Rattle.omi_pc.specs.Settle.{goes_to}
use Rattle.omi_plain.specs.PlainSteps.{loading_native, plain_moved, plain_next, plain_outcome}
use Rattle.omi_plain.proofs.StayPlaced.{steps_stay_placed}
use Rattle.omi_rep.specs.declared.outcome.Outcome.TheVariants as outcome
use Rattle.omi_step_words.specs.Words.{of_thread}
use Rattle.omi_layout.specs.declared.field.Field.TheVariants.{ThreadNative}
use Rattle.omi_rule.specs.Chains.{KeepsBodies, KeepsBody}
use Rattle.omi_rule.specs.Rule.{HasEnded, Rule}
use Rattle.omi_rule.specs.Steps.{StepKeeps, left_in}
use Rattle.omi_rule.proofs.Assembly.{Before, load_stays}
use Rattle.omi_rule.proofs.OwnTask.{top}
use Rattle.omi_rule.proofs.plain.OwnEvents.{GoesOn, fits_counter}
use Rattle.omi_rule.proofs.plain.Loads.{here, load_keeps, loads_native, native, native_on, on_ground, sees}

-- the initial task runs on thread 0
first_runs : (p : Program) (events : List (ℕ × Event)) (s : State) → Reached p events s → (t : Task)
    → task_of s initial_task ≡ Some t → t.thread ≡ 0
first_runs p events s reached t live =
    ((stay p [] events (opening p) s refl reached).alike initial_task (opening_task p) t refl live).thread (λ e. cc e)

module _ (p : Program) (w : List ℕ) (m : Memory) (events : List (ℕ × Event)) (s : State) (actors : ℕ → Actor)
    (i : ℕ) (before : Before p w m events s actors i) where
  -- the body of `main` is that of the initial task
  of_main : (fs : List Frame) → IsAtEnd p IsMain fs → KeepsBodies p s i (actors i).context fs
      → (actors i).context.task ≡ initial_task
  of_main [] end all = absurd end
  of_main (f ∷ fs) end all = go f.opened end.1 all.1
    where
      go : (x : Opened) → IsMain x → KeepsBody p s (actors i).context x fs
          → (actors i).context.task ≡ initial_task
      go bodies.Main main keeps = keeps.0
      go _ main keeps = absurd main

  main_is_first : (actors i).counter ≡ counter.Plain plain.Done → i ≡ 0
  main_is_first at_counter =
      let o = here p w m events s actors i before plain.Done at_counter in
      let t = top p s i (actors i) o in
      let is : (actors i).context.task ≡ initial_task =
      of_main (actors i).stack (fits_counter p w m events s actors i before plain.Done at_counter) o.bodies in
      sym t.thread
      ∙ first_runs p events s before.rule.reached t.task
      (subst (λ (k : Tid). task_of s k ≡ Some t.task) is t.live)

  pub done_keeps : (actors i).counter ≡ counter.Plain plain.Done
      → StepKeeps p w m events s actors i (plain_next p w (actors i) plain.Done)
      (λ old. (plain_moved p (actors i) plain.Done old, plain_outcome p w (actors i) plain.Done old))
  done_keeps at_counter =
      let own = before.rule.threads i before.known in
      let goes : GoesOn p w i (sees p w m events s actors i before plain.Done at_counter) (actors i) (goes_to plain.Ended (actors i)) [] = record {
        differs = record { thread = refl; context = refl; gathered = refl };
        fits = record { thread = own.fits.thread; variables = own.fits.variables; bodies = own.fits.bodies; counter = fits_counter p w m events s actors i before plain.Done at_counter };
        placed = steps_stay_placed p w (actors i) plain.Done 0 own.placed at_counter;
        grounded = on_ground p w m events s actors i before plain.Done at_counter;
        owes = refl;
        row = λ n u o. tt;
        bodies = λ u o. o;
        runs = λ u o. o;
        ahead = refl;
        front = λ o may. may;
      } in (
        native p w m events s actors i before,
        native_on p w m events s actors i before,
        load_keeps p w m events s actors i before plain.Done at_counter (goes_to plain.Ended (actors i))
            (outcome.Event event.Done) event.Done item.Done [] refl (λ x. x) (λ f e. absurd (cc e))
            refl (main_is_first at_counter) refl (λ z. refl)
            (loads_native p w m events s actors i before) goes
            (Contains-append_right events ((i, event.Done) ∷ []) (i, event.Done) (0, lit< tt, refl)),
      )

  -- nothing is left to do
  pub ended_keeps : (actors i).counter ≡ counter.Plain plain.Ended
      → StepKeeps p w m events s actors i (plain_next p w (actors i) plain.Ended)
      (λ old. (plain_moved p (actors i) plain.Ended old, plain_outcome p w (actors i) plain.Ended old))
  ended_keeps at_counter =
      let own = before.rule.threads i before.known in
      let x = native p w m events s actors i before in
      let stays = load_stays p w m events s actors i before (of_thread w (actors i).thread ThreadNative) x (actors i) refl own in (
        x,
        native_on p w m events s actors i before,
        record {
          next = s;
          leads = (refl, subst (λ (d : Counter). HasEnded events i d) at_counter own.ended);
          comes = tt;
          rule = subst (λ (z : State). Rule p w (left_in m (loading_native w (actors i)) x) (events ++ []) z (replace_at actors i (actors i))) stays.leads stays.rule;
        },
      )
