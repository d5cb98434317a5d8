-- The rule as a program starts.
use Rattle.std.proofs.Common.{◌≡◌, ◌<◌, ℕ, zero, suc, Bool, List, [], ◌∷◌, Some, refl, sym, ap, subst, ne_eqb, if◌then◌else◌}
use Rattle.omi_script.specs.declared.program.Program.{Program}
use Rattle.omi_model.specs.declared.progress.Progress.TheVariants as progress
use Rattle.omi_model.specs.declared.task.Task.{Task}
use Rattle.omi_model.specs.declared.thread.Thread.{Thread}
use Rattle.omi_model.specs.Opening.{initial_thread, opening, opening_region, opening_task, waiting_worker}
use Rattle.omi_model.specs.State.{task_of}
use Rattle.omi_model.proofs.OpeningObjects.{each_first_task}
use Rattle.omi_model.proofs.Slots.{some_same}
use Rattle.omi_layout.specs.Field.{regions, tasks}
use Rattle.omi_layout.specs.Memory.{memory_of}
use Rattle.omi_layout.specs.OpeningWords.{AreOpening}
use Rattle.omi_layout.specs.Place.{IsSlot}
use Rattle.omi_layout.specs.Valid.{IsValid}
use Rattle.omi_pc.specs.declared.actor.Actor.{Actor}
use Rattle.omi_pc.specs.declared.context.Context.{Context}
use Rattle.omi_pc.specs.declared.counter.Counter.TheVariants as counter
use Rattle.omi_pc.specs.declared.counter.PlainCounter.TheVariants as plain
use Rattle.omi_pc.specs.declared.frame.Opened.TheVariants.{Main}
use Rattle.omi_pc.specs.FitLaws.{DifferInBodies}
use Rattle.omi_pc.specs.Frames.{at_start}
use Rattle.omi_pc.specs.Opening.{initial_context, opening_actor, waiting_actor}
use Rattle.omi_pc.specs.Settle.{settled}
use Rattle.omi_pc.proofs.OpeningActors.{opened_fits}
use Rattle.omi_pc.proofs.Unmoved.{settled_differs}
use Rattle.omi_plain.proofs.StayPlaced.{steps_stay_placed}
use Rattle.omi_rep.specs.Shows.{IsWithin}
use Rattle.omi_rep.specs.Suits.{Suits}
use Rattle.omi_rep.proofs.Opened.{opening_shown}
use Rattle.omi_rule_words.proofs.Opened.{opening_kept}
use Rattle.omi_step_words.specs.Placed.{AreContextsPlaced, IsPlaced}
use Rattle.omi_rule.specs.Ahead.{IsAhead}
use Rattle.omi_rule.specs.Chains.{KeepsBodies, KeepsContext, IsPassable, StandsWith, encounter_of}
use Rattle.omi_rule.specs.Opens.{OpeningKeepsRule}
use Rattle.omi_rule.specs.Rule.{IsNewMember, KeepsThread}
use Rattle.omi_rule.proofs.BodyMoves.{settled_of}
use Rattle.omi_rule.proofs.Forgotten.{at_counter, settled_forgets}
use Rattle.omi_rule.proofs.OwnTask.{bodies_are_of_bodies}
use Rattle.omi_rule.proofs.Settling.{settled_ahead}
use Rattle.omi_rule.proofs.plain.Firsts.{IsFirst, IsGrounded, grounds_are_of_bodies, plain_first, settled_first, some_frame}
use Rattle.omi_rule.specs.Chains.{RunsFunctions}
use Rattle.omi_rule.proofs.Runs.{runs_are_of_bodies}

module _ (p : Program) (w words : List ℕ) (valid : IsValid w) (suits : Suits p w)
    (are : AreOpening p w words) where
  within : IsWithin w (opening p)
  within = (opening_shown p w words valid suits.threads are).within

  -- ---- thread 0

  abbrev a : Actor
  a = record (waiting_actor 0) { stack = at_start p.main Main ∷ [] }

  differs : DifferInBodies a (settled p a)
  differs = settled_differs p a

  first : IsFirst (settled p a).counter
  first =
      subst (λ (b : Actor). IsFirst b.counter)
      (settled_forgets p a (at_start p.main Main) [] (counter.Plain plain.Work) refl)
      (settled_first p (at_counter (counter.Plain plain.Work) a) (plain_first plain.Work tt))

  task_there : IsSlot w tasks 0 0
  task_there =
      let o = within.tasks 0 0 0 (opening_task p) refl in record { made_by = o.maker; within = o.place }

  region_there : IsSlot w regions 0 0
  region_there =
      let o = within.regions 0 0 0 (opening_region p) refl in record { made_by = o.maker; within = o.place }

  contexts : AreContextsPlaced w initial_context (at_start p.main Main ∷ [])
  contexts = (record { task = task_there; region = region_there; row = task_there }, tt)

  placed : IsPlaced w (settled p a)
  placed =
      subst (IsPlaced w) (settled_forgets p a (at_start p.main Main) [] (counter.Plain plain.Work) refl)
      (steps_stay_placed p w (at_counter (counter.Plain plain.Work) a) plain.Work 0 (record { bodies = contexts; counter = tt }) refl)

  context : KeepsContext (opening p) 0 initial_context
  context = record {
    task = opening_task p;
    live = refl;
    begun = refl;
    thread = refl;
    implicit = refl;
    region_is = refl;
    number = refl;
    final = refl;
    exit = refl;
    region = opening_region p;
    found = refl;
    size = refl;
    row = refl;
    arrivals = refl;
    groups = refl;
  }

  thread_0 : 0 < p.threads → KeepsThread p w (memory_of w words) [] (opening p) 0 (opening_actor p 0)
  thread_0 known =
      let (f, fs, stack) =
      some_frame (settled p a).stack
      (settled_of (λ c xs. IsGrounded xs) grounds_are_of_bodies p a (λ called. absurd (cc called))) in
      record {
        thread = differs.thread;
        fits = opened_fits p 0 known;
        placed = placed;
        stands = subst (StandsWith p (opening p) 0 (settled p a)) (sym stack) (record {
          current = ap (λ (c : Context). Some c.task) (sym differs.context);
          bodies = settled_of (KeepsBodies p (opening p) 0) (bodies_are_of_bodies p (opening p) 0) p a (context, (refl, refl), context);
          ahead = λ t live.
              subst
              (λ (c : Context). IsAhead p (encounter_of (opening p) c) (settled p a).stack (settled p a).counter t.list)
              (sym differs.context)
              (subst (λ (x : Task). IsAhead p (encounter_of (opening p) initial_context) (settled p a).stack (settled p a).counter x.list)
              (some_same refl (subst (λ (c : Context). task_of (opening p) c.task ≡ Some t) differs.context live))
              (settled_ahead p (encounter_of (opening p) initial_context) refl a (at_start p.main Main) [] refl));
          front = λ t live.
              first.front t.frees
              (subst (λ (x : Task). IsPassable x.frees) (some_same refl (subst (λ (c : Context). task_of (opening p) c.task ≡ Some t) differs.context live)) tt);
        });
        runs = settled_of (RunsFunctions (opening p)) (runs_are_of_bodies (opening p)) p a (λ opens t live. ap (λ (x : Task). x.function) (some_same {x = t} live refl), tt);
        row = first.row p w (memory_of w words) (opening p) 0 (settled p a);
        ended = first.ended [] 0;
      }

  -- ---- the others

  worker_is : (i : ℕ) → (opening p).threads (suc i) ≡ waiting_worker
  worker_is i =
      ap (λ (b : Bool). if b then initial_thread else waiting_worker)
      (ne_eqb (suc i) 0 (λ same. absurd (cc same)))

  thread_waits : (i : ℕ) → suc i < p.threads
      → KeepsThread p w (memory_of w words) [] (opening p) (suc i) (waiting_actor (suc i))
  thread_waits i known = record {
    thread = refl;
    fits = opened_fits p (suc i) known;
    placed = record { bodies = tt; counter = tt };
    stands = record { current = ap (λ (h : Thread). h.current) (worker_is i); ahead = ap (λ (h : Thread). h.list) (worker_is i) };
    runs = tt;
    row = ap (λ (h : Thread). h.begun) (worker_is i);
    ended = tt;
  }

  threads_are : (i : ℕ) → i < p.threads
      → KeepsThread p w (memory_of w words) [] (opening p) i (opening_actor p i)
  threads_are zero known = thread_0 known
  threads_are (suc i) known = thread_waits i known

pub opening_keeps : OpeningKeepsRule
opening_keeps = λ p w words valid suits are. record {
  reached = refl;
  within = within p w words valid suits are;
  words = opening_kept p w words valid suits are;
  waiting = λ k t live waits. each_first_task p (λ k t. t.progress ≡ progress.NotBegun → IsNewMember p t) (λ e. absurd (cc e)) k t live waits;
  threads = threads_are p w words valid suits are;
}
