-- What the code answers of a thread's next step, by what is known of the thread.
use Rattle.std.proofs.Common.{◌≡◌, ◌≤◌, ℕ, List, sym, ap, ◌∙◌, subst, arith}
use Rattle.omi_script.specs.declared.program.Program.{Program}
use Rattle.omi_layout.specs.declared.layout.Layout.{Layout}
use Rattle.omi_pc.specs.declared.actor.Actor.{Actor}
use Rattle.omi_rep.specs.declared.outcome.Outcome.{Outcome}
use Rattle.omi_actor.specs.Steps.{next_of, resumed_at}
use Rattle.omi_seat.specs.Behind.{CanStep}
use Rattle.omi_seat.specs.Known.{actor_known, entry_known}
use Rattle.omi_seat.specs.declared.known.Known.{Known}
use Rattle.omi_seat.specs.declared.step_log.StepLog.{StepLog}
use Rattle.omi_seat.specs.StepLog.{HasRoom, IsLogOf}

module _ (p : Program) (l : Layout) (x : Known) (log : StepLog) (w : IsLogOf p l x log) where
  pub table_is : x.layout.table ≡ l.table
  table_is = ap (λ (z : Layout). z.table) w.layout

  pub next_is : next_of p l.table log.actor ≡ next_of x.program x.layout.table (actor_known x)
  next_is = λ k. next_of (sym w.program k) (sym table_is k) (w.actor k)

  pub resumed_is : (n : ℕ)
      → resumed_at p l.table log.actor log.actor.counter n ≡ resumed_at x.program x.layout.table (actor_known x) (actor_known x).counter n
  resumed_is n = λ k. resumed_at (sym w.program k) (sym table_is k) (w.actor k) (w.actor k).counter n

  pub outcome_is : (n : ℕ) (out : Outcome)
      → out ≡ (resumed_at p l.table log.actor log.actor.counter n).1
      → out ≡ (entry_known x n).outcome
  outcome_is n out is = is ∙ ap (λ (z : Actor × Outcome). z.1) (resumed_is n)

  -- the actor may make its next step
  pub can_step : CanStep x.program x.layout.table (actor_known x)
      → CanStep p l.table log.actor
  can_step able =
      subst (λ (z : Program × List ℕ × Actor). CanStep z.0 z.1 z.2)
      (λ k. (w.program k, table_is k, sym w.actor k)) able

-- room for fewer steps
pub less_room : (n m : ℕ) (x : Known) (log : StepLog) → n ≤ m → HasRoom m x log → HasRoom n x log
less_room n m x log less room =
    let events = room.events in
    record {
      made = λ is. let made = room.made is in omega (arith, less, made);
      events = omega (arith, less, events);
    }
