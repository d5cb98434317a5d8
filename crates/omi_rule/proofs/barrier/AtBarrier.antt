-- A thread at a barrier: how its counter fits, its row and its list.
use Rattle.std.proofs.Common.{◌≡◌, ℕ, List}
use Rattle.omi_script.specs.declared.program.Program.{Program}
use Rattle.omi_model.specs.declared.event.Event.{Event}
use Rattle.omi_model.specs.State.{State}
use Rattle.omi_layout.specs.Memory.{Memory}
use Rattle.omi_pc.specs.declared.actor.Actor.{Actor}
use Rattle.omi_pc.specs.declared.counter.Counter.TheVariants as counter
use Rattle.omi_pc.specs.declared.team_counter.BarrierCounter.{BarrierCounter}
use Rattle.omi_pc.specs.Fits.{FitsBarrier}
use Rattle.omi_rule.specs.Ahead.{barrier_ahead}
use Rattle.omi_rule.specs.Rows.{KeepsBarrierRow}
use Rattle.omi_rule.proofs.Assembly.{Before}
use Rattle.omi_rule.proofs.barrier.AtCounter.{ahead_is, fits_counter, here, row_is, sees}

module _ (p : Program) (w : List ℕ) (m : Memory) (events : List (ℕ × Event)) (s : State) (actors : ℕ → Actor)
    (i : ℕ) (before : Before p w m events s actors i) (c : BarrierCounter)
    (at : (actors i).counter ≡ counter.Barrier c) where
  pub fits_barrier : FitsBarrier p (actors i) c
  fits_barrier = fits_counter p w m events s actors i before (counter.Barrier c) at tt

  pub row : KeepsBarrierRow s (actors i) c
  row = row_is p w m events s actors i before (counter.Barrier c) at tt

  pub list_is : (here p w m events s actors i before (counter.Barrier c) at tt).task.list ≡ barrier_ahead p (sees p w m events s actors i before (counter.Barrier c) at tt) (actors i).stack c
  list_is = ahead_is p w m events s actors i before (counter.Barrier c) at tt
