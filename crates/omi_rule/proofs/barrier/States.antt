-- A member that is to wait at a barrier stores its state.
use Rattle.std.proofs.Common.{◌≡◌, ℕ, List, ◌∷◌, Some, refl, ap, ◌∙◌}
use Rattle.omi_script.specs.declared.program.Program.{Program}
use Rattle.omi_model.specs.declared.encounter.Encounter.{Encounter}
use Rattle.omi_model.specs.declared.event.Event.{Event}
use Rattle.omi_model.specs.declared.event.Event.TheVariants as event
use Rattle.omi_model.specs.declared.item.Item.{Item}
use Rattle.omi_model.specs.declared.item.Item.TheVariants as item
use Rattle.omi_model.specs.Lists.{take_item}
use Rattle.omi_model.specs.State.{State}
use Rattle.omi_layout.specs.Memory.{Memory}
use Rattle.omi_pc.specs.declared.actor.Actor.{Actor}
use Rattle.omi_pc.specs.declared.counter.Counter.TheVariants as counter
use Rattle.omi_pc.specs.declared.frame.Barrier.{Barrier}
use Rattle.omi_pc.specs.declared.frame.Barrier.TheVariants.{Explicit, Implicit}
use Rattle.omi_pc.specs.declared.team_counter.BarrierCounter.{BarrierCounter}
use Rattle.omi_pc.specs.declared.team_counter.BarrierCounter.TheVariants as barrier
use Rattle.omi_fork.specs.BarrierSteps.{barrier_moved, barrier_next, barrier_outcome, barrier_state}
use Rattle.omi_rule.specs.Ahead as Ahead
use Rattle.omi_rule.specs.Steps.{StepKeeps}
use Rattle.omi_rule.proofs.Assembly.{Before}
use Rattle.omi_rule.proofs.barrier.AtBarrier.{fits_barrier, list_is}
use Rattle.omi_rule.proofs.barrier.AtCounter.{here, sees}
use Rattle.omi_rule.proofs.barrier.StateStores.{is_on, on_state, stores_state}

module _ (p : Program) (w : List ℕ) (m : Memory) (events : List (ℕ × Event)) (s : State) (actors : ℕ → Actor)
    (i : ℕ) (before : Before p w m events s actors i) (b : Barrier)
    (at : (actors i).counter ≡ counter.Barrier (barrier.State b)) where
  abbrev a : Actor
  a = actors i

  abbrev c : BarrierCounter
  c = barrier.State b

  abbrev At : Encounter
  At = sees p w m events s actors i before (counter.Barrier c) at tt

  abbrev behind : List Item
  behind = item.Arrive ∷ Ahead.arrived p At a.stack b

  take_state : (b : Barrier) (xs : List Item)
      → take_item p At (event.State (barrier_state b) 0) (item.State (Ahead.barrier_state b) 0 ∷ xs) ≡ Some (item.State (barrier_state b) 0, xs)
  take_state Explicit xs = refl
  take_state Implicit xs = refl

  taken : take_item p At (event.State (barrier_state b) 0) (here p w m events s actors i before (counter.Barrier c) at tt).task.list ≡ Some (item.State (barrier_state b) 0, behind)
  taken =
      ap (λ xs. take_item p At (event.State (barrier_state b) 0) xs)
      (list_is p w m events s actors i before c at)
      ∙ take_state b behind

  pub state_keeps : StepKeeps p w m events s actors i (barrier_next w (actors i) (barrier.State b)) (λ old. (barrier_moved p (actors i) (barrier.State b) old, barrier_outcome w (actors i) (barrier.State b) old))
  state_keeps = (
    on_state p w m events s actors i before (counter.Barrier c) at tt refl (barrier_state b) behind (counter.Barrier (barrier.Arrive b)),
    is_on p w m events s actors i before (counter.Barrier c) at tt refl (barrier_state b) behind (counter.Barrier (barrier.Arrive b)),
    stores_state p w m events s actors i before (counter.Barrier c) at tt refl (barrier_state b) behind
        (counter.Barrier (barrier.Arrive b)) taken
        (record { fits = fits_barrier p w m events s actors i before c at; placed = tt; ahead = refl; front = tt; owes = refl; row = tt; ended = tt }),
  )
