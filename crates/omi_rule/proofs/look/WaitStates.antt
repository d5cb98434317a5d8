-- A thread that goes back to a wait stores its state.
use Rattle.std.proofs.Common.{◌≡◌, ◌<◌, ℕ, List, Some, refl, ap, ◌∙◌, arith}
use Rattle.omi_script.specs.declared.program.Program.{Program}
use Rattle.omi_model.specs.declared.encounter.Encounter.{Encounter}
use Rattle.omi_model.specs.declared.event.Event.{Event}
use Rattle.omi_model.specs.declared.event.Event.TheVariants as event
use Rattle.omi_model.specs.declared.item.Item.{Item}
use Rattle.omi_model.specs.declared.item.Item.TheVariants as item
use Rattle.omi_model.specs.Lists.{take_item}
use Rattle.omi_model.specs.State.{State}
use Rattle.omi_layout.specs.Memory.{Memory}
use Rattle.omi_pc.specs.declared.actor.Actor.{Actor}
use Rattle.omi_pc.specs.declared.counter.Counter.{Counter}
use Rattle.omi_pc.specs.declared.counter.Counter.TheVariants as counter
use Rattle.omi_pc.specs.declared.frame.Barrier.TheVariants.{Explicit, Implicit}
use Rattle.omi_pc.specs.declared.frame.Wait.{Wait}
use Rattle.omi_pc.specs.declared.frame.Wait.TheVariants as wait
use Rattle.omi_pc.specs.declared.task_counter.LookCounter.TheVariants as look
use Rattle.omi_pc.specs.Fits.{IsBack, StoresWait, slots_of}
use Rattle.omi_task.specs.LookSteps.{look_moved, look_next, look_outcome, wait_state}
use Rattle.omi_rule.specs.Ahead as Ahead
use Rattle.omi_rule.specs.Steps.{StepKeeps}
use Rattle.omi_rule.proofs.Assembly.{Before}
use Rattle.omi_rule.proofs.barrier.AtCounter.{ahead_is, fits_counter, here, is_context, sees}
use Rattle.omi_rule.proofs.barrier.StateStores.{is_on, on_state, stores_state}

module _ (p : Program) (w : List ℕ) (m : Memory) (events : List (ℕ × Event)) (s : State) (actors : ℕ → Actor)
    (i : ℕ) (before : Before p w m events s actors i) (v : Wait)
    (at : (actors i).counter ≡ counter.Look (look.State v)) where
  abbrev a : Actor
  a = actors i

  abbrev standing : Counter
  standing = counter.Look (look.State v)

  abbrev At : Encounter
  At = sees p w m events s actors i before standing at tt

  abbrev behind : List Item
  behind = Ahead.waiting p At a.stack v

  fits : IsBack p a (Some v) × StoresWait v
  fits = fits_counter p w m events s actors i before standing at tt

  take_state : (x : Wait) → StoresWait x
      → take_item p At (event.State (wait_state x) 0) (Ahead.showing_wait p At a.stack x) ≡ Some (item.State (wait_state x) 0, Ahead.waiting p At a.stack x)
  take_state (wait.Barrier Explicit) stores = refl
  take_state (wait.Barrier Implicit) stores = refl
  take_state wait.Taskwait stores = refl
  take_state wait.Taskyield stores = absurd stores
  take_state wait.Taskgroup stores = refl

  taken : take_item p At (event.State (wait_state v) 0) (here p w m events s actors i before standing at tt).task.list ≡ Some (item.State (wait_state v) 0, behind)
  taken =
      ap (λ xs. take_item p At (event.State (wait_state v) 0) xs)
      (ahead_is p w m events s actors i before standing at tt)
      ∙ take_state v fits.1

  some_slot : 0 < slots_of a
  some_slot =
      let some = (is_context p w m events s actors i before standing at tt).size.0 in omega (arith, some)

  pub wait_state_keeps : StepKeeps p w m events s actors i (look_next w (actors i) (look.State v)) (λ old. (look_moved p w (actors i) (look.State v) old, look_outcome w (actors i) (look.State v) old))
  wait_state_keeps = (
    on_state p w m events s actors i before standing at tt refl (wait_state v) behind (counter.Look (look.LoadRow v 0)),
    is_on p w m events s actors i before standing at tt refl (wait_state v) behind (counter.Look (look.LoadRow v 0)),
    stores_state p w m events s actors i before standing at tt refl (wait_state v) behind
        (counter.Look (look.LoadRow v 0)) taken
        (record { fits = ((fits.0, some_slot), refl); placed = tt; ahead = refl; front = tt; owes = refl; row = tt; ended = tt }),
  )
