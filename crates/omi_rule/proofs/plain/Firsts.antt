-- The counter behind a move between statements owes nothing, its row says nothing, and its thread has not ended; and some body is open.
use Rattle.std.proofs.Common.{◌≡◌, ◌<◌, ℕ, inl, inr, List, [], ◌∷◌, length, Option, refl, arith}
use Rattle.omi_script.specs.declared.program.Program.{Program}
use Rattle.omi_script.specs.declared.statement.Stmt.{Stmt}
use Rattle.omi_script.specs.declared.statement.Stmt.TheVariants as stmt
use Rattle.omi_model.specs.declared.event.Event.{Event}
use Rattle.omi_model.specs.declared.freeable.Freeable.{Freeable}
use Rattle.omi_model.specs.declared.id.Tid.{Tid}
use Rattle.omi_model.specs.State.{State}
use Rattle.omi_layout.specs.Memory.{Memory}
use Rattle.omi_pc.specs.declared.actor.Actor.{Actor}
use Rattle.omi_pc.specs.declared.context.Context.{Context}
use Rattle.omi_pc.specs.declared.counter.Counter.{Counter}
use Rattle.omi_pc.specs.declared.counter.Counter.TheVariants as counter
use Rattle.omi_pc.specs.declared.counter.PlainCounter.{PlainCounter}
use Rattle.omi_pc.specs.declared.counter.PlainCounter.TheVariants as plain
use Rattle.omi_pc.specs.declared.frame.Frame.{Frame}
use Rattle.omi_pc.specs.declared.frame.Opened.{Opened}
use Rattle.omi_pc.specs.declared.frame.Opened.TheVariants as opened
use Rattle.omi_pc.specs.Moves.{returned, worked, back_to_work}
use Rattle.omi_pc.specs.OpenBodies.{AreOpen, IsAt, IsCalled, StandsOn}
use Rattle.omi_pc.specs.Settle.{settled}
use Rattle.omi_pc.proofs.NextCounters.{HoldsNext, IsBefore, returned_next, settled_next, worked_next, working_next}
use Rattle.omi_rule_words.specs.Owes.{nothing, owed_at}
use Rattle.omi_rule.specs.Chains.{IsFront, IsPassable}
use Rattle.omi_rule.specs.Rows.{KeepsRow}
use Rattle.omi_rule.specs.Rule.{HasEnded}
use Rattle.omi_rule.proofs.BodyMoves.{IsOfBodies}

-- ---- counters

pub record IsFirst (x : Counter) : Type 0 where
  pub owes : (c : Context) (members : List (Tid × ℕ)) → owed_at c members x ≡ nothing
  pub row : (p : Program) (w : List ℕ) (m : Memory) (s : State) (i : ℕ) (a : Actor) → KeepsRow p w m s i a x
  pub ended : (events : List (ℕ × Event)) (i : ℕ) → HasEnded events i x
  pub front : (o : Option Freeable) → IsPassable o → IsFront x o

pub plain_first : (c : PlainCounter) → IsBefore c → IsFirst (counter.Plain c)
plain_first plain.Work b = record { owes = λ c ms. refl; row = λ p w m s i a. tt; ended = λ events i. tt; front = λ o may. may }
plain_first plain.Call b = record { owes = λ c ms. refl; row = λ p w m s i a. tt; ended = λ events i. tt; front = λ o may. may }
plain_first plain.Skip b = record { owes = λ c ms. refl; row = λ p w m s i a. tt; ended = λ events i. tt; front = λ o may. may }
plain_first plain.Return b = record { owes = λ c ms. refl; row = λ p w m s i a. tt; ended = λ events i. tt; front = λ o may. may }
plain_first plain.Set b = record { owes = λ c ms. refl; row = λ p w m s i a. tt; ended = λ events i. tt; front = λ o may. may }
plain_first plain.Tool b = record { owes = λ c ms. refl; row = λ p w m s i a. tt; ended = λ events i. tt; front = λ o may. may }
plain_first plain.Enter b = record { owes = λ c ms. refl; row = λ p w m s i a. tt; ended = λ events i. tt; front = λ o may. may }
plain_first plain.Leave b = record { owes = λ c ms. refl; row = λ p w m s i a. tt; ended = λ events i. tt; front = λ o may. may }
plain_first plain.WorkState b = record { owes = λ c ms. refl; row = λ p w m s i a. tt; ended = λ events i. tt; front = λ o may. may }
plain_first plain.LockState b = record { owes = λ c ms. refl; row = λ p w m s i a. tt; ended = λ events i. tt; front = λ o may. may }
plain_first plain.Lock b = record { owes = λ c ms. refl; row = λ p w m s i a. tt; ended = λ events i. tt; front = λ o may. may }
plain_first plain.Unlock b = record { owes = λ c ms. refl; row = λ p w m s i a. tt; ended = λ events i. tt; front = λ o may. may }
plain_first plain.GroupBegin b = record { owes = λ c ms. refl; row = λ p w m s i a. tt; ended = λ events i. tt; front = λ o may. may }
plain_first plain.Done b = record { owes = λ c ms. refl; row = λ p w m s i a. tt; ended = λ events i. tt; front = λ o may. may }
plain_first plain.Ended b = absurd b

first_next : HoldsNext IsFirst
first_next = record {
  plain = plain_first;
  state = record { owes = λ c ms. refl; row = λ p w m s i b. tt; ended = λ events i. tt; front = λ o may. may };
  arrive = record { owes = λ c ms. refl; row = λ p w m s i b. tt; ended = λ events i. tt; front = λ o may. may };
  finish = record { owes = λ c ms. refl; row = λ p w m s i b. tt; ended = λ events i. tt; front = λ o may. may };
}

module _ (p : Program) where
  pub settled_first : (a : Actor) → IsFirst a.counter → IsFirst (settled p a).counter
  settled_first a was = settled_next IsFirst first_next p a (λ none. was)

  pub worked_first : (a : Actor) → IsFirst a.counter → IsFirst (worked p a).counter
  worked_first a was = worked_next IsFirst first_next p a (λ none. was)

  pub working_first : (a : Actor) → IsFirst a.counter → IsFirst (back_to_work p a).counter
  working_first a was = working_next IsFirst first_next p a (λ none. was)

  pub returned_first : (a : Actor) → IsFirst a.counter → IsFirst (returned p a).counter
  returned_first a was = returned_next IsFirst first_next p a was

-- ---- some body is open

-- some body is open, and so under each body that a statement opened
abbrev pub IsGrounded : List Frame → Type 0
IsGrounded [] = ⊥
IsGrounded (f ∷ fs) = IsCalled f.opened → IsGrounded fs

pub grounds_are_of_bodies : IsOfBodies (λ c fs. IsGrounded fs)
grounds_are_of_bodies = record {
  advances = λ c f fs o. o;
  calls = λ c g x f fs called o. λ _. o;
  returns = λ c f fs called o. o called;
  again = λ c f left fs called o. λ _. o called;
}

pub some_frame : (fs : List Frame) → IsGrounded fs → (f : Frame) × (gs : List Frame) × (fs ≡ f ∷ gs)
some_frame [] o = absurd o
some_frame (f ∷ gs) o = (f, gs, refl)

some_at : (p : Program) (fs : List Frame) (s : Stmt) → IsAt p fs s → 0 < length fs
some_at p [] s at = absurd (cc)
some_at p (f ∷ fs) s at = omega arith

some_under : (p : Program) (c : Context) (g : ℕ) (fs : List Frame) (o : Opened) → IsCalled o
    → StandsOn p c g fs o → 0 < length fs
some_under p c g fs opened.Main called on = absurd (cc called)
some_under p c g fs opened.Worker called on = absurd (cc called)
some_under p c g fs (opened.Master saved) called on = absurd (cc called)
some_under p c g fs (opened.Task w saved) called on = absurd (cc called)
some_under p c g fs opened.Call called (inl at) = some_at p fs (stmt.Call g) at
some_under p c g fs opened.Call called (inr at) = some_at p fs (stmt.Only c.number g) at
some_under p c g fs (opened.Repeat left) called (n, at, some, few) = some_at p fs (stmt.Repeat n g) at
some_under p c g fs (opened.Critical k) called at = some_at p fs (stmt.Critical k g) at
some_under p c g fs opened.Taskgroup called at = some_at p fs (stmt.Taskgroup g) at

pub grounded : (p : Program) (c : Context) (fs : List Frame) → AreOpen p c fs → 0 < length fs → IsGrounded fs
grounded p c [] bodies some = absurd (omega (arith, some))
grounded p c (f ∷ fs) (o, rest) some =
    λ called. grounded p _ fs rest (some_under p c f.function fs f.opened called o.stands)
