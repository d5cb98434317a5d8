-- The counters to which a thread comes by a move between statements: what holds at each of them holds behind the move.
use Rattle.std.proofs.Common.{◌≡◌, ◌==◌, ℕ, zero, suc, Bool, true, false, List, [], ◌∷◌, Option, Some, None, refl, if◌then◌else◌}
use Rattle.omi_script.specs.declared.program.Program.{Program}
use Rattle.omi_script.specs.declared.statement.Stmt.{Stmt}
use Rattle.omi_model.specs.declared.shape.Shape.{Shape}
use Rattle.omi_model.specs.declared.shape.Shape.TheVariants as shape
use Rattle.omi_model.specs.Shapes.{shape_of}
use Rattle.omi_pc.specs.declared.actor.Actor.{Actor}
use Rattle.omi_pc.specs.declared.counter.Counter.{Counter}
use Rattle.omi_pc.specs.declared.counter.Counter.TheVariants as counter
use Rattle.omi_pc.specs.declared.counter.PlainCounter.{PlainCounter}
use Rattle.omi_pc.specs.declared.counter.PlainCounter.TheVariants as plain
use Rattle.omi_pc.specs.declared.frame.Barrier.TheVariants.{Implicit}
use Rattle.omi_pc.specs.declared.frame.Frame.{Frame}
use Rattle.omi_pc.specs.declared.frame.Opened.{Opened}
use Rattle.omi_pc.specs.declared.frame.Opened.TheVariants as opened
use Rattle.omi_pc.specs.declared.task_counter.FinishCounter.TheVariants.{Finish}
use Rattle.omi_pc.specs.declared.team_counter.BarrierCounter.TheVariants as barrier
use Rattle.omi_pc.specs.Frames.{advanced, next_statement}
use Rattle.omi_pc.specs.Moves.{next_round, returned, returned_by, returned_in, worked, worked_at, worked_in, back_to_work}
use Rattle.omi_pc.specs.Settle.{statement_begun, begun_by, calling, ended, ending_member, goes_to, settled, settled_by, settled_in, skipping}

-- all plain counters but the last
abbrev pub IsBefore : PlainCounter → Type 0
IsBefore plain.Ended = ⊥
IsBefore c = Unit {0}

-- a statement begins with a plain counter
module _ (P : Counter → Type 0) (at_plain : (c : PlainCounter) → IsBefore c → P (counter.Plain c)) where
  begun_by_next : (q : Shape) (a : Actor) → P (begun_by q a).counter
  begun_by_next (shape.Call f) a = at_plain plain.Call tt
  begun_by_next (shape.Only m f) a = go (a.context.number == m)
    where
      go : (b : Bool) → P (if b then calling f opened.Call a else skipping a).counter
      go true = at_plain plain.Call tt
      go false = at_plain plain.Skip tt
  begun_by_next (shape.Repeat zero f) a = at_plain plain.Skip tt
  begun_by_next (shape.Repeat (suc n) f) a = at_plain plain.Call tt
  begun_by_next (shape.Taskgroup f) a = at_plain plain.GroupBegin tt
  begun_by_next (shape.Sets variable word) a = at_plain plain.Set tt
  begun_by_next (shape.Tool x) a = at_plain plain.Tool tt
  begun_by_next shape.Work a = at_plain plain.Work tt
  begun_by_next q a = at_plain plain.Enter tt

  pub begun_next : (s : Stmt) (a : Actor) → P (statement_begun s a).counter
  begun_next s a = begun_by_next (shape_of s) a

-- and a body ends at one of these
pub record HoldsNext (P : Counter → Type 0) : Type 0 where
  pub plain : (c : PlainCounter) → IsBefore c → P (counter.Plain c)
  pub state : P (counter.Barrier (barrier.State Implicit))
  pub arrive : P (counter.Barrier (barrier.Arrive Implicit))
  pub finish : P (counter.Finish Finish)

module _ (P : Counter → Type 0) (next : HoldsNext P) where
  member_next : (debug : Bool) (a : Actor) → P (ending_member debug a).counter
  member_next true a = next.state
  member_next false a = next.arrive

  ended_next : (debug : Bool) (o : Opened) (a : Actor) → P (ended debug o a).counter
  ended_next debug opened.Main a = member_next debug a
  ended_next debug opened.Worker a = member_next debug a
  ended_next debug (opened.Master saved) a = member_next debug a
  ended_next debug (opened.Task wait saved) a = next.finish
  ended_next debug o a = next.plain plain.Return tt

  module _ (p : Program) where
    settled_by_next : (a : Actor) (f : Frame) (fs : List Frame) (s : Option Stmt)
        → P (settled_by p a f fs s).counter
    settled_by_next a f fs (Some s) = begun_next P next.plain s (record a { stack = advanced f ∷ fs })
    settled_by_next a f fs None = ended_next p.env.debug f.opened a

    -- ---- the moves. A thread without an open body stays where it is

    pub settled_next : (a : Actor) → (a.stack ≡ [] → P a.counter) → P (settled p a).counter
    settled_next a alone = go a.stack refl
      where
        go : (fs : List Frame) → a.stack ≡ fs → P (settled_in p a fs).counter
        go [] is = alone is
        go (f ∷ fs) is = settled_by_next a f fs (next_statement p f)

    pub worked_next : (a : Actor) → (a.stack ≡ [] → P a.counter) → P (worked p a).counter
    worked_next a alone = go a.stack refl
      where
        at : (n : ℕ) → P (worked_at p n a).counter
        at zero = settled_next a alone
        at (suc n) = next.plain plain.Leave tt

        go : (fs : List Frame) → a.stack ≡ fs → P (worked_in p fs a).counter
        go [] is = alone is
        go (f ∷ fs) is = at f.next

    pub working_next : (a : Actor) → (a.stack ≡ [] → P a.counter) → P (back_to_work p a).counter
    working_next a alone = go p.env.debug
      where
        go : (debug : Bool) → P (if debug then goes_to plain.WorkState a else worked p a).counter
        go true = next.plain plain.WorkState tt
        go false = worked_next a alone

    pub returned_next : (a : Actor) → P a.counter → P (returned p a).counter
    returned_next a now = go a.stack
      where
        rounds : (f : Frame) (fs : List Frame) (left : ℕ) → P (next_round left f fs a).counter
        rounds f fs zero = next.plain plain.Skip tt
        rounds f fs (suc zero) = next.plain plain.Skip tt
        rounds f fs (suc (suc left)) = next.plain plain.Call tt

        by : (f : Frame) (fs : List Frame) (o : Opened) → P (returned_by p o f fs a).counter
        by f fs opened.Call = settled_next (record a { stack = fs }) (λ none. now)
        by f fs (opened.Repeat left) = rounds f fs left
        by f fs (opened.Critical k) = next.plain plain.Unlock tt
        by f fs opened.Taskgroup = next.plain plain.Enter tt
        by f fs o = now

        go : (fs : List Frame) → P (returned_in p fs a).counter
        go [] = now
        go (f ∷ fs) = by f fs f.opened
