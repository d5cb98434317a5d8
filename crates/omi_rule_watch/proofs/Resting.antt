-- Counters at which neither a search nor a look stands: behind most events a thread comes to one.
use Rattle.std.proofs.Common.{◌≡◌, Bool, true, false, [], None, refl, sym, subst, if◌then◌else◌}
use Rattle.omi_script.specs.declared.program.Program.{Program}
use Rattle.omi_pc.specs.declared.actor.Actor.{Actor}
use Rattle.omi_pc.specs.declared.counter.Counter.{Counter}
use Rattle.omi_pc.specs.declared.counter.Counter.TheVariants as counter
use Rattle.omi_pc.specs.declared.counter.PlainCounter.{PlainCounter}
use Rattle.omi_pc.specs.declared.frame.Barrier.TheVariants.{Implicit}
use Rattle.omi_pc.specs.declared.team_counter.BarrierCounter.TheVariants as barrier
use Rattle.omi_pc.specs.declared.team_counter.JoinCounter.{JoinCounter}
use Rattle.omi_pc.specs.declared.team_counter.WorkerCounter.{WorkerCounter}
use Rattle.omi_pc.specs.Moves.{returned, worked, back_to_work}
use Rattle.omi_pc.specs.Settle.{settled}
use Rattle.omi_pc.proofs.NextCounters.{HoldsNext, returned_next, settled_next, worked_next, working_next}
use Rattle.omi_plain.specs.PlainSteps.{task_counter}
use Rattle.omi_rule_watch.specs.Given.{IsFirst, IsLookGiven, region_found, sought, task_found}
use Rattle.omi_rule_watch.specs.Watch.{SlotLook}
use Rattle.omi_rule_watch.proofs.Cases.{one_of}

-- no record was found here, and a search that begins here begins at slot 0
pub record IsFresh (c : Counter) : Type 0 where
  pub region : region_found c ≡ None
  pub task : task_found c ≡ None
  pub first : (a : Actor) → IsFirst (sought a c)

-- no search begins here
pub seeks_none : {c : Counter} → region_found c ≡ None → task_found c ≡ None
    → ((a : Actor) → sought a c ≡ None) → IsFresh c
seeks_none no_region no_task none =
    record { region = no_region; task = no_task; first = λ a. subst IsFirst (sym (none a)) tt }

-- and nothing is said of a look
pub record Rests (c : Counter) : Type 0 where
  pub fresh : IsFresh c
  pub look : (a : Actor) (h : SlotLook) → IsLookGiven a c h

pub rests_plain : (c : PlainCounter) → Rests (counter.Plain c)
rests_plain c = record { fresh = seeks_none refl refl (λ a. refl); look = λ a h. tt }

pub rests_worker : (c : WorkerCounter) → Rests (counter.Worker c)
rests_worker c = record { fresh = seeks_none refl refl (λ a. refl); look = λ a h. tt }

pub rests_join : (c : JoinCounter) → Rests (counter.Join c)
rests_join c = record { fresh = seeks_none refl refl (λ a. refl); look = λ a h. tt }

-- one of two
pub rests_actor : (b : Bool) (x y : Actor) → Rests x.counter → Rests y.counter
    → Rests (if b then x else y).counter
rests_actor b x y one other = one_of (λ (z : Actor). Rests z.counter) b x y one other

-- ---- moves between statements

rests_end : (debug : Bool)
    → Rests (counter.Barrier (if debug then barrier.State Implicit else barrier.Arrive Implicit))
rests_end true = record { fresh = seeks_none refl refl (λ a. refl); look = λ a h. tt }
rests_end false = record { fresh = seeks_none refl refl (λ a. refl); look = λ a h. tt }

rests_next : HoldsNext Rests
rests_next = record {
  plain = λ c before. rests_plain c;
  state = rests_end true;
  arrive = rests_end false;
  finish = record { fresh = seeks_none refl refl (λ a. refl); look = λ a h. tt };
}

-- a thread without an open body stays where it is
pub rests_settled : (p : Program) (a : Actor) → (a.stack ≡ [] → Rests a.counter) → Rests (settled p a).counter
rests_settled p a alone = settled_next Rests rests_next p a alone

pub rests_worked : (p : Program) (a : Actor) → (a.stack ≡ [] → Rests a.counter) → Rests (worked p a).counter
rests_worked p a alone = worked_next Rests rests_next p a alone

pub rests_working : (p : Program) (a : Actor) → (a.stack ≡ [] → Rests a.counter)
    → Rests (back_to_work p a).counter
rests_working p a alone = working_next Rests rests_next p a alone

pub rests_returned : (p : Program) (a : Actor) → Rests a.counter → Rests (returned p a).counter
rests_returned p a now = returned_next Rests rests_next p a now

pub rests_task : (b : Bool) → Rests (task_counter b)
rests_task true = record { fresh = seeks_none refl refl (λ a. refl); look = λ a h. tt }
rests_task false = record { fresh = seeks_none refl refl (λ a. refl); look = λ a h. tt }
