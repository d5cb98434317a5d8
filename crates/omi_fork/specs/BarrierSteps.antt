-- The steps of a barrier, but for the look at the slots: a member arrives; member 0 waits until all have arrived and no explicit
-- task is unfinished, and releases; each member waits until the barrier is released, and passes.
use Rattle.std.specs.Prelude.{◌==◌, ℕ, ◌+◌, ◌*◌, nat_lt, Bool, List, [], ◌∷◌, if◌then◌else◌}
use Rattle.omi_word.specs.declared.op.Op.{Op}
use Rattle.omi_word.specs.declared.op.Op.TheVariants as op
use Rattle.omi_script.specs.declared.program.Program.{Program}
use Rattle.omi_model.specs.declared.event.Event.TheVariants as event
use Rattle.omi_numbers.specs.declared.states.TheConstants.{WAIT_BARRIER_EXPLICIT, WAIT_BARRIER_IMPLICIT_PARALLEL}
use Rattle.omi_numbers.specs.Words.{state_word}
use Rattle.omi_layout.specs.declared.field.Field.{Field}
use Rattle.omi_layout.specs.declared.field.Field.TheVariants.{ThreadState, RegionReleased, RegionArrived, RegionPending}
use Rattle.omi_rep.specs.declared.outcome.Outcome.{Outcome}
use Rattle.omi_rep.specs.declared.outcome.Outcome.TheVariants as outcome
use Rattle.omi_pc.specs.declared.actor.Actor.{Actor}
use Rattle.omi_pc.specs.declared.counter.Counter.{Counter}
use Rattle.omi_pc.specs.declared.counter.Counter.TheVariants as counter
use Rattle.omi_pc.specs.declared.counter.PlainCounter.TheVariants.{Done}
use Rattle.omi_pc.specs.declared.frame.Barrier.{Barrier}
use Rattle.omi_pc.specs.declared.frame.Barrier.TheVariants.{Explicit, Implicit}
use Rattle.omi_pc.specs.declared.frame.Frame.{Frame}
use Rattle.omi_pc.specs.declared.frame.Opened.{Opened}
use Rattle.omi_pc.specs.declared.frame.Opened.TheVariants as opened
use Rattle.omi_pc.specs.declared.frame.Wait.TheVariants as wait
use Rattle.omi_pc.specs.declared.task_counter.LookCounter.TheVariants.{LoadRow}
use Rattle.omi_pc.specs.declared.team_counter.BarrierCounter.{BarrierCounter}
use Rattle.omi_pc.specs.declared.team_counter.BarrierCounter.TheVariants as barrier
use Rattle.omi_pc.specs.declared.team_counter.JoinCounter.TheVariants.{LoadLeft}
use Rattle.omi_pc.specs.declared.team_counter.WorkerCounter.TheVariants.{ImplicitEnd}
use Rattle.omi_pc.specs.Moves.{back_to_work}
use Rattle.omi_step_words.specs.Moving.{to_barrier}
use Rattle.omi_step_words.specs.Words.{of_region, of_thread}

-- ---- operations

-- the state of a member that waits at a barrier
abbrev pub barrier_state : Barrier → ℕ
barrier_state Explicit = WAIT_BARRIER_EXPLICIT
barrier_state Implicit = WAIT_BARRIER_IMPLICIT_PARALLEL

-- a word of the current region
abbrev pub of_current : List ℕ → Actor → Field → ℕ
of_current w a f = of_region w a.context.region f

abbrev pub barrier_next : List ℕ → Actor → BarrierCounter → Op
barrier_next w a (barrier.State b) =
    op.Store (of_thread w a.thread ThreadState) (state_word (barrier_state b) 0)
barrier_next w a (barrier.Arrive b) = op.Add (of_current w a RegionArrived) 1
barrier_next w a (barrier.LoadArrived b) = op.Load (of_current w a RegionArrived)
barrier_next w a (barrier.LoadPending b) = op.Load (of_current w a RegionPending)
barrier_next w a (barrier.Release b) =
    op.Store (of_current w a RegionReleased) a.context.arrivals
barrier_next w a (barrier.LoadReleased b) = op.Load (of_current w a RegionReleased)

-- ---- conditions

-- some member has not arrived: the region counts the arrivals of all members at all its barriers
abbrev pub some_missing : Actor → ℕ → Bool
some_missing a old = nat_lt old (a.context.size * a.context.arrivals)

-- the barrier is not released: the region counts its barriers that were released
abbrev pub is_closed : Actor → ℕ → Bool
is_closed a old = nat_lt old a.context.arrivals

-- ---- moves

-- the thread looks at the slots of all members, from the first one on
abbrev pub looking : Barrier → Actor → Actor
looking b a = record a { counter = counter.Look (LoadRow (wait.Barrier b) 0) }

-- the member has arrived at one barrier more
abbrev pub past_arrive : Actor → Actor
past_arrive a = record a { context = record a.context { arrivals = a.context.arrivals + 1 } }

-- what follows the end of a member
abbrev pub behind_member_end : Opened → Counter → Counter
behind_member_end opened.Main c = counter.Plain Done
behind_member_end opened.Worker c = counter.Worker ImplicitEnd
behind_member_end (opened.Master saved) c = counter.Join LoadLeft
behind_member_end _ c = c

abbrev pub ended_in : List Frame → Actor → Actor
ended_in [] a = a
ended_in (f ∷ fs) a = record a { counter = behind_member_end f.opened a.counter }

-- the barrier was passed
abbrev pub passed : Program → Barrier → Actor → Actor
passed p Explicit a = back_to_work p a
passed p Implicit a = ended_in a.stack a

-- where the step found the word `old`
abbrev pub barrier_moved : Program → Actor → BarrierCounter → ℕ → Actor
barrier_moved p a (barrier.State b) old = to_barrier (barrier.Arrive b) a
barrier_moved p a (barrier.Arrive b) old = looking b (past_arrive a)
barrier_moved p a (barrier.LoadArrived b) old =
    if some_missing a old then looking b a else to_barrier (barrier.LoadPending b) a
barrier_moved p a (barrier.LoadPending b) old =
    if old == 0 then to_barrier (barrier.Release b) a else looking b a
barrier_moved p a (barrier.Release b) old = to_barrier (barrier.LoadReleased b) a
barrier_moved p a (barrier.LoadReleased b) old =
    if is_closed a old then looking b a else passed p b a

-- ---- outcomes

abbrev pub barrier_outcome : List ℕ → Actor → BarrierCounter → ℕ → Outcome
barrier_outcome w a (barrier.State b) old = outcome.Event (event.State (barrier_state b) 0)
barrier_outcome w a (barrier.Arrive b) old = outcome.Event event.Arrive
barrier_outcome w a (barrier.LoadArrived b) old =
    if some_missing a old then outcome.NotReady (of_current w a RegionArrived) old
    else outcome.Quiet
barrier_outcome w a (barrier.LoadPending b) old =
    if old == 0 then outcome.Quiet else outcome.NotReady (of_current w a RegionPending) old
barrier_outcome w a (barrier.Release b) old = outcome.Event event.Release
barrier_outcome w a (barrier.LoadReleased b) old =
    if is_closed a old then outcome.NotReady (of_current w a RegionReleased) old
    else outcome.Event event.Pass
