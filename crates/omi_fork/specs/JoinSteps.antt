-- The steps of a join: member 0 waits until the others have left, and the encountering task goes on. And those that give the records
-- of the team and of the region back.
use Rattle.std.specs.Prelude.{ℕ, ◌+◌, ◌-◌, nat_lt, Bool, List, if◌then◌else◌}
use Rattle.omi_word.specs.declared.op.Op.{Op}
use Rattle.omi_word.specs.declared.op.Op.TheVariants as op
use Rattle.omi_script.specs.declared.program.Program.{Program}
use Rattle.omi_model.specs.declared.event.Event.TheVariants as event
use Rattle.omi_model.specs.declared.id.Rid.{Rid}
use Rattle.omi_layout.specs.declared.field.Field.TheVariants.{RegionLife, RegionLeft, TaskLife}
use Rattle.omi_rep.specs.declared.outcome.Outcome.{Outcome}
use Rattle.omi_rep.specs.declared.outcome.Outcome.TheVariants as outcome
use Rattle.omi_pc.specs.declared.actor.Actor.{Actor}
use Rattle.omi_pc.specs.declared.team_counter.JoinCounter.{JoinCounter}
use Rattle.omi_pc.specs.declared.team_counter.JoinCounter.TheVariants as join
use Rattle.omi_pc.specs.Moves.{closed, back_to_work}
use Rattle.omi_step_words.specs.Moving.{storing_under, to_join}
use Rattle.omi_step_words.specs.Words.{object_in, of_member, of_place, of_region, of_task, task_place, unused_word}

-- ---- operations

abbrev pub join_next : List ℕ → Actor → JoinCounter → Op
join_next w a join.LoadLeft = op.Load (of_region w a.context.region RegionLeft)
join_next w a join.Join = storing_under w a
join_next w a (join.LoadMember r size member) = op.Load (of_member w r member)
join_next w a (join.LoadLife r size member t) = op.Load (of_place w t TaskLife)
join_next w a (join.FreeTask r size member t) =
    op.Store (of_task w t TaskLife) (unused_word t.0)
join_next w a (join.FreeRegion r size) = op.Store (of_region w r RegionLife) (unused_word r.0)

-- ---- conditions

-- some member but member 0 has not left
abbrev pub some_inside : Actor → ℕ → Bool
some_inside a old = nat_lt old (a.context.size - 1)

-- ---- moves

-- the region is over, and the encountering task is current again: first the records are given back, that of member 0's task before all
abbrev pub past_join : Actor → Actor
past_join a = to_join (join.LoadMember a.context.region a.context.size 0) (closed a)

-- behind the record of a member's task, that of the next one is given back, and at last that of the region
abbrev pub behind_free : Rid → ℕ → ℕ → JoinCounter
behind_free r size member =
    if nat_lt (member + 1) size then join.LoadMember r size (member + 1) else join.FreeRegion r size

-- where the step found the word `old`
abbrev pub join_moved : Program → List ℕ → Actor → JoinCounter → ℕ → Actor
join_moved p w a join.LoadLeft old = if some_inside a old then a else to_join join.Join a
join_moved p w a join.Join old = past_join a
join_moved p w a (join.LoadMember r size member) old =
    to_join (join.LoadLife r size member (task_place w old)) a
join_moved p w a (join.LoadLife r size member t) old =
    to_join (join.FreeTask r size member (record { 0 = object_in t old })) a
join_moved p w a (join.FreeTask r size member t) old =
    to_join (behind_free r size member) a
join_moved p w a (join.FreeRegion r size) old = back_to_work p a

-- ---- outcomes

abbrev pub join_outcome : List ℕ → Actor → JoinCounter → ℕ → Outcome
join_outcome w a join.LoadLeft old =
    if some_inside a old then outcome.NotReady (of_region w a.context.region RegionLeft) old
    else outcome.Quiet
join_outcome w a join.Join old = outcome.Event (event.Join a.context.region)
join_outcome w a (join.LoadMember r size member) old = outcome.Quiet
join_outcome w a (join.LoadLife r size member t) old = outcome.Quiet
join_outcome w a (join.FreeTask r size member t) old = outcome.Event (event.FreeTask t)
join_outcome w a (join.FreeRegion r size) old = outcome.Event (event.FreeRegion r)
