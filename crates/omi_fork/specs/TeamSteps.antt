-- The steps of a `parallel` construct: it wants a team and asks for threads, makes the records of the region and of the members'
-- tasks, forks, and assigns each task to its thread.
use Rattle.std.specs.Prelude.{ℕ, ◌==◌, ◌+◌, ◌&&◌, nat_lt, Bool, List, if◌then◌else◌}
use Rattle.omi_numbers.specs.declared.holders.TheConstants.{FREE_CLAIM}
use Rattle.omi_numbers.specs.Holders.{claimed_word}
use Rattle.omi_word.specs.declared.op.Op.{Op}
use Rattle.omi_word.specs.declared.op.Op.TheVariants as op
use Rattle.omi_script.specs.declared.program.Program.{Program}
use Rattle.omi_model.specs.declared.event.Event.TheVariants as event
use Rattle.omi_model.specs.declared.id.Rid.{Rid}
use Rattle.omi_model.specs.declared.id.Tid.{Tid}
use Rattle.omi_model.specs.Columns.{with_task}
use Rattle.omi_numbers.specs.declared.states.TheConstants.{OVERHEAD}
use Rattle.omi_numbers.specs.Words.{state_word}
use Rattle.omi_layout.specs.declared.field.Field.TheVariants.{RuntimeMaxActive, ThreadCurrent, ThreadState, ThreadClaim, ThreadAssign, RegionLife, RegionLevels, RegionActive, TaskLife}
use Rattle.omi_layout.specs.Field.{regions, tasks}
use Rattle.omi_rep.specs.declared.outcome.Outcome.{Outcome}
use Rattle.omi_rep.specs.declared.outcome.Outcome.TheVariants as outcome
use Rattle.omi_rep.specs.Records.{task_address}
use Rattle.omi_pc.specs.declared.actor.Actor.{Actor}
use Rattle.omi_pc.specs.declared.limits.TheConstants.{VARIABLE_WORDS, REGION_WORDS, TASK_WORDS}
use Rattle.omi_pc.specs.declared.team_counter.TeamCounter.{TeamCounter}
use Rattle.omi_pc.specs.declared.team_counter.TeamCounter.TheVariants as team
use Rattle.omi_pc.specs.Moves.{begun_master, back_to_work}
use Rattle.omi_step_words.specs.Members.{alone, joined_by, member_of}
use Rattle.omi_step_words.specs.Moving.{gathering, to_team, with_loaded_variable}
use Rattle.omi_step_words.specs.Plan.{filling, of_variable, region_plan, task_plan}
use Rattle.omi_step_words.specs.Searches.{next_slot, own_place, search_outcome}
use Rattle.omi_fork.specs.TeamParts.{master_context, new_member, planned_region, region_function, team_size, size_to_want}
use Rattle.omi_step_words.specs.Words.{of_member, of_runtime, of_thread, of_place, of_region, of_task, object_in, is_free, used_word}

-- ---- operations

-- a member's task is stored into the assign word of its thread
abbrev pub assigning : List ℕ → Tid × ℕ → Op
assigning w m = op.Store (of_thread w m.1 ThreadAssign) (task_address w m.0)

abbrev pub team_next : Program → List ℕ → Actor → TeamCounter → Op
team_next p w a team.OverheadState =
    op.Store (of_thread w a.thread ThreadState) (state_word OVERHEAD 0)
team_next p w a team.LoadLevels = op.Load (of_region w a.context.region RegionLevels)
team_next p w a team.LoadActive = op.Load (of_region w a.context.region RegionActive)
team_next p w a (team.LoadVariable word) = op.Load (of_variable w a.context.task.0 word)
team_next p w a team.Want = op.Load (of_runtime w RuntimeMaxActive)
team_next p w a team.Ask =
    op.Cas (of_thread w a.gathered.asked ThreadClaim) FREE_CLAIM (claimed_word a.thread)
team_next p w a (team.LoadRegionLife slot) = op.Load (of_place w (own_place a slot) RegionLife)
team_next p w a (team.TakeRegion r) = op.Store (of_region w r RegionLife) (used_word r.0)
team_next p w a (team.FillRegion r word) = filling w r.0 (region_plan w (planned_region p a) word)
team_next p w a (team.LoadTaskLife r member slot) =
    op.Load (of_place w (own_place a slot) TaskLife)
team_next p w a (team.TakeTask r member t) = op.Store (of_task w t TaskLife) (used_word t.0)
team_next p w a (team.FillTask r member t word) =
    filling w t.0 (task_plan w (new_member p a r member) word)
team_next p w a (team.StoreMember r member t) =
    op.Store (of_member w r member) (task_address w t)
team_next p w a (team.Fork r) =
    op.Store (of_thread w a.thread ThreadCurrent) (task_address w (member_of a.gathered.team 0).0)
team_next p w a (team.Assign member) = assigning w (member_of a.gathered.team member)

-- ---- moves

-- what was loaded of the current region and of the current task's data environment
abbrev pub with_levels : ℕ → Actor → Actor
with_levels old a = gathering (record a.gathered { levels = old }) a

abbrev pub with_active : ℕ → Actor → Actor
with_active old a = gathering (record a.gathered { active = old }) a

abbrev pub behind_team_variable : ℕ → TeamCounter
behind_team_variable word =
    if nat_lt (word + 1) VARIABLE_WORDS then team.LoadVariable (word + 1) else team.Want

-- a thread does not ask itself
abbrev pub but_own : ℕ → ℕ → ℕ
but_own own thread = if thread == own then thread + 1 else thread

-- a thread is asked while the team is smaller than wanted and some thread was not asked
abbrev pub asks_on : Program → Actor → ℕ → Bool
asks_on p a thread = nat_lt (team_size a) a.gathered.wanted && nat_lt thread p.threads

-- the thread that is asked next is this one or one behind it. Behind the last ask, a record for the region is searched
abbrev pub asking : Program → ℕ → Actor → Actor
asking p thread a =
    to_team (if asks_on p a (but_own a.thread thread) then team.Ask else team.LoadRegionLife 0)
    (gathering (record a.gathered { asked = but_own a.thread thread }) a)

-- a team of this size is wanted: it has this thread, and the others are asked from thread 0 on
abbrev pub past_want : Program → ℕ → Actor → Actor
past_want p n a =
    asking p 0
    (gathering (record a.gathered { wanted = n; team = alone a.thread }) a)

-- a thread was asked, and joined the team where it offered itself
abbrev pub answered : Program → ℕ → Actor → Actor
answered p old a =
    let thread = a.gathered.asked in
    let team = if old == FREE_CLAIM then joined_by thread a.gathered.team else a.gathered.team in
    asking p (thread + 1) (gathering (record a.gathered { team = team }) a)

-- the life word of a slot was found: its record is taken where it is free
abbrev pub region_searched : List ℕ → Actor → ℕ → ℕ → Actor
region_searched w a slot old =
    to_team (if is_free old then team.TakeRegion (record { 0 = object_in (own_place a slot) old })
    else team.LoadRegionLife (next_slot w regions slot)) a

abbrev pub task_searched : List ℕ → Actor → Rid → ℕ → ℕ → ℕ → Actor
task_searched w a r member slot old =
    to_team (if is_free old
    then team.TakeTask r member (record { 0 = object_in (own_place a slot) old })
    else team.LoadTaskLife r member (next_slot w tasks slot)) a

abbrev pub behind_region_word : Rid → ℕ → TeamCounter
behind_region_word r word =
    if nat_lt (word + 1) REGION_WORDS then team.FillRegion r (word + 1)
    else team.LoadTaskLife r 0 0

-- the record of a member's task is this thread's
abbrev pub took_task : ℕ → Tid → Actor → Actor
took_task member t a =
    gathering (record a.gathered { team = with_task t member a.gathered.team }) a

abbrev pub behind_task_word : Rid → ℕ → Tid → ℕ → TeamCounter
behind_task_word r member t word =
    if nat_lt (word + 1) TASK_WORDS then team.FillTask r member t (word + 1)
    else team.StoreMember r member t

abbrev pub behind_member : Actor → Rid → ℕ → TeamCounter
behind_member a r member =
    if nat_lt (member + 1) (team_size a) then team.LoadTaskLife r (member + 1) 0 else team.Fork r

-- a member's task is assigned next, or the thread works, where each member has its task
abbrev pub assigning_from : Program → ℕ → Actor → Actor
assigning_from p member a =
    if nat_lt member (team_size a) then to_team (team.Assign member) a else back_to_work p a

-- the region begins: this thread goes on with member 0
abbrev pub past_fork : Program → Rid → Actor → Actor
past_fork p r a =
    assigning_from p 1 (begun_master (region_function p a) (master_context a r) a)

-- where the step found the word `old`
abbrev pub team_moved : Program → List ℕ → Actor → TeamCounter → ℕ → Actor
team_moved p w a team.OverheadState old = to_team team.LoadLevels a
team_moved p w a team.LoadLevels old = to_team team.LoadActive (with_levels old a)
team_moved p w a team.LoadActive old = to_team (team.LoadVariable 0) (with_active old a)
team_moved p w a (team.LoadVariable word) old =
    to_team (behind_team_variable word) (with_loaded_variable word old a)
team_moved p w a team.Want old = past_want p (size_to_want p a old) a
team_moved p w a team.Ask old = answered p old a
team_moved p w a (team.LoadRegionLife slot) old = region_searched w a slot old
team_moved p w a (team.TakeRegion r) old = to_team (team.FillRegion r 0) a
team_moved p w a (team.FillRegion r word) old = to_team (behind_region_word r word) a
team_moved p w a (team.LoadTaskLife r member slot) old = task_searched w a r member slot old
team_moved p w a (team.TakeTask r member t) old =
    to_team (team.FillTask r member t 0) (took_task member t a)
team_moved p w a (team.FillTask r member t word) old =
    to_team (behind_task_word r member t word) a
team_moved p w a (team.StoreMember r member t) old = to_team (behind_member a r member) a
team_moved p w a (team.Fork r) old = past_fork p r a
team_moved p w a (team.Assign member) old = assigning_from p (member + 1) a

-- ---- outcomes

abbrev pub team_outcome : Program → List ℕ → Actor → TeamCounter → ℕ → Outcome
team_outcome p w a team.OverheadState old = outcome.Event (event.State OVERHEAD 0)
team_outcome p w a team.LoadLevels old = outcome.Quiet
team_outcome p w a team.LoadActive old = outcome.Quiet
team_outcome p w a (team.LoadVariable word) old = outcome.Quiet
team_outcome p w a team.Want old = outcome.Event (event.Want (size_to_want p a old))
team_outcome p w a team.Ask old = outcome.Event (event.Ask a.gathered.asked (old == FREE_CLAIM))
team_outcome p w a (team.LoadRegionLife slot) old = search_outcome w a RegionLife slot old
team_outcome p w a (team.TakeRegion r) old = outcome.Quiet
team_outcome p w a (team.FillRegion r word) old = outcome.Quiet
team_outcome p w a (team.LoadTaskLife r member slot) old = search_outcome w a TaskLife slot old
team_outcome p w a (team.TakeTask r member t) old = outcome.Quiet
team_outcome p w a (team.FillTask r member t word) old = outcome.Quiet
team_outcome p w a (team.StoreMember r member t) old = outcome.Quiet
team_outcome p w a (team.Fork r) old = outcome.Event (event.Fork r a.gathered.team)
team_outcome p w a (team.Assign member) old = outcome.Quiet
