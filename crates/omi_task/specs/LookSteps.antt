-- The steps of a wait: a thread looks at the slots of all members, takes a deferred task and starts it. The end of a taskwait
-- construct, and that of a taskyield construct.
use Rattle.std.specs.Prelude.{ℕ, ◌==◌, ◌+◌, ◌-◌, ◌/◌, ◌%◌, nat_lt, Bool, not, List, Some, if◌then◌else◌}
use Rattle.omi_word.specs.declared.op.Op.{Op}
use Rattle.omi_word.specs.declared.op.Op.TheVariants as op
use Rattle.omi_script.specs.declared.program.Program.{Program}
use Rattle.omi_model.specs.declared.event.Event.TheVariants as event
use Rattle.omi_model.specs.declared.id.Tid.{Tid}
use Rattle.omi_numbers.specs.declared.states.TheConstants.{WAIT_BARRIER_EXPLICIT, WAIT_BARRIER_IMPLICIT_PARALLEL, WAIT_TASKGROUP, WAIT_TASKWAIT}
use Rattle.omi_numbers.specs.Words.{state_word}
use Rattle.omi_numbers.specs.Addresses.{function_at}
use Rattle.omi_layout.specs.declared.field.Field.TheVariants.{ThreadNative, ThreadCurrent, ThreadState, TaskGenerating, TaskFunction, TaskFinal, TaskChildren, TaskSlots}
use Rattle.omi_layout.specs.declared.limits.TheConstants.{GROUP_PLACE, OPEN_PLACE}
use Rattle.omi_layout.specs.Memory.{word_address}
use Rattle.omi_layout.specs.Named.{number}
use Rattle.omi_rep.specs.declared.outcome.Outcome.{Outcome}
use Rattle.omi_rep.specs.declared.outcome.Outcome.TheVariants as outcome
use Rattle.omi_rep.specs.Records.{task_address}
use Rattle.omi_pc.specs.declared.actor.Actor.{Actor}
use Rattle.omi_pc.specs.declared.counter.Counter.{Counter}
use Rattle.omi_pc.specs.declared.counter.Counter.TheVariants as counter
use Rattle.omi_pc.specs.declared.counter.PlainCounter.TheVariants as plain
use Rattle.omi_pc.specs.declared.frame.Barrier.{Barrier}
use Rattle.omi_pc.specs.declared.frame.Barrier.TheVariants.{Explicit, Implicit}
use Rattle.omi_pc.specs.declared.frame.Wait.{Wait}
use Rattle.omi_pc.specs.declared.frame.Wait.TheVariants as wait
use Rattle.omi_numbers.specs.declared.limits.TheConstants.{OWN_SLOTS}
use Rattle.omi_pc.specs.declared.limits.TheConstants.{START_WORDS}
use Rattle.omi_pc.specs.declared.place.Place.{Place}
use Rattle.omi_pc.specs.declared.task_counter.LookCounter.{LookCounter}
use Rattle.omi_pc.specs.declared.task_counter.LookCounter.TheVariants as look
use Rattle.omi_pc.specs.declared.team_counter.BarrierCounter.TheVariants as barrier
use Rattle.omi_pc.specs.Fits.{slots_of}
use Rattle.omi_pc.specs.FitLaws.{grouped}
use Rattle.omi_pc.specs.Moves.{begun_explicit, back_to_work}
use Rattle.omi_pc.specs.Settle.{goes_to, settled}
use Rattle.omi_step_words.specs.Moving.{to_look}
use Rattle.omi_step_words.specs.Plan.{filling}
use Rattle.omi_step_words.specs.Words.{of_groups, of_member, of_task, of_thread, task_place}
use Rattle.omi_task.specs.Groups.{innermost_word, of_innermost_count}
use Rattle.omi_task.specs.Slots.{coded_task}
use Rattle.omi_task.specs.Starts.{start_plan, task_context}

-- ---- operations

-- the state of a thread that waits. At `taskyield` it stores none
abbrev pub wait_state : Wait → ℕ
wait_state (wait.Barrier Explicit) = WAIT_BARRIER_EXPLICIT
wait_state (wait.Barrier Implicit) = WAIT_BARRIER_IMPLICIT_PARALLEL
wait_state wait.Taskwait = WAIT_TASKWAIT
wait_state wait.Taskyield = 0
wait_state wait.Taskgroup = WAIT_TASKGROUP

-- the member whose slot is looked at, by the slot's number: each member has the same count of them
abbrev pub member_at : ℕ → ℕ
member_at n = n / OWN_SLOTS

-- the slot with this number, in the record of the member's task
abbrev pub of_slot : List ℕ → Place → ℕ → ℕ
of_slot w row n = word_address w row.creator row.slot (number TaskSlots) (n % OWN_SLOTS)

abbrev pub look_next : List ℕ → Actor → LookCounter → Op
look_next w a (look.State v) =
    op.Store (of_thread w a.thread ThreadState) (state_word (wait_state v) 0)
look_next w a (look.LoadRow v n) = op.Load (of_member w a.context.region (member_at n))
look_next w a (look.LoadSlot v n row) = op.Load (of_slot w row n)
look_next w a (look.LoadGenerating v n row code) =
    op.Load (of_task w (coded_task w code) TaskGenerating)
look_next w a (look.LoadGroup n row code) = op.Load (of_groups w (coded_task w code) GROUP_PLACE)
look_next w a (look.Take v n row code) = op.Cas (of_slot w row n) code 0
look_next w a (look.LoadFunction v n code t) = op.Load (of_task w t TaskFunction)
look_next w a (look.LoadFinal v n code t f) = op.Load (of_task w t TaskFinal)
look_next w a (look.Fill v n code t f final word) = filling w t.0 (start_plan w a word)
look_next w a (look.Start v n code t f final) =
    op.Store (of_thread w a.thread ThreadCurrent) (task_address w t)
look_next w a look.LoadChildren = op.Load (of_task w a.context.task TaskChildren)
look_next w a look.LoadCount = op.Load (of_innermost_count w a)
look_next w a look.GroupEnd =
    op.Store (of_groups w a.context.task OPEN_PLACE) (a.context.open_groups - 1)
look_next w a (look.Yield n) = op.Load (of_thread w a.thread ThreadNative)

-- ---- moves: the look

-- behind the last slot: at a barrier member 0 waits until all have arrived, and any other member until the barrier is released;
-- a taskwait construct waits for the children of its task, and a taskyield construct ends; a taskgroup region waits for its tasks
abbrev pub behind_barrier_look : ℕ → Barrier → Counter
behind_barrier_look member b =
    counter.Barrier (if member == 0 then barrier.LoadArrived b else barrier.LoadReleased b)

abbrev pub behind_look : Actor → Wait → Counter
behind_look a (wait.Barrier b) = behind_barrier_look a.context.number b
behind_look a wait.Taskwait = counter.Look look.LoadChildren
behind_look a wait.Taskyield = counter.Look (look.Yield (slots_of a))
behind_look a wait.Taskgroup = counter.Look look.LoadCount

-- the slot with this number is looked at. In front of a member's first one its task is loaded
abbrev pub look_at : Wait → ℕ → Place → LookCounter
look_at v n row = if n % OWN_SLOTS == 0 then look.LoadRow v n else look.LoadSlot v n row

abbrev pub next_look : Actor → Wait → ℕ → Place → Counter
next_look a v n row = if nat_lt n (slots_of a) then counter.Look (look_at v n row) else behind_look a v

-- the thread looks on, at the slot behind this one
abbrev pub looking_on : Wait → ℕ → Place → Actor → Actor
looking_on v n row a = record a { counter = next_look a v (n + 1) row }

-- a slot names a task: at a barrier any task may start, at the end of a taskgroup region a task of its group, and elsewhere a child of the
-- current task alone
abbrev pub behind_code : Wait → ℕ → Place → ℕ → LookCounter
behind_code (wait.Barrier b) n row code = look.Take (wait.Barrier b) n row code
behind_code wait.Taskgroup n row code = look.LoadGroup n row code
behind_code v n row code = look.LoadGenerating v n row code

-- ---- moves: the start

-- behind the store of a word of its place
abbrev pub behind_start_word : Wait → ℕ → ℕ → Tid → ℕ → Bool → ℕ → LookCounter
behind_start_word v n code t f final word =
    if nat_lt (word + 1) START_WORDS then look.Fill v n code t f final (word + 1)
    else look.Start v n code t f final

-- the body of a started task begins. The thread's state is stored first, but not at `taskyield`, where none was
abbrev pub body_begun : Program → Wait → Actor → Actor
body_begun p wait.Taskyield a = settled p a
body_begun p v a = back_to_work p a

abbrev pub past_start : Program → Wait → Tid → ℕ → Bool → Actor → Actor
past_start p v t f final a = body_begun p v (begun_explicit f (Some v) (task_context a t final) a)

-- ---- moves: the end of a group

abbrev pub past_group_end : Program → Actor → Actor
past_group_end p a =
    back_to_work p (record a { context = grouped (a.context.open_groups - 1) a.context })

-- ---- moves

-- where the step found the word `old`
abbrev pub look_moved : Program → List ℕ → Actor → LookCounter → ℕ → Actor
look_moved p w a (look.State v) old = to_look (look.LoadRow v 0) a
look_moved p w a (look.LoadRow v n) old = to_look (look.LoadSlot v n (task_place w old)) a
look_moved p w a (look.LoadSlot v n row) old =
    if old == 0 then looking_on v n row a else to_look (behind_code v n row old) a
look_moved p w a (look.LoadGenerating v n row code) old =
    if old == task_address w a.context.task then to_look (look.Take v n row code) a
    else looking_on v n row a
look_moved p w a (look.LoadGroup n row code) old =
    if old == innermost_word w a then to_look (look.Take wait.Taskgroup n row code) a
    else looking_on wait.Taskgroup n row a
look_moved p w a (look.Take v n row code) old =
    if old == code then to_look (look.LoadFunction v n code (coded_task w code)) a
    else looking_on v n row a
look_moved p w a (look.LoadFunction v n code t) old =
    to_look (look.LoadFinal v n code t (function_at old)) a
look_moved p w a (look.LoadFinal v n code t f) old =
    to_look (look.Fill v n code t f (not (old == 0)) 0) a
look_moved p w a (look.Fill v n code t f final word) old =
    to_look (behind_start_word v n code t f final word) a
look_moved p w a (look.Start v n code t f final) old = past_start p v t f final a
look_moved p w a look.LoadChildren old =
    if old == 0 then back_to_work p a else to_look (look.LoadRow wait.Taskwait 0) a
look_moved p w a look.LoadCount old =
    if old == 0 then to_look look.GroupEnd a else to_look (look.LoadRow wait.Taskgroup 0) a
look_moved p w a look.GroupEnd old = past_group_end p a
look_moved p w a (look.Yield n) old = goes_to plain.Leave a

-- ---- outcomes

abbrev pub look_outcome : List ℕ → Actor → LookCounter → ℕ → Outcome
look_outcome w a (look.State v) old = outcome.Event (event.State (wait_state v) 0)
look_outcome w a (look.Start v n code t f final) old = outcome.Event (event.Start t)
look_outcome w a look.LoadChildren old =
    if old == 0 then outcome.Event event.WaitDone
    else outcome.NotReady (of_task w a.context.task TaskChildren) old
look_outcome w a look.LoadCount old =
    if old == 0 then outcome.Quiet else outcome.NotReady (of_innermost_count w a) old
look_outcome w a look.GroupEnd old = outcome.Event event.GroupEnd
look_outcome w a (look.Yield n) old = outcome.Event event.Yield
look_outcome w a c old = outcome.Quiet
