-- What each step takes was found, by the family of its counter: only two counters of a fork and one of a `task` construct take a record.
use Rattle.std.proofs.Common.{◌≡◌, ◌<◌, ◌+◌, ◌%◌, ◌==◌, ℕ, zero, suc, Bool, true, false, List, refl, ◌∙◌, subst, arith, if◌then◌else◌}
use Rattle.omi_word.specs.declared.op.Op.{Op}
use Rattle.omi_word.specs.declared.op.Op.TheVariants as op
use Rattle.omi_word.specs.Memory.{address_of}
use Rattle.omi_script.specs.declared.program.Program.{Program}
use Rattle.omi_model.specs.declared.event.Event.{Event}
use Rattle.omi_model.specs.declared.id.Id.{Id}
use Rattle.omi_model.specs.State.{State}
use Rattle.omi_layout.specs.declared.field.Field.{Field}
use Rattle.omi_layout.specs.declared.field.Field.TheVariants.{RegionArrived, RegionLeft, RegionLife, RegionPending, RegionReleased, RegionTeam, RuntimeLocks, RuntimeMaxActive, TaskChildren, TaskDevice, TaskDynamic, TaskEnter, TaskLife, TaskNthreads, TaskReferences, TaskSchedule, TaskSlots, TaskTool, ThreadAssign, ThreadClaim, ThreadCurrent, ThreadLife, ThreadState}
use Rattle.omi_layout.specs.declared.limits.TheConstants.{FIELDS, OPEN_PLACE}
use Rattle.omi_layout.specs.Field.{kind_of, regions, runtime, tasks, threads}
use Rattle.omi_layout.specs.Memory.{Memory, word_address}
use Rattle.omi_layout.specs.Named.{number}
use Rattle.omi_layout.specs.Place.{IsSlot}
use Rattle.omi_layout.proofs.Numbers.{numbered_field}
use Rattle.omi_layout.proofs.SlotWords.{slot_within, group_word_within}
use Rattle.omi_layout.proofs.Stored.{address_placed}
use Rattle.omi_numbers.specs.declared.limits.TheConstants.{OWN_SLOTS}
use Rattle.omi_numbers.specs.declared.variables.TheConstants.{DEFAULT_DEVICE_VAR, DYN_VAR, MAX_ACTIVE_LEVELS_VAR, NTHREADS_VAR, RUN_SCHED_VAR}
use Rattle.omi_pc.specs.declared.actor.Actor.{Actor}
use Rattle.omi_pc.specs.declared.counter.Counter.{Counter}
use Rattle.omi_pc.specs.declared.counter.Counter.TheVariants as counter
use Rattle.omi_pc.specs.declared.counter.PlainCounter.{PlainCounter}
use Rattle.omi_pc.specs.declared.counter.PlainCounter.TheVariants as plain
use Rattle.omi_pc.specs.declared.limits.TheConstants.{START_WORDS}
use Rattle.omi_pc.specs.declared.task_counter.FinishCounter.{FinishCounter}
use Rattle.omi_pc.specs.declared.task_counter.FinishCounter.TheVariants as finish
use Rattle.omi_pc.specs.declared.task_counter.LookCounter.{LookCounter}
use Rattle.omi_pc.specs.declared.task_counter.LookCounter.TheVariants as look
use Rattle.omi_pc.specs.declared.task_counter.TaskCounter.{TaskCounter}
use Rattle.omi_pc.specs.declared.task_counter.TaskCounter.TheVariants as task
use Rattle.omi_pc.specs.declared.team_counter.BarrierCounter.{BarrierCounter}
use Rattle.omi_pc.specs.declared.team_counter.BarrierCounter.TheVariants as barrier
use Rattle.omi_pc.specs.declared.team_counter.JoinCounter.{JoinCounter}
use Rattle.omi_pc.specs.declared.team_counter.JoinCounter.TheVariants as join
use Rattle.omi_pc.specs.declared.team_counter.TeamCounter.{TeamCounter}
use Rattle.omi_pc.specs.declared.team_counter.TeamCounter.TheVariants as team
use Rattle.omi_pc.specs.declared.team_counter.WorkerCounter.{WorkerCounter}
use Rattle.omi_pc.specs.declared.team_counter.WorkerCounter.TheVariants as worker
use Rattle.omi_pc.specs.Fits.{FitsCounter}
use Rattle.omi_step_words.specs.declared.plan.Planned.{Planned}
use Rattle.omi_step_words.specs.Members.{member_of}
use Rattle.omi_step_words.specs.Placed.{IsPlacedCounter}
use Rattle.omi_step_words.specs.Plan.{filling, region_plan, task_plan}
use Rattle.omi_step_words.specs.Words.{of_runtime, of_task, of_thread, unused_word, of_groups}
use Rattle.omi_fork.specs.BarrierSteps.{barrier_next}
use Rattle.omi_fork.specs.JoinSteps.{join_next}
use Rattle.omi_fork.specs.TeamParts.{new_member, planned_region}
use Rattle.omi_fork.specs.TeamSteps.{team_next}
use Rattle.omi_fork.specs.WorkerSteps.{worker_next}
use Rattle.omi_plain.specs.PlainSteps.{plain_next}
use Rattle.omi_plain.specs.Statements.{in_work, lock_in, set_number, variable_address}
use Rattle.omi_task.specs.FinishSteps.{finish_next}
use Rattle.omi_task.specs.LookSteps.{look_next}
use Rattle.omi_task.specs.MakingSteps.{making_next, new_task}
use Rattle.omi_task.specs.Starts.{start_plan}
use Rattle.omi_actor.specs.Steps.{next_at}
use Rattle.omi_rule.specs.Steps.{IsOn, RecordWord, found_in}
use Rattle.omi_rule.proofs.Assembly.{Before}
use Rattle.omi_rule.proofs.barrier.AtCounter.{IsOfMember, context_placed}
use Rattle.omi_rule.proofs.plain.Locks.{lock_there}
use Rattle.omi_rule.proofs.plain.TaskWords.{task_on}
use Rattle.omi_rule.proofs.task.Within as making
use Rattle.omi_rule.proofs.team.Plans.{IsPlannedWord, planned_there, region_planned, task_planned}
use Rattle.omi_rule_watch.specs.Given.{IsSearchGiven}
use Rattle.omi_rule_watch.specs.Watch.{Search}
use Rattle.omi_rule_watch.proofs.GroupCounts.{count_lowered, count_raised, count_word}
use Rattle.omi_rule_watch.proofs.Standing.{own, record_word, thread_word, word_of}
use Rattle.omi_rule_watch.proofs.Takes.{IsFound, frees_none, loads_none, misses, other_number, takes_region, takes_task}

-- the words that a thread stores into the record of a task that it starts
start_planned : (w : List ℕ) (a : Actor) (k : ℕ) → k < START_WORDS
    → IsPlannedWord w tasks (number TaskLife) (FIELDS + 1) (start_plan w a k)
start_planned w a zero below = record { kind_is = refl; within = omega arith; above = omega arith; below = omega arith }
start_planned w a (suc zero) below = record { kind_is = refl; within = omega arith; above = omega arith; below = omega arith }
start_planned w a (suc (suc zero)) below = record { kind_is = refl; within = omega arith; above = omega arith; below = omega arith }
start_planned w a (suc (suc (suc zero))) below = record { kind_is = refl; within = omega arith; above = omega arith; below = omega arith }
start_planned w a (suc (suc (suc (suc zero)))) below = record { kind_is = refl; within = omega arith; above = omega arith; below = omega arith }
start_planned w a (suc (suc (suc (suc (suc k))))) below = absurd (omega (arith, below))

module _ (p : Program) (w : List ℕ) (m : Memory) (events : List (ℕ × Event)) (s : State) (actors : ℕ → Actor)
    (i : ℕ) (before : Before p w m events s actors i) (h : Search) where
  abbrev a : Actor
  a = actors i

  mine : (actors i).thread ≡ i
  mine = (own p w m events s actors i before).thread

  placed_at : (c : Counter) → (actors i).counter ≡ c → IsPlacedCounter w (actors i) c
  placed_at c at =
      subst (IsPlacedCounter w (actors i)) at (own p w m events s actors i before).placed.counter

  fits_at : (c : Counter) → (actors i).counter ≡ c → FitsCounter p (actors i) c
  fits_at c at =
      subst (FitsCounter p (actors i)) at (own p w m events s actors i before).fits.counter

  -- whatever word the operation is on
  abbrev Finds : Op → Type 0
  Finds o = (x : RecordWord) → IsOn w o x → IsFound i x o (found_in m x) h

  -- ---- operations

  loads : (address : ℕ) → Finds (op.Load address)
  loads address x on = loads_none i x address (found_in m x) h

  frees : (address : ℕ) (n : Id) → Finds (op.Store address (unused_word n))
  frees address n x on = frees_none i x address n (found_in m x) h

  at_word : (o : Op) (y : RecordWord) → IsOn w o y → number y.field == number RegionLife ≡ false
      → number y.field == number TaskLife ≡ false → Finds o
  at_word o y there no_region no_task x on =
      misses w before.valid i o x y on there (found_in m x) h no_region no_task

  -- the first word of a field in the record of this thread, and in that of a region or a task
  at_thread : (o : Op) (f : Field) → kind_of (number f) ≡ threads → address_of o ≡ of_thread w a.thread f
      → number f == number RegionLife ≡ false → number f == number TaskLife ≡ false → Finds o
  at_thread o f kind is no_region no_task =
      at_word o (word_of a.thread 0 f)
      (record { there = thread_word p w m events s actors i before f kind; address = is }) no_region no_task

  on_record : (o : Op) (kind creator slot : ℕ) (f : Field) → kind_of (number f) ≡ kind → IsSlot w kind creator slot
      → address_of o ≡ word_address w creator slot (number f) 0 → IsOn w o (word_of creator slot f)
  on_record o kind creator slot f is there address =
      record { there = record_word p w m events s actors i before kind creator slot f is there; address = address }

  at_record : (o : Op) (kind creator slot : ℕ) (f : Field) → kind_of (number f) ≡ kind → IsSlot w kind creator slot
      → address_of o ≡ word_address w creator slot (number f) 0
      → number f == number RegionLife ≡ false → number f == number TaskLife ≡ false → Finds o
  at_record o kind creator slot f is there address no_region no_task =
      at_word o (word_of creator slot f) (on_record o kind creator slot f is there address) no_region no_task

  -- a word of a plan
  at_planned : (kind life last : ℕ) (n : Id) (y : Planned) → last < FIELDS + 2 → IsSlot w kind n.creator n.slot
      → IsPlannedWord w kind life last y
      → (number y.field ≡ number RegionLife → ⊥) → (number y.field ≡ number TaskLife → ⊥) → Finds (filling w n y)
  at_planned kind life last n y few there planned no_region no_task =
      at_word (filling w n y) (record { creator = n.creator; slot = n.slot; field = y.field; place = y.at })
      (record { there = planned_there w kind life last n.creator n.slot y few there planned; address = refl })
      (other_number (number y.field) (number RegionLife) no_region) (other_number (number y.field) (number TaskLife) no_task)

  at_task_plan : (n : Id) (y : Planned) → IsSlot w tasks n.creator n.slot
      → IsPlannedWord w tasks (number TaskLife) (FIELDS + 1) y → Finds (filling w n y)
  at_task_plan n y there planned =
      at_planned tasks (number TaskLife) (FIELDS + 1) n y (omega arith) there planned
      (λ is. let above = planned.above in absurd (omega (arith, is, above)))
      (λ is. let above = planned.above in absurd (omega (arith, is, above)))

  -- ---- teams

  worker_finds : (c : WorkerCounter) → (actors i).counter ≡ counter.Worker c → Finds (worker_next w (actors i) c)
  worker_finds worker.Begin at = at_thread _ ThreadLife refl refl refl refl
  worker_finds worker.Offer at = at_thread _ ThreadClaim refl refl refl refl
  worker_finds worker.LoadAssign at = loads _
  worker_finds (worker.ClearAssign t) at = at_thread _ ThreadAssign refl refl refl refl
  worker_finds (worker.LoadLife t) at = loads _
  worker_finds (worker.LoadFunction t) at = loads _
  worker_finds (worker.LoadRegion t f) at = loads _
  worker_finds (worker.LoadRegionLife t f r) at = loads _
  worker_finds (worker.LoadSize t f r) at = loads _
  worker_finds (worker.LoadNumber t f r size) at = loads _
  worker_finds (worker.ImplicitBegin t f r size number) at = at_thread _ ThreadCurrent refl refl refl refl
  worker_finds worker.ImplicitEnd at = at_thread _ ThreadCurrent refl refl refl refl
  worker_finds (worker.AddLeft r) at =
      at_record _ regions r.0.creator r.0.slot RegionLeft refl (placed_at (counter.Worker (worker.AddLeft r)) at) refl refl refl
  worker_finds worker.IdleState at = at_thread _ ThreadState refl refl refl refl

  team_finds : (c : TeamCounter) → (actors i).counter ≡ counter.Team c
      → IsSearchGiven (actors i) (counter.Team c) h → Finds (team_next p w (actors i) c)
  team_finds team.OverheadState at given = at_thread _ ThreadState refl refl refl refl
  team_finds team.LoadLevels at given = loads _
  team_finds team.LoadActive at given = loads _
  team_finds (team.LoadVariable word) at given = loads _
  team_finds team.Want at given = loads _
  team_finds team.Ask at given =
      let asked = (fits_at (counter.Team team.Ask) at).2 in
      let same = before.suits.threads in
      at_record _ threads (actors i).gathered.asked 0 ThreadClaim refl
      (record { made_by = omega (arith, asked, same); within = omega arith }) refl refl refl
  team_finds (team.LoadRegionLife slot) at given = loads _
  team_finds (team.TakeRegion r) at given = λ x on.
      takes_region w before.valid i _ r.0 ((fits_at (counter.Team (team.TakeRegion r)) at).1 ∙ mine) (found_in m x) h x on
      (on_record _ regions r.0.creator r.0.slot RegionLife refl (placed_at (counter.Team (team.TakeRegion r)) at) refl)
      given.region
  team_finds (team.FillRegion r word) at given =
      let planned = region_planned w (planned_region p a) word (fits_at (counter.Team (team.FillRegion r word)) at).1 in
      at_planned regions 13 24 r.0 (region_plan w (planned_region p a) word) (omega arith)
      (placed_at (counter.Team (team.FillRegion r word)) at) planned
      (λ is. let above = planned.above in absurd (omega (arith, is, above)))
      (λ is. let below = planned.below in absurd (omega (arith, is, below)))
  team_finds (team.LoadTaskLife r member slot) at given = loads _
  team_finds (team.TakeTask r member t) at given = λ x on.
      takes_task w before.valid i _ t.0 ((fits_at (counter.Team (team.TakeTask r member t)) at).2 ∙ mine) (found_in m x) h x on
      (on_record _ tasks t.0.creator t.0.slot TaskLife refl (placed_at (counter.Team (team.TakeTask r member t)) at).1 refl)
      given.task
  team_finds (team.FillTask r member t word) at given =
      at_task_plan t.0 (task_plan w (new_member p a r member) word) (placed_at (counter.Team (team.FillTask r member t word)) at).1
      (task_planned w (new_member p a r member) word before.suits.groups (fits_at (counter.Team (team.FillTask r member t word)) at).1)
  team_finds (team.StoreMember r member t) at given =
      let got = fits_at (counter.Team (team.StoreMember r member t)) at in
      let few = got.0.0.2 in
      let less = got.1 in
      let same = before.suits.threads in
      at_word _ (record { creator = r.0.creator; slot = r.0.slot; field = RegionTeam; place = member })
      (record {
        there = record {
          field = numbered_field RegionTeam;
          record_slot = (placed_at (counter.Team (team.StoreMember r member t)) at).0;
          within = omega (arith, few, less, same);
        };
        address = refl;
      }) refl refl
  team_finds (team.Fork r) at given = at_thread _ ThreadCurrent refl refl refl refl
  team_finds (team.Assign member) at given =
      let less = (fits_at (counter.Team (team.Assign member)) at).2 in
      let known = (placed_at (counter.Team (team.Assign member)) at).0 member less in
      at_record _ threads (member_of (actors i).gathered.team member).1 0 ThreadAssign refl
      (record { made_by = known; within = omega arith }) refl refl refl

  -- the record of the current region
  at_current : (c : Counter) → (actors i).counter ≡ c → IsOfMember c → (o : Op) (f : Field) → kind_of (number f) ≡ regions
      → address_of o ≡ word_address w a.context.region.0.creator a.context.region.0.slot (number f) 0
      → number f == number RegionLife ≡ false → number f == number TaskLife ≡ false → Finds o
  at_current c at of_member o f kind is no_region no_task =
      at_record o regions a.context.region.0.creator a.context.region.0.slot f kind
      (context_placed p w m events s actors i before c at of_member).region is no_region no_task

  barrier_finds : (c : BarrierCounter) → (actors i).counter ≡ counter.Barrier c → Finds (barrier_next w (actors i) c)
  barrier_finds (barrier.State b) at = at_thread _ ThreadState refl refl refl refl
  barrier_finds (barrier.Arrive b) at =
      at_current (counter.Barrier (barrier.Arrive b)) at tt _ RegionArrived refl refl refl refl
  barrier_finds (barrier.LoadArrived b) at = loads _
  barrier_finds (barrier.LoadPending b) at = loads _
  barrier_finds (barrier.Release b) at =
      at_current (counter.Barrier (barrier.Release b)) at tt _ RegionReleased refl refl refl refl
  barrier_finds (barrier.LoadReleased b) at = loads _

  join_finds : (c : JoinCounter) → (actors i).counter ≡ counter.Join c → Finds (join_next w (actors i) c)
  join_finds join.LoadLeft at = loads _
  join_finds join.Join at = at_thread _ ThreadCurrent refl refl refl refl
  join_finds (join.LoadMember r size member) at = loads _
  join_finds (join.LoadLife r size member t) at = loads _
  join_finds (join.FreeTask r size member t) at = frees _ t.0
  join_finds (join.FreeRegion r size) at = frees _ r.0

  -- ---- explicit tasks

  making_finds : (c : TaskCounter) → (actors i).counter ≡ counter.Task c
      → IsSearchGiven (actors i) (counter.Task c) h → Finds (making_next p w (actors i) c)
  making_finds (task.LoadSlot place) at given = loads _
  making_finds (task.LoadVariable place word) at given = loads _
  making_finds (task.LoadGroup place) at given = loads _
  making_finds (task.LoadLife place slot) at given = loads _
  making_finds (task.Take place t) at given = λ x on.
      takes_task w before.valid i _ t.0 ((fits_at (counter.Task (task.Take place t)) at).1 ∙ mine) (found_in m x) h x on
      (on_record _ tasks t.0.creator t.0.slot TaskLife refl (placed_at (counter.Task (task.Take place t)) at) refl)
      given.task
  making_finds (task.Fill place t word) at given =
      at_task_plan t.0 (task_plan w (new_task p w a) word) (placed_at (counter.Task (task.Fill place t word)) at)
      (task_planned w (new_task p w a) word before.suits.groups (fits_at (counter.Task (task.Fill place t word)) at).1)
  making_finds (task.AddPending place t) at given =
      at_record _ regions a.context.region.0.creator a.context.region.0.slot RegionPending refl
      (making.context_placed p w m events s actors i before (task.AddPending place t) at).region refl refl refl
  making_finds (task.AddChildren place t) at given =
      at_record _ tasks a.context.task.0.creator a.context.task.0.slot TaskChildren refl
      (making.context_placed p w m events s actors i before (task.AddChildren place t) at).task refl refl refl
  making_finds (task.AddReferences place t) at given =
      at_record _ tasks a.context.task.0.creator a.context.task.0.slot TaskReferences refl
      (making.context_placed p w m events s actors i before (task.AddReferences place t) at).task refl refl refl
  making_finds (task.AddCount place t) at given =
      let (g, there) = count_raised p w m events s actors i before place t at in
      at_word _ (count_word g) there refl refl
  making_finds (task.Defer place t) at given =
      at_word _ (record { creator = a.context.row.0.creator; slot = a.context.row.0.slot; field = TaskSlots; place = place })
      (record {
        there = record {
          field = numbered_field TaskSlots;
          record_slot = (making.context_placed p w m events s actors i before (task.Defer place t) at).row;
          within = slot_within w place (fits_at (counter.Task (task.Defer place t)) at).0.1;
        };
        address = refl;
      }) refl refl
  making_finds (task.StartNow t) at given = at_thread _ ThreadCurrent refl refl refl refl

  -- the word for the open groups of the current task
  on_open_groups : (o : Op) → IsSlot w tasks a.context.task.0.creator a.context.task.0.slot
      → address_of o ≡ of_groups w a.context.task OPEN_PLACE → Finds o
  on_open_groups o there is =
      at_word o (record { creator = a.context.task.0.creator; slot = a.context.task.0.slot; field = TaskSlots; place = OPEN_PLACE })
      (record {
        there = record { field = numbered_field TaskSlots; record_slot = there; within = group_word_within w OPEN_PLACE before.suits.groups (omega arith) };
        address = is;
      }) refl refl

  look_finds : (c : LookCounter) → (actors i).counter ≡ counter.Look c → Finds (look_next w (actors i) c)
  look_finds (look.State v) at = at_thread _ ThreadState refl refl refl refl
  look_finds (look.LoadRow v n) at = loads _
  look_finds (look.LoadSlot v n row) at = loads _
  look_finds (look.LoadGenerating v n row code) at = loads _
  look_finds (look.LoadGroup n row code) at = loads _
  look_finds (look.Take v n row code) at =
      at_word _ (record { creator = row.creator; slot = row.slot; field = TaskSlots; place = n % OWN_SLOTS })
      (record {
        there = record { field = numbered_field TaskSlots; record_slot = placed_at (counter.Look (look.Take v n row code)) at; within = slot_within w (n % OWN_SLOTS) (omega arith) };
        address = refl;
      }) refl refl
  look_finds (look.LoadFunction v n code t) at = loads _
  look_finds (look.LoadFinal v n code t f) at = loads _
  look_finds (look.Fill v n code t f final word) at =
      at_task_plan t.0 (start_plan w a word) (placed_at (counter.Look (look.Fill v n code t f final word)) at)
      (start_planned w a word (fits_at (counter.Look (look.Fill v n code t f final word)) at).1)
  look_finds (look.Start v n code t f final) at = at_thread _ ThreadCurrent refl refl refl refl
  look_finds look.LoadChildren at = loads _
  look_finds look.LoadCount at = loads _
  look_finds look.GroupEnd at =
      on_open_groups _ (context_placed p w m events s actors i before (counter.Look look.GroupEnd) at tt).task refl
  look_finds (look.Yield n) at = loads _

  finish_finds : (c : FinishCounter) → (actors i).counter ≡ counter.Finish c → Finds (finish_next w (actors i) c)
  finish_finds finish.Finish at = at_thread _ ThreadCurrent refl refl refl refl
  finish_finds (finish.LoadGenerating v t) at = loads _
  finish_finds (finish.SubtractChildren v t generating) at =
      at_record _ tasks generating.creator generating.slot TaskChildren refl
      (placed_at (counter.Finish (finish.SubtractChildren v t generating)) at).1 refl refl refl
  finish_finds (finish.LoadGroup v t generating) at = loads _
  finish_finds (finish.SubtractCount v t generating group) at =
      let (g, there) = count_lowered p w m events s actors i before v t generating group at in
      at_word _ (count_word g) there refl refl
  finish_finds (finish.SubtractReferences v t generating) at =
      at_record _ tasks t.0.creator t.0.slot TaskReferences refl
      (placed_at (counter.Finish (finish.SubtractReferences v t generating)) at).0 refl refl refl
  finish_finds (finish.Free v t generating) at = frees _ t.0
  finish_finds (finish.LoadImplicit v generating) at = loads _
  finish_finds (finish.LoadNext v generating) at = loads _
  finish_finds (finish.LoadLife v generating next) at = loads _
  finish_finds (finish.SubtractGenerating v generating explicit) at =
      at_record _ tasks generating.creator generating.slot TaskReferences refl
      (placed_at (counter.Finish (finish.SubtractGenerating v generating explicit)) at).0 refl refl refl
  finish_finds (finish.SubtractPending v) at =
      at_current (counter.Finish (finish.SubtractPending v)) at tt _ RegionPending refl refl refl refl

  -- ---- plain steps

  -- the first word of a field in the record of the current task
  at_task : (c : PlainCounter) → (actors i).counter ≡ counter.Plain c → (f : Field) (word : ℕ) → kind_of (number f) ≡ tasks
      → number f == number RegionLife ≡ false → number f == number TaskLife ≡ false
      → Finds (op.Store (of_task w a.context.task f) word)
  at_task c at f word kind no_region no_task =
      at_word _ (word_of a.context.task.0.creator a.context.task.0.slot f)
      (task_on p w m events s actors i before c at f word kind) no_region no_task

  -- a variable is set at the one word that it has
  abbrev set_by : Bool → Bool → Bool → Bool → Bool → ℕ
  set_by n d x r v =
      if n then of_task w a.context.task TaskNthreads
      else (if d then of_task w a.context.task TaskDynamic
      else (if x then of_runtime w RuntimeMaxActive
      else (if r then of_task w a.context.task TaskSchedule
      else (if v then of_task w a.context.task TaskDevice else 0))))

  set_finds : (at : (actors i).counter ≡ counter.Plain plain.Set) (icv word : ℕ)
      → Finds (op.Store (variable_address w a icv) word)
  set_finds at icv word =
      go (icv == NTHREADS_VAR) (icv == DYN_VAR) (icv == MAX_ACTIVE_LEVELS_VAR) (icv == RUN_SCHED_VAR) (icv == DEFAULT_DEVICE_VAR)
    where
      go : (n d x r v : Bool) → Finds (op.Store (set_by n d x r v) word)
      go true d x r v = at_task plain.Set at TaskNthreads word refl refl refl
      go false true x r v = at_task plain.Set at TaskDynamic word refl refl refl
      go false false true r v =
          at_record _ runtime 0 0 RuntimeMaxActive refl (record { made_by = omega arith; within = omega arith }) refl refl refl
      go false false false true v = at_task plain.Set at TaskSchedule word refl refl refl
      go false false false false true = at_task plain.Set at TaskDevice word refl refl refl
      go false false false false false = λ x on.
          let nowhere = on.address in
          let placed = address_placed w before.valid x.creator x.slot (number x.field) x.place in
          absurd (omega (arith, nowhere, placed))

  at_lock : (c : PlainCounter) (at : (actors i).counter ≡ counter.Plain c) → FitsCounter p (actors i) (counter.Plain plain.Lock)
      → (o : Op) → address_of o ≡ word_address w 0 0 (number RuntimeLocks) (lock_in (in_work p a)) → Finds o
  at_lock c at critical o is =
      at_word o (record { creator = 0; slot = 0; field = RuntimeLocks; place = lock_in (in_work p a) })
      (record { there = lock_there p w m events s actors i before c at critical; address = is }) refl refl

  plain_finds : (c : PlainCounter) → (actors i).counter ≡ counter.Plain c → Finds (plain_next p w (actors i) c)
  plain_finds plain.Work at = loads _
  plain_finds plain.Call at = loads _
  plain_finds plain.Skip at = loads _
  plain_finds plain.Return at = loads _
  plain_finds plain.Set at = set_finds at (set_number (in_work p a)) _
  plain_finds plain.Tool at = at_task plain.Tool at TaskTool _ refl refl refl
  plain_finds plain.Enter at = at_task plain.Enter at TaskEnter _ refl refl refl
  plain_finds plain.Leave at = at_task plain.Leave at TaskEnter _ refl refl refl
  plain_finds plain.WorkState at = at_thread _ ThreadState refl refl refl refl
  plain_finds plain.LockState at = at_thread _ ThreadState refl refl refl refl
  plain_finds plain.Lock at = at_lock plain.Lock at (fits_at (counter.Plain plain.Lock) at) _ refl
  plain_finds plain.Unlock at = at_lock plain.Unlock at (fits_at (counter.Plain plain.Unlock) at) _ refl
  plain_finds plain.GroupBegin at =
      on_open_groups _ (task_on p w m events s actors i before plain.GroupBegin at TaskTool 0 refl).there.record_slot refl
  plain_finds plain.Done at = loads _
  plain_finds plain.Ended at = loads _

  -- ---- all of them

  pub taken_at : (c : Counter) → (actors i).counter ≡ c → IsSearchGiven (actors i) c h
      → Finds (next_at p w (actors i) c)
  taken_at (counter.Worker c) at given = worker_finds c at
  taken_at (counter.Team c) at given = team_finds c at given
  taken_at (counter.Barrier c) at given = barrier_finds c at
  taken_at (counter.Join c) at given = join_finds c at
  taken_at (counter.Task c) at given = making_finds c at given
  taken_at (counter.Look c) at given = look_finds c at
  taken_at (counter.Finish c) at given = finish_finds c at
  taken_at (counter.Plain c) at given = plain_finds c at
