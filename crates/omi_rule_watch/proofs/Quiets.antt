-- A step of a thread leaves no more quiet steps behind it than its next counter says.
use Rattle.std.proofs.Common.{◌≡◌, ◌≤◌, ◌<◌, ◌+◌, ◌%◌, ◌==◌, ℕ, Bool, true, false, List, [], ◌∷◌, Option, Some, None, refl, subst, arith, if◌then◌else◌}
use Rattle.std.specs.Prelude.{nat_lt}
use Rattle.omi_script.specs.declared.program.Program.{Program}
use Rattle.omi_script.specs.declared.statement.Stmt.TheVariants as stmt
use Rattle.omi_layout.specs.Field.{regions, tasks}
use Rattle.omi_pc.specs.declared.actor.Actor.{Actor}
use Rattle.omi_pc.specs.declared.counter.Counter.{Counter}
use Rattle.omi_pc.specs.declared.counter.Counter.TheVariants as counter
use Rattle.omi_pc.specs.declared.counter.PlainCounter.{PlainCounter}
use Rattle.omi_pc.specs.declared.counter.PlainCounter.TheVariants as plain
use Rattle.omi_pc.specs.declared.frame.Barrier.TheVariants.{Explicit, Implicit}
use Rattle.omi_pc.specs.declared.frame.Frame.{Frame}
use Rattle.omi_pc.specs.declared.frame.Wait.{Wait}
use Rattle.omi_pc.specs.declared.frame.Wait.TheVariants as wait
use Rattle.omi_numbers.specs.declared.limits.TheConstants.{OWN_SLOTS}
use Rattle.omi_pc.specs.declared.limits.TheConstants.{REGION_WORDS, START_WORDS, TASK_WORDS, VARIABLE_WORDS}
use Rattle.omi_pc.specs.declared.place.Place.{Place}
use Rattle.omi_pc.specs.declared.task_counter.Ancestor.{Ancestor}
use Rattle.omi_pc.specs.declared.task_counter.FinishCounter.{FinishCounter}
use Rattle.omi_pc.specs.declared.task_counter.FinishCounter.TheVariants as finish
use Rattle.omi_pc.specs.declared.task_counter.LookCounter.{LookCounter}
use Rattle.omi_pc.specs.declared.task_counter.LookCounter.TheVariants as look
use Rattle.omi_pc.specs.declared.task_counter.TaskCounter.{TaskCounter}
use Rattle.omi_pc.specs.declared.task_counter.TaskCounter.TheVariants as task
use Rattle.omi_pc.specs.declared.team_counter.BarrierCounter.{BarrierCounter}
use Rattle.omi_pc.specs.declared.team_counter.BarrierCounter.TheVariants as barrier
use Rattle.omi_pc.specs.declared.team_counter.JoinCounter.{JoinCounter}
use Rattle.omi_pc.specs.declared.team_counter.JoinCounter.TheVariants as join
use Rattle.omi_pc.specs.declared.team_counter.TeamCounter.{TeamCounter}
use Rattle.omi_pc.specs.declared.team_counter.TeamCounter.TheVariants as team
use Rattle.omi_pc.specs.declared.team_counter.WorkerCounter.{WorkerCounter}
use Rattle.omi_pc.specs.declared.team_counter.WorkerCounter.TheVariants as worker
use Rattle.omi_pc.specs.Fits.{FitsCounter, FitsLook, FitsTask, FitsTeam, Waits, slots_of}
use Rattle.omi_pc.specs.Moves.{back_to_work}
use Rattle.omi_pc.specs.OpenBodies.{AreOpen, IsAt, IsAtBarrier, IsAtStart, IsMaster}
use Rattle.omi_pc.proofs.NextCounters.{HoldsNext, working_next}
use Rattle.omi_rep.specs.declared.outcome.Outcome.{Outcome}
use Rattle.omi_rep.specs.declared.outcome.Outcome.TheVariants as outcome
use Rattle.omi_step_words.specs.Moving.{to_barrier, to_join, to_look, to_team, to_worker}
use Rattle.omi_step_words.specs.Searches.{next_slot, own_place}
use Rattle.omi_step_words.specs.Words.{is_free, object_in, task_place}
use Rattle.omi_fork.specs.BarrierSteps.{barrier_moved, barrier_outcome, is_closed, looking, passed, some_missing}
use Rattle.omi_fork.specs.JoinSteps.{join_moved, join_outcome, some_inside}
use Rattle.omi_fork.specs.TeamParts.{team_size}
use Rattle.omi_fork.specs.TeamSteps.{assigning_from, team_moved, team_outcome}
use Rattle.omi_fork.specs.WorkerSteps.{worker_moved, worker_outcome}
use Rattle.omi_plain.specs.PlainSteps.{plain_outcome}
use Rattle.omi_task.specs.LookSteps.{behind_code, behind_look, look_at, look_moved, look_outcome, looking_on, next_look}
use Rattle.omi_task.specs.FinishSteps.{behind_finish, behind_references, finish_moved, finish_outcome}
use Rattle.omi_task.specs.MakingSteps.{making_moved, making_outcome, behind_raises, behind_variables}
use Rattle.omi_task.specs.Slots.{coded_task}
use Rattle.omi_task.specs.Groups.{new_group}
use Rattle.omi_actor.specs.Steps.{resumed_at}
use Rattle.omi_rule_watch.specs.Demands.{most_in_row}
use Rattle.omi_rule_watch.specs.Given.{at_look, carried, finish_quiet, making_quiet, most_quiet, team_quiet}
use Rattle.omi_rule_watch.specs.Watch.{quiet_after}
use Rattle.omi_rule_watch.specs.WatchLaws.{QuietStepsAreFew}
use Rattle.omi_rule_watch.proofs.Cases.{one_of, paired}
use Rattle.omi_model.specs.declared.id.Tid.{Tid}

-- ---- moves between statements

-- each of them carries as much
abbrev Carries : ℕ → Counter → Type 0
Carries t c = carried t ≤ most_quiet t c

carries_next : (t : ℕ) → HoldsNext (Carries t)
carries_next t = record { plain = λ c before. omega arith; state = omega arith; arrive = omega arith; finish = omega arith }

-- a thread with an open body works again
carried_working : (t : ℕ) (p : Program) (a : Actor) → IsAtStart IsMaster a.stack
    → carried t ≤ most_quiet t (back_to_work p a).counter
carried_working t p a starts =
    working_next (Carries t) (carries_next t) p a
    (λ none. absurd (subst (λ (fs : List Frame). IsAtStart IsMaster fs) none starts))

-- ---- where a step goes by what it found

-- a quiet step, or one behind which nothing is counted
either : (t q : ℕ) (b : Bool) (x y : Actor) (o r : Outcome) → quiet_after o q ≤ most_quiet t x.counter
    → quiet_after r q ≤ most_quiet t y.counter
    → quiet_after (if b then o else r) q ≤ most_quiet t (if b then x else y).counter
either t q b x y o r one other =
    paired (λ (out : Outcome) (z : Actor). quiet_after out q ≤ most_quiet t z.counter) b o r x y one other

-- ---- the families

quiet_worker : (p : Program) (w : List ℕ) (a : Actor) (c : WorkerCounter) (old q : ℕ)
    → q ≤ most_quiet p.threads (counter.Worker c)
    → quiet_after (worker_outcome w a c old) q ≤ most_quiet p.threads (worker_moved p w a c old).counter
quiet_worker p w a worker.Begin old q few = omega arith
quiet_worker p w a worker.Offer old q few = omega arith
quiet_worker p w a worker.LoadAssign old q few =
    either p.threads q (old == 0) a (to_worker (worker.ClearAssign (task_place w old)) a) _ outcome.Quiet
    (omega arith) (omega (arith, few))
quiet_worker p w a (worker.ClearAssign t) old q few = omega (arith, few)
quiet_worker p w a (worker.LoadLife t) old q few = omega (arith, few)
quiet_worker p w a (worker.LoadFunction t) old q few = omega (arith, few)
quiet_worker p w a (worker.LoadRegion t f) old q few = omega (arith, few)
quiet_worker p w a (worker.LoadRegionLife t f r) old q few = omega (arith, few)
quiet_worker p w a (worker.LoadSize t f r) old q few = omega (arith, few)
quiet_worker p w a (worker.LoadNumber t f r size) old q few = omega (arith, few)
quiet_worker p w a (worker.ImplicitBegin t f r size number) old q few = omega arith
quiet_worker p w a worker.ImplicitEnd old q few = omega arith
quiet_worker p w a (worker.AddLeft r) old q few = go p.env.debug
  where
    go : (b : Bool)
        → q + 1 ≤ most_quiet p.threads (counter.Worker (if b then worker.IdleState else worker.Offer))
    go true = omega (arith, few)
    go false = omega (arith, few)
quiet_worker p w a worker.IdleState old q few = omega arith

-- the counter behind a word of a fill, or behind the last one
filled_to : (t q : ℕ) (b : Bool) (x y : TeamCounter) → q ≤ team_quiet t x → q ≤ team_quiet t y
    → q ≤ team_quiet t (if b then x else y)
filled_to t q b x y one other = one_of (λ (c : TeamCounter). q ≤ team_quiet t c) b x y one other

-- and behind a life word that was looked at
searched_to : (t q : ℕ) (b : Bool) (waits : Outcome) (x y : TeamCounter) → quiet_after waits q ≡ 0
    → q + 1 ≤ team_quiet t x
    → quiet_after (if b then outcome.Quiet else waits) q ≤ team_quiet t (if b then x else y)
searched_to t q b waits x y none few =
    paired
    (λ (out : Outcome) (c : TeamCounter). quiet_after out q ≤ team_quiet t c) b outcome.Quiet waits x y few
    (omega (arith, none))

quiet_assigning : (p : Program) (member : ℕ) (a : Actor) (q : ℕ) → IsAtStart IsMaster a.stack → q ≤ member
    → q ≤ carried p.threads → q ≤ most_quiet p.threads (assigning_from p member a).counter
quiet_assigning p member a q starts few most = go (nat_lt member (team_size a))
  where
    go : (b : Bool)
        → q ≤ most_quiet p.threads (if b then to_team (team.Assign member) a else back_to_work p a).counter
    go true = few
    go false = let least = carried_working p.threads p a starts in omega (arith, least, most)

quiet_team : (p : Program) (w : List ℕ) (a : Actor) (c : TeamCounter) (old q : ℕ) → FitsTeam p a c
    → q ≤ team_quiet p.threads c
    → quiet_after (team_outcome p w a c old) q ≤ most_quiet p.threads (team_moved p w a c old).counter
quiet_team p w a team.OverheadState old q fits few = omega arith
quiet_team p w a team.LoadLevels old q fits few = omega (arith, few)
quiet_team p w a team.LoadActive old q fits few = omega (arith, few)
quiet_team p w a (team.LoadVariable word) old q fits few = last (nat_lt (word + 1) VARIABLE_WORDS) refl
  where
    last : (b : Bool) → nat_lt (word + 1) VARIABLE_WORDS ≡ b
        → q + 1 ≤ team_quiet p.threads (if b then team.LoadVariable (word + 1) else team.Want)
    last true e = omega (arith, few)
    last false e = let within = fits.1 in omega (arith, few, within)
quiet_team p w a team.Want old q fits few = omega arith
quiet_team p w a team.Ask old q fits few = omega arith
quiet_team p w a (team.LoadRegionLife slot) old q fits few =
    searched_to p.threads q (is_free old) _
    (team.TakeRegion (record { 0 = object_in (own_place a slot) old }))
    (team.LoadRegionLife (next_slot w regions slot)) refl (omega (arith, few))
quiet_team p w a (team.TakeRegion r) old q fits few = omega (arith, few)
quiet_team p w a (team.FillRegion r word) old q fits few =
    filled_to p.threads (q + 1) (nat_lt (word + 1) REGION_WORDS) (team.FillRegion r (word + 1))
    (team.LoadTaskLife r 0 0) (omega (arith, few)) (let within = fits.1 in omega (arith, few, within))
quiet_team p w a (team.LoadTaskLife r member slot) old q fits few =
    searched_to p.threads q (is_free old) _
    (team.TakeTask r member (record { 0 = object_in (own_place a slot) old }))
    (team.LoadTaskLife r member (next_slot w tasks slot)) refl (omega (arith, few))
quiet_team p w a (team.TakeTask r member t) old q fits few = omega (arith, few)
quiet_team p w a (team.FillTask r member t word) old q fits few =
    filled_to p.threads (q + 1) (nat_lt (word + 1) TASK_WORDS) (team.FillTask r member t (word + 1))
    (team.StoreMember r member t) (omega (arith, few)) (let within = fits.1 in omega (arith, few, within))
quiet_team p w a (team.StoreMember r member t) old q fits few =
    filled_to p.threads (q + 1) (nat_lt (member + 1) (team_size a)) (team.LoadTaskLife r (member + 1) 0)
    (team.Fork r) (omega (arith, few))
    (let all = fits.0.0.2 in let one = fits.1 in omega (arith, few, all, one))
quiet_team p w a (team.Fork r) old q fits few = omega arith
quiet_team p w a (team.Assign member) old q fits few =
    quiet_assigning p (member + 1) a (q + 1) fits.0 (omega (arith, few))
    (let one = fits.2 in let all = fits.3 in omega (arith, few, one, all))

quiet_barrier : (p : Program) (w : List ℕ) (a : Actor) (c : BarrierCounter) (old q : ℕ)
    → q ≤ most_quiet p.threads (counter.Barrier c)
    → quiet_after (barrier_outcome w a c old) q ≤ most_quiet p.threads (barrier_moved p a c old).counter
quiet_barrier p w a (barrier.State b) old q few = omega arith
quiet_barrier p w a (barrier.Arrive b) old q few = omega arith
quiet_barrier p w a (barrier.LoadArrived b) old q few =
    either p.threads q (some_missing a old) (looking b a)
    (to_barrier (barrier.LoadPending b) a) _ outcome.Quiet (omega arith) (omega (arith, few))
quiet_barrier p w a (barrier.LoadPending b) old q few =
    either p.threads q (old == 0) (to_barrier (barrier.Release b) a) (looking b a) outcome.Quiet _
    (omega (arith, few)) (omega arith)
quiet_barrier p w a (barrier.Release b) old q few = omega arith
quiet_barrier p w a (barrier.LoadReleased b) old q few =
    either p.threads q (is_closed a old) (looking b a) (passed p b a) _ _ (omega arith) (omega arith)

quiet_join : (p : Program) (w : List ℕ) (a : Actor) (c : JoinCounter) (old q : ℕ)
    → q ≤ most_quiet p.threads (counter.Join c)
    → quiet_after (join_outcome w a c old) q ≤ most_quiet p.threads (join_moved p w a c old).counter
quiet_join p w a join.LoadLeft old q few =
    either p.threads q (some_inside a old) a (to_join join.Join a) _ outcome.Quiet (omega arith)
    (omega (arith, few))
quiet_join p w a join.Join old q few = omega arith
quiet_join p w a (join.LoadMember r size member) old q few = omega (arith, few)
quiet_join p w a (join.LoadLife r size member t) old q few = omega (arith, few)
quiet_join p w a (join.FreeTask r size member t) old q few = omega arith
quiet_join p w a (join.FreeRegion r size) old q few = omega arith

made_to : (q : ℕ) (b : Bool) (x y : TaskCounter) → q ≤ making_quiet x → q ≤ making_quiet y
    → q ≤ making_quiet (if b then x else y)
made_to q b x y one other = one_of (λ (c : TaskCounter). q ≤ making_quiet c) b x y one other

made_from : (q : ℕ) (b : Bool) (other : Outcome) (x y : TaskCounter) → quiet_after other q ≡ 0
    → q + 1 ≤ making_quiet x
    → quiet_after (if b then outcome.Quiet else other) q ≤ making_quiet (if b then x else y)
made_from q b other x y none few =
    paired
    (λ (out : Outcome) (c : TaskCounter). quiet_after out q ≤ making_quiet c) b outcome.Quiet other x y few
    (omega (arith, none))

-- all counts are raised
quiet_raised : (place : Option ℕ) (t : Tid) (q : ℕ) → q ≤ 16 + TASK_WORDS → q ≤ making_quiet (behind_raises place t)
quiet_raised None t q few = omega (arith, few)
quiet_raised (Some place) t q few = omega (arith, few)

quiet_making : (p : Program) (w : List ℕ) (a : Actor) (c : TaskCounter) (old q : ℕ) → FitsTask p a c
    → q ≤ making_quiet c
    → quiet_after (making_outcome w a c old) q ≤ most_quiet p.threads (making_moved p w a c old).counter
quiet_making p w a (task.LoadSlot place) old q fits few =
    made_from q (old == 0) _ (task.LoadVariable (Some place) 0)
    (if nat_lt (place + 1) OWN_SLOTS then task.LoadSlot (place + 1) else task.LoadVariable None 0) refl
    (omega (arith, few))
quiet_making p w a (task.LoadVariable place word) old q fits few =
    made_to (q + 1) (nat_lt (word + 1) VARIABLE_WORDS) (task.LoadVariable place (word + 1))
    (behind_variables a.context.open_groups place) (omega (arith, few))
    (let within = fits.1 in
    made_to (q + 1) (a.context.open_groups == 0) (task.LoadGroup place) (task.LoadLife place 0)
    (omega (arith, few, within)) (omega (arith, few, within)))
quiet_making p w a (task.LoadGroup place) old q fits few = omega (arith, few)
quiet_making p w a (task.LoadLife place slot) old q fits few =
    made_from q (is_free old) _ (task.Take place (record { 0 = object_in (own_place a slot) old }))
    (task.LoadLife place (next_slot w tasks slot)) refl (omega (arith, few))
quiet_making p w a (task.Take place t) old q fits few = omega (arith, few)
quiet_making p w a (task.Fill place t word) old q fits few =
    made_to (q + 1) (nat_lt (word + 1) TASK_WORDS) (task.Fill place t (word + 1)) (task.AddPending place t)
    (omega (arith, few)) (let within = fits.1 in omega (arith, few, within))
quiet_making p w a (task.AddPending place t) old q fits few = omega (arith, few)
quiet_making p w a (task.AddChildren place t) old q fits few = omega (arith, few)
quiet_making p w a (task.AddReferences place t) old q fits few =
    made_to (q + 1) (new_group w a == 0) (behind_raises place t) (task.AddCount place t)
    (quiet_raised place t (q + 1) (omega (arith, few))) (omega (arith, few))
quiet_making p w a (task.AddCount place t) old q fits few = quiet_raised place t (q + 1) (omega (arith, few))
quiet_making p w a (task.Defer place t) old q fits few = omega arith
quiet_making p w a (task.StartNow t) old q fits few = omega arith

-- ---- waits

no_statement : (p : Program) (a : Actor) (w : Wait) → a.stack ≡ [] → Waits p a w → ⊥
no_statement p a (wait.Barrier Explicit) none waits =
    absurd (cc (subst (λ fs. IsAtBarrier p fs Explicit) none waits.0))
no_statement p a (wait.Barrier Implicit) none waits = subst (λ fs. IsAtBarrier p fs Implicit) none waits.0
no_statement p a wait.Taskwait none waits =
    let is = subst (λ fs. IsAt p fs stmt.Taskwait) none waits in absurd (cc is)
no_statement p a wait.Taskyield none waits =
    let is = subst (λ fs. IsAt p fs stmt.Taskyield) none waits in absurd (cc is)
no_statement p a wait.Taskgroup none (f, waits) =
    let is = subst (λ fs. IsAt p fs (stmt.Taskgroup f)) none waits in absurd (cc is)

-- a team has at most all threads
pub size_is_few : (p : Program) (a : Actor) (w : Wait) → AreOpen p a.context a.stack → Waits p a w
    → a.context.size ≤ p.threads
size_is_few p a w bodies waits = go a.stack refl bodies
  where
    go : (fs : List Frame) → a.stack ≡ fs → AreOpen p a.context fs → a.context.size ≤ p.threads
    go [] none bodies = absurd (no_statement p a w none waits)
    go (f ∷ fs) is bodies = bodies.0.context.size.1

-- the next slot is looked at, or the wait goes on behind the last one
quiet_on : (p : Program) (a : Actor) (v : Wait) (n : ℕ) (row : Place) (q : ℕ) → n < slots_of a
    → a.context.size ≤ p.threads → q ≤ at_look p.threads n + 3
    → q + 1 ≤ most_quiet p.threads (next_look a v (n + 1) row)
quiet_on p a v n row q within all few = go (nat_lt (n + 1) (slots_of a))
  where
    behind : (v : Wait) → q + 1 ≤ most_quiet p.threads (behind_look a v)
    behind (wait.Barrier b) = first (a.context.number == 0)
      where
        first : (d : Bool)
            → q + 1 ≤ most_quiet p.threads (counter.Barrier (if d then barrier.LoadArrived b else barrier.LoadReleased b))
        first true = omega (arith, few, within, all)
        first false = omega (arith, few, within, all)
    behind wait.Taskwait = omega (arith, few, within, all)
    behind wait.Taskyield = omega (arith, few, within, all)
    behind wait.Taskgroup = omega (arith, few, within, all)

    at : (d : Bool)
        → q + 1 ≤ most_quiet p.threads (counter.Look (if d then look.LoadRow v (n + 1) else look.LoadSlot v (n + 1) row))
    at true = omega (arith, few)
    at false = omega (arith, few)

    go : (b : Bool)
        → q + 1 ≤ most_quiet p.threads (if b then counter.Look (look_at v (n + 1) row) else behind_look a v)
    go true = at ((n + 1) % OWN_SLOTS == 0)
    go false = behind v

-- one of two counters behind a quiet step
quietly : (t q : ℕ) (b : Bool) (x y : Actor) → q ≤ most_quiet t x.counter → q ≤ most_quiet t y.counter
    → q ≤ most_quiet t (if b then x else y).counter
quietly t q b x y one other = one_of (λ (z : Actor). q ≤ most_quiet t z.counter) b x y one other

quiet_code : (t : ℕ) (v : Wait) (n : ℕ) (row : Place) (code q : ℕ) → q ≤ at_look t n + 1
    → q + 1 ≤ most_quiet t (counter.Look (behind_code v n row code))
quiet_code t (wait.Barrier b) n row code q few = omega (arith, few)
quiet_code t wait.Taskwait n row code q few = omega (arith, few)
quiet_code t wait.Taskyield n row code q few = omega (arith, few)
quiet_code t wait.Taskgroup n row code q few = omega (arith, few)

quiet_looks : (p : Program) (w : List ℕ) (a : Actor) (c : LookCounter) (old q : ℕ)
    → AreOpen p a.context a.stack → FitsLook p a c → q ≤ most_quiet p.threads (counter.Look c)
    → quiet_after (look_outcome w a c old) q ≤ most_quiet p.threads (look_moved p w a c old).counter
quiet_looks p w a (look.State v) old q bodies fits few = omega arith
quiet_looks p w a (look.LoadRow v n) old q bodies fits few = omega (arith, few)
quiet_looks p w a (look.LoadSlot v n row) old q bodies fits few =
    quietly p.threads (q + 1) (old == 0) (looking_on v n row a) (to_look (behind_code v n row old) a)
    (quiet_on p a v n row q fits.0.1 (size_is_few p a v bodies fits.0.0) (omega (arith, few)))
    (quiet_code p.threads v n row old q few)
quiet_looks p w a (look.LoadGenerating v n row code) old q bodies fits few =
    quietly p.threads (q + 1) (old == _) (to_look (look.Take v n row code) a) (looking_on v n row a)
    (omega (arith, few))
    (quiet_on p a v n row q fits.0.0.1 (size_is_few p a v bodies fits.0.0.0) (omega (arith, few)))
quiet_looks p w a (look.LoadGroup n row code) old q bodies fits few =
    quietly p.threads (q + 1) (old == _) (to_look (look.Take wait.Taskgroup n row code) a)
    (looking_on wait.Taskgroup n row a) (omega (arith, few))
    (quiet_on p a wait.Taskgroup n row q fits.0.0.1 (size_is_few p a wait.Taskgroup bodies fits.0.0.0) (omega (arith, few)))
quiet_looks p w a (look.Take v n row code) old q bodies fits few =
    quietly p.threads (q + 1) (old == code) (to_look (look.LoadFunction v n code (coded_task w code)) a)
    (looking_on v n row a) (omega (arith, few))
    (quiet_on p a v n row q fits.0.0.1 (size_is_few p a v bodies fits.0.0.0) (omega (arith, few)))
quiet_looks p w a (look.LoadFunction v n code t) old q bodies fits few = omega (arith, few)
quiet_looks p w a (look.LoadFinal v n code t f) old q bodies fits few = omega (arith, few)
quiet_looks p w a (look.Fill v n code t f final word) old q bodies fits few =
    go (nat_lt (word + 1) START_WORDS)
  where
    go : (b : Bool)
        → q + 1 ≤ most_quiet p.threads (counter.Look (if b then look.Fill v n code t f final (word + 1) else look.Start v n code t f final))
    go true = omega (arith, few)
    go false = let within = fits.1 in omega (arith, few, within)
quiet_looks p w a (look.Start v n code t f final) old q bodies fits few = omega arith
quiet_looks p w a look.LoadChildren old q bodies fits few =
    either p.threads q (old == 0) (back_to_work p a) (to_look (look.LoadRow wait.Taskwait 0) a) _ _
    (omega arith) (omega arith)
quiet_looks p w a look.LoadCount old q bodies fits few =
    either p.threads q (old == 0) (to_look look.GroupEnd a) (to_look (look.LoadRow wait.Taskgroup 0) a) outcome.Quiet _
    (omega (arith, few)) (omega arith)
quiet_looks p w a look.GroupEnd old q bodies fits few = omega arith
quiet_looks p w a (look.Yield n) old q bodies fits few = omega arith

quiet_again : (t q : ℕ) (v : Wait) (d : Bool) → q ≤ 5
    → q + 1 ≤ most_quiet t (counter.Look (if d then look.State v else look.LoadRow v 0))
quiet_again t q v true few = omega (arith, few)
quiet_again t q v false few = omega (arith, few)

quiet_back : (p : Program) (v : Option Wait) (q : ℕ) → q ≤ 5
    → q + 1 ≤ most_quiet p.threads (behind_finish p v)
quiet_back p None q few = omega (arith, few)
quiet_back p (Some wait.Taskyield) q few = omega (arith, few)
quiet_back p (Some wait.Taskwait) q few = quiet_again p.threads q wait.Taskwait p.env.debug few
quiet_back p (Some wait.Taskgroup) q few = quiet_again p.threads q wait.Taskgroup p.env.debug few
quiet_back p (Some (wait.Barrier b)) q few = quiet_again p.threads q (wait.Barrier b) p.env.debug few

-- the counter behind a word that was loaded or lowered, by this word
lowered_to : (t q : ℕ) (b : Bool) (x y : FinishCounter) → q ≤ finish_quiet t x → q ≤ finish_quiet t y
    → q ≤ finish_quiet t (if b then x else y)
lowered_to t q b x y one other = one_of (λ (c : FinishCounter). q ≤ finish_quiet t c) b x y one other

quiet_references : (t : ℕ) (w : List ℕ) (v : Option Wait) (explicit : Option Ancestor) (old q : ℕ) → q ≤ 3
    → q + 1 ≤ finish_quiet t (behind_references w v explicit old)
quiet_references t w v None old q few = omega (arith, few)
quiet_references t w v (Some x) old q few =
    lowered_to t (q + 1) (old == 1) (finish.Free v x.task (task_place w x.generating)) (finish.SubtractPending v)
    (omega (arith, few)) (omega (arith, few))

quiet_finish : (p : Program) (w : List ℕ) (a : Actor) (c : FinishCounter) (old q : ℕ)
    → q ≤ most_quiet p.threads (counter.Finish c)
    → quiet_after (finish_outcome a c) q ≤ most_quiet p.threads (finish_moved p w a c old).counter
quiet_finish p w a finish.Finish old q few = omega arith
quiet_finish p w a (finish.LoadGenerating v t) old q few = omega (arith, few)
quiet_finish p w a (finish.SubtractChildren v t generating) old q few = omega (arith, few)
quiet_finish p w a (finish.LoadGroup v t generating) old q few =
    lowered_to p.threads (q + 1) (old == 0) (finish.SubtractReferences v t generating)
    (finish.SubtractCount v t generating old) (omega (arith, few)) (omega (arith, few))
quiet_finish p w a (finish.SubtractCount v t generating group) old q few = omega (arith, few)
quiet_finish p w a (finish.SubtractReferences v t generating) old q few =
    lowered_to p.threads (q + 1) (old == 1) (finish.Free v t generating) (finish.SubtractPending v)
    (omega (arith, few)) (omega (arith, few))
quiet_finish p w a (finish.Free v t generating) old q few = omega arith
quiet_finish p w a (finish.LoadImplicit v generating) old q few =
    lowered_to p.threads (q + 1) (old == 0) (finish.LoadNext v generating)
    (finish.SubtractGenerating v generating None) (omega (arith, few)) (omega (arith, few))
quiet_finish p w a (finish.LoadNext v generating) old q few = omega (arith, few)
quiet_finish p w a (finish.LoadLife v generating next) old q few = omega (arith, few)
quiet_finish p w a (finish.SubtractGenerating v generating explicit) old q few =
    quiet_references p.threads w v explicit old q few
quiet_finish p w a (finish.SubtractPending v) old q few = quiet_back p v q few

not_quiet : (q : ℕ) (b : Bool) (x y : Outcome) → quiet_after x q ≡ 0 → quiet_after y q ≡ 0
    → quiet_after (if b then x else y) q ≡ 0
not_quiet q b x y one other = one_of (λ (out : Outcome). quiet_after out q ≡ 0) b x y one other

-- no plain step is quiet
quiet_plain : (p : Program) (w : List ℕ) (a : Actor) (c : PlainCounter) (old q : ℕ)
    → quiet_after (plain_outcome p w a c old) q ≡ 0
quiet_plain p w a plain.Work old q = refl
quiet_plain p w a plain.Call old q = refl
quiet_plain p w a plain.Skip old q = refl
quiet_plain p w a plain.Return old q = refl
quiet_plain p w a plain.Set old q = refl
quiet_plain p w a plain.Tool old q = refl
quiet_plain p w a plain.Enter old q = refl
quiet_plain p w a plain.Leave old q = refl
quiet_plain p w a plain.WorkState old q = refl
quiet_plain p w a plain.LockState old q = refl
quiet_plain p w a plain.Lock old q = not_quiet q (old == 0) _ _ refl refl
quiet_plain p w a plain.Unlock old q = refl
quiet_plain p w a plain.GroupBegin old q = refl
quiet_plain p w a plain.Done old q = refl
quiet_plain p w a plain.Ended old q = refl

-- ---- each step

quiet_goes : (p : Program) (w : List ℕ) (a : Actor) (c : Counter) (old q : ℕ) → AreOpen p a.context a.stack
    → FitsCounter p a c → q ≤ most_quiet p.threads c
    → quiet_after (resumed_at p w a c old).1 q ≤ most_quiet p.threads (resumed_at p w a c old).0.counter
quiet_goes p w a (counter.Worker c) old q bodies fits few = quiet_worker p w a c old q few
quiet_goes p w a (counter.Team c) old q bodies fits few = quiet_team p w a c old q fits few
quiet_goes p w a (counter.Barrier c) old q bodies fits few = quiet_barrier p w a c old q few
quiet_goes p w a (counter.Join c) old q bodies fits few = quiet_join p w a c old q few
quiet_goes p w a (counter.Task c) old q bodies fits few = quiet_making p w a c old q fits few
quiet_goes p w a (counter.Look c) old q bodies fits few = quiet_looks p w a c old q bodies fits few
quiet_goes p w a (counter.Finish c) old q bodies fits few = quiet_finish p w a c old q few
quiet_goes p w a (counter.Plain c) old q bodies fits few =
    let none = quiet_plain p w a c old q in omega (arith, none)

-- ---- the bound

few_looks : (p : Program) (a : Actor) (v : Wait) (n k : ℕ) → AreOpen p a.context a.stack → Waits p a v
    → n < slots_of a → k ≤ 11 → at_look p.threads n + k + 1 ≤ most_in_row p.threads
few_looks p a v n k bodies waits within few =
    let all = size_is_few p a v bodies waits in omega (arith, within, all, few)

few_look : (p : Program) (a : Actor) (c : LookCounter) → AreOpen p a.context a.stack → FitsLook p a c
    → most_quiet p.threads (counter.Look c) + 1 ≤ most_in_row p.threads
few_look p a (look.State v) bodies fits = omega arith
few_look p a (look.LoadRow v n) bodies fits =
    let bound = few_looks p a v n 0 bodies fits.0.0 fits.0.1 (omega arith) in omega (arith, bound)
few_look p a (look.LoadSlot v n row) bodies fits = few_looks p a v n 1 bodies fits.0.0 fits.0.1 (omega arith)
few_look p a (look.LoadGenerating v n row code) bodies fits =
    few_looks p a v n 2 bodies fits.0.0.0 fits.0.0.1 (omega arith)
few_look p a (look.LoadGroup n row code) bodies fits =
    few_looks p a wait.Taskgroup n 2 bodies fits.0.0.0 fits.0.0.1 (omega arith)
few_look p a (look.Take v n row code) bodies fits =
    few_looks p a v n 3 bodies fits.0.0.0 fits.0.0.1 (omega arith)
few_look p a (look.LoadFunction v n code t) bodies fits =
    few_looks p a v n 4 bodies fits.0.0 fits.0.1 (omega arith)
few_look p a (look.LoadFinal v n code t f) bodies fits =
    few_looks p a v n 5 bodies fits.0.0.0 fits.0.0.1 (omega arith)
few_look p a (look.Fill v n code t f final word) bodies fits =
    let bound = few_looks p a v n 11 bodies fits.0.0.0.0 fits.0.0.0.1 (omega arith) in
    let last = fits.1 in omega (arith, bound, last)
few_look p a (look.Start v n code t f final) bodies fits =
    few_looks p a v n 11 bodies fits.0.0.0 fits.0.0.1 (omega arith)
few_look p a look.LoadChildren bodies fits = omega arith
few_look p a look.LoadCount bodies fits = omega arith
few_look p a look.GroupEnd bodies fits = omega arith
few_look p a (look.Yield n) bodies fits = omega arith

few_team : (p : Program) (a : Actor) (c : TeamCounter) → FitsTeam p a c
    → team_quiet p.threads c + 1 ≤ most_in_row p.threads
few_team p a team.OverheadState fits = omega arith
few_team p a team.LoadLevels fits = omega arith
few_team p a team.LoadActive fits = omega arith
few_team p a (team.LoadVariable word) fits = let within = fits.1 in omega (arith, within)
few_team p a team.Want fits = omega arith
few_team p a team.Ask fits = omega arith
few_team p a (team.LoadRegionLife slot) fits = omega arith
few_team p a (team.TakeRegion r) fits = omega arith
few_team p a (team.FillRegion r word) fits = let within = fits.1 in omega (arith, within)
few_team p a (team.LoadTaskLife r member slot) fits =
    let all = fits.0.0.2 in let one = fits.1 in omega (arith, all, one)
few_team p a (team.TakeTask r member t) fits =
    let all = fits.0.0.2 in let one = fits.1 in omega (arith, all, one)
few_team p a (team.FillTask r member t word) fits =
    let all = fits.0.0.0.2 in let one = fits.0.1 in let within = fits.1 in omega (arith, all, one, within)
few_team p a (team.StoreMember r member t) fits =
    let all = fits.0.0.2 in let one = fits.1 in omega (arith, all, one)
few_team p a (team.Fork r) fits = omega arith
few_team p a (team.Assign member) fits = let one = fits.2 in let all = fits.3 in omega (arith, one, all)

few_worker : (t : ℕ) (c : WorkerCounter) → most_quiet t (counter.Worker c) + 1 ≤ most_in_row t
few_worker t worker.Begin = omega arith
few_worker t c = omega arith

few_barrier : (t : ℕ) (c : BarrierCounter) → most_quiet t (counter.Barrier c) + 1 ≤ most_in_row t
few_barrier t (barrier.State b) = omega arith
few_barrier t c = omega arith

few_join : (t : ℕ) (c : JoinCounter) → most_quiet t (counter.Join c) + 1 ≤ most_in_row t
few_join t join.LoadLeft = omega arith
few_join t c = omega arith

few_making : (p : Program) (a : Actor) (c : TaskCounter) → FitsTask p a c
    → making_quiet c + 1 ≤ most_in_row p.threads
few_making p a (task.LoadVariable place word) fits = let within = fits.1 in omega (arith, within)
few_making p a (task.Fill place t word) fits = let within = fits.1 in omega (arith, within)
few_making p a c fits = omega arith

few_finish : (t : ℕ) (c : FinishCounter) → finish_quiet t c + 1 ≤ most_in_row t
few_finish t finish.Finish = omega arith
few_finish t c = omega arith

few_at : (p : Program) (a : Actor) (c : Counter) → AreOpen p a.context a.stack → FitsCounter p a c
    → most_quiet p.threads c + 1 ≤ most_in_row p.threads
few_at p a (counter.Worker c) bodies fits = few_worker p.threads c
few_at p a (counter.Team c) bodies fits = few_team p a c fits
few_at p a (counter.Barrier c) bodies fits = few_barrier p.threads c
few_at p a (counter.Join c) bodies fits = few_join p.threads c
few_at p a (counter.Task c) bodies fits = few_making p a c fits
few_at p a (counter.Look c) bodies fits = few_look p a c bodies fits
few_at p a (counter.Finish c) bodies fits = few_finish p.threads c
few_at p a (counter.Plain c) bodies fits = omega arith

one_more : (out : Outcome) (q : ℕ) → quiet_after out q ≤ q + 1
one_more outcome.Quiet q = omega arith
one_more (outcome.Event e) q = omega arith
one_more (outcome.NotReady address word) q = omega arith
one_more outcome.Ended q = omega arith

pub quiet_steps_few : QuietStepsAreFew
quiet_steps_few = λ p w a old quiet fits few. record {
  few =
      let most = few_at p a a.counter fits.bodies fits.counter in
      let next = one_more (resumed_at p w a a.counter old).1 quiet in
      omega (arith, most, next, few);
  given = quiet_goes p w a a.counter old quiet fits.bodies fits.counter few;
}
