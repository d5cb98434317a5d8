-- A thread forks: it goes on with member 0 of its team, on top of the encountering task.
use Rattle.std.proofs.Common.{◌≡◌, ◌+◌, ◌++◌, ◌<◌, ◌≤◌, nat_lt, ℕ, inl, Bool, true, false, List, [], ◌∷◌, length, drop, Option, Some, refl, sym, ap, ◌∙◌, subst, arith, ltb-true, if◌then◌else◌}
use Rattle.omi_rule.proofs.OwnWords.{store_on, thread_word}
use Rattle.omi_rule.proofs.OthersStand.{of_innermost}
use Rattle.std.specs.Option.{option_map_or}
use Rattle.std.proofs.lemmas.Bool.Decides.{nat_tests}
use Rattle.omi_word.specs.declared.op.Op.TheVariants as op
use Rattle.omi_script.specs.declared.env.Env.{Env}
use Rattle.omi_script.specs.declared.program.Program.{Program}
use Rattle.omi_script.specs.declared.statement.Stmt.TheVariants as stmt
use Rattle.omi_model.specs.declared.encounter.Encounter.{Encounter}
use Rattle.omi_model.specs.declared.event.Event.{Event}
use Rattle.omi_model.specs.declared.event.Event.TheVariants as event
use Rattle.omi_model.specs.declared.id.Id.{Id}
use Rattle.omi_model.specs.declared.id.Rid.{Rid}
use Rattle.omi_model.specs.declared.id.Tid.{Tid}
use Rattle.omi_model.specs.declared.item.Item.{Item}
use Rattle.omi_model.specs.declared.item.Item.TheVariants as item
use Rattle.omi_model.specs.declared.region.Region.{Region}
use Rattle.omi_model.specs.declared.task.Task.{Task}
use Rattle.omi_model.specs.declared.thread.Thread.{Thread}
use Rattle.omi_model.specs.Changes.{encounter_by, level_of}
use Rattle.omi_model.specs.Rows.{member_items, working}
use Rattle.omi_model.specs.State.{State, region_of, task_of}
use Rattle.omi_model.specs.Teams.{master_of, member_task, new_region}
use Rattle.omi_model.proofs.EachObject.{members_found}
use Rattle.omi_model.proofs.Slots.{each_made, made_same, made_stays, on_empty, on_generations, put_same, some_same}
use Rattle.omi_model.proofs.StaysKept.{fresh_empty}
use Rattle.omi_model.proofs.Steps.{relisted}
use Rattle.omi_layout.specs.declared.field.Field.TheVariants.{ThreadCurrent}
use Rattle.omi_layout.specs.Field.{regions, tasks, threads}
use Rattle.omi_layout.specs.Memory.{Memory, with_word}
use Rattle.omi_layout.specs.Named.{number}
use Rattle.omi_layout.specs.Table.{per_thread, thread_count}
use Rattle.omi_pc.specs.declared.actor.Actor.{Actor}
use Rattle.omi_pc.specs.declared.context.Context.{Context}
use Rattle.omi_pc.specs.declared.counter.Counter.TheVariants as counter
use Rattle.omi_pc.specs.declared.frame.Opened.TheVariants as opened
use Rattle.omi_pc.specs.declared.team_counter.TeamCounter.{TeamCounter}
use Rattle.omi_pc.specs.declared.team_counter.TeamCounter.TheVariants as team
use Rattle.omi_pc.specs.Frames.{at_start}
use Rattle.omi_pc.specs.Moves as Moves
use Rattle.omi_pc.specs.Moves.{begun_master}
use Rattle.omi_pc.specs.OpenBodies.{AreOpen}
use Rattle.omi_pc.proofs.Moved.{body_opens}
use Rattle.omi_pc.proofs.Settled.{named_there}
use Rattle.omi_rep.specs.Records.{task_address}
use Rattle.omi_rep.specs.Shows.{AreWithin}
use Rattle.omi_rep.specs.declared.outcome.Outcome.TheVariants as outcome
use Rattle.omi_rule_words.specs.Owes.{nothing, owed}
use Rattle.omi_step_words.specs.Members.{member_of}
use Rattle.omi_step_words.specs.Moving.{to_team}
use Rattle.omi_step_words.specs.Placed.{AreContextsPlaced}
use Rattle.omi_step_words.specs.Words.{of_thread}
use Rattle.omi_fork.specs.TeamParts.{master_context, region_function, team_size}
use Rattle.omi_fork.specs.TeamSteps.{team_moved, team_next, team_outcome}
use Rattle.omi_fork.proofs.Forks.{fork_opens}
use Rattle.omi_rule.specs.Ahead as Ahead
use Rattle.omi_rule.specs.Chains.{KeepsBodies, KeepsContext, encounter_of, IsPassable}
use Rattle.omi_rule.specs.Rule.{AreNewMembers, KeepsThread}
use Rattle.omi_rule.specs.Steps.{KeepsRule, RecordWord, StepKeeps}
use Rattle.omi_rule.proofs.Assembly.{Before, event_keeps, spares_threads}
use Rattle.omi_rule.proofs.Begun.{works, works_owing_nothing}
use Rattle.omi_rule.proofs.NewMembers.{waiting_step}
use Rattle.omi_rule.proofs.NothingNew.{within_stays}
use Rattle.omi_rule.proofs.Others.{members_stay}
use Rattle.omi_rule.proofs.Own.{ChangesTask, bodies_kept, encounter_kept}
use Rattle.omi_rule.proofs.OwnTask.{own_below, own_changes, relisted_alike}
use Rattle.omi_rule.proofs.Owing.{owed_after}
use Rattle.omi_rule.proofs.plain.OwnEvents.{environment_stays}
use Rattle.omi_rule.proofs.team.Assigns.{none_from}
use Rattle.omi_rule.proofs.team.Events.{stands, takes}
use Rattle.omi_rule.proofs.team.ForkBodies.{IsLarger, bodies_grow, encounter_grows}
use Rattle.omi_rule.proofs.team.ForkSteps.{done, fit, filled, fresh_region, function_is, has_team, here, list, live_moved, moved, news, next, own_member, taken, u, words, z}
use Rattle.omi_rule.proofs.team.ForkTeams.{first_master, members_each, none_arrived, there_at}
use Rattle.omi_rule.proofs.team.Members.{threads_known}
use Rattle.omi_rule.proofs.team.Within.{own, placed}
use Rattle.omi_model.proofs.StaysKept.{stays_step}
use Rattle.omi_rule.specs.Chains.{RunsFunctions}
use Rattle.omi_rule.proofs.Runs.{stack_runs}

module _ (p : Program) (w : List ℕ) (m : Memory) (events : List (ℕ × Event)) (s : State) (actors : ℕ → Actor)
    (i : ℕ) (before : Before p w m events s actors i) (r : Rid)
    (at : (actors i).counter ≡ counter.Team (team.Fork r)) where
  abbrev C : TeamCounter
  C = team.Fork r

  abbrev K : Tid
  K = (actors i).context.task

  abbrev Members : List (Tid × ℕ)
  Members = (actors i).gathered.team

  -- the state, what member 0 is, and the new region
  abbrev U : State
  U = u p w m events s actors i before r at

  abbrev Z : State
  Z = z p w m events s actors i before r at

  abbrev First : Tid
  First = (member_of (actors i).gathered.team 0).0

  abbrev f : ℕ
  f = (next p w m events s actors i before r at).function

  abbrev Encountering : Task
  Encountering = moved p w m events s actors i before r at

  abbrev Outer : Region
  Outer = (here p w m events s actors i before r at).region

  abbrev Master : Task
  Master =
      member_task p r (actors i).context.task (moved p w m events s actors i before r at)
      (here p w m events s actors i before r at).region (next p w m events s actors i before r at).function 0
      (member_of (actors i).gathered.team 0).1

  abbrev New : Region
  New =
      new_region (actors i).context.task (moved p w m events s actors i before r at)
      (here p w m events s actors i before r at).region (actors i).gathered.team
      (next p w m events s actors i before r at).function

  abbrev X : RecordWord
  X = thread_word i ThreadCurrent

  abbrev N : Memory
  N =
      with_word m i threads 0 (number ThreadCurrent) 0
      (task_address w (member_of (actors i).gathered.team 0).0)

  some : 1 ≤ length Members
  some = (fit p w m events s actors i before r at).0.1

  -- ---- the state has grown

  larger : IsLarger Z U
  larger = record {
    environment = refl;
    tasks = λ k t live. members_stay (member_task p r K Encountering Outer f) 0 Members Z.tasks i (news p w m events s actors i before r at) k.0 t live;
    regions = λ n q live. made_stays s.regions r.0 New n.0 q (fresh_empty s.regions i r.0 (fresh_region p w m events s actors i before r at)) live;
  }

  live_first : task_of U First ≡ Some Master
  live_first =
      members_found (member_task p r K Encountering Outer f) Members Z.tasks i
      (news p w m events s actors i before r at) 0 (member_of Members 0)
      (there_at Members 0 (let h = some in omega (arith, h)))

  found_new : region_of U r ≡ Some New
  found_new = made_same s.regions r.0 New

  current : (U.threads i).current ≡ Some First
  current =
      ap (λ (h : Thread). h.current)
      (put_same s.threads i (record (s.threads i) { current = master_of Members }))
      ∙ first_master Members some

  -- ---- the bodies

  abbrev context : Context
  context = master_context (actors i) r

  abbrev b : Actor
  b = begun_master (region_function p (actors i)) (master_context (actors i) r) (actors i)

  kept : KeepsContext U i context
  kept = record {
    task = Master;
    live = live_first;
    begun = refl;
    thread = own_member p w m events s actors i before r at;
    implicit = refl;
    region_is = refl;
    number = refl;
    final = refl;
    exit = (let is = (here p w m events s actors i before r at).exit in omega (arith, is));
    region = New;
    found = found_new;
    size = refl;
    row = there_at Members 0 (let h = some in omega (arith, h)) ∙ ap (λ j. Some (First, j)) (own_member p w m events s actors i before r at);
    arrivals = none_arrived (length Members);
    groups = refl;
  }

  changes : ChangesTask s Z i (actors i).context.task
  changes =
      own_changes p s i (actors i) (stands p w m events s actors i before C at)
      (relisted (list p w m events s actors i before r at)) Z
      (λ t live. relisted_alike (list p w m events s actors i before r at) t) refl refl refl refl

  bodies_moved : KeepsBodies p Z i (actors i).context (actors i).stack
  bodies_moved =
      bodies_kept p s Z i K changes (actors i).context (actors i).stack
      (own_below p s i (actors i) (stands p w m events s actors i before C at) events before.rule.reached)
      (stands p w m events s actors i before C at).bodies

  same_encounter : encounter_of U (actors i).context ≡ encounter_of s (actors i).context
  same_encounter =
      encounter_grows p Z U i larger (actors i).context
      (of_innermost p Z i (actors i).context (actors i).stack bodies_moved)
      ∙ encounter_kept p s Z i K changes (actors i).context (here p w m events s actors i before r at)

  bodies : KeepsBodies p U i context (at_start (region_function p (actors i)) (opened.Master (actors i).context) ∷ (actors i).stack)
  bodies = (
    kept,
    (
      record { task = Master; live = live_first; scheduling = refl },
      record {
        task = Encountering;
        live = larger.tasks K Encountering (live_moved p w m events s actors i before r at);
        list_is = ap (λ (e : Encounter). working e (Ahead.leaving p e (actors i).stack)) (sym same_encounter);
      },
    ),
    bodies_grow p Z U i larger (actors i).context (actors i).stack bodies_moved,
  )

  runs : RunsFunctions U context (at_start (region_function p (actors i)) (opened.Master (actors i).context) ∷ (actors i).stack)
  runs =
      let mine = own p w m events s actors i before C at in (
        λ opens t live. ap (λ (x : Task). x.function) (some_same live live_first) ∙ sym (function_is p w m events s actors i before r at),
        stack_runs p s U i (stays_step p s i (event.Fork r Members) U (done p w m events s actors i before r at)) (actors i) mine.stands mine.runs,
      )

  -- ---- what is ahead

  seen : encounter_of U context ≡ record { debug = p.env.debug; number = 0; level = Outer.levels + 1; is_final = false }
  seen =
      ap (encounter_by U) live_first
      ∙ ap (λ (e : Env). record { debug = e.debug; number = 0; level = level_of U r; is_final = false })
      (environment_stays p events s before.rule.reached)
      ∙ ap
      (λ (x : Option Region). record { debug = p.env.debug; number = 0; level = option_map_or (λ q. q.levels) x 0; is_final = false }) found_new

  list_first : Master.list ≡ working (encounter_of U context) (Ahead.worked p (encounter_of U context) b.stack)
  list_first =
      ap
      (λ g. member_items p (record { debug = p.env.debug; number = 0; level = Outer.levels + 1; is_final = false }) g)
      (sym (function_is p w m events s actors i before r at))
      ∙ ap (λ (e : Encounter). working e (Ahead.worked p e b.stack)) (sym seen)

  ahead : (t : Task) → task_of U First ≡ Some t
      → t.list ≡ working (encounter_of U context) (Ahead.worked p (encounter_of U context) b.stack)
  ahead t live = ap (λ (x : Task). x.list) (some_same live live_first) ∙ list_first

  -- ---- the thread afterwards

  abbrev Later : List (ℕ × Event)
  Later = events ++ (i, event.Fork r (actors i).gathered.team) ∷ []

  open_bodies : AreOpen p context (at_start (region_function p (actors i)) (opened.Master (actors i).context) ∷ (actors i).stack)
  open_bodies =
      let mine = own p w m events s actors i before C at in
      fork_opens p w (actors i) r before.suits.threads body_opens mine.fits mine.placed at

  front : (t : Task) → task_of U First ≡ Some t → IsPassable t.frees
  front t live = subst (λ (x : Task). IsPassable x.frees) (some_same live_first live) tt

  contexts_placed : AreContextsPlaced w context (at_start (region_function p (actors i)) (opened.Master (actors i).context) ∷ (actors i).stack)
  contexts_placed =
      let there = placed p w m events s actors i before C at in
      (record { task = there.1 0 (omega arith); region = there.0; row = there.1 0 (omega arith) }, (own p w m events s actors i before C at).placed.bodies)

  works_now : KeepsThread p w N Later U i (Moves.back_to_work p b)
  works_now =
      let mine = own p w m events s actors i before C at in
      works p w N Later U i b (at_start (region_function p (actors i)) (opened.Master (actors i).context))
      (actors i).stack refl mine.thread
      (record { thread = mine.fits.thread; variables = mine.fits.variables; bodies = open_bodies; some = omega arith })
      (inl (refl, tt)) contexts_placed (ap (λ (e : Encounter). e.debug) seen) current bodies runs ahead front

  assigns_now : 1 < length Members → KeepsThread p w N Later U i (to_team (team.Assign 1) b)
  assigns_now more =
      let mine = own p w m events s actors i before C at in
      let asks = (has_team p w m events s actors i before r at).asks in
      record {
        thread = mine.thread;
        fits = record { thread = mine.fits.thread; variables = mine.fits.variables; bodies = open_bodies; counter = ((refl, tt), omega arith, more, (fit p w m events s actors i before r at).0.2) };
        placed = record {
          bodies = contexts_placed;
          counter = (
            λ j within. subst (λ n. (member_of Members j).1 < n) before.rule.within.count (threads_known i (actors i).gathered.asked s.count (s.threads i).asks Members before.known asks.few asks.asked asks.joined j within),
            (filled p w m events s actors i before r at).slots,
          );
        };
        stands = record { current = current; bodies = bodies; ahead = ahead; front = front };
        runs = runs;
        row = tt;
        ended = tt;
      }

  -- ---- within the layout

  regions_within : AreWithin w regions U.regions
  regions_within creator slot g x e =
      each_made
      (λ (n : Id) (y : Region). record { maker : n.creator < thread_count w; place : n.slot < per_thread w regions }) s.regions r.0 New
      (λ n y live. before.rule.within.regions n.creator n.slot n.generation y live)
      (let there = (placed p w m events s actors i before C at).0 in record { maker = there.made_by; place = there.within })
      (record { creator = creator; slot = slot; generation = g }) x e

  tasks_moved : AreWithin w tasks Z.tasks
  tasks_moved =
      within_stays w tasks s.tasks Z.tasks
      (record { generations = on_generations s.tasks K.0 (relisted (list p w m events s actors i before r at)); empty = on_empty s.tasks K.0 (relisted (list p w m events s actors i before r at)) }) before.rule.within.tasks

  tasks_within : AreWithin w tasks U.tasks
  tasks_within creator slot g x e =
      members_each
      (λ (n : Id) (y : Task). record { maker : n.creator < thread_count w; place : n.slot < per_thread w tasks })
      (member_task p r K Encountering Outer f) 0 Members Z.tasks
      (λ n y live. tasks_moved n.creator n.slot n.generation y live)
      (λ j within t. let there = (filled p w m events s actors i before r at).slots j within in record { maker = there.made_by; place = there.within })
      (record { creator = creator; slot = slot; generation = g }) x e

  waiting : AreNewMembers p U
  waiting =
      waiting_step p s i (event.Fork r Members) U (done p w m events s actors i before r at)
      (λ y there g fork.
      let same : (item.Fork f, list p w m events s actors i before r at) ≡ y =
      some_same
      (takes p w m events s actors i before C at (event.Fork r Members) (item.Fork f) (list p w m events s actors i before r at) (taken p w m events s actors i before r at)) there in
      let is : item.Fork f ≡ item.Fork g = ap (λ (q : Item × List Item). q.0) same ∙ fork in
      let number_is : f ≡ g = cc is in
      subst (λ n. n < length p.funcs) number_is
      (named_there p (actors i).context (actors i).stack (stmt.Parallel f (next p w m events s actors i before r at).num) f (own p w m events s actors i before C at).fits.bodies (next p w m events s actors i before r at).is refl))
      before.rule.waiting

  -- ---- the step

  step : (a : Actor) → owed a ≡ record nothing { assigns = drop 1 (actors i).gathered.team }
      → KeepsThread p w N Later U i a
      → KeepsRule p w m events s actors i
      (op.Store (of_thread w (actors i).thread ThreadCurrent) (task_address w (member_of (actors i).gathered.team 0).0)) X
      (a, outcome.Event (event.Fork r (actors i).gathered.team))
  step a is thread =
      event_keeps p w m events s actors i before
      (op.Store (of_thread w (actors i).thread ThreadCurrent) (task_address w First)) X
      (a, outcome.Event (event.Fork r Members)) (event.Fork r Members) U refl
      (done p w m events s actors i before r at)
      (task_address w First, ap (λ j. op.Store (of_thread w j ThreadCurrent) (task_address w First)) (own p w m events s actors i before C at).thread)
      tt regions_within tasks_within waiting
      (owed_after w N U actors i a (record nothing { assigns = drop 1 Members }) is (words p w m events s actors i before r at))
      (λ j other. spares_threads m s i ThreadCurrent (task_address w First) j (actors j) (λ same. absurd (omega (arith, same))))
      thread

  pub fork_keeps : StepKeeps p w m events s actors i (team_next p w (actors i) C) (λ old. (team_moved p w (actors i) C old, team_outcome p w (actors i) C old))
  fork_keeps = (
    X,
    store_on p w m events s actors i before ThreadCurrent _ refl,
    go (nat_lt 1 (team_size (actors i))) refl,
  )
    where
      go : (d : Bool) → nat_lt 1 (team_size (actors i)) ≡ d
          → KeepsRule p w m events s actors i
          (op.Store (of_thread w (actors i).thread ThreadCurrent) (task_address w (member_of (actors i).gathered.team 0).0)) X
          (if d then to_team (team.Assign 1) b else Moves.back_to_work p b, outcome.Event (event.Fork r (actors i).gathered.team))
      go true e = step (to_team (team.Assign 1) b) refl (assigns_now (ltb-true 1 (team_size (actors i)) e))
      go false e =
          let alone : 1 ≡ length Members = (let h = some in grind (arith, nat_tests, h)) in
          step (Moves.back_to_work p b)
          (works_owing_nothing p b (at_start (region_function p (actors i)) (opened.Master (actors i).context)) (actors i).stack refl ∙ ap (λ (xs : List (Tid × ℕ)). record nothing { assigns = xs }) (sym (ap (λ k. drop k Members) alone ∙ none_from Members)))
          works_now
