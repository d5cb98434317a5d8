-- A fork is legal, and its words are kept.
use Rattle.std.proofs.Common.{◌≡◌, ◌<◌, ℕ, true, List, ◌∷◌, length, drop, map, slice_index, Option, Some, refl, sym, ap, ◌∙◌, subst, arith}
use Rattle.omi_numbers.specs.Addresses.{exit_frame}
use Rattle.std.proofs.lemmas.Option.{slice_get_within}
use Rattle.std.specs.List.{All, Contains}
use Rattle.std.specs.Option.{option_map}
use Rattle.omi_script.specs.declared.program.Program.{Program}
use Rattle.omi_script.specs.declared.statement.Stmt.{Stmt}
use Rattle.omi_script.specs.declared.statement.Stmt.TheVariants as stmt
use Rattle.omi_model.specs.declared.encounter.Encounter.{Encounter}
use Rattle.omi_model.specs.declared.event.Event.{Event}
use Rattle.omi_model.specs.declared.event.Event.TheVariants as event
use Rattle.omi_model.specs.declared.id.Rid.{Rid}
use Rattle.omi_model.specs.declared.id.Tid.{Tid}
use Rattle.omi_model.specs.declared.item.Item.{Item}
use Rattle.omi_model.specs.declared.item.Item.TheVariants as item
use Rattle.omi_model.specs.declared.region.Region.{Region}
use Rattle.omi_model.specs.declared.task.Task.{Task}
use Rattle.omi_model.specs.Changes.{IsCurrent, on_task}
use Rattle.omi_model.specs.Columns.{tasks_of}
use Rattle.omi_model.specs.Fresh.{AreDistinct, IsFresh}
use Rattle.omi_model.specs.LawClaims.{IsForking, IsMeantFor}
use Rattle.omi_model.specs.LawNames.{AreNamesLive}
use Rattle.omi_model.specs.Lists.{take_item}
use Rattle.omi_model.specs.Reached.{Step}
use Rattle.omi_model.specs.Rows.{working}
use Rattle.omi_model.specs.State.{State, region_of, task_of}
use Rattle.omi_model.specs.Teams.{MayFork, forked, got_threads}
use Rattle.omi_model.proofs.NamesLive.{names_live}
use Rattle.omi_model.proofs.Slots.{on_same, some_same}
use Rattle.omi_model.proofs.StaysKept.{AreNew, new_team}
use Rattle.omi_model.proofs.Steps.{IsRelisted, at_region, is_relisted, on_fresh, relisted}
use Rattle.omi_model.proofs.claims.ClaimLaws.{claims_kept}
use Rattle.omi_layout.specs.declared.field.Field.TheVariants.{RegionTeam, ThreadCurrent}
use Rattle.omi_layout.specs.Field.{regions, tasks, threads}
use Rattle.omi_layout.specs.Memory.{Memory, replace_at, with_word}
use Rattle.omi_layout.specs.Named.{number}
use Rattle.omi_pc.specs.declared.actor.Actor.{Actor}
use Rattle.omi_pc.specs.declared.counter.Counter.TheVariants as counter
use Rattle.omi_pc.specs.declared.frame.Frame.{Frame}
use Rattle.omi_pc.specs.declared.limits.TheConstants.{REGION_WORDS, TASK_WORDS}
use Rattle.omi_pc.specs.declared.team_counter.TeamCounter.{TeamCounter}
use Rattle.omi_pc.specs.declared.team_counter.TeamCounter.TheVariants as team
use Rattle.omi_pc.specs.Fits.{FitsTeam, IsAtParallel, IsParallel}
use Rattle.omi_pc.specs.OpenBodies.{IsAt}
use Rattle.omi_rep.specs.Records.{task_address, task_word}
use Rattle.omi_rule_words.specs.Owes.{all_owed, nothing}
use Rattle.omi_rule_words.specs.TeamKinds.{ForkIsFilled, HasNoTask}
use Rattle.omi_rule_words.specs.Threads.{WaitsFor}
use Rattle.omi_rule_words.specs.Words.{IsInTheMaking, KeepsMaking, KeepsWords}
use Rattle.omi_rule_words.specs.Groups.{AreOwnersLive}
use Rattle.omi_rule_words.proofs.Forks.{forks_keep}
use Rattle.omi_rule_words.proofs.ListedNames.{names_stay_live}
use Rattle.omi_step_words.specs.Members.{member_of}
use Rattle.omi_step_words.specs.Plan.{region_plan, task_plan}
use Rattle.omi_fork.specs.TeamParts as TeamParts
use Rattle.omi_fork.specs.TeamParts.{parallel_function, new_member}
use Rattle.omi_rule.specs.Ahead.{forking, leaving}
use Rattle.omi_rule.specs.Chains.{KeepsContext, encounter_of}
use Rattle.omi_rule.specs.Rows.{HasFilled, HasTeam, IsFilled, IsVariable}
use Rattle.omi_rule.proofs.Groups.{owners_live}
use Rattle.omi_rule.proofs.RelistedState.{owners_relisted}
use Rattle.omi_rule.proofs.Assembly.{Before}
use Rattle.omi_rule.proofs.OwnTask.{list_moved}
use Rattle.omi_rule.proofs.RowsStay.{of_member as of_members}
use Rattle.omi_rule.proofs.Settling.{in_work_is}
use Rattle.omi_rule.proofs.team.Events.{stands, step, words_moved}
use Rattle.omi_rule.proofs.team.ForkPlans.{member_filled, member_is, region_filled}
use Rattle.omi_rule.proofs.team.ForkTeams.{apart_distinct, behind_master, each_is, first_master, first_thread, got_each}
use Rattle.omi_rule.proofs.team.Inherits.{inherits}
use Rattle.omi_rule.proofs.team.Levels.{levels_few}
use Rattle.omi_rule.proofs.team.Members.{all_taken, others_known}
use Rattle.omi_rule.proofs.team.Records.{is_forking}
use Rattle.omi_rule.proofs.team.Unmet.{unmet}
use Rattle.omi_rule.proofs.team.Within.{context, fits, owes, row, task_few}

-- the construct in work, and its fork
pub record IsForkNext (p : Program) (at : Encounter) (fs : List Frame) : Type 0 where
  pub function : ℕ
  pub num : Option ℕ
  pub is : IsAt p fs (stmt.Parallel function num)
  pub ahead : forking p at fs ≡ item.Asks ∷ item.Fork function ∷ working at (leaving p at fs)

fork_next : (p : Program) (at : Encounter) (a : Actor) → IsAtParallel p a → IsForkNext p at a.stack
fork_next p at a (s, is, parallel) = go s is parallel
  where
    go : (s : Stmt) → IsAt p a.stack s → IsParallel s → IsForkNext p at a.stack
    go (stmt.Parallel f num) is o = record { function = f; num = num; is = is; ahead = in_work_is p a.stack (stmt.Parallel f num) _ is }
    go _ is o = absurd o

module _ (p : Program) (w : List ℕ) (m : Memory) (events : List (ℕ × Event)) (s : State) (actors : ℕ → Actor)
    (i : ℕ) (before : Before p w m events s actors i) (r : Rid)
    (at : (actors i).counter ≡ counter.Team (team.Fork r)) where
  abbrev C : TeamCounter
  C = team.Fork r

  abbrev At : Encounter
  At = encounter_of s (actors i).context

  abbrev pub Team : List (Tid × ℕ)
  Team = (actors i).gathered.team

  abbrev pub K : Tid
  K = (actors i).context.task

  abbrev pub list : List Item
  list =
      working (encounter_of s (actors i).context)
      (leaving p (encounter_of s (actors i).context) (actors i).stack)

  abbrev pub z : State
  z =
      on_task s (actors i).context.task
      (relisted (working (encounter_of s (actors i).context) (leaving p (encounter_of s (actors i).context) (actors i).stack)))

  pub fit : FitsTeam p (actors i) (team.Fork r)
  fit = fits p w m events s actors i before C at

  pub next : IsForkNext p (encounter_of s (actors i).context) (actors i).stack
  next = fork_next p At (actors i) fit.0.0

  pub here : KeepsContext s i (actors i).context
  here = context p w m events s actors i before C at

  -- the task with its list moved on
  abbrev pub moved : Task
  moved = relisted list here.task

  abbrev pub u : State
  u = forked p z i r (actors i).gathered.team next.function (actors i).context.task moved here.region

  pub has_team : HasTeam s i (actors i)
  has_team = (row p w m events s actors i before C at).0

  pub filled : HasFilled p w m (actors i) r (length (actors i).gathered.team)
  filled = (row p w m events s actors i before C at).1

  -- ---- new objects

  made : KeepsMaking s i (record nothing { region = Some r; tasks = tasks_of (actors i).gathered.team })
  made =
      subst (KeepsMaking s i) (owes p w m events s actors i before C at)
      (before.rule.words.made i before.known).making

  region_making : IsInTheMaking i (s.regions i) r.0
  region_making = made.region r refl

  task_making : (j : ℕ) → j < length Team → IsInTheMaking i (s.tasks i) (member_of Team j).0.0
  task_making j within =
      of_members (λ (k : Tid). IsInTheMaking i (s.tasks i) k.0) Team (length Team) j
      (subst (All (λ (k : Tid). IsInTheMaking i (s.tasks i) k.0)) (sym (all_taken Team)) made.tasks) within within

  pub fresh_region : IsFresh s.regions i r.0
  fresh_region = record { creator = region_making.maker; empty = region_making.free; next = region_making.next; below = filled.below }

  fresh_task : (j : ℕ) → j < length Team → IsFresh s.tasks i (member_of Team j).0.0
  fresh_task j within =
      let o = task_making j within in record { creator = o.maker; empty = o.free; next = o.next; below = filled.tasks_below j within }

  distinct : AreDistinct (map (λ m. m.0) Team)
  distinct = apart_distinct Team made.apart

  pub news : AreNew z.tasks i (actors i).gathered.team
  news =
      new_team z.tasks i Team
      (each_is (λ x. IsFresh z.tasks i x.0.0) Team (λ j within. on_fresh s.tasks K.0 (relisted list) i (member_of Team j).0.0 (fresh_task j within))) distinct

  -- ---- the step

  may : MayFork s i r Team
  may = record { over = has_team.over; threads = has_team.asks.joined; region_new = fresh_region; tasks_new = each_is (λ x. IsFresh s.tasks i x.0.0) Team fresh_task; distinct = distinct }

  pub live_moved : task_of z (actors i).context.task ≡ Some moved
  live_moved = on_same s.tasks K.0 (relisted list) ∙ ap (option_map (relisted list)) here.live

  current_moved : IsCurrent z i K moved
  current_moved = record { name = (stands p w m events s actors i before C at).current; live = live_moved }

  region_there : region_of s here.task.region ≡ Some here.region
  region_there = ap (region_of s) here.region_is ∙ here.found

  pub taken : take_item p (encounter_of s (actors i).context) (event.Fork r (actors i).gathered.team) (forking p (encounter_of s (actors i).context) (actors i).stack) ≡ Some (item.Fork next.function, list)
  taken = ap (take_item p At (event.Fork r Team)) next.ahead

  pub done : Step p s i (event.Fork r (actors i).gathered.team) u
  done =
      step p w m events s actors i before C at (event.Fork r Team) (item.Fork next.function) list list u taken
      (K, here.task, here.region, record { name = (stands p w m events s actors i before C at).current; live = here.live }, region_there, may) refl
      (at_region z i K moved here.region (forked p z i r Team next.function) current_moved region_there)

  -- ---- words

  pub function_is : TeamParts.region_function p (actors i) ≡ next.function
  function_is = ap parallel_function next.is

  region_is : IsFilled (m i regions r.0.slot) (region_plan w (TeamParts.planned_region p (actors i))) REGION_WORDS
  region_is =
      subst
      (λ c. IsFilled (m c regions r.0.slot) (region_plan w (TeamParts.planned_region p (actors i))) REGION_WORDS) region_making.maker filled.region

  member_filled_at : (j : ℕ) → j < length Team
      → IsFilled (m i tasks (member_of Team j).0.0.slot) (task_plan w (new_member p (actors i) r j)) TASK_WORDS
  member_filled_at j within =
      subst
      (λ c. IsFilled (m c tasks (member_of Team j).0.0.slot) (task_plan w (new_member p (actors i) r j)) TASK_WORDS)
      (task_making j within).maker (filled.tasks j within)

  pub own_member : (member_of (actors i).gathered.team 0).1 ≡ i
  own_member = first_thread Team i (got_threads (s.threads i).asks) has_team.asks.joined

  records : ForkIsFilled p w (m i) r Team next.function K moved here.region
  unfolding here
  records =
      let k = has_team.asks.knows in
      let (q, found, levels, active) = k.region in
      let (t, live, are) = k.task in
      let same_region : here.region ≡ q = some_same here.found found in
      let same_task : here.task ≡ t = some_same here.live live in
      let few = before.few in
      let low = levels_few p events s before.rule.reached (actors i).context.region here.region here.found in
      let low_levels = low.0 in
      let low_active = low.1 in
      record {
        region_record =
            region_filled p w (actors i) r next.function moved here.region function_is here.region_is
            (m i regions r.0.slot)
            (ap (λ (x : Region). x.levels) same_region ∙ levels)
            (ap (λ (x : Region). x.active) same_region ∙ active) (omega (arith, low_levels, few))
            (omega (arith, low_active, few))
            (λ j within. subst (λ c. m c regions r.0.slot (number RegionTeam) j ≡ task_address w (member_of Team j).0) region_making.maker (filled.team j within)) region_is;
        members = λ j y there.
            let within : j < length Team = slice_get_within Team j y there in
            let is : member_of Team j ≡ y = member_is Team j y there in
            member_filled p w (actors i) r next.function moved here.region function_is here.region_is
            (m i tasks y.0.0.slot) j y is
            (λ first. here.exit ∙ ap (λ h. exit_frame h (actors i).context.depth) (sym own_member ∙ ap (λ n. (member_of Team n).1) (sym first) ∙ ap (λ (x : Tid × ℕ). x.1) is))
            (inherits here.task.variables (actors i).gathered.variables (task_few p w m events s actors i before C at) (λ n below. subst (λ (x : Task). IsVariable x.variables n (slice_index (actors i).gathered.variables n)) (sym same_task) (are n below)))
            (task_few p w m events s actors i before C at)
            (subst (λ (x : Tid × ℕ). IsFilled (m i tasks x.0.0.slot) (task_plan w (new_member p (actors i) r j)) TASK_WORDS) is (member_filled_at j within));
      }

  -- ---- the threads that joined

  meant : (v : ℕ) (k : Tid) → WaitsFor z v k → IsMeantFor s k v
  meant v k o =
      let was : IsRelisted s z =
      subst (λ (x : State). IsRelisted s x)
      (list_moved p s i (actors i) (stands p w m events s actors i before C at) list) (is_relisted s i list) in
      let (t, xs, live, same) = was.tasks k o.task o.live in
      record { task = t; live = live; waiting = ap (λ (x : Task). x.progress) (sym same) ∙ o.progress; thread = ap (λ (x : Task). x.thread) (sym same) ∙ o.thread }

  forking_now : IsForking s i
  forking_now = is_forking p w m events s actors i before C at refl fit.0.0

  joined_idle : (v : ℕ) → v < s.count → Contains (s.threads i).asks (v, true)
      → HasNoTask z (all_owed actors) v
  joined_idle v known there =
      let (waits, by, none) =
      (claims_kept p events s before.rule.reached v).got i (record { forking = forking_now; joined = there }) in
      record {
        waits = λ k o. none k (meant v k o);
        met = unmet p w m s v (actors v) (before.rule.threads v known).row (λ k o. none k (record { task = o.task; live = o.live; waiting = o.progress; thread = o.thread }));
      }

  idle : All (λ (x : Tid × ℕ). HasNoTask z (all_owed actors) x.1) (drop 1 Team)
  idle =
      let o = has_team.asks in
      behind_master (λ v. HasNoTask z (all_owed actors) v) Team i (got_threads (s.threads i).asks) o.joined
      (got_each (λ v. HasNoTask z (all_owed actors) v) s.count (s.threads i).asks (subst (All (λ v. v < s.count)) (sym o.asked) (others_known i (actors i).gathered.asked s.count o.few)) joined_idle)

  names : AreNamesLive z
  names =
      subst AreNamesLive (list_moved p s i (actors i) (stands p w m events s actors i before C at) list)
      (names_stay_live s i list (names_live p events s before.rule.reached))

  owners : AreOwnersLive z
  owners =
      owners_relisted s (actors i).context.task list (owners_live p events s before.rule.reached)

  pub words : KeepsWords w (with_word m i threads 0 (number ThreadCurrent) 0 (task_address w (member_of (actors i).gathered.team 0).0)) u (replace_at (all_owed actors) i (record nothing { assigns = drop 1 (actors i).gathered.team }))
  words =
      subst
      (λ v. KeepsWords w (with_word m i threads 0 (number ThreadCurrent) 0 v) u (replace_at (all_owed actors) i (record nothing { assigns = drop 1 Team })))
      (ap (task_word w) (first_master Team fit.0.1))
      (forks_keep p w m z (all_owed actors) i r Team next.function K moved here.region (words_moved p w m events s actors i before C at list) before.known (owes p w m events s actors i before C at) records idle names owners before.valid)
