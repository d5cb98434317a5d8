-- Member 0 joins the others, which have all left: the region is over, and the task that encountered it goes on.
use Rattle.std.proofs.Common.{◌≡◌, ◌≢◌, ◌<◌, ℕ, true, List, [], ◌∷◌, ◌++◌, drop, Option, Some, refl, sym, ap, ◌∙◌, subst, arith, ◌≤◌}
use Rattle.std.specs.List.{All}
use Rattle.std.specs.Option.{option_map}
use Rattle.omi_word.specs.declared.op.Op.TheVariants as op
use Rattle.omi_script.specs.declared.program.Program.{Program}
use Rattle.omi_script.specs.declared.statement.Stmt.TheVariants as stmt
use Rattle.omi_model.specs.declared.encounter.Encounter.{Encounter}
use Rattle.omi_model.specs.declared.event.Event.{Event}
use Rattle.omi_model.specs.declared.event.Event.TheVariants as event
use Rattle.omi_model.specs.declared.freeable.Freeable.TheVariants as freeable
use Rattle.omi_model.specs.declared.id.Rid.{Rid}
use Rattle.omi_model.specs.declared.item.Item.{Item}
use Rattle.omi_model.specs.declared.item.Item.TheVariants as item
use Rattle.omi_model.specs.declared.progress.Progress.TheVariants.{Finished}
use Rattle.omi_model.specs.declared.region.Region.{Region}
use Rattle.omi_model.specs.declared.task.Task.{Task}
use Rattle.omi_model.specs.declared.thread.Thread.{Thread}
use Rattle.omi_model.specs.Changes.{IsCurrent}
use Rattle.omi_model.specs.Lists.{take_item}
use Rattle.omi_model.specs.Put.{on}
use Rattle.omi_model.specs.Reached.{Step}
use Rattle.omi_model.specs.Rows.{working as working_row}
use Rattle.omi_model.specs.State.{State, region_of}
use Rattle.omi_model.specs.Teams.{joined}
use Rattle.omi_model.proofs.SlotEffects.{changed}
use Rattle.omi_model.proofs.Slots.{on_other, put_same, some_same, on_same}
use Rattle.omi_model.proofs.Steps.{at_region, current_moved, relisted}
use Rattle.omi_layout.specs.declared.field.Field.TheVariants.{ThreadCurrent}
use Rattle.omi_layout.specs.Field.{threads}
use Rattle.omi_layout.specs.Memory.{Memory, with_word}
use Rattle.omi_layout.specs.Named.{number}
use Rattle.omi_pc.specs.declared.actor.Actor.{Actor}
use Rattle.omi_pc.specs.declared.context.Context.{Context}
use Rattle.omi_pc.specs.declared.counter.Counter.{Counter}
use Rattle.omi_pc.specs.declared.counter.Counter.TheVariants as counter
use Rattle.omi_pc.specs.declared.frame.Frame.{Frame}
use Rattle.omi_pc.specs.declared.frame.Opened.{Opened}
use Rattle.omi_pc.specs.declared.frame.Opened.TheVariants as opened
use Rattle.omi_pc.specs.declared.team_counter.JoinCounter.TheVariants as join
use Rattle.omi_pc.specs.Moves.{closed, closed_in, context_under}
use Rattle.omi_pc.specs.OpenBodies.{AreOpen, IsAt, IsAtEnd, IsMaster, IsMasterOf, StandsOn}
use Rattle.omi_rep.specs.declared.outcome.Outcome.TheVariants as outcome
use Rattle.omi_rep.specs.Records.{task_address, task_word}
use Rattle.omi_rule_words.specs.Owes.{all_owed}
use Rattle.omi_rule_words.specs.Words.{KeepsWords}
use Rattle.omi_rule_words.proofs.Joins.{joins_keep}
use Rattle.omi_rule_words.proofs.Moves.{moves_keep}
use Rattle.omi_step_words.specs.Moving.{task_under}
use Rattle.omi_step_words.specs.Placed.{AreContextsPlaced, HasRegion}
use Rattle.omi_step_words.specs.Words.{of_thread}
use Rattle.omi_fork.specs.JoinSteps.{join_moved, join_next, join_outcome, past_join as rejoined}
use Rattle.omi_rule.specs.Ahead.{leaving}
use Rattle.omi_rule.specs.Chains.{IsScheduledFrom, IsSuspended, KeepsBodies, KeepsBody, KeepsContext, Stands, StandsWith, encounter_of}
use Rattle.omi_rule.specs.Steps.{IsOn, KeepsRule, RecordWord, StepKeeps}
use Rattle.omi_rule.proofs.OwnWords.{store_on, thread_word}
use Rattle.omi_rule.proofs.Assembly.{Before, plain_event_keeps, spares_threads}
use Rattle.omi_rule.proofs.Own.{AreBelow, IsBelow}
use Rattle.omi_rule.proofs.OthersStand.{of_innermost}
use Rattle.omi_rule.proofs.OwnTask.{is_current, own_below}
use Rattle.omi_rule.proofs.barrier.ArrivedBodies.{met_by}
use Rattle.omi_rule.proofs.barrier.AtCounter.{ahead_is, body, fits_counter, here, own, owes_now, region_there, sees, stands}
use Rattle.omi_rule.proofs.barrier.Events.{none_new, relisted_state, relisted_words, steps}
use Rattle.omi_rule.proofs.join.BodiesUnder.{freeing_later, LeavesUnder, encounter_kept, task_kept, under_kept}
use Rattle.omi_model.proofs.StaysKept.{stays_step}
use Rattle.omi_rule.specs.Chains.{RunsFunctions}
use Rattle.omi_rule.proofs.Runs.{bodies_run}
use Rattle.omi_rule.specs.Rows.{IsGivenBack}
use Rattle.omi_rule.proofs.WaitingFronts.{freeing_front}

module _ (p : Program) (w : List ℕ) (m : Memory) (events : List (ℕ × Event)) (s : State) (actors : ℕ → Actor)
    (i : ℕ) (before : Before p w m events s actors i) (at : (actors i).counter ≡ counter.Join join.Join) where
  abbrev a : Actor
  a = actors i

  abbrev x : Counter
  x = counter.Join join.Join

  abbrev At : Encounter
  At = sees p w m events s actors i before x at tt

  abbrev mine : KeepsContext s i (actors i).context
  mine = here p w m events s actors i before x at tt

  abbrev listed : State
  listed = relisted_state p w m events s actors i before x at tt []

  abbrev ended_task : Task
  ended_task = relisted [] mine.task

  abbrev next : State
  next = joined listed i a.context.task ended_task mine.region

  abbrev is_over : Region → Region
  is_over r = record r { joined = true }

  there : region_of s mine.task.region ≡ Some mine.region
  there = region_there p w m events s actors i before x at tt

  current : IsCurrent s i a.context.task mine.task
  current = is_current p s i a (stands p w m events s actors i before x at tt)

  current_listed : IsCurrent listed i a.context.task ended_task
  current_listed = current_moved s i a.context.task current.name [] a.context.task mine.task current

  taken : take_item p At (event.Join a.context.region) mine.task.list ≡ Some (item.Join, [])
  taken =
      ap (λ xs. take_item p At (event.Join a.context.region) xs)
      (ahead_is p w m events s actors i before x at tt)

  -- ---- what stays

  regions_go_on : (n : Rid) (r : Region) → region_of s n ≡ Some r
      → (q : Region) × (region_of next n ≡ Some q) × (q.team ≡ r.team) × (q.levels ≡ r.levels) × (q.arrivals ≡ r.arrivals)
  regions_go_on n r live =
      let (q, found, same) =
      changed s.regions mine.task.region is_over
      (λ x y. (y.team ≡ x.team) × (y.levels ≡ x.levels) × (y.arrivals ≡ x.arrivals)) n r live
      (λ _. (refl, refl, refl)) (λ _. (refl, refl, refl)) in
      (q, found, same.0, same.1, same.2)

  leaves : LeavesUnder s next a.context.task
  leaves = record {
    environment = refl;
    others = λ n other t live. freeing_later (on listed.tasks a.context.task.0 (λ u. record u { progress = Finished }))
        (Some (freeable.Joined ended_task.region 0)) mine.region.encountering n t
        (on_other listed.tasks a.context.task.0 (λ u. record u { progress = Finished }) n.0 other
        ∙ on_other s.tasks a.context.task.0 (relisted []) n.0 other ∙ live);
    regions = λ n t live r found. regions_go_on t.region r found;
  }

  abbrev on_current : RecordWord
  on_current = thread_word i ThreadCurrent

  abbrev later : List (ℕ × Event)
  later = events ++ (i, event.Join a.context.region) ∷ []

  abbrev Goes : Actor → Type 0
  Goes b =
      KeepsRule p w m events s actors i
      (op.Store (of_thread w a.thread ThreadCurrent) (task_address w (task_under a))) on_current
      (b, outcome.Event (event.Join a.context.region))

  is_on : IsOn w (op.Store (of_thread w a.thread ThreadCurrent) (task_address w (task_under a))) on_current
  is_on = store_on p w m events s actors i before ThreadCurrent (task_address w (task_under a)) refl

  -- ---- with the bodies of the stack

  module _ (f : Frame) (fs : List Frame) (stack : a.stack ≡ f ∷ fs) (saved : Context)
      (how : f.opened ≡ opened.Master saved) (num : Option ℕ)
      (at_construct : IsAt p fs (stmt.Parallel f.function num)) (master : IsMasterOf saved a.context)
      (from : IsScheduledFrom s saved a.context)
      (suspended : IsSuspended s saved (working_row (encounter_of s saved) (leaving p (encounter_of s saved) fs)))
      (under : KeepsBodies p s i saved fs)
      (open_under : AreOpen p saved fs) (placed_under : AreContextsPlaced w saved fs)
      (apart : saved.task ≡ a.context.task → ⊥) (below : AreBelow a.context.task fs)
      (ended : All (λ b. b ≡ true) (drop 1 mine.region.ended))
      (none_owes : (j : ℕ) → j < s.count → (all_owed actors j).left ≢ Some a.context.region) where
    -- the thread behind the join
    abbrev back : Actor
    back = record a { context = saved; stack = fs }

    runs_under : RunsFunctions s saved fs
    runs_under =
        subst (λ (o : Opened). RunsFunctions s (context_under a.context o) fs) how
        (subst (RunsFunctions s a.context) stack (own p w m events s actors i before x at tt).runs).1

    closed_is : closed a ≡ back
    closed_is =
        ap (λ (xs : List Frame). closed_in a xs) stack
        ∙ ap (λ (o : Opened). record a { context = context_under a.context o; stack = fs }) how

    met : mine.region.encountering ≡ Some saved.task
    met = met_by p events s before.rule.reached i saved a.context mine master from

    step : Step p s i (event.Join a.context.region) next
    step =
        steps p w m events s actors i before x at tt (event.Join a.context.region) item.Join [] next taken
        (a.context.task, mine.task, mine.region, current, there, record { mine = sym mine.region_is; implicit = mine.implicit ∙ master.implicit; first = mine.number ∙ master.number; ended = ended }) refl
        (at_region listed i a.context.task ended_task mine.region (joined listed i) current_listed there)

    -- ---- words

    word_is : task_word w mine.region.encountering ≡ task_address w (task_under a)
    word_is = ap (task_word w) met ∙ sym (ap (λ (b : Actor). task_address w b.context.task) closed_is)

    words : KeepsWords w (with_word m i threads 0 (number ThreadCurrent) 0 (task_address w (task_under a))) next (all_owed actors)
    words =
        subst
        (λ v. KeepsWords w (with_word m i threads 0 (number ThreadCurrent) 0 v) next (all_owed actors)) word_is
        (joins_keep w m listed (all_owed actors) i a.context.task ended_task mine.region (relisted_words p w m events s actors i before x at tt []) before.known
        (record { live = current_listed.live; implicit = mine.implicit ∙ master.implicit; progress = mine.begun; region = there })
        (λ j known owes. none_owes j known (owes ∙ ap (λ (n : Rid). Some n) mine.region_is)))

    -- ---- the thread

    top_under : KeepsContext s i saved
    top_under = of_innermost p s i saved fs under

    sees_same : encounter_of next saved ≡ encounter_of s saved
    sees_same = encounter_kept p s next i a.context.task leaves saved apart top_under

    abbrev goes_on : List Item
    goes_on = working_row (encounter_of s saved) (leaving p (encounter_of s saved) fs)

    -- the region stands in front of its list
    abbrev first : Counter
    first = counter.Join (join.LoadMember a.context.region a.context.size 0)

    stands_back : Stands p next i (record back { counter = first })
    stands_back = by fs refl
      where
        in_task : (g : Frame) (gs : List Frame) → fs ≡ g ∷ gs
            → StandsWith p next i (record back { counter = first }) (g ∷ gs)
        in_task g gs is = record {
          current = ap (λ (h : Thread). h.current) (put_same s.threads i (record (s.threads i) { current = mine.region.encountering })) ∙ met;
          bodies = under_kept p s next i a.context.task leaves saved fs apart below under;
          ahead = λ t live.
              let (free, there) = task_kept p s next i a.context.task leaves saved apart suspended.task suspended.live in
              let one : record suspended.task { frees = free } ≡ t = some_same there live in
              sym (ap (λ (v : Task). v.list) one) ∙ suspended.list_is
              ∙ ap (λ (e : Encounter). working_row e (leaving p e fs)) (sym sees_same);
          front = λ t live.
              freeing_front (Some (freeable.Joined mine.task.region 0))
              (on listed.tasks a.context.task.0 (λ u. record u { progress = Finished })) mine.region.encountering saved.task met t live
              ∙ ap (λ (n : Rid). Some (freeable.Joined n 0)) mine.region_is;
        }

        by : (xs : List Frame) → fs ≡ xs → StandsWith p next i (record back { counter = first }) xs
        by [] is =
            absurd
            (cc (subst (λ (xs : List Frame). IsAt p xs (stmt.Parallel f.function num)) is at_construct))
        by (g ∷ gs) is = in_task g gs is

    -- it is over, and has this thread's name
    module _ (made : a.context.region.0.creator ≡ i) (some : 1 ≤ a.context.size)
        (few : a.context.size ≤ p.threads) (placed : HasRegion w a.context.region) where
      over : IsGivenBack next a.context.region a.context.size (λ team. Unit {0})
      over = (
        is_over mine.region,
        subst (λ (n : Rid). region_of next n ≡ Some (is_over mine.region)) mine.region_is
            (on_same s.regions mine.task.region.0 is_over ∙ ap (option_map is_over) there),
        refl,
        mine.size,
        tt,
      )

      goes : Goes (rejoined a)
      goes =
          let o = own p w m events s actors i before x at tt in
          let v = task_address w (task_under a) in
          subst Goes (ap (λ (b : Actor). record b { counter = first }) (sym closed_is))
          (plain_event_keeps p w m events s actors i before
          (op.Store (of_thread w a.thread ThreadCurrent) v) on_current
          (record back { counter = first }, outcome.Event (event.Join a.context.region))
          (event.Join a.context.region) next
          (λ no_object. no_object) refl step (v, ap (λ j. op.Store (of_thread w j ThreadCurrent) v) o.thread)
          (none_new p w m events s actors i before x at tt (event.Join a.context.region) item.Join [] next taken step (λ g e. absurd (cc e)))
          (moves_keep w (with_word m i threads 0 (number ThreadCurrent) 0 v) next actors i (record back { counter = first }) words (sym (owes_now p w m events s actors i before x at tt)))
          (λ j other. spares_threads m s i ThreadCurrent v j (actors j) (λ same. omega (arith, same)))
          (record {
            thread = o.thread;
            fits = record {
              thread = o.fits.thread;
              variables = o.fits.variables;
              bodies = open_under;
              counter = (((stmt.Parallel f.function num, at_construct, tt), made ∙ sym o.thread, few), some);
            };
            placed = record { bodies = placed_under; counter = placed };
            stands = stands_back;
            runs = bodies_run p s next i (stays_step p s i (event.Join a.context.region) next step) saved fs under runs_under;
            row = over;
            ended = tt;
          }))

  -- ---- the step, where all have left

  pub join_from : a.context.region.0.creator ≡ i → All (λ b. b ≡ true) (drop 1 mine.region.ended)
      → ((j : ℕ) → j < s.count → (all_owed actors j).left ≢ Some a.context.region)
      → StepKeeps p w m events s actors i (join_next w (actors i) join.Join)
      (λ old. (join_moved p w (actors i) join.Join old, join_outcome w (actors i) join.Join old))
  join_from made ended none_owes = (on_current, is_on, with_bodies)
    where
      by : (f : Frame) (fs : List Frame) → a.stack ≡ f ∷ fs → (o : Opened) → f.opened ≡ o → IsMaster o
          → StandsOn p a.context f.function fs o → KeepsBody p s a.context o fs
          → KeepsBodies p s i (context_under a.context o) fs
          → AreOpen p (context_under a.context o) fs → AreContextsPlaced w (context_under a.context o) fs → AreBelow a.context.task (f ∷ fs)
          → (1 ≤ a.context.size) × (a.context.size ≤ p.threads) → HasRegion w a.context.region → Goes (rejoined a)
      by f fs is (opened.Master saved) how master (num, construct, master_of) (from, suspended) under open_under placed_under (apart, below) (some, few) placed =
          goes f fs is saved how num construct master_of from suspended under open_under placed_under
          (subst (IsBelow a.context.task) how apart) below ended none_owes made some few placed
      by f fs is opened.Main how master _ keeps under open_under placed_under below sized placed = absurd master
      by f fs is opened.Worker how master _ keeps under open_under placed_under below sized placed = absurd master
      by f fs is (opened.Task y saved) how master _ keeps under open_under placed_under below sized placed = absurd master
      by f fs is opened.Call how master _ keeps under open_under placed_under below sized placed = absurd master
      by f fs is (opened.Repeat left) how master _ keeps under open_under placed_under below sized placed = absurd master
      by f fs is (opened.Critical k) how master _ keeps under open_under placed_under below sized placed = absurd master
      by f fs is opened.Taskgroup how master _ keeps under open_under placed_under below sized placed = absurd master

      with_bodies : Goes (rejoined a)
      with_bodies =
          let (f, fs, is, task) = body p w m events s actors i before x at tt in
          let o = own p w m events s actors i before x at tt in
          let (open_body, open_rest) = subst (AreOpen p a.context) is o.fits.bodies in
          let (top, keeps, rest) =
          subst (KeepsBodies p s i a.context) is (stands p w m events s actors i before x at tt).bodies in
          let placed = subst (AreContextsPlaced w a.context) is o.placed.bodies in
          let (end, master) =
          subst (IsAtEnd p IsMaster) is (fits_counter p w m events s actors i before x at tt) in
          by f fs is f.opened refl master open_body.stands keeps rest open_rest placed.1
          (subst (AreBelow a.context.task) is (own_below p s i a (stands p w m events s actors i before x at tt) events before.rule.reached))
          open_body.context.size placed.0.region
