-- A thread wants a team of a size: what the clause says, or the first element of nthreads-var, or one where enough levels are active.
use Rattle.std.proofs.Common.{◌≡◌, ◌≢◌, ◌%◌, ◌≤◌, ◌&&◌, nat_le, nat_lt, ℕ, Bool, true, false, List, [], ◌∷◌, length, get_or, map, slice_get, slice_index, Option, Some, None, refl, sym, ap, ◌∙◌, subst, arith, if◌then◌else◌}
use Rattle.omi_plain.proofs.Locks.{before_stands}
use Rattle.std.specs.Option.{unwrap_or}
use Rattle.omi_word.specs.declared.op.Op.TheVariants as op
use Rattle.omi_script.proofs.RuleLemmas.{Rules-from_accepted}
use Rattle.omi_script.specs.Bodies.{body_of}
use Rattle.omi_script.specs.declared.program.Program.{Program}
use Rattle.omi_script.specs.declared.statement.Stmt.{Stmt}
use Rattle.omi_script.specs.declared.statement.Stmt.TheVariants as stmt
use Rattle.omi_script.specs.Rules.{IsSize}
use Rattle.omi_model.specs.declared.encounter.Encounter.{Encounter}
use Rattle.omi_model.specs.declared.event.Event.{Event}
use Rattle.omi_model.specs.declared.event.Event.TheVariants as event
use Rattle.omi_model.specs.declared.item.Item.{Item}
use Rattle.omi_model.specs.declared.item.Item.TheVariants as item
use Rattle.omi_model.specs.declared.region.Region.{Region}
use Rattle.omi_model.specs.declared.task.Task.{Task}
use Rattle.omi_model.specs.declared.thread.Thread.{Thread}
use Rattle.omi_model.specs.Changes.{on_task}
use Rattle.omi_model.specs.LawClaims.{others_below}
use Rattle.omi_model.specs.Lists.{take_item}
use Rattle.omi_model.specs.Reached.{Step}
use Rattle.omi_model.specs.State.{State, region_of}
use Rattle.omi_model.specs.Teams as Teams
use Rattle.omi_model.specs.Teams.{got_threads}
use Rattle.omi_model.proofs.Slots.{put_same, some_same}
use Rattle.omi_model.proofs.Steps.{relisted}
use Rattle.omi_layout.specs.declared.field.Field.TheVariants.{RuntimeMaxActive}
use Rattle.omi_layout.specs.Memory.{Memory}
use Rattle.omi_pc.specs.declared.actor.Actor.{Actor}
use Rattle.omi_pc.specs.declared.counter.Counter.TheVariants as counter
use Rattle.omi_pc.specs.declared.frame.Frame.{Frame}
use Rattle.omi_pc.specs.declared.gathered.Gathered.{Gathered}
use Rattle.omi_pc.specs.declared.team_counter.TeamCounter.{TeamCounter}
use Rattle.omi_pc.specs.declared.team_counter.TeamCounter.TheVariants as team
use Rattle.omi_pc.specs.Fits.{IsAtParallel, IsParallel}
use Rattle.omi_pc.specs.OpenBodies.{IsAt}
use Rattle.omi_rep.specs.declared.outcome.Outcome.TheVariants as outcome
use Rattle.omi_rule_words.specs.Owes.{all_owed, owed}
use Rattle.omi_rule_words.specs.Words.{KeepsWords}
use Rattle.omi_rule_words.proofs.ThreadStores.{thread_changes_keep}
use Rattle.omi_step_words.specs.Members.{alone}
use Rattle.omi_step_words.specs.Words.{of_runtime}
use Rattle.omi_fork.specs.TeamParts.{first_nthreads, requested_in, size_to_want}
use Rattle.omi_fork.specs.TeamSteps.{but_own, team_moved, team_next, team_outcome}
use Rattle.omi_rule.specs.Ahead.{forking, team_ahead, wanting}
use Rattle.omi_rule.specs.Chains.{encounter_of}
use Rattle.omi_rule.specs.Rows.{HasAsked, Knows}
use Rattle.omi_rule.specs.Steps.{KeepsRule, RecordWord, StepKeeps, found_in, left_in}
use Rattle.omi_rule.proofs.Assembly.{Before, of_load, spares_none}
use Rattle.omi_rule.proofs.Own.{ChangesTask}
use Rattle.omi_rule.proofs.OwnTask.{own_changes, relisted_alike}
use Rattle.omi_rule.proofs.RowsStay.{Spares}
use Rattle.omi_rule.proofs.Settling.{in_work_is}
use Rattle.omi_rule.proofs.team.Asked.{knows_then, others_skip, ready_behind, skip_known, skip_other}
use Rattle.omi_rule.proofs.team.Events.{IsReady, stands, step, team_event, words_moved}
use Rattle.omi_rule.proofs.team.Sizes.{AreSizes, have_sizes}
use Rattle.omi_rule.proofs.team.Within.{context, fits, going, own, owes, row, task_in_range}

-- the statement in work, and what it wants next
record Wants (p : Program) (at : Encounter) (fs : List Frame) : Type 0 where
  pub function : ℕ
  pub num : Option ℕ
  pub is : IsAt p fs (stmt.Parallel function num)
  pub ahead : wanting p at fs ≡ item.Want num ∷ forking p at fs

wants_next : (p : Program) (at : Encounter) (a : Actor) → IsAtParallel p a → Wants p at a.stack
wants_next p at a (s, is, parallel) = go s is parallel
  where
    go : (s : Stmt) → IsAt p a.stack s → IsParallel s → Wants p at a.stack
    go (stmt.Parallel f num) is o = record { function = f; num = num; is = is; ahead = in_work_is p a.stack (stmt.Parallel f num) _ is ∙ ap (λ xs. item.Want num ∷ xs) (sym (in_work_is p a.stack (stmt.Parallel f num) _ is)) }
    go _ is o = absurd o

-- a size that a clause asks for is in range
clause_in_range : (p : Program) (fs : List Frame) (f n : ℕ) → IsAt p fs (stmt.Parallel f (Some n)) → IsSize n
clause_in_range p [] f n at = absurd (cc at)
clause_in_range p (g ∷ gs) f n at =
    (Rules-from_accepted p).ranges g.function (stmt.Parallel f (Some n))
    (before_stands (body_of p.funcs g.function) g.next (stmt.Parallel f (Some n)) at)

-- the first element of nthreads-var, as it was loaded
first_loaded : (ns : List ℕ) (word : ℕ) → 1 ≤ length ns → AreSizes ns
    → ((n : ℕ) → slice_get ns 0 ≡ Some n → word ≡ n) → (word % 256 ≡ get_or ns 0 0) × (1 ≤ word % 256)
first_loaded [] word some sizes is = absurd (omega (arith, some))
first_loaded (n ∷ ns) word some ((low, high), rest) is =
    let same : word ≡ n = is n refl in (omega (arith, same, high), omega (arith, same, low, high))

module _ (p : Program) (w : List ℕ) (m : Memory) (events : List (ℕ × Event)) (s : State) (actors : ℕ → Actor)
    (i : ℕ) (before : Before p w m events s actors i) (at : (actors i).counter ≡ counter.Team team.Want) where
  abbrev C : TeamCounter
  C = team.Want

  abbrev X : RecordWord
  X = record { creator = 0; slot = 0; field = RuntimeMaxActive; place = 0 }

  abbrev At : Encounter
  At = encounter_of s (actors i).context

  abbrev list : List Item
  list = forking p (encounter_of s (actors i).context) (actors i).stack

  abbrev z : State
  z =
      on_task s (actors i).context.task
      (relisted (forking p (encounter_of s (actors i).context) (actors i).stack))

  abbrev Size : ℕ
  Size = size_to_want p (actors i) (found_in m X)

  here : Wants p At (actors i).stack
  here = wants_next p At (actors i) (fits p w m events s actors i before C at)

  knows : Knows s (actors i)
  knows = row p w m events s actors i before C at

  found_is : found_in m X ≡ s.max_active
  found_is = before.rule.words.runtime_record RuntimeMaxActive 0 _ refl

  loaded : (first_nthreads (actors i) ≡ get_or (context p w m events s actors i before C at).task.variables.nthreads 0 0) × (1 ≤ first_nthreads (actors i))
  loaded =
      let o = context p w m events s actors i before C at in
      let (t, live, are) = knows.task in
      let same : o.task ≡ t = some_same o.live live in
      let ranges = task_in_range p w m events s actors i before C at in
      first_loaded o.task.variables.nthreads (slice_index (actors i).gathered.variables 4) ranges
      (have_sizes p events s before.rule.reached (actors i).context.task o.task o.live)
      (λ n is. are 4 (omega arith) n (ap (λ (x : Task). slice_get x.variables.nthreads 0) (sym same) ∙ is))

  -- by the clause
  asks_for : (num : Option ℕ) → IsAt p (actors i).stack (stmt.Parallel here.function num)
      → (Size ≡ Teams.wanted_size s (context p w m events s actors i before C at).task (context p w m events s actors i before C at).region num) × (1 ≤ Size)
  asks_for num is =
      let o = context p w m events s actors i before C at in
      let (r, found, levels, active) = knows.region in
      let same : o.region ≡ r = some_same o.found found in
      let bound : Size ≡ (if nat_le s.max_active o.region.active then 1 else unwrap_or num (first_nthreads (actors i))) =
      ap
      (λ (q : Option ℕ). if nat_le (found_in m X) (actors i).gathered.active then 1 else unwrap_or q (first_nthreads (actors i)))
      (ap requested_in is)
      ∙ ap
      (λ k. if nat_le k (actors i).gathered.active then 1 else unwrap_or num (first_nthreads (actors i))) found_is
      ∙ ap (λ k. if nat_le s.max_active k then 1 else unwrap_or num (first_nthreads (actors i)))
      (sym active ∙ ap (λ (x : Region). x.active) (sym same)) in
      let (equal, some) = go num is o.task o.region loaded.0 loaded.1 in
      (bound ∙ equal, subst (λ k. 1 ≤ k) (sym bound) some)
    where
      by : (c : Bool) (n : ℕ) → 1 ≤ n → 1 ≤ (if c then 1 else n)
      by true n some = omega arith
      by false n some = some

      go : (num : Option ℕ) → IsAt p (actors i).stack (stmt.Parallel here.function num)
          → (t : Task) (r : Region) → first_nthreads (actors i) ≡ get_or t.variables.nthreads 0 0
          → 1 ≤ first_nthreads (actors i)
          → ((if nat_le s.max_active r.active then 1 else unwrap_or num (first_nthreads (actors i))) ≡ Teams.wanted_size s t r num) × (1 ≤ (if nat_le s.max_active r.active then 1 else unwrap_or num (first_nthreads (actors i))))
      go None is t r first some =
          (ap (λ n. if nat_le s.max_active r.active then 1 else n) first, by (nat_le s.max_active r.active) (first_nthreads (actors i)) some)
      go (Some n) is t r first some =
          (refl, by (nat_le s.max_active r.active) n (clause_in_range p (actors i).stack here.function n is).0)

  abbrev wanted_now : Thread
  wanted_now = record (s.threads i) { wanted = size_to_want p (actors i) (found_in m X); asks = [] }

  abbrev u : State
  u = Teams.wanting z i (size_to_want p (actors i) (found_in m X))

  taken : take_item p At (event.Want Size) (wanting p At (actors i).stack) ≡ Some (item.Want here.num, list)
  taken = ap (take_item p At (event.Want Size)) here.ahead

  done : Step p s i (event.Want Size) u
  done =
      let o = context p w m events s actors i before C at in
      step p w m events s actors i before C at (event.Want Size) (item.Want here.num) list list u taken
      ((actors i).context.task, o.task, o.region, record { name = (stands p w m events s actors i before C at).current; live = o.live }, ap (region_of s) o.region_is ∙ o.found, (asks_for here.num here.is).0) refl refl

  -- ---- the thread goes on

  abbrev Then : Gathered
  Then =
      record
      (actors i).gathered { wanted = size_to_want p (actors i) (found_in m X); asked = but_own (actors i).thread 0; team = alone (actors i).thread }

  mine : (actors i).thread ≡ i
  mine = (own p w m events s actors i before C at).thread

  asked_then : HasAsked u i (going team.Ask Then (actors i))
  asked_then =
      let thread : u.threads i ≡ wanted_now = put_same s.threads i wanted_now in
      record {
        knows = knows_then s u (actors i) team.Ask Then list refl refl refl refl refl knows;
        wanted = sym (ap (λ (h : Thread). h.wanted) thread);
        joined = ap (λ j. j ∷ []) mine ∙ sym (ap (λ (h : Thread). i ∷ got_threads h.asks) thread);
        asked = ap (λ (h : Thread). map (λ x. x.0) h.asks) thread ∙ sym (others_skip i 0) ∙ ap (λ j. others_below i (but_own j 0)) (sym mine);
        few = subst (λ j. but_own j 0 ≤ s.count) (sym mine) (skip_known i 0 s.count before.known (omega arith));
      }

  pub want_keeps : StepKeeps p w m events s actors i (team_next p w (actors i) C) (λ old. (team_moved p w (actors i) C old, team_outcome p w (actors i) C old))
  want_keeps = (
    X,
    record {
      there = record { field = record { from = omega arith; to = omega arith }; record_slot = record { made_by = omega arith; within = omega arith }; within = omega arith };
      address = refl;
    },
    go (nat_lt (length Then.team) Then.wanted && nat_lt Then.asked p.threads) refl,
  )
    where
      stays : left_in m (op.Load (of_runtime w RuntimeMaxActive)) X ≡ m
      stays = of_load p w m events s actors i before (of_runtime w RuntimeMaxActive) X

      words : KeepsWords w m u (all_owed actors)
      words =
          thread_changes_keep w m z (all_owed actors) i wanted_now
          (words_moved p w m events s actors i before C at list)
          (before.rule.words.made i before.known).thread

      changes : ChangesTask s u i (actors i).context.task
      changes =
          own_changes p s i (actors i) (stands p w m events s actors i before C at) (relisted list) u
          (λ t live. relisted_alike list t) refl
          (ap (λ (h : Thread). h.current) (put_same s.threads i wanted_now)) refl refl

      ready : (b : Bool) → (nat_lt (length Then.team) Then.wanted && nat_lt Then.asked p.threads) ≡ b
          → IsReady p w (left_in m (op.Load (of_runtime w RuntimeMaxActive)) X) u i (actors i) (if b then team.Ask else team.LoadRegionLife 0) Then
      ready =
          ready_behind p w m events s actors i before
          (left_in m (op.Load (of_runtime w RuntimeMaxActive)) X) u Then refl asked_then
          (own p w m events s actors i before C at).fits.variables (asks_for here.num here.is).1
          (subst (λ j. but_own j 0 ≢ i) (sym mine) (skip_other i 0))
          (fits p w m events s actors i before C at)

      event_to : (d : TeamCounter) → owed (going d Then (actors i)) ≡ owed (actors i)
          → list ≡ team_ahead p At (actors i).stack d
          → IsReady p w (left_in m (op.Load (of_runtime w RuntimeMaxActive)) X) u i (actors i) d Then
          → KeepsRule p w m events s actors i (op.Load (of_runtime w RuntimeMaxActive)) X
          (going d Then (actors i), outcome.Event (event.Want Size))
      event_to d same ahead now =
          team_event p w m events s actors i before C at (op.Load (of_runtime w RuntimeMaxActive)) X d Then
          (event.Want Size) (item.Want here.num) list list u
          (λ none. none) (λ f e. absurd (cc e)) taken done refl
          (subst (λ (n : Memory). KeepsWords w n u (all_owed actors)) (sym stays) words) same
          (λ j ne. subst (λ (n : Memory). Spares m n s j (actors j)) (sym stays) (spares_none m s j (actors j))) changes refl ahead now

      go : (b : Bool) → (nat_lt (length Then.team) Then.wanted && nat_lt Then.asked p.threads) ≡ b
          → KeepsRule p w m events s actors i (op.Load (of_runtime w RuntimeMaxActive)) X
          (going (if b then team.Ask else team.LoadRegionLife 0) Then (actors i), outcome.Event (event.Want Size))
      go true e = event_to team.Ask (sym (owes p w m events s actors i before C at)) refl (ready true e)
      go false e =
          event_to (team.LoadRegionLife 0) (sym (owes p w m events s actors i before C at)) refl
          (ready false e)
