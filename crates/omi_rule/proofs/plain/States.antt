-- The plain steps that store the state of a thread which works again, or waits for a lock.
use Rattle.std.proofs.Common.{◌≡◌, ◌+◌, ◌==◌, ◌&&◌, ℕ, Bool, true, false, List, [], ◌∷◌, ◌++◌, Option, Some, None, refl, sym, ap, ◌∙◌, subst, arith, eq-eqb, ne_eqb, if◌then◌else◌}
use Rattle.std.specs.Prelude.{MatchOption}
use Rattle.std.specs.Option.{option_map_or}
use Rattle.std.proofs.lemmas.Bool.{false≢true}
use Rattle.std.proofs.lemmas.Bool.Decides.{nat_tests}
use Rattle.omi_numbers.specs.Holders.{lock_wait}
use Rattle.omi_word.specs.declared.op.Op.{Op}
use Rattle.omi_word.specs.declared.op.Op.TheVariants as op
use Rattle.omi_script.specs.declared.program.Program.{Program}
use Rattle.omi_script.specs.declared.statement.Stmt.TheVariants as stmt
use Rattle.omi_model.proofs.ListLaws.{takes_head}
use Rattle.omi_model.specs.declared.encounter.Encounter.{Encounter}
use Rattle.omi_model.specs.declared.event.Event.{Event}
use Rattle.omi_model.specs.declared.event.Event.TheVariants as event
use Rattle.omi_model.specs.declared.id.Id.{Id}
use Rattle.omi_model.specs.declared.id.Rid.{Rid}
use Rattle.omi_model.specs.declared.item.Item.{Item}
use Rattle.omi_model.specs.declared.item.Item.TheVariants as item
use Rattle.omi_model.specs.declared.region.Region.{Region}
use Rattle.omi_model.specs.declared.task.Task.{Task}
use Rattle.omi_model.specs.declared.thread.Thread.{Thread}
use Rattle.omi_model.specs.Changes.{encounter_by, level_of}
use Rattle.omi_model.specs.LawLevels.{IsEnclosedIn}
use Rattle.omi_model.specs.Lists.{take_item}
use Rattle.omi_numbers.specs.declared.states.TheConstants.{WAIT_CRITICAL, WORK_PARALLEL, WORK_SERIAL}
use Rattle.omi_numbers.specs.Words.{state_word}
use Rattle.omi_model.specs.Opening.{initial_region, opening, opening_region}
use Rattle.omi_model.specs.Reached.{Reached}
use Rattle.omi_model.specs.Rows as Rows
use Rattle.omi_model.specs.State.{State, region_of}
use Rattle.omi_model.proofs.LevelsCount.{levels_count}
use Rattle.omi_model.proofs.members.EncounterLaws.{encounters}
use Rattle.omi_model.proofs.Slots.{id_same}
use Rattle.omi_model.proofs.StaysLater.{stay}
use Rattle.omi_model.proofs.Steps.{relisted}
use Rattle.omi_layout.specs.declared.field.Field.TheVariants.{ThreadState}
use Rattle.omi_layout.specs.Field.{threads}
use Rattle.omi_layout.specs.Memory.{Memory}
use Rattle.omi_layout.proofs.Puts.{put_same}
use Rattle.omi_pc.specs.declared.actor.Actor.{Actor}
use Rattle.omi_pc.specs.declared.counter.Counter.TheVariants as counter
use Rattle.omi_pc.specs.declared.counter.PlainCounter.{PlainCounter}
use Rattle.omi_pc.specs.declared.counter.PlainCounter.TheVariants as plain
use Rattle.omi_pc.specs.Moves.{worked}
use Rattle.omi_pc.specs.Settle.{goes_to}
use Rattle.omi_pc.proofs.Moved.{worked_fits}
use Rattle.omi_pc.proofs.Unmoved.{worked_differs}
use Rattle.omi_plain.specs.PlainSteps.{is_initial, plain_moved, plain_next, plain_outcome, actor_work_state}
use Rattle.omi_plain.proofs.StayPlaced.{steps_stay_placed}
use Rattle.omi_rep.specs.declared.outcome.Outcome.TheVariants as outcome
use Rattle.omi_rep.specs.Codes.{thread_told}
use Rattle.omi_rule_words.proofs.StoredCodes.{state_stored}
use Rattle.omi_rule_words.specs.Kinds.{with_thread}
use Rattle.omi_rule_words.specs.Owes.{all_owed}
use Rattle.omi_rule_words.proofs.ThreadStores.{thread_stores_keep}
use Rattle.omi_step_words.specs.Words.{of_thread}
use Rattle.omi_rule.specs.Ahead as Ahead
use Rattle.omi_rule.specs.Ahead.{in_work, lock_of, locking_in, plain_ahead}
use Rattle.omi_rule.specs.Rule.{HasEnded}
use Rattle.omi_rule.specs.Steps.{RecordWord, StepKeeps}
use Rattle.omi_rule.proofs.OwnWords.{store_on}
use Rattle.omi_rule.proofs.Assembly.{Before, spares_threads}
use Rattle.omi_rule.proofs.BodyMoves.{worked_of}
use Rattle.omi_rule.proofs.OwnTask.{own_changes, relisted_both, relisted_alike}
use Rattle.omi_rule.proofs.Settling.{in_work_is, worked_ahead}
use Rattle.omi_rule.proofs.plain.Firsts.{IsGrounded, grounds_are_of_bodies, plain_first, worked_first}
use Rattle.omi_rule.proofs.plain.OwnEvents.{GoesOn, at_debug, body, fits_counter, own_event, steps}
use Rattle.omi_rule.proofs.plain.Loads.{goes_on, has_task, here, on_ground, sees, was_first}
use Rattle.omi_rule.proofs.plain.Locks.{at_critical, lock}
use Rattle.omi_rule.proofs.plain.TaskWords.{middle, middle_words, own_task}

-- ---- the state of a thread that works

-- the initial region alone is at level 0
initial_level : (p : Program) (events : List (ℕ × Event)) (s : State) → Reached p events s
    → (n : Rid) (r : Region) → region_of s n ≡ Some r → is_initial n ≡ (r.levels == 0)
initial_level p events s reached n r live = go (is_initial n) refl
  where
    first_level : region_of s initial_region ≡ Some r → r.levels ≡ 0
    first_level there =
        ((stay p [] events (opening p) s refl reached).alike_regions initial_region (opening_region p) r refl there).levels

    is_first : is_initial n ≡ true → n ≡ initial_region
    is_first e =
        let creator : n.0.creator ≡ 0 = grind (arith, nat_tests, e) in
        let slot : n.0.slot ≡ 0 = grind (arith, nat_tests, e) in
        let generation : n.0.generation ≡ 0 = grind (arith, nat_tests, e) in
        ap (λ (d : Id). record { 0 = d }) (id_same n.0 initial_region.0 creator slot generation)

    deeper : (o : Option Rid) → r.enclosing ≡ o → is_initial n ≡ false → r.levels == 0 ≡ false
    deeper None e other =
        absurd (false≢true (sym other ∙ ap is_initial ((encounters p events s reached).outermost n r live e)))
    deeper (Some o) e other =
        let chain : MatchOption (Some o) ((r.levels ≡ 0) × (r.active ≡ 0)) (λ x. (q : Region) × (region_of s x ≡ Some q) × IsEnclosedIn r q) =
        subst
        (λ (x : Option Rid). MatchOption x ((r.levels ≡ 0) × (r.active ≡ 0)) (λ y. (q : Region) × (region_of s y ≡ Some q) × IsEnclosedIn r q)) e
        (levels_count p events s reached n r live).levels in
        let (q, found, inside) = chain in
        let more : r.levels ≡ q.levels + 1 = inside.levels in
        ne_eqb r.levels 0 (λ none. omega (arith, more, none))

    go : (b : Bool) → is_initial n ≡ b → is_initial n ≡ (r.levels == 0)
    go true e =
        e
        ∙ sym
        (eq-eqb r.levels 0 (first_level (subst (λ (x : Rid). region_of s x ≡ Some r) (is_first e) live)))
    go false e = e ∙ sym (deeper r.enclosing refl e)

module _ (p : Program) (w : List ℕ) (m : Memory) (events : List (ℕ × Event)) (s : State) (actors : ℕ → Actor)
    (i : ℕ) (before : Before p w m events s actors i) (c : PlainCounter)
    (at_counter : (actors i).counter ≡ counter.Plain c) where
  abbrev at : Encounter
  at = sees p w m events s actors i before c at_counter

  pub work_state_is : actor_work_state (actors i) ≡ Rows.work_state at.level
  work_state_is =
      let o = own_task p w m events s actors i before c at_counter in
      let level : at.level ≡ o.region.levels =
      ap (λ (x : Option Task). (encounter_by s x).level) o.live
      ∙ ap (level_of s) o.region_is
      ∙ ap (λ (x : Option Region). option_map_or (λ r. r.levels) x 0) o.found in
      ap (λ (b : Bool). if b then WORK_SERIAL else WORK_PARALLEL)
      (initial_level p events s before.rule.reached (actors i).context.region o.region o.found)
      ∙ ap Rows.work_state (sym level)

  abbrev state_at : RecordWord
  state_at = record { creator = i; slot = 0; field = ThreadState; place = 0 }

  abbrev shows : ℕ → ℕ → Op
  shows state wait = op.Store (of_thread w (actors i).thread ThreadState) (state_word state wait)

  -- the thread shows a state
  pub state_event : (state wait : ℕ) (zs : List Item)
      → plain_ahead p at (actors i).stack c ≡ item.State state wait ∷ zs → (b : Actor)
      → GoesOn p w i at (actors i) b zs → HasEnded (events ++ (i, event.State state wait) ∷ []) i b.counter
      → StepKeeps p w m events s actors i (shows state wait)
      (λ old. (b, outcome.Event (event.State state wait)))
  state_event state wait zs list b goes ended =
      let own = before.rule.threads i before.known in
      let stand = here p w m events s actors i before c at_counter in
      let z : State = middle p w m events s actors i before c at_counter zs in
      let h : Thread = record (s.threads i) { state = state; wait = wait } in
      let u : State = with_thread z i h in
      let e : Event = event.State state wait in
      let y : Item = item.State state wait in
      let taken : take_item p at e (plain_ahead p at (actors i).stack c) ≡ Some (y, zs) =
      ap (take_item p at e) list ∙ takes_head p at e y zs y zs refl (ap (λ (b : Bool). b && (wait == wait)) (eq-eqb state state refl) ∙ eq-eqb wait wait refl) in (
        state_at,
        store_on p w m events s actors i before ThreadState (state_word state wait) refl,
        own_event p w m events s actors i before c at_counter (shows state wait) state_at b
            (outcome.Event e) e y zs u refl (λ q. q) (λ n q. absurd (cc q)) taken
            (steps p w m events s actors i before c at_counter e y zs u taken tt refl refl)
            (state_word state wait, ap (λ j. op.Store (of_thread w j ThreadState) (state_word state wait)) own.thread)
            (thread_stores_keep w m z (all_owed actors) i h ThreadState (state_word state wait) (middle_words p w m events s actors i before c at_counter zs) (λ q. absurd (omega (arith, q)))
            (state_stored w i (m i threads 0) (thread_told (s.threads i)) (before.rule.words.made i before.known).thread state wait))
            (λ j other. spares_threads m s i ThreadState (state_word state wait) j (actors j) (λ q. absurd (omega (arith, q))))
            (own_changes p s i (actors i) stand (relisted zs) u (λ v live. relisted_alike zs v) refl (ap (λ (x : Thread). x.current) (put_same s.threads i h)) refl refl)
            (relisted_both p s i (actors i) stand zs u refl) goes ended,
      )

module _ (p : Program) (w : List ℕ) (m : Memory) (events : List (ℕ × Event)) (s : State) (actors : ℕ → Actor)
    (i : ℕ) (before : Before p w m events s actors i) where
  pub work_state_keeps : (actors i).counter ≡ counter.Plain plain.WorkState
      → StepKeeps p w m events s actors i (plain_next p w (actors i) plain.WorkState)
      (λ old. (plain_moved p (actors i) plain.WorkState old, plain_outcome p w (actors i) plain.WorkState old))
  work_state_keeps at_counter =
      let own = before.rule.threads i before.known in
      let sees_here : Encounter = sees p w m events s actors i before plain.WorkState at_counter in
      let (f, fs, stack, rest) = body p w m events s actors i before plain.WorkState at_counter in
      let first =
      worked_first p (actors i) (was_first p w m events s actors i before plain.WorkState at_counter tt) in
      let zs : List Item = Ahead.worked p sees_here (actors i).stack in
      let debug = at_debug p w m events s actors i before plain.WorkState at_counter in
      state_event p w m events s actors i before plain.WorkState at_counter (actor_work_state (actors i)) 0 zs
      (ap (λ n. item.State n 0 ∷ zs) (sym (work_state_is p w m events s actors i before plain.WorkState at_counter)))
      (worked p (actors i))
      (goes_on p w m events s actors i before plain.WorkState at_counter (worked p (actors i)) zs (worked_differs p (actors i))
      (worked_fits p (actors i) (has_task p w m events s actors i before plain.WorkState at_counter) (fits_counter p w m events s actors i before plain.WorkState at_counter))
      (steps_stay_placed p w (actors i) plain.WorkState 0 own.placed at_counter)
      (worked_of (λ d gs. IsGrounded gs) grounds_are_of_bodies p (actors i) (on_ground p w m events s actors i before plain.WorkState at_counter)) first
      (λ P laws. worked_of P laws p (actors i))
      (worked_ahead p sees_here debug (actors i) f fs stack))
      (first.ended (events ++ (i, event.State (actor_work_state (actors i)) 0) ∷ []) i)

  pub lock_state_keeps : (actors i).counter ≡ counter.Plain plain.LockState
      → StepKeeps p w m events s actors i (plain_next p w (actors i) plain.LockState)
      (λ old. (plain_moved p (actors i) plain.LockState old, plain_outcome p w (actors i) plain.LockState old))
  lock_state_keeps at_counter =
      let own = before.rule.threads i before.known in
      let sees_here : Encounter = sees p w m events s actors i before plain.LockState at_counter in
      let l : ℕ = lock p w m events s actors i before plain.LockState at_counter in
      let critical = fits_counter p w m events s actors i before plain.LockState at_counter in
      let (f, is) = at_critical p w m events s actors i before plain.LockState at_counter critical in
      let zs : List Item = in_work p (actors i).stack (locking_in p sees_here (actors i).stack) in
      let rows : in_work p (actors i).stack (λ x. item.State WAIT_CRITICAL (lock_of x + 1) ∷ locking_in p sees_here (actors i).stack x) ≡ item.State WAIT_CRITICAL (l + 1) ∷ zs =
      in_work_is p (actors i).stack (stmt.Critical l f)
      (λ x. item.State WAIT_CRITICAL (lock_of x + 1) ∷ locking_in p sees_here (actors i).stack x) is
      ∙ ap (λ (xs : List Item). item.State WAIT_CRITICAL (l + 1) ∷ xs)
      (sym (in_work_is p (actors i).stack (stmt.Critical l f) (locking_in p sees_here (actors i).stack) is)) in
      state_event p w m events s actors i before plain.LockState at_counter WAIT_CRITICAL
      (lock_wait l) zs rows (goes_to plain.Lock (actors i))
      (goes_on p w m events s actors i before plain.LockState at_counter (goes_to plain.Lock (actors i)) zs
      (record { thread = refl; context = refl; gathered = refl })
      (record { thread = own.fits.thread; variables = own.fits.variables; bodies = own.fits.bodies; counter = critical })
      (steps_stay_placed p w (actors i) plain.LockState 0 own.placed at_counter)
      (on_ground p w m events s actors i before plain.LockState at_counter) (plain_first plain.Lock tt) (λ P laws o. o) refl)
      tt
