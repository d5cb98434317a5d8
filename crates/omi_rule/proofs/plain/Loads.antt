-- The plain steps that need no word: work, calls, statements that are passed over, and returns. Each loads the thread's native id.
use Rattle.std.proofs.Common.{◌≡◌, ◌<◌, ℕ, Bool, true, List, [], ◌∷◌, ◌++◌, length, Some, None, refl, sym, ap, ◌∙◌, subst, arith, if◌then◌else◌, Option}
use Rattle.omi_word.specs.declared.op.Op.TheVariants as op
use Rattle.omi_script.specs.declared.program.Program.{Program}
use Rattle.omi_script.specs.declared.statement.Stmt.TheVariants as stmt
use Rattle.omi_model.specs.declared.encounter.Encounter.{Encounter}
use Rattle.omi_model.specs.declared.event.Event.{Event}
use Rattle.omi_model.specs.declared.event.Event.TheVariants as event
use Rattle.omi_model.specs.declared.item.Item.{Item}
use Rattle.omi_model.specs.declared.item.Item.TheVariants as item
use Rattle.omi_model.specs.Changes.{on_task}
use Rattle.omi_model.specs.Lists.{fits, may_drop, opened, stays, take_item}
use Rattle.omi_model.specs.Rules.{Rule, effect}
use Rattle.omi_model.specs.State.{State}
use Rattle.omi_model.proofs.Steps.{relisted}
use Rattle.omi_model.specs.declared.freeable.Freeable.{Freeable}
use Rattle.omi_layout.specs.declared.field.Field.TheVariants.{ThreadNative}
use Rattle.omi_layout.specs.Memory.{Memory}
use Rattle.omi_pc.specs.declared.actor.Actor.{Actor}
use Rattle.omi_pc.specs.declared.context.Context.{Context}
use Rattle.omi_pc.specs.declared.counter.Counter.TheVariants as counter
use Rattle.omi_pc.specs.declared.counter.PlainCounter.{PlainCounter}
use Rattle.omi_pc.specs.declared.counter.PlainCounter.TheVariants as plain
use Rattle.omi_pc.specs.declared.frame.Frame.{Frame}
use Rattle.omi_pc.specs.FitLaws.{DifferInBodies}
use Rattle.omi_pc.specs.Fits.{Fits, HasTask}
use Rattle.omi_pc.specs.Settle.{settled}
use Rattle.omi_pc.proofs.Settled.{settled_fits}
use Rattle.omi_pc.proofs.Unmoved.{settled_differs}
use Rattle.omi_plain.specs.PlainSteps.{loading_native, plain_moved, plain_next, plain_outcome}
use Rattle.omi_plain.proofs.StayPlaced.{steps_stay_placed}
use Rattle.omi_rep.specs.declared.outcome.Outcome.{Outcome}
use Rattle.omi_rep.specs.declared.outcome.Outcome.TheVariants as outcome
use Rattle.omi_rule_words.specs.Owes.{all_owed}
use Rattle.omi_rule_words.specs.Words.{KeepsWords}
use Rattle.omi_rule_words.proofs.ListMoves.{list_moves_keep}
use Rattle.omi_step_words.specs.Placed.{IsPlaced}
use Rattle.omi_step_words.specs.Words.{of_thread}
use Rattle.omi_rule.specs.Ahead.{IsAhead, ahead, plain_ahead}
use Rattle.omi_rule.specs.Chains.{KeepsBodies, KeepsContext, RunsFunctions, StandsInTask, encounter_of, IsPassable, IsFront}
use Rattle.omi_rule.specs.Commits.{CommitsAt}
use Rattle.omi_rule.specs.Rule.{HasEnded}
use Rattle.omi_rule.specs.Steps.{IsOn, KeepsRule, RecordWord, StepKeeps, left_in}
use Rattle.omi_rule.proofs.OwnWords.{load_on, thread_word}
use Rattle.omi_rule.proofs.Assembly.{Before, of_load, spares_none}
use Rattle.omi_rule.proofs.BodyMoves.{settled_of}
use Rattle.omi_rule.proofs.NothingNew.{Makes}
use Rattle.omi_rule.proofs.OwnTask.{bodies_are_of_bodies, list_moved, own_changes, relisted_both, relisted_alike}
use Rattle.omi_rule.proofs.RowsStay.{Spares}
use Rattle.omi_rule.proofs.Settling.{in_work_is, settled_ahead}
use Rattle.omi_rule.proofs.plain.Firsts.{IsFirst, IsGrounded, grounded, grounds_are_of_bodies, plain_first, settled_first}
use Rattle.omi_rule.proofs.plain.OwnEvents.{GoesOn, at_debug, body, fits_counter, own_event, stands, steps}
use Rattle.omi_rule_words.specs.Owes.{nothing, owed}
use Rattle.omi_rule.specs.Rows.{KeepsRow}
use Rattle.omi_rule.proofs.Runs.{runs_are_of_bodies}
use Rattle.omi_rule.proofs.BodyMoves.{IsOfBodies}
use Rattle.omi_pc.specs.declared.frame.Frame.{Frame}
use Rattle.omi_pc.specs.declared.context.Context.{Context}
use Rattle.omi_pc.proofs.NextCounters.{IsBefore}

module _ (p : Program) (w : List ℕ) (m : Memory) (events : List (ℕ × Event)) (s : State) (actors : ℕ → Actor)
    (i : ℕ) (before : Before p w m events s actors i) where
  -- the load of the native id
  abbrev pub native : RecordWord
  native = thread_word i ThreadNative

  pub loads_native : loading_native w (actors i) ≡ op.Load (of_thread w i ThreadNative)
  loads_native = ap (λ j. op.Load (of_thread w j ThreadNative)) (before.rule.threads i before.known).thread

  pub native_on : IsOn w (loading_native w (actors i)) native
  native_on = load_on p w m events s actors i before ThreadNative refl

  module _ (c : PlainCounter) (at_counter : (actors i).counter ≡ counter.Plain c) where
    abbrev pub here : StandsInTask p s i (actors i)
    here = stands p w m events s actors i before c at_counter

    abbrev pub sees : Encounter
    sees = encounter_of s (actors i).context

    -- an event without an effect
    pub load_keeps : (b : Actor) (out : Outcome) (e : Event) (y : Item) (zs : List Item)
        → out ≡ outcome.Event e → (Makes e → ⊥) → ((f : ℕ) → y ≡ item.Fork f → ⊥)
        → take_item p sees e (plain_ahead p sees (actors i).stack c) ≡ Some (y, zs) → Rule s i e y → stays sees e y zs ≡ zs → ((z : State) → effect p z i e y ≡ Some z)
        → CommitsAt w s i e (loading_native w (actors i)) → GoesOn p w i sees (actors i) b zs → HasEnded (events ++ (i, e) ∷ []) i b.counter
        → KeepsRule p w m events s actors i (loading_native w (actors i)) native (b, out)
    load_keeps b out e y zs is not none taken rule stay none_done commits goes ended =
        let k = (actors i).context.task in
        let u : State = on_task s k (relisted zs) in
        let same : left_in m (loading_native w (actors i)) native ≡ m =
        of_load p w m events s actors i before (of_thread w (actors i).thread ThreadNative) native in
        own_event p w m events s actors i before c at_counter
        (loading_native w (actors i)) native b out e y zs u is not none taken
        (steps p w m events s actors i before c at_counter e y zs u taken rule stay (none_done u)) commits
        (subst (λ (n : Memory). KeepsWords w n u (all_owed actors)) (sym same)
        (subst (λ (z : State). KeepsWords w m z (all_owed actors)) (list_moved p s i (actors i) here zs)
        (list_moves_keep w m s (all_owed actors) i zs before.rule.words before.known)))
        (λ j other. subst (λ (n : Memory). Spares m n s j (actors j)) (sym same) (spares_none m s j (actors j)))
        (own_changes p s i (actors i) here (relisted zs) u (λ t live. relisted_alike zs t) refl refl refl refl)
        (relisted_both p s i (actors i) here zs u refl) goes ended

    -- ---- where the thread goes on

    pub some_body : 0 < length (actors i).stack
    some_body =
        let (f, fs, is, o) = body p w m events s actors i before c at_counter in
        subst (λ (xs : List Frame). 0 < length xs) (sym is) (omega arith)

    pub has_task : HasTask p (actors i)
    has_task =
        let o = (before.rule.threads i before.known).fits in record { thread = o.thread; variables = o.variables; bodies = o.bodies; some = some_body }

    pub on_ground : IsGrounded (actors i).stack
    on_ground =
        grounded p (actors i).context (actors i).stack
        (before.rule.threads i before.known).fits.bodies some_body

    pub was_first : IsBefore c → IsFirst (actors i).counter
    was_first b = subst IsFirst (sym at_counter) (plain_first c b)

    -- what moves between the bodies of a task leaves what holds of open bodies
    abbrev MovesTo : Actor → Type 1
    MovesTo b =
        (P : Context → List Frame → Type 0) → IsOfBodies P → P (actors i).context (actors i).stack → P b.context b.stack

    pub goes_to_row : (b : Actor) (list : List Item) → DifferInBodies (actors i) b → Fits p b → IsPlaced w b
        → IsGrounded b.stack → owed b ≡ nothing
        → ((n : Memory) (u : State) → KeepsContext u i (actors i).context → KeepsRow p w n u i b b.counter) → MovesTo b → IsAhead p sees b.stack b.counter list
        → ((o : Option Freeable) → IsPassable o → IsFront b.counter o) → GoesOn p w i sees (actors i) b list
    goes_to_row b list differs fits placed ground owes row all is front = record {
      differs = differs;
      fits = fits;
      placed = placed;
      grounded = ground;
      owes = owes;
      row = row;
      bodies = λ u o. subst (λ (d : Context). KeepsBodies p u i d b.stack) differs.context (all (KeepsBodies p u i) (bodies_are_of_bodies p u i) o);
      runs = λ u o. subst (λ (d : Context). RunsFunctions u d b.stack) differs.context (all (RunsFunctions u) (runs_are_of_bodies u) o);
      ahead = is;
      front = front;
    }

    pub goes_on : (b : Actor) (list : List Item) → DifferInBodies (actors i) b → Fits p b → IsPlaced w b
        → IsGrounded b.stack → IsFirst b.counter → MovesTo b → IsAhead p sees b.stack b.counter list
        → GoesOn p w i sees (actors i) b list
    goes_on b list differs fits placed ground first all is =
        goes_to_row b list differs fits placed ground (first.owes b.context b.gathered.team)
        (λ n u o. first.row p w n u i b) all is first.front

    pub settled_goes : IsBefore c → IsPlaced w (settled p (actors i))
        → GoesOn p w i sees (actors i) (settled p (actors i)) (ahead p sees (actors i).stack)
    settled_goes b placed =
        let (f, fs, is, o) = body p w m events s actors i before c at_counter in
        goes_on (settled p (actors i)) (ahead p sees (actors i).stack) (settled_differs p (actors i))
        (settled_fits p (actors i) has_task) placed
        (settled_of (λ d gs. IsGrounded gs) grounds_are_of_bodies p (actors i) on_ground)
        (settled_first p (actors i) (was_first b))
        (λ P laws. settled_of P laws p (actors i))
        (settled_ahead p sees (at_debug p w m events s actors i before c at_counter) (actors i) f fs is)

  -- ---- work

  pub work_keeps : (actors i).counter ≡ counter.Plain plain.Work
      → StepKeeps p w m events s actors i (plain_next p w (actors i) plain.Work)
      (λ old. (plain_moved p (actors i) plain.Work old, plain_outcome p w (actors i) plain.Work old))
  work_keeps at_counter =
      let at : Encounter = sees plain.Work at_counter in
      let rest : List Item = ahead p at (actors i).stack in
      let own = before.rule.threads i before.known in
      let first = settled_first p (actors i) (was_first plain.Work at_counter tt) in (
        native,
        native_on,
        load_keeps plain.Work at_counter (settled p (actors i))
            (outcome.Event event.Work) event.Work item.Work rest refl (λ x. x) (λ f e. absurd (cc e))
            (ap (take_item p at event.Work) (in_work_is p (actors i).stack stmt.Work (λ x. item.Do x ∷ rest) (fits_counter p w m events s actors i before plain.Work at_counter)))
            tt refl (λ z. refl) loads_native
            (settled_goes plain.Work at_counter tt (steps_stay_placed p w (actors i) plain.Work 0 own.placed at_counter))
            (first.ended (events ++ (i, event.Work) ∷ []) i),
      )
