-- A worker begins, offers itself, and is idle again: events on its own record.
use Rattle.std.proofs.Common.{◌≡◌, ◌≢◌, ◌++◌, ℕ, true, List, [], ◌∷◌, Some, None, refl, sym, ap, ◌∙◌, subst, arith}
use Rattle.omi_word.specs.declared.op.Op.TheVariants as op
use Rattle.omi_script.specs.declared.program.Program.{Program}
use Rattle.omi_model.specs.declared.claim.Claim.TheVariants as claim
use Rattle.omi_model.specs.declared.event.Event.{Event}
use Rattle.omi_model.specs.declared.event.Event.TheVariants as event
use Rattle.omi_model.specs.declared.item.Item.{Item}
use Rattle.omi_model.specs.declared.item.Item.TheVariants as item
use Rattle.omi_model.specs.declared.thread.Thread.{Thread}
use Rattle.omi_model.specs.Changes.{encounter, ahead_of, on_thread, with_list}
use Rattle.omi_model.specs.Lists.{stays, take_item}
use Rattle.omi_numbers.specs.declared.states.TheConstants.{IDLE}
use Rattle.omi_numbers.specs.Words.{state_word}
use Rattle.omi_model.specs.Reached.{Step}
use Rattle.omi_model.specs.Rules as Rules
use Rattle.omi_model.specs.Rules.{effect}
use Rattle.omi_model.specs.State.{State}
use Rattle.omi_model.proofs.Slots.{put_same, some_same}
use Rattle.omi_model.proofs.claims.ClaimLaws.{claims_kept}
use Rattle.omi_layout.specs.declared.field.Field.{Field}
use Rattle.omi_layout.specs.declared.field.Field.TheVariants.{ThreadAssign, ThreadClaim, ThreadLife, ThreadState}
use Rattle.omi_layout.specs.Field.{kind_of, threads}
use Rattle.omi_layout.specs.Memory.{Memory, Rec, replace_at, with_word, with_word_in}
use Rattle.omi_layout.specs.Named.{number}
use Rattle.omi_pc.specs.declared.actor.Actor.{Actor}
use Rattle.omi_pc.specs.declared.counter.Counter.TheVariants as counter
use Rattle.omi_pc.specs.declared.team_counter.WorkerCounter.{WorkerCounter}
use Rattle.omi_pc.specs.declared.team_counter.WorkerCounter.TheVariants as worker
use Rattle.omi_pc.specs.Fits.{FitsCounter, FitsWorker, IsAlone}
use Rattle.omi_rep.specs.declared.outcome.Outcome.TheVariants as outcome
use Rattle.omi_rep.specs.Codes.{thread_told}
use Rattle.omi_rule_words.proofs.StoredCodes.{claim_stored, life_stored, state_stored}
use Rattle.omi_rule_words.specs.Owes.{all_owed, by_worker, owed_at}
use Rattle.omi_rule_words.specs.Threads as Threads
use Rattle.omi_rule_words.specs.Words.{KeepsWords}
use Rattle.omi_rule_words.proofs.ListMoves.{list_moves_keep}
use Rattle.omi_rule_words.proofs.Moves.{moves_keep}
use Rattle.omi_rule_words.proofs.ThreadStores.{thread_stores_keep}
use Rattle.omi_step_words.specs.Moving.{to_worker}
use Rattle.omi_step_words.specs.Placed.{IsPlacedWorker}
use Rattle.omi_step_words.specs.Words.{of_thread}
use Rattle.omi_fork.specs.WorkerSteps.{worker_moved, worker_next, worker_outcome}
use Rattle.omi_rule.specs.Chains.{IsWorkerAhead, StandsAlone, StandsWith, worker_ahead}
use Rattle.omi_rule.specs.Commits.{CommitsAt}
use Rattle.omi_rule.specs.Rows.{KeepsRow, KeepsWorkerRow}
use Rattle.omi_rule.specs.Rule.{KeepsThread}
use Rattle.omi_rule.specs.Steps.{KeepsRule, RecordWord, StepKeeps, left_in}
use Rattle.omi_rule.proofs.OwnWords.{own_thread, store_on, thread_word}
use Rattle.omi_rule.proofs.Assembly.{Before, plain_event_keeps, spares_threads}
use Rattle.omi_rule.proofs.NewMembers.{waiting_step}
use Rattle.omi_rule.proofs.NothingNew.{Makes}
use Rattle.omi_rule.proofs.RowsStay.{Spares}
use Rattle.omi_rule.proofs.Owing.{idle_list, idle_moved, step_of}
use Rattle.omi_rule.specs.Chains.{RunsFunctions}

module _ (p : Program) (w : List ℕ) (m : Memory) (events : List (ℕ × Event)) (s : State) (actors : ℕ → Actor)
    (i : ℕ) (before : Before p w m events s actors i) where
  abbrev a : Actor
  a = actors i

  abbrev o : KeepsThread p w m events s i (actors i)
  o = before.rule.threads i before.known

  module _ (c : WorkerCounter) (at : (actors i).counter ≡ counter.Worker c) where
    pub fits_worker : FitsWorker p (actors i) c
    fits_worker = subst (FitsCounter p (actors i)) at o.fits.counter

    pub row_is : KeepsWorkerRow w m s i c
    row_is = subst (KeepsRow p w m s i (actors i)) at o.row

    pub owes_now : all_owed actors i ≡ by_worker c
    owes_now = ap (owed_at (actors i).context (actors i).gathered.team) at

    module _ (alone : (actors i).stack ≡ []) where
      pub stands_alone : StandsAlone s i (actors i)
      stands_alone = subst (StandsWith p s i (actors i)) alone o.stands

      pub worker_list : (s.threads i).list ≡ worker_ahead s c
      worker_list = subst (λ x. IsWorkerAhead s x (s.threads i).list) at stands_alone.ahead

      pub taken_list : ahead_of s i ≡ worker_ahead s c
      taken_list = idle_list s i stands_alone.current ∙ worker_list

      -- the thread's part afterwards, at another counter of a worker without a task
      pub alone_after : (n : Memory) (later : List (ℕ × Event)) (u : State) (d : WorkerCounter)
          → FitsWorker p (to_worker d (actors i)) d → IsPlacedWorker w d → (u.threads i).current ≡ None
          → (u.threads i).list ≡ worker_ahead u d
          → KeepsWorkerRow w n u i d → KeepsThread p w n later u i (to_worker d (actors i))
      alone_after n later u d fits placed none list row = record {
        thread = o.thread;
        fits = record { thread = o.fits.thread; variables = o.fits.variables; bodies = o.fits.bodies; counter = fits };
        placed = record { bodies = o.placed.bodies; counter = placed };
        stands = subst (StandsWith p u i (to_worker d (actors i))) (sym alone) (record { current = none; ahead = list });
        runs = subst (RunsFunctions u (actors i).context) (sym alone) tt;
        row = row;
        ended = tt;
      }

      -- ---- an event on the own record

      module _ (e : Event) (y : Item) (rest : List Item) (g : Thread → Thread) (f : Field) (word : ℕ)
          (d : WorkerCounter)
          (taken : take_item p (encounter s i) e (worker_ahead s c) ≡ Some (y, rest))
          (gone : stays (encounter s i) e y rest ≡ rest) (legal : Rules.Rule s i e y)
          (effects : (z : State) → effect p z i e y ≡ Some (on_thread z i g)) (makes : Makes e → ⊥)
          (no_fork : (h : ℕ) → y ≡ item.Fork h → ⊥)
          (same_current : (h : Thread) → (g h).current ≡ h.current)
          (same_list : (h : Thread) → (g h).list ≡ h.list)
          (kept : (r : Rec) (h : Thread) → Threads.KeepsThread w i r h → Threads.KeepsThread w i (with_word_in r (number f) 0 word) (g h))
          (apart : number f ≢ number ThreadAssign)
          (kind : kind_of (number f) ≡ threads) where
        abbrev z : State
        z = on_thread s i (λ h. record h { list = rest })

        abbrev u : State
        u = on_thread z i g

        abbrev n : Memory
        n = with_word m i threads 0 (number f) 0 word

        moved : with_list s i (stays (encounter s i) e y rest) ≡ z
        moved = ap (with_list s i) gone ∙ idle_moved s i rest stands_alone.current

        step : Step p s i e u
        step =
            step_of p s i e u y rest before.known
            (ap (take_item p (encounter s i) e) taken_list ∙ taken) legal
            (ap (λ (q : State). effect p q i e y) moved ∙ effects z)

        thread_is : u.threads i ≡ g (record (s.threads i) { list = rest })
        thread_is =
            put_same z.threads i (g (z.threads i))
            ∙ ap g (put_same s.threads i (record (s.threads i) { list = rest }))

        words : KeepsWords w n u (all_owed actors)
        words =
            let first : KeepsWords w m z (all_owed actors) =
            subst (λ (q : State). KeepsWords w m q (all_owed actors))
            (idle_moved s i rest stands_alone.current)
            (list_moves_keep w m s (all_owed actors) i rest before.rule.words before.known) in
            thread_stores_keep w m z (all_owed actors) i (g (z.threads i)) f word first apart
            (kept (m i threads 0) (z.threads i) (first.made i before.known).thread)

        -- the thread goes on at counter d
        pub worker_event : FitsWorker p (to_worker d (actors i)) d → IsPlacedWorker w d
            → ((q : State) → q.environment ≡ s.environment → rest ≡ worker_ahead q d)
            → ((r : Memory) (q : State) → KeepsWorkerRow w r q i d) → by_worker d ≡ by_worker c
            → (x : RecordWord) → x ≡ thread_word i f → CommitsAt w s i e (op.Store (of_thread w (actors i).thread f) word) → KeepsRule p w m events s actors i (op.Store (of_thread w (actors i).thread f) word) (thread_word i f) (to_worker d (actors i), outcome.Event e)
        worker_event fits placed list row owes x is commits =
            plain_event_keeps p w m events s actors i before (op.Store (of_thread w (actors i).thread f) word)
            (thread_word i f) (to_worker d (actors i), outcome.Event e) e u makes refl step commits
            (waiting_step p s i e u step (λ yy there h fork. absurd (no_fork h (ap (λ (q : Item × List Item). q.0) (some_same (ap (take_item p (encounter s i) e) taken_list ∙ taken) there) ∙ fork))) before.rule.waiting)
            (here (moves_keep w n u actors i (to_worker d (actors i)) words (owes ∙ sym owes_now)))
            (λ j other. there (λ (q : Memory). Spares m q s j (actors j)) (spares_threads m s i f word j (actors j) apart))
            (there (λ (q : Memory). KeepsThread p w q (events ++ (i, e) ∷ []) u i (to_worker d (actors i)))
            (alone_after n (events ++ (i, e) ∷ []) u d fits placed (ap (λ (h : Thread). h.current) thread_is ∙ same_current _ ∙ stands_alone.current) (ap (λ (h : Thread). h.list) thread_is ∙ same_list _ ∙ list u refl) (row n u)))
          where
            there : (P : Memory → Type 0) → P n
                → P (left_in m (op.Store (of_thread w (actors i).thread f) word) (thread_word i f))
            there P is = subst (λ k. P (with_word m i k 0 (number f) 0 word)) (sym kind) is

            here : KeepsWords w n u (all_owed (replace_at actors i (to_worker d (actors i))))
                → KeepsWords w (left_in m (op.Store (of_thread w (actors i).thread f) word) (thread_word i f)) u (all_owed (replace_at actors i (to_worker d (actors i))))
            here is =
                there
                (λ (q : Memory). KeepsWords w q u (all_owed (replace_at actors i (to_worker d (actors i))))) is

  -- ---- the events

  pub begins : (actors i).counter ≡ counter.Worker worker.Begin
      → StepKeeps p w m events s actors i (worker_next w (actors i) worker.Begin) (λ old. (worker_moved p w (actors i) worker.Begin old, worker_outcome w (actors i) worker.Begin old))
  begins at =
      let alone : IsAlone (actors i) = fits_worker worker.Begin at in (
        thread_word i ThreadLife,
        store_on p w m events s actors i before ThreadLife 1 refl,
        worker_event worker.Begin at alone event.Begin item.Begin (item.Offer ∷ item.Serve ∷ [])
            (λ h. record h { begun = true }) ThreadLife 1 worker.Offer refl refl (row_is worker.Begin at)
            (λ z. refl) (λ none. none) (λ h is. absurd (cc is)) (λ h. refl) (λ h. refl)
            (λ r h is. life_stored w i r (thread_told h) is true) (λ same. absurd (omega (arith, same))) refl
            alone tt (λ q is. refl) (λ r q. tt) refl (thread_word i ThreadLife) refl (1, ap (λ x. op.Store x 1) (own_thread p w m events s actors i before ThreadLife)),
      )

  pub offers : (actors i).counter ≡ counter.Worker worker.Offer
      → StepKeeps p w m events s actors i (worker_next w (actors i) worker.Offer) (λ old. (worker_moved p w (actors i) worker.Offer old, worker_outcome w (actors i) worker.Offer old))
  offers at =
      let alone : IsAlone (actors i) = fits_worker worker.Offer at in
      let none : (s.threads i).current ≡ None = (stands_alone worker.Offer at alone).current in
      let list : (s.threads i).list ≡ item.Offer ∷ item.Serve ∷ [] = worker_list worker.Offer at alone in (
        thread_word i ThreadClaim,
        store_on p w m events s actors i before ThreadClaim 1 refl,
        worker_event worker.Offer at alone event.Offer item.Offer (item.Serve ∷ [])
            (λ h. record h { claim = claim.Free }) ThreadClaim 1 worker.LoadAssign refl refl
            (record { idle = none; held = λ free. let (waits, nobody) = (claims_kept p events s before.rule.reached i).free free in absurd (cc (sym list ∙ waits.ahead)) })
            (λ z. refl) (λ none. none) (λ h is. absurd (cc is)) (λ h. refl) (λ h. refl)
            (λ r h is. claim_stored w i r (thread_told h) is claim.Free)
            (λ same. absurd (omega (arith, same))) refl
            alone tt (λ q is. refl) (λ r q. tt) refl (thread_word i ThreadClaim) refl (1, ap (λ x. op.Store x 1) (own_thread p w m events s actors i before ThreadClaim)),
      )

  pub idles : (actors i).counter ≡ counter.Worker worker.IdleState
      → StepKeeps p w m events s actors i (worker_next w (actors i) worker.IdleState) (λ old. (worker_moved p w (actors i) worker.IdleState old, worker_outcome w (actors i) worker.IdleState old))
  idles at =
      let alone : IsAlone (actors i) = fits_worker worker.IdleState at in (
        thread_word i ThreadState,
        store_on p w m events s actors i before ThreadState (state_word IDLE 0) refl,
        worker_event worker.IdleState at alone (event.State IDLE 0) (item.State IDLE 0)
            (item.Offer ∷ item.Serve ∷ []) (λ h. record h { state = IDLE; wait = 0 }) ThreadState
            (state_word IDLE 0) worker.Offer refl refl tt (λ z. refl) (λ none. none) (λ h is. absurd (cc is))
            (λ h. refl) (λ h. refl)
            (λ r h is. state_stored w i r (thread_told h) is IDLE 0)
            (λ same. absurd (omega (arith, same))) refl
            alone tt (λ q is. refl) (λ r q. tt) refl (thread_word i ThreadState) refl (state_word IDLE 0, ap (λ x. op.Store x (state_word IDLE 0)) (own_thread p w m events s actors i before ThreadState)),
      )
