-- The plain steps on locks: one is taken where no thread holds it, and given back by the thread that does.
use Rattle.std.proofs.Common.{◌≡◌, ◌≤◌, ◌+◌, ◌==◌, ℕ, zero, suc, ◌⊎◌, inl, inr, Bool, true, false, List, [], ◌∷◌, ◌++◌, Option, Some, None, refl, sym, ap, ◌∙◌, subst, arith, eq-eqb, eqb-true, nat_lt, ltb-true, if◌then◌else◌}
use Rattle.std.proofs.lemmas.Bool.{false≢true}
use Rattle.omi_word.specs.declared.op.Op.{Op}
use Rattle.omi_word.specs.declared.op.Op.TheVariants as op
use Rattle.omi_script.specs.declared.program.Program.{Program}
use Rattle.omi_script.specs.declared.statement.Stmt.{Stmt}
use Rattle.omi_script.specs.declared.statement.Stmt.TheVariants as stmt
use Rattle.omi_script.specs.declared.limits.TheConstants.{MAX_LOCK}
use Rattle.omi_script.proofs.RuleLemmas.{Rules-from_accepted}
use Rattle.omi_model.proofs.ListLaws.{takes_head}
use Rattle.omi_model.specs.declared.encounter.Encounter.{Encounter}
use Rattle.omi_model.specs.declared.event.Event.{Event}
use Rattle.omi_model.specs.declared.event.Event.TheVariants as event
use Rattle.omi_model.specs.declared.id.Id.{Id}
use Rattle.omi_model.specs.declared.id.Tid.{Tid}
use Rattle.omi_model.specs.declared.item.Item.{Item}
use Rattle.omi_model.specs.declared.item.Item.TheVariants as item
use Rattle.omi_model.specs.declared.task.Task.{Task}
use Rattle.omi_model.specs.LawLocks.{IsHeldBy, gives_back}
use Rattle.omi_model.specs.Lists.{stays, take_item}
use Rattle.omi_model.specs.Put.{put}
use Rattle.omi_model.specs.Rows as Rows
use Rattle.omi_model.specs.Rules.{Rule, effect}
use Rattle.omi_model.specs.State.{State, task_of}
use Rattle.omi_model.proofs.LocksHeld.{locks_held}
use Rattle.omi_model.proofs.Slots.{same_or_not, some_same}
use Rattle.omi_model.proofs.Steps.{relisted}
use Rattle.omi_layout.specs.declared.field.Field.{Field}
use Rattle.omi_layout.specs.declared.field.Field.TheVariants.{RuntimeLocks}
use Rattle.omi_layout.specs.Field.{runtime}
use Rattle.omi_layout.specs.Memory.{IsRecordWord, Memory, Rec, with_word, with_word_in}
use Rattle.omi_layout.specs.Named.{number}
use Rattle.omi_layout.specs.Table.{width}
use Rattle.omi_layout.proofs.Numbers.{numbered_field}
use Rattle.omi_layout.proofs.Puts.{word_back}
use Rattle.omi_pc.specs.declared.actor.Actor.{Actor}
use Rattle.omi_pc.specs.declared.counter.Counter.TheVariants as counter
use Rattle.omi_pc.specs.declared.counter.PlainCounter.{PlainCounter}
use Rattle.omi_pc.specs.declared.counter.PlainCounter.TheVariants as plain
use Rattle.omi_pc.specs.declared.frame.Frame.{Frame}
use Rattle.omi_pc.specs.Fits.{FitsPlain, IsAtSome, IsCritical}
use Rattle.omi_pc.specs.Frames.{body_in, statement_before, statement_of}
use Rattle.omi_pc.specs.Moves.{back_to_work}
use Rattle.omi_pc.specs.OpenBodies.{IsAt}
use Rattle.omi_pc.specs.Settle.{settled}
use Rattle.omi_pc.proofs.Moved.{working_fits}
use Rattle.omi_pc.proofs.Unmoved.{working_differs}
use Rattle.omi_plain.specs.PlainSteps.{of_lock, plain_moved, plain_next, plain_outcome}
use Rattle.omi_plain.specs.Statements.{lock_in}
use Rattle.omi_plain.proofs.Locks.{lock_in_range}
use Rattle.omi_plain.proofs.StayPlaced.{steps_stay_placed}
use Rattle.omi_rep.specs.declared.outcome.Outcome.{Outcome}
use Rattle.omi_rep.specs.declared.outcome.Outcome.TheVariants as outcome
use Rattle.omi_rule_words.specs.Owes.{all_owed}
use Rattle.omi_rule_words.specs.TaskKinds.{with_runtime}
use Rattle.omi_rep.specs.Codes.{lock_word, runtime_told}
use Rattle.omi_rep.proofs.Codes.{lock_code, same_word}
use Rattle.omi_rule_words.specs.Threads.{KeepsRuntime}
use Rattle.omi_rule_words.specs.Words.{KeepsWords}
use Rattle.omi_rule_words.proofs.RuntimeStores.{runtime_stores_keep}
use Rattle.omi_rule.specs.Ahead as Ahead
use Rattle.omi_rule.specs.Ahead.{IsAhead, ahead, leaving, locking_in, lock_of, plain_ahead}
use Rattle.omi_rule.specs.Commits.{CommitsAt}
use Rattle.omi_rule.specs.Rule.{HasEnded}
use Rattle.omi_rule.specs.Steps.{KeepsRule, RecordWord, StepKeeps, found_in, left_in}
use Rattle.omi_rule.specs.Waits.{locks_next}
use Rattle.omi_rule.specs.Waits.Waits.{ForLock}
use Rattle.omi_rule.proofs.Assembly.{Before, spares_runtime, waits_stay}
use Rattle.omi_rule.proofs.BodyMoves.{working_of}
use Rattle.omi_rule.proofs.NothingNew.{Makes}
use Rattle.omi_rule.proofs.OwnTask.{own_changes, relisted_both, relisted_alike}
use Rattle.omi_rule.proofs.RowsStay.{Spares}
use Rattle.omi_rule.proofs.Settling.{in_work_is, working_ahead}
use Rattle.omi_rule.proofs.plain.Firsts.{IsGrounded, grounds_are_of_bodies, settled_first, working_first}
use Rattle.omi_rule.proofs.plain.OwnEvents.{GoesOn, at_debug, body, fits_counter, list_is, own_event, steps}
use Rattle.omi_rule.proofs.plain.Loads.{goes_on, has_task, here, on_ground, sees, settled_goes, was_first}
use Rattle.omi_rule.proofs.plain.TaskWords.{middle, middle_words, now_current, own_task}

-- ---- the runtime record

-- the word of a lock is that of its holder
lock_kept : (w : List ℕ) (r : Rec) (s : State) (l word : ℕ) (holder : Option ℕ) → word ≡ lock_word holder
    → KeepsRuntime w r s
    → KeepsRuntime w (with_word_in r (number RuntimeLocks) l word)
    (with_runtime s s.max_active (put s.locks l holder))
lock_kept w r s l word holder is o RuntimeLocks j x told =
    go (nat_lt j (width w (number RuntimeLocks))) refl (j == l) told
  where
    go : (low : Bool) → nat_lt j (width w (number RuntimeLocks)) ≡ low → (b : Bool)
        → (if low then Some (lock_word (if b then holder else s.locks j)) else None) ≡ Some x
        → (if b then word else r (number RuntimeLocks) j) ≡ x
    go true within true some = is ∙ same_word _ _ some
    go true within false some =
        o RuntimeLocks j _
        (lock_code w (runtime_told s) j (ltb-true j (width w (number RuntimeLocks)) within))
        ∙ same_word _ _ some
    go false past b none = absurd (cc)
lock_kept w r s l word holder is o f at x told = o f at x told

-- nobody holds a lock whose word is 0
nobody : (o : Option ℕ) → lock_word o ≡ 0 → o ≡ None
nobody None e = refl
nobody (Some j) e = absurd (omega (arith, e))

module _ (p : Program) (w : List ℕ) (m : Memory) (events : List (ℕ × Event)) (s : State) (actors : ℕ → Actor)
    (i : ℕ) (before : Before p w m events s actors i) (c : PlainCounter)
    (at_counter : (actors i).counter ≡ counter.Plain c) where
  -- an event that stores a word of the runtime record
  pub runtime_event : (zs : List Item) (o : Op) (f : Field) (place word max_active : ℕ) (locks : ℕ → Option ℕ)
      → left_in m o (record { creator = 0; slot = 0; field = f; place = place }) ≡ with_word m 0 runtime 0 (number f) place word
      → KeepsRuntime w (with_word_in (m 0 runtime 0) (number f) place word)
      (with_runtime (middle p w m events s actors i before c at_counter zs) max_active locks)
      → (b : Actor) (out : Outcome) (e : Event) (y : Item) → out ≡ outcome.Event e → (Makes e → ⊥) → ((n : ℕ) → y ≡ item.Fork n → ⊥)
      → take_item p (sees p w m events s actors i before c at_counter) e (plain_ahead p (sees p w m events s actors i before c at_counter) (actors i).stack c) ≡ Some (y, zs)
      → Rule s i e y → stays (sees p w m events s actors i before c at_counter) e y zs ≡ zs
      → effect p (middle p w m events s actors i before c at_counter zs) i e y ≡ Some (with_runtime (middle p w m events s actors i before c at_counter zs) max_active locks)
      → CommitsAt w s i e o → GoesOn p w i (sees p w m events s actors i before c at_counter) (actors i) b zs → HasEnded (events ++ (i, e) ∷ []) i b.counter
      → KeepsRule p w m events s actors i o (record { creator = 0; slot = 0; field = f; place = place })
      (b, out)
  runtime_event zs o f place word max_active locks stored runtime_is b out e y is not none taken rule stay done commits goes ended =
      let z : State = middle p w m events s actors i before c at_counter zs in
      let u : State = with_runtime z max_active locks in
      let x : RecordWord = record { creator = 0; slot = 0; field = f; place = place } in
      let stand = here p w m events s actors i before c at_counter in
      own_event p w m events s actors i before c at_counter o x b out e y zs u is not none taken
      (steps p w m events s actors i before c at_counter e y zs u taken rule stay done) commits
      (subst (λ (n : Memory). KeepsWords w n u (all_owed actors)) (sym stored)
      (runtime_stores_keep w m z (all_owed actors) max_active locks f place word (middle_words p w m events s actors i before c at_counter zs) runtime_is))
      (λ j other. subst (λ (n : Memory). Spares m n s j (actors j)) (sym stored) (spares_runtime m s f place word j (actors j)))
      (own_changes p s i (actors i) stand (relisted zs) u (λ t live. relisted_alike zs t) refl refl refl refl)
      (relisted_both p s i (actors i) stand zs u refl) goes ended

  -- ---- the lock of the construct in work

  abbrev pub lock : ℕ
  lock = lock_in (statement_of p (actors i).stack)

  critical_is : (x : Stmt) → IsCritical x → (l : ℕ) × (f : ℕ) × (x ≡ stmt.Critical l f)
  critical_is (stmt.Critical l f) is = (l, f, refl)
  critical_is _ is = absurd is

  pub at_critical : IsAtSome p (actors i) IsCritical
      → (f : ℕ) × IsAt p (actors i).stack (stmt.Critical lock f)
  at_critical (x, is, critical) =
      let (l, f, same) = critical_is x critical in
      let there : IsAt p (actors i).stack (stmt.Critical l f) = is ∙ ap Some same in
      (f, subst (λ n. IsAt p (actors i).stack (stmt.Critical n f)) (sym (ap lock_in there)) there)

  abbrev pub lock_at : RecordWord
  lock_at = record { creator = 0; slot = 0; field = RuntimeLocks; place = lock }

  pub lock_there : IsAtSome p (actors i) IsCritical → IsRecordWord w 0 0 (number RuntimeLocks) lock
  lock_there critical =
      let (f, is) = at_critical critical in
      let few : lock ≤ MAX_LOCK = lock_in_range p (actors i).stack lock f (Rules-from_accepted p) is in
      record { field = numbered_field RuntimeLocks; record_slot = record { made_by = omega arith; within = omega arith }; within = omega (arith, few) }

module _ (p : Program) (w : List ℕ) (m : Memory) (events : List (ℕ × Event)) (s : State) (actors : ℕ → Actor)
    (i : ℕ) (before : Before p w m events s actors i) where
  abbrev a : Actor
  a = actors i

  -- ---- unlock

  -- a task that is about to give a lock back holds it
  holds : (t : Task) (l : ℕ) (xs : List Item) → task_of s a.context.task ≡ Some t → t.thread ≡ i
      → t.list ≡ item.Unlock l ∷ xs → s.locks l ≡ Some i
  holds t l xs live thread list = go held.0 held.1
    where
      held : (holder : Option Tid) × IsHeldBy s l holder
      held = locks_held p events s before.rule.reached l

      gives_none : gives_back l t.list 0 ≡ true → ⊥
      gives_none is =
          false≢true
          (sym (ap (λ (ys : List Item). gives_back l ys 0) list ∙ ap (λ (b : Bool). if b then false else gives_back l xs 0) (eq-eqb l l refl)) ∙ is)

      go : (holder : Option Tid) → IsHeldBy s l holder → s.locks l ≡ Some i
      go None o = absurd (gives_none (o.others a.context.task t live (λ e. cc e)))
      go (Some n) o = by (same_or_not n.0 a.context.task.0) o.thread
        where
          by : (n.0 ≡ a.context.task.0) ⊎ (n.0 ≡ a.context.task.0 → ⊥)
              → (u : Task) × (task_of s n ≡ Some u) × (s.locks l ≡ Some u.thread) × (gives_back l u.list 1 ≡ true)
              → s.locks l ≡ Some i
          by (inl same) (u, found, is, gives) =
              let both : u ≡ t =
              some_same (subst (λ (d : Id). task_of s (record { 0 = d }) ≡ Some u) same found) live in
              is ∙ ap (λ (x : Task). Some x.thread) both ∙ ap Some thread
          by (inr ne) o2 =
              absurd
              (gives_none (o.others a.context.task t live (λ e. ne (ap (λ (d : Tid). d.0) (some_same refl e)))))

  module _ (at_counter : (actors i).counter ≡ counter.Plain plain.Unlock) where
    abbrev at : Encounter
    at = sees p w m events s actors i before plain.Unlock at_counter

    abbrev l : ℕ
    l = lock p w m events s actors i before plain.Unlock at_counter

    unlock_ahead : plain_ahead p at a.stack plain.Unlock ≡ item.Unlock l ∷ ahead p at a.stack
    unlock_ahead =
        let (f, is) =
        at_critical p w m events s actors i before plain.Unlock at_counter
        (fits_counter p w m events s actors i before plain.Unlock at_counter) in
        in_work_is p a.stack (stmt.Critical l f) (λ x. item.Unlock (lock_of x) ∷ ahead p at a.stack) is

    pub unlock_keeps : StepKeeps p w m events s actors i (plain_next p w (actors i) plain.Unlock) (λ old. (plain_moved p (actors i) plain.Unlock old, plain_outcome p w (actors i) plain.Unlock old))
    unlock_keeps =
        let own = before.rule.threads i before.known in
        let o = own_task p w m events s actors i before plain.Unlock at_counter in
        let zs : List Item = ahead p at a.stack in
        let z : State = middle p w m events s actors i before plain.Unlock at_counter zs in
        let first = settled_first p a (was_first p w m events s actors i before plain.Unlock at_counter tt) in (
          lock_at p w m events s actors i before plain.Unlock at_counter,
          record { there = lock_there p w m events s actors i before plain.Unlock at_counter (fits_counter p w m events s actors i before plain.Unlock at_counter); address = refl },
          runtime_event p w m events s actors i before plain.Unlock at_counter zs
              (op.Store (of_lock w l) 0) RuntimeLocks l 0 z.max_active (put z.locks l None) refl
              (lock_kept w (m 0 runtime 0) z l 0 None refl (middle_words p w m events s actors i before plain.Unlock at_counter zs).runtime_record)
              (settled p a) (outcome.Event (event.Unlock l)) (event.Unlock l) (item.Unlock l) refl (λ q. q)
              (λ n e. absurd (cc e))
              (ap (take_item p at (event.Unlock l)) unlock_ahead ∙ takes_head p at (event.Unlock l) (item.Unlock l) zs (item.Unlock l) zs refl (eq-eqb l l refl))
              (holds o.task l zs o.live o.thread (list_is p w m events s actors i before plain.Unlock at_counter ∙ unlock_ahead)) refl refl refl
              (settled_goes p w m events s actors i before plain.Unlock at_counter tt (steps_stay_placed p w a plain.Unlock 0 own.placed at_counter))
              (first.ended (events ++ (i, event.Unlock l) ∷ []) i),
        )

  -- ---- lock

  -- a statement is in work, so the task leaves the runtime
  worked_leaves : (at : Encounter) (fs : List Frame) (x : Stmt) → IsAt p fs x
      → Ahead.worked p at fs ≡ leaving p at fs
  worked_leaves at [] x is = absurd (cc is)
  worked_leaves at (f ∷ fs) x is = go f.next is
    where
      go : (n : ℕ) → statement_before (body_in p f) n ≡ Some x
          → Ahead.working_at p at n (f ∷ fs) ≡ leaving p at (f ∷ fs)
      go zero e = absurd (cc e)
      go (suc n) e = refl

  module _ (at_counter : (actors i).counter ≡ counter.Plain plain.Lock) where
    abbrev sees_here : Encounter
    sees_here = sees p w m events s actors i before plain.Lock at_counter

    abbrev taken : ℕ
    taken = lock p w m events s actors i before plain.Lock at_counter

    abbrev behind_lock : List Item
    behind_lock = Rows.working sees_here (leaving p sees_here a.stack)

    abbrev exchange : Op
    exchange = op.Cas (of_lock w taken) 0 (a.thread + 1)

    abbrev at_lock : RecordWord
    at_lock = lock_at p w m events s actors i before plain.Lock at_counter

    critical : IsAtSome p a IsCritical
    critical = fits_counter p w m events s actors i before plain.Lock at_counter

    lock_ahead : plain_ahead p sees_here a.stack plain.Lock ≡ item.Lock taken ∷ behind_lock
    lock_ahead =
        let (f, is) = at_critical p w m events s actors i before plain.Lock at_counter critical in
        in_work_is p a.stack (stmt.Critical taken f) (λ x. locking_in p sees_here a.stack x) is

    works_again : FitsPlain p a plain.WorkState
    works_again =
        let (f, is) = at_critical p w m events s actors i before plain.Lock at_counter critical in
        inr (stmt.Critical taken f, is, tt)

    lock_goes : GoesOn p w i sees_here a (back_to_work p a) behind_lock
    lock_goes =
        let own = before.rule.threads i before.known in
        let (f, is) = at_critical p w m events s actors i before plain.Lock at_counter critical in
        let (g, gs, stack, rest) = body p w m events s actors i before plain.Lock at_counter in
        let debug = at_debug p w m events s actors i before plain.Lock at_counter in
        goes_on p w m events s actors i before plain.Lock at_counter (back_to_work p a) behind_lock
        (working_differs p a)
        (working_fits p a (has_task p w m events s actors i before plain.Lock at_counter) works_again)
        (steps_stay_placed p w a plain.Lock 0 own.placed at_counter)
        (working_of (λ d fs. IsGrounded fs) grounds_are_of_bodies p a (on_ground p w m events s actors i before plain.Lock at_counter))
        (working_first p a (was_first p w m events s actors i before plain.Lock at_counter tt))
        (λ P laws. working_of P laws p a)
        (subst (λ (xs : List Item). IsAhead p sees_here (back_to_work p a).stack (back_to_work p a).counter (Rows.working sees_here xs)) (worked_leaves sees_here a.stack (stmt.Critical taken f) is)
        (working_ahead p sees_here debug a g gs stack))

    -- the word of the lock
    abbrev found : ℕ
    found = found_in m at_lock

    holder_is : found ≡ lock_word (s.locks taken)
    holder_is =
        let there = lock_there p w m events s actors i before plain.Lock at_counter critical in
        before.rule.words.runtime_record RuntimeLocks taken _
        (lock_code w (runtime_told s) taken there.within)

    -- nobody holds it
    lock_taken : found ≡ 0
        → KeepsRule p w m events s actors i exchange at_lock (back_to_work p a, outcome.Event (event.Lock taken))
    lock_taken free =
        let own = before.rule.threads i before.known in
        let z : State = middle p w m events s actors i before plain.Lock at_counter behind_lock in
        let first = working_first p a (was_first p w m events s actors i before plain.Lock at_counter tt) in
        runtime_event p w m events s actors i before plain.Lock at_counter behind_lock exchange RuntimeLocks taken
        (a.thread + 1) z.max_active (put z.locks taken (Some i))
        (ap (λ (b : Bool). with_word m 0 runtime 0 (number RuntimeLocks) taken (if b then a.thread + 1 else found)) (eq-eqb found 0 free))
        (lock_kept w (m 0 runtime 0) z taken (a.thread + 1) (Some i) (ap (λ n. n + 1) own.thread) (middle_words p w m events s actors i before plain.Lock at_counter behind_lock).runtime_record)
        (back_to_work p a) (outcome.Event (event.Lock taken)) (event.Lock taken) (item.Lock taken) refl
        (λ q. q) (λ n e. absurd (cc e))
        (ap (take_item p sees_here (event.Lock taken)) lock_ahead ∙ takes_head p sees_here (event.Lock taken) (item.Lock taken) behind_lock (item.Lock taken) behind_lock refl (eq-eqb taken taken refl))
        (nobody (s.locks taken) (sym holder_is ∙ free)) refl refl
        (ap (λ n. op.Cas (of_lock w taken) 0 (n + 1)) own.thread) lock_goes
        (first.ended (events ++ (i, event.Lock taken) ∷ []) i)

    -- a thread does: the same step is made again
    lock_waits : found == 0 ≡ false
        → KeepsRule p w m events s actors i exchange at_lock (a, outcome.NotReady (of_lock w taken) found)
    lock_waits held =
        let own = before.rule.threads i before.known in
        let o = own_task p w m events s actors i before plain.Lock at_counter in
        let same : left_in m exchange at_lock ≡ m =
        ap
        (λ (b : Bool). with_word m 0 runtime 0 (number RuntimeLocks) taken (if b then a.thread + 1 else found)) held
        ∙ word_back m 0 runtime 0 (number RuntimeLocks) taken in
        let next : locks_next taken o.task.list =
        subst (locks_next taken)
        (sym (list_is p w m events s actors i before plain.Lock at_counter ∙ lock_ahead)) refl in
        waits_stay p w m events s actors i before exchange at_lock a same refl own (of_lock w taken)
        (ForLock taken (a.context.task, o.task, now_current p w m events s actors i before plain.Lock at_counter, next) refl (λ e. false≢true (sym held ∙ eq-eqb found 0 e))) tt refl

    pub lock_keeps : StepKeeps p w m events s actors i (plain_next p w (actors i) plain.Lock) (λ old. (plain_moved p (actors i) plain.Lock old, plain_outcome p w (actors i) plain.Lock old))
    lock_keeps = (
      at_lock,
      record { there = lock_there p w m events s actors i before plain.Lock at_counter critical; address = refl },
      go (found == 0) refl,
    )
      where
        go : (b : Bool) → found == 0 ≡ b
            → KeepsRule p w m events s actors i exchange at_lock ((if b then back_to_work p a else a), (if b then outcome.Event (event.Lock taken) else outcome.NotReady (of_lock w taken) found))
        go true e = lock_taken (eqb-true found 0 e)
        go false e = lock_waits e
