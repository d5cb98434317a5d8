-- The plain steps by which a thread calls a function, passes a statement over, and returns.
use Rattle.std.proofs.Common.{◌≡◌, ℕ, zero, suc, inl, inr, Bool, true, List, [], ◌∷◌, ◌++◌, drop, Option, Some, refl, sym, ap, ◌∙◌, subst, arith, eq-eqb, ne_eqb, if◌then◌else◌}
use Rattle.omi_script.specs.declared.program.Program.{Program}
use Rattle.omi_script.specs.declared.statement.Stmt.{Stmt}
use Rattle.omi_script.specs.declared.statement.Stmt.TheVariants as stmt
use Rattle.omi_model.proofs.ListLaws.{takes_head}
use Rattle.omi_model.specs.declared.encounter.Encounter.{Encounter}
use Rattle.omi_model.specs.declared.event.Event.{Event}
use Rattle.omi_model.specs.declared.event.Event.TheVariants as event
use Rattle.omi_model.specs.declared.item.Item.{Item}
use Rattle.omi_model.specs.declared.item.Item.TheVariants as item
use Rattle.omi_model.specs.declared.task.Task.{Task}
use Rattle.omi_model.specs.Changes.{encounter_by}
use Rattle.omi_model.specs.Lists.{fits, stays, take_item}
use Rattle.omi_model.specs.Rows.{body_items, call_items}
use Rattle.omi_model.specs.Rules.{Rule, effect}
use Rattle.omi_model.specs.State.{State}
use Rattle.omi_layout.specs.Memory.{Memory}
use Rattle.omi_pc.specs.declared.actor.Actor.{Actor}
use Rattle.omi_pc.specs.declared.context.Context.{Context}
use Rattle.omi_pc.specs.declared.counter.Counter.TheVariants as counter
use Rattle.omi_pc.specs.declared.counter.PlainCounter.{PlainCounter}
use Rattle.omi_pc.specs.declared.counter.PlainCounter.TheVariants as plain
use Rattle.omi_pc.specs.declared.frame.Frame.{Frame}
use Rattle.omi_pc.specs.declared.frame.Opened.{Opened}
use Rattle.omi_pc.specs.declared.frame.Opened.TheVariants as bodies
use Rattle.omi_pc.specs.Fits.{Skips}
use Rattle.omi_pc.specs.Frames.{body_in}
use Rattle.omi_pc.specs.Moves.{returned}
use Rattle.omi_pc.specs.OpenBodies.{AreOpen, IsAt, IsAtEnd, IsAtStart, IsCalled, StandsOn}
use Rattle.omi_pc.specs.Settle.{settled}
use Rattle.omi_pc.specs.Stacks.{function_of}
use Rattle.omi_pc.proofs.Moved.{returned_fits}
use Rattle.omi_pc.proofs.Unmoved.{returned_differs}
use Rattle.omi_pc.proofs.NextCounters.{IsBefore}
use Rattle.omi_plain.specs.PlainSteps.{loading_native, plain_moved, plain_next, plain_outcome}
use Rattle.omi_plain.proofs.StayPlaced.{steps_stay_placed}
use Rattle.omi_rep.specs.declared.outcome.Outcome.TheVariants as outcome
use Rattle.omi_step_words.specs.Placed.{IsPlaced}
use Rattle.omi_rule.specs.Ahead.{ahead, behind_body, called, called_by, passed_over, passing_over, plain_ahead}
use Rattle.omi_rule.specs.Commits.{CommitsAt}
use Rattle.omi_rule.specs.Steps.{StepKeeps}
use Rattle.omi_rule.proofs.Assembly.{Before}
use Rattle.omi_rule.proofs.BodyMoves.{returned_of}
use Rattle.omi_rule.proofs.NothingNew.{Makes}
use Rattle.omi_rule.proofs.OwnTask.{top}
use Rattle.omi_rule.proofs.Settling.{behind_return, in_work_is, returned_ahead, returns}
use Rattle.omi_rule.proofs.plain.Firsts.{IsGrounded, grounds_are_of_bodies, returned_first, settled_first}
use Rattle.omi_rule.proofs.plain.OwnEvents.{at_debug, body, fits_counter}
use Rattle.omi_rule.proofs.plain.Loads.{goes_on, has_task, here, load_keeps, loads_native, native, native_on, on_ground, sees, settled_goes, was_first}

-- an item with what stands behind it
pub item_behind : (y : Item) (xs zs : List Item) → xs ≡ zs → ◌≡◌ {A = Item × List Item} (y, xs) (y, zs)
item_behind y xs zs same = subst (λ (q : List Item). ◌≡◌ {A = Item × List Item} (y, xs) (y, q)) same refl

-- ---- the items

module _ (p : Program) (at : Encounter) (c : Context) (number_is : at.number ≡ c.number) where
  -- a call takes the item of the statement that called, or that of a critical construct
  call_takes : (fs : List Frame) → AreOpen p c fs → IsAtStart IsCalled fs
      → take_item p at (event.Call (function_of fs)) (called p at fs) ≡ Some (item.Call (function_of fs), ahead p at fs)
  call_takes [] all start = absurd start
  call_takes (f ∷ fs) (o, rest) (begins, k) = go f.opened refl k o.stands
    where
      g : ℕ
      g = f.function

      self : fits (event.Call f.function) (item.Call f.function) ≡ true
      self = eq-eqb f.function f.function refl

      ahead_is : (x : Opened) → f.opened ≡ x
          → body_items (body_in p f) (behind_body at x f.function (ahead p at fs)) ≡ ahead p at (f ∷ fs)
      ahead_is x e =
          ap (λ (y : Opened). body_items (body_in p f) (behind_body at y f.function (ahead p at fs))) (sym e)
          ∙ ap (λ n. body_items (drop n (body_in p f)) (behind_body at f.opened f.function (ahead p at fs)))
          (sym begins)

      go : (x : Opened) → f.opened ≡ x → IsCalled x → StandsOn p c f.function fs x
          → take_item p at (event.Call f.function) (called_by p at x f fs) ≡ Some (item.Call f.function, ahead p at (f ∷ fs))
      go bodies.Main e k on = absurd (cc k)
      go bodies.Worker e k on = absurd (cc k)
      go (bodies.Master saved) e k on = absurd (cc k)
      go (bodies.Task w saved) e k on = absurd (cc k)
      go bodies.Call e k (inl is) =
          ap (take_item p at (event.Call f.function))
          (in_work_is p fs (stmt.Call f.function) (λ s. item.Do s ∷ ahead p at fs) is)
          ∙ takes_head p at (event.Call f.function) (item.Do (stmt.Call f.function)) (ahead p at fs)
          (item.Call f.function) (ahead p at (f ∷ fs)) (item_behind _ _ _ (ahead_is bodies.Call e)) self
      go bodies.Call e k (inr is) =
          ap (take_item p at (event.Call f.function))
          (in_work_is p fs (stmt.Only c.number f.function) (λ s. item.Do s ∷ ahead p at fs) is)
          ∙ takes_head p at (event.Call f.function) (item.Do (stmt.Only c.number f.function)) (ahead p at fs)
          (item.Call f.function) (ahead p at (f ∷ fs))
          (ap {B = Item × List Item} (λ (b : Bool). ((if b then item.Call f.function else item.Skip), (if b then call_items p f.function (ahead p at fs) else ahead p at fs))) (eq-eqb at.number c.number number_is)
          ∙ item_behind _ _ _ (ahead_is bodies.Call e)) self
      go (bodies.Repeat zero) e k (n, is, some, few) = absurd (omega (arith, some))
      go (bodies.Repeat (suc left)) e k on =
          takes_head p at (event.Call f.function) (item.Do (stmt.Repeat (suc left) f.function))
          (ahead p at fs) (item.Call f.function) (ahead p at (f ∷ fs))
          (item_behind _ _ _ (ahead_is (bodies.Repeat (suc left)) e)) self
      go (bodies.Critical l) e k on =
          takes_head p at (event.Call f.function) (item.Call f.function) (ahead p at (f ∷ fs))
          (item.Call f.function) (ahead p at (f ∷ fs)) refl self
      go bodies.Taskgroup e k on =
          takes_head p at (event.Call f.function) (item.Call f.function) (ahead p at (f ∷ fs))
          (item.Call f.function) (ahead p at (f ∷ fs)) refl self

  -- a statement that is passed over
  skip_takes : (fs : List Frame) (s : Stmt) → IsAt p fs s → Skips c.number s
      → take_item p at event.Skip (passing_over p at fs) ≡ Some (item.Skip, ahead p at fs)
  skip_takes fs s is skips =
      ap (take_item p at event.Skip) (in_work_is p fs s (λ x. item.Do (passed_over x) ∷ ahead p at fs) is)
      ∙ go s skips
    where
      go : (x : Stmt) → Skips c.number x
          → take_item p at event.Skip (item.Do (passed_over x) ∷ ahead p at fs) ≡ Some (item.Skip, ahead p at fs)
      go (stmt.Repeat n f) k = refl
      go (stmt.Only m f) k =
          takes_head p at event.Skip (item.Do (stmt.Only m f)) (ahead p at fs) item.Skip (ahead p at fs)
          (ap {B = Item × List Item} (λ (b : Bool). ((if b then item.Call f else item.Skip), (if b then call_items p f (ahead p at fs) else ahead p at fs))) (ne_eqb at.number m (λ same. k (sym number_is ∙ same)))) refl
      go _ k = absurd k

module _ (p : Program) (w : List ℕ) (m : Memory) (events : List (ℕ × Event)) (s : State) (actors : ℕ → Actor)
    (i : ℕ) (before : Before p w m events s actors i) where
  module _ (c : PlainCounter) (at_counter : (actors i).counter ≡ counter.Plain c) where
    -- an event without an effect, behind which the next statement is in work
    pub settles_keep : (e : Event) (y : Item) → IsBefore c → IsPlaced w (settled p (actors i)) → (Makes e → ⊥)
        → ((f : ℕ) → y ≡ item.Fork f → ⊥)
        → take_item p (sees p w m events s actors i before c at_counter) e (plain_ahead p (sees p w m events s actors i before c at_counter) (actors i).stack c) ≡ Some (y, ahead p (sees p w m events s actors i before c at_counter) (actors i).stack)
        → Rule s i e y → ((at : Encounter) (zs : List Item) → stays at e y zs ≡ zs) → ((z : State) → effect p z i e y ≡ Some z) → CommitsAt w s i e (loading_native w (actors i))
        → StepKeeps p w m events s actors i (loading_native w (actors i))
        (λ old. (settled p (actors i), outcome.Event e))
    settles_keep e y b placed not none taken rule stay done commits =
        let first = settled_first p (actors i) (was_first p w m events s actors i before c at_counter b) in (
          native p w m events s actors i before,
          native_on p w m events s actors i before,
          load_keeps p w m events s actors i before c at_counter (settled p (actors i)) (outcome.Event e) e y
              (ahead p (sees p w m events s actors i before c at_counter) (actors i).stack) refl not none taken rule
              (stay (sees p w m events s actors i before c at_counter) (ahead p (sees p w m events s actors i before c at_counter) (actors i).stack)) done commits (settled_goes p w m events s actors i before c at_counter b placed) (first.ended (events ++ (i, e) ∷ []) i),
        )

    pub sees_number : (sees p w m events s actors i before c at_counter).number ≡ (actors i).context.number
    sees_number =
        let o = top p s i (actors i) (here p w m events s actors i before c at_counter) in
        ap (λ (x : Option Task). (encounter_by s x).number) o.live ∙ o.number

  -- ---- steps

  pub call_keeps : (actors i).counter ≡ counter.Plain plain.Call
      → StepKeeps p w m events s actors i (plain_next p w (actors i) plain.Call)
      (λ old. (plain_moved p (actors i) plain.Call old, plain_outcome p w (actors i) plain.Call old))
  call_keeps at_counter =
      let own = before.rule.threads i before.known in
      settles_keep plain.Call at_counter (event.Call (function_of (actors i).stack))
      (item.Call (function_of (actors i).stack)) tt
      (steps_stay_placed p w (actors i) plain.Call 0 own.placed at_counter) (λ x. x) (λ f e. absurd (cc e))
      (call_takes p (sees p w m events s actors i before plain.Call at_counter) (actors i).context (sees_number plain.Call at_counter) (actors i).stack own.fits.bodies (fits_counter p w m events s actors i before plain.Call at_counter))
      tt (λ at zs. refl) (λ z. refl) (loads_native p w m events s actors i before)

  pub skip_keeps : (actors i).counter ≡ counter.Plain plain.Skip
      → StepKeeps p w m events s actors i (plain_next p w (actors i) plain.Skip)
      (λ old. (plain_moved p (actors i) plain.Skip old, plain_outcome p w (actors i) plain.Skip old))
  skip_keeps at_counter =
      let own = before.rule.threads i before.known in
      let (x, is, skips) = fits_counter p w m events s actors i before plain.Skip at_counter in
      settles_keep plain.Skip at_counter event.Skip item.Skip tt
      (steps_stay_placed p w (actors i) plain.Skip 0 own.placed at_counter) (λ x. x) (λ f e. absurd (cc e))
      (skip_takes p (sees p w m events s actors i before plain.Skip at_counter) (actors i).context (sees_number plain.Skip at_counter) (actors i).stack x is skips)
      tt (λ at zs. refl) (λ z. refl) (loads_native p w m events s actors i before)

  -- a function has returned
  pub return_keeps : (actors i).counter ≡ counter.Plain plain.Return
      → StepKeeps p w m events s actors i (plain_next p w (actors i) plain.Return)
      (λ old. (plain_moved p (actors i) plain.Return old, plain_outcome p w (actors i) plain.Return old))
  return_keeps at_counter =
      let own = before.rule.threads i before.known in
      let at : Encounter = sees p w m events s actors i before plain.Return at_counter in
      let debug = at_debug p w m events s actors i before plain.Return at_counter in
      let (f, fs, is, o) = body p w m events s actors i before plain.Return at_counter in
      let end : IsAtEnd p IsCalled (f ∷ fs) =
      subst (λ (x : List Frame). IsAtEnd p IsCalled x) is
      (fits_counter p w m events s actors i before plain.Return at_counter) in
      let open_bodies : AreOpen p (actors i).context (f ∷ fs) =
      subst (λ (x : List Frame). AreOpen p (actors i).context x) is own.fits.bodies in
      let rest : List Item = behind_return p at debug f.opened f.function fs in
      let b : Actor = returned p (actors i) in
      let first = returned_first p (actors i) (was_first p w m events s actors i before plain.Return at_counter tt) in (
        native p w m events s actors i before,
        native_on p w m events s actors i before,
        load_keeps p w m events s actors i before plain.Return at_counter b
            (outcome.Event event.Ret) event.Ret item.Ret rest refl (λ x. x) (λ g e. absurd (cc e))
            (ap (take_item p at event.Ret) (ap (λ (x : List Frame). ahead p at x) is ∙ returns p at debug (actors i) f fs end.1 end.0))
            tt refl (λ z. refl) (loads_native p w m events s actors i before)
            (goes_on p w m events s actors i before plain.Return at_counter b rest (returned_differs p (actors i))
            (returned_fits p (actors i) (has_task p w m events s actors i before plain.Return at_counter) (fits_counter p w m events s actors i before plain.Return at_counter))
            (steps_stay_placed p w (actors i) plain.Return 0 own.placed at_counter)
            (returned_of (λ d gs. IsGrounded gs) grounds_are_of_bodies p (actors i) f fs is end.1 (on_ground p w m events s actors i before plain.Return at_counter)) first
            (λ P laws. returned_of P laws p (actors i) f fs is end.1)
            (returned_ahead p at debug (actors i) f fs is end.1 open_bodies.0.stands))
            (first.ended (events ++ (i, event.Ret) ∷ []) i),
      )
