-- An event of a thread at a plain counter, on its own task: what every such step has in common.
use Rattle.std.proofs.Common.{◌≡◌, ◌≢◌, ℕ, List, [], ◌∷◌, ◌++◌, Option, Some, refl, sym, ap, ◌∙◌, subst}
use Rattle.std.specs.Option.{option_and_then}
use Rattle.omi_word.specs.declared.op.Op.{Op}
use Rattle.omi_script.specs.declared.env.Env.{Env}
use Rattle.omi_script.specs.declared.program.Program.{Program}
use Rattle.omi_model.specs.declared.encounter.Encounter.{Encounter}
use Rattle.omi_model.specs.declared.event.Event.{Event}
use Rattle.omi_model.specs.declared.item.Item.{Item}
use Rattle.omi_model.specs.declared.item.Item.TheVariants as item
use Rattle.omi_model.specs.declared.task.Task.{Task}
use Rattle.omi_model.specs.Changes.{encounter_by, ahead_of, on_task, with_list}
use Rattle.omi_model.specs.Lists.{stays, take_item}
use Rattle.omi_model.specs.Opening.{opening}
use Rattle.omi_model.specs.Reached.{Reached, Step}
use Rattle.omi_model.specs.Rules.{Rule, effect, moved, taken_by}
use Rattle.omi_model.specs.State.{State, task_of}
use Rattle.omi_model.proofs.ReachedStates.{over_reached}
use Rattle.omi_model.proofs.Slots.{some_same}
use Rattle.omi_model.proofs.Steps.{relisted}
use Rattle.omi_layout.specs.Memory.{Memory}
use Rattle.omi_pc.specs.declared.actor.Actor.{Actor}
use Rattle.omi_pc.specs.declared.context.Context.{Context}
use Rattle.omi_pc.specs.declared.counter.Counter.{Counter}
use Rattle.omi_pc.specs.declared.counter.Counter.TheVariants as counter
use Rattle.omi_pc.specs.declared.counter.PlainCounter.{PlainCounter}
use Rattle.omi_pc.specs.declared.frame.Frame.{Frame}
use Rattle.omi_pc.specs.declared.team_counter.WorkerCounter.{WorkerCounter}
use Rattle.omi_pc.specs.FitLaws.{DifferInBodies}
use Rattle.omi_pc.specs.Fits.{Fits, FitsCounter, FitsPlain}
use Rattle.omi_rep.specs.declared.outcome.Outcome.{Outcome}
use Rattle.omi_rep.specs.declared.outcome.Outcome.TheVariants as outcome
use Rattle.omi_rule_words.specs.Owes.{all_owed, nothing, owed, owed_at}
use Rattle.omi_rule_words.specs.Words.{KeepsWords}
use Rattle.omi_rule_words.proofs.Moves.{moves_keep}
use Rattle.omi_step_words.specs.Placed.{IsPlaced}
use Rattle.omi_rule.specs.Ahead.{IsAhead, plain_ahead}
use Rattle.omi_rule.specs.Chains.{KeepsBodies, KeepsContext, RunsFunctions, StandsInTask, encounter_of, IsFront, IsPassable}
use Rattle.omi_rule.specs.Commits.{CommitsAt}
use Rattle.omi_rule.specs.Rows.{KeepsRow}
use Rattle.omi_rule.specs.Rule.{AreNewMembers, HasEnded, KeepsThread}
use Rattle.omi_rule.specs.Steps.{KeepsRule, RecordWord, left_in}
use Rattle.omi_rule.proofs.Assembly.{Before, plain_event_keeps}
use Rattle.omi_rule.proofs.NewMembers.{waiting_step}
use Rattle.omi_rule.proofs.NothingNew.{Makes}
use Rattle.omi_rule.proofs.Others.{step_environment}
use Rattle.omi_rule.proofs.Own.{ChangesTask, context_kept}
use Rattle.omi_rule.proofs.OwnTask.{in_task, list_moved, own_ahead, own_encounter, own_taken, own_stands, top, own_front}
use Rattle.omi_rule.proofs.RowsStay.{Spares}
use Rattle.omi_rule.proofs.plain.Firsts.{IsGrounded, some_frame}
use Rattle.omi_model.specs.LawStays.{Stays}
use Rattle.omi_model.proofs.StaysKept.{stays_step}
use Rattle.omi_model.specs.declared.freeable.Freeable.{Freeable}
use Rattle.omi_rule.proofs.Runs.{stack_runs}

-- the environment of a reached state is the program's
pub environment_stays : (p : Program) (events : List (ℕ × Event)) (s : State) → Reached p events s
    → s.environment ≡ p.env
environment_stays p events s reached =
    over_reached p (λ v. v.environment ≡ p.env)
    (λ before u was i e next step h. step_environment p before u was i e next step ∙ h) []
    (opening p) refl events s reached refl

-- where a thread goes on from a plain counter: with this ahead of its task
pub record GoesOn (p : Program) (w : List ℕ) (i : ℕ) (at : Encounter) (a b : Actor) (list : List Item) : Type 0 where
  pub differs : DifferInBodies a b
  pub fits : Fits p b
  pub placed : IsPlaced w b
  pub grounded : IsGrounded b.stack
  pub owes : owed b ≡ nothing
  pub row : (m : Memory) (u : State) → KeepsContext u i a.context → KeepsRow p w m u i b b.counter
  pub bodies : (u : State) → KeepsBodies p u i a.context a.stack → KeepsBodies p u i a.context b.stack
  pub runs : (u : State) → RunsFunctions u a.context a.stack → RunsFunctions u a.context b.stack
  pub ahead : IsAhead p at b.stack b.counter list
  pub front : (o : Option Freeable) → IsPassable o → IsFront b.counter o

module _ (p : Program) (w : List ℕ) (m : Memory) (events : List (ℕ × Event)) (s : State) (actors : ℕ → Actor)
    (i : ℕ) (before : Before p w m events s actors i) (c : PlainCounter)
    (at_counter : (actors i).counter ≡ counter.Plain c) where
  abbrev pub a : Actor
  a = actors i

  abbrev pub own : KeepsThread p w m events s i (actors i)
  own = before.rule.threads i before.known

  busy : (d : WorkerCounter) → a.counter ≡ counter.Worker d → ⊥
  busy d e = cc (sym at_counter, e)

  -- the thread stands in its task
  pub body : (f : Frame) × (fs : List Frame) × (a.stack ≡ f ∷ fs) × StandsInTask p s i a
  body = in_task p s i a busy own.stands

  abbrev pub stands : StandsInTask p s i (actors i)
  stands = body.3

  abbrev pub at : Encounter
  at = encounter_of s a.context

  pub fits_counter : FitsPlain p a c
  fits_counter = subst (λ (d : Counter). FitsCounter p a d) at_counter own.fits.counter

  pub list_is : (top p s i a stands).task.list ≡ plain_ahead p at a.stack c
  list_is =
      subst (λ (d : Counter). IsAhead p at a.stack d (top p s i a stands).task.list) at_counter
      (own_ahead p s i a stands)

  pub at_debug : at.debug ≡ p.env.debug
  at_debug =
      ap (λ (o : Option Task). (encounter_by s o).debug) (top p s i a stands).live
      ∙ ap (λ (e : Env). e.debug) (environment_stays p events s before.rule.reached)

  pub owes_nothing : owed a ≡ nothing
  owes_nothing = ap (λ (d : Counter). owed_at a.context a.gathered.team d) at_counter

  -- ---- the event is legal

  -- the list that the event takes its item from
  pub takes : (e : Event) (y : Item) (zs : List Item)
      → take_item p at e (plain_ahead p at a.stack c) ≡ Some (y, zs) → taken_by p s i e ≡ Some (y, zs)
  takes e y zs taken =
      ap (λ (x : Encounter). take_item p x e (ahead_of s i)) (own_encounter p s i a stands)
      ∙ own_taken p s i a stands events before.rule.reached
      (subst (λ (d : Counter). IsFront d (top p s i a stands).task.frees) at_counter (own_front p s i a stands)) at e y zs
      (ap (λ (xs : List Item). take_item p at e xs) list_is ∙ taken)

  pub steps : (e : Event) (y : Item) (zs : List Item) (u : State)
      → take_item p at e (plain_ahead p at a.stack c) ≡ Some (y, zs) → Rule s i e y → stays at e y zs ≡ zs
      → effect p (on_task s a.context.task (relisted zs)) i e y ≡ Some u → Step p s i e u
  steps e y zs u taken rule stay is = record {
    legal = record { known = before.known; item = y; behind = zs; taken = takes e y zs taken; rule = rule };
    after_is =
        ap (option_and_then (moved p s i e)) (takes e y zs taken)
        ∙ ap (λ (x : Encounter). effect p (with_list s i (stays x e y zs)) i e y)
        (own_encounter p s i a stands)
        ∙ ap (λ (xs : List Item). effect p (with_list s i xs) i e y) stay
        ∙ ap (λ (z : State). effect p z i e y) (list_moved p s i a stands zs)
        ∙ is;
  }

  -- a task that waits for its thread is not made here
  pub none_new : (e : Event) (y : Item) (zs : List Item) (u : State)
      → take_item p at e (plain_ahead p at a.stack c) ≡ Some (y, zs) → Step p s i e u
      → ((f : ℕ) → y ≡ item.Fork f → ⊥) → AreNewMembers p u
  none_new e y zs u taken step none =
      waiting_step p s i e u step
      (λ x is f fork. absurd (none f (sym (ap (λ (q : Item × List Item). q.0) (some_same is (takes e y zs taken))) ∙ fork)))
      before.rule.waiting

  -- ---- the thread afterwards

  pub own_after : (n : Memory) (later : List (ℕ × Event)) (u : State) (b : Actor) (zs : List Item) → Stays s u
      → ChangesTask s u i a.context.task → ((t : Task) → task_of u a.context.task ≡ Some t → (t.list ≡ zs) × IsPassable t.frees)
      → GoesOn p w i at a b zs → HasEnded later i b.counter → KeepsThread p w n later u i b
  own_after n later u b zs stay changes list goes ended =
      let (f, fs, is_open) = some_frame b.stack goes.grounded in
      record {
        thread = goes.differs.thread ∙ own.thread;
        fits = goes.fits;
        placed = goes.placed;
        stands =
            own_stands p s i a stands events before.rule.reached u changes b f fs is_open goes.differs.context
            (λ o. subst (λ (d : Context). KeepsBodies p u i d b.stack) (sym goes.differs.context) (goes.bodies u o))
            (λ t live. subst (IsAhead p at b.stack b.counter) (sym (list t live).0) goes.ahead)
            (λ t live. goes.front t.frees (list t live).1);
        runs = subst (λ (d : Context). RunsFunctions u d b.stack) (sym goes.differs.context) (goes.runs u (stack_runs p s u i stay a own.stands own.runs));
        row = goes.row n u (context_kept p s u i a.context.task changes a.context (top p s i a stands));
        ended = ended;
      }

  -- ---- the step

  pub own_event : (o : Op) (x : RecordWord) (b : Actor) (out : Outcome) (e : Event) (y : Item) (zs : List Item) (u : State)
      → out ≡ outcome.Event e → (Makes e → ⊥) → ((f : ℕ) → y ≡ item.Fork f → ⊥)
      → take_item p at e (plain_ahead p at a.stack c) ≡ Some (y, zs) → Step p s i e u → CommitsAt w s i e o → KeepsWords w (left_in m o x) u (all_owed actors)
      → ((j : ℕ) → j ≢ i → Spares m (left_in m o x) s j (actors j)) → ChangesTask s u i a.context.task → ((t : Task) → task_of u a.context.task ≡ Some t → (t.list ≡ zs) × IsPassable t.frees)
      → GoesOn p w i at a b zs → HasEnded (events ++ (i, e) ∷ []) i b.counter → KeepsRule p w m events s actors i o x (b, out)
  own_event o x b out e y zs u is not none taken step commits words spares changes list goes ended =
      plain_event_keeps p w m events s actors i before o x (b, out) e u not is step commits
      (none_new e y zs u taken step none)
      (moves_keep w (left_in m o x) u actors i b words (goes.owes ∙ sym owes_nothing)) spares
      (own_after (left_in m o x) (events ++ (i, e) ∷ []) u b zs (stays_step p s i e u step) changes list goes ended)
