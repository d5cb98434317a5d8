-- An event of a thread at a counter of a member: what such steps have in common, and those that leave the thread's context and bodies.
use Rattle.std.proofs.Common.{◌≡◌, ◌≢◌, ℕ, List, [], ◌∷◌, ◌++◌, Some, refl, sym, ap, ◌∙◌, subst, None}
use Rattle.std.specs.Option.{option_and_then}
use Rattle.omi_word.specs.declared.op.Op.{Op}
use Rattle.omi_script.specs.declared.program.Program.{Program}
use Rattle.omi_model.specs.declared.encounter.Encounter.{Encounter}
use Rattle.omi_model.specs.declared.event.Event.{Event}
use Rattle.omi_model.specs.declared.item.Item.{Item}
use Rattle.omi_model.specs.declared.item.Item.TheVariants as item
use Rattle.omi_model.specs.Changes.{ahead_of, on_task, with_list}
use Rattle.omi_model.specs.Lists.{stays, take_item}
use Rattle.omi_model.specs.Reached.{Step}
use Rattle.omi_model.specs.Rules.{Rule, effect, moved, taken_by}
use Rattle.omi_model.specs.State.{State}
use Rattle.omi_model.proofs.Slots.{some_same}
use Rattle.omi_model.proofs.Steps.{relisted}
use Rattle.omi_layout.specs.Memory.{Memory}
use Rattle.omi_pc.specs.declared.actor.Actor.{Actor}
use Rattle.omi_pc.specs.declared.counter.Counter.{Counter}
use Rattle.omi_pc.specs.Fits.{FitsCounter}
use Rattle.omi_rep.specs.declared.outcome.Outcome.{Outcome}
use Rattle.omi_rep.specs.declared.outcome.Outcome.TheVariants as outcome
use Rattle.omi_rule_words.specs.Owes.{all_owed, nothing, owed, owed_at}
use Rattle.omi_rule_words.specs.Words.{KeepsWords}
use Rattle.omi_rule_words.proofs.ListMoves.{list_moves_keep}
use Rattle.omi_rule_words.proofs.Moves.{moves_keep}
use Rattle.omi_step_words.specs.Placed.{IsPlacedCounter}
use Rattle.omi_rule.specs.Ahead.{IsAhead}
use Rattle.omi_rule.specs.Commits.{CommitsAt}
use Rattle.omi_rule.specs.Rows.{KeepsRow}
use Rattle.omi_rule.specs.Rule.{AreNewMembers, HasEnded, KeepsThread}
use Rattle.omi_rule.specs.Steps.{KeepsRule, RecordWord, left_in}
use Rattle.omi_rule.proofs.Assembly.{Before, plain_event_keeps}
use Rattle.omi_rule.proofs.NewMembers.{waiting_step}
use Rattle.omi_rule.proofs.NothingNew.{Makes}
use Rattle.omi_rule.proofs.Own.{ChangesTask}
use Rattle.omi_rule.proofs.OwnTask.{list_moved, own_changes, own_encounter, own_taken, own_stands, relisted_ahead, relisted_alike, relisted_front}
use Rattle.omi_rule.proofs.RowsStay.{Spares}
use Rattle.omi_rule.proofs.barrier.AtCounter.{IsOfMember, at_counter, body, here, own, owes_now, sees, stands, IsEventful, eventful_member, eventful_passes, front_is}
use Rattle.omi_model.specs.LawStays.{Stays}
use Rattle.omi_model.proofs.StaysKept.{stays_step}
use Rattle.omi_rule.proofs.Runs.{stack_runs}
use Rattle.omi_rule.specs.Chains.{IsFront}

-- what a thread at a counter needs in a state in which this is its task's list
pub record IsReadyAt (p : Program) (w : List ℕ) (m : Memory) (later : List (ℕ × Event)) (u : State) (i : ℕ) (at : Encounter) (a : Actor) (x : Counter) (list : List Item) : Type 0 where
  pub fits : FitsCounter p (at_counter x a) x
  pub placed : IsPlacedCounter w (at_counter x a) x
  pub ahead : IsAhead p at a.stack x list
  pub front : IsFront x None
  pub owes : owed (at_counter x a) ≡ nothing
  pub row : KeepsRow p w m u i (at_counter x a) x
  pub ended : HasEnded later i x

module _ (p : Program) (w : List ℕ) (m : Memory) (events : List (ℕ × Event)) (s : State) (actors : ℕ → Actor)
    (i : ℕ) (before : Before p w m events s actors i) (standing : Counter)
    (at : (actors i).counter ≡ standing) (eventful : IsEventful standing) where
  abbrev a : Actor
  a = actors i

  abbrev of_member : IsOfMember standing
  of_member = eventful_member standing eventful

  abbrev At : Encounter
  At = sees p w m events s actors i before standing at of_member

  abbrev list_at : List Item
  list_at = (here p w m events s actors i before standing at of_member).task.list

  -- the state in which the list has moved on
  abbrev pub relisted_state : List Item → State
  relisted_state zs = on_task s a.context.task (relisted zs)

  takes : (e : Event) (y : Item) (zs : List Item) → take_item p At e list_at ≡ Some (y, zs)
      → taken_by p s i e ≡ Some (y, zs)
  takes e y zs taken =
      ap (λ (x : Encounter). take_item p x e (ahead_of s i))
      (own_encounter p s i a (stands p w m events s actors i before standing at of_member))
      ∙ own_taken p s i a (stands p w m events s actors i before standing at of_member) events before.rule.reached
      (eventful_passes standing eventful (here p w m events s actors i before standing at of_member).task.frees (front_is p w m events s actors i before standing at of_member)) At e y zs taken

  -- in whose place these items stand afterwards
  pub steps_to : (e : Event) (y : Item) (behind zs : List Item) (u : State)
      → take_item p At e list_at ≡ Some (y, behind) → Rule s i e y → stays At e y behind ≡ zs
      → effect p (relisted_state zs) i e y ≡ Some u → Step p s i e u
  steps_to e y behind zs u taken rule stay is = record {
    legal = record { known = before.known; item = y; behind = behind; taken = takes e y behind taken; rule = rule };
    after_is =
        ap (option_and_then (moved p s i e)) (takes e y behind taken)
        ∙ ap (λ (x : Encounter). effect p (with_list s i (stays x e y behind)) i e y)
        (own_encounter p s i a (stands p w m events s actors i before standing at of_member))
        ∙ ap (λ (xs : List Item). effect p (with_list s i xs) i e y) stay
        ∙ ap (λ (z : State). effect p z i e y)
        (list_moved p s i a (stands p w m events s actors i before standing at of_member) zs)
        ∙ is;
  }

  pub steps : (e : Event) (y : Item) (zs : List Item) (u : State) → take_item p At e list_at ≡ Some (y, zs)
      → Rule s i e y → stays At e y zs ≡ zs → effect p (relisted_state zs) i e y ≡ Some u → Step p s i e u
  steps e y zs u taken rule stay is = steps_to e y zs zs u taken rule stay is

  -- the words, where a list has moved on
  pub relisted_words : (zs : List Item) → KeepsWords w m (relisted_state zs) (all_owed actors)
  relisted_words zs =
      subst (λ (z : State). KeepsWords w m z (all_owed actors))
      (list_moved p s i a (stands p w m events s actors i before standing at of_member) zs)
      (list_moves_keep w m s (all_owed actors) i zs before.rule.words before.known)

  pub relisted_changes : (zs : List Item) → ChangesTask s (relisted_state zs) i a.context.task
  relisted_changes zs =
      own_changes p s i a (stands p w m events s actors i before standing at of_member) (relisted zs)
      (relisted_state zs) (λ t live. relisted_alike zs t) refl refl refl refl

  pub none_new : (e : Event) (y : Item) (zs : List Item) (u : State) → take_item p At e list_at ≡ Some (y, zs)
      → Step p s i e u → ((f : ℕ) → y ≡ item.Fork f → ⊥) → AreNewMembers p u
  none_new e y zs u taken step none =
      waiting_step p s i e u step
      (λ x is f fork. absurd (none f (sym (ap (λ (q : Item × List Item). q.0) (some_same is (takes e y zs taken))) ∙ fork)))
      before.rule.waiting

  thread_after : (n : Memory) (later : List (ℕ × Event)) (u : State) (x : Counter) (zs : List Item)
      → Stays s u → ChangesTask s u i a.context.task → u.tasks ≡ (relisted_state zs).tasks
      → IsReadyAt p w n later u i At a x zs → KeepsThread p w n later u i (at_counter x a)
  thread_after n later u x zs stay changes tasks ready =
      let o = own p w m events s actors i before standing at of_member in
      let (f, fs, is, task) = body p w m events s actors i before standing at of_member in
      record {
        thread = o.thread;
        fits = record { thread = o.fits.thread; variables = o.fits.variables; bodies = o.fits.bodies; counter = ready.fits };
        placed = record { bodies = o.placed.bodies; counter = ready.placed };
        stands =
            own_stands p s i a
            (stands p w m events s actors i before standing at of_member) events before.rule.reached u changes
            (at_counter x a) f fs is refl (λ k. k)
            (relisted_ahead p s i a (stands p w m events s actors i before standing at of_member) zs u tasks (IsAhead p At a.stack x) ready.ahead)
            (λ t live. subst (IsFront x) (sym (relisted_front p s i a (stands p w m events s actors i before standing at of_member) zs u tasks t live)) ready.front);
        runs = stack_runs p s u i stay a o.stands o.runs;
        row = ready.row;
        ended = ready.ended;
      }

  pub event_leads_to : owed_at a.context a.gathered.team standing ≡ nothing
      → (o : Op) (x : RecordWord) (y : Counter) (out : Outcome) (e : Event) (z : Item) (zs : List Item) (u : State)
      → out ≡ outcome.Event e → (Makes e → ⊥) → ((f : ℕ) → z ≡ item.Fork f → ⊥)
      → take_item p At e list_at ≡ Some (z, zs) → Step p s i e u → CommitsAt w s i e o → KeepsWords w (left_in m o x) u (all_owed actors)
      → ((j : ℕ) → j ≢ i → Spares m (left_in m o x) s j (actors j)) → ChangesTask s u i a.context.task → u.tasks ≡ (relisted_state zs).tasks
      → IsReadyAt p w (left_in m o x) (events ++ (i, e) ∷ []) u i At a y zs → KeepsRule p w m events s actors i o x (at_counter y a, out)
  event_leads_to idle o x y out e z zs u is not none taken step commits words spares changes tasks ready =
      plain_event_keeps p w m events s actors i before o x (at_counter y a, out) e u not is step commits
      (none_new e z zs u taken step none)
      (moves_keep w (left_in m o x) u actors i (at_counter y a) words (ready.owes ∙ sym (owes_now p w m events s actors i before standing at of_member ∙ idle))) spares
      (thread_after (left_in m o x) (events ++ (i, e) ∷ []) u y zs (stays_step p s i e u step) changes tasks ready)
