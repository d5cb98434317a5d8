-- An event of a thread within a parallel construct: the next item of its task is taken, and the same bodies stay open.
use Rattle.std.proofs.Common.{◌≡◌, ◌≢◌, ℕ, List, length, Some, refl, sym, ap, ◌∙◌, subst}
use Rattle.std.specs.Option.{option_and_then}
use Rattle.omi_word.specs.declared.op.Op.{Op}
use Rattle.omi_script.specs.declared.program.Program.{Program}
use Rattle.omi_model.specs.declared.encounter.Encounter.{Encounter}
use Rattle.omi_model.specs.declared.event.Event.{Event}
use Rattle.omi_model.specs.declared.item.Item.{Item}
use Rattle.omi_model.specs.declared.item.Item.TheVariants as item
use Rattle.omi_model.specs.Changes.{ahead_of, on_task, with_list}
use Rattle.omi_model.specs.Lists.{stays, take_item}
use Rattle.omi_model.specs.Put.{on}
use Rattle.omi_model.specs.Reached.{Step}
use Rattle.omi_model.specs.Rules.{Rule, effect, moved, taken_by}
use Rattle.omi_model.specs.State.{State}
use Rattle.omi_model.proofs.Slots.{some_same}
use Rattle.omi_model.proofs.Steps.{relisted}
use Rattle.omi_layout.specs.Memory.{Memory}
use Rattle.omi_pc.specs.declared.actor.Actor.{Actor}
use Rattle.omi_pc.specs.declared.counter.Counter.{Counter}
use Rattle.omi_pc.specs.declared.counter.Counter.TheVariants as counter
use Rattle.omi_pc.specs.declared.gathered.Gathered.{Gathered}
use Rattle.omi_pc.specs.declared.limits.TheConstants.{VARIABLE_WORDS}
use Rattle.omi_pc.specs.declared.team_counter.TeamCounter.{TeamCounter}
use Rattle.omi_pc.specs.Fits.{FitsTeam}
use Rattle.omi_rep.specs.declared.outcome.Outcome.TheVariants as outcome
use Rattle.omi_rule_words.specs.Owes.{all_owed, owed}
use Rattle.omi_rule_words.specs.Words.{KeepsWords}
use Rattle.omi_rule_words.proofs.ListMoves.{list_moves_keep}
use Rattle.omi_rule_words.proofs.Moves.{moves_keep}
use Rattle.omi_step_words.specs.Placed.{IsPlacedTeam}
use Rattle.omi_rule.specs.Ahead.{IsAhead, team_ahead}
use Rattle.omi_rule.specs.Chains.{StandsInTask, encounter_of, IsPassable, IsFront}
use Rattle.omi_rule.specs.Commits.{CommitsAt}
use Rattle.omi_rule.specs.Rows.{KeepsTeamRow}
use Rattle.omi_rule.specs.Rule.{AreNewMembers}
use Rattle.omi_rule.specs.Steps.{KeepsRule, RecordWord, left_in}
use Rattle.omi_rule.proofs.Assembly.{Before, plain_event_keeps}
use Rattle.omi_rule.proofs.NewMembers.{waiting_step}
use Rattle.omi_rule.proofs.NothingNew.{Makes}
use Rattle.omi_rule.proofs.Own.{ChangesTask}
use Rattle.omi_rule.proofs.OwnTask.{list_moved, own_encounter, own_taken, own_stands, relisted_ahead, top, relisted_front, own_front}
use Rattle.omi_rule.proofs.RowsStay.{Spares}
use Rattle.omi_rule.proofs.team.Within.{going, own, standing}
use Rattle.omi_model.proofs.StaysKept.{stays_step}
use Rattle.omi_rule.proofs.Runs.{stack_runs}

-- where a thread goes on within its construct, in a state and a memory
pub record IsReady (p : Program) (w : List ℕ) (n : Memory) (u : State) (i : ℕ) (a : Actor) (d : TeamCounter) (g : Gathered) : Type 0 where
  pub variables : length g.variables ≡ VARIABLE_WORDS
  pub fits : FitsTeam p (going d g a) d
  pub placed : IsPlacedTeam w (going d g a) d
  pub row : KeepsTeamRow p w n u i (going d g a) d

module _ (p : Program) (w : List ℕ) (m : Memory) (events : List (ℕ × Event)) (s : State) (actors : ℕ → Actor)
    (i : ℕ) (before : Before p w m events s actors i) (c : TeamCounter)
    (at : (actors i).counter ≡ counter.Team c) where
  abbrev At : Encounter
  At = encounter_of s (actors i).context

  pub stands : StandsInTask p s i (actors i)
  stands = (standing p w m events s actors i before c at).3

  pub list_is : (top p s i (actors i) stands).task.list ≡ team_ahead p (encounter_of s (actors i).context) (actors i).stack c
  list_is =
      subst (λ (d : Counter). IsAhead p At (actors i).stack d (top p s i (actors i) stands).task.list) at
      (stands.ahead (top p s i (actors i) stands).task (top p s i (actors i) stands).live)

  passes : IsPassable (top p s i (actors i) stands).task.frees
  passes =
      subst (λ (d : Counter). IsFront d (top p s i (actors i) stands).task.frees) at (own_front p s i (actors i) stands)

  pub takes : (e : Event) (y : Item) (ys : List Item)
      → take_item p (encounter_of s (actors i).context) e (team_ahead p (encounter_of s (actors i).context) (actors i).stack c) ≡ Some (y, ys)
      → taken_by p s i e ≡ Some (y, ys)
  takes e y ys taken =
      ap (λ (x : Encounter). take_item p x e (ahead_of s i)) (own_encounter p s i (actors i) stands)
      ∙ own_taken p s i (actors i) stands events before.rule.reached passes At e y ys
      (ap (λ (xs : List Item). take_item p At e xs) list_is ∙ taken)

  pub step : (e : Event) (y : Item) (ys zs : List Item) (u : State)
      → take_item p (encounter_of s (actors i).context) e (team_ahead p (encounter_of s (actors i).context) (actors i).stack c) ≡ Some (y, ys)
      → Rule s i e y
      → stays (encounter_of s (actors i).context) e y ys ≡ zs → effect p (on_task s (actors i).context.task (relisted zs)) i e y ≡ Some u → Step p s i e u
  step e y ys zs u taken rule stay is = record {
    legal = record { known = before.known; item = y; behind = ys; taken = takes e y ys taken; rule = rule };
    after_is =
        ap (option_and_then (moved p s i e)) (takes e y ys taken)
        ∙ ap (λ (x : Encounter). effect p (with_list s i (stays x e y ys)) i e y)
        (own_encounter p s i (actors i) stands)
        ∙ ap (λ (xs : List Item). effect p (with_list s i xs) i e y) stay
        ∙ ap (λ (z : State). effect p z i e y) (list_moved p s i (actors i) stands zs)
        ∙ is;
  }

  -- the words once the list has moved on
  pub words_moved : (zs : List Item)
      → KeepsWords w m (on_task s (actors i).context.task (relisted zs)) (all_owed actors)
  words_moved zs =
      subst (λ (z : State). KeepsWords w m z (all_owed actors)) (list_moved p s i (actors i) stands zs)
      (list_moves_keep w m s (all_owed actors) i zs before.rule.words before.known)

  none_new : (e : Event) (y : Item) (ys : List Item) (u : State)
      → take_item p At e (team_ahead p At (actors i).stack c) ≡ Some (y, ys) → Step p s i e u
      → ((f : ℕ) → y ≡ item.Fork f → ⊥) → AreNewMembers p u
  none_new e y ys u taken done none =
      waiting_step p s i e u done
      (λ x is f fork. absurd (none f (sym (ap (λ (q : Item × List Item). q.0) (some_same is (takes e y ys taken))) ∙ fork)))
      before.rule.waiting

  -- ---- an event

  pub team_event : (o : Op) (x : RecordWord) (d : TeamCounter) (g : Gathered) (e : Event) (y : Item) (ys zs : List Item) (u : State)
      → (Makes e → ⊥) → ((f : ℕ) → y ≡ item.Fork f → ⊥)
      → take_item p (encounter_of s (actors i).context) e (team_ahead p (encounter_of s (actors i).context) (actors i).stack c) ≡ Some (y, ys) → Step p s i e u → CommitsAt w s i e o
      → KeepsWords w (left_in m o x) u (all_owed actors) → owed (going d g (actors i)) ≡ owed (actors i) → ((j : ℕ) → j ≢ i → Spares m (left_in m o x) s j (actors j)) → ChangesTask s u i (actors i).context.task
      → u.tasks ≡ on s.tasks (actors i).context.task.0 (relisted zs) → zs ≡ team_ahead p (encounter_of s (actors i).context) (actors i).stack d → IsReady p w (left_in m o x) u i (actors i) d g
      → KeepsRule p w m events s actors i o x (going d g (actors i), outcome.Event e)
  team_event o x d g e y ys zs u not none taken done commits words same spares changes tasks next ready =
      let (f, fs, stack, inside) = standing p w m events s actors i before c at in
      let mine = own p w m events s actors i before c at in
      plain_event_keeps p w m events s actors i before o x
      (going d g (actors i), outcome.Event e) e u not refl done commits (none_new e y ys u taken done none)
      (moves_keep w (left_in m o x) u actors i (going d g (actors i)) words same) spares
      (record {
        thread = mine.thread;
        fits = record { thread = mine.fits.thread; variables = ready.variables; bodies = mine.fits.bodies; counter = ready.fits };
        placed = record { bodies = mine.placed.bodies; counter = ready.placed };
        stands =
            own_stands p s i (actors i) stands events before.rule.reached u changes
            (going d g (actors i)) f fs stack refl (λ b. b)
            (relisted_ahead p s i (actors i) stands zs u tasks (λ xs. xs ≡ team_ahead p At (actors i).stack d) next)
            (λ t live. subst IsPassable (sym (relisted_front p s i (actors i) stands zs u tasks t live)) tt);
        runs = stack_runs p s u i (stays_step p s i e u done) (actors i) mine.stands mine.runs;
        row = ready.row;
        ended = tt;
      })
