-- A thread stores its state at a counter of a member, and goes on with its task.
use Rattle.std.proofs.Common.{◌≡◌, ℕ, List, [], ◌∷◌, ◌++◌, Some, refl, ap, arith}
use Rattle.omi_word.specs.declared.op.Op.TheVariants as op
use Rattle.omi_script.specs.declared.program.Program.{Program}
use Rattle.omi_model.specs.declared.encounter.Encounter.{Encounter}
use Rattle.omi_model.specs.declared.event.Event.{Event}
use Rattle.omi_model.specs.declared.event.Event.TheVariants as event
use Rattle.omi_model.specs.declared.item.Item.{Item}
use Rattle.omi_model.specs.declared.item.Item.TheVariants as item
use Rattle.omi_model.specs.declared.thread.Thread.{Thread}
use Rattle.omi_model.specs.Lists.{take_item}
use Rattle.omi_model.specs.Settings.{with_state}
use Rattle.omi_model.specs.State.{State}
use Rattle.omi_model.proofs.Slots.{put_same}
use Rattle.omi_model.proofs.Steps.{relisted}
use Rattle.omi_layout.specs.declared.field.Field.TheVariants.{ThreadState}
use Rattle.omi_numbers.specs.Words.{state_word}
use Rattle.omi_layout.specs.Field.{threads}
use Rattle.omi_layout.specs.Memory.{Memory, with_word}
use Rattle.omi_layout.specs.Named.{number}
use Rattle.omi_pc.specs.declared.actor.Actor.{Actor}
use Rattle.omi_pc.specs.declared.counter.Counter.{Counter}
use Rattle.omi_rep.specs.declared.outcome.Outcome.TheVariants as outcome
use Rattle.omi_rep.specs.Codes.{thread_told}
use Rattle.omi_rule_words.proofs.StoredCodes.{state_stored}
use Rattle.omi_rule_words.specs.Owes.{all_owed, nothing, owed_at}
use Rattle.omi_rule_words.specs.Words.{KeepsWords}
use Rattle.omi_rule_words.proofs.ThreadStores.{thread_stores_keep}
use Rattle.omi_step_words.specs.Words.{of_thread}
use Rattle.omi_rule.specs.Steps.{IsOn, KeepsRule, RecordWord}
use Rattle.omi_rule.proofs.OwnWords.{store_on, thread_word}
use Rattle.omi_rule.proofs.Assembly.{Before, spares_threads}
use Rattle.omi_rule.proofs.Own.{ChangesTask}
use Rattle.omi_rule.proofs.OwnTask.{own_changes, relisted_alike}
use Rattle.omi_rule.proofs.barrier.AtCounter.{at_counter, here, own, sees, stands, IsEventful, eventful_member}
use Rattle.omi_rule.proofs.barrier.Events.{IsReadyAt, event_leads_to, relisted_state, relisted_words, steps}

module _ (p : Program) (w : List ℕ) (m : Memory) (events : List (ℕ × Event)) (s : State) (actors : ℕ → Actor)
    (i : ℕ) (before : Before p w m events s actors i) (standing : Counter)
    (at : (actors i).counter ≡ standing) (eventful : IsEventful standing)
    (idle : owed_at (actors i).context (actors i).gathered.team standing ≡ nothing) (state : ℕ)
    (behind : List Item) (to : Counter) where
  abbrev a : Actor
  a = actors i

  abbrev At : Encounter
  At = sees p w m events s actors i before standing at (eventful_member standing eventful)

  abbrev listed : State
  listed = relisted_state p w m events s actors i before standing at eventful behind

  abbrev pub next : State
  next = with_state listed i state 0

  abbrev word : ℕ
  word = state_word state 0

  abbrev pub on_state : RecordWord
  on_state = thread_word i ThreadState

  pub is_on : IsOn w (op.Store (of_thread w a.thread ThreadState) word) on_state
  is_on = store_on p w m events s actors i before ThreadState word refl

  words : KeepsWords w (with_word m i threads 0 (number ThreadState) 0 word) next (all_owed actors)
  words =
      thread_stores_keep w m listed (all_owed actors) i
      (record (s.threads i) { state = state; wait = 0 }) ThreadState word
      (relisted_words p w m events s actors i before standing at eventful behind)
      (λ same. omega (arith, same))
      (state_stored w i (m i threads 0) (thread_told (s.threads i)) (before.rule.words.made i before.known).thread state 0)

  changes : ChangesTask s next i a.context.task
  changes =
      own_changes p s i a (stands p w m events s actors i before standing at (eventful_member standing eventful)) (relisted behind) next
      (λ t live. relisted_alike behind t) refl
      (ap (λ (h : Thread). h.current) (put_same s.threads i (record (s.threads i) { state = state; wait = 0 }))) refl refl

  pub stores_state : take_item p At (event.State state 0) (here p w m events s actors i before standing at (eventful_member standing eventful)).task.list ≡ Some (item.State state 0, behind)
      → IsReadyAt p w (with_word m i threads 0 (number ThreadState) 0 word)
      (events ++ (i, event.State state 0) ∷ []) next i At a to behind
      → KeepsRule p w m events s actors i (op.Store (of_thread w a.thread ThreadState) word) on_state
      (at_counter to a, outcome.Event (event.State state 0))
  stores_state taken ready =
      event_leads_to p w m events s actors i before standing at eventful idle
      (op.Store (of_thread w a.thread ThreadState) word) on_state to (outcome.Event (event.State state 0))
      (event.State state 0)
      (item.State state 0) behind next refl (λ no_object. no_object) (λ f e. absurd (cc e)) taken
      (steps p w m events s actors i before standing at eventful (event.State state 0) (item.State state 0) behind next taken tt refl refl)
      (word, ap (λ j. op.Store (of_thread w j ThreadState) word) (own p w m events s actors i before standing at (eventful_member standing eventful)).thread) words
      (λ j other. spares_threads m s i ThreadState word j (actors j) (λ same. omega (arith, same)))
      changes refl ready
