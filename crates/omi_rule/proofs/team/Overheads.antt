-- A thread that is to make a team stores its state.
use Rattle.std.proofs.Common.{◌≡◌, ◌<◌, ℕ, List, refl, sym, ap, subst, arith}
use Rattle.omi_word.specs.declared.op.Op.TheVariants as op
use Rattle.omi_script.specs.declared.program.Program.{Program}
use Rattle.omi_model.specs.declared.event.Event.{Event}
use Rattle.omi_model.specs.declared.event.Event.TheVariants as event
use Rattle.omi_model.specs.declared.item.Item.{Item}
use Rattle.omi_model.specs.declared.item.Item.TheVariants as item
use Rattle.omi_model.specs.declared.thread.Thread.{Thread}
use Rattle.omi_model.specs.Changes.{on_task}
use Rattle.omi_numbers.specs.declared.states.TheConstants.{OVERHEAD}
use Rattle.omi_numbers.specs.Words.{state_word}
use Rattle.omi_model.specs.Settings.{with_state}
use Rattle.omi_model.specs.State.{State}
use Rattle.omi_model.proofs.Slots.{put_same}
use Rattle.omi_model.proofs.Steps.{relisted}
use Rattle.omi_layout.specs.declared.field.Field.TheVariants.{ThreadState}
use Rattle.omi_layout.specs.Field.{threads}
use Rattle.omi_layout.specs.Memory.{Memory, with_word}
use Rattle.omi_layout.specs.Named.{number}
use Rattle.omi_layout.specs.Table.{thread_count}
use Rattle.omi_pc.specs.declared.actor.Actor.{Actor}
use Rattle.omi_pc.specs.declared.counter.Counter.TheVariants as counter
use Rattle.omi_pc.specs.declared.team_counter.TeamCounter.{TeamCounter}
use Rattle.omi_pc.specs.declared.team_counter.TeamCounter.TheVariants as team
use Rattle.omi_rep.specs.Codes.{thread_told}
use Rattle.omi_rule_words.proofs.StoredCodes.{state_stored}
use Rattle.omi_rule_words.specs.Owes.{all_owed}
use Rattle.omi_rule_words.specs.Words.{KeepsWords}
use Rattle.omi_rule_words.proofs.ThreadStores.{thread_stores_keep}
use Rattle.omi_step_words.specs.Words.{of_thread}
use Rattle.omi_fork.specs.TeamSteps.{team_moved, team_next, team_outcome}
use Rattle.omi_rule.specs.Ahead.{wanting}
use Rattle.omi_rule.specs.Chains.{encounter_of}
use Rattle.omi_rule.specs.Steps.{RecordWord, StepKeeps}
use Rattle.omi_rule.proofs.Assembly.{Before, spares_threads}
use Rattle.omi_rule.proofs.Own.{ChangesTask}
use Rattle.omi_rule.proofs.OwnTask.{own_changes, relisted_alike}
use Rattle.omi_rule.proofs.team.Events.{stands, step, team_event, words_moved}
use Rattle.omi_rule.proofs.team.Within.{fits, own, owes}

module _ (p : Program) (w : List ℕ) (m : Memory) (events : List (ℕ × Event)) (s : State) (actors : ℕ → Actor)
    (i : ℕ) (before : Before p w m events s actors i)
    (at : (actors i).counter ≡ counter.Team team.OverheadState) where
  abbrev C : TeamCounter
  C = team.OverheadState

  abbrev behind : List Item
  behind = wanting p (encounter_of s (actors i).context) (actors i).stack

  abbrev next : State
  next =
      with_state
      (on_task s (actors i).context.task (relisted (wanting p (encounter_of s (actors i).context) (actors i).stack))) i OVERHEAD 0

  abbrev word : ℕ
  word = state_word OVERHEAD 0

  abbrev X : RecordWord
  X = record { creator = i; slot = 0; field = ThreadState; place = 0 }

  words : KeepsWords w (with_word m i threads 0 (number ThreadState) 0 word) next (all_owed actors)
  words =
      thread_stores_keep w m (on_task s (actors i).context.task (relisted behind)) (all_owed actors) i
      (record (s.threads i) { state = OVERHEAD; wait = 0 }) ThreadState word
      (words_moved p w m events s actors i before C at behind)
      (λ same. omega (arith, same))
      (state_stored w i (m i threads 0) (thread_told (s.threads i)) (before.rule.words.made i before.known).thread OVERHEAD 0)

  changes : ChangesTask s next i (actors i).context.task
  changes =
      own_changes p s i (actors i) (stands p w m events s actors i before C at) (relisted behind) next
      (λ t live. relisted_alike behind t) refl
      (ap (λ (h : Thread). h.current) (put_same s.threads i (record (s.threads i) { state = OVERHEAD; wait = 0 }))) refl refl

  pub overhead_keeps : StepKeeps p w m events s actors i (team_next p w (actors i) C) (λ old. (team_moved p w (actors i) C old, team_outcome p w (actors i) C old))
  overhead_keeps =
      let thread = (own p w m events s actors i before C at).thread in
      let known : i < thread_count w = subst (λ n. i < n) before.rule.within.count before.known in (
        X,
        record {
          there = record { field = record { from = omega arith; to = omega arith }; record_slot = record { made_by = known; within = omega arith }; within = omega arith };
          address = ap (λ j. of_thread w j ThreadState) thread;
        },
        team_event p w m events s actors i before C at
            (op.Store (of_thread w (actors i).thread ThreadState) word) X team.LoadLevels (actors i).gathered
            (event.State OVERHEAD 0) (item.State OVERHEAD 0) behind behind next
            (λ none. none) (λ f e. absurd (cc e)) refl
            (step p w m events s actors i before C at (event.State OVERHEAD 0) (item.State OVERHEAD 0) behind behind next refl tt refl refl)
            (word, ap (λ j. op.Store (of_thread w j ThreadState) word) thread) words
            (sym (owes p w m events s actors i before C at))
            (λ j other. spares_threads m s i ThreadState word j (actors j) (λ same. omega (arith, same)))
            changes refl refl
            (record { variables = (own p w m events s actors i before C at).fits.variables; fits = fits p w m events s actors i before C at; placed = tt; row = tt }),
      )
