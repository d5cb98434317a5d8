-- What the run behind the words of a table says of them, in the terms of its program and layout.
use Rattle.std.proofs.Common.{◌≡◌, ℕ, List, sym, subst}
use Rattle.omi_script.specs.declared.program.Program.{Program}
use Rattle.omi_model.specs.declared.event.Event.{Event}
use Rattle.omi_model.specs.Reached.{Reached}
use Rattle.omi_layout.specs.declared.layout.Layout.{Layout}
use Rattle.omi_layout.specs.Given.{HasTables}
use Rattle.omi_layout.specs.Memory.{memory_of}
use Rattle.omi_word.specs.Words.{words_of}
use Rattle.omi_pc.specs.declared.actor.Actor.{Actor}
use Rattle.omi_rep.specs.Shows.{Shows}
use Rattle.omi_rule.specs.Rule.{Rule}
use Rattle.omi_core.specs.Histories.{Counts}
use Rattle.omi_core.specs.Runs.{actors_in, events_in}
use Rattle.omi_core.specs.Steps.{AreStepsOf, events_behind}
use Rattle.omi_core.proofs.Histories.{counted}
use Rattle.omi_core.proofs.Stepping.{shows_state}
use Rattle.omi_seat.specs.Behind.{HasRun}

module _ (p : Program) (l : Layout) (words others : List ℕ) (h : HasRun p l words others) (image : List ℕ)
    (is : image ≡ h.run.words) where
  -- the steps lead to its image
  pub steps_made : AreStepsOf p l.table h.keeps.entries image h.keeps.state
  steps_made =
      subst
      (λ (z : Program × List ℕ × List ℕ). AreStepsOf z.0 z.1 h.keeps.entries z.2 h.keeps.state)
      (λ k. (h.program k, h.table k, sym is k)) h.keeps.made_by.steps

  pub events_reach : Reached p (events_in (events_behind 0 h.keeps.entries)) h.keeps.state
  events_reach =
      subst (λ (z : Program × List (ℕ × ℕ × Event)). Reached z.0 (events_in z.1) h.keeps.state)
      (λ k. (h.program k, h.keeps.made_by.events k)) h.keeps.rule.reached

  -- the rule holds, of these actors
  pub rule_holds : (actors : ℕ → Actor) → actors_in h.run.actors ≡ actors
      → Rule p l.table (memory_of l.table image) (events_in (events_behind 0 h.keeps.entries)) h.keeps.state actors
  rule_holds actors are =
      subst
      (λ (z : Program × List ℕ × List ℕ × List (ℕ × ℕ × Event) × (ℕ → Actor)). Rule z.0 z.1 (memory_of z.1 z.2) (events_in z.3) h.keeps.state z.4)
      (λ k. (h.program k, h.table k, sym is k, h.keeps.made_by.events k, are k)) h.keeps.rule

  pub image_shows : Shows l.table (words_of image) h.keeps.state
  image_shows =
      subst (λ (z : List ℕ × List ℕ). Shows z.0 (words_of z.1) h.keeps.state) (λ k. (h.table k, sym is k))
      (shows_state h.run h.keeps h.keeps.state h.keeps.rule.reached)

  pub has_tables : HasTables l.table image
  has_tables = subst (λ (z : List ℕ × List ℕ). HasTables z.0 z.1) (λ k. (h.table k, sym is k)) h.keeps.tables

  pub image_counts : Counts l.table image h.keeps.state
  image_counts =
      subst (λ (z : List ℕ × List ℕ). Counts z.0 z.1 h.keeps.state) (λ k. (h.table k, sym is k))
      (counted h.run h.keeps)
