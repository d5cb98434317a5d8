-- The places of tasks: the task that generated one lives, and its place is read back from the word that names it.
use Rattle.std.proofs.Common.{◌≡◌, ℕ, List, Option, Some, ap, ◌∙◌, arith, ◌==◌, ◌&&◌, true, refl, eq-eqb}
use Rattle.omi_script.specs.declared.program.Program.{Program}
use Rattle.omi_model.specs.declared.event.Event.{Event}
use Rattle.omi_model.specs.declared.id.Tid.{Tid}
use Rattle.omi_model.specs.declared.task.Task.{Task}
use Rattle.omi_model.specs.State.{State, task_of}
use Rattle.omi_model.proofs.NamesLive.{names_live}
use Rattle.omi_layout.specs.Field.{tasks}
use Rattle.omi_layout.specs.Memory.{Memory}
use Rattle.omi_pc.specs.declared.actor.Actor.{Actor}
use Rattle.omi_rep.specs.Records.{task_word}
use Rattle.omi_step_words.specs.Placed.{HasTask}
use Rattle.omi_step_words.specs.Words.{task_place}
use Rattle.omi_step_words.proofs.ReadBack.{places_back}
use Rattle.omi_rule.specs.Rows.{place_of}
use Rattle.omi_rule.proofs.Assembly.{Before}
use Rattle.omi_rule.proofs.KeptObjects.{task_there}
use Rattle.omi_rule_words.specs.Counts.{is_at}

-- a task stands at its own place
pub at_own_place : (k : Tid) → is_at k (place_of k.0) ≡ true
at_own_place k =
    ap (λ b. b && (k.0.slot == k.0.slot)) (eq-eqb k.0.creator k.0.creator refl) ∙ eq-eqb k.0.slot k.0.slot refl

-- ---- the task that generated one

module _ (p : Program) (w : List ℕ) (m : Memory) (events : List (ℕ × Event)) (s : State) (actors : ℕ → Actor)
    (i : ℕ) (before : Before p w m events s actors i) (k : Tid) (t : Task) (live : task_of s k ≡ Some t) (g : Tid)
    (made_by : t.generating ≡ Some g) where
  pub maker_live : (u : Task) × (task_of s g ≡ Some u)
  maker_live =
      let (u, found, started) = ((names_live p events s before.rule.reached).tasks k t live).generating g made_by in (u, found)

  -- the layout has its slot
  pub maker_there : HasTask w g
  maker_there = task_there p w m events s actors before.rule g maker_live.0 maker_live.1

  pub maker_read : task_place w (task_word w t.generating) ≡ place_of g.0
  maker_read =
      ap (λ (o : Option Tid). task_place w (task_word w o)) made_by
      ∙ places_back w tasks g.0.creator g.0.slot before.valid (record { from = omega arith; to = omega arith }) maker_there
