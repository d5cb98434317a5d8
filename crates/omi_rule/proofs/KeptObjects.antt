-- What the rule says of the record of a live object, by the object's name.
use Rattle.std.proofs.Common.{◌≡◌, ◌<◌, ℕ, List, Some, sym, subst, arith}
use Rattle.omi_script.specs.declared.program.Program.{Program}
use Rattle.omi_model.specs.declared.event.Event.{Event}
use Rattle.omi_model.specs.declared.id.Rid.{Rid}
use Rattle.omi_model.specs.declared.id.Tid.{Tid}
use Rattle.omi_model.specs.declared.region.Region.{Region}
use Rattle.omi_model.specs.declared.task.Task.{Task}
use Rattle.omi_model.specs.State.{State, region_of, task_of}
use Rattle.omi_model.proofs.Slots.{found_live}
use Rattle.omi_layout.specs.declared.field.Field.TheVariants.{RegionLife, TaskLife}
use Rattle.omi_layout.specs.Field.{regions, tasks}
use Rattle.omi_layout.specs.Memory.{Memory, Rec}
use Rattle.omi_layout.specs.Named.{number}
use Rattle.omi_pc.specs.declared.actor.Actor.{Actor}
use Rattle.omi_rule_words.specs.Objects.{KeepsRegion}
use Rattle.omi_rule_words.specs.Owes.{all_owed}
use Rattle.omi_rule_words.specs.Words.{KeepsTask}
use Rattle.omi_rule_words.proofs.Shown.{found_generations}
use Rattle.omi_rule_words.proofs.TaskEnds.{found_name}
use Rattle.omi_rule_words.proofs.TaskWords.{task_name}
use Rattle.omi_step_words.specs.Placed.{HasRegion, HasTask}
use Rattle.omi_step_words.specs.Words.{used_word}
use Rattle.omi_rule.specs.Rule.{Rule}

module _ (p : Program) (w : List ℕ) (m : Memory) (events : List (ℕ × Event)) (s : State) (actors : ℕ → Actor)
    (rule : Rule p w m events s actors) where
  abbrev task_record : Tid → Rec
  task_record k = m k.0.creator tasks k.0.slot

  abbrev region_record : Rid → Rec
  region_record n = m n.0.creator regions n.0.slot

  -- the layout has its slot
  pub task_there : (k : Tid) (t : Task) → task_of s k ≡ Some t → HasTask w k
  task_there k t live =
      let o = rule.within.tasks k.0.creator k.0.slot k.0.generation t live in record { made_by = o.maker; within = o.place }

  pub region_there : (n : Rid) (r : Region) → region_of s n ≡ Some r → HasRegion w n
  region_there n r live =
      let o = rule.within.regions n.0.creator n.0.slot n.0.generation r live in record { made_by = o.maker; within = o.place }

  task_maker : (k : Tid) (t : Task) → task_of s k ≡ Some t → k.0.creator < s.count
  task_maker k t live =
      subst (λ c. k.0.creator < c) (sym rule.within.count)
      (rule.within.tasks k.0.creator k.0.slot k.0.generation t live).maker

  region_maker : (n : Rid) (r : Region) → region_of s n ≡ Some r → n.0.creator < s.count
  region_maker n r live =
      subst (λ c. n.0.creator < c) (sym rule.within.count)
      (rule.within.regions n.0.creator n.0.slot n.0.generation r live).maker

  pub task_kept : (k : Tid) (t : Task) → task_of s k ≡ Some t
      → KeepsTask w s (all_owed actors) k (task_record k) t
  task_kept k t live =
      subst (λ (x : Tid). KeepsTask w s (all_owed actors) x (task_record k) t) (task_name s k t live)
      (((rule.words.made k.0.creator (task_maker k t live)).tasks k.0.slot (task_there k t live).within).live t (found_live k.0.generation (s.tasks k.0.creator k.0.slot) t live))

  pub region_kept : (n : Rid) (r : Region) → region_of s n ≡ Some r
      → KeepsRegion w s (all_owed actors) n (region_record n) r
  region_kept n r live =
      subst (λ (x : Rid). KeepsRegion w s (all_owed actors) x (region_record n) r) (found_name s n r live)
      (((rule.words.made n.0.creator (region_maker n r live)).regions n.0.slot (region_there n r live).within).live r (found_live n.0.generation (s.regions n.0.creator n.0.slot) r live))

  -- its life word is odd
  pub task_life : (k : Tid) (t : Task) → task_of s k ≡ Some t
      → task_record k (number TaskLife) 0 ≡ used_word k.0
  task_life k t live =
      let life =
      ((rule.words.made k.0.creator (task_maker k t live)).tasks k.0.slot (task_there k t live).within).life.live t
      (found_live k.0.generation (s.tasks k.0.creator k.0.slot) t live) in
      let made = found_generations k.0.generation (s.tasks k.0.creator k.0.slot) t live in
      omega (arith, life, made)

  pub region_life : (n : Rid) (r : Region) → region_of s n ≡ Some r
      → region_record n (number RegionLife) 0 ≡ used_word n.0
  region_life n r live =
      let life =
      ((rule.words.made n.0.creator (region_maker n r live)).regions n.0.slot (region_there n r live).within).life.live r
      (found_live n.0.generation (s.regions n.0.creator n.0.slot) r live) in
      let made = found_generations n.0.generation (s.regions n.0.creator n.0.slot) r live in
      omega (arith, life, made)
