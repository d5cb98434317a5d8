-- Member 0 joins the others, which have all left.
use Rattle.std.proofs.Common.{◌≡◌, ◌≢◌, ◌<◌, ℕ, true, false, List, Option, Some, refl, ap, ◌∙◌, arith}
use Rattle.omi_model.specs.declared.freeable.Freeable.{Freeable}
use Rattle.omi_model.specs.declared.freeable.Freeable.TheVariants as freeable
use Rattle.omi_model.specs.declared.id.Id.{Id}
use Rattle.omi_model.specs.declared.id.Rid.{Rid}
use Rattle.omi_model.specs.declared.id.Tid.{Tid}
use Rattle.omi_model.specs.declared.progress.Progress.TheVariants as progress
use Rattle.omi_model.specs.declared.region.Region.{Region}
use Rattle.omi_model.specs.declared.task.Task.{Task}
use Rattle.omi_model.specs.Changes.{on_region, on_task}
use Rattle.omi_model.specs.Freeing.{freeing}
use Rattle.omi_model.specs.State.{State, region_of}
use Rattle.omi_model.specs.Teams.{joined}
use Rattle.omi_model.proofs.Slots.{found_live}
use Rattle.omi_layout.specs.declared.field.Field.TheVariants.{RegionLeft, ThreadCurrent}
use Rattle.omi_layout.specs.Field.{regions, threads}
use Rattle.omi_layout.specs.Memory.{Memory, with_word}
use Rattle.omi_layout.specs.Named.{number}
use Rattle.omi_layout.specs.Table.{per_thread}
use Rattle.omi_rep.specs.Records.{task_word}
use Rattle.omi_rule_words.specs.Owes.{Owed}
use Rattle.omi_rule_words.specs.Counts.{ended_members, is_some_region, left_owed, one, sum_of_owed}
use Rattle.omi_rule_words.specs.Words.{KeepsWords, region_in}
use Rattle.omi_rule_words.specs.TeamKinds.{AllHaveLeft, IsRunningMember, JoinsKeep}
use Rattle.omi_rule_words.proofs.Changed.{current_stored}
use Rattle.omi_rule_words.proofs.ListMoves.{freeing_keeps}
use Rattle.omi_rule_words.proofs.Renewed.{RegionRenews, owes_same}
use Rattle.omi_rule_words.proofs.Sums.{part_below}
use Rattle.omi_rule_words.proofs.TaskEnds.{finished_kept, found_name, is_region_same, still_open}

module _ (w : List ℕ) (m : Memory) (s : State) (owes : ℕ → Owed) (i : ℕ) (k : Tid) (t : Task) (r : Region)
    (keeps : KeepsWords w m s owes) (known : i < s.count) (running : IsRunningMember s k t r)
    (all_left : (j : ℕ) → j < s.count → (owes j).left ≢ Some t.region) where
  abbrev joins : Region → Region
  joins x = record x { joined = true }

  abbrev over : State
  over = on_region (on_task s k (λ u. record u { progress = progress.Finished })) t.region joins

  abbrev free : Option Freeable
  free = Some (freeable.Joined t.region 0)

  renews : (x : Region) → RegionRenews x (joins x)
  renews x = record { ended = x.ended; joined = true; is = refl }

  left : (j : ℕ) → j < s.count → (n : Rid) → (owes j).left ≡ Some n
      → (x : Region) × (region_of over n ≡ Some x) × (x.joined ≡ false)
  left j within n is =
      still_open w m s owes owes k t r joins keeps running (λ c. owes_same (owes c)) (λ c. refl)
      (λ c. refl) renews n
      (λ same. absurd (all_left j within (is ∙ ap (λ (x : Id). Some (record { 0 = x })) same)))
      ((keeps.made j within).objects.left n is)

  task_joins : KeepsWords w (with_word m i threads 0 (number ThreadCurrent) 0 (task_word w r.encountering)) (joined s i k t r) owes
  task_joins =
      current_stored w m (record over { tasks = freeing free r.encountering over.tasks }) owes i r.encountering
      (freeing_keeps w m over owes free r.encountering
      (finished_kept w m s owes owes k t r joins keeps running (λ c. owes_same (owes c)) (λ c. refl) (λ c. refl) renews refl (λ q ne. refl) left))
      known

pub joins_keep : JoinsKeep
joins_keep =
    λ w m s owes i k t r keeps known running all_left. task_joins w m s owes i k t r keeps known running all_left

pub all_have_left : AllHaveLeft
all_have_left =
    λ w m s owes n r keeps live maker place word j within is. none_owed w m s owes n r keeps live maker place word j within is
  where
    none_owed : (w : List ℕ) (m : Memory) (s : State) (owes : ℕ → Owed) (n : Rid) (r : Region)
        → KeepsWords w m s owes → region_of s n ≡ Some r → n.0.creator < s.count
        → n.0.slot < per_thread w regions → m n.0.creator regions n.0.slot (number RegionLeft) 0 ≡ ended_members r → (j : ℕ) → j < s.count → (owes j).left ≡ Some n → ⊥
    none_owed w m s owes n r keeps live maker place word j within is =
        let counted =
        (((keeps.made n.0.creator maker).regions n.0.slot place).live r (found_live n.0.generation (s.regions n.0.creator n.0.slot) r live)).left in
        let name = found_name s n r live in
        let named : sum_of_owed s owes (left_owed (region_in n.0.creator n.0.slot (s.regions n.0.creator n.0.slot))) ≡ sum_of_owed s owes (left_owed n) =
        ap (λ q. sum_of_owed s owes (left_owed q)) name in
        let part = part_below s.count j (λ c. left_owed n (owes c)) within in
        let own : left_owed n (owes j) ≡ 1 =
        ap (λ o. one (is_some_region n o)) is ∙ ap one (is_region_same n) in
        omega (arith, counted, named, part, own, word)
