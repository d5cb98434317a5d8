-- A member that has ended departs: the region's word for those that have left is one more.
use Rattle.std.proofs.Common.{◌≡◌, ◌≢◌, ◌+◌, ◌<◌, ℕ, Bool, true, false, inl, inr, List, Some, None, refl, sym, ap, subst, ◌∙◌, arith}
use Rattle.std.specs.Prelude.{◌⊎◌, All}
use Rattle.std.proofs.lemmas.Bool.{cases_eq}
use Rattle.std.proofs.lemmas.Bool.Decides.{nat_tests}
use Rattle.omi_model.specs.declared.id.Rid.{Rid}
use Rattle.omi_model.specs.declared.id.Tid.{Tid}
use Rattle.omi_model.specs.declared.region.Region.{Region}
use Rattle.omi_model.specs.State.{State, region_of}
use Rattle.omi_model.proofs.Slots.{some_same}
use Rattle.omi_layout.specs.declared.field.Field.TheVariants.{RegionLeft}
use Rattle.omi_layout.specs.Field.{runtime, threads, regions, tasks}
use Rattle.omi_layout.specs.Memory.{Memory, replace_at, with_word}
use Rattle.omi_layout.specs.Named.{number}
use Rattle.omi_layout.proofs.Puts.{each_put, put_other, put_same, record_stays, word_read, word_stays}
use Rattle.omi_rule_words.specs.Owes.{Owed}
use Rattle.omi_rule_words.specs.Counts.{ended_members, is_region, is_some_region, left_owed, one, sum_of_owed}
use Rattle.omi_rule_words.specs.Threads.{WaitsFor}
use Rattle.omi_rule_words.specs.Words.{KeepsWords, region_in}
use Rattle.omi_rule_words.specs.TeamKinds.{LeavesKeep}
use Rattle.omi_rule_words.proofs.OtherOwes.{assign_owed_same}
use Rattle.omi_rule_words.proofs.Renewed.{OwesSame, owes_same, region_becomes, renewed, task_becomes}
use Rattle.omi_rule_words.proofs.Sums.{sum_changed}
use Rattle.omi_rule_words.proofs.TaskEnds.{found_name, is_region_same}

module _ (w : List ℕ) (m : Memory) (s : State) (owes : ℕ → Owed) (i : ℕ) (n : Rid)
    (keeps : KeepsWords w m s owes) (known : i < s.count) (owed : (owes i).left ≡ Some n) where
  abbrev word : ℕ
  word = m n.0.creator regions n.0.slot (number RegionLeft) 0

  abbrev after : Memory
  after = with_word m n.0.creator regions n.0.slot (number RegionLeft) 0 (word + 1)

  abbrev given : Owed
  given = record (owes i) { left = None }

  abbrev other : ℕ → Owed
  other = replace_at owes i given

  alike : (j : ℕ) → OwesSame (other j) (owes j)
  alike j = each_put (λ c (x : Owed). OwesSame x (owes c)) owes i given own j (λ _. owes_same (owes j))
    where
      own : OwesSame given (owes i)
      own = record { region = refl; tasks = refl; pending = refl; raised = refl; lowered = refl; referred = refl; own = refl; returned = refl; gives = refl; hand = refl; counted = refl; uncounted = refl }

  same_assigns : (j : ℕ) → (other j).assigns ≡ (owes j).assigns
  same_assigns j = each_put (λ c (x : Owed). x.assigns ≡ (owes c).assigns) owes i given refl j (λ _. refl)

  same_met : (j : ℕ) → (other j).met ≡ (owes j).met
  same_met j = each_put (λ c (x : Owed). x.met ≡ (owes c).met) owes i given refl j (λ _. refl)

  -- one departure less is owed, on this region
  less : (q : Rid)
      → sum_of_owed s other (left_owed q) + one (is_region q n) ≡ sum_of_owed s owes (left_owed q)
  less q =
      let change =
      sum_changed s.count i (λ c. left_owed q (owes c)) (λ c. left_owed q (other c)) known
      (λ c ne. ap (left_owed q) (put_other owes i c given ne)) in
      let before : left_owed q (owes i) ≡ one (is_region q n) = ap (λ o. one (is_some_region q o)) owed in
      let now : left_owed q (other i) ≡ 0 = ap (left_owed q) (put_same owes i given) in
      omega (arith, change, before, now)

  left_is : (c k : ℕ) (x y : Region) → (s.regions c k).live ≡ Some x → (s.regions c k).live ≡ Some y
      → after c regions k (number RegionLeft) 0 + sum_of_owed s other (left_owed (region_in c k (s.regions c k))) + ended_members x
      ≡ m c regions k (number RegionLeft) 0 + sum_of_owed s owes (left_owed (region_in c k (s.regions c k))) + ended_members y
  left_is c k x y was now = go (cases_eq c n.0.creator) (cases_eq k n.0.slot)
    where
      name : Rid
      name = region_in c k (s.regions c k)

      members : ended_members x ≡ ended_members y
      members = ap ended_members (some_same was now)

      beside : (c ≡ n.0.creator → k ≡ n.0.slot → ⊥)
          → after c regions k (number RegionLeft) 0 + sum_of_owed s other (left_owed name) + ended_members x
          ≡ m c regions k (number RegionLeft) 0 + sum_of_owed s owes (left_owed name) + ended_members y
      beside apart =
          let same : after c regions k (number RegionLeft) 0 ≡ m c regions k (number RegionLeft) 0
          = word_stays m n.0.creator regions n.0.slot (number RegionLeft) 0 (word + 1) c regions k
          (number RegionLeft) 0 (λ creator _ slot _ _. apart creator slot) in
          let none : one (is_region name n) ≡ 0 = ap one (other_name (is_region name n) refl) in
          let sum = less name in
          omega (arith, same, none, sum, members)
        where
          other_name : (b : Bool) → is_region name n ≡ b → is_region name n ≡ false
          other_name false e = e
          other_name true e =
              let creator : c ≡ n.0.creator = grind (arith, nat_tests) in
              let slot : k ≡ n.0.slot = grind (arith, nat_tests) in
              absurd (apart creator slot)

      go : (c ≡ n.0.creator) ⊎ (c ≢ n.0.creator) → (k ≡ n.0.slot) ⊎ (k ≢ n.0.slot)
          → after c regions k (number RegionLeft) 0 + sum_of_owed s other (left_owed name) + ended_members x
          ≡ m c regions k (number RegionLeft) 0 + sum_of_owed s owes (left_owed name) + ended_members y
      go (inl creator) (inl slot) =
          let (r, live, _) = (keeps.made i known).objects.left n owed in
          let is : name ≡ n =
          ap (λ d. region_in d k (s.regions d k)) creator
          ∙ (ap (λ q. region_in n.0.creator q (s.regions n.0.creator q)) slot ∙ found_name s n r live) in
          let stored : after c regions k (number RegionLeft) 0 ≡ word + 1
          = ap (λ d. after d regions k (number RegionLeft) 0) creator
          ∙
          (ap (λ q. after n.0.creator regions q (number RegionLeft) 0) slot ∙ word_read m n.0.creator regions n.0.slot (number RegionLeft) 0 (word + 1)) in
          let before : m c regions k (number RegionLeft) 0 ≡ word =
          ap (λ d. m d regions k (number RegionLeft) 0) creator
          ∙ ap (λ q. m n.0.creator regions q (number RegionLeft) 0) slot in
          let own : one (is_region name n) ≡ 1 =
          ap (λ q. one (is_region q n)) is ∙ ap one (is_region_same n) in
          let sum = less name in
          omega (arith, stored, before, own, sum, members)
      go (inl creator) (inr ne) = beside (λ _ same. ne same)
      go (inr ne) _ = beside (λ same _. ne same)

  stays : (c kind k : ℕ) → (kind ≡ regions → ⊥) → after c kind k ≡ m c kind k
  stays c kind k ne =
      record_stays m n.0.creator regions n.0.slot (number RegionLeft) 0 (word + 1) c kind k
      (λ _ same _. ne same)

  departed : KeepsWords w after s other
  departed =
      renewed w m after s s.regions s.tasks owes other keeps (λ c k. region_becomes (s.regions c k))
      (λ c k. task_becomes (s.tasks c k)) alike
      (stays 0 runtime 0 (λ kind. absurd (omega (arith, kind))))
      (λ c. stays c threads 0 (λ kind. absurd (omega (arith, kind))))
      (λ c k. stays c tasks k (λ kind. absurd (omega (arith, kind))))
      (λ c k f at ne. word_stays m n.0.creator regions n.0.slot (number RegionLeft) 0 (word + 1) c regions k f at (λ _ _ _ field _. ne field))
      left_is
      (λ j within. each_put (λ c (o : Owed). c < s.count → (q : Rid) → o.left ≡ Some q → (x : Region) × (region_of s q ≡ Some x) × (x.joined ≡ false)) owes i given
      (λ _ q is. absurd (cc)) j (λ _ there. (keeps.made j there).objects.left) within)
      (λ j within. subst (λ (ms : List (Tid × ℕ)). All (λ q. WaitsFor s q.1 q.0) ms) (sym (same_assigns j)) (keeps.made j within).objects.assigns)
      (λ j within. assign_owed_same w s owes other same_assigns same_met j (m j threads 0) (keeps.made j within).assign)

pub leaves_keep : LeavesKeep
leaves_keep = λ w m s owes i n keeps known owed. departed w m s owes i n keeps known owed
