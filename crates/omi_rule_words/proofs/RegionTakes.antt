-- A record is taken for a region.
use Rattle.std.proofs.Common.{◌≡◌, ◌==◌, ◌&&◌, ◌<◌, ℕ, ◌+◌, ◌*◌, Bool, true, false, List, Some, None, refl, sym, ap, subst, ◌∙◌, arith, if◌then◌else◌}
use mathlib.Core.Path.{fun_ext}
use Rattle.std.specs.Prelude.{All}
use Rattle.std.proofs.lemmas.Bool.Decides.{nat_tests}
use Rattle.omi_model.specs.declared.id.Rid.{Rid}
use Rattle.omi_model.specs.declared.id.Tid.{Tid}
use Rattle.omi_model.specs.State.{State}
use Rattle.omi_layout.specs.declared.field.Field.TheVariants.{RegionLife, TaskLife}
use Rattle.omi_layout.specs.Field.{runtime, threads, regions, tasks}
use Rattle.omi_layout.specs.Memory.{Rec, Memory, replace_at, with_word}
use Rattle.omi_layout.specs.Named.{number}
use Rattle.omi_layout.proofs.Puts.{each_put, record_stays, word_read}
use Rattle.omi_rule_words.specs.Owes.{Owed}
use Rattle.omi_rule_words.specs.Counts.{has_region_slot, has_slot}
use Rattle.omi_rule_words.specs.Threads.{KeepsAssign, KeepsRuntime, KeepsThread, WaitsFor}
use Rattle.omi_rule_words.specs.Objects.{KeepsDeferred, KeepsLife}
use Rattle.omi_rule_words.specs.Words.{IsInTheMaking, KeepsMade, KeepsMaking, KeepsRegionSlot, KeepsTaskSlot, KeepsWords}
use Rattle.omi_rule_words.specs.Kinds.{RegionTakesKeep}
use Rattle.omi_rule_words.proofs.OtherOwes.{OwesAlike, owes_alike, assign_owed_same, deferred_owed, objects_owed, region_owed, task_owed, alike_on_groups}
use Rattle.omi_rule_words.specs.Groups.{KeepsGroups}
use Rattle.omi_rule_words.proofs.GroupCounts.{groups_owed}

module _ (w : List ℕ) (m : Memory) (s : State) (owes : ℕ → Owed) (i : ℕ) (n : Rid)
    (keeps : KeepsWords w m s owes) (none : (owes i).region ≡ None)
    (making : IsInTheMaking i (s.regions i) n.0) where
  abbrev slot : ℕ
  slot = n.0.slot

  abbrev p : Owed
  p = record (owes i) { region = Some n }

  abbrev other : ℕ → Owed
  other = replace_at owes i p

  abbrev after : Memory
  after = with_word m i regions slot (number RegionLife) 0 (2 * n.0.generation + 1)

  stays : (c kind k : ℕ) → (kind ≡ regions → ⊥) → after c kind k ≡ m c kind k
  stays c kind k ne =
      record_stays m i regions slot (number RegionLife) 0 (2 * n.0.generation + 1) c kind k
      (λ _ same _. ne same)

  alike : (j : ℕ) → OwesAlike (other j) (owes j)
  alike j =
      each_put (λ k (x : Owed). OwesAlike x (owes k)) owes i p
      (record { pending = refl; raised = refl; lowered = refl; referred = refl; own = refl; returned = refl; gives = refl; left = refl; hand = refl; counted = refl; uncounted = refl }) j
      (λ _. owes_alike (owes j))

  assigns : (j : ℕ) → (other j).assigns ≡ (owes j).assigns
  assigns j = each_put (λ k (x : Owed). x.assigns ≡ (owes k).assigns) owes i p refl j (λ _. refl)

  met : (j : ℕ) → (other j).met ≡ (owes j).met
  met j = each_put (λ k (x : Owed). x.met ≡ (owes k).met) owes i p refl j (λ _. refl)

  made_tasks : (j : ℕ) → (other j).tasks ≡ (owes j).tasks
  made_tasks j = each_put (λ k (x : Owed). x.tasks ≡ (owes k).tasks) owes i p refl j (λ _. refl)

  -- the life word of a slot that is not the one taken
  life : (j k : ℕ) → (j == i && k == slot) ≡ false
      → KeepsLife (m j regions k) RegionLife (s.regions j k) (has_region_slot k (owes j).region)
      → KeepsLife (m j regions k) RegionLife (s.regions j k) (has_region_slot k (other j).region)
  life j k ne o = go (j == i) refl
    where
      go : (b : Bool) → j == i ≡ b
          → KeepsLife (m j regions k) RegionLife (s.regions j k) (has_region_slot k (if b then p else owes j).region)
      go true e =
          let creator : j ≡ i = grind (arith, nat_tests) in
          let before : (owes j).region ≡ None = subst (λ c. (owes c).region ≡ None) (sym creator) none in
          let unowed : has_region_slot k (owes j).region ≡ false = ap (has_region_slot k) before in
          let apart : slot == k ≡ false = grind (arith, nat_tests) in
          subst (λ (b : Bool). KeepsLife (m j regions k) RegionLife (s.regions j k) b) (unowed ∙ sym apart) o
      go false e = o

  region : (j k : ℕ) → KeepsRegionSlot w s owes j k (m j regions k) → (b : Bool) → (j == i && k == slot) ≡ b
      → KeepsRegionSlot w s other j k (after j regions k)
  region j k o true e =
      let creator : j ≡ i = grind (arith, nat_tests) in
      let place : k ≡ slot = grind (arith, nat_tests) in
      subst (λ c. KeepsRegionSlot w s other c k (after c regions k)) (sym creator)
      (subst (λ q. KeepsRegionSlot w s other i q (after i regions q)) (sym place) taken)
    where
      empty : (s.regions i slot).live ≡ None
      empty = making.free

      taken : KeepsRegionSlot w s other i slot (after i regions slot)
      taken = record {
        life = record {
          live = λ x is. absurd (cc);
          taken = λ _ _.
              let next = making.next in
              let is : after i regions slot (number RegionLife) 0 ≡ 2 * n.0.generation + 1 =
              word_read m i regions slot (number RegionLife) 0 (2 * n.0.generation + 1) in
              omega (arith, next, is);
          free = λ _ unowed.
              let owed : (other i).region ≡ Some n =
              each_put (λ k (x : Owed). k ≡ i → x.region ≡ Some n) owes i p (λ _. refl) i
              (λ ne. absurd (ne refl)) refl in
              let there : has_region_slot slot (other i).region ≡ slot == slot =
              ap (has_region_slot slot) owed in
              let same : slot == slot ≡ true = grind (arith, nat_tests) in
              absurd (cc);
        };
        live = λ x is. absurd (cc);
      }
  region j k o false e =
      subst (λ (r : Rec). KeepsRegionSlot w s other j k r)
      (sym (record_stays m i regions slot (number RegionLife) 0 (2 * n.0.generation + 1) j regions k (λ creator _ place. grind (arith, nat_tests))))
      (record { life = life j k e o.life; live = λ x is. region_owed w s owes other alike _ (m j regions k) x (o.live x is) })

  own_making : KeepsMaking s i (owes i) → KeepsMaking s i p
  own_making before = record {
    region = λ q is. let same : n ≡ q = cc in subst (λ (x : Rid). IsInTheMaking i (s.regions i) x.0) same making;
    tasks = before.tasks;
    apart = before.apart;
  }

  making_kept : (j : ℕ) → KeepsMaking s j (owes j) → KeepsMaking s j (other j)
  making_kept j =
      each_put (λ k (x : Owed). KeepsMaking s k (owes k) → KeepsMaking s k x) owes i p own_making j (λ _ o. o)

  tasks_same : ◌≡◌ {A = ℕ → ℕ → Rec} (λ c. after c tasks) (λ c. m c tasks)
  tasks_same = fun_ext (λ c. fun_ext (λ k. stays c tasks k (λ kind. absurd (omega (arith, kind)))))

  made : (j : ℕ) → j < s.count → KeepsMade w s other j (after j)
  made j known =
      let o = keeps.made j known in
      let thread : after j threads 0 ≡ m j threads 0 =
      stays j threads 0 (λ kind. absurd (omega (arith, kind))) in
      record {
        thread = subst (λ (r : Rec). KeepsThread w j r (s.threads j)) (sym thread) o.thread;
        assign = subst (λ (r : Rec). KeepsAssign w s other j r) (sym thread) (assign_owed_same w s owes other assigns met j (m j threads 0) o.assign);
        regions = λ k within. region j k (o.regions k within) (j == i && k == slot) refl;
        tasks = λ k within.
            let task = o.tasks k within in
            subst (λ (r : Rec). KeepsTaskSlot w s other j k r) (sym (stays j tasks k (λ kind. absurd (omega (arith, kind))))) (record {
              life = subst (λ (ks : List Tid). KeepsLife (m j tasks k) TaskLife (s.tasks j k) (has_slot k ks)) (sym (made_tasks j)) task.life;
              live = λ t is. task_owed w s owes other alike _ (m j tasks k) t (task.live t is);
            });
        making = making_kept j o.making;
        objects = objects_owed s (owes j) (other j) (alike j) (subst (λ (ms : List (Tid × ℕ)). All (λ x. WaitsFor s x.1 x.0) ms) (sym (assigns j)) o.objects.assigns) o.objects;
      }

  region_taken : KeepsWords w after s other
  region_taken = record {
    runtime_record = subst (λ (r : Rec). KeepsRuntime w r s) (sym (stays 0 runtime 0 (λ kind. absurd (omega (arith, kind))))) keeps.runtime_record;
    made = made;
    deferred = subst (λ (r : ℕ → ℕ → Rec). KeepsDeferred w r s other) (sym tasks_same) (deferred_owed w s owes other alike (λ c. m c tasks) keeps.deferred);
    groups =
        subst (λ (r : ℕ → ℕ → Rec). KeepsGroups w r s other) (sym tasks_same)
        (groups_owed w (λ c. m c tasks) s owes other (λ j. alike_on_groups (other j) (owes j) (alike j)) keeps.groups);
  }

pub region_takes_keep : RegionTakesKeep
region_takes_keep = λ w m s owes i n keeps none making. region_taken w m s owes i n keeps none making
