-- A record is taken for a task.
use Rattle.std.proofs.Common.{◌≡◌, ◌==◌, ◌&&◌, ◌||◌, ◌<◌, ℕ, ◌+◌, ◌*◌, Bool, true, false, List, [], ◌∷◌, ◌++◌, Option, None, refl, sym, ap, subst, ◌∙◌, arith, eqb-true, if◌then◌else◌}
use Rattle.std.specs.Prelude.{All}
use Rattle.std.proofs.lemmas.Bool.Decides.{nat_tests}
use Rattle.std.proofs.lemmas.List.Elements.{All-push}
use Rattle.omi_rep.specs.Records.{slot_word}
use Rattle.omi_model.specs.declared.id.Rid.{Rid}
use Rattle.omi_model.specs.declared.id.Tid.{Tid}
use Rattle.omi_model.specs.State.{State}
use Rattle.omi_layout.specs.declared.field.Field.TheVariants.{RegionLife, TaskLife}
use Rattle.omi_layout.specs.Field.{runtime, threads, regions, tasks}
use Rattle.omi_layout.specs.Memory.{Rec, Memory, replace_at, with_word}
use Rattle.omi_layout.specs.Named.{number}
use Rattle.omi_layout.proofs.Puts.{each_put, record_stays, word_read}
use Rattle.omi_rule_words.specs.Owes.{Owed}
use Rattle.omi_rule_words.specs.Counts.{has_region_slot, has_slot}
use Rattle.omi_rule_words.specs.Threads.{KeepsAssign, KeepsRuntime, KeepsThread, WaitsFor}
use Rattle.omi_rule_words.specs.Objects.{KeepsDeferred, KeepsLife}
use Rattle.omi_rule_words.specs.Words.{AreApart, IsInTheMaking, KeepsMade, KeepsMaking, KeepsRegionSlot, KeepsTaskSlot, KeepsWords}
use Rattle.omi_rule_words.specs.Kinds.{TaskTakesKeep}
use Rattle.omi_rule_words.proofs.OtherOwes.{OwesAlike, owes_alike, assign_owed_same, deferred_owed, objects_owed, region_owed, task_owed, alike_on_groups}
use Rattle.omi_rule_words.proofs.Fills.{slots_stay, groups_stay}
use Rattle.omi_rule_words.proofs.GroupCounts.{groups_owed}

-- one task more in the making
has_slot_more : (k : ℕ) (ks : List Tid) (n : Tid) → n.0.slot == k ≡ false
    → has_slot k (ks ++ n ∷ []) ≡ has_slot k ks
has_slot_more k [] n apart = ap (λ (b : Bool). b || false) apart
has_slot_more k (x ∷ xs) n apart = ap (λ (b : Bool). x.0.slot == k || b) (has_slot_more k xs n apart)

has_slot_last : (ks : List Tid) (n : Tid) → has_slot n.0.slot (ks ++ n ∷ []) ≡ true
has_slot_last [] n =
    let same : n.0.slot == n.0.slot ≡ true = grind (arith, nat_tests) in ap (λ (b : Bool). b || false) same
has_slot_last (x ∷ xs) n = go (x.0.slot == n.0.slot) (has_slot_last xs n)
  where
    go : (b : Bool) → has_slot n.0.slot (xs ++ n ∷ []) ≡ true → b || has_slot n.0.slot (xs ++ n ∷ []) ≡ true
    go true last = refl
    go false last = last

apart_more : (ks : List Tid) (n : Tid) → AreApart ks → has_slot n.0.slot ks ≡ false → AreApart (ks ++ n ∷ [])
apart_more [] n apart unused = (refl, tt)
apart_more (x ∷ xs) n (first, rest) unused =
    (has_slot_more x.0.slot xs n (sides (x.0.slot == n.0.slot) refl unused).0 ∙ first, apart_more xs n rest (sides (x.0.slot == n.0.slot) refl unused).1)
  where
    sides : (b : Bool) → x.0.slot == n.0.slot ≡ b → b || has_slot n.0.slot xs ≡ false
        → (n.0.slot == x.0.slot ≡ false) × (has_slot n.0.slot xs ≡ false)
    sides true e or = absurd (cc)
    sides false e or = (grind (arith, nat_tests), or)

module _ (w : List ℕ) (m : Memory) (s : State) (owes : ℕ → Owed) (i : ℕ) (n : Tid)
    (keeps : KeepsWords w m s owes) (making : IsInTheMaking i (s.tasks i) n.0)
    (unused : has_slot n.0.slot (owes i).tasks ≡ false) where
  abbrev slot : ℕ
  slot = n.0.slot

  abbrev p : Owed
  p = record (owes i) { tasks = (owes i).tasks ++ n ∷ [] }

  abbrev other : ℕ → Owed
  other = replace_at owes i p

  abbrev after : Memory
  after = with_word m i tasks slot (number TaskLife) 0 (2 * n.0.generation + 1)

  stays : (c kind k : ℕ) → (kind ≡ tasks → ⊥) → after c kind k ≡ m c kind k
  stays c kind k ne =
      record_stays m i tasks slot (number TaskLife) 0 (2 * n.0.generation + 1) c kind k (λ _ same _. ne same)

  alike : (j : ℕ) → OwesAlike (other j) (owes j)
  alike j =
      each_put (λ k (x : Owed). OwesAlike x (owes k)) owes i p
      (record { pending = refl; raised = refl; lowered = refl; referred = refl; own = refl; returned = refl; gives = refl; left = refl; hand = refl; counted = refl; uncounted = refl }) j
      (λ _. owes_alike (owes j))

  assigns : (j : ℕ) → (other j).assigns ≡ (owes j).assigns
  assigns j = each_put (λ k (x : Owed). x.assigns ≡ (owes k).assigns) owes i p refl j (λ _. refl)

  met : (j : ℕ) → (other j).met ≡ (owes j).met
  met j = each_put (λ k (x : Owed). x.met ≡ (owes k).met) owes i p refl j (λ _. refl)

  made_region : (j : ℕ) → (other j).region ≡ (owes j).region
  made_region j = each_put (λ k (x : Owed). x.region ≡ (owes k).region) owes i p refl j (λ _. refl)

  -- the life word of a slot that is not the one taken
  life : (j k : ℕ) → (j == i && k == slot) ≡ false
      → KeepsLife (m j tasks k) TaskLife (s.tasks j k) (has_slot k (owes j).tasks)
      → KeepsLife (m j tasks k) TaskLife (s.tasks j k) (has_slot k (other j).tasks)
  life j k ne o = go (j == i) refl
    where
      go : (b : Bool) → j == i ≡ b
          → KeepsLife (m j tasks k) TaskLife (s.tasks j k) (has_slot k (if b then p else owes j).tasks)
      go true e =
          let creator : j ≡ i = eqb-true j i e in
          let apart : slot == k ≡ false = grind (arith, nat_tests) in
          let one_more = has_slot_more k (owes i).tasks n apart in
          subst (λ (b : Bool). KeepsLife (m j tasks k) TaskLife (s.tasks j k) b) (sym one_more)
          (subst (λ c. KeepsLife (m j tasks k) TaskLife (s.tasks j k) (has_slot k (owes c).tasks)) creator o)
      go false e = o

  empty : (s.tasks i slot).live ≡ None
  empty = making.free

  task : (j k : ℕ) → KeepsTaskSlot w s owes j k (m j tasks k) → (b : Bool) → (j == i && k == slot) ≡ b
      → KeepsTaskSlot w s other j k (after j tasks k)
  task j k o true e =
      let creator : j ≡ i = grind (arith, nat_tests) in
      let place : k ≡ slot = grind (arith, nat_tests) in
      subst (λ c. KeepsTaskSlot w s other c k (after c tasks k)) (sym creator)
      (subst (λ q. KeepsTaskSlot w s other i q (after i tasks q)) (sym place) taken)
    where
      taken : KeepsTaskSlot w s other i slot (after i tasks slot)
      taken = record {
        life = record {
          live = λ x is. absurd (cc);
          taken = λ _ _.
              let next = making.next in
              let is : after i tasks slot (number TaskLife) 0 ≡ 2 * n.0.generation + 1 =
              word_read m i tasks slot (number TaskLife) 0 (2 * n.0.generation + 1) in
              omega (arith, next, is);
          free = λ _ unowed.
              let owed : (other i).tasks ≡ (owes i).tasks ++ n ∷ [] =
              each_put (λ k (x : Owed). k ≡ i → x.tasks ≡ (owes i).tasks ++ n ∷ []) owes i p (λ _. refl) i
              (λ ne. absurd (ne refl)) refl in
              let there : has_slot slot (other i).tasks ≡ has_slot slot ((owes i).tasks ++ n ∷ []) =
              ap (has_slot slot) owed in
              let same : has_slot slot ((owes i).tasks ++ n ∷ []) ≡ true = has_slot_last (owes i).tasks n in
              absurd (cc);
        };
        live = λ x is. absurd (cc);
      }
  task j k o false e =
      subst (λ (r : Rec). KeepsTaskSlot w s other j k r)
      (sym (record_stays m i tasks slot (number TaskLife) 0 (2 * n.0.generation + 1) j tasks k (λ creator _ place. grind (arith, nat_tests))))
      (record { life = life j k e o.life; live = λ x is. task_owed w s owes other alike _ (m j tasks k) x (o.live x is) })

  own_making : KeepsMaking s i (owes i) → KeepsMaking s i p
  own_making before = record {
    region = before.region;
    tasks = All-push (λ (k : Tid). IsInTheMaking i (s.tasks i) k.0) (owes i).tasks n before.tasks making;
    apart = apart_more (owes i).tasks n before.apart unused;
  }

  making_kept : (j : ℕ) → KeepsMaking s j (owes j) → KeepsMaking s j (other j)
  making_kept j =
      each_put (λ k (x : Owed). KeepsMaking s k (owes k) → KeepsMaking s k x) owes i p own_making j (λ _ o. o)

  made : (j : ℕ) → j < s.count → KeepsMade w s other j (after j)
  made j known =
      let o = keeps.made j known in
      let thread : after j threads 0 ≡ m j threads 0 =
      stays j threads 0 (λ kind. absurd (omega (arith, kind))) in
      record {
        thread = subst (λ (r : Rec). KeepsThread w j r (s.threads j)) (sym thread) o.thread;
        assign = subst (λ (r : Rec). KeepsAssign w s other j r) (sym thread) (assign_owed_same w s owes other assigns met j (m j threads 0) o.assign);
        regions = λ k within.
            let region = o.regions k within in
            subst (λ (r : Rec). KeepsRegionSlot w s other j k r) (sym (stays j regions k (λ kind. absurd (omega (arith, kind))))) (record {
              life = subst (λ (q : Option Rid). KeepsLife (m j regions k) RegionLife (s.regions j k) (has_region_slot k q)) (sym (made_region j)) region.life;
              live = λ x is. region_owed w s owes other alike _ (m j regions k) x (region.live x is);
            });
        tasks = λ k within. task j k (o.tasks k within) (j == i && k == slot) refl;
        making = making_kept j o.making;
        objects = objects_owed s (owes j) (other j) (alike j) (subst (λ (ms : List (Tid × ℕ)). All (λ x. WaitsFor s x.1 x.0) ms) (sym (assigns j)) o.objects.assigns) o.objects;
      }

  deferred : KeepsDeferred w (λ c. after c tasks) s other
  deferred = record {
    once = λ k t live is.
        let was = (deferred_owed w s owes other alike (λ c. m c tasks) keeps.deferred).once k t live is in
        let same =
        slots_stay w m s i slot (number TaskLife) 0 (2 * n.0.generation + 1) empty (slot_word w k) in
        omega (arith, was, same);
    hands = (deferred_owed w s owes other alike (λ c. m c tasks) keeps.deferred).hands;
  }

  task_taken : KeepsWords w after s other
  task_taken = record {
    runtime_record = subst (λ (r : Rec). KeepsRuntime w r s) (sym (stays 0 runtime 0 (λ kind. absurd (omega (arith, kind))))) keeps.runtime_record;
    made = made;
    deferred = deferred;
    groups =
        groups_stay w m s other i slot (number TaskLife) 0 (2 * n.0.generation + 1) empty
        (groups_owed w (λ c. m c tasks) s owes other (λ j. alike_on_groups (other j) (owes j) (alike j)) keeps.groups);
  }

pub task_takes_keep : TaskTakesKeep
task_takes_keep = λ w m s owes i n keeps making unused. task_taken w m s owes i n keeps making unused
