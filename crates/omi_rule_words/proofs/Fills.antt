-- Private stores into a record in the making.
use Rattle.std.proofs.Common.{◌≡◌, ◌≢◌, ◌==◌, ◌&&◌, ℕ, Bool, true, false, List, None, refl, sym, ap, subst, ◌∙◌, arith, if◌then◌else◌, ◌+◌}
use mathlib.Core.Path.{fun_ext}
use Rattle.std.proofs.lemmas.Bool.Decides.{nat_tests}
use Rattle.omi_rep.specs.Records.{slot_word}
use Rattle.omi_model.specs.declared.slot.Slot.{Slot}
use Rattle.omi_model.specs.declared.task.Task.{Task}
use Rattle.omi_model.specs.State.{State}
use Rattle.omi_model.proofs.Slots.{found_live}
use Rattle.omi_numbers.specs.declared.limits.TheConstants.{OWN_SLOTS}
use Rattle.omi_layout.specs.declared.field.Field.{Field}
use Rattle.omi_layout.specs.declared.field.Field.TheVariants.{RegionLife, TaskLife, TaskSlots}
use Rattle.omi_layout.specs.Field.{runtime, threads, regions, tasks}
use Rattle.omi_layout.specs.Memory.{Rec, Memory, with_word}
use Rattle.omi_layout.specs.Named.{number}
use Rattle.omi_layout.proofs.Puts.{record_stays, word_stays}
use Rattle.omi_layout.specs.declared.limits.TheConstants.{COUNT_PLACE}
use Rattle.omi_rule_words.specs.Owes.{Owed}
use Rattle.omi_rule_words.specs.Counts.{of_live, one, sum_below, has_slot, has_region_slot}
use Rattle.omi_rule_words.specs.Threads.{KeepsRuntime}
use Rattle.omi_rule_words.specs.Objects.{KeepsDeferred, KeepsLife, slots_with}
use Rattle.omi_rule_words.specs.Words.{KeepsRegionSlot, KeepsTaskSlot, KeepsWords}
use Rattle.omi_rule_words.specs.Kinds.{RegionFillsKeep, TaskFillsKeep}
use Rattle.omi_rule_words.proofs.MadeSlots.{made_kept}
use Rattle.omi_rule_words.proofs.Alike
use Rattle.omi_rule_words.proofs.Sums.{slots_same}
use Rattle.omi_rule_words.specs.Groups.{KeepsGroups}
use Rattle.omi_rule_words.proofs.GroupCounts.{groups_read}

-- a life word that stays
pub life_same : {A : Type 0} (r q : Rec) (life : Field) (slot : Slot A) (owed : Bool)
    → q (number life) 0 ≡ r (number life) 0 → KeepsLife r life slot owed → KeepsLife q life slot owed
life_same {A} r q life slot owed =
    Alike.life_alike (λ x y. x ≡ y) r q life slot slot owed
    (Alike.slots_same (λ x y. x ≡ y) (λ x. refl) (λ _ _. slot) 0 0)

-- a slot word stands in as many slots as before, where the record of a slot without a live object is another
pub slots_stay : (w : List ℕ) (m : Memory) (s : State) (i slot f at word : ℕ) → (s.tasks i slot).live ≡ None
    → (code : ℕ)
    → slots_with w (λ c. with_word m i tasks slot f at word c tasks) s code ≡ slots_with w (λ c. m c tasks) s code
slots_stay w m s i slot f at word none code =
    slots_same w s (held n) (held m) (λ c k. go c k (c == i && k == slot) refl)
  where
    n : Memory
    n = with_word m i tasks slot f at word

    -- the slots of a task that hold the word
    in_record : Rec → Task → ℕ
    in_record r t =
        if t.implicit then sum_below OWN_SLOTS (λ place. one (r (number TaskSlots) place == code)) else 0

    held : Memory → ℕ → ℕ → Task → ℕ
    held x c k = in_record (x c tasks k)

    go : (c k : ℕ) → (b : Bool) → (c == i && k == slot) ≡ b
        → of_live (held n c k) (s.tasks c k).live ≡ of_live (held m c k) (s.tasks c k).live
    go c k true e =
        let creator : c ≡ i = grind (arith, nat_tests) in
        let place : k ≡ slot = grind (arith, nat_tests) in
        let empty : (s.tasks c k).live ≡ None =
        subst (λ d. (s.tasks d k).live ≡ None) (sym creator)
        (subst (λ q. (s.tasks i q).live ≡ None) (sym place) none) in
        ap (of_live (held n c k)) empty ∙ sym (ap (of_live (held m c k)) empty)
    go c k false e =
        ap (λ (r : Rec). of_live (in_record r) (s.tasks c k).live)
        (record_stays m i tasks slot f at word c tasks k (λ creator _ place. grind (arith, nat_tests)))

-- and the counts of groups are as before
pub groups_stay : (w : List ℕ) (m : Memory) (s : State) (owes : ℕ → Owed) (i slot f at word : ℕ)
    → (s.tasks i slot).live ≡ None → KeepsGroups w (λ c. m c tasks) s owes
    → KeepsGroups w (λ c. with_word m i tasks slot f at word c tasks) s owes
groups_stay w m s owes i slot f at word none o =
    groups_read w (λ c. m c tasks) (λ c. with_word m i tasks slot f at word c tasks) s owes
    (λ k t index live few.
    let there = found_live k.0.generation (s.tasks k.0.creator k.0.slot) t live in
    ap (λ (r : Rec). r (number TaskSlots) (COUNT_PLACE + index))
    (record_stays m i tasks slot f at word k.0.creator tasks k.0.slot
    (λ creator _ place.
    let empty : (s.tasks k.0.creator k.0.slot).live ≡ None =
    subst (λ d. (s.tasks d k.0.slot).live ≡ None) (sym creator) (subst (λ q. (s.tasks i q).live ≡ None) (sym place) none) in
    absurd (cc)))) o

pub region_fills_keep : RegionFillsKeep
region_fills_keep =
    λ w m s owes i slot f at word keeps none other. kept w m s owes i slot f at word keeps none other
  where
    kept : (w : List ℕ) (m : Memory) (s : State) (owes : ℕ → Owed) (i slot : ℕ) (f : Field) (at word : ℕ)
        → KeepsWords w m s owes → (s.regions i slot).live ≡ None
        → number f ≢ number RegionLife → KeepsWords w (with_word m i regions slot (number f) at word) s owes
    kept w m s owes i slot f at word keeps none other = record {
      groups = subst (λ (r : ℕ → ℕ → Rec). KeepsGroups w r s owes) (sym tasks_same) keeps.groups;
      runtime_record = subst (λ (r : Rec). KeepsRuntime w r s) (sym (stays 0 runtime 0 (λ kind. absurd (omega (arith, kind))))) keeps.runtime_record;
      made = λ j known.
          let o = keeps.made j known in
          made_kept w s owes j (m j) (n j) (stays j threads 0 (λ kind. absurd (omega (arith, kind)))) o
          (λ k within. region j k (o.regions k within) (j == i && k == slot) refl)
          (λ k within. subst (λ (r : Rec). KeepsTaskSlot w s owes j k r) (sym (stays j tasks k (λ kind. absurd (omega (arith, kind))))) (o.tasks k within));
      deferred = subst (λ (r : ℕ → ℕ → Rec). KeepsDeferred w r s owes) (sym tasks_same) keeps.deferred;
    }
      where
        n : Memory
        n = with_word m i regions slot (number f) at word

        stays : (c kind k : ℕ) → (kind ≡ regions → ⊥) → n c kind k ≡ m c kind k
        stays c kind k ne = record_stays m i regions slot (number f) at word c kind k (λ _ same _. ne same)

        tasks_same : ◌≡◌ {A = ℕ → ℕ → Rec} (λ c. n c tasks) (λ c. m c tasks)
        tasks_same = fun_ext (λ c. fun_ext (λ k. stays c tasks k (λ kind. absurd (omega (arith, kind)))))

        region : (j k : ℕ) → KeepsRegionSlot w s owes j k (m j regions k) → (b : Bool)
            → (j == i && k == slot) ≡ b → KeepsRegionSlot w s owes j k (n j regions k)
        region j k o true e =
            let creator : j ≡ i = grind (arith, nat_tests) in
            let place : k ≡ slot = grind (arith, nat_tests) in
            let empty : (s.regions j k).live ≡ None =
            subst (λ c. (s.regions c k).live ≡ None) (sym creator)
            (subst (λ q. (s.regions i q).live ≡ None) (sym place) none) in
            record {
              life =
                  life_same (m j regions k) (n j regions k) RegionLife (s.regions j k)
                  (has_region_slot k (owes j).region)
                  (word_stays m i regions slot (number f) at word j regions k (number RegionLife) 0 (λ _ _ _ field _. other (sym field))) o.life;
              live = λ x is. absurd (cc);
            }
        region j k o false e =
            subst (λ (r : Rec). KeepsRegionSlot w s owes j k r)
            (sym (record_stays m i regions slot (number f) at word j regions k (λ creator _ place. grind (arith, nat_tests)))) o

pub task_fills_keep : TaskFillsKeep
task_fills_keep =
    λ w m s owes i slot f at word keeps none other. kept w m s owes i slot f at word keeps none other
  where
    kept : (w : List ℕ) (m : Memory) (s : State) (owes : ℕ → Owed) (i slot : ℕ) (f : Field) (at word : ℕ)
        → KeepsWords w m s owes → (s.tasks i slot).live ≡ None
        → number f ≢ number TaskLife → KeepsWords w (with_word m i tasks slot (number f) at word) s owes
    kept w m s owes i slot f at word keeps none other = record {
      runtime_record = subst (λ (r : Rec). KeepsRuntime w r s) (sym (stays 0 runtime 0 (λ kind. absurd (omega (arith, kind))))) keeps.runtime_record;
      made = λ j known.
          let o = keeps.made j known in
          made_kept w s owes j (m j) (n j) (stays j threads 0 (λ kind. absurd (omega (arith, kind)))) o
          (λ k within. subst (λ (r : Rec). KeepsRegionSlot w s owes j k r) (sym (stays j regions k (λ kind. absurd (omega (arith, kind))))) (o.regions k within))
          (λ k within. task j k (o.tasks k within) (j == i && k == slot) refl);
      deferred = record {
        once = λ k t live deferred.
            let was = keeps.deferred.once k t live deferred in
            let same = slots_stay w m s i slot (number f) at word none (slot_word w k) in
            omega (arith, was, same);
        hands = keeps.deferred.hands;
      };
      groups = groups_stay w m s owes i slot (number f) at word none keeps.groups;
    }
      where
        n : Memory
        n = with_word m i tasks slot (number f) at word

        stays : (c kind k : ℕ) → (kind ≡ tasks → ⊥) → n c kind k ≡ m c kind k
        stays c kind k ne = record_stays m i tasks slot (number f) at word c kind k (λ _ same _. ne same)

        empty : (j k : ℕ) → (j == i && k == slot) ≡ true → (s.tasks j k).live ≡ None
        empty j k e =
            let creator : j ≡ i = grind (arith, nat_tests) in
            let place : k ≡ slot = grind (arith, nat_tests) in
            subst (λ c. (s.tasks c k).live ≡ None) (sym creator)
            (subst (λ q. (s.tasks i q).live ≡ None) (sym place) none)

        task : (j k : ℕ) → KeepsTaskSlot w s owes j k (m j tasks k) → (b : Bool) → (j == i && k == slot) ≡ b
            → KeepsTaskSlot w s owes j k (n j tasks k)
        task j k o true e =
            let none_there = empty j k e in
            record {
              life = life_same (m j tasks k) (n j tasks k) TaskLife (s.tasks j k) (has_slot k (owes j).tasks)
                  (word_stays m i tasks slot (number f) at word j tasks k (number TaskLife) 0 (λ _ _ _ field _. other (sym field))) o.life;
              live = λ x is. absurd (cc);
            }
        task j k o false e =
            subst (λ (r : Rec). KeepsTaskSlot w s owes j k r)
            (sym (record_stays m i tasks slot (number f) at word j tasks k (λ creator _ place. grind (arith, nat_tests)))) o
