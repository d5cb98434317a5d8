-- Stores into the record of a thread.
use Rattle.std.proofs.Common.{◌≡◌, ◌≢◌, ◌==◌, ◌<◌, ℕ, Bool, true, false, List, refl, sym, ap, subst, arith, eqb-true, if◌then◌else◌}
use Rattle.std.proofs.lemmas.Bool.Decides.{nat_tests}
use Rattle.omi_model.specs.declared.thread.Thread.{Thread}
use Rattle.omi_model.specs.State.{State}
use Rattle.omi_layout.specs.declared.field.Field.{Field}
use Rattle.omi_layout.specs.declared.field.Field.TheVariants.{RegionLife, TaskLife, TaskSlots, ThreadAssign}
use Rattle.omi_layout.specs.Field.{runtime, threads, regions, tasks}
use Rattle.omi_layout.specs.Memory.{Rec, Memory, with_word, with_word_in}
use Rattle.omi_layout.specs.Named.{number}
use Rattle.omi_layout.proofs.Puts.{record_read, record_stays, word_stays}
use Rattle.omi_rule_words.specs.Owes.{Owed}
use Rattle.omi_rule_words.specs.Threads.{KeepsRuntime, KeepsThread}
use Rattle.omi_rule_words.specs.Objects.{KeepsRegion}
use Rattle.omi_rule_words.specs.Words.{KeepsTask, KeepsWords, region_in, task_in}
use Rattle.omi_rule_words.specs.Kinds.{ThreadChangesKeep, ThreadStoresKeep, with_thread}
use Rattle.omi_rule_words.specs.TaskKinds.{IsSameTask}
use Rattle.omi_rule_words.proofs.Alike.{IsSameRegion, same_region, same_task, slots_same}
use Rattle.omi_rule_words.proofs.OtherStates.{other_states}

pub thread_stores_keep : ThreadStoresKeep
thread_stores_keep = λ w m s owes i h f word keeps other is. kept w m s owes i h f word keeps other is
  where
    kept : (w : List ℕ) (m : Memory) (s : State) (owes : ℕ → Owed) (i : ℕ) (h : Thread) (f : Field) (word : ℕ)
        → KeepsWords w m s owes → number f ≢ number ThreadAssign
        → KeepsThread w i (with_word_in (m i threads 0) (number f) 0 word) h → KeepsWords w (with_word m i threads 0 (number f) 0 word) (with_thread s i h) owes
    kept w m s owes i h f word keeps other is =
        other_states w s (with_thread s i h) owes refl (slots_same IsSameRegion same_region s.regions)
        (slots_same IsSameTask same_task s.tasks) m n keeps
        (λ j. word_stays m i threads 0 (number f) 0 word j threads 0 (number ThreadAssign) 0 (λ _ _ _ field _. other (sym field)))
        (λ j k. ap (λ (r : Rec). r (number RegionLife) 0) (stays j regions k (λ kind. absurd (omega (arith, kind)))))
        (λ j k. ap (λ (r : Rec). r (number TaskLife) 0) (stays j tasks k (λ kind. absurd (omega (arith, kind)))))
        (λ j k place. ap (λ (r : Rec). r (number TaskSlots) place) (stays j tasks k (λ kind. absurd (omega (arith, kind)))))
        (subst (λ (r : Rec). KeepsRuntime w r (with_thread s i h)) (sym (stays 0 runtime 0 (λ kind. absurd (omega (arith, kind))))) keeps.runtime_record)
        (λ j known. go j known (j == i) refl)
        (λ j k known within x there. subst (λ (r : Rec). KeepsRegion w s owes (region_in j k (s.regions j k)) r x)
        (sym (stays j regions k (λ kind. absurd (omega (arith, kind))))) (((keeps.made j known).regions k within).live x there))
        (λ j k known within t there. subst (λ (r : Rec). KeepsTask w s owes (task_in j k (s.tasks j k)) r t)
        (sym (stays j tasks k (λ kind. absurd (omega (arith, kind))))) (((keeps.made j known).tasks k within).live t there))
      where
        n : Memory
        n = with_word m i threads 0 (number f) 0 word

        stays : (c kind k : ℕ) → (kind ≡ threads → ⊥) → n c kind k ≡ m c kind k
        stays c kind k ne = record_stays m i threads 0 (number f) 0 word c kind k (λ _ same _. ne same)

        go : (j : ℕ) → j < s.count → (b : Bool) → j == i ≡ b
            → KeepsThread w j (n j threads 0) (if b then h else s.threads j)
        go j known true e =
            let same : i ≡ j = sym (eqb-true j i e) in
            subst (λ c. KeepsThread w c (n c threads 0) h) same
            (subst (λ (r : Rec). KeepsThread w i r h) (sym (record_read m i threads 0 (number f) 0 word)) is)
        go j known false e =
            subst (λ (r : Rec). KeepsThread w j r (s.threads j))
            (sym (record_stays m i threads 0 (number f) 0 word j threads 0 (λ same _ _. grind (arith, nat_tests))))
            (keeps.made j known).thread

pub thread_changes_keep : ThreadChangesKeep
thread_changes_keep = λ w m s owes i h keeps is. kept w m s owes i h keeps is
  where
    kept : (w : List ℕ) (m : Memory) (s : State) (owes : ℕ → Owed) (i : ℕ) (h : Thread)
        → KeepsWords w m s owes → KeepsThread w i (m i threads 0) h
        → KeepsWords w m (with_thread s i h) owes
    kept w m s owes i h keeps is =
        other_states w s (with_thread s i h) owes refl (slots_same IsSameRegion same_region s.regions)
        (slots_same IsSameTask same_task s.tasks) m m keeps
        (λ j. refl) (λ j k. refl) (λ j k. refl) (λ j k place. refl)
        keeps.runtime_record
        (λ j known. go j known (j == i) refl)
        (λ j k known within. ((keeps.made j known).regions k within).live)
        (λ j k known within. ((keeps.made j known).tasks k within).live)
      where
        go : (j : ℕ) → j < s.count → (b : Bool) → j == i ≡ b
            → KeepsThread w j (m j threads 0) (if b then h else s.threads j)
        go j known true e =
            let same : i ≡ j = sym (eqb-true j i e) in subst (λ c. KeepsThread w c (m c threads 0) h) same is
        go j known false e = (keeps.made j known).thread
