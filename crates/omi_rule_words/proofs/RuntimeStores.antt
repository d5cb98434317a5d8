-- Stores into the runtime record.
use Rattle.std.proofs.Common.{◌≡◌, ℕ, List, Option, refl, sym, ap, subst, arith}
use Rattle.omi_model.specs.State.{State}
use Rattle.omi_layout.specs.declared.field.Field.{Field}
use Rattle.omi_layout.specs.declared.field.Field.TheVariants.{RegionLife, TaskLife, TaskSlots, ThreadAssign}
use Rattle.omi_layout.specs.Field.{runtime, threads, regions, tasks}
use Rattle.omi_layout.specs.Memory.{Memory, Rec, with_word, with_word_in}
use Rattle.omi_layout.specs.Named.{number}
use Rattle.omi_layout.proofs.Puts.{record_read, record_stays}
use Rattle.omi_rule_words.specs.Owes.{Owed}
use Rattle.omi_rule_words.specs.Threads.{KeepsRuntime, KeepsThread}
use Rattle.omi_rule_words.specs.Objects.{KeepsRegion}
use Rattle.omi_rule_words.specs.Words.{KeepsTask, KeepsWords, region_in, task_in}
use Rattle.omi_rule_words.specs.TaskKinds.{IsSameTask, RuntimeStoresKeep, with_runtime}
use Rattle.omi_rule_words.proofs.Alike.{IsSameRegion, same_region, same_task, slots_same}
use Rattle.omi_rule_words.proofs.OtherStates.{other_states}

pub runtime_stores_keep : RuntimeStoresKeep
runtime_stores_keep =
    λ w m s owes max_active locks f at word keeps is. kept w m s owes max_active locks f at word keeps is
  where
    kept : (w : List ℕ) (m : Memory) (s : State) (owes : ℕ → Owed) (max_active : ℕ) (locks : ℕ → Option ℕ) (f : Field) (at word : ℕ)
        → KeepsWords w m s owes
        → KeepsRuntime w (with_word_in (m 0 runtime 0) (number f) at word) (with_runtime s max_active locks)
        → KeepsWords w (with_word m 0 runtime 0 (number f) at word) (with_runtime s max_active locks) owes
    kept w m s owes max_active locks f at word keeps is =
        other_states w s (with_runtime s max_active locks) owes refl
        (slots_same IsSameRegion same_region s.regions) (slots_same IsSameTask same_task s.tasks) m n keeps
        (λ i. ap (λ (r : Rec). r (number ThreadAssign) 0) (stays i threads 0 (λ kind. absurd (omega (arith, kind)))))
        (λ i j. ap (λ (r : Rec). r (number RegionLife) 0) (stays i regions j (λ kind. absurd (omega (arith, kind)))))
        (λ i j. ap (λ (r : Rec). r (number TaskLife) 0) (stays i tasks j (λ kind. absurd (omega (arith, kind)))))
        (λ i j p. ap (λ (r : Rec). r (number TaskSlots) p) (stays i tasks j (λ kind. absurd (omega (arith, kind)))))
        (subst (λ (r : Rec). KeepsRuntime w r (with_runtime s max_active locks)) (sym (record_read m 0 runtime 0 (number f) at word)) is)
        (λ i known. subst (λ (r : Rec). KeepsThread w i r (s.threads i)) (sym (stays i threads 0 (λ kind. absurd (omega (arith, kind))))) (keeps.made i known).thread)
        (λ i j known within x there. subst (λ (r : Rec). KeepsRegion w s owes (region_in i j (s.regions i j)) r x)
        (sym (stays i regions j (λ kind. absurd (omega (arith, kind))))) (((keeps.made i known).regions j within).live x there))
        (λ i j known within t there. subst (λ (r : Rec). KeepsTask w s owes (task_in i j (s.tasks i j)) r t)
        (sym (stays i tasks j (λ kind. absurd (omega (arith, kind))))) (((keeps.made i known).tasks j within).live t there))
      where
        n : Memory
        n = with_word m 0 runtime 0 (number f) at word

        stays : (c kind j : ℕ) → (kind ≡ runtime → ⊥) → n c kind j ≡ m c kind j
        stays c kind j ne = record_stays m 0 runtime 0 (number f) at word c kind j (λ _ is _. ne is)
