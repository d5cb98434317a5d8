-- Stores into the record of a task, but for its life word, counts and slots.
use Rattle.std.proofs.Common.{◌≡◌, ◌==◌, ◌+◌, ◌<◌, ℕ, Bool, true, false, List, Some, None, refl, sym, ap, subst, arith, if◌then◌else◌}
use Rattle.std.specs.Option.{option_map}
use Rattle.omi_model.specs.declared.slot.Slot.{Slot}
use Rattle.omi_model.specs.declared.id.Tid.{Tid}
use Rattle.omi_model.specs.declared.task.Task.{Task}
use Rattle.omi_model.specs.Changes.{on_task}
use Rattle.omi_model.specs.Put.{changed, found}
use Rattle.omi_model.specs.State.{State, task_of}
use Rattle.omi_model.proofs.Slots.{each_slot, found_live}
use Rattle.omi_layout.specs.declared.field.Field.{Field}
use Rattle.omi_layout.specs.declared.field.Field.TheVariants.{RegionLife, TaskChildren, TaskLife, TaskSlots, ThreadAssign, TaskReferences}
use Rattle.omi_layout.specs.Field.{runtime, threads, regions, tasks}
use Rattle.omi_layout.specs.Memory.{Memory, Rec, with_word, with_word_in}
use Rattle.omi_layout.specs.Named.{number}
use Rattle.omi_layout.specs.Table.{per_thread}
use Rattle.omi_layout.proofs.Puts.{record_read, record_stays, word_stays}
use Rattle.omi_rep.specs.Codes.{HasCodes, task_code, task_told}
use Rattle.omi_rule_words.specs.Owes.{Owed}
use Rattle.omi_rule_words.specs.Threads.{KeepsRuntime, KeepsThread}
use Rattle.omi_rule_words.specs.Objects.{KeepsRegion}
use Rattle.omi_rule_words.specs.Words.{KeepsTask, KeepsWords, region_in, task_in}
use Rattle.omi_rule_words.specs.TaskKinds.{IsOfTask, IsSameTask, TaskStoresKeep}
use Rattle.omi_rule_words.proofs.Alike.{IsSameRegion, kind_of, on_alike, same_region, same_task, slots_same}
use Rattle.omi_rule_words.proofs.OtherStates.{other_states, task_rewritten}

-- the object of a name that is changed
pub changed_live : {A : Type 0} (n : ℕ) (g : A → A) (slot : Slot A) (x y : A) → found n slot ≡ Some x
    → (changed n g slot).live ≡ Some y → y ≡ g x
changed_live {A} n g slot x y there is = go (slot.generations == n + 1) there is
  where
    mapped : slot.live ≡ Some x → option_map g slot.live ≡ Some y → y ≡ g x
    mapped live now = let is : option_map g slot.live ≡ Some (g x) = ap (option_map g) live in cc

    go : (b : Bool) → (if b then slot.live else None) ≡ Some x
        → (if b then record { generations = slot.generations; live = option_map g slot.live } else slot).live ≡ Some y
        → y ≡ g x
    go true = mapped
    go false = λ none _. absurd (cc)

pub task_stores_keep : TaskStoresKeep
task_stores_keep =
    λ w m s owes k t g f at word keeps live same field codes. kept w m s owes k t g f at word keeps live same field codes
  where
    kept : (w : List ℕ) (m : Memory) (s : State) (owes : ℕ → Owed) (k : Tid) (t : Task) (g : Task → Task) (f : Field) (at word : ℕ)
        → KeepsWords w m s owes
        → task_of s k ≡ Some t → IsSameTask t (g t) → IsOfTask f
        → HasCodes (task_code w (task_told (g t)))
        (with_word_in (m k.0.creator tasks k.0.slot) (number f) at word)
        → KeepsWords w (with_word m k.0.creator tasks k.0.slot (number f) at word) (on_task s k g) owes
    kept w m s owes k t g f at word keeps live same field codes =
        other_states w s (on_task s k g) owes refl (slots_same IsSameRegion same_region s.regions)
        (on_alike IsSameTask same_task s.tasks k.0 g (λ x is. let there : t ≡ x = cc in subst (λ (v : Task). IsSameTask v (g v)) there same)) m n keeps
        (λ i. ap (λ (r : Rec). r (number ThreadAssign) 0) (stays i threads 0 (λ kind. absurd (omega (arith, kind)))))
        (λ i j. ap (λ (r : Rec). r (number RegionLife) 0) (stays i regions j (λ kind. absurd (omega (arith, kind)))))
        (λ i j. word_stays m k.0.creator tasks k.0.slot (number f) at word i tasks j (number TaskLife) 0 (λ _ _ _ is _. field.life (sym is)))
        (λ i j p. word_stays m k.0.creator tasks k.0.slot (number f) at word i tasks j (number TaskSlots) p (λ _ _ _ is _. field.slots (sym is)))
        (subst (λ (r : Rec). KeepsRuntime w r (on_task s k g)) (sym (stays 0 runtime 0 (λ kind. absurd (omega (arith, kind))))) keeps.runtime_record)
        (λ i known. subst (λ (r : Rec). KeepsThread w i r (s.threads i)) (sym (stays i threads 0 (λ kind. absurd (omega (arith, kind))))) (keeps.made i known).thread)
        (λ i j known within x is. subst (λ (r : Rec). KeepsRegion w s owes (region_in i j (s.regions i j)) r x)
        (sym (stays i regions j (λ kind. absurd (omega (arith, kind))))) (((keeps.made i known).regions j within).live x is))
        (λ i j known within. each_slot s.tasks k.0 (λ c slot (y : Slot Task). c < s.count
        → slot < per_thread w tasks → (v : Task) → y.live ≡ Some v → KeepsTask w s owes (task_in c slot (s.tasks c slot)) (n c tasks slot) v)
        (changed k.0.generation g (s.tasks k.0.creator k.0.slot)) here beside i j known within)
      where
        n : Memory
        n = with_word m k.0.creator tasks k.0.slot (number f) at word

        stays : (c kind j : ℕ) → (kind ≡ tasks → ⊥) → n c kind j ≡ m c kind j
        stays c kind j ne =
            record_stays m k.0.creator tasks k.0.slot (number f) at word c kind j (λ _ is _. ne is)

        read : n k.0.creator tasks k.0.slot ≡ with_word_in (m k.0.creator tasks k.0.slot) (number f) at word
        read = record_read m k.0.creator tasks k.0.slot (number f) at word

        now : HasCodes (task_code w (task_told (g t))) (n k.0.creator tasks k.0.slot)
        now = subst (λ (r : Rec). HasCodes (task_code w (task_told (g t))) r) (sym read) codes

        beside : (c slot : ℕ) → (c ≡ k.0.creator → slot ≡ k.0.slot → ⊥) → c < s.count
            → slot < per_thread w tasks → (v : Task) → (s.tasks c slot).live ≡ Some v
            → KeepsTask w s owes (task_in c slot (s.tasks c slot)) (n c tasks slot) v
        beside c slot apart known within v is =
            subst (λ (r : Rec). KeepsTask w s owes (task_in c slot (s.tasks c slot)) r v)
            (sym (record_stays m k.0.creator tasks k.0.slot (number f) at word c tasks slot (λ creator _ place. apart creator place)))
            (((keeps.made c known).tasks slot within).live v is)

        here : k.0.creator < s.count → k.0.slot < per_thread w tasks → (v : Task)
            → (changed k.0.generation g (s.tasks k.0.creator k.0.slot)).live ≡ Some v
            → KeepsTask w s owes (task_in k.0.creator k.0.slot (s.tasks k.0.creator k.0.slot))
            (n k.0.creator tasks k.0.slot) v
        here known within v is =
            subst
            (λ (x : Task). KeepsTask w s owes (task_in k.0.creator k.0.slot (s.tasks k.0.creator k.0.slot)) (n k.0.creator tasks k.0.slot) x)
            (sym (changed_live k.0.generation g (s.tasks k.0.creator k.0.slot) t v live is))
            (task_rewritten w s owes (task_in k.0.creator k.0.slot (s.tasks k.0.creator k.0.slot)) (m k.0.creator tasks k.0.slot) (n k.0.creator tasks k.0.slot) t (g t) (kind_of t (g t) same)
            (word_stays m k.0.creator tasks k.0.slot (number f) at word k.0.creator tasks k.0.slot (number TaskChildren) 0 (λ _ _ _ is _. field.children (sym is)))
            (word_stays m k.0.creator tasks k.0.slot (number f) at word k.0.creator tasks k.0.slot (number TaskReferences) 0 (λ _ _ _ is _. field.references (sym is)))
            (λ p _. word_stays m k.0.creator tasks k.0.slot (number f) at word k.0.creator tasks k.0.slot (number TaskSlots) p (λ _ _ _ is _. field.slots (sym is)))
            (λ _ h x v _ told. now h x v told)
            (λ _ h x v _ told. now h x v told)
            (((keeps.made k.0.creator known).tasks k.0.slot within).live t (found_live k.0.generation (s.tasks k.0.creator k.0.slot) t live)))
