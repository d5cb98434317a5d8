-- Stores into the place of a deferred task, of which nothing is said until the task starts.
use Rattle.std.proofs.Common.{◌≡◌, ◌==◌, ◌&&◌, ◌<◌, ℕ, true, false, List, Some, refl, sym, ap, subst, ◌∙◌, arith}
use Rattle.omi_model.specs.declared.id.Tid.{Tid}
use Rattle.omi_model.specs.declared.progress.Progress.TheVariants as progress
use Rattle.omi_model.specs.declared.task.Task.{Task}
use Rattle.omi_model.specs.State.{State}
use Rattle.omi_model.proofs.Slots.{found_live, some_same}
use Rattle.omi_layout.specs.declared.field.Field.{Field}
use Rattle.omi_layout.specs.declared.field.Field.TheVariants.{RegionLife, TaskChildren, TaskLife, TaskSlots, ThreadAssign, TaskReferences}
use Rattle.omi_layout.specs.Field.{runtime, threads, regions, tasks}
use Rattle.omi_layout.specs.Memory.{Memory, Rec, with_word}
use Rattle.omi_layout.specs.Named.{number}
use Rattle.omi_layout.specs.Table.{per_thread}
use Rattle.omi_layout.proofs.Puts.{record_stays, word_stays}
use Rattle.omi_rep.specs.Codes.{is_place}
use Rattle.omi_rule_words.specs.Owes.{Owed}
use Rattle.omi_rule_words.specs.Counts.{is_explicit, one}
use Rattle.omi_rule_words.specs.Threads.{KeepsRuntime, KeepsThread}
use Rattle.omi_rule_words.specs.Objects.{KeepsRegion}
use Rattle.omi_rule_words.specs.Words.{KeepsTask, KeepsWords, region_in, task_in}
use Rattle.omi_rule_words.specs.ExplicitKinds.{IsDeferred, PlaceStoresKeep}
use Rattle.omi_rule_words.proofs.Alike.{IsSameRegion, same_region, same_task, slots_same}
use Rattle.omi_rule_words.specs.TaskKinds.{IsSameTask}
use Rattle.omi_rule_words.proofs.EachPlace.{each_place}
use Rattle.omi_rule_words.proofs.OtherStates.{other_states}
use Rattle.omi_rule_words.proofs.StoredCodes.{place_apart}

module _ (w : List ℕ) (m : Memory) (s : State) (owes : ℕ → Owed) (k : Tid) (t : Task) (f : Field)
    (at word : ℕ) (keeps : KeepsWords w m s owes) (is : IsDeferred s k t) (field : is_place f ≡ true) where
  abbrev after : Memory
  after = with_word m k.0.creator tasks k.0.slot (number f) at word

  stays : (c kind j : ℕ) → (kind ≡ tasks → ⊥) → after c kind j ≡ m c kind j
  stays c kind j ne =
      record_stays m k.0.creator tasks k.0.slot (number f) at word c kind j (λ _ same _. ne same)

  -- a word that is none of the place
  other_word : (g : Field) → is_place g ≡ false → (c j p : ℕ)
      → after c tasks j (number g) p ≡ m c tasks j (number g) p
  other_word g none c j p =
      word_stays m k.0.creator tasks k.0.slot (number f) at word c tasks j (number g) p
      (λ _ _ _ same _. place_apart f g field none (sym same))

  here : k.0.creator < s.count → k.0.slot < per_thread w tasks → (x : Task)
      → (s.tasks k.0.creator k.0.slot).live ≡ Some x
      → KeepsTask w s owes (task_in k.0.creator k.0.slot (s.tasks k.0.creator k.0.slot))
      (after k.0.creator tasks k.0.slot) x
  here known within x there =
      let o = ((keeps.made k.0.creator known).tasks k.0.slot within).live x there in
      let same : t ≡ x =
      some_same (found_live k.0.generation (s.tasks k.0.creator k.0.slot) t is.live) there in
      let deferred : x.progress ≡ progress.Deferred =
      sym (ap (λ (y : Task). y.progress) same) ∙ is.progress in
      record {
        environment = λ g p v none told. other_word g none k.0.creator k.0.slot p ∙ o.environment g p v none told;
        place = λ has. absurd (has (sym (ap (λ (y : Task). y.implicit) same) ∙ is.explicit) deferred);
        counts = record {
          children = other_word TaskChildren refl k.0.creator k.0.slot 0 ∙ o.counts.children;
          references = other_word TaskReferences refl k.0.creator k.0.slot 0 ∙ o.counts.references;
          given = o.counts.given ∙ ap (λ y. one (is_explicit x && y == 0)) (sym (other_word TaskReferences refl k.0.creator k.0.slot 0));
        };
        slots = λ implicit. let explicit : x.implicit ≡ false = sym (ap (λ (y : Task). y.implicit) same) ∙ is.explicit in absurd (cc);
      }

  task_kept : (c j : ℕ) → c < s.count → j < per_thread w tasks → (x : Task) → (s.tasks c j).live ≡ Some x
      → KeepsTask w s owes (task_in c j (s.tasks c j)) (after c tasks j) x
  task_kept =
      each_place
      (λ c j. c < s.count → j < per_thread w tasks → (x : Task) → (s.tasks c j).live ≡ Some x → KeepsTask w s owes (task_in c j (s.tasks c j)) (after c tasks j) x)
      k.0.creator k.0.slot here
      (λ c j apart known within x there. subst (λ (r : Rec). KeepsTask w s owes (task_in c j (s.tasks c j)) r x)
      (sym (record_stays m k.0.creator tasks k.0.slot (number f) at word c tasks j (λ creator _ place. apart creator place)))
      (((keeps.made c known).tasks j within).live x there))

  place_stored : KeepsWords w after s owes
  place_stored =
      other_states w s s owes refl (slots_same IsSameRegion same_region s.regions)
      (slots_same IsSameTask same_task s.tasks) m after keeps
      (λ i. ap (λ (r : Rec). r (number ThreadAssign) 0) (stays i threads 0 (λ kind. absurd (omega (arith, kind)))))
      (λ i j. ap (λ (r : Rec). r (number RegionLife) 0) (stays i regions j (λ kind. absurd (omega (arith, kind)))))
      (λ i j. other_word TaskLife refl i j 0)
      (λ i j p. other_word TaskSlots refl i j p)
      (subst (λ (r : Rec). KeepsRuntime w r s) (sym (stays 0 runtime 0 (λ kind. absurd (omega (arith, kind))))) keeps.runtime_record)
      (λ i known. subst (λ (r : Rec). KeepsThread w i r (s.threads i)) (sym (stays i threads 0 (λ kind. absurd (omega (arith, kind))))) (keeps.made i known).thread)
      (λ i j known within x there. subst (λ (r : Rec). KeepsRegion w s owes (region_in i j (s.regions i j)) r x)
      (sym (stays i regions j (λ kind. absurd (omega (arith, kind))))) (((keeps.made i known).regions j within).live x there))
      task_kept

pub place_stores_keep : PlaceStoresKeep
place_stores_keep =
    λ w m s owes k t f at word keeps is field. place_stored w m s owes k t f at word keeps is field
