-- A task begins or ends a group: the store of the number of its open groups.
use Rattle.std.proofs.Common.{◌≡◌, ◌≢◌, ◌+◌, ◌<◌, ℕ, List, Some, refl, sym, ap, subst, ◌∙◌, arith, inl, inr}
use Rattle.std.specs.Prelude.{◌⊎◌}
use Rattle.std.specs.Option.{option_and_then}
use Rattle.omi_model.specs.declared.id.Id.{Id}
use Rattle.omi_model.specs.declared.id.Tid.{Tid}
use Rattle.omi_model.specs.declared.slot.Slot.{Slot}
use Rattle.omi_model.specs.declared.task.Task.{Task}
use Rattle.omi_model.specs.Changes.{on_task}
use Rattle.omi_model.specs.Groups.{group_within}
use Rattle.omi_model.specs.Put.{changed}
use Rattle.omi_model.specs.State.{State, task_of}
use Rattle.omi_model.proofs.Slots.{each_slot, found_live, on_other}
use Rattle.omi_layout.specs.declared.field.Field.TheVariants.{RegionLife, TaskChildren, TaskLife, TaskReferences, TaskSlots, ThreadAssign}
use Rattle.omi_layout.specs.declared.limits.TheConstants.{COUNT_PLACE, GROUP_PLACE, OPEN_PLACE}
use Rattle.omi_layout.specs.Field.{runtime, threads, regions, tasks}
use Rattle.omi_layout.specs.Memory.{Memory, Rec}
use Rattle.omi_layout.specs.Named.{number}
use Rattle.omi_layout.specs.Table.{per_thread}
use Rattle.omi_layout.proofs.Puts.{record_stays, word_read, word_stays}
use Rattle.omi_rep.specs.Codes.{task_code, task_told}
use Rattle.omi_rep.specs.Records.{group_word}
use Rattle.omi_rule_words.specs.Owes.{Owed}
use Rattle.omi_rule_words.specs.Threads.{KeepsRuntime, KeepsThread}
use Rattle.omi_rule_words.specs.Objects.{KeepsEnvironment, KeepsPlace, KeepsRegion}
use Rattle.omi_rule_words.specs.Words.{KeepsTask, KeepsWords, region_in, task_in}
use Rattle.omi_rule_words.specs.ExplicitKinds.{GroupStoresKeep, with_slot}
use Rattle.omi_rule_words.specs.Groups.{group_of_new}
use Rattle.omi_rule_words.proofs.Alike.{IsSameKind, IsSameRegion, SlotsAlike, on_alike, same_kind, same_region, slots_same}
use Rattle.omi_rule_words.proofs.OtherStates.{groups_alike, states_alike, task_rewritten}
use Rattle.omi_rule_words.proofs.StoredCodes.{group_told}
use Rattle.omi_rule_words.proofs.TaskStores.{changed_live}

module _ (w : List ℕ) (m : Memory) (s : State) (owes : ℕ → Owed) (k : Tid) (t : Task) (n : ℕ)
    (keeps : KeepsWords w m s owes) (live : task_of s k ≡ Some t)
    (uncounted : (j : ℕ) → j < s.count → (owes j).counted ≢ Some k) where
  abbrev g : Task → Task
  g = λ u. record u { open_groups = n }

  abbrev after : State
  after = on_task s k g

  abbrev now : Memory
  now = with_slot m k OPEN_PLACE n

  stays : (c kind j : ℕ) → (kind ≡ tasks → ⊥) → now c kind j ≡ m c kind j
  stays c kind j ne =
      record_stays m k.0.creator tasks k.0.slot (number TaskSlots) OPEN_PLACE n c kind j (λ _ is _. ne is)

  -- each word of a task but for this one
  others : (c j f at : ℕ) → (f ≡ number TaskSlots → at ≢ OPEN_PLACE) → now c tasks j f at ≡ m c tasks j f at
  others c j f at ne =
      word_stays m k.0.creator tasks k.0.slot (number TaskSlots) OPEN_PLACE n c tasks j f at
      (λ _ _ _ field place. ne field place)

  abbrev own : Rec
  own = m k.0.creator tasks k.0.slot

  abbrev own_now : Rec
  own_now = now k.0.creator tasks k.0.slot

  -- ---- the codes of the task

  slot_code : KeepsEnvironment w own t → (at word : ℕ) → task_code w (task_told (g t)) TaskSlots at ≡ Some word
      → own_now (number TaskSlots) at ≡ word
  slot_code o at word told = go (group_told w (task_told (g t)) at word told)
    where
      go : ((at ≡ GROUP_PLACE) × (group_word w t.group ≡ word)) ⊎ ((at ≡ OPEN_PLACE) × (n ≡ word))
          → own_now (number TaskSlots) at ≡ word
      go (inl (place, _)) =
          subst (λ x. own_now (number TaskSlots) x ≡ word) (sym place)
          (others k.0.creator k.0.slot (number TaskSlots) GROUP_PLACE (λ _ same. omega (arith, same))
          ∙ o TaskSlots GROUP_PLACE word refl (subst (λ x. task_code w (task_told (g t)) TaskSlots x ≡ Some word) place told))
      go (inr (place, is)) =
          subst (λ x. own_now (number TaskSlots) x ≡ word) (sym place)
          (word_read m k.0.creator tasks k.0.slot (number TaskSlots) OPEN_PLACE n ∙ is)

  environment : KeepsEnvironment w own t → KeepsEnvironment w own_now (g t)
  environment o TaskSlots at word none told = slot_code o at word told
  environment o f at word none told =
      others k.0.creator k.0.slot (number f) at (λ is. absurd (omega (arith, is))) ∙ o f at word none told

  place : KeepsPlace w own t → KeepsPlace w own_now (g t)
  place o TaskSlots at word none told = absurd (cc)
  place o f at word is told =
      others k.0.creator k.0.slot (number f) at (λ same. absurd (omega (arith, same))) ∙ o f at word is told

  -- ---- the records of tasks

  beside : (c j : ℕ) → (c ≡ k.0.creator → j ≡ k.0.slot → ⊥) → c < s.count → j < per_thread w tasks → (u : Task)
      → (s.tasks c j).live ≡ Some u → KeepsTask w s owes (task_in c j (s.tasks c j)) (now c tasks j) u
  beside c j apart known within u is =
      subst (λ (r : Rec). KeepsTask w s owes (task_in c j (s.tasks c j)) r u)
      (sym (record_stays m k.0.creator tasks k.0.slot (number TaskSlots) OPEN_PLACE n c tasks j (λ creator _ slot. apart creator slot)))
      (((keeps.made c known).tasks j within).live u is)

  here : k.0.creator < s.count → k.0.slot < per_thread w tasks → (u : Task)
      → (changed k.0.generation g (s.tasks k.0.creator k.0.slot)).live ≡ Some u
      → KeepsTask w s owes (task_in k.0.creator k.0.slot (s.tasks k.0.creator k.0.slot)) own_now u
  here known within u is =
      subst (λ (x : Task). KeepsTask w s owes (task_in k.0.creator k.0.slot (s.tasks k.0.creator k.0.slot)) own_now x)
      (sym (changed_live k.0.generation g (s.tasks k.0.creator k.0.slot) t u live is))
      (task_rewritten w s owes (task_in k.0.creator k.0.slot (s.tasks k.0.creator k.0.slot)) own own_now t (g t) kind
      (others k.0.creator k.0.slot (number TaskChildren) 0 (λ same. absurd (omega (arith, same))))
      (others k.0.creator k.0.slot (number TaskReferences) 0 (λ same. absurd (omega (arith, same))))
      (λ at below. others k.0.creator k.0.slot (number TaskSlots) at (λ _ same. omega (arith, below, same)))
      environment place
      (((keeps.made k.0.creator known).tasks k.0.slot within).live t (found_live k.0.generation (s.tasks k.0.creator k.0.slot) t live)))
    where
      kind : IsSameKind t (g t)
      kind = record { implicit = refl; region = refl; thread = refl; generating = refl; progress = refl; place = refl; group = refl }

  -- ---- the whole

  tasks_alike : SlotsAlike IsSameKind s.tasks after.tasks
  tasks_alike =
      on_alike IsSameKind same_kind s.tasks k.0 g
      (λ x _. record { implicit = refl; region = refl; thread = refl; generating = refl; progress = refl; place = refl; group = refl })

  -- a task for whose new one a thread raises is another
  news : (j : ℕ) (q : Tid) → j < s.count → (owes j).counted ≡ Some q → group_of_new after q ≡ group_of_new s q
  news j q below is =
      ap (option_and_then (group_within q))
      (on_other s.tasks k.0 g q.0 (λ same. uncounted j below (is ∙ ap (λ (x : Id). Some (record { 0 = x })) same)))

  pub group_stores : KeepsWords w now after owes
  group_stores =
      states_alike w s after owes refl (slots_same IsSameRegion same_region s.regions) tasks_alike m now keeps
      (λ i. ap (λ (r : Rec). r (number ThreadAssign) 0) (stays i threads 0 (λ kind. absurd (omega (arith, kind)))))
      (λ i j. ap (λ (r : Rec). r (number RegionLife) 0) (stays i regions j (λ kind. absurd (omega (arith, kind)))))
      (λ i j. others i j (number TaskLife) 0 (λ is. absurd (omega (arith, is))))
      (λ i j at below. others i j (number TaskSlots) at (λ _ same. omega (arith, below, same)))
      (groups_alike w s after owes refl (slots_same IsSameRegion same_region s.regions) tasks_alike m now keeps
      (λ c j index. others c j (number TaskSlots) (COUNT_PLACE + index) (λ _ same. omega (arith, same))) news)
      (subst (λ (r : Rec). KeepsRuntime w r after) (sym (stays 0 runtime 0 (λ kind. absurd (omega (arith, kind))))) keeps.runtime_record)
      (λ i known. subst (λ (r : Rec). KeepsThread w i r (s.threads i)) (sym (stays i threads 0 (λ kind. absurd (omega (arith, kind))))) (keeps.made i known).thread)
      (λ i j known within x is.
      subst (λ (r : Rec). KeepsRegion w s owes (region_in i j (s.regions i j)) r x)
      (sym (stays i regions j (λ kind. absurd (omega (arith, kind))))) (((keeps.made i known).regions j within).live x is))
      (λ i j known within.
      each_slot s.tasks k.0
      (λ c slot (y : Slot Task). c < s.count → slot < per_thread w tasks → (u : Task) → y.live ≡ Some u → KeepsTask w s owes (task_in c slot (s.tasks c slot)) (now c tasks slot) u)
      (changed k.0.generation g (s.tasks k.0.creator k.0.slot)) here beside i j known within)

pub group_stores_keep : GroupStoresKeep
group_stores_keep = λ w m s owes k t n keeps live uncounted. group_stores w m s owes k t n keeps live uncounted
