-- The opening words of a program keep the rule on words.
use Rattle.std.proofs.Common.{◌≡◌, inl, ◌==◌, ◌<◌, ℕ, ◌&&◌, Bool, true, false, List, [], Some, None, refl, sym, ap, subst, arith, if◌then◌else◌, ◌+◌}
use Rattle.std.proofs.lemmas.Bool.Decides.{nat_tests}
use Rattle.std.proofs.lemmas.List.Elements.{All-from_recursion}
use Rattle.omi_script.specs.declared.program.Program.{Program}
use Rattle.omi_model.specs.declared.id.Rid.{Rid}
use Rattle.omi_model.specs.declared.id.Tid.{Tid}
use Rattle.omi_model.specs.declared.progress.Progress.TheVariants as progress
use Rattle.omi_model.specs.declared.region.Region.{Region}
use Rattle.omi_model.specs.declared.task.Task.{Task}
use Rattle.omi_model.specs.Opening.{opening, opening_region, opening_task}
use Rattle.omi_model.specs.Put.{first_alone, unused}
use Rattle.omi_model.specs.State.{State}
use Rattle.omi_model.proofs.OpeningObjects.{each_first_task}
use Rattle.omi_layout.specs.declared.field.Field.{Field}
use Rattle.omi_layout.specs.declared.field.Field.TheVariants.{RegionLeft, RegionLife, RegionPending, TaskChildren, TaskLife, TaskSlots, ThreadAssign, TaskReferences}
use Rattle.omi_layout.specs.Field.{runtime, threads, regions, tasks}
use Rattle.omi_layout.specs.Memory.{Rec, MadeRecords, Memory, memory_of}
use Rattle.omi_layout.specs.Named.{number}
use Rattle.omi_layout.specs.OpeningWords.{AreOpening, OpensMade, OpensThread, OpensRegion, OpensTask}
use Rattle.omi_layout.specs.Valid.{IsValid}
use Rattle.omi_layout.specs.declared.limits.TheConstants.{COUNT_PLACE}
use Rattle.omi_layout.proofs.Arenas.{some_threads}
use Rattle.omi_pc.specs.Opening.{opening_actor}
use Rattle.omi_rep.specs.Suits.{Suits}
use Rattle.omi_rep.proofs.OpenedCodes.{region_opened, runtime_opened, task_opened, thread_opened}
use Rattle.omi_rule_words.specs.Owes.{Owed, all_owed, nothing}
use Rattle.omi_rule_words.specs.Counts.{of_live, one, has_slot, has_region_slot, is_region, is_some_task, is_unfinished, pending_owed, left_owed, children_owed, is_explicit, references_owed, gives_owed}
use Rattle.omi_rule_words.specs.Threads.{KeepsAssign, WaitsFor}
use Rattle.omi_rule_words.specs.Objects.{KeepsLife, KeepsRegion, KeepsCounts, KeepsDeferred}
use Rattle.omi_rule_words.specs.Words.{KeepsTask, KeepsRegionSlot, KeepsTaskSlot, KeepsMaking, OwesOnLive, KeepsMade, KeepsWords, IsInTheMaking, region_in, task_in}
use Rattle.omi_rule_words.specs.Opens.{OpeningKeepsWords}
use Rattle.omi_rule_words.proofs.Idle.{opening_owes}
use Rattle.omi_rule_words.proofs.OwedTasks.{nothing_on_live}
use Rattle.omi_rule_words.proofs.Sums.{owed_none, slots_none}
use Rattle.omi_rule_words.specs.Groups.{KeepsGroups, count_owed, group_at, is_some_group}

-- the one task counts nothing
none_counted : (p : Program) (f : Task → ℕ) → f (opening_task p) ≡ 0 → (c k : ℕ)
    → of_live f (first_alone (opening_task p) c k).live ≡ 0
none_counted p f none c k = go (c == 0 && k == 0)
  where
    go : (b : Bool)
        → of_live f (if b then record { generations = 1; live = Some (opening_task p) } else unused).live ≡ 0
    go true = none
    go false = refl

-- where the object is that is alone in its slots
alone_live : {A : Type 0} (x y : A) (c k : ℕ) → (first_alone x c k).live ≡ Some y
    → (c ≡ 0) × (k ≡ 0) × (x ≡ y)
alone_live {A} x y c k is = go (c == 0 && k == 0) refl is
  where
    go : (b : Bool) → (c == 0 && k == 0) ≡ b
        → (if b then record { generations = 1; live = Some x } else unused).live ≡ Some y
        → (c ≡ 0) × (k ≡ 0) × (x ≡ y)
    go true e h = (grind (arith, nat_tests), grind (arith, nat_tests), cc)
    go false e h = absurd (cc)

-- the life word of a slot in which at most one object has lived
life_kept : {A : Type 0} (x : A) (r : Rec) (life : Field) (owed : Bool) (c k : ℕ) → owed ≡ false
    → (c ≡ 0 → k ≡ 0 → r (number life) 0 ≡ 1) → ((c ≡ 0 → k ≡ 0 → ⊥) → r (number life) 0 ≡ 0) → KeepsLife r life (first_alone x c k) owed
life_kept {A} x r life owed c k nobody first other = go (c == 0 && k == 0) refl
  where
    go : (b : Bool) → (c == 0 && k == 0) ≡ b
        → KeepsLife r life (if b then record { generations = 1; live = Some x } else unused) owed
    go true e =
        let creator : c ≡ 0 = grind (arith, nat_tests) in
        let place : k ≡ 0 = grind (arith, nat_tests) in
        let is = first creator place in
        record { live = λ y live. omega (arith, is); taken = λ live. absurd (cc); free = λ live. absurd (cc) }
    go false e =
        let is = other (λ creator place. grind (arith, nat_tests)) in
        record { live = λ y live. absurd (cc); taken = λ live taken. absurd (cc); free = λ live free. is }

module _ (p : Program) (w words : List ℕ) (v : IsValid w) (suits : Suits p w)
    (opens : AreOpening p w words) where
  abbrev m : Memory
  m = memory_of w words

  abbrev s : State
  s = opening p

  abbrev owes : ℕ → Owed
  owes = all_owed (opening_actor p)

  none : (i : ℕ) → owes i ≡ nothing
  none = opening_owes p

  -- no task waits for a thread
  none_waits : (i : ℕ) (k : Tid) → WaitsFor s i k → ⊥
  none_waits i k waits =
      each_first_task p (λ k t. t.progress ≡ progress.NotBegun → ⊥)
      (λ is. absurd (cc)) k waits.task waits.live waits.progress

  assign_kept : (i : ℕ) (r : Rec) → OpensThread w i r → KeepsAssign w s owes i r
  assign_kept i r o = record {
    waiting = λ k waits. absurd (none_waits i k waits);
    none = λ nobody. o.words ThreadAssign 0;
  }

  region_kept : (n : Rid) (r : Rec) → OpensRegion p w r → KeepsRegion w s owes n r (opening_region p)
  region_kept n r o = record {
    codes = region_opened p w r o;
    pending =
        let unfinished =
        slots_none w s (λ c k t. one (is_unfinished t && is_region n t.region))
        (none_counted p (λ t. one (is_unfinished t && is_region n t.region)) refl) in
        let owed = owed_none s owes (pending_owed n) none refl in
        let is : r (number RegionPending) 0 ≡ 0 = o.words RegionPending 0 in
        omega (arith, unfinished, owed, is);
    left =
        let owed = owed_none s owes (left_owed n) none refl in
        let is : r (number RegionLeft) 0 ≡ 0 = o.words RegionLeft 0 in
        omega (arith, owed, is);
  }

  counts_kept : (k : Tid) (r : Rec) → OpensTask p w r → KeepsCounts w s owes k r (opening_task p)
  counts_kept k r o = record {
    references =
        let children =
        slots_none w s (λ c j t. one (is_explicit t && is_some_task k t.generating))
        (none_counted p (λ t. one (is_explicit t && is_some_task k t.generating)) refl) in
        let owed = owed_none s owes (references_owed k) none refl in
        let is : r (number TaskReferences) 0 ≡ 0 = o.words TaskReferences 0 in
        omega (arith, children, owed, is);
    given = owed_none s owes (gives_owed k) none refl;
    children =
        let unfinished =
        slots_none w s (λ c j t. one (is_unfinished t && is_some_task k t.generating))
        (none_counted p (λ t. one (is_unfinished t && is_some_task k t.generating)) refl) in
        let owed = owed_none s owes (children_owed s k) none refl in
        let is : r (number TaskChildren) 0 ≡ 0 = o.words TaskChildren 0 in
        omega (arith, unfinished, owed, is);
  }

  task_kept : (k : Tid) (r : Rec) → OpensTask p w r → KeepsTask w s owes k r (opening_task p)
  task_kept k r o = record {
    environment = λ f at word _ told. task_opened p w r o f at word told;
    place = λ _ f at word _ told. task_opened p w r o f at word told;
    counts = counts_kept k r o;
    slots = λ implicit place within. inl (o.words TaskSlots place);
  }

  region_slot_kept : (i slot : ℕ) (made : MadeRecords) → OpensMade p w i made
      → KeepsRegionSlot w s owes i slot (made regions slot)
  region_slot_kept i slot made o = record {
    life =
        life_kept (opening_region p) (made regions slot) RegionLife
        (has_region_slot slot (owes i).region) i slot
        (ap (λ (o : Owed). has_region_slot slot o.region) (none i))
        (λ creator place. subst (λ j. made regions j (number RegionLife) 0 ≡ 1) (sym place) ((o.region creator).words RegionLife 0))
        (λ other. o.no_region slot other (number RegionLife) 0);
    live = λ x is.
        let (creator, place, same) = alone_live (opening_region p) x i slot is in
        let n : Rid = region_in i slot (s.regions i slot) in
        subst (λ (y : Region). KeepsRegion w s owes n (made regions slot) y) same
        (subst (λ j. KeepsRegion w s owes n (made regions j) (opening_region p)) (sym place) (region_kept n (made regions 0) (o.region creator)));
  }

  task_slot_kept : (i slot : ℕ) (made : MadeRecords) → OpensMade p w i made
      → KeepsTaskSlot w s owes i slot (made tasks slot)
  task_slot_kept i slot made o = record {
    life = life_kept (opening_task p) (made tasks slot) TaskLife (has_slot slot (owes i).tasks) i slot
        (ap (λ (o : Owed). has_slot slot o.tasks) (none i))
        (λ creator place. subst (λ j. made tasks j (number TaskLife) 0 ≡ 1) (sym place) ((o.task creator).words TaskLife 0))
        (λ other. o.no_task slot other (number TaskLife) 0);
    live = λ x is.
        let (creator, place, same) = alone_live (opening_task p) x i slot is in
        let k : Tid = task_in i slot (s.tasks i slot) in
        subst (λ (y : Task). KeepsTask w s owes k (made tasks slot) y) same
        (subst (λ j. KeepsTask w s owes k (made tasks j) (opening_task p)) (sym place) (task_kept k (made tasks 0) (o.task creator)));
  }

  making_kept : (i : ℕ) → KeepsMaking s i (owes i)
  making_kept i = subst (λ (o : Owed). KeepsMaking s i o) (sym (none i)) (record {
    region = λ n is. absurd (cc);
    tasks = All-from_recursion (λ (k : Tid). IsInTheMaking i (s.tasks i) k.0) [] tt;
    apart = tt;
  })

  objects_kept : (i : ℕ) → OwesOnLive s (owes i)
  objects_kept i = subst (λ (o : Owed). OwesOnLive s o) (sym (none i)) (nothing_on_live s)

  made_kept : (i : ℕ) → i < s.count → KeepsMade w s owes i (m i)
  made_kept i within =
      let threads_are = suits.threads in
      let o = opens.made i (omega (arith, within, threads_are)) in
      record {
        thread = thread_opened p w i (m i threads 0) o.thread;
        assign = assign_kept i (m i threads 0) o.thread;
        regions = λ slot there. region_slot_kept i slot (m i) o;
        tasks = λ slot there. task_slot_kept i slot (m i) o;
        making = making_kept i;
        objects = objects_kept i;
      }

  deferred_kept : KeepsDeferred w (λ c. m c tasks) s owes
  deferred_kept = record {
    once = λ k t live deferred. absurd (each_first_task p (λ q u. u.progress ≡ progress.Deferred → ⊥) (λ is. absurd (cc)) k t live deferred);
    hands = λ i k within is. let nobody : (owes i).hand ≡ None = ap (λ (o : Owed). o.hand) (none i) in absurd (cc);
  }

  groups_kept : KeepsGroups w (λ c. m c tasks) s owes
  groups_kept = record {
    counts = λ k t index live few.
        let members =
        slots_none w s (λ c j x. one (is_unfinished x && is_some_group (group_at k index) x.group))
        (none_counted p (λ x. one (is_unfinished x && is_some_group (group_at k index) x.group)) refl) in
        let owed = owed_none s owes (count_owed s (group_at k index)) none refl in
        let is : m k.0.creator tasks k.0.slot (number TaskSlots) (COUNT_PLACE + index) ≡ 0 =
        each_first_task p (λ q u. m q.0.creator tasks q.0.slot (number TaskSlots) (COUNT_PLACE + index) ≡ 0)
        (((opens.made 0 (some_threads w v)).task refl).words TaskSlots (COUNT_PLACE + index)) k t live in
        omega (arith, members, owed, is);
    counted = λ i k known is. let nobody : (owes i).counted ≡ None = ap (λ (o : Owed). o.counted) (none i) in absurd (cc);
    uncounted = λ i k known is. let nobody : (owes i).uncounted ≡ None = ap (λ (o : Owed). o.uncounted) (none i) in absurd (cc);
  }

  words_kept : KeepsWords w m s owes
  words_kept = record { runtime_record = runtime_opened p w (m 0 runtime 0) opens.runtime_record; made = made_kept; deferred = deferred_kept; groups = groups_kept }

pub opening_kept : OpeningKeepsWords
opening_kept = λ p w words v suits opens. words_kept p w words v suits opens
