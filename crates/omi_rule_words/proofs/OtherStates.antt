-- A state whose regions and tasks go on as what they are, with other words in their records: what has to be shown of these words so that all is kept.
use Rattle.std.proofs.Common.{◌≡◌, ◌==◌, ◌+◌, ◌<◌, ◌&&◌, ℕ, inl, inr, ◌-◌, List, Option, Some, None, refl, sym, ap, ap₂, subst, ◌∙◌, arith, if◌then◌else◌}
use Rattle.std.specs.Prelude.{◌⊎◌, not}
use Rattle.std.specs.Option.{option_and_then}
use Rattle.omi_rep.specs.Records.{slot_word}
use Rattle.omi_model.specs.declared.id.Rid.{Rid}
use Rattle.omi_model.specs.declared.id.Tid.{Tid}
use Rattle.omi_model.specs.declared.region.Region.{Region}
use Rattle.omi_model.specs.declared.task.Task.{Task}
use Rattle.omi_model.specs.State.{State}
use Rattle.omi_numbers.specs.declared.limits.TheConstants.{OWN_SLOTS}
use Rattle.omi_layout.specs.declared.field.Field.TheVariants.{RegionLife, TaskChildren, TaskLife, TaskSlots, ThreadAssign, TaskReferences}
use Rattle.omi_layout.specs.Field.{runtime, threads, regions, tasks}
use Rattle.omi_layout.specs.Memory.{Rec, Memory}
use Rattle.omi_layout.specs.Named.{number}
use Rattle.omi_layout.specs.Table.{per_thread}
use Rattle.omi_layout.specs.declared.limits.TheConstants.{COUNT_PLACE}
use Rattle.omi_rule_words.specs.Owes.{Owed}
use Rattle.omi_rule_words.specs.Counts.{assign_owed, children_owed, generating_of, has_region_slot, has_slot, is_region, is_some_task, is_unfinished, left_owed, of_live, one, pending_owed, start_owed, sum_below, sum_of_owed, sum_of_slots, unfinished_children, unfinished_in, is_explicit, live_children, references_owed, gives_owed, is_finished, own_reference}
use Rattle.omi_rule_words.specs.Threads.{Has, IsAssignedOnce, KeepsAssign, KeepsRuntime, KeepsThread, WaitsFor}
use Rattle.omi_rule_words.specs.Objects.{IsDeferredIn, KeepsCounts, KeepsDeferred, KeepsEnvironment, KeepsPlace, KeepsRegion, KeepsSlots, slots_with}
use Rattle.omi_rule_words.specs.Words.{KeepsMade, KeepsTask, KeepsWords, region_in, task_in}
use Rattle.omi_rule_words.specs.TaskKinds.{IsSameTask}
use Rattle.omi_rule_words.proofs.CountedRegions.{region_counted}
use Rattle.omi_rule_words.proofs.Alike.{IsSameKind, IsSameRegion, SlotsAlike, deferred_in_after, generating_same, life_alike, live_counted, making_after, objects_after, parts_same, region_back, slots_back, task_after, task_back, task_before, waits_after, group_of_new_same, group_of_same, kinds_of, members_same}
use Rattle.omi_rule_words.proofs.Sums.{sum_same, sum_same_within}
use Rattle.omi_rule_words.proofs.GroupCounts.{groups_counted, groups_read}
use Rattle.omi_rule_words.specs.Groups.{KeepsGroups, count_owed, is_some_group, unfinished_members, group_of, group_of_new}

-- a slot word stands in as many slots as before, where the words of all slots are as before
pub slots_as_before : (w : List ℕ) (m n : Memory) (s : State)
    → ((i k place : ℕ) → place < OWN_SLOTS → n i tasks k (number TaskSlots) place ≡ m i tasks k (number TaskSlots) place)
    → (code : ℕ)
    → slots_with w (λ c. n c tasks) s code ≡ slots_with w (λ c. m c tasks) s code
slots_as_before w m n s same code =
    sum_same s.count (λ c. sum_below (per_thread w tasks) (λ j. of_live (held n c j) (s.tasks c j).live))
    (λ c. sum_below (per_thread w tasks) (λ j. of_live (held m c j) (s.tasks c j).live))
    (λ c. sum_same (per_thread w tasks) (λ j. of_live (held n c j) (s.tasks c j).live) (λ j. of_live (held m c j) (s.tasks c j).live)
    (λ j. of_row c j (s.tasks c j).live))
  where
    held : Memory → ℕ → ℕ → Task → ℕ
    held x c j t =
        if t.implicit then sum_below OWN_SLOTS (λ place. one (x c tasks j (number TaskSlots) place == code)) else 0

    of_row : (c j : ℕ) (o : Option Task) → of_live (held n c j) o ≡ of_live (held m c j) o
    of_row c j None = refl
    of_row c j (Some t) =
        ap (λ (x : ℕ). if t.implicit then x else 0)
        (sum_same_within OWN_SLOTS (λ place. one (n c tasks j (number TaskSlots) place == code)) (λ place. one (m c tasks j (number TaskSlots) place == code))
        (λ place within. ap (λ x. one (x == code)) (same c j place within)))

module _ (w : List ℕ) (s u : State) (owes : ℕ → Owed) (count : u.count ≡ s.count)
    (regions_alike : SlotsAlike IsSameRegion s.regions u.regions)
    (tasks_alike : SlotsAlike IsSameKind s.tasks u.tasks) where
  regions_back : SlotsAlike IsSameRegion u.regions s.regions
  regions_back = slots_back IsSameRegion region_back s.regions u.regions regions_alike

  tasks_back : SlotsAlike IsSameKind u.tasks s.tasks
  tasks_back = slots_back IsSameKind task_back s.tasks u.tasks tasks_alike

  waits_before : (i : ℕ) (k : Tid) → WaitsFor u i k → WaitsFor s i k
  waits_before = waits_after u s regions_back tasks_back

  waits_now : (i : ℕ) (k : Tid) → WaitsFor s i k → WaitsFor u i k
  waits_now = waits_after s u regions_alike tasks_alike

  -- what is counted
  tasks_counted : (f : ℕ → ℕ → Task → ℕ) → ((c k : ℕ) (t v : Task) → IsSameKind t v → f c k v ≡ f c k t)
      → sum_of_slots w u f ≡ sum_of_slots w s f
  tasks_counted f same =
      ap
      (λ n. sum_below n (λ c. sum_below (per_thread w tasks) (λ k. of_live (f c k) (u.tasks c k).live))) count
      ∙ sum_same s.count (λ c. sum_below (per_thread w tasks) (λ k. of_live (f c k) (u.tasks c k).live))
      (λ c. sum_below (per_thread w tasks) (λ k. of_live (f c k) (s.tasks c k).live))
      (λ c. sum_same (per_thread w tasks) (λ k. of_live (f c k) (u.tasks c k).live) (λ k. of_live (f c k) (s.tasks c k).live)
      (λ k. live_counted (f c k) (same c k) (s.tasks c k).live (u.tasks c k).live (tasks_alike c k).live))

  owed_counted : (f g : Owed → ℕ) → ((o : Owed) → f o ≡ g o) → sum_of_owed u owes f ≡ sum_of_owed s owes g
  owed_counted f g same =
      ap (λ n. sum_below n (λ i. f (owes i))) count
      ∙ sum_same s.count (λ i. f (owes i)) (λ i. g (owes i)) (λ i. same (owes i))

  region_kept : (n : Rid) (r : Rec) (x : Region) → KeepsRegion w s owes n r x → KeepsRegion w u owes n r x
  region_kept n r x o =
      let same : unfinished_in w u n ≡ unfinished_in w s n
      = tasks_counted (λ c k t. one (is_unfinished t && is_region n t.region))
      (λ c k t v alike. parts_same (λ i p q g. one (is_unfinished (record v { implicit = i; progress = p }) && is_region n q)) t v alike) in
      let owed : sum_of_owed u owes (pending_owed n) ≡ sum_of_owed s owes (pending_owed n) =
      owed_counted (pending_owed n) (pending_owed n) (λ o. refl) in
      region_counted w s u owes owes n r x (omega (arith, same, owed))
      (owed_counted (left_owed n) (left_owed n) (λ o. refl)) o

  counts_kept : (k : Tid) (r : Rec) (t : Task) → KeepsCounts w s owes k r t → KeepsCounts w u owes k r t
  counts_kept k r t o = record {
    references =
        let was = o.references in
        let same : live_children w u k ≡ live_children w s k
        = tasks_counted (λ c j x. one (is_explicit x && is_some_task k x.generating))
        (λ c j x v alike. parts_same (λ i p q g. one (not i && is_some_task k g)) x v alike) in
        let owed : sum_of_owed u owes (references_owed k) ≡ sum_of_owed s owes (references_owed k) =
        owed_counted (references_owed k) (references_owed k) (λ o. refl) in
        omega (arith, was, same, owed);
    given = owed_counted (gives_owed k) (gives_owed k) (λ o. refl) ∙ o.given;
    children =
        let was = o.children in
        let same : unfinished_children w u k ≡ unfinished_children w s k
        = tasks_counted (λ c j x. one (is_unfinished x && is_some_task k x.generating))
        (λ c j x v alike. parts_same (λ i p q g. one (is_unfinished (record v { implicit = i; progress = p }) && is_some_task k g)) x v alike) in
        let owed : sum_of_owed u owes (children_owed u k) ≡ sum_of_owed s owes (children_owed s k) =
        owed_counted (children_owed u k) (children_owed s k) (λ o. of_lowered o.raised o.lowered) in
        omega (arith, was, same, owed);
  }
    where
      of_lowered : (raised lowered : Option Tid)
          → one (is_some_task k raised) + one (is_some_task k (option_and_then (generating_of u) lowered))
          ≡ one (is_some_task k raised) + one (is_some_task k (option_and_then (generating_of s) lowered))
      of_lowered raised None = refl
      of_lowered raised (Some q) =
          ap (λ g. one (is_some_task k raised) + one (is_some_task k g))
          (generating_same s u regions_alike tasks_alike q)

  slots_kept : (r : Rec) (t : Task) → KeepsSlots w s r t → KeepsSlots w u r t
  slots_kept r t o = λ place within. go place (o place within)
    where
      go : (place : ℕ)
          → Has r TaskSlots place 0 ⊎ ((k : Tid) × IsDeferredIn s t place k × Has r TaskSlots place (slot_word w k))
          → Has r TaskSlots place 0 ⊎ ((k : Tid) × IsDeferredIn u t place k × Has r TaskSlots place (slot_word w k))
      go place (inl none) = inl none
      go place (inr (k, x, is)) = inr (k, deferred_in_after s u regions_alike tasks_alike t place k x, is)

  task_kept : (k : Tid) (r : Rec) (t : Task) → KeepsTask w s owes k r t → KeepsTask w u owes k r t
  task_kept k r t o = record {
    environment = o.environment;
    place = o.place;
    counts = counts_kept k r t o.counts;
    slots = λ implicit. slots_kept r t (o.slots implicit);
  }

  assign_kept : (i : ℕ) (r q : Rec) → q (number ThreadAssign) 0 ≡ r (number ThreadAssign) 0
      → KeepsAssign w s owes i r → KeepsAssign w u owes i q
  assign_kept i r q same o = record {
    waiting = λ k waits.
        let was = o.waiting k (waits_before i k waits) in
        let once = was.once in
        let owed : sum_of_owed u owes (assign_owed i k) ≡ sum_of_owed s owes (assign_owed i k) =
        owed_counted (assign_owed i k) (assign_owed i k) (λ o. refl) in
        subst (λ word. IsAssignedOnce w u owes i k word) (sym same) (record { word_is = was.word_is; once = omega (arith, once, owed) });
    none = λ nobody. same ∙ o.none (λ k waits. nobody k (waits_now i k waits));
  }

  -- the counts of groups, where those for which threads raise are the same
  pub groups_alike : (m n : Memory) → KeepsWords w m s owes
      → ((c k index : ℕ) → n c tasks k (number TaskSlots) (COUNT_PLACE + index) ≡ m c tasks k (number TaskSlots) (COUNT_PLACE + index))
      → ((j : ℕ) (q : Tid) → j < s.count → (owes j).counted ≡ Some q → group_of_new u q ≡ group_of_new s q)
      → KeepsGroups w (λ c. n c tasks) u owes
  groups_alike m n keeps same news =
      groups_read w (λ c. m c tasks) (λ c. n c tasks) u owes
      (λ k t index live few. same k.0.creator k.0.slot index)
      (groups_counted w (λ c. m c tasks) s u owes owes count
      (λ k v is. let (t, live, same) = task_before s u regions_alike tasks_alike k v is in (t, live))
      (λ g.
      let members : unfinished_members w u g ≡ unfinished_members w s g
      = tasks_counted (λ c j x. one (is_unfinished x && is_some_group g x.group)) (λ c j x y alike. members_same g x y alike) in
      let owed : sum_of_owed u owes (count_owed u g) ≡ sum_of_owed s owes (count_owed s g) =
      ap (λ n. sum_below n (λ j. count_owed u g (owes j))) count
      ∙ sum_same_within s.count (λ j. count_owed u g (owes j)) (λ j. count_owed s g (owes j))
      (λ j known. ap₂ (λ a b. one (is_some_group g a) + one (is_some_group g b)) (new (owes j).counted (λ q is. news j q known is)) (own (owes j).uncounted)) in
      omega (arith, members, owed))
      keeps.groups.counted keeps.groups.uncounted keeps.groups)
    where
      new : (o : Option Tid) → ((q : Tid) → o ≡ Some q → group_of_new u q ≡ group_of_new s q)
          → option_and_then (group_of_new u) o ≡ option_and_then (group_of_new s) o
      new None same = refl
      new (Some q) same = same q refl

      own : (o : Option Tid) → option_and_then (group_of u) o ≡ option_and_then (group_of s) o
      own None = refl
      own (Some q) = group_of_same s u regions_alike tasks_alike q

  -- memories in which the same words stand for records in the making, deferred tasks and threads that are assigned
  module _ (m n : Memory) (keeps : KeepsWords w m s owes)
      (same_assign : (i : ℕ) → n i threads 0 (number ThreadAssign) 0 ≡ m i threads 0 (number ThreadAssign) 0)
      (region_lives : (i k : ℕ) → n i regions k (number RegionLife) 0 ≡ m i regions k (number RegionLife) 0)
      (task_lives : (i k : ℕ) → n i tasks k (number TaskLife) 0 ≡ m i tasks k (number TaskLife) 0)
      (same_slots : (i k place : ℕ) → place < OWN_SLOTS → n i tasks k (number TaskSlots) place ≡ m i tasks k (number TaskSlots) place)
      (groups : KeepsGroups w (λ c. n c tasks) u owes) where
    deferred_kept : KeepsDeferred w (λ c. n c tasks) u owes
    deferred_kept = record {
      once = λ k v is deferred.
          let (t, live, same) = task_before s u regions_alike tasks_alike k v is in
          let was = keeps.deferred.once k t live (sym same.progress ∙ deferred) in
          let now : slots_with w (λ c. n c tasks) u (slot_word w k) ≡ slots_with w (λ c. n c tasks) s (slot_word w k)
          = tasks_counted (λ c j x. if x.implicit then in_row (slot_word w k) c j else 0)
          (λ c j x y alike. parts_same (λ i p q g. if i then in_row (slot_word w k) c j else 0) x y alike) in
          let words = slots_as_before w m n s same_slots (slot_word w k) in
          let owed : sum_of_owed u owes (start_owed k) ≡ sum_of_owed s owes (start_owed k) =
          owed_counted (start_owed k) (start_owed k) (λ o. refl) in
          omega (arith, was, now, words, owed);
      hands = λ i k known is.
          let (t, live, deferred) = keeps.deferred.hands i k (subst (λ c. i < c) count known) is in
          let (v, now, same) = task_after s u regions_alike tasks_alike k t live in
          (v, now, same.progress ∙ deferred);
    }
      where
        -- the slots of a row that hold a word
        in_row : ℕ → ℕ → ℕ → ℕ
        in_row code c j =
            sum_below OWN_SLOTS
            (λ place. one (n c tasks j (number TaskSlots) place == code))

    -- and other words in the records of the objects that are live, which are their codes
    pub states_alike : KeepsRuntime w (n 0 runtime 0) u
        → ((i : ℕ) → i < s.count → KeepsThread w i (n i threads 0) (u.threads i))
        →
        ((i k : ℕ) → i < s.count → k < per_thread w regions → (x : Region) → (u.regions i k).live ≡ Some x → KeepsRegion w s owes (region_in i k (s.regions i k)) (n i regions k) x)
        →
        ((i k : ℕ) → i < s.count → k < per_thread w tasks → (t : Task) → (u.tasks i k).live ≡ Some t → KeepsTask w s owes (task_in i k (s.tasks i k)) (n i tasks k) t)
        → KeepsWords w n u owes
    states_alike runtime_is threads_are regions_are tasks_are = record { runtime_record = runtime_is; made = λ i known. made i (subst (λ c. i < c) count known); deferred = deferred_kept; groups = groups }
      where
        made : (i : ℕ) → i < s.count → KeepsMade w u owes i (n i)
        made i known =
            let o = keeps.made i known in
            record {
              thread = threads_are i known;
              assign = assign_kept i (m i threads 0) (n i threads 0) (same_assign i) o.assign;
              regions = λ k within. record {
                life = life_alike IsSameRegion (m i regions k) (n i regions k) RegionLife (s.regions i k)
                    (u.regions i k) (has_region_slot k (owes i).region) (regions_alike i k) (region_lives i k) (o.regions k within).life;
                live = λ x is.
                    subst (λ (q : Rid). KeepsRegion w u owes q (n i regions k) x) (ap (λ g. record { 0 = record { creator = i; slot = k; generation = g - 1 } }) (sym (regions_alike i k).generations))
                    (region_kept (region_in i k (s.regions i k)) (n i regions k) x (regions_are i k known within x is));
              };
              tasks = λ k within. record {
                life = life_alike IsSameKind (m i tasks k) (n i tasks k) TaskLife (s.tasks i k) (u.tasks i k) (has_slot k (owes i).tasks) (tasks_alike i k) (task_lives i k) (o.tasks k within).life;
                live = λ t is.
                    subst (λ (q : Tid). KeepsTask w u owes q (n i tasks k) t) (ap (λ g. record { 0 = record { creator = i; slot = k; generation = g - 1 } }) (sym (tasks_alike i k).generations))
                    (task_kept (task_in i k (s.tasks i k)) (n i tasks k) t (tasks_are i k known within t is));
              };
              making = making_after s u regions_alike tasks_alike i (owes i) o.making;
              objects = objects_after s u regions_alike tasks_alike (owes i) o.objects;
            }

-- with the same words for slots and groups, and as many open groups of each task
module _ (w : List ℕ) (s u : State) (owes : ℕ → Owed) (count : u.count ≡ s.count)
    (regions_alike : SlotsAlike IsSameRegion s.regions u.regions)
    (tasks_alike : SlotsAlike IsSameTask s.tasks u.tasks) (m n : Memory) (keeps : KeepsWords w m s owes)
    (same_assign : (i : ℕ) → n i threads 0 (number ThreadAssign) 0 ≡ m i threads 0 (number ThreadAssign) 0)
    (region_lives : (i k : ℕ) → n i regions k (number RegionLife) 0 ≡ m i regions k (number RegionLife) 0)
    (task_lives : (i k : ℕ) → n i tasks k (number TaskLife) 0 ≡ m i tasks k (number TaskLife) 0)
    (same_slots : (i k place : ℕ) → n i tasks k (number TaskSlots) place ≡ m i tasks k (number TaskSlots) place) where
  pub other_states : KeepsRuntime w (n 0 runtime 0) u
      → ((i : ℕ) → i < s.count → KeepsThread w i (n i threads 0) (u.threads i))
      →
      ((i k : ℕ) → i < s.count → k < per_thread w regions → (x : Region) → (u.regions i k).live ≡ Some x → KeepsRegion w s owes (region_in i k (s.regions i k)) (n i regions k) x)
      →
      ((i k : ℕ) → i < s.count → k < per_thread w tasks → (t : Task) → (u.tasks i k).live ≡ Some t → KeepsTask w s owes (task_in i k (s.tasks i k)) (n i tasks k) t)
      → KeepsWords w n u owes
  other_states =
      states_alike w s u owes count regions_alike (kinds_of s.tasks u.tasks tasks_alike) m n keeps same_assign region_lives task_lives
      (λ i k place _. same_slots i k place)
      (groups_alike w s u owes count regions_alike (kinds_of s.tasks u.tasks tasks_alike) m n keeps
      (λ c k index. same_slots c k (COUNT_PLACE + index))
      (λ _ q _ _. group_of_new_same s u tasks_alike q))

-- a task of the same kind counts the same
pub counts_as : (w : List ℕ) (s : State) (owes : ℕ → Owed) (k : Tid) (r : Rec) (t u : Task) → u.implicit ≡ t.implicit
    → own_reference u ≡ own_reference t → KeepsCounts w s owes k r t → KeepsCounts w s owes k r u
counts_as w s owes k r t u same own o = record {
  children = o.children;
  references = o.references
      ∙ ap (λ x. x + (live_children w s k + sum_of_owed s owes (references_owed k))) (sym own);
  given = o.given ∙ ap (λ b. one (not b && r (number TaskReferences) 0 == 0)) (sym same);
}

-- a task that goes on as what it is refers to itself as it did
pub own_same : (t u : Task) → IsSameKind t u → own_reference u ≡ own_reference t
own_same t u same =
    ap₂ (λ i p. one (not i && not (is_finished p))) same.implicit same.progress

-- a task that is another, and whose record has other words than its counts and slots
pub task_rewritten : (w : List ℕ) (s : State) (owes : ℕ → Owed) (k : Tid) (r q : Rec) (t u : Task)
    → IsSameKind t u
    → q (number TaskChildren) 0 ≡ r (number TaskChildren) 0 → q (number TaskReferences) 0 ≡ r (number TaskReferences) 0 → ((place : ℕ) → place < OWN_SLOTS → q (number TaskSlots) place ≡ r (number TaskSlots) place)
    → (KeepsEnvironment w r t → KeepsEnvironment w q u) → (KeepsPlace w r t → KeepsPlace w q u) → KeepsTask w s owes k r t → KeepsTask w s owes k q u
task_rewritten w s owes k r q t u same children references slots environment place o = record {
  environment = environment o.environment;
  place = λ has. place (o.place (λ explicit deferred. has (same.implicit ∙ explicit) (same.progress ∙ deferred)));
  counts =
      let was = counts_as w s owes k r t u same.implicit (own_same t u same) o.counts in
      record {
        children = children ∙ was.children;
        references = references ∙ was.references;
        given = was.given ∙ ap (λ x. one (is_explicit u && x == 0)) (sym references);
      };
  slots = λ implicit at within. slot at within (o.slots (sym same.implicit ∙ implicit) at within);
}
  where
    slot : (at : ℕ) → at < OWN_SLOTS
        → Has r TaskSlots at 0 ⊎ ((j : Tid) × IsDeferredIn s t at j × Has r TaskSlots at (slot_word w j))
        → Has q TaskSlots at 0 ⊎ ((j : Tid) × IsDeferredIn s u at j × Has q TaskSlots at (slot_word w j))
    slot at within (inl none) = inl (slots at within ∙ none)
    slot at within (inr (j, x, is)) =
        inr
        (j, record { task = x.task; live = x.live; progress = x.progress; region = x.region ∙ sym same.region; place_is = x.place_is; maker = x.maker ∙ sym same.thread }, slots at within ∙ is)
