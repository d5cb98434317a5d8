-- A state in which objects begin, whose records stand filled, and that counts as before with what threads owe: what is kept of words but for
-- assign words, records in the making and hands. Nothing names new objects yet.
use Rattle.std.proofs.Common.{◌≡◌, ◌==◌, ◌+◌, ◌&&◌, ◌<◌, ◌-◌, ℕ, Bool, true, false, inl, inr, List, Option, Some, None, refl, sym, ap, ap₂, subst, ◌∙◌, arith, zero, suc, eq-eqb, if◌then◌else◌}
use Rattle.std.specs.Prelude.{◌⊎◌, All, IsSome}
use Rattle.std.specs.Option.{option_and_then}
use Rattle.std.proofs.lemmas.Bool.Decides.{nat_tests}
use Rattle.omi_rep.specs.Records.{slot_word}
use Rattle.omi_model.specs.declared.id.Rid.{Rid}
use Rattle.omi_model.specs.declared.id.Tid.{Tid}
use Rattle.omi_model.specs.declared.region.Region.{Region}
use Rattle.omi_model.specs.declared.slot.Slot.{Slot}
use Rattle.omi_model.specs.declared.task.Task.{Task}
use Rattle.omi_model.specs.LawNames.{AreNamesLive}
use Rattle.omi_model.specs.Put.{Slots}
use Rattle.omi_model.specs.State.{State, region_of, task_of}
use Rattle.omi_model.proofs.Slots.{some_same}
use Rattle.omi_model.specs.declared.group.Group.{Group}
use Rattle.omi_model.specs.Groups.{group_within, innermost_or}
use Rattle.omi_layout.specs.declared.field.Field.TheVariants.{RegionLife, TaskLife, TaskSlots}
use Rattle.omi_layout.specs.Field.{threads, regions, tasks}
use Rattle.omi_layout.specs.Memory.{Rec, Memory}
use Rattle.omi_layout.specs.Table.{per_thread}
use Rattle.omi_layout.specs.declared.limits.TheConstants.{COUNT_PLACE}
use Rattle.omi_pc.specs.declared.place.Place.{Place}
use Rattle.omi_rule_words.specs.Owes.{Owed}
use Rattle.omi_rule_words.specs.Counts.{children_owed, generating_of, has_region_slot, has_slot, is_region, is_some_region, is_some_task, is_task, is_unfinished, left_owed, of_live, one, pending_owed, sum_below, sum_of_owed, sum_of_slots, unfinished_children, unfinished_in, is_explicit, live_children, references_owed, gives_owed, is_at, is_at_some}
use Rattle.omi_rule_words.specs.Threads.{Has, KeepsAssign, WaitsFor}
use Rattle.omi_rule_words.specs.Objects.{IsDeferredIn, KeepsCounts, KeepsDeferred, KeepsLife, KeepsRegion, KeepsSlots}
use Rattle.omi_rule_words.specs.Words.{HasFinished, KeepsMaking, KeepsRegionSlot, KeepsTask, KeepsTaskSlot, KeepsWords, IsOwedIn, OwesOnLive, region_in, task_in}
use Rattle.omi_rule_words.proofs.CountedRegions.{region_counted}
use Rattle.omi_rule_words.proofs.Begun.{Grows, IsNew, NewRegion, NewTask, begun_life, found_stays, found_was, none_found, one_none, some_found, some_stays}
use Rattle.omi_rule_words.proofs.OtherOwes.{OwesAlike, alike_on_tasks}
use Rattle.omi_rule_words.proofs.OwedTasks.{OwesOnTasks, OwesTasksAlike, lowered_finished, owed_on_tasks, referred_to}
use Rattle.omi_rule_words.proofs.Sums.{slots_none_within, sum_none_within, sum_same, sum_same_within}
use Rattle.omi_rule_words.specs.Groups.{AreOwnersLive, KeepsGroups, count_owed, group_at, group_of, group_of_new, is_some_group, unfinished_members}
use Rattle.omi_rule_words.proofs.PendingWords.{live_of}
use Rattle.omi_numbers.specs.declared.limits.TheConstants.{OPEN_GROUPS}

-- a thread owes nothing on a task's references, and to give none back
pub record OwesNoTask (p : Owed) : Type 0 where
  pub referred : p.referred ≡ None
  pub own : p.own ≡ None
  pub returned : p.returned ≡ None
  pub gives : p.gives ≡ None

-- a thread owes what it owed, or less on raises
pub record OwesLess (p o : Owed) : Type 0 where
  pub pending : (n : Rid) → p.pending ≡ Some n → o.pending ≡ Some n
  pub raised : (k : Tid) → p.raised ≡ Some k → o.raised ≡ Some k
  pub tasks : OwesTasksAlike p o ⊎ OwesNoTask p
  pub lowered : p.lowered ≡ o.lowered
  pub own : p.own ≡ o.own
  pub gives : p.gives ≡ o.gives
  pub left : p.left ≡ o.left
  pub counted : (k : Tid) → p.counted ≡ Some k → (o.counted ≡ Some k) × (p.raised ≡ o.raised)
  pub uncounted : p.uncounted ≡ o.uncounted

pub owes_less : (p o : Owed) → OwesAlike p o → OwesLess p o
owes_less p o alike =
    record {
      pending = λ n is. sym alike.pending ∙ is;
      raised = λ k is. sym alike.raised ∙ is;
      tasks = inl (alike_on_tasks p o alike);
      lowered = alike.lowered;
      own = alike.own;
      gives = alike.gives;
      left = alike.left;
      counted = λ k is. (sym alike.counted ∙ is, alike.raised);
      uncounted = alike.uncounted;
    }

module _ (w : List ℕ) (m : Memory) (s : State) (rs : Slots Region) (ts : Slots Task) (owes other : ℕ → Owed)
    (Kind : Task → Type 0) (new_refers : (t : Task) → Kind t → is_unfinished t ≡ is_explicit t)
    (keeps : KeepsWords w m s owes) (names : AreNamesLive s) (owners : AreOwnersLive s)
    (alike : (j : ℕ) → OwesLess (other j) (owes j))
    (region_slots : (c k : ℕ) → Grows (has_region_slot k (other c).region ≡ has_region_slot k (owes c).region)
    (NewRegion w (m c regions k) (has_region_slot k (owes c).region)) (s.regions c k) (rs c k))
    (task_slots : (c k : ℕ) → Grows (has_slot k (other c).tasks ≡ has_slot k (owes c).tasks) (NewTask w (m c tasks k) (has_slot k (owes c).tasks) Kind) (s.tasks c k) (ts c k)) where
  abbrev after : State
  after = record s { regions = rs; tasks = ts }

  abbrev NewAt : ℕ → ℕ → Task → Type 0
  NewAt c k = NewTask w (m c tasks k) (has_slot k (owes c).tasks) Kind

  -- ---- what was live is live

  pub task_after : (k : Tid) (t : Task) → task_of s k ≡ Some t → task_of after k ≡ Some t
  task_after k t is =
      found_stays _ (NewAt k.0.creator k.0.slot) (s.tasks k.0.creator k.0.slot) (ts k.0.creator k.0.slot)
      (task_slots k.0.creator k.0.slot) k.0.generation t is

  pub task_before : (k : Tid) (t : Task) → task_of after k ≡ Some t
      → (task_of s k ≡ Some t) ⊎ IsNew (NewAt k.0.creator k.0.slot) k.0.generation (s.tasks k.0.creator k.0.slot) t
  task_before k t is =
      found_was _ (NewAt k.0.creator k.0.slot) (s.tasks k.0.creator k.0.slot) (ts k.0.creator k.0.slot)
      (task_slots k.0.creator k.0.slot) k.0.generation t is

  some_task_after : (k : Tid) → IsSome (task_of s k) → IsSome (task_of after k)
  some_task_after k is =
      some_stays _ (NewAt k.0.creator k.0.slot) (s.tasks k.0.creator k.0.slot) (ts k.0.creator k.0.slot)
      (task_slots k.0.creator k.0.slot) k.0.generation is

  region_after : (n : Rid) (x : Region) → region_of s n ≡ Some x → region_of after n ≡ Some x
  region_after n x is =
      found_stays _ _ (s.regions n.0.creator n.0.slot) (rs n.0.creator n.0.slot)
      (region_slots n.0.creator n.0.slot) n.0.generation x is

  some_region_after : (n : Rid) → IsSome (region_of s n) → IsSome (region_of after n)
  some_region_after n is =
      some_stays _ _ (s.regions n.0.creator n.0.slot) (rs n.0.creator n.0.slot)
      (region_slots n.0.creator n.0.slot) n.0.generation is

  finished_after : (k : Tid) → HasFinished s k → HasFinished after k
  finished_after k x = record { task = x.task; live = task_after k x.task x.live; explicit = x.explicit; progress = x.progress }

  generating_after : (k : Tid) → HasFinished s k → generating_of after k ≡ generating_of s k
  generating_after k x =
      ap (option_and_then (λ (t : Task). t.generating)) (task_after k x.task x.live ∙ sym x.live)

  pub waits_after : (i : ℕ) (k : Tid) → WaitsFor s i k → WaitsFor after i k
  waits_after i k x = record { task = x.task; live = task_after k x.task x.live; progress = x.progress; thread = x.thread }

  -- ---- what is counted

  pub tasks_counted : (f : ℕ → ℕ → Task → ℕ) → ((c k : ℕ) (t : Task) → NewAt c k t → f c k t ≡ 0)
      → sum_of_slots w after f ≡ sum_of_slots w s f
  tasks_counted f none =
      sum_same s.count (λ c. sum_below (per_thread w tasks) (λ k. of_live (f c k) (ts c k).live))
      (λ c. sum_below (per_thread w tasks) (λ k. of_live (f c k) (s.tasks c k).live))
      (λ c. sum_same (per_thread w tasks) (λ k. of_live (f c k) (ts c k).live) (λ k. of_live (f c k) (s.tasks c k).live)
      (λ k. counted c k (task_slots c k)))
    where
      counted : (c k : ℕ)
          → Grows (has_slot k (other c).tasks ≡ has_slot k (owes c).tasks) (NewAt c k) (s.tasks c k) (ts c k)
          → of_live (f c k) (ts c k).live ≡ of_live (f c k) (s.tasks c k).live
      counted c k (inl stays) = ap (λ (x : Slot Task). of_live (f c k) x.live) stays.same
      counted c k (inr begins) =
          ap (of_live (f c k)) begins.live
          ∙ (none c k begins.object begins.new ∙ sym (ap (of_live (f c k)) begins.empty))

  owed_same : (f : Owed → ℕ) → ((j : ℕ) → f (other j) ≡ f (owes j))
      → sum_of_owed s other f ≡ sum_of_owed s owes f
  owed_same f each = sum_same s.count (λ j. f (other j)) (λ j. f (owes j)) each

  lowered_same : (k : Tid) (j : ℕ) → j < s.count
      → children_owed after k (other j) ≡ children_owed s k (other j)
  lowered_same k j known =
      go (other j).lowered
      (λ q is. lowered_finished s (owes j) (keeps.made j known).objects q (sym (alike j).lowered ∙ is))
    where
      go : (o : Option Tid) → ((q : Tid) → o ≡ Some q → HasFinished s q)
          → one (is_some_task k (other j).raised) + one (is_some_task k (option_and_then (generating_of after) o))
          ≡ one (is_some_task k (other j).raised) + one (is_some_task k (option_and_then (generating_of s) o))
      go None finished = refl
      go (Some q) finished =
          ap (λ g. one (is_some_task k (other j).raised) + one (is_some_task k g))
          (generating_after q (finished q refl))

  children_same : (k : Tid)
      → sum_of_owed after other (children_owed after k) ≡ sum_of_owed s other (children_owed s k)
  children_same k =
      sum_same_within s.count (λ j. children_owed after k (other j)) (λ j. children_owed s k (other j))
      (lowered_same k)

  -- a thread's new task, and the one that it has finished, are in the groups that they were in
  counts_owed_same : (g : Group) → sum_of_owed after other (count_owed after g) ≡ sum_of_owed s other (count_owed s g)
  counts_owed_same g =
      sum_same_within s.count (λ j. count_owed after g (other j)) (λ j. count_owed s g (other j))
      (λ j known. ap₂ (λ a b. one (is_some_group g a) + one (is_some_group g b))
      (through (λ q. group_within q) (other j).counted (λ q is.
      let before = ((alike j).counted q is).0 in
      (keeps.made j known).objects.raised q (keeps.groups.counted j q known before)))
      (through (λ q t. t.group) (other j).uncounted (λ q is.
      let own = keeps.groups.uncounted j q known (sym (alike j).uncounted ∙ is) in
      let x = ((keeps.made j known).objects.own q own).0 in
      some_found (task_of s q) x.task x.live)))
    where
      through : (f : Tid → Task → Option Group) (x : Option Tid) → ((q : Tid) → x ≡ Some q → IsSome (task_of s q))
          → option_and_then (λ q. option_and_then (f q) (task_of after q)) x
          ≡ option_and_then (λ q. option_and_then (f q) (task_of s q)) x
      through f None live = refl
      through f (Some q) live =
          let (t, is) = live_of (task_of s q) (live q refl) in
          ap (option_and_then (f q)) (task_after q t is ∙ sym is)

  left_same : (n : Rid) → sum_of_owed s other (left_owed n) ≡ sum_of_owed s owes (left_owed n)
  left_same n = owed_same (left_owed n) (λ j. ap (λ q. one (is_some_region n q)) (alike j).left)

  -- ---- new objects: nothing names them

  -- the name of what is live in a slot
  named_there : (c k : ℕ) → c < s.count → k < per_thread w tasks → (t : Task) → (s.tasks c k).live ≡ Some t
      → task_of s (task_in c k (s.tasks c k)) ≡ Some t
  named_there c k maker place t live =
      let word = ((keeps.made c maker).tasks k place).life.live t live in
      let some : (s.tasks c k).generations == (s.tasks c k).generations - 1 + 1 ≡ true =
      eq-eqb _ _ (omega (arith, word)) in
      ap (λ b. if b then (s.tasks c k).live else None) some ∙ live

  -- a name in an empty slot is no live task's
  unnamed : (k : Tid) → (s.tasks k.0.creator k.0.slot).live ≡ None → (o : Option Tid)
      → ((q : Tid) → o ≡ Some q → IsSome (task_of s q)) → is_some_task k o ≡ false
  unnamed k empty None live = refl
  unnamed k empty (Some q) live = go (is_task k q) refl
    where
      go : (b : Bool) → is_task k q ≡ b → b ≡ false
      go false e = refl
      go true e =
          let creator : k.0.creator ≡ q.0.creator = grind (arith, nat_tests) in
          let place : k.0.slot ≡ q.0.slot = grind (arith, nat_tests) in
          absurd
          (none_found q.0.generation (s.tasks q.0.creator q.0.slot)
          (subst (λ c. (s.tasks c q.0.slot).live ≡ None) creator (subst (λ j. (s.tasks k.0.creator j).live ≡ None) place empty)) (live q refl))

  region_unnamed : (n : Rid) → (s.regions n.0.creator n.0.slot).live ≡ None → (q : Rid)
      → IsSome (region_of s q) → is_region n q ≡ false
  region_unnamed n empty q live = go (is_region n q) refl
    where
      go : (b : Bool) → is_region n q ≡ b → b ≡ false
      go false e = refl
      go true e =
          let creator : n.0.creator ≡ q.0.creator = grind (arith, nat_tests) in
          let place : n.0.slot ≡ q.0.slot = grind (arith, nat_tests) in
          absurd
          (none_found q.0.generation (s.regions q.0.creator q.0.slot) (subst (λ c. (s.regions c q.0.slot).live ≡ None) creator (subst (λ j. (s.regions n.0.creator j).live ≡ None) place empty)) live)

  some_region_unnamed : (n : Rid) → (s.regions n.0.creator n.0.slot).live ≡ None → (o : Option Rid)
      → ((q : Rid) → o ≡ Some q → IsSome (region_of s q)) → is_some_region n o ≡ false
  some_region_unnamed n empty None live = refl
  some_region_unnamed n empty (Some q) live = region_unnamed n empty q (live q refl)

  -- no task is made by a new one, and none is in a new region
  no_children : (k : Tid) → (s.tasks k.0.creator k.0.slot).live ≡ None → (f : Task → Bool)
      → sum_of_slots w s (λ c j t. one (f t && is_some_task k t.generating)) ≡ 0
  no_children k empty f =
      slots_none_within w s (λ c j t. one (f t && is_some_task k t.generating))
      (λ c j maker place. go c j maker place (s.tasks c j).live refl)
    where
      go : (c j : ℕ) → c < s.count → j < per_thread w tasks → (o : Option Task) → (s.tasks c j).live ≡ o
          → of_live (λ t. one (f t && is_some_task k t.generating)) o ≡ 0
      go c j maker place None is = refl
      go c j maker place (Some t) is =
          one_none (f t) (is_some_task k t.generating)
          (unnamed k empty t.generating (λ q made. let (u, live, _) =
          (names.tasks (task_in c j (s.tasks c j)) t (named_there c j maker place t is)).generating q made in some_found (task_of s q) u live))

  no_tasks : (n : Rid) → (s.regions n.0.creator n.0.slot).live ≡ None → unfinished_in w s n ≡ 0
  no_tasks n empty =
      slots_none_within w s (λ c j t. one (is_unfinished t && is_region n t.region))
      (λ c j maker place. go c j maker place (s.tasks c j).live refl)
    where
      go : (c j : ℕ) → c < s.count → j < per_thread w tasks → (o : Option Task) → (s.tasks c j).live ≡ o
          → of_live (λ t. one (is_unfinished t && is_region n t.region)) o ≡ 0
      go c j maker place None is = refl
      go c j maker place (Some t) is =
          one_none (is_unfinished t) (is_region n t.region)
          (region_unnamed n empty t.region (let (x, live) = (names.tasks (task_in c j (s.tasks c j)) t (named_there c j maker place t is)).region in some_found (region_of s t.region) x live))

  -- a group of which nothing that lives is the owner
  ungrouped : (g : Group) → (s.tasks g.owner.0.creator g.owner.0.slot).live ≡ None → (o : Option Group)
      → ((h : Group) → o ≡ Some h → IsSome (task_of s h.owner)) → is_some_group g o ≡ false
  ungrouped g empty None live = refl
  ungrouped g empty (Some h) live =
      ap (λ b. b && g.index == h.index)
      (unnamed g.owner empty (Some h.owner) (λ q is. let same : h.owner ≡ q = cc in subst (λ (y : Tid). IsSome (task_of s y)) same (live h refl)))

  no_members : (g : Group) → (s.tasks g.owner.0.creator g.owner.0.slot).live ≡ None → unfinished_members w s g ≡ 0
  no_members g empty =
      slots_none_within w s (λ c j t. one (is_unfinished t && is_some_group g t.group))
      (λ c j maker place. go c j maker place (s.tasks c j).live refl)
    where
      go : (c j : ℕ) → c < s.count → j < per_thread w tasks → (o : Option Task) → (s.tasks c j).live ≡ o
          → of_live (λ t. one (is_unfinished t && is_some_group g t.group)) o ≡ 0
      go c j maker place None is = refl
      go c j maker place (Some t) is =
          one_none (is_unfinished t) (is_some_group g t.group)
          (ungrouped g empty t.group (λ h in_group. owners (task_in c j (s.tasks c j)) t h (named_there c j maker place t is) in_group))

  -- and no thread owes anything on it
  region_unowed : (n : Rid) → (s.regions n.0.creator n.0.slot).live ≡ None
      → (sum_of_owed s owes (pending_owed n) ≡ 0) × (sum_of_owed s owes (left_owed n) ≡ 0)
  region_unowed n empty = (
    sum_none_within s.count (λ j. pending_owed n (owes j)) (λ j known. ap one (some_region_unnamed n empty (owes j).pending (keeps.made j known).objects.pending)),
    sum_none_within s.count (λ j. left_owed n (owes j))
        (λ j known. ap one (some_region_unnamed n empty (owes j).left (λ q is. let (x, live, _) = (keeps.made j known).objects.left q is in some_found (region_of s q) x live))),
  )

  children_unowed : (k : Tid) → (s.tasks k.0.creator k.0.slot).live ≡ None
      → sum_of_owed s owes (children_owed s k) ≡ 0
  children_unowed k empty = sum_none_within s.count (λ j. children_owed s k (owes j)) each
    where
      made_by : (o : Option Tid)
          → ((q : Tid) → o ≡ Some q → IsSome (option_and_then (task_of s) (generating_of s q)))
          → is_some_task k (option_and_then (generating_of s) o) ≡ false
      made_by None live = refl
      made_by (Some q) live = go (generating_of s q) (live q refl)
        where
          go : (g : Option Tid) → IsSome (option_and_then (task_of s) g) → is_some_task k g ≡ false
          go None is = refl
          go (Some h) is =
              unnamed k empty (Some h)
              (λ x same. let eq : h ≡ x = cc in subst (λ (y : Tid). IsSome (task_of s y)) eq is)

      each : (j : ℕ) → j < s.count → children_owed s k (owes j) ≡ 0
      each j known =
          let o = (keeps.made j known).objects in
          let a : one (is_some_task k (owes j).raised) ≡ 0 =
          ap one (unnamed k empty (owes j).raised o.raised) in
          let b : one (is_some_task k (option_and_then (generating_of s) (owes j).lowered)) ≡ 0 =
          ap one (made_by (owes j).lowered (λ q is. (o.lowered q is).1)) in
          omega (arith, a, b)

  references_unowed : (k : Tid) → (s.tasks k.0.creator k.0.slot).live ≡ None
      → sum_of_owed s owes (references_owed k) ≡ 0
  references_unowed k empty = sum_none_within s.count (λ j. references_owed k (owes j)) each
    where
      there : (o : Owed) (q : Tid) → IsOwedIn s o q → IsSome (task_of s q)
      there o q (t, live, _) = some_found (task_of s q) t live

      -- a live task's place is another one
      unplaced : (q : Tid) (at : Place) → is_at q at ≡ true → IsSome (task_of s q) → is_at k at ≡ false
      unplaced q at is live = go (is_at k at) refl
        where
          go : (b : Bool) → is_at k at ≡ b → b ≡ false
          go false e = refl
          go true e =
              let creator : k.0.creator ≡ q.0.creator = grind (arith, nat_tests) in
              let place : k.0.slot ≡ q.0.slot = grind (arith, nat_tests) in
              absurd
              (none_found q.0.generation (s.tasks q.0.creator q.0.slot) (subst (λ c. (s.tasks c q.0.slot).live ≡ None) creator (subst (λ j. (s.tasks k.0.creator j).live ≡ None) place empty)) live)

      returned : (o : Owed) (at : Option Place) → ((p : Place) → at ≡ Some p → (q : Tid) × (is_at q p ≡ true) × IsOwedIn s o q)
          → is_at_some k at ≡ false
      returned o None owed = refl
      returned o (Some p) owed = let (q, is, t) = owed p refl in unplaced q p is (there o q t)

      each : (j : ℕ) → j < s.count → references_owed k (owes j) ≡ 0
      each j known =
          let o = (keeps.made j known).objects in
          let a : one (is_some_task k (owes j).referred) ≡ 0 =
          ap one (unnamed k empty (owes j).referred (λ q is. there (owes j) q (o.referred q is))) in
          let b : one (is_some_task k (owes j).own) ≡ 0 =
          ap one (unnamed k empty (owes j).own (λ q is. there (owes j) q (o.own q is).1)) in
          let c : one (is_at_some k (owes j).returned) ≡ 0 =
          ap one (returned (owes j) (owes j).returned o.returned) in
          omega (arith, a, b, c)

  groups_unowed : (g : Group) → (s.tasks g.owner.0.creator g.owner.0.slot).live ≡ None
      → sum_of_owed s owes (count_owed s g) ≡ 0
  groups_unowed g empty = sum_none_within s.count (λ j. count_owed s g (owes j)) each
    where
      of_own : (q : Tid) (o : Option Task) → task_of s q ≡ o → (h : Group)
          → option_and_then (λ t. t.group) o ≡ Some h → IsSome (task_of s h.owner)
      of_own q None live h is = absurd (cc)
      of_own q (Some t) live h is = owners q t h live is

      of_new : (q : Tid) (o : Option Task) → task_of s q ≡ o → (h : Group)
          → option_and_then (group_within q) o ≡ Some h → IsSome (task_of s h.owner)
      of_new q None live h is = absurd (cc)
      of_new q (Some t) live h is = go t.open_groups is
        where
          go : (n : ℕ) → innermost_or t.group q n ≡ Some h → IsSome (task_of s h.owner)
          go zero is = owners q t h live is
          go (suc n) is =
              let same : q ≡ h.owner = ap (λ (x : Group). x.owner) (group_is is) in
              subst (λ (y : Tid). IsSome (task_of s y)) same (some_found (task_of s q) t live)
            where
              group_is : Some (record { owner = q; index = n }) ≡ Some h → group_at q n ≡ h
              group_is same = some_same refl same

      each : (j : ℕ) → j < s.count → count_owed s g (owes j) ≡ 0
      each j known =
          let a : one (is_some_group g (option_and_then (group_of_new s) (owes j).counted)) ≡ 0 =
          ap one (ungrouped g empty _ (λ h is. news (owes j).counted h is)) in
          let b : one (is_some_group g (option_and_then (group_of s) (owes j).uncounted)) ≡ 0 =
          ap one (ungrouped g empty _ (λ h is. owns (owes j).uncounted h is)) in
          omega (arith, a, b)
        where
          news : (o : Option Tid) (h : Group) → option_and_then (group_of_new s) o ≡ Some h → IsSome (task_of s h.owner)
          news None h is = absurd (cc)
          news (Some q) h is = of_new q (task_of s q) refl h is

          owns : (o : Option Tid) (h : Group) → option_and_then (group_of s) o ≡ Some h → IsSome (task_of s h.owner)
          owns None h is = absurd (cc)
          owns (Some q) h is = of_own q (task_of s q) refl h is

  gives_same : (k : Tid) → sum_of_owed s other (gives_owed k) ≡ sum_of_owed s owes (gives_owed k)
  gives_same k = owed_same (gives_owed k) (λ j. ap (λ q. one (is_some_task k q)) (alike j).gives)

  gives_unowed : (k : Tid) → (s.tasks k.0.creator k.0.slot).live ≡ None
      → sum_of_owed s owes (gives_owed k) ≡ 0
  gives_unowed k empty =
      sum_none_within s.count (λ j. gives_owed k (owes j))
      (λ j known. ap one
      (unnamed k empty (owes j).gives (λ q is. let (t, live, _) = ((keeps.made j known).objects.gives q is).1 in some_found (task_of s q) t live)))

  module _
      (references_counted : (k : Tid) → live_children w after k + sum_of_owed s other (references_owed k) ≡ live_children w s k + sum_of_owed s owes (references_owed k))
      (pending_counted : (n : Rid) → unfinished_in w after n + sum_of_owed s other (pending_owed n) ≡ unfinished_in w s n + sum_of_owed s owes (pending_owed n))
      (children_counted : (k : Tid) → unfinished_children w after k + sum_of_owed s other (children_owed s k) ≡ unfinished_children w s k + sum_of_owed s owes (children_owed s k))
      (members_counted : (g : Group) → unfinished_members w after g + sum_of_owed s other (count_owed s g) ≡ unfinished_members w s g + sum_of_owed s owes (count_owed s g)) where
    -- ---- objects that were live

    region_kept : (n : Rid) (r : Rec) (x : Region) → KeepsRegion w s owes n r x
        → KeepsRegion w after other n r x
    region_kept n r x o = region_counted w s after owes other n r x (pending_counted n) (left_same n) o

    counts_kept : (k : Tid) (r : Rec) (t : Task) → KeepsCounts w s owes k r t → KeepsCounts w after other k r t
    counts_kept k r t o = record {
      references = let was = o.references in let change = references_counted k in omega (arith, was, change);
      given = gives_same k ∙ o.given;
      children =
          let was = o.children in
          let change = children_counted k in
          let owed = children_same k in
          omega (arith, was, change, owed);
    }

    slots_kept : (r : Rec) (t : Task) → KeepsSlots w s r t → KeepsSlots w after r t
    slots_kept r t o = λ place within. go place (o place within)
      where
        go : (place : ℕ)
            → Has r TaskSlots place 0 ⊎ ((k : Tid) × IsDeferredIn s t place k × Has r TaskSlots place (slot_word w k))
            → Has r TaskSlots place 0 ⊎ ((k : Tid) × IsDeferredIn after t place k × Has r TaskSlots place (slot_word w k))
        go place (inl none) = inl none
        go place (inr (k, x, is)) =
            inr
            (k, record { task = x.task; live = task_after k x.task x.live; progress = x.progress; region = x.region; place_is = x.place_is; maker = x.maker }, is)

    task_kept : (k : Tid) (r : Rec) (t : Task) → KeepsTask w s owes k r t → KeepsTask w after other k r t
    task_kept k r t o = record {
      environment = o.environment;
      place = o.place;
      counts = counts_kept k r t o.counts;
      slots = λ implicit. slots_kept r t (o.slots implicit);
    }

    objects_kept : (j : ℕ) → All (λ q. WaitsFor after q.1 q.0) (other j).assigns → OwesOnLive s (owes j)
        → OwesOnLive after (other j)
    objects_kept j assigns x =
        let on_tasks = tasks_kept (alike j).tasks in
        record {
          pending = λ n is. some_region_after n (x.pending n ((alike j).pending n is));
          left = λ n is. let (r, live, open_) = x.left n (sym (alike j).left ∙ is) in (r, region_after n r live, open_);
          raised = λ k is. some_task_after k (x.raised k ((alike j).raised k is));
          referred = on_tasks.referred;
          own = on_tasks.own;
          returned = on_tasks.returned;
          gives = on_tasks.gives;
          lowered = λ k is.
              let before : (owes j).lowered ≡ Some k = sym (alike j).lowered ∙ is in
              let (own, live) = x.lowered k before in
              let finished = lowered_finished s (owes j) x k before in
              ((alike j).own ∙ own, subst (λ (g : Option Tid). IsSome (option_and_then (task_of after) g)) (sym (generating_after k finished)) (parent (generating_of s k) live));
          assigns = assigns;
        }
      where
        tasks_kept : OwesTasksAlike (other j) (owes j) ⊎ OwesNoTask (other j) → OwesOnTasks after (other j)
        tasks_kept (inl same) =
            owed_on_tasks s after (owes j) (other j)
            (record { live = λ k t is. (t, task_after k t is, refl); finished = finished_after }) same x
        tasks_kept (inr none) = record {
          referred = λ k is. let nobody = none.referred in absurd (cc);
          own = λ k is. let nobody = none.own in absurd (cc);
          returned = λ at is. let nobody = none.returned in absurd (cc);
          gives = λ k is. let nobody = none.gives in absurd (cc);
        }

        parent : (g : Option Tid) → IsSome (option_and_then (task_of s) g)
            → IsSome (option_and_then (task_of after) g)
        parent None is = is
        parent (Some q) is = some_task_after q is

    region_begun : (n : Rid) (r : Rec) (taken : Bool) (x : Region)
        → (s.regions n.0.creator n.0.slot).live ≡ None → NewRegion w r taken x
        → KeepsRegion w after other n r x
    region_begun n r taken x empty new =
        let o = new.filled in
        record {
          codes = o.codes;
          pending =
              let word = o.pending in
              let none = no_tasks n empty in
              let change = pending_counted n in
              let nobody = (region_unowed n empty).0 in
              omega (arith, word, none, change, nobody);
          left =
              let word = o.left in
              let owed = left_same n in
              let nobody = (region_unowed n empty).1 in
              let ended = new.ended in
              omega (arith, word, owed, nobody, ended);
        }

    task_begun : (k : Tid) (r : Rec) (taken : Bool) (t : Task) → (s.tasks k.0.creator k.0.slot).live ≡ None
        → NewTask w r taken Kind t → KeepsTask w after other k r t
    task_begun k r taken t empty new = record {
      environment = new.environment;
      place = new.place;
      counts = record {
        references =
            let word = new.references in
            let none : live_children w s k ≡ 0 = no_children k empty is_explicit in
            let change = references_counted k in
            let nobody = references_unowed k empty in
            omega (arith, word, none, change, nobody);
        given =
            gives_same k
            ∙ (gives_unowed k empty
            ∙ sym (referred_to (is_explicit t) _ (let word = new.references in let own = ap one (new_refers t new.kind) in omega (arith, word, own))));
        children =
            let word = new.children in
            let none : unfinished_children w s k ≡ 0 = no_children k empty is_unfinished in
            let change = children_counted k in
            let owed = children_same k in
            let nobody = children_unowed k empty in
            omega (arith, word, none, change, owed, nobody);
      };
      slots = λ implicit place within. inl (new.slots implicit place within);
    }

    -- ---- groups

    groups_kept : KeepsGroups w (λ c. m c tasks) after other
    groups_kept = record {
      counts = λ k t index live few. go k t index few (task_before k t live);
      counted = λ j q known is.
          let (before, same) = (alike j).counted q is in
          same ∙ keeps.groups.counted j q known before;
      uncounted = λ j q known is. (alike j).own ∙ keeps.groups.uncounted j q known (sym (alike j).uncounted ∙ is);
    }
      where
        go : (k : Tid) (t : Task) (index : ℕ) → index < OPEN_GROUPS
            → (task_of s k ≡ Some t) ⊎ IsNew (NewAt k.0.creator k.0.slot) k.0.generation (s.tasks k.0.creator k.0.slot) t
            → Has (m k.0.creator tasks k.0.slot) TaskSlots (COUNT_PLACE + index)
            (unfinished_members w after (group_at k index) + sum_of_owed after other (count_owed after (group_at k index)))
        go k t index few (inl live) =
            let was = keeps.groups.counts k t index live few in
            let change = members_counted (group_at k index) in
            let owed = counts_owed_same (group_at k index) in
            omega (arith, was, change, owed)
        go k t index few (inr new) =
            let word = new.new.groups index few in
            let none = no_members (group_at k index) new.empty in
            let nobody = groups_unowed (group_at k index) new.empty in
            let change = members_counted (group_at k index) in
            let owed = counts_owed_same (group_at k index) in
            omega (arith, word, none, nobody, change, owed)

    -- ---- the whole

    region_slot_kept : (c k : ℕ) → KeepsRegionSlot w s owes c k (m c regions k)
        → KeepsRegionSlot w after other c k (m c regions k)
    region_slot_kept c k o = go (region_slots c k)
      where
        go : Grows (has_region_slot k (other c).region ≡ has_region_slot k (owes c).region) (NewRegion w (m c regions k) (has_region_slot k (owes c).region)) (s.regions c k) (rs c k)
            → KeepsRegionSlot w after other c k (m c regions k)
        go (inl stays) = record {
          life =
              subst
              (λ (x : Slot Region). KeepsLife (m c regions k) RegionLife x (has_region_slot k (other c).region))
              (sym stays.same)
              (subst (λ b. KeepsLife (m c regions k) RegionLife (s.regions c k) b) (sym stays.fact) o.life);
          live = λ x is.
              let there : (s.regions c k).live ≡ Some x =
              sym (ap (λ (y : Slot Region). y.live) stays.same) ∙ is in
              subst (λ (y : Slot Region). KeepsRegion w after other (region_in c k y) (m c regions k) x)
              (sym stays.same) (region_kept (region_in c k (s.regions c k)) (m c regions k) x (o.live x there));
        }
        go (inr begins) = record {
          life = begun_life (m c regions k) RegionLife (s.regions c k) (rs c k)
              (NewRegion w (m c regions k) (has_region_slot k (owes c).region)) (has_region_slot k (owes c).region) (has_region_slot k (other c).region) begins begins.new.taken_is o.life;
          live =
              λ x is. region_begun (region_in c k (rs c k)) (m c regions k) (has_region_slot k (owes c).region) x begins.empty
              (subst (λ (y : Region). NewRegion w (m c regions k) (has_region_slot k (owes c).region) y) (some_same begins.live is) begins.new);
        }

    task_slot_kept : (c k : ℕ) → KeepsTaskSlot w s owes c k (m c tasks k)
        → KeepsTaskSlot w after other c k (m c tasks k)
    task_slot_kept c k o = go (task_slots c k)
      where
        go : Grows (has_slot k (other c).tasks ≡ has_slot k (owes c).tasks) (NewAt c k) (s.tasks c k) (ts c k)
            → KeepsTaskSlot w after other c k (m c tasks k)
        go (inl stays) = record {
          life =
              subst (λ (x : Slot Task). KeepsLife (m c tasks k) TaskLife x (has_slot k (other c).tasks))
              (sym stays.same)
              (subst (λ b. KeepsLife (m c tasks k) TaskLife (s.tasks c k) b) (sym stays.fact) o.life);
          live = λ t is.
              let there : (s.tasks c k).live ≡ Some t =
              sym (ap (λ (y : Slot Task). y.live) stays.same) ∙ is in
              subst (λ (y : Slot Task). KeepsTask w after other (task_in c k y) (m c tasks k) t) (sym stays.same) (task_kept (task_in c k (s.tasks c k)) (m c tasks k) t (o.live t there));
        }
        go (inr begins) = record {
          life = begun_life (m c tasks k) TaskLife (s.tasks c k) (ts c k) (NewAt c k) (has_slot k (owes c).tasks) (has_slot k (other c).tasks) begins begins.new.taken_is o.life;
          live = λ t is. task_begun (task_in c k (ts c k)) (m c tasks k) (has_slot k (owes c).tasks) t begins.empty (subst (NewAt c k) (some_same begins.live is) begins.new);
        }

    pub grown : ((j : ℕ) → j < s.count → KeepsMaking after j (other j))
        → ((j : ℕ) → j < s.count → All (λ q. WaitsFor after q.1 q.0) (other j).assigns)
        → ((j : ℕ) → j < s.count → KeepsAssign w after other j (m j threads 0)) → KeepsDeferred w (λ c. m c tasks) after other → KeepsWords w m after other
    grown making assigns assigned deferred = record {
      runtime_record = keeps.runtime_record;
      made = λ j known.
          let o = keeps.made j known in
          record {
            thread = o.thread;
            assign = assigned j known;
            regions = λ k within. region_slot_kept j k (o.regions k within);
            tasks = λ k within. task_slot_kept j k (o.tasks k within);
            making = making j known;
            objects = objects_kept j (assigns j known) o.objects;
          };
      deferred = deferred;
      groups = groups_kept;
    }
