-- An explicit task goes on, as it starts or finishes, and its thread owes otherwise: what has to be shown so that all is kept.
use Rattle.std.proofs.Common.{◌≡◌, ◌≢◌, ◌==◌, ◌+◌, ◌<◌, ℕ, true, false, inl, inr, List, Option, Some, None, refl, sym, ap, subst, ◌∙◌, arith, eq-eqb, if◌then◌else◌, ap₂}
use Rattle.std.specs.Prelude.{◌⊎◌, All, IsSome, ◌&&◌, not}
use Rattle.std.specs.Option.{option_and_then, option_map}
use Rattle.std.proofs.lemmas.List.Elements.{All-weaker}
use Rattle.omi_rep.specs.Records.{slot_word}
use Rattle.omi_model.specs.declared.id.Id.{Id}
use Rattle.omi_model.specs.declared.id.Rid.{Rid}
use Rattle.omi_model.specs.declared.id.Tid.{Tid}
use Rattle.omi_model.specs.declared.progress.Progress.TheVariants as progress
use Rattle.omi_model.specs.declared.region.Region.{Region}
use Rattle.omi_model.specs.declared.slot.Slot.{Slot}
use Rattle.omi_model.specs.declared.task.Task.{Task}
use Rattle.omi_model.specs.Changes.{on_task}
use Rattle.omi_model.specs.Put.{changed, named}
use Rattle.omi_model.specs.State.{State, task_of}
use Rattle.omi_model.proofs.Slots.{each_slot, found_live, on_empty, on_generations, on_other, on_same, same_or_not, some_same}
use Rattle.omi_model.specs.Groups.{group_within, innermost_or}
use Rattle.omi_model.specs.declared.group.Group.{Group}
use Rattle.omi_numbers.specs.declared.limits.TheConstants.{OWN_SLOTS}
use Rattle.omi_layout.specs.declared.field.Field.TheVariants.{RegionLife, TaskChildren, TaskLife, TaskReferences, TaskSlots}
use Rattle.omi_layout.specs.Field.{regions, tasks, threads}
use Rattle.omi_layout.specs.Memory.{Memory, Rec, replace_at}
use Rattle.omi_layout.specs.Named.{number}
use Rattle.omi_layout.specs.Table.{per_thread}
use Rattle.omi_layout.proofs.Puts.{each_put}
use Rattle.omi_rule_words.specs.Owes.{Owed}
use Rattle.omi_rule_words.specs.Counts.{assign_owed, assigns_in, children_owed, generating_of, has_slot, has_region_slot, is_some_region, is_some_task, left_owed, of_live, one, pending_owed, start_owed, sum_below, sum_of_owed, sum_of_slots, unfinished_children, unfinished_in, is_explicit, live_children, references_owed, gives_owed, own_reference}
use Rattle.omi_rule_words.specs.Threads.{Has, KeepsAssign, WaitsFor}
use Rattle.omi_rule_words.specs.Objects.{IsDeferredIn, KeepsCounts, KeepsEnvironment, KeepsLife, KeepsPlace, KeepsRegion, KeepsSlots, slots_with}
use Rattle.omi_rule_words.specs.Words.{AreApart, HasFinished, IsInTheMaking, KeepsMaking, KeepsTask, KeepsTaskSlot, KeepsWords, OwesOnLive, task_in}
use Rattle.omi_rule_words.proofs.CountedRegions.{region_counted}
use Rattle.omi_rule_words.proofs.EachPlace.{each_place}
use Rattle.omi_rule_words.proofs.OtherCounts.{owed_put, owed_put_same}
use Rattle.omi_rule_words.proofs.OwedTasks.{TasksStay, owed_on_tasks, owes_tasks_alike}
use Rattle.omi_rule_words.proofs.Shown.{found_generations}
use Rattle.omi_rule_words.proofs.Sums.{sum_changed, sum_same}
use Rattle.omi_rule_words.proofs.TaskWords.{task_name}
use Rattle.omi_rule_words.proofs.GroupCounts.{count_same, groups_counted}
use Rattle.omi_rule_words.specs.Groups.{KeepsGroups, count_owed, group_of, group_of_new, unfinished_members}
use Rattle.omi_rule_words.proofs.PendingWords.{live_of}

-- a task goes on as another, which no thread has met or lowered anything for
pub record GoesTo (t u : Task) : Type 0 where
  pub explicit : t.implicit ≡ false
  pub implicit : u.implicit ≡ t.implicit
  pub region : u.region ≡ t.region
  pub generating : u.generating ≡ t.generating
  pub group : u.group ≡ t.group
  pub open_groups : u.open_groups ≡ t.open_groups
  pub unmet : t.progress ≢ progress.NotBegun
  pub unfinished : t.progress ≢ progress.Finished
  pub started : u.progress ≢ progress.Deferred
  pub begun : u.progress ≢ progress.NotBegun

-- two threads owe the same of records, members and assign words
pub record TeamsAlike (p o : Owed) : Type 0 where
  pub region : p.region ≡ o.region
  pub tasks : p.tasks ≡ o.tasks
  pub left : p.left ≡ o.left
  pub assigns : p.assigns ≡ o.assigns
  pub met : p.met ≡ o.met

module _ (w : List ℕ) (s : State) (k : Tid) (t : Task) (g : Task → Task) (live : task_of s k ≡ Some t)
    (goes : GoesTo t (g t)) where
  abbrev after : State
  after = on_task s k g

  abbrev there : Slot Task
  there = s.tasks k.0.creator k.0.slot

  live_there : there.live ≡ Some t
  live_there = found_live k.0.generation there t live

  -- the slots of all tasks
  slot_here : after.tasks k.0.creator k.0.slot ≡ record { generations = there.generations; live = Some (g t) }
  slot_here =
      each_slot s.tasks k.0
      (λ c j (y : Slot Task). c ≡ k.0.creator → j ≡ k.0.slot → y ≡ record { generations = there.generations; live = Some (g t) })
      (changed k.0.generation g there)
      (λ _ _. ap (λ b. if b then record { generations = there.generations; live = option_map g there.live } else there) (eq-eqb _ _ (found_generations k.0.generation there t live))
      ∙ ap (λ o. record { generations = there.generations; live = option_map g o }) live_there)
      (λ c j apart a b. absurd (apart a b)) k.0.creator k.0.slot refl refl

  slot_beside : (c j : ℕ) → (c ≡ k.0.creator → j ≡ k.0.slot → ⊥) → after.tasks c j ≡ s.tasks c j
  slot_beside =
      each_slot s.tasks k.0 (λ c j (y : Slot Task). (c ≡ k.0.creator → j ≡ k.0.slot → ⊥) → y ≡ s.tasks c j)
      (changed k.0.generation g there) (λ apart. absurd (apart refl refl)) (λ c j _ _. refl)

  -- what is found under a name
  now : task_of after k ≡ Some (g t)
  now = on_same s.tasks k.0 g ∙ ap (option_map g) live

  beside : (q : Tid) → (q.0 ≡ k.0 → ⊥) → task_of after q ≡ task_of s q
  beside q ne = on_other s.tasks k.0 g q.0 ne

  -- a name is this one, or the same is found under it
  each_name : (P : Tid → Option Task → Option Task → Type 0) → P k (Some t) (Some (g t))
      → ((q : Tid) (o : Option Task) → (q.0 ≡ k.0 → ⊥) → P q o o) → (q : Tid)
      → P q (task_of s q) (task_of after q)
  each_name P here other q = go (same_or_not q.0 k.0)
    where
      go : (q.0 ≡ k.0) ⊎ (q.0 ≡ k.0 → ⊥) → P q (task_of s q) (task_of after q)
      go (inl same) =
          subst (λ (n : Id). P (record { 0 = n }) (named s.tasks n) (named after.tasks n)) (sym same)
          (subst (λ o. P k (task_of s k) o) (sym now) (subst (λ o. P k o (Some (g t))) (sym live) here))
      go (inr ne) = subst (λ o. P q (task_of s q) o) (sym (beside q ne)) (other q (task_of s q) ne)

  pub some_after : (q : Tid) → IsSome (task_of s q) → IsSome (task_of after q)
  some_after = each_name (λ q o p. IsSome o → IsSome p) (λ is. refl) (λ q o _ is. is)

  some_before : (q : Tid) → IsSome (task_of after q) → IsSome (task_of s q)
  some_before = each_name (λ q o p. IsSome p → IsSome o) (λ is. refl) (λ q o _ is. is)

  pub generating_same : (q : Tid) → generating_of after q ≡ generating_of s q
  generating_same =
      each_name
      (λ q o p. option_and_then (λ (x : Task). x.generating) p ≡ option_and_then (λ (x : Task). x.generating) o) goes.generating
      (λ q o _. refl)

  group_same : (q : Tid) → group_of after q ≡ group_of s q
  group_same =
      each_name
      (λ q o p. option_and_then (λ (x : Task). x.group) p ≡ option_and_then (λ (x : Task). x.group) o) goes.group
      (λ q o _. refl)

  new_group_same : (q : Tid) → group_of_new after q ≡ group_of_new s q
  new_group_same =
      each_name (λ q o p. option_and_then (group_within q) p ≡ option_and_then (group_within q) o)
      (ap₂ (λ x n. innermost_or x k n) goes.group goes.open_groups) (λ q o _. refl)

  -- what is found under another name, as it was
  stays_after : (q : Tid) (x : Task) → task_of s q ≡ Some x → (q.0 ≡ k.0 → ⊥) → task_of after q ≡ Some x
  stays_after q x is ne = beside q ne ∙ is

  stays_before : (q : Tid) (x : Task) → task_of after q ≡ Some x → (q.0 ≡ k.0 → ⊥) → task_of s q ≡ Some x
  stays_before q x is ne = sym (beside q ne) ∙ is

  -- and under this one
  same_before : (q : Tid) (x : Task) → task_of s q ≡ Some x → q.0 ≡ k.0 → x ≡ t
  same_before q x is same = some_same (ap (named s.tasks) (sym same) ∙ is) live

  same_after : (q : Tid) (x : Task) → task_of after q ≡ Some x → q.0 ≡ k.0 → x ≡ g t
  same_after q x is same = some_same (ap (named after.tasks) (sym same) ∙ is) now

  waits_after : (i : ℕ) (q : Tid) → WaitsFor s i q → WaitsFor after i q
  waits_after i q x = record {
    task = x.task;
    live = stays_after q x.task x.live (λ same. goes.unmet (subst (λ (y : Task). y.progress ≡ progress.NotBegun) (same_before q x.task x.live same) x.progress));
    progress = x.progress;
    thread = x.thread;
  }

  waits_before : (i : ℕ) (q : Tid) → WaitsFor after i q → WaitsFor s i q
  waits_before i q x = record {
    task = x.task;
    live = stays_before q x.task x.live (λ same. goes.begun (subst (λ (y : Task). y.progress ≡ progress.NotBegun) (same_after q x.task x.live same) x.progress));
    progress = x.progress;
    thread = x.thread;
  }

  finished_after : (q : Tid) → HasFinished s q → HasFinished after q
  finished_after q x = record {
    task = x.task;
    live = stays_after q x.task x.live (λ same. goes.unfinished (subst (λ (y : Task). y.progress ≡ progress.Finished) (same_before q x.task x.live same) x.progress));
    explicit = x.explicit;
    progress = x.progress;
  }

  -- tasks live on in their regions
  pub tasks_live : TasksStay s after
  tasks_live = record {
    live =
        each_name
        (λ q o p. (x : Task) → o ≡ Some x → (y : Task) × (p ≡ Some y) × (y.region ≡ x.region))
        (λ x is. (g t, refl, goes.region ∙ ap (λ (y : Task). y.region) (some_same refl is)))
        (λ q o _ x is. (x, is, refl));
    finished = finished_after;
  }

  -- ---- what is counted

  abbrev counted_at : (ℕ → ℕ → Task → ℕ) → State → ℕ → ℕ → ℕ
  counted_at f u c j = of_live (f c j) (u.tasks c j).live

  counted_here : (f : ℕ → ℕ → Task → ℕ)
      → (counted_at f after k.0.creator k.0.slot ≡ f k.0.creator k.0.slot (g t)) × (counted_at f s k.0.creator k.0.slot ≡ f k.0.creator k.0.slot t)
  counted_here f =
      (ap (λ (x : Slot Task). of_live (f k.0.creator k.0.slot) x.live) slot_here, ap (of_live (f k.0.creator k.0.slot)) live_there)

  counted_beside : (f : ℕ → ℕ → Task → ℕ) (c j : ℕ) → (c ≡ k.0.creator → j ≡ k.0.slot → ⊥)
      → counted_at f after c j ≡ counted_at f s c j
  counted_beside f c j apart = ap (λ (x : Slot Task). of_live (f c j) x.live) (slot_beside c j apart)

  -- where it counts the same
  pub tasks_counted : (f : ℕ → ℕ → Task → ℕ) → f k.0.creator k.0.slot (g t) ≡ f k.0.creator k.0.slot t
      → sum_of_slots w after f ≡ sum_of_slots w s f
  tasks_counted f same =
      sum_same s.count (λ c. sum_below (per_thread w tasks) (λ j. counted_at f after c j))
      (λ c. sum_below (per_thread w tasks) (λ j. counted_at f s c j))
      (λ c. sum_same (per_thread w tasks) (λ j. counted_at f after c j) (λ j. counted_at f s c j)
      (λ j. each_place (λ c j. counted_at f after c j ≡ counted_at f s c j) k.0.creator k.0.slot ((counted_here f).0 ∙ (same ∙ sym (counted_here f).1)) (counted_beside f) c j))

  -- and where it counts otherwise
  pub tasks_recounted : k.0.creator < s.count → k.0.slot < per_thread w tasks → (f : ℕ → ℕ → Task → ℕ)
      → sum_of_slots w after f + f k.0.creator k.0.slot t ≡ sum_of_slots w s f + f k.0.creator k.0.slot (g t)
  tasks_recounted maker within f =
      let here = counted_here f in
      let first =
      sum_changed (per_thread w tasks) k.0.slot (λ j. counted_at f s k.0.creator j)
      (λ j. counted_at f after k.0.creator j) within
      (λ j ne. counted_beside f k.0.creator j (λ _ same. ne same)) in
      let second = sum_changed s.count k.0.creator (λ c. sum_below (per_thread w tasks) (λ j. counted_at f s c j)) (λ c. sum_below (per_thread w tasks) (λ j. counted_at f after c j)) maker
      (λ c ne. sum_same (per_thread w tasks) (λ j. counted_at f after c j) (λ j. counted_at f s c j) (λ j. counted_beside f c j (λ same _. ne same))) in
      let a = here.0 in
      let b = here.1 in
      omega (arith, a, b, first, second)

  children_owed_same : (q : Tid) (o : Owed) → children_owed after q o ≡ children_owed s q o
  children_owed_same q o = go o.lowered
    where
      go : (lowered : Option Tid)
          → one (is_some_task q o.raised) + one (is_some_task q (option_and_then (generating_of after) lowered))
          ≡ one (is_some_task q o.raised) + one (is_some_task q (option_and_then (generating_of s) lowered))
      go None = refl
      go (Some h) = ap (λ x. one (is_some_task q o.raised) + one (is_some_task q x)) (generating_same h)

  -- ---- what is kept

  module _ (m : Memory) (owes : ℕ → Owed) (i : ℕ) (p : Owed) (keeps : KeepsWords w m s owes)
      (alike_own : TeamsAlike p (owes i))
      (pending_counted : (n : Rid) → unfinished_in w after n + sum_of_owed s (replace_at owes i p) (pending_owed n) ≡ unfinished_in w s n + sum_of_owed s owes (pending_owed n))
      (references_same : (q : Tid) → (q.0 ≡ k.0 → ⊥) → references_owed q p ≡ references_owed q (owes i))
      (references_counted : own_reference (g t) + references_owed k p ≡ own_reference t + references_owed k (owes i))
      (gives_same : (q : Tid) → gives_owed q p ≡ gives_owed q (owes i)) (below : i < s.count)
      (children_counted : (q : Tid) → unfinished_children w after q + sum_of_owed s (replace_at owes i p) (children_owed s q) ≡ unfinished_children w s q + sum_of_owed s owes (children_owed s q))
      (unslotted : (c j : ℕ) → c < s.count → j < per_thread w tasks → (row : Task) → (s.tasks c j).live ≡ Some row → row.implicit ≡ true → (place : ℕ) → place < OWN_SLOTS
      → IsDeferredIn s row place k → m c tasks j (number TaskSlots) place ≡ slot_word w k → ⊥)
      (members_counted : (x : Group) → unfinished_members w after x + sum_of_owed s (replace_at owes i p) (count_owed s x) ≡ unfinished_members w s x + sum_of_owed s owes (count_owed s x))
      (counted_raised : (q : Tid) → p.counted ≡ Some q → p.raised ≡ Some q)
      (uncounted_own : (q : Tid) → p.uncounted ≡ Some q → p.own ≡ Some q) where
    abbrev other : ℕ → Owed
    other = replace_at owes i p

    alike : (j : ℕ) → TeamsAlike (other j) (owes j)
    alike j =
        each_put (λ c (x : Owed). TeamsAlike x (owes c)) owes i p alike_own j
        (λ _. record { region = refl; tasks = refl; left = refl; assigns = refl; met = refl })

    region_kept : (n : Rid) (r : Rec) (x : Region) → KeepsRegion w s owes n r x
        → KeepsRegion w after other n r x
    region_kept n r x o =
        region_counted w s after owes other n r x (pending_counted n)
        (owed_put_same s owes i p (left_owed n) (ap (λ q. one (is_some_region n q)) alike_own.left)) o

    live_children_same : (q : Tid) → live_children w after q ≡ live_children w s q
    live_children_same q =
        tasks_counted (λ _ _ y. one (is_explicit y && is_some_task q y.generating))
        (ap₂ (λ a b. one (not a && is_some_task q b)) goes.implicit goes.generating)

    children_kept : (q : Tid) (r : Rec) (x : Task) → KeepsCounts w s owes q r x
        → Has r TaskChildren 0 (unfinished_children w after q + sum_of_owed s other (children_owed after q))
    children_kept q r x o =
        let was = o.children in
        let change = children_counted q in
        let owed : sum_of_owed s other (children_owed after q) ≡ sum_of_owed s other (children_owed s q)
        = sum_same s.count (λ j. children_owed after q (other j)) (λ j. children_owed s q (other j))
        (λ j. children_owed_same q (other j)) in
        omega (arith, was, change, owed)

    counts_kept : (q : Tid) → (q.0 ≡ k.0 → ⊥) → (r : Rec) (x : Task) → KeepsCounts w s owes q r x
        → KeepsCounts w after other q r x
    counts_kept q ne r x o = record {
      references =
          let was = o.references in
          let same = live_children_same q in
          let owed = owed_put_same s owes i p (references_owed q) (references_same q ne) in
          omega (arith, was, same, owed);
      children = children_kept q r x o;
      given = owed_put_same s owes i p (gives_owed q) (gives_same q) ∙ o.given;
    }

    -- and of the task itself
    own_counts : (r : Rec) → KeepsCounts w s owes k r t → KeepsCounts w after other k r (g t)
    own_counts r o = record {
      references =
          let was = o.references in
          let same = live_children_same k in
          let change = owed_put s owes i p below (references_owed k) in
          let counted = references_counted in
          omega (arith, was, same, change, counted);
      children = children_kept k r t o;
      given =
          owed_put_same s owes i p (gives_owed k) (gives_same k)
          ∙ (o.given ∙ ap (λ b. one (not b && r (number TaskReferences) 0 == 0)) (sym goes.implicit));
    }

    slots_kept : (c j : ℕ) → c < s.count → j < per_thread w tasks → (x : Task) → (s.tasks c j).live ≡ Some x
        → x.implicit ≡ true → KeepsSlots w s (m c tasks j) x → KeepsSlots w after (m c tasks j) x
    slots_kept c j maker within x is implicit o = λ place below. go place below (o place below)
      where
        go : (place : ℕ) → place < OWN_SLOTS
            → Has (m c tasks j) TaskSlots place 0 ⊎ ((q : Tid) × IsDeferredIn s x place q × Has (m c tasks j) TaskSlots place (slot_word w q))
            → Has (m c tasks j) TaskSlots place 0 ⊎ ((q : Tid) × IsDeferredIn after x place q × Has (m c tasks j) TaskSlots place (slot_word w q))
        go place below (inl none) = inl none
        go place below (inr (q, d, word)) = inr (
          q,
          record {
            task = d.task;
            live = stays_after q d.task d.live (λ same.
                let name : q ≡ k = ap (λ (n : Id). record { 0 = n }) same in
                unslotted c j maker within x is implicit place below (subst (λ y. IsDeferredIn s x place y) name d) (subst (λ y. m c tasks j (number TaskSlots) place ≡ slot_word w y) name word));
            progress = d.progress;
            region = d.region;
            place_is = d.place_is;
            maker = d.maker;
          },
          word,
        )

    task_kept : (c j : ℕ) → c < s.count → j < per_thread w tasks → (x : Task) → (s.tasks c j).live ≡ Some x
        → (q : Tid) → (q.0 ≡ k.0 → ⊥) → KeepsTask w s owes q (m c tasks j) x
        → KeepsTask w after other q (m c tasks j) x
    task_kept c j maker within x is q ne o = record {
      environment = o.environment;
      place = o.place;
      counts = counts_kept q ne (m c tasks j) x o.counts;
      slots = λ implicit. slots_kept c j maker within x is implicit (o.slots implicit);
    }

    -- the record of the task itself has its codes
    module _
        (environment : KeepsTask w s owes k (m k.0.creator tasks k.0.slot) t → KeepsEnvironment w (m k.0.creator tasks k.0.slot) (g t))
        (place : KeepsTask w s owes k (m k.0.creator tasks k.0.slot) t → KeepsPlace w (m k.0.creator tasks k.0.slot) (g t)) where
      own_kept : KeepsTask w s owes k (m k.0.creator tasks k.0.slot) t
          → KeepsTask w after other k (m k.0.creator tasks k.0.slot) (g t)
      own_kept o = record {
        environment = environment o;
        place = λ _. place o;
        counts = own_counts (m k.0.creator tasks k.0.slot) o.counts;
        slots = λ implicit. let explicit = goes.implicit ∙ goes.explicit in absurd (cc);
      }

      slot_kept : (c j : ℕ) → c < s.count → j < per_thread w tasks → KeepsTaskSlot w s owes c j (m c tasks j)
          → KeepsTaskSlot w after other c j (m c tasks j)
      slot_kept =
          each_place
          (λ c j. c < s.count → j < per_thread w tasks → KeepsTaskSlot w s owes c j (m c tasks j) → KeepsTaskSlot w after other c j (m c tasks j)) k.0.creator k.0.slot here aside
        where
          owed_life : (c j : ℕ) → KeepsLife (m c tasks j) TaskLife (s.tasks c j) (has_slot j (owes c).tasks)
              → KeepsLife (m c tasks j) TaskLife (s.tasks c j) (has_slot j (other c).tasks)
          owed_life c j =
              subst (λ (ks : List Tid). KeepsLife (m c tasks j) TaskLife (s.tasks c j) (has_slot j ks))
              (sym (alike c).tasks)

          here : k.0.creator < s.count → k.0.slot < per_thread w tasks
              → KeepsTaskSlot w s owes k.0.creator k.0.slot (m k.0.creator tasks k.0.slot)
              → KeepsTaskSlot w after other k.0.creator k.0.slot (m k.0.creator tasks k.0.slot)
          here maker within o = record {
            life =
                let before = owed_life k.0.creator k.0.slot o.life in
                subst
                (λ (x : Slot Task). KeepsLife (m k.0.creator tasks k.0.slot) TaskLife x (has_slot k.0.slot (other k.0.creator).tasks))
                (sym slot_here)
                (record { live = λ x is. before.live t live_there; taken = λ none. absurd (cc); free = λ none. absurd (cc) });
            live = λ x is.
                let same : g t ≡ x = some_same (ap (λ (y : Slot Task). y.live) slot_here) is in
                subst
                (λ (y : Slot Task). KeepsTask w after other (task_in k.0.creator k.0.slot y) (m k.0.creator tasks k.0.slot) x)
                (sym slot_here)
                (subst (λ (y : Task). KeepsTask w after other (task_in k.0.creator k.0.slot there) (m k.0.creator tasks k.0.slot) y) same
                (subst (λ (q : Tid). KeepsTask w after other q (m k.0.creator tasks k.0.slot) (g t)) (sym (task_name s k t live))
                (own_kept (subst (λ (q : Tid). KeepsTask w s owes q (m k.0.creator tasks k.0.slot) t) (task_name s k t live) (o.live t live_there)))));
          }

          aside : (c j : ℕ) → (c ≡ k.0.creator → j ≡ k.0.slot → ⊥) → c < s.count → j < per_thread w tasks
              → KeepsTaskSlot w s owes c j (m c tasks j) → KeepsTaskSlot w after other c j (m c tasks j)
          aside c j apart maker within o = record {
            life = subst (λ (x : Slot Task). KeepsLife (m c tasks j) TaskLife x (has_slot j (other c).tasks)) (sym (slot_beside c j apart)) (owed_life c j o.life);
            live = λ x is.
                let was : (s.tasks c j).live ≡ Some x =
                sym (ap (λ (y : Slot Task). y.live) (slot_beside c j apart)) ∙ is in
                subst (λ (y : Slot Task). KeepsTask w after other (task_in c j y) (m c tasks j) x)
                (sym (slot_beside c j apart))
                (task_kept c j maker within x was (task_in c j (s.tasks c j)) (λ same. apart (ap (λ (n : Id). n.creator) same) (ap (λ (n : Id). n.slot) same)) (o.live x was));
          }

      making_kept : (j : ℕ) → KeepsMaking s j (owes j) → KeepsMaking after j (other j)
      making_kept j x = record {
        region = λ n is. x.region n (sym (alike j).region ∙ is);
        tasks =
            subst (λ (ks : List Tid). All (λ q. IsInTheMaking j (after.tasks j) q.0) ks) (sym (alike j).tasks)
            (All-weaker (λ (q : Tid). IsInTheMaking j (s.tasks j) q.0) (λ (q : Tid). IsInTheMaking j (after.tasks j) q.0)
            (λ q o. record { maker = o.maker; free = on_empty s.tasks k.0 g j q.0.slot o.free; next = o.next ∙ sym (on_generations s.tasks k.0 g j q.0.slot) }) (owes j).tasks x.tasks);
        apart = subst (λ (ks : List Tid). AreApart ks) (sym (alike j).tasks) x.apart;
      }

      objects_kept : (o : Owed) → OwesOnLive s o → OwesOnLive after o
      objects_kept o x =
          let on_tasks = owed_on_tasks s after o o tasks_live (owes_tasks_alike o) x in
          record {
            pending = x.pending;
            left = x.left;
            raised = λ q is. some_after q (x.raised q is);
            referred = on_tasks.referred;
            own = on_tasks.own;
            returned = on_tasks.returned;
            gives = on_tasks.gives;
            lowered = λ q is.
                let (own, made) = x.lowered q is in
                (own, subst (λ (h : Option Tid). IsSome (option_and_then (task_of after) h)) (sym (generating_same q)) (parent (generating_of s q) made));
            assigns = All-weaker (λ (q : Tid × ℕ). WaitsFor s q.1 q.0) (λ (q : Tid × ℕ). WaitsFor after q.1 q.0) (λ q. waits_after q.1 q.0) o.assigns x.assigns;
          }
        where
          parent : (h : Option Tid) → IsSome (option_and_then (task_of s) h)
              → IsSome (option_and_then (task_of after) h)
          parent None is = is
          parent (Some q) is = some_after q is

      assign_kept : (j : ℕ) → KeepsAssign w s owes j (m j threads 0)
          → KeepsAssign w after other j (m j threads 0)
      assign_kept j o = record {
        waiting = λ q waits.
            let was = o.waiting q (waits_before j q waits) in
            let once = was.once in
            let owed = owed_put_same s owes i p (assign_owed j q) (ap (assigns_in j q) alike_own.assigns) in
            let met : one (other j).met ≡ one (owes j).met = ap one (alike j).met in
            record { word_is = was.word_is; once = omega (arith, once, owed, met) };
        none = λ nobody. o.none (λ q waits. nobody q (waits_after j q waits));
      }

      groups_kept : KeepsGroups w (λ c. m c tasks) after other
      groups_kept =
          groups_counted w (λ c. m c tasks) s after owes other refl
          (λ q x is. live_of (task_of s q) (some_before q (subst (λ o. IsSome o) (sym is) refl)))
          (λ x.
          let change = members_counted x in
          let owed : sum_of_owed s other (count_owed after x) ≡ sum_of_owed s other (count_owed s x)
          = sum_same s.count (λ j. count_owed after x (other j)) (λ j. count_owed s x (other j))
          (λ j. count_same s after x (other j) new_group_same group_same) in
          omega (arith, change, owed))
          (λ j q below.
          each_put (λ c (o : Owed). c < s.count → o.counted ≡ Some q → o.raised ≡ Some q) owes i p (λ _. counted_raised q) j
          (λ _ there. keeps.groups.counted j q there) below)
          (λ j q below.
          each_put (λ c (o : Owed). c < s.count → o.uncounted ≡ Some q → o.own ≡ Some q) owes i p (λ _. uncounted_own q) j
          (λ _ there. keeps.groups.uncounted j q there) below)
          keeps.groups

      -- it is in no hand from then on
      pub task_moved : OwesOnLive after p → p.hand ≡ None
          → ((q : Tid) → (q.0 ≡ k.0 → ⊥) → start_owed q p ≡ start_owed q (owes i))
          → ((j : ℕ) (q : Tid) → j < s.count → j ≢ i → (owes j).hand ≡ Some q → q.0 ≡ k.0 → ⊥)
          → KeepsWords w m after (replace_at owes i p)
      task_moved objects empty hands_same unheld = record {
        runtime_record = keeps.runtime_record;
        groups = groups_kept;
        made = λ j below.
            let o = keeps.made j below in
            record {
              thread = o.thread;
              assign = assign_kept j o.assign;
              regions = λ n within.
                  let slot = o.regions n within in
                  record {
                    life = subst (λ (q : Option Rid). KeepsLife (m j regions n) RegionLife (s.regions j n) (has_region_slot n q)) (sym (alike j).region) slot.life;
                    live = λ x is. region_kept _ _ x (slot.live x is);
                  };
              tasks = λ n within. slot_kept j n below within (o.tasks n within);
              making = making_kept j o.making;
              objects = each_put (λ c (x : Owed). OwesOnLive s (owes c) → OwesOnLive after x) owes i p (λ _. objects) j (λ _. objects_kept (owes j)) o.objects;
            };
        deferred = record {
          once = λ q x is deferred.
              let ne : q.0 ≡ k.0 → ⊥ =
              λ same. goes.started (subst (λ (y : Task). y.progress ≡ progress.Deferred) (same_after q x is same) deferred) in
              let was = keeps.deferred.once q x (stays_before q x is ne) deferred in
              let slots : slots_with w (λ c. m c tasks) after (slot_word w q) ≡ slots_with w (λ c. m c tasks) s (slot_word w q)
              = tasks_counted
              (λ c j y. if y.implicit then sum_below OWN_SLOTS (λ place. one (m c tasks j (number TaskSlots) place == slot_word w q)) else 0)
              (ap (λ b. if b then sum_below OWN_SLOTS (λ place. one (m k.0.creator tasks k.0.slot (number TaskSlots) place == slot_word w q)) else 0) goes.implicit) in
              let owed = owed_put_same s owes i p (start_owed q) (hands_same q ne) in
              omega (arith, was, slots, owed);
          hands = λ j q below.
              each_put
              (λ c (o : Owed). c < s.count → o.hand ≡ Some q → (x : Task) × (task_of after q ≡ Some x) × (x.progress ≡ progress.Deferred)) owes i p
              (λ _ is. absurd (cc))
              j (λ ne there is. let (x, was, deferred) = keeps.deferred.hands j q there is in (x, stays_after q x was (unheld j q there ne is), deferred)) below;
        };
      }
