-- A task that is over is gone, and its record has the life word of a free one: what has to be shown so that all is kept.
use Rattle.std.proofs.Common.{◌≡◌, ◌≢◌, ◌==◌, ◌&&◌, ◌||◌, ◌+◌, ◌<◌, ℕ, Bool, true, false, not, inl, inr, List, [], ◌∷◌, Option, Some, None, refl, sym, ap, ap₂, subst, ◌∙◌, arith, eqb-true, if◌then◌else◌}
use Rattle.std.specs.Prelude.{◌⊎◌, All, IsSome}
use Rattle.std.specs.Option.{option_and_then}
use Rattle.std.proofs.lemmas.List.Elements.{All-head, All-tail, All-weaker}
use Rattle.omi_rep.specs.Records.{slot_word}
use Rattle.omi_model.specs.declared.id.Id.{Id}
use Rattle.omi_model.specs.declared.id.Rid.{Rid}
use Rattle.omi_model.specs.declared.id.Tid.{Tid}
use Rattle.omi_model.specs.declared.progress.Progress.{Progress}
use Rattle.omi_model.specs.declared.progress.Progress.TheVariants as progress
use Rattle.omi_model.specs.declared.region.Region.{Region}
use Rattle.omi_model.specs.declared.slot.Slot.{Slot}
use Rattle.omi_model.specs.declared.task.Task.{Task}
use Rattle.omi_model.specs.Freeing.{IsSpent}
use Rattle.omi_model.specs.Put.{gone, named}
use Rattle.omi_model.specs.State.{State, task_of}
use Rattle.omi_model.proofs.Slots.{found_live, gone_apart, gone_generations, gone_other, gone_was, some_same}
use Rattle.omi_model.specs.Groups.{group_within}
use Rattle.omi_model.specs.declared.group.Group.{Group}
use Rattle.omi_numbers.specs.declared.limits.TheConstants.{OWN_SLOTS}
use Rattle.omi_layout.specs.declared.field.Field.TheVariants.{RegionLife, TaskLife, TaskSlots}
use Rattle.omi_layout.specs.Field.{regions, runtime, tasks, threads}
use Rattle.omi_layout.specs.Memory.{Memory, Rec}
use Rattle.omi_layout.specs.Named.{number}
use Rattle.omi_layout.specs.Table.{per_thread}
use Rattle.omi_layout.proofs.Puts.{record_stays, word_read, word_stays}
use Rattle.omi_layout.specs.declared.limits.TheConstants.{COUNT_PLACE}
use Rattle.omi_pc.specs.declared.place.Place.{Place}
use Rattle.omi_rep.specs.Shows.{IsWithin}
use Rattle.omi_rule_words.specs.Owes.{Owed}
use Rattle.omi_rule_words.specs.Counts.{assign_owed, assigns_in, children_owed, generating_of, gives_owed, has_region_slot, has_slot, is_at, is_explicit, is_finished, is_region, is_some_region, is_some_task, is_unfinished, left_owed, live_children, of_live, one, pending_owed, references_owed, start_owed, sum_below, sum_of_owed, sum_of_slots}
use Rattle.omi_rule_words.specs.Threads.{Has, KeepsAssign, KeepsRuntime, KeepsThread, WaitsFor}
use Rattle.omi_rule_words.specs.Objects.{IsDeferredIn, KeepsCounts, KeepsDeferred, KeepsLife, KeepsRegion, KeepsSlots}
use Rattle.omi_rule_words.specs.Words.{AreApart, HasFinished, IsInTheMaking, IsOwedIn, KeepsMade, KeepsMaking, KeepsRegionSlot, KeepsTask, KeepsTaskSlot, KeepsWords, OwesOnLive, task_in}
use Rattle.omi_rule_words.specs.FreeKinds.{emptied_life, with_task_emptied}
use Rattle.omi_rule_words.proofs.Begun.{some_found}
use Rattle.omi_rule_words.proofs.CountedRegions.{region_counted}
use Rattle.omi_rule_words.proofs.EachPlace.{each_place}
use Rattle.omi_rule_words.proofs.GoneSlots as slots
use Rattle.omi_rule_words.proofs.LiveTasks.{found_below, named_as, task_in_live}
use Rattle.omi_rule_words.proofs.OtherStates.{slots_as_before}
use Rattle.omi_rule_words.proofs.OwedTasks.{OwesOnTasks, lowered_finished}
use Rattle.omi_rule_words.proofs.PendingWords.{live_of}
use Rattle.omi_rule_words.proofs.Sums.{sum_changed, sum_same, sum_same_within}
use Rattle.omi_rule_words.proofs.GroupCounts.{count_alike, groups_counted, groups_read}
use Rattle.omi_rule_words.specs.Groups.{KeepsGroups, count_owed, is_some_group}

-- two threads owe the same, but on references of generating tasks and to give tasks back
pub record OwesElse (p o : Owed) : Type 0 where
  pub region : p.region ≡ o.region
  pub tasks : p.tasks ≡ o.tasks
  pub pending : p.pending ≡ o.pending
  pub raised : p.raised ≡ o.raised
  pub lowered : p.lowered ≡ o.lowered
  pub referred : p.referred ≡ o.referred
  pub own : p.own ≡ o.own
  pub left : p.left ≡ o.left
  pub assigns : p.assigns ≡ o.assigns
  pub met : p.met ≡ o.met
  pub hand : p.hand ≡ o.hand
  pub counted : p.counted ≡ o.counted
  pub uncounted : p.uncounted ≡ o.uncounted

pub owes_else : (o : Owed) → OwesElse o o
owes_else o =
    record {
      region = refl;
      tasks = refl;
      pending = refl;
      raised = refl;
      lowered = refl;
      referred = refl;
      own = refl;
      left = refl;
      assigns = refl;
      met = refl;
      hand = refl;
      counted = refl;
      uncounted = refl;
    }

-- how often a word stands in the slots of a row
abbrev pub slots_of : Memory → ℕ → ℕ → ℕ → Task → ℕ
slots_of m code c j t =
    if t.implicit then sum_below OWN_SLOTS (λ at. one (m c tasks j (number TaskSlots) at == code)) else 0

-- what refers to a task, but for the task itself
abbrev pub referred_in : List ℕ → State → (ℕ → Owed) → Tid → ℕ
referred_in w s owes q = live_children w s q + sum_of_owed s owes (references_owed q)

-- a slot in which an object lives is none of a record in the making
pub unmade : {A : Type 0} (i : ℕ) (made : ℕ → Slot A) (slot : ℕ) (x : A) → (made slot).live ≡ Some x
    → (ks : List Tid) → All (λ k. IsInTheMaking i made k.0) ks → has_slot slot ks ≡ false
unmade {A} i made slot x live [] all = refl
unmade {A} i made slot x live (k ∷ ks) all =
    go (k.0.slot == slot) refl (unmade i made slot x live ks
    (All-tail (λ (q : Tid). IsInTheMaking i made q.0) k ks all))
  where
    go : (b : Bool) → k.0.slot == slot ≡ b → has_slot slot ks ≡ false → b || has_slot slot ks ≡ false
    go false e rest = rest
    go true e rest =
        let free = (All-head (λ (q : Tid). IsInTheMaking i made q.0) k ks all).free in
        let empty : (made slot).live ≡ None =
        subst (λ j. (made j).live ≡ None) (eqb-true k.0.slot slot e) free in
        absurd (cc)

module _ (w : List ℕ) (m : Memory) (s : State) (owes other : ℕ → Owed) (task : Tid) (old : Task)
    (keeps : KeepsWords w m s owes) (within : IsWithin w s) (spent : IsSpent s task old)
    (alike : (j : ℕ) → OwesElse (other j) (owes j)) where
  abbrev after : State
  after = record s { tasks = gone s.tasks task.0 }

  abbrev n : Memory
  n = with_task_emptied m task

  abbrev life_now : ℕ
  life_now = emptied_life task.0

  abbrev there : Slot Task
  there = s.tasks task.0.creator task.0.slot

  live_there : there.live ≡ Some old
  live_there = slots.live_there s.tasks task.0 old spent.live

  -- ---- the slots of all tasks

  slot_here : after.tasks task.0.creator task.0.slot ≡ record { generations = there.generations; live = None }
  slot_here = slots.slot_here s.tasks task.0 old spent.live

  slot_beside : (c j : ℕ) → (c ≡ task.0.creator → j ≡ task.0.slot → ⊥) → after.tasks c j ≡ s.tasks c j
  slot_beside = slots.slot_beside s.tasks task.0 old spent.live

  -- ---- what is found under a name

  pub task_before : (q : Tid) (x : Task) → task_of after q ≡ Some x
      → (task_of s q ≡ Some x) × (q.0 ≡ task.0 → ⊥)
  task_before q x is = (
    gone_was s.tasks task.0 q.0 x is,
    λ same. gone_apart s.tasks task.0 x (ap (named (gone s.tasks task.0)) (sym same) ∙ is),
  )

  pub task_after : (q : Tid) (x : Task) → (q.0 ≡ task.0 → ⊥) → task_of s q ≡ Some x → task_of after q ≡ Some x
  task_after q x ne is = gone_other s.tasks task.0 q.0 x ne is

  some_after : (q : Tid) → (q.0 ≡ task.0 → ⊥) → IsSome (task_of s q) → IsSome (task_of after q)
  some_after q ne is =
      let (x, live) = live_of (task_of s q) is in some_found (task_of after q) x (task_after q x ne live)

  -- what has not finished is another
  pub other_progress : (q : Tid) (x : Task) → task_of s q ≡ Some x → x.progress ≢ progress.Finished
      → q.0 ≡ task.0 → ⊥
  other_progress q x is ne same =
      ne (ap (λ (y : Task). y.progress) (some_same (ap (named s.tasks) (sym same) ∙ is) spent.live) ∙ spent.over)

  waits_after : (i : ℕ) (q : Tid) → WaitsFor s i q → WaitsFor after i q
  waits_after i q x = record {
    task = x.task;
    live = task_after q x.task (other_progress q x.task x.live
        (λ over. let waits = x.progress in absurd (cc))) x.live;
    progress = x.progress;
    thread = x.thread;
  }

  waits_before : (i : ℕ) (q : Tid) → WaitsFor after i q → WaitsFor s i q
  waits_before i q x =
      record { task = x.task; live = (task_before q x.task x.live).0; progress = x.progress; thread = x.thread }

  pub finished_after : (q : Tid) → (q.0 ≡ task.0 → ⊥) → HasFinished s q → HasFinished after q
  finished_after q ne x =
      record { task = x.task; live = task_after q x.task ne x.live; explicit = x.explicit; progress = x.progress }

  pub owed_in_after : (o p : Owed) → p.pending ≡ o.pending → (q : Tid) → (q.0 ≡ task.0 → ⊥) → IsOwedIn s o q
      → IsOwedIn after p q
  owed_in_after o p same q ne (x, live, region) = (x, task_after q x ne live, same ∙ region)

  -- what a thread owes on other tasks
  pub on_others : (o : Owed) → OwesOnLive s o → ((q : Tid) → o.referred ≡ Some q → q.0 ≡ task.0 → ⊥)
      → ((q : Tid) → o.own ≡ Some q → q.0 ≡ task.0 → ⊥)
      → ((p : Place) → o.returned ≡ Some p → is_at task p ≡ false)
      → ((q : Tid) → o.gives ≡ Some q → q.0 ≡ task.0 → ⊥) → OwesOnTasks after o
  on_others o x referred own returned gives = record {
    referred = λ q is. owed_in_after o o refl q (referred q is) (x.referred q is);
    own = λ q is.
        let (finished, owed) = x.own q is in
        (finished_after q (own q is) finished, owed_in_after o o refl q (own q is) owed);
    returned = λ p is.
        let (q, at, owed) = x.returned p is in
        let ne : q.0 ≡ task.0 → ⊥ =
        λ same. clash (sym (ap (λ y. is_at y p) (named_as q task same)) ∙ at) (returned p is) in
        (q, at, owed_in_after o o refl q ne owed);
    gives = λ q is.
        let (finished, owed) = x.gives q is in
        (finished_after q (gives q is) finished, owed_in_after o o refl q (gives q is) owed);
  }
    where
      clash : {b : Bool} → b ≡ true → b ≡ false → ⊥
      clash p q = cc

  -- ---- what is counted

  place : (task.0.creator < s.count) × (task.0.slot < per_thread w tasks)
  place = found_below w s within task.0.creator task.0.slot task.0.generation old spent.live

  pub tasks_recounted : (f : ℕ → ℕ → Task → ℕ)
      → sum_of_slots w after f + f task.0.creator task.0.slot old ≡ sum_of_slots w s f
  tasks_recounted f =
      let here : part after task.0.creator task.0.slot ≡ 0 =
      ap (λ (x : Slot Task). of_live (f task.0.creator task.0.slot) x.live) slot_here in
      let was : part s task.0.creator task.0.slot ≡ f task.0.creator task.0.slot old =
      ap (of_live (f task.0.creator task.0.slot)) live_there in
      let first =
      sum_changed (per_thread w tasks) task.0.slot (λ j. part s task.0.creator j)
      (λ j. part after task.0.creator j) place.1
      (λ j ne. beside task.0.creator j (λ _ same. ne same)) in
      let second =
      sum_changed s.count task.0.creator (λ c. sum_below (per_thread w tasks) (λ j. part s c j))
      (λ c. sum_below (per_thread w tasks) (λ j. part after c j)) place.0
      (λ c ne.
      sum_same (per_thread w tasks) (λ j. part after c j) (λ j. part s c j)
      (λ j. beside c j (λ same _. ne same))) in
      omega (arith, here, was, first, second)
    where
      part : State → ℕ → ℕ → ℕ
      part u c j = of_live (f c j) (u.tasks c j).live

      beside : (c j : ℕ) → (c ≡ task.0.creator → j ≡ task.0.slot → ⊥) → part after c j ≡ part s c j
      beside c j apart = ap (λ (x : Slot Task). of_live (f c j) x.live) (slot_beside c j apart)

  -- it is counted as unfinished nowhere
  not_unfinished : (b : Bool) → one (is_unfinished old && b) ≡ 0
  not_unfinished b =
      ap (λ (x : Progress). one (is_explicit old && not (is_finished x) && b)) spent.over ∙ go (is_explicit old)
    where
      go : (e : Bool) → one (e && false && b) ≡ 0
      go true = refl
      go false = refl

  owed_same : (f : Owed → ℕ) → ((j : ℕ) → f (other j) ≡ f (owes j))
      → sum_of_owed s other f ≡ sum_of_owed s owes f
  owed_same f each = sum_same s.count (λ j. f (other j)) (λ j. f (owes j)) each

  -- the same is found under another name
  found_same : (q : Tid) → (q.0 ≡ task.0 → ⊥) → task_of after q ≡ task_of s q
  found_same q ne = go (task_of s q) refl (task_of after q) refl
    where
      go : (o : Option Task) → task_of s q ≡ o → (p : Option Task) → task_of after q ≡ p → p ≡ o
      go (Some x) is p at = sym at ∙ task_after q x ne is
      go None is None at = refl
      go None is (Some y) at = let was = (task_before q y at).0 in absurd (cc)

  module _ (unlowered : (j : ℕ) → j < s.count → (owes j).lowered ≢ Some task)
      (unraised : (j : ℕ) → j < s.count → (owes j).raised ≢ Some task)
      (ungrouped : (j : ℕ) → j < s.count → (owes j).uncounted ≢ Some task) where
    -- as much is owed on a group
    groups_same : (g : Group)
        → sum_of_owed after other (count_owed after g) ≡ sum_of_owed s owes (count_owed s g)
    groups_same g =
        sum_same_within s.count (λ j. count_owed after g (other j)) (λ j. count_owed s g (owes j))
        (λ j known.
        count_alike after g (other j) (owes j) (alike j).counted (alike j).uncounted
        ∙ ap₂ (λ a b. one (is_some_group g a) + one (is_some_group g b))
        (through (λ q. group_within q) (owes j).counted (λ is. unraised j known (keeps.groups.counted j task known is)))
        (through (λ q t. t.group) (owes j).uncounted (ungrouped j known)))
      where
        through : (f : Tid → Task → Option Group) (x : Option Tid) → x ≢ Some task
            → option_and_then (λ q. option_and_then (f q) (task_of after q)) x
            ≡ option_and_then (λ q. option_and_then (f q) (task_of s q)) x
        through f None ne = refl
        through f (Some q) ne =
            ap (option_and_then (f q)) (found_same q (λ same. ne (ap Some (named_as q task same))))

    -- a task that has finished, and whose generating task's word is to be lowered
    lowered_there : (j : ℕ) → j < s.count → (q : Tid) → (owes j).lowered ≡ Some q
        → HasFinished s q × (q.0 ≡ task.0 → ⊥)
    lowered_there j known q is = (
      lowered_finished s (owes j) (keeps.made j known).objects q is,
      λ same. unlowered j known (is ∙ ap Some (named_as q task same)),
    )

    generating_same : (q : Tid) → HasFinished s q → (q.0 ≡ task.0 → ⊥)
        → generating_of after q ≡ generating_of s q
    generating_same q x ne =
        ap (option_and_then (λ (y : Task). y.generating)) (task_after q x.task ne x.live ∙ sym x.live)

    children_same : (q : Tid)
        → sum_of_owed after other (children_owed after q) ≡ sum_of_owed s owes (children_owed s q)
    children_same q =
        sum_same_within s.count (λ j. children_owed after q (other j)) (λ j. children_owed s q (owes j))
        (λ j known.
        ap₂ (counted after) (alike j).raised (alike j).lowered
        ∙ go (owes j).raised (owes j).lowered (lowered_there j known))
      where
        counted : State → Option Tid → Option Tid → ℕ
        counted u raised lowered =
            one (is_some_task q raised)
            + one (is_some_task q (option_and_then (generating_of u) lowered))

        go : (raised lowered : Option Tid)
            → ((h : Tid) → lowered ≡ Some h → HasFinished s h × (h.0 ≡ task.0 → ⊥))
            → counted after raised lowered ≡ counted s raised lowered
        go raised None finished = refl
        go raised (Some h) finished =
            let (x, ne) = finished h refl in
            ap (λ g. one (is_some_task q raised) + one (is_some_task q g)) (generating_same h x ne)

    -- no task lives that it generated
    parent_after : (q : Tid) → HasFinished s q → (q.0 ≡ task.0 → ⊥)
        → IsSome (option_and_then (task_of s) (generating_of s q))
        → IsSome (option_and_then (task_of after) (generating_of after q))
    parent_after q x ne some =
        subst (λ (g : Option Tid). IsSome (option_and_then (task_of after) g))
        (sym (generating_same q x ne ∙ generating))
        (go x.task.generating refl
        (subst (λ (g : Option Tid). IsSome (option_and_then (task_of s) g)) generating some))
      where
        generating : generating_of s q ≡ x.task.generating
        generating = ap (option_and_then (λ (y : Task). y.generating)) x.live

        go : (g : Option Tid) → x.task.generating ≡ g → IsSome (option_and_then (task_of s) g)
            → IsSome (option_and_then (task_of after) g)
        go None e is = is
        go (Some h) e is =
            some_after h
            (λ same.
            spent.childless q.0.creator q.0.slot x.task
            (found_live q.0.generation (s.tasks q.0.creator q.0.slot) x.task x.live)
            (e ∙ ap Some (named_as h task same))) is

    module _
        (references_counted : (q : Tid) (x : Task) → (q.0 ≡ task.0 → ⊥) → task_of s q ≡ Some x
        → referred_in w after other q ≡ referred_in w s owes q)
        (gives_counted : (q : Tid) → (q.0 ≡ task.0 → ⊥)
        → sum_of_owed s other (gives_owed q) ≡ sum_of_owed s owes (gives_owed q))
        (unslotted : (q : Tid) (x : Task) → task_of s q ≡ Some x → x.progress ≡ progress.Deferred
        → slots_of m (slot_word w q) task.0.creator task.0.slot old ≡ 0) where
      -- ---- other tasks, and regions

      counts_kept : (q : Tid) (x : Task) (r : Rec) → (q.0 ≡ task.0 → ⊥) → task_of s q ≡ Some x
          → KeepsCounts w s owes q r x → KeepsCounts w after other q r x
      counts_kept q x r ne live o = record {
        children =
            let was = o.children in
            let change = tasks_recounted (λ _ _ y. one (is_unfinished y && is_some_task q y.generating)) in
            let none = not_unfinished (is_some_task q old.generating) in
            let owed = children_same q in
            omega (arith, was, change, none, owed);
        references =
            let was = o.references in let change = references_counted q x ne live in omega (arith, was, change);
        given = gives_counted q ne ∙ o.given;
      }

      region_kept : (q : Rid) (r : Rec) (x : Region) → KeepsRegion w s owes q r x
          → KeepsRegion w after other q r x
      region_kept q r x o =
          let change = tasks_recounted (λ _ _ y. one (is_unfinished y && is_region q y.region)) in
          let none = not_unfinished (is_region q old.region) in
          let owed = owed_same (pending_owed q) (λ j. ap (λ y. one (is_some_region q y)) (alike j).pending) in
          region_counted w s after owes other q r x (omega (arith, change, none, owed))
          (owed_same (left_owed q) (λ j. ap (λ y. one (is_some_region q y)) (alike j).left)) o

      undone : (x : Task) → x.progress ≡ progress.Deferred → x.progress ≢ progress.Finished
      undone x deferred over = absurd (cc)

      slots_kept : (r : Rec) (x : Task) → KeepsSlots w s r x → KeepsSlots w after r x
      slots_kept r x o = λ at below. go at (o at below)
        where
          go : (at : ℕ)
              → Has r TaskSlots at 0 ⊎ ((q : Tid) × IsDeferredIn s x at q × Has r TaskSlots at (slot_word w q))
              → Has r TaskSlots at 0 ⊎ ((q : Tid) × IsDeferredIn after x at q × Has r TaskSlots at (slot_word w q))
          go at (inl none) = inl none
          go at (inr (q, d, word)) = inr (
            q,
            record {
              task = d.task;
              live = task_after q d.task (other_progress q d.task d.live (undone d.task d.progress)) d.live;
              progress = d.progress;
              region = d.region;
              place_is = d.place_is;
              maker = d.maker;
            },
            word,
          )

      -- ---- the records of tasks

      slot_kept : (c j : ℕ) → c < s.count → KeepsTaskSlot w s owes c j (m c tasks j)
          → KeepsTaskSlot w after other c j (n c tasks j)
      slot_kept =
          each_place
          (λ c j. c < s.count → KeepsTaskSlot w s owes c j (m c tasks j)
          → KeepsTaskSlot w after other c j (n c tasks j))
          task.0.creator task.0.slot here beside
        where
          here : task.0.creator < s.count
              → KeepsTaskSlot w s owes task.0.creator task.0.slot (m task.0.creator tasks task.0.slot)
              → KeepsTaskSlot w after other task.0.creator task.0.slot (n task.0.creator tasks task.0.slot)
          here known o = record {
            life =
                subst
                (λ (x : Slot Task).
                KeepsLife (n task.0.creator tasks task.0.slot) TaskLife x
                (has_slot task.0.slot (other task.0.creator).tasks))
                (sym slot_here)
                (record {
                  live = λ x is. absurd (cc);
                  taken = λ _ taken.
                      let none =
                      unmade task.0.creator (s.tasks task.0.creator) task.0.slot old live_there
                      (owes task.0.creator).tasks
                      (keeps.made task.0.creator known).making.tasks in
                      let same = (alike task.0.creator).tasks in
                      absurd (taken_or_not (ap (has_slot task.0.slot) same ∙ none) taken);
                  free = λ _ _.
                      let word = word_read m task.0.creator tasks task.0.slot (number TaskLife) 0 life_now in
                      let made = slots.generations_there s.tasks task.0 old spent.live in
                      omega (arith, word, made);
                });
            live = λ x is.
                let none : (after.tasks task.0.creator task.0.slot).live ≡ None =
                ap (λ (y : Slot Task). y.live) slot_here in
                absurd (cc);
          }
            where
              taken_or_not : {b : Bool} → b ≡ false → b ≡ true → ⊥
              taken_or_not p q = cc

          beside : (c j : ℕ) → (c ≡ task.0.creator → j ≡ task.0.slot → ⊥) → c < s.count
              → KeepsTaskSlot w s owes c j (m c tasks j) → KeepsTaskSlot w after other c j (n c tasks j)
          beside c j apart known o =
              subst (λ (r : Rec). KeepsTaskSlot w after other c j r)
              (sym (record_stays m task.0.creator tasks task.0.slot (number TaskLife) 0 life_now c tasks j
              (λ creator _ slot. apart creator slot)))
              (record {
                life =
                    subst (λ (x : Slot Task). KeepsLife (m c tasks j) TaskLife x (has_slot j (other c).tasks))
                    (sym (slot_beside c j apart))
                    (subst (λ (ks : List Tid). KeepsLife (m c tasks j) TaskLife (s.tasks c j) (has_slot j ks))
                    (sym (alike c).tasks) o.life);
                live = λ x is.
                    let was : (s.tasks c j).live ≡ Some x =
                    sym (ap (λ (y : Slot Task). y.live) (slot_beside c j apart)) ∙ is in
                    subst (λ (y : Slot Task). KeepsTask w after other (task_in c j y) (m c tasks j) x)
                    (sym (slot_beside c j apart))
                    (kept x was (o.live x was));
              })
            where
              ne : (task_in c j (s.tasks c j)).0 ≡ task.0 → ⊥
              ne same = apart (ap (λ (x : Id). x.creator) same) (ap (λ (x : Id). x.slot) same)

              kept : (x : Task) → (s.tasks c j).live ≡ Some x
                  → KeepsTask w s owes (task_in c j (s.tasks c j)) (m c tasks j) x
                  → KeepsTask w after other (task_in c j (s.tasks c j)) (m c tasks j) x
              kept x was o = record {
                environment = o.environment;
                place = o.place;
                counts = counts_kept (task_in c j (s.tasks c j)) x (m c tasks j) ne
                    (task_in_live w s within c j x was) o.counts;
                slots = λ implicit. slots_kept (m c tasks j) x (o.slots implicit);
              }

      -- ---- the whole

      stays : (c kind j : ℕ) → (kind ≡ tasks → ⊥) → n c kind j ≡ m c kind j
      stays c kind j ne =
          record_stays m task.0.creator tasks task.0.slot (number TaskLife) 0 life_now c kind j
          (λ _ is _. ne is)

      still_making : (j : ℕ) (q : Tid) → IsInTheMaking j (s.tasks j) q.0 → IsInTheMaking j (after.tasks j) q.0
      still_making j q o = record {
        maker = o.maker;
        free = slots.empty_after s.tasks task.0 old spent.live j q.0.slot o.free;
        next = o.next ∙ sym (gone_generations s.tasks task.0 j q.0.slot);
      }

      making_kept : (j : ℕ) → KeepsMaking s j (owes j) → KeepsMaking after j (other j)
      making_kept j x = record {
        region = λ q is. x.region q (sym (alike j).region ∙ is);
        tasks =
            subst (λ (ks : List Tid). All (λ q. IsInTheMaking j (after.tasks j) q.0) ks) (sym (alike j).tasks)
            (All-weaker (λ (q : Tid). IsInTheMaking j (s.tasks j) q.0) (λ (q : Tid). IsInTheMaking j
            (after.tasks j) q.0)
            (λ q o. still_making j q o) (owes j).tasks x.tasks);
        apart = subst (λ (ks : List Tid). AreApart ks) (sym (alike j).tasks) x.apart;
      }

      assign_kept : (j : ℕ) → KeepsAssign w s owes j (m j threads 0)
          → KeepsAssign w after other j (m j threads 0)
      assign_kept j o = record {
        waiting = λ q waits.
            let was = o.waiting q (waits_before j q waits) in
            let once = was.once in
            let owed = owed_same (assign_owed j q) (λ c. ap (assigns_in j q) (alike c).assigns) in
            let met : one (other j).met ≡ one (owes j).met = ap one (alike j).met in
            record { word_is = was.word_is; once = omega (arith, once, owed, met) };
        none = λ nobody. o.none (λ q waits. nobody q (waits_after j q waits));
      }

      objects_kept : (j : ℕ) → j < s.count → (owes j).raised ≢ Some task → OwesOnTasks after (other j)
          → OwesOnLive s (owes j) → OwesOnLive after (other j)
      objects_kept j known unraised on_tasks x = record {
        pending = λ q is. x.pending q (sym (alike j).pending ∙ is);
        left = λ q is. x.left q (sym (alike j).left ∙ is);
        raised = λ q is.
            let before = sym (alike j).raised ∙ is in
            some_after q (λ same. unraised (before ∙ ap Some (named_as q task same))) (x.raised q before);
        lowered = λ q is.
            let before = sym (alike j).lowered ∙ is in
            let (own, live) = x.lowered q before in
            let (finished, ne) = lowered_there j known q before in
            ((alike j).own ∙ own, parent_after q finished ne live);
        referred = on_tasks.referred;
        own = on_tasks.own;
        returned = on_tasks.returned;
        gives = on_tasks.gives;
        assigns =
            subst (λ (qs : List (Tid × ℕ)). All (λ q. WaitsFor after q.1 q.0) qs) (sym (alike j).assigns)
            (All-weaker (λ (q : Tid × ℕ). WaitsFor s q.1 q.0) (λ (q : Tid × ℕ). WaitsFor after q.1 q.0)
            (λ q. waits_after q.1 q.0) (owes j).assigns x.assigns);
      }

      slots_stay : (c j at : ℕ) → n c tasks j (number TaskSlots) at ≡ m c tasks j (number TaskSlots) at
      slots_stay c j at =
          word_stays m task.0.creator tasks task.0.slot (number TaskLife) 0 life_now c tasks j
          (number TaskSlots) at (λ _ _ _ field _. absurd (omega (arith, field)))

      deferred_kept : KeepsDeferred w (λ c. n c tasks) after other
      deferred_kept = record {
        once = λ q x is deferred.
            let (live, ne) = task_before q x is in
            let was = keeps.deferred.once q x live deferred in
            let words =
            slots_as_before w m n after (λ c j at _. slots_stay c j at) (slot_word w q) in
            let change = tasks_recounted (slots_of m (slot_word w q)) in
            let none = unslotted q x live deferred in
            let owed = owed_same (start_owed q) (λ j. ap (λ y. one (is_some_task q y)) (alike j).hand) in
            omega (arith, was, words, change, none, owed);
        hands = λ j q known is.
            let (x, live, deferred) = keeps.deferred.hands j q known (sym (alike j).hand ∙ is) in
            (x, task_after q x (other_progress q x live (λ over. absurd (cc))) live, deferred);
      }

      groups_kept : KeepsGroups w (λ c. n c tasks) after other
      groups_kept =
          groups_read w (λ c. m c tasks) (λ c. n c tasks) after other
          (λ k t index live few. slots_stay k.0.creator k.0.slot (COUNT_PLACE + index))
          (groups_counted w (λ c. m c tasks) s after owes other refl
          (λ q x is. (x, (task_before q x is).0))
          (λ g.
          let change = tasks_recounted (λ _ _ y. one (is_unfinished y && is_some_group g y.group)) in
          let none = not_unfinished (is_some_group g old.group) in
          let owed = groups_same g in
          omega (arith, change, none, owed))
          (λ j q known is. (alike j).raised ∙ keeps.groups.counted j q known (sym (alike j).counted ∙ is))
          (λ j q known is. (alike j).own ∙ keeps.groups.uncounted j q known (sym (alike j).uncounted ∙ is)) keeps.groups)

      pub task_gone : ((j : ℕ) → j < s.count → OwesOnTasks after (other j)) → KeepsWords w n after other
      task_gone on_tasks = record {
        runtime_record =
            subst (λ (r : Rec). KeepsRuntime w r after)
            (sym (stays 0 runtime 0 (λ kind. absurd (omega (arith, kind))))) keeps.runtime_record;
        made = made;
        deferred = deferred_kept;
        groups = groups_kept;
      }
        where
          made : (j : ℕ) → j < s.count → KeepsMade w after other j (n j)
          made j known =
              let o = keeps.made j known in
              let thread : n j threads 0 ≡ m j threads 0 = stays j threads 0 (λ kind. absurd (omega (arith, kind))) in
              record {
                thread = subst (λ (r : Rec). KeepsThread w j r (s.threads j)) (sym thread) o.thread;
                assign = subst (λ (r : Rec). KeepsAssign w after other j r) (sym thread) (assign_kept j o.assign);
                regions = λ k below.
                    let slot = o.regions k below in
                    let same : n j regions k ≡ m j regions k = stays j regions k
                    (λ kind. absurd (omega (arith, kind))) in
                    subst (λ (r : Rec). KeepsRegionSlot w after other j k r) (sym same) (record {
                      life =
                          subst
                          (λ (q : Option Rid). KeepsLife (m j regions k) RegionLife (s.regions j k)
                          (has_region_slot k q))
                          (sym (alike j).region) slot.life;
                      live = λ x is. region_kept _ _ x (slot.live x is);
                    });
                tasks = λ k below. slot_kept j k known (o.tasks k below);
                making = making_kept j o.making;
                objects = objects_kept j known (unraised j known) (on_tasks j known) o.objects;
              }
