-- A state whose tasks go on and whose members end or are joined, and threads that owe other assign words, met tasks and departures: all that is
-- kept of words but for these.
use Rattle.std.proofs.Common.{◌≡◌, ◌≢◌, ◌==◌, ◌+◌, ◌&&◌, ◌<◌, ◌-◌, ℕ, Bool, true, false, inl, inr, List, Option, Some, None, not, refl, sym, ap, ap₂, subst, ◌∙◌, arith, if◌then◌else◌}
use mathlib.Core.Path.{fun_ext}
use Rattle.std.specs.Prelude.{◌⊎◌, All, IsSome}
use Rattle.std.specs.Option.{option_and_then}
use Rattle.std.proofs.lemmas.List.Elements.{All-weaker}
use Rattle.omi_rule_words.proofs.OtherStates.{counts_as}
use Rattle.omi_model.specs.declared.id.Id.{Id}
use Rattle.omi_model.specs.declared.id.Rid.{Rid}
use Rattle.omi_model.specs.declared.id.Tid.{Tid}
use Rattle.omi_model.specs.declared.item.Item.{Item}
use Rattle.omi_model.specs.declared.progress.Progress.{Progress}
use Rattle.omi_model.specs.declared.progress.Progress.TheVariants as progress
use Rattle.omi_model.specs.declared.region.Region.{Region}
use Rattle.omi_model.specs.declared.slot.Slot.{Slot}
use Rattle.omi_model.specs.declared.task.Task.{Task}
use Rattle.omi_model.specs.Put.{Slots, found}
use Rattle.omi_model.specs.State.{State, region_of, task_of}
use Rattle.omi_model.specs.Groups.{group_within}
use Rattle.omi_numbers.specs.declared.limits.TheConstants.{OWN_SLOTS}
use Rattle.omi_layout.specs.declared.field.Field.{Field}
use Rattle.omi_layout.specs.declared.field.Field.TheVariants.{RegionLeft, RegionLife, RegionPending, TaskLife, TaskSlots}
use Rattle.omi_layout.specs.Field.{runtime, threads, regions, tasks}
use Rattle.omi_layout.specs.Memory.{Rec, Memory}
use Rattle.omi_layout.specs.Named.{number}
use Rattle.omi_layout.specs.Table.{per_thread}
use Rattle.omi_rep.specs.Codes.{region_code, region_told}
use Rattle.omi_rep.specs.Records.{slot_word}
use Rattle.omi_rule_words.specs.Owes.{Owed}
use Rattle.omi_rule_words.specs.Counts.{children_owed, ended_members, generating_of, has_region_slot, has_slot, is_finished, is_region, is_some_region, is_some_task, is_unfinished, left_owed, of_live, one, pending_owed, start_owed, sum_below, sum_of_owed, sum_of_slots, unfinished_children, unfinished_in, is_explicit, live_children, references_owed, gives_owed}
use Rattle.omi_rule_words.specs.Threads.{Has, KeepsAssign, KeepsRuntime, KeepsThread, WaitsFor}
use Rattle.omi_rule_words.specs.Objects.{IsDeferredIn, KeepsCounts, KeepsDeferred, KeepsEnvironment, KeepsLife, KeepsPlace, KeepsRegion, KeepsSlots, slots_with}
use Rattle.omi_rule_words.specs.Words.{AreApart, HasFinished, IsInTheMaking, KeepsMaking, KeepsRegionSlot, KeepsTask, KeepsTaskSlot, KeepsWords, OwesOnLive, region_in, task_in}
use Rattle.omi_rule_words.proofs.OwedTasks.{OwesTasksAlike, owed_on_tasks, references_alike}
use Rattle.omi_rule_words.proofs.StoredCodes.{region_apart}
use Rattle.omi_rule_words.proofs.Sums.{sum_same}
use Rattle.omi_rule_words.proofs.GroupCounts.{count_alike, count_same, groups_counted}
use Rattle.omi_rule_words.specs.Groups.{KeepsGroups, count_owed, group_of, group_of_new, is_some_group, unfinished_members}

-- ---- slots whose objects become others

-- an object becomes another one, and none stays none
abbrev pub Becomes : {A : Type 0} → (A → A → Type 0) → Option A → Option A → Type 0
Becomes R None None = Unit {0}
Becomes R None (Some y) = ⊥
Becomes R (Some x) None = ⊥
Becomes R (Some x) (Some y) = R x y

pub record SlotBecomes {A : Type 0} (R : A → A → Type 0) (x y : Slot A) : Type 0 where
  pub generations : y.generations ≡ x.generations
  pub live : Becomes R x.live y.live

module _ {A : Type 0} (R : A → A → Type 0) where
  live_before : (p q : Option A) → Becomes R p q → (v : A) → q ≡ Some v → (u : A) × (p ≡ Some u) × R u v
  live_before (Some u) (Some z) r v is = let same : z ≡ v = cc in (u, refl, subst (R u) same r)
  live_before (Some u) None r v is = absurd r
  live_before None (Some z) r v is = absurd r
  live_before None None r v is = absurd (cc)

  none_before : (p q : Option A) → Becomes R p q → q ≡ None → p ≡ None
  none_before (Some u) (Some z) r is = absurd (cc)
  none_before (Some u) None r is = absurd r
  none_before None q r is = refl

  none_after : (p q : Option A) → Becomes R p q → p ≡ None → q ≡ None
  none_after (Some u) q r is = absurd (cc)
  none_after None (Some z) r is = absurd r
  none_after None None r is = refl

  -- what is found of a generation
  found_before : (g : ℕ) (x y : Slot A) → SlotBecomes R x y → (v : A) → found g y ≡ Some v
      → (u : A) × (found g x ≡ Some u) × R u v
  found_before g x y o v is =
      go (y.generations == g + 1) (x.generations == g + 1)
      (ap (λ n. n == g + 1) (sym o.generations)) x.live y.live o.live is
    where
      go : (b c : Bool) → c ≡ b → (p q : Option A) → Becomes R p q → (if b then q else None) ≡ Some v
          → (u : A) × ((if c then p else None) ≡ Some u) × R u v
      go true c e p q r is =
          let (u, there, related) = live_before p q r v is in (u, subst (λ t. (if t then p else None) ≡ Some u) (sym e) there, related)
      go false c e p q r is = absurd (cc)

  found_after : (g : ℕ) (x y : Slot A) → SlotBecomes R x y → (u : A) → found g x ≡ Some u
      → (v : A) × (found g y ≡ Some v) × R u v
  found_after g x y o u is =
      go (x.generations == g + 1) (y.generations == g + 1)
      (ap (λ n. n == g + 1) o.generations) x.live y.live o.live is
    where
      go : (b c : Bool) → c ≡ b → (p q : Option A) → Becomes R p q → (if b then p else None) ≡ Some u
          → (v : A) × ((if c then q else None) ≡ Some v) × R u v
      go true c e (Some z) (Some v) r is =
          let same : z ≡ u = cc in (v, ap (λ t. if t then Some v else None) e, subst (λ a. R a v) same r)
      go true c e (Some z) None r is = absurd r
      go true c e None q r is = absurd (cc)
      go false c e p q r is = absurd (cc)

  some_before : (g : ℕ) (x y : Slot A) → SlotBecomes R x y → IsSome (found g y) → IsSome (found g x)
  some_before g x y o is =
      go (y.generations == g + 1) (x.generations == g + 1)
      (ap (λ n. n == g + 1) (sym o.generations)) x.live y.live o.live is
    where
      go : (b c : Bool) → c ≡ b → (p q : Option A) → Becomes R p q → IsSome (if b then q else None)
          → IsSome (if c then p else None)
      go true c e (Some z) q r is = subst (λ t. IsSome (if t then Some z else None)) (sym e) refl
      go true c e None (Some v) r is = absurd r
      go true c e None None r is = absurd (cc)
      go false c e p q r is = absurd (cc)

  some_after : (g : ℕ) (x y : Slot A) → SlotBecomes R x y → IsSome (found g x) → IsSome (found g y)
  some_after g x y o is =
      go (x.generations == g + 1) (y.generations == g + 1)
      (ap (λ n. n == g + 1) o.generations) x.live y.live o.live is
    where
      go : (b c : Bool) → c ≡ b → (p q : Option A) → Becomes R p q → IsSome (if b then p else None)
          → IsSome (if c then q else None)
      go true c e (Some z) (Some v) r is = subst (λ t. IsSome (if t then Some v else None)) (sym e) refl
      go true c e (Some z) None r is = absurd r
      go true c e None q r is = absurd (cc)
      go false c e p q r is = absurd (cc)

  -- a part that they have in common
  found_part : {B : Type 0} (f : A → Option B) → ((u v : A) → R u v → f v ≡ f u) → (g : ℕ) (x y : Slot A)
      → SlotBecomes R x y → option_and_then f (found g y) ≡ option_and_then f (found g x)
  found_part {B} f same g x y o =
      go (y.generations == g + 1) (x.generations == g + 1)
      (ap (λ n. n == g + 1) (sym o.generations)) x.live y.live o.live
    where
      go : (b c : Bool) → c ≡ b → (p q : Option A) → Becomes R p q
          → option_and_then f (if b then q else None) ≡ option_and_then f (if c then p else None)
      go true c e (Some z) (Some v) r =
          same z v r ∙ sym (ap (λ t. option_and_then f (if t then Some z else None)) e)
      go true c e (Some z) None r = absurd r
      go true c e None (Some v) r = absurd r
      go true c e None None r = sym (ap (λ t. option_and_then f (if t then None else None)) e)
      go false c e p q r = sym (ap (λ t. option_and_then f (if t then p else None)) e)

  making_becomes : (i : ℕ) (was now : ℕ → Slot A) (n : Id) → SlotBecomes R (was n.slot) (now n.slot)
      → IsInTheMaking i was n → IsInTheMaking i now n
  making_becomes i was now n o is = record { maker = is.maker; free = none_after (was n.slot).live (now n.slot).live o.live is.free; next = is.next ∙ sym o.generations }

  life_becomes : (r : Rec) (f : Field) (x y : Slot A) (owed : Bool) → SlotBecomes R x y → KeepsLife r f x owed
      → KeepsLife r f y owed
  life_becomes r f x y owed o k = record {
    live = λ v is. let (u, there, related) = live_before x.live y.live o.live v is in let was = k.live u there in let same = o.generations in omega (arith, was, same);
    taken = λ none taken. let was = k.taken (none_before x.live y.live o.live none) taken in let same = o.generations in omega (arith, was, same);
    free = λ none free. let was = k.free (none_before x.live y.live o.live none) free in let same = o.generations in omega (arith, was, same);
  }

-- ---- tasks that go on, and regions whose members end or are joined

-- an implicit task that is not deferred goes on
pub record GoesOn (t : Task) (p : Progress) : Type 0 where
  pub implicit : t.implicit ≡ true
  pub was : t.progress ≢ progress.Deferred
  pub now : p ≢ progress.Deferred

pub record TaskRenews (t u : Task) : Type 0 where
  pub progress : Progress
  pub list : List Item
  pub is : u ≡ record t { progress = progress; list = list }
  pub goes : (progress ≡ t.progress) ⊎ GoesOn t progress

pub record RegionRenews (x y : Region) : Type 0 where
  pub ended : List Bool
  pub joined : Bool
  pub is : y ≡ record x { ended = ended; joined = joined }

pub task_stays : (t : Task) → TaskRenews t t
task_stays t = record { progress = t.progress; list = t.list; is = refl; goes = inl refl }

pub region_stays : (x : Region) → RegionRenews x x
region_stays x = record { ended = x.ended; joined = x.joined; is = refl }

-- slots that stay
pub task_becomes : (x : Slot Task) → SlotBecomes TaskRenews x x
task_becomes x = record { generations = refl; live = go x.live }
  where
    go : (o : Option Task) → Becomes TaskRenews o o
    go None = tt
    go (Some t) = task_stays t

pub region_becomes : (x : Slot Region) → SlotBecomes RegionRenews x x
region_becomes x = record { generations = refl; live = go x.live }
  where
    go : (o : Option Region) → Becomes RegionRenews o o
    go None = tt
    go (Some y) = region_stays y

module _ (t u : Task) (r : TaskRenews t u) where
  progress_is : u.progress ≡ r.progress
  progress_is = ap (λ (x : Task). x.progress) r.is

  pub unfinished_same : is_unfinished u ≡ is_unfinished t
  unfinished_same = ap is_unfinished r.is ∙ go r.goes
    where
      go : (r.progress ≡ t.progress) ⊎ GoesOn t r.progress
          → (not t.implicit && not (is_finished r.progress)) ≡ (not t.implicit && not (is_finished t.progress))
      go (inl same) = ap (λ p. not t.implicit && not (is_finished p)) same
      go (inr on) =
          ap (λ b. not b && not (is_finished r.progress)) on.implicit
          ∙ sym (ap (λ b. not b && not (is_finished t.progress)) on.implicit)

  deferred_before : u.progress ≡ progress.Deferred → t.progress ≡ progress.Deferred
  deferred_before is = go r.goes
    where
      go : (r.progress ≡ t.progress) ⊎ GoesOn t r.progress → t.progress ≡ progress.Deferred
      go (inl same) = sym same ∙ (sym progress_is ∙ is)
      go (inr on) = absurd (on.now (sym progress_is ∙ is))

  deferred_after : t.progress ≡ progress.Deferred → u.progress ≡ progress.Deferred
  deferred_after is = go r.goes
    where
      go : (r.progress ≡ t.progress) ⊎ GoesOn t r.progress → u.progress ≡ progress.Deferred
      go (inl same) = progress_is ∙ (same ∙ is)
      go (inr on) = absurd (on.was is)

  explicit_same : t.implicit ≡ false → u.progress ≡ t.progress
  explicit_same explicit = go r.goes
    where
      go : (r.progress ≡ t.progress) ⊎ GoesOn t r.progress → u.progress ≡ t.progress
      go (inl same) = progress_is ∙ same
      go (inr on) = let implicit = on.implicit in absurd (cc)

-- ---- the whole

-- two threads owe the same, but for departures, assign words and tasks that were met
pub record OwesSame (p o : Owed) : Type 0 where
  pub region : p.region ≡ o.region
  pub tasks : p.tasks ≡ o.tasks
  pub pending : p.pending ≡ o.pending
  pub raised : p.raised ≡ o.raised
  pub referred : p.referred ≡ o.referred
  pub own : p.own ≡ o.own
  pub returned : p.returned ≡ o.returned
  pub gives : p.gives ≡ o.gives
  pub lowered : p.lowered ≡ o.lowered
  pub hand : p.hand ≡ o.hand
  pub counted : p.counted ≡ o.counted
  pub uncounted : p.uncounted ≡ o.uncounted

pub owes_same : (o : Owed) → OwesSame o o
owes_same o =
    record { region = refl; tasks = refl; pending = refl; raised = refl; lowered = refl; referred = refl; own = refl; returned = refl; gives = refl; hand = refl; counted = refl; uncounted = refl }

same_on_tasks : (p o : Owed) → OwesSame p o → OwesTasksAlike p o
same_on_tasks p o alike =
    record { pending = alike.pending; referred = alike.referred; own = alike.own; returned = alike.returned; gives = alike.gives }

module _ (w : List ℕ) (m n : Memory) (s : State) (rs : Slots Region) (ts : Slots Task) (owes other : ℕ → Owed)
    (keeps : KeepsWords w m s owes)
    (region_slots : (c k : ℕ) → SlotBecomes RegionRenews (s.regions c k) (rs c k))
    (task_slots : (c k : ℕ) → SlotBecomes TaskRenews (s.tasks c k) (ts c k))
    (alike : (j : ℕ) → OwesSame (other j) (owes j)) where
  abbrev after : State
  after = record s { regions = rs; tasks = ts }

  task_before : (k : Tid) (u : Task) → task_of after k ≡ Some u
      → (t : Task) × (task_of s k ≡ Some t) × TaskRenews t u
  task_before k u is =
      found_before TaskRenews k.0.generation (s.tasks k.0.creator k.0.slot) (ts k.0.creator k.0.slot)
      (task_slots k.0.creator k.0.slot) u is

  task_after : (k : Tid) (t : Task) → task_of s k ≡ Some t
      → (u : Task) × (task_of after k ≡ Some u) × TaskRenews t u
  task_after k t is =
      found_after TaskRenews k.0.generation (s.tasks k.0.creator k.0.slot) (ts k.0.creator k.0.slot)
      (task_slots k.0.creator k.0.slot) t is

  some_task_after : (k : Tid) → IsSome (task_of s k) → IsSome (task_of after k)
  some_task_after k is =
      some_after TaskRenews k.0.generation (s.tasks k.0.creator k.0.slot) (ts k.0.creator k.0.slot)
      (task_slots k.0.creator k.0.slot) is

  some_region_after : (r : Rid) → IsSome (region_of s r) → IsSome (region_of after r)
  some_region_after r is =
      some_after RegionRenews r.0.generation (s.regions r.0.creator r.0.slot) (rs r.0.creator r.0.slot)
      (region_slots r.0.creator r.0.slot) is

  generating_same : (k : Tid) → generating_of after k ≡ generating_of s k
  generating_same k =
      found_part TaskRenews (λ t. t.generating) (λ t u r. ap (λ (x : Task). x.generating) r.is) k.0.generation
      (s.tasks k.0.creator k.0.slot) (ts k.0.creator k.0.slot) (task_slots k.0.creator k.0.slot)

  group_same : (k : Tid) → group_of after k ≡ group_of s k
  group_same k =
      found_part TaskRenews (λ t. t.group) (λ t u r. ap (λ (x : Task). x.group) r.is) k.0.generation
      (s.tasks k.0.creator k.0.slot) (ts k.0.creator k.0.slot) (task_slots k.0.creator k.0.slot)

  new_group_same : (k : Tid) → group_of_new after k ≡ group_of_new s k
  new_group_same k =
      found_part TaskRenews (group_within k) (λ t u r. ap (λ (x : Task). group_within k x) r.is) k.0.generation
      (s.tasks k.0.creator k.0.slot) (ts k.0.creator k.0.slot) (task_slots k.0.creator k.0.slot)

  finished_after : (k : Tid) → HasFinished s k → HasFinished after k
  finished_after k x =
      let (u, live, related) = task_after k x.task x.live in
      record { task = u; live = live; explicit = ap (λ (y : Task). y.implicit) related.is ∙ x.explicit; progress = explicit_same x.task u related x.explicit ∙ x.progress }

  -- what is counted over tasks, and over what threads owe
  tasks_counted : (f : ℕ → ℕ → Task → ℕ) → ((c k : ℕ) (t u : Task) → TaskRenews t u → f c k u ≡ f c k t)
      → sum_of_slots w after f ≡ sum_of_slots w s f
  tasks_counted f same =
      sum_same s.count (λ c. sum_below (per_thread w tasks) (λ k. of_live (f c k) (ts c k).live))
      (λ c. sum_below (per_thread w tasks) (λ k. of_live (f c k) (s.tasks c k).live))
      (λ c. sum_same (per_thread w tasks) (λ k. of_live (f c k) (ts c k).live) (λ k. of_live (f c k) (s.tasks c k).live)
      (λ k. counted (f c k) (same c k) (s.tasks c k).live (ts c k).live (task_slots c k).live))
    where
      counted : (f : Task → ℕ) → ((t u : Task) → TaskRenews t u → f u ≡ f t) → (p q : Option Task)
          → Becomes TaskRenews p q → of_live f q ≡ of_live f p
      counted f same (Some t) (Some u) r = same t u r
      counted f same (Some t) None r = absurd r
      counted f same None (Some u) r = absurd r
      counted f same None None r = refl

  owed_same : (f g : Owed → ℕ) → ((j : ℕ) → f (other j) ≡ g (owes j))
      → sum_of_owed s other f ≡ sum_of_owed s owes g
  owed_same f g each = sum_same s.count (λ j. f (other j)) (λ j. g (owes j)) each

  -- the word for members that have left may be another one, as may these members
  module _ (words : (c k f at : ℕ) → f ≢ number RegionLeft → n c regions k f at ≡ m c regions k f at)
      (left_is : (c k : ℕ) (x y : Region) → (s.regions c k).live ≡ Some x → (rs c k).live ≡ Some y
      → n c regions k (number RegionLeft) 0 + sum_of_owed s other (left_owed (region_in c k (s.regions c k))) + ended_members x
      ≡ m c regions k (number RegionLeft) 0 + sum_of_owed s owes (left_owed (region_in c k (s.regions c k))) + ended_members y) where
    region_kept : (c k : ℕ) (x y : Region) → (s.regions c k).live ≡ Some x → (rs c k).live ≡ Some y
        → RegionRenews x y
        → KeepsRegion w s owes (region_in c k (s.regions c k)) (m c regions k) x → KeepsRegion w after other (region_in c k (s.regions c k)) (n c regions k) y
    region_kept c k x y was now r o = record {
      codes = λ f at word told. words c k (number f) at (region_apart w (region_told y) f at word told).1
          ∙ o.codes f at word (subst (λ (z : Region). region_code w (region_told z) f at ≡ Some word) r.is told);
      pending =
          let word = stays RegionPending 0 (λ e. absurd (omega (arith, e))) in
          let was = o.pending in
          let same : unfinished_in w after name ≡ unfinished_in w s name
          = tasks_counted (λ a b t. one (is_unfinished t && is_region name t.region))
          (λ a b t u r. ap₂ (λ p q. one (p && is_region name q)) (unfinished_same t u r) (ap (λ (z : Task). z.region) r.is)) in
          let owed =
          owed_same (pending_owed name) (pending_owed name)
          (λ j. ap (λ q. one (is_some_region name q)) (alike j).pending) in
          omega (arith, word, was, same, owed);
      left = let before = o.left in let change = left_is c k x y was now in omega (arith, before, change);
    }
      where
        name : Rid
        name = region_in c k (s.regions c k)

        stays : (f : Field) (at : ℕ) → number f ≢ number RegionLeft
            → n c regions k (number f) at ≡ m c regions k (number f) at
        stays f at ne = words c k (number f) at ne

    region_slot_kept : (c k : ℕ) → KeepsRegionSlot w s owes c k (m c regions k)
        → KeepsRegionSlot w after other c k (n c regions k)
    region_slot_kept c k o = record {
      life =
          life_word
          (life_becomes RegionRenews (m c regions k) RegionLife (s.regions c k) (rs c k) (has_region_slot k (other c).region) (region_slots c k)
          (subst (λ (q : Option Rid). KeepsLife (m c regions k) RegionLife (s.regions c k) (has_region_slot k q)) (sym (alike c).region) o.life));
      live = λ y is.
          let (x, was, related) =
          live_before RegionRenews (s.regions c k).live (rs c k).live (region_slots c k).live y is in
          subst (λ (q : Rid). KeepsRegion w after other q (n c regions k) y) (sym name_same) (region_kept c k x y was is related (o.live x was));
    }
      where
        name_same : region_in c k (rs c k) ≡ region_in c k (s.regions c k)
        name_same = ap (λ g. record { 0 = record { creator = c; slot = k; generation = g - 1 } }) (region_slots c k).generations

        word : n c regions k (number RegionLife) 0 ≡ m c regions k (number RegionLife) 0
        word = words c k (number RegionLife) 0 (λ e. absurd (omega (arith, e)))

        life_word : KeepsLife (m c regions k) RegionLife (rs c k) (has_region_slot k (other c).region)
            → KeepsLife (n c regions k) RegionLife (rs c k) (has_region_slot k (other c).region)
        life_word l = record {
          live = λ x is. let before = l.live x is in omega (arith, before, word);
          taken = λ none taken. word ∙ l.taken none taken;
          free = λ none free. word ∙ l.free none free;
        }

  counts_kept : (k : Tid) (r : Rec) (t : Task) → KeepsCounts w s owes k r t → KeepsCounts w after other k r t
  counts_kept k r t o = record {
    references =
        let was = o.references in
        let same : live_children w after k ≡ live_children w s k
        = tasks_counted (λ c j x. one (is_explicit x && is_some_task k x.generating))
        (λ c j x y a. ap₂ (λ p q. one (not p && is_some_task k q)) (ap (λ (z : Task). z.implicit) a.is) (ap (λ (z : Task). z.generating) a.is)) in
        let owed =
        owed_same (references_owed k) (references_owed k)
        (λ j. references_alike k (other j) (owes j) (alike j).referred (alike j).own (alike j).returned) in
        omega (arith, was, same, owed);
    given = owed_same (gives_owed k) (gives_owed k) (λ j. ap (λ o. one (is_some_task k o)) (alike j).gives) ∙ o.given;
    children =
        let was = o.children in
        let same : unfinished_children w after k ≡ unfinished_children w s k
        = tasks_counted (λ c j x. one (is_unfinished x && is_some_task k x.generating))
        (λ c j x y a. ap₂ (λ p q. one (p && is_some_task k q)) (unfinished_same x y a) (ap (λ (z : Task). z.generating) a.is)) in
        let owed = owed_same (children_owed after k) (children_owed s k)
        (λ j. ap₂ (λ a b. one (is_some_task k a) + one (is_some_task k (option_and_then (generating_of after) b))) (alike j).raised (alike j).lowered
        ∙ of_lowered (owes j).raised (owes j).lowered) in
        omega (arith, was, same, owed);
  }
    where
      of_lowered : (raised lowered : Option Tid)
          → one (is_some_task k raised) + one (is_some_task k (option_and_then (generating_of after) lowered))
          ≡ one (is_some_task k raised) + one (is_some_task k (option_and_then (generating_of s) lowered))
      of_lowered raised None = refl
      of_lowered raised (Some q) =
          ap (λ g. one (is_some_task k raised) + one (is_some_task k g)) (generating_same q)

  deferred_in : (t u : Task) → TaskRenews t u → (place : ℕ) (k : Tid) → IsDeferredIn s t place k
      → IsDeferredIn after u place k
  deferred_in t u r place k x =
      let (y, live, related) = task_after k x.task x.live in
      record {
        task = y;
        live = live;
        progress = deferred_after x.task y related x.progress;
        region = ap (λ (z : Task). z.region) related.is ∙ (x.region ∙ sym (ap (λ (z : Task). z.region) r.is));
        place_is = ap (λ (z : Task). z.place) related.is ∙ x.place_is;
        maker = x.maker ∙ sym (ap (λ (z : Task). z.thread) r.is);
      }

  slots_kept : (r : Rec) (t u : Task) → TaskRenews t u → KeepsSlots w s r t → KeepsSlots w after r u
  slots_kept r t u related o = λ place within. go place (o place within)
    where
      go : (place : ℕ)
          → Has r TaskSlots place 0 ⊎ ((k : Tid) × IsDeferredIn s t place k × Has r TaskSlots place (slot_word w k))
          → Has r TaskSlots place 0 ⊎ ((k : Tid) × IsDeferredIn after u place k × Has r TaskSlots place (slot_word w k))
      go place (inl none) = inl none
      go place (inr (k, x, is)) = inr (k, deferred_in t u related place k x, is)

  task_kept : (k : Tid) (r : Rec) (t u : Task) → TaskRenews t u → KeepsTask w s owes k r t
      → KeepsTask w after other k r u
  task_kept k r t u related o = record {
    environment = subst (λ (x : Task). KeepsEnvironment w r x) (sym related.is) o.environment;
    place = λ has. subst (λ (x : Task). KeepsPlace w r x) (sym related.is)
        (o.place (λ explicit deferred. has (ap (λ (x : Task). x.implicit) related.is ∙ explicit) (deferred_after t u related deferred)));
    counts = counts_as w after other k r t u (ap (λ (x : Task). x.implicit) related.is) (ap one (unfinished_same t u related)) (counts_kept k r t o.counts);
    slots = λ implicit. slots_kept r t u related (o.slots (sym (ap (λ (z : Task). z.implicit) related.is) ∙ implicit));
  }

  task_slot_kept : (c k : ℕ) (r : Rec) → KeepsTaskSlot w s owes c k r → KeepsTaskSlot w after other c k r
  task_slot_kept c k r o = record {
    life =
        life_becomes TaskRenews r TaskLife (s.tasks c k) (ts c k) (has_slot k (other c).tasks)
        (task_slots c k)
        (subst (λ (q : List Tid). KeepsLife r TaskLife (s.tasks c k) (has_slot k q)) (sym (alike c).tasks) o.life);
    live = λ u is.
        let (t, was, related) =
        live_before TaskRenews (s.tasks c k).live (ts c k).live (task_slots c k).live u is in
        subst (λ (q : Tid). KeepsTask w after other q r u) (sym name_same) (task_kept (task_in c k (s.tasks c k)) r t u related (o.live t was));
  }
    where
      name_same : task_in c k (ts c k) ≡ task_in c k (s.tasks c k)
      name_same = ap (λ g. record { 0 = record { creator = c; slot = k; generation = g - 1 } }) (task_slots c k).generations

  making_kept : (j : ℕ) → KeepsMaking s j (owes j) → KeepsMaking after j (other j)
  making_kept j x = record {
    region = λ r is. making_becomes RegionRenews j (s.regions j) (rs j) r.0 (region_slots j r.0.slot) (x.region r (sym (alike j).region ∙ is));
    tasks = subst (λ (ks : List Tid). All (λ k. IsInTheMaking j (ts j) k.0) ks) (sym (alike j).tasks)
        (All-weaker (λ (k : Tid). IsInTheMaking j (s.tasks j) k.0) (λ (k : Tid). IsInTheMaking j (ts j) k.0)
        (λ k is. making_becomes TaskRenews j (s.tasks j) (ts j) k.0 (task_slots j k.0.slot) is) (owes j).tasks x.tasks);
    apart = subst (λ (ks : List Tid). AreApart ks) (sym (alike j).tasks) x.apart;
  }

  objects_kept : (j : ℕ)
      → ((r : Rid) → (other j).left ≡ Some r → (x : Region) × (region_of after r ≡ Some x) × (x.joined ≡ false))
      → All (λ q. WaitsFor after q.1 q.0) (other j).assigns → OwesOnLive s (owes j) → OwesOnLive after (other j)
  objects_kept j left assigns x =
      let on_tasks =
      owed_on_tasks s after (owes j) (other j)
      (record { live = λ k t is. (let (u, live, related) = task_after k t is in (u, live, ap (λ (y : Task). y.region) related.is)); finished = finished_after })
      (same_on_tasks (other j) (owes j) (alike j)) x in
      record {
        pending = λ r is. some_region_after r (x.pending r (sym (alike j).pending ∙ is));
        left = left;
        raised = λ k is. some_task_after k (x.raised k (sym (alike j).raised ∙ is));
        referred = on_tasks.referred;
        own = on_tasks.own;
        returned = on_tasks.returned;
        gives = on_tasks.gives;
        lowered = λ k is.
            let (own, live) = x.lowered k (sym (alike j).lowered ∙ is) in
            ((alike j).own ∙ own, subst (λ (g : Option Tid). IsSome (option_and_then (task_of after) g)) (sym (generating_same k)) (parent (generating_of s k) live));
        assigns = assigns;
      }
    where
      parent : (g : Option Tid) → IsSome (option_and_then (task_of s) g)
          → IsSome (option_and_then (task_of after) g)
      parent None is = is
      parent (Some q) is = some_task_after q is

  deferred_kept : (r : ℕ → ℕ → Rec) → KeepsDeferred w r s owes → KeepsDeferred w r after other
  deferred_kept r o = record {
    once = λ k u is deferred.
        let (t, live, related) = task_before k u is in
        let was = o.once k t live (deferred_before t u related deferred) in
        let slots : slots_with w r after (slot_word w k) ≡ slots_with w r s (slot_word w k)
        = tasks_counted
        (λ c j x. if x.implicit then sum_below OWN_SLOTS (λ place. one (r c j (number TaskSlots) place == slot_word w k)) else 0)
        (λ c j x y a. ap (λ (z : Task). if z.implicit then sum_below OWN_SLOTS (λ place. one (r c j (number TaskSlots) place == slot_word w k)) else 0) a.is) in
        let owed =
        owed_same (start_owed k) (start_owed k) (λ j. ap (λ q. one (is_some_task k q)) (alike j).hand) in
        omega (arith, was, slots, owed);
    hands = λ i k known is.
        let (t, live, deferred) = o.hands i k known (sym (alike i).hand ∙ is) in
        let (u, now, related) = task_after k t live in
        (u, now, deferred_after t u related deferred);
  }

  groups_kept : KeepsGroups w (λ c. m c tasks) after other
  groups_kept =
      groups_counted w (λ c. m c tasks) s after owes other refl
      (λ k u is. let (t, live, related) = task_before k u is in (t, live))
      (λ g.
      let members : unfinished_members w after g ≡ unfinished_members w s g
      = tasks_counted (λ c j x. one (is_unfinished x && is_some_group g x.group))
      (λ c j x y a. ap₂ (λ p q. one (p && is_some_group g q)) (unfinished_same x y a) (ap (λ (z : Task). z.group) a.is)) in
      let owed =
      owed_same (count_owed after g) (count_owed s g)
      (λ j. count_alike after g (other j) (owes j) (alike j).counted (alike j).uncounted ∙ count_same s after g (owes j) new_group_same group_same) in
      omega (arith, members, owed))
      (λ i k known is. (alike i).raised ∙ keeps.groups.counted i k known (sym (alike i).counted ∙ is))
      (λ i k known is. (alike i).own ∙ keeps.groups.uncounted i k known (sym (alike i).uncounted ∙ is)) keeps.groups

  -- where the records of the runtime, of threads and of tasks are the same, and of regions all words but for members that have left
  pub renewed : n 0 runtime 0 ≡ m 0 runtime 0 → ((c : ℕ) → n c threads 0 ≡ m c threads 0)
      → ((c k : ℕ) → n c tasks k ≡ m c tasks k)
      → ((c k f at : ℕ) → f ≢ number RegionLeft → n c regions k f at ≡ m c regions k f at)
      → ((c k : ℕ) (x y : Region) → (s.regions c k).live ≡ Some x → (rs c k).live ≡ Some y
      → n c regions k (number RegionLeft) 0 + sum_of_owed s other (left_owed (region_in c k (s.regions c k))) + ended_members x
      ≡ m c regions k (number RegionLeft) 0 + sum_of_owed s owes (left_owed (region_in c k (s.regions c k))) + ended_members y)
      →
      ((j : ℕ) → j < s.count → (r : Rid) → (other j).left ≡ Some r → (x : Region) × (region_of after r ≡ Some x) × (x.joined ≡ false))
      → ((j : ℕ) → j < s.count → All (λ q. WaitsFor after q.1 q.0) (other j).assigns)
      → ((j : ℕ) → j < s.count → KeepsAssign w after other j (m j threads 0))
      → KeepsWords w n after other
  renewed same_runtime same_threads same_tasks words left_is left assigns assigned = record {
    runtime_record = subst (λ (r : Rec). KeepsRuntime w r after) (sym same_runtime) keeps.runtime_record;
    made = λ j known.
        let o = keeps.made j known in
        record {
          thread = subst (λ (r : Rec). KeepsThread w j r (s.threads j)) (sym (same_threads j)) o.thread;
          assign = subst (λ (r : Rec). KeepsAssign w after other j r) (sym (same_threads j)) (assigned j known);
          regions = λ k within. region_slot_kept words left_is j k (o.regions k within);
          tasks = λ k within. subst (λ (r : Rec). KeepsTaskSlot w after other j k r) (sym (same_tasks j k)) (task_slot_kept j k (m j tasks k) (o.tasks k within));
          making = making_kept j o.making;
          objects = objects_kept j (left j known) (assigns j known) o.objects;
        };
    deferred = subst (λ (r : ℕ → ℕ → Rec). KeepsDeferred w r after other) (sym same) (deferred_kept (λ c. m c tasks) keeps.deferred);
    groups = subst (λ (r : ℕ → ℕ → Rec). KeepsGroups w r after other) (sym same) groups_kept;
  }
    where
      same : ◌≡◌ {A = ℕ → ℕ → Rec} (λ c. n c tasks) (λ c. m c tasks)
      same = fun_ext (λ c. fun_ext (λ k. same_tasks c k))
