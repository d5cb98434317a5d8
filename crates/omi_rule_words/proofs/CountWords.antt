-- The count of a group: a raise for a task in the making, and the lowering for one that has finished.
use Rattle.std.proofs.Common.{◌≡◌, ◌≢◌, ◌+◌, ◌<◌, ◌≤◌, ◌^◌, ℕ, Bool, true, false, inl, inr, List, Option, Some, None, refl, sym, ap, ap₂, subst, ◌∙◌, arith}
use Rattle.std.specs.Prelude.{◌⊎◌, IsSome}
use Rattle.std.specs.Option.{option_and_then}
use Rattle.std.proofs.lemmas.Bool.{cases_eq}
use Rattle.std.proofs.lemmas.Bool.Decides.{nat_tests}
use Rattle.omi_numbers.specs.declared.limits.TheConstants.{OPEN_GROUPS}
use Rattle.omi_model.specs.declared.limits.TheConstants.{MOST_EVENTS}
use Rattle.omi_model.specs.declared.group.Group.{Group}
use Rattle.omi_model.specs.declared.id.Id.{Id}
use Rattle.omi_model.specs.declared.id.Tid.{Tid}
use Rattle.omi_model.specs.declared.task.Task.{Task}
use Rattle.omi_model.specs.Groups.{group_within}
use Rattle.omi_model.specs.State.{State, task_of}
use Rattle.omi_model.proofs.Slots.{id_same}
use Rattle.omi_layout.specs.declared.field.Field.TheVariants.{RegionLife, RegionPending, TaskChildren, TaskLife, TaskReferences, TaskSlots}
use Rattle.omi_layout.specs.declared.limits.TheConstants.{COUNT_PLACE}
use Rattle.omi_layout.specs.Field.{regions, tasks}
use Rattle.omi_layout.specs.Memory.{Memory, Rec, replace_at}
use Rattle.omi_layout.specs.Named.{number}
use Rattle.omi_layout.proofs.Puts.{each_put, record_stays, word_read, word_stays}
use Rattle.omi_rule_words.specs.Owes.{Owed}
use Rattle.omi_rule_words.specs.Counts.{one, pending_owed, sum_of_owed}
use Rattle.omi_rule_words.specs.Groups.{KeepsGroups, count_owed, group_at, group_of, group_of_new, is_group, is_some_group}
use Rattle.omi_rule_words.specs.Words.{KeepsWords, OwesOnLive, region_in, task_in}
use Rattle.omi_rule_words.specs.BarrierKinds.{one_more}
use Rattle.omi_rule_words.specs.CountKinds.{CountAddsKeep, CountSubtractsKeep, NoCountKeeps, UncountedKeeps, count_of, one_less, with_count_of}
use Rattle.omi_rule_words.proofs.OtherCounts.{MakesAlike, OwesAlikeOn, counts_same, generation_of, other_counts, owed_put, owed_put_same, region_counted, task_counted}
use Rattle.omi_rule_words.proofs.PendingWords.{live_of}
use Rattle.omi_rule_words.proofs.Sums.{part_below}

-- ---- names of groups

pub own_group : (g : Group) → is_group g g ≡ true
own_group g = grind (arith, nat_tests)

-- another place is another group's
abbrev pub IsElsewhere : Group → Group → Type 0
IsElsewhere h g = h.owner.0.creator ≡ g.owner.0.creator → h.owner.0.slot ≡ g.owner.0.slot → h.index ≡ g.index → ⊥

other_group : (h g : Group) → IsElsewhere h g → is_group h g ≡ false
other_group h g elsewhere = go (is_group h g) refl
  where
    go : (b : Bool) → is_group h g ≡ b → b ≡ false
    go false e = refl
    go true e =
        let creator : h.owner.0.creator ≡ g.owner.0.creator = grind (arith, nat_tests) in
        let slot : h.owner.0.slot ≡ g.owner.0.slot = grind (arith, nat_tests) in
        let index : h.index ≡ g.index = grind (arith, nat_tests) in
        absurd (elsewhere creator slot index)

-- ---- a thread owes otherwise on groups alone

abbrev else_on : Owed → Option Tid → Option Tid → Owed
else_on o counted uncounted = record o { counted = counted; uncounted = uncounted }

objects_else : (s : State) (o : Owed) (counted uncounted : Option Tid) → OwesOnLive s o
    → OwesOnLive s (else_on o counted uncounted)
objects_else s o counted uncounted x = record {
  pending = x.pending;
  left = x.left;
  raised = x.raised;
  lowered = x.lowered;
  referred = x.referred;
  own = x.own;
  returned = x.returned;
  gives = x.gives;
  assigns = x.assigns;
}

module _ (w : List ℕ) (m n : Memory) (s : State) (owes : ℕ → Owed) (i : ℕ) (counted uncounted : Option Tid)
    (keeps : KeepsWords w m s owes) (known : i < s.count)
    (counted_raised : (q : Tid) → counted ≡ Some q → (owes i).raised ≡ Some q)
    (uncounted_own : (q : Tid) → uncounted ≡ Some q → (owes i).own ≡ Some q)
    (stays : (c kind j : ℕ) → (kind ≡ tasks → ⊥) → n c kind j ≡ m c kind j)
    (others : (c j f at : ℕ) → (f ≡ number TaskSlots → at < COUNT_PLACE) → n c tasks j f at ≡ m c tasks j f at) where
  abbrev p : Owed
  p = else_on (owes i) counted uncounted

  abbrev other : ℕ → Owed
  other = replace_at owes i p

  alike : MakesAlike p (owes i)
  alike = record { region = refl; tasks = refl; left = refl; assigns = refl; met = refl; hand = refl }

  alike_on : (q : Tid) → OwesAlikeOn s q p (owes i)
  alike_on q = record { children = refl; references = refl; gives = refl }

  -- all is kept, where to each count as much is added as is owed more on it
  pub counts_stored : ((k : Tid) (t : Task) (index : ℕ) → task_of s k ≡ Some t → index < OPEN_GROUPS
      → count_owed s (group_at k index) (owes i) ≤ count_of m (group_at k index)
      → count_of n (group_at k index) + count_owed s (group_at k index) (owes i) ≡ count_of m (group_at k index) + count_owed s (group_at k index) p)
      → KeepsWords w n s other
  counts_stored words =
      other_counts w m n s owes i p keeps alike (λ c kind j _ ne. stays c kind j ne)
      (λ c j. ap (λ (r : Rec). r (number RegionLife) 0) (stays c regions j (λ kind. absurd (omega (arith, kind)))))
      (λ c j. others c j (number TaskLife) 0 (λ is. omega (arith, is)))
      (λ c j at below. others c j (number TaskSlots) at (λ _. below))
      groups (objects_else s (owes i) counted uncounted)
      (λ c j within _ x there o.
      let same = stays c regions j (λ kind. absurd (omega (arith, kind))) in
      region_counted w m n s owes i p keeps alike (region_in c j (s.regions c j)) (m c regions j) (n c regions j) x
      (λ g at _. ap (λ (r : Rec). r (number g) at) same)
      (λ was.
      let word : n c regions j (number RegionPending) 0 ≡ m c regions j (number RegionPending) 0 =
      ap (λ (r : Rec). r (number RegionPending) 0) same in
      let owed = owed_put_same s owes i p (pending_owed (region_in c j (s.regions c j))) refl in
      omega (arith, was, word, owed))
      o)
      (λ c j within _ x there o.
      task_counted w m n s owes i p keeps alike (task_in c j (s.tasks c j)) (m c tasks j) (n c tasks j) x
      (λ g at _ _ below. others c j (number g) at below)
      (counts_same w m n s owes i p keeps alike (task_in c j (s.tasks c j)) (m c tasks j) (n c tasks j) x
      (others c j (number TaskChildren) 0 (λ is. omega (arith, is)))
      (others c j (number TaskReferences) 0 (λ is. omega (arith, is)))
      (alike_on (task_in c j (s.tasks c j)))) o)
    where
      groups : KeepsGroups w (λ c. n c tasks) s other
      groups = record {
        counts = λ k t index live few.
            let was : count_of m (group_at k index) ≡ _ = keeps.groups.counts k t index live few in
            let change = owed_put s owes i p known (count_owed s (group_at k index)) in
            let least : count_owed s (group_at k index) (owes i) ≤ sum_of_owed s owes (count_owed s (group_at k index)) =
            part_below s.count i (λ j. count_owed s (group_at k index) (owes j)) known in
            let now = words k t index live few (omega (arith, was, least)) in
            omega (arith, was, change, now);
        counted = λ j q below is.
            each_put (λ c (o : Owed). c < s.count → o.counted ≡ Some q → o.raised ≡ Some q) owes i p (λ _. counted_raised q) j
            (λ _ there. keeps.groups.counted j q there) below is;
        uncounted = λ j q below is.
            each_put (λ c (o : Owed). c < s.count → o.uncounted ≡ Some q → o.own ≡ Some q) owes i p (λ _. uncounted_own q) j
            (λ _ there. keeps.groups.uncounted j q there) below is;
      }

-- nothing is stored, where as much is owed on each group
unstored : (w : List ℕ) (m : Memory) (s : State) (owes : ℕ → Owed) (i : ℕ) (counted uncounted : Option Tid)
    → KeepsWords w m s owes → i < s.count
    → ((q : Tid) → counted ≡ Some q → (owes i).raised ≡ Some q)
    → ((q : Tid) → uncounted ≡ Some q → (owes i).own ≡ Some q)
    → ((g : Group) → count_owed s g (else_on (owes i) counted uncounted) ≡ count_owed s g (owes i))
    → KeepsWords w m s (replace_at owes i (else_on (owes i) counted uncounted))
unstored w m s owes i counted uncounted keeps known raised own same =
    counts_stored w m m s owes i counted uncounted keeps known raised own (λ c kind j _. refl) (λ c j f at _. refl)
    (λ k t index _ _ _. ap (λ x. count_of m (group_at k index) + x) (sym (same (group_at k index))))

-- the count of one group is stored
module _ (w : List ℕ) (m : Memory) (s : State) (owes : ℕ → Owed) (i : ℕ) (counted uncounted : Option Tid)
    (keeps : KeepsWords w m s owes) (known : i < s.count)
    (counted_raised : (q : Tid) → counted ≡ Some q → (owes i).raised ≡ Some q)
    (uncounted_own : (q : Tid) → uncounted ≡ Some q → (owes i).own ≡ Some q)
    (g : Group) (owner : Task) (there : task_of s g.owner ≡ Some owner) (word : ℕ) where
  abbrev after : Memory
  after = with_count_of m g word

  abbrev q : Owed
  q = else_on (owes i) counted uncounted

  stays : (c kind j : ℕ) → (kind ≡ tasks → ⊥) → after c kind j ≡ m c kind j
  stays c kind j ne =
      record_stays m g.owner.0.creator tasks g.owner.0.slot (number TaskSlots) (COUNT_PLACE + g.index) word c kind j
      (λ _ is _. ne is)

  others : (c j f at : ℕ) → (f ≡ number TaskSlots → at < COUNT_PLACE) → after c tasks j f at ≡ m c tasks j f at
  others c j f at before =
      word_stays m g.owner.0.creator tasks g.owner.0.slot (number TaskSlots) (COUNT_PLACE + g.index) word c tasks j f at
      (λ _ _ _ field place. let below = before field in omega (arith, below, place))

  -- a live task in the record of the group's owner is the owner
  owner_is : (k : Tid) (t : Task) → task_of s k ≡ Some t → k.0.creator ≡ g.owner.0.creator → k.0.slot ≡ g.owner.0.slot
      → k ≡ g.owner
  owner_is k t live creator slot =
      let a = generation_of k.0.generation (s.tasks k.0.creator k.0.slot) t live in
      let b = generation_of g.owner.0.generation (s.tasks g.owner.0.creator g.owner.0.slot) owner there in
      let c : (s.tasks k.0.creator k.0.slot).generations ≡ (s.tasks g.owner.0.creator g.owner.0.slot).generations =
      ap₂ (λ x y. (s.tasks x y).generations) creator slot in
      ap (λ (x : Id). record { 0 = x }) (id_same k.0 g.owner.0 creator slot (omega (arith, a, b, c)))

  pub count_stored : (count_owed s g (owes i) ≤ count_of m g → word + count_owed s g (owes i) ≡ count_of m g + count_owed s g q)
      → ((h : Group) → IsElsewhere h g → count_owed s h q ≡ count_owed s h (owes i))
      → KeepsWords w after s (replace_at owes i q)
  count_stored here beside =
      counts_stored w m after s owes i counted uncounted keeps known counted_raised uncounted_own stays others
      (λ k t index live few. at_place k t index live (cases_eq k.0.creator g.owner.0.creator) (cases_eq k.0.slot g.owner.0.slot) (cases_eq index g.index))
    where
      Added : Group → Type 0
      Added h = count_owed s h (owes i) ≤ count_of m h → count_of after h + count_owed s h (owes i) ≡ count_of m h + count_owed s h q

      own : Added g
      own least =
          let stored : count_of after g ≡ word =
          word_read m g.owner.0.creator tasks g.owner.0.slot (number TaskSlots) (COUNT_PLACE + g.index) word in
          let now = here least in
          omega (arith, stored, now)

      apart : (h : Group) → IsElsewhere h g → Added h
      apart h elsewhere _ =
          let kept : count_of after h ≡ count_of m h =
          word_stays m g.owner.0.creator tasks g.owner.0.slot (number TaskSlots) (COUNT_PLACE + g.index) word h.owner.0.creator tasks h.owner.0.slot (number TaskSlots) (COUNT_PLACE + h.index)
          (λ creator _ slot _ place. elsewhere creator slot (omega (arith, place))) in
          let owed = beside h elsewhere in
          omega (arith, kept, owed)

      at_place : (k : Tid) (t : Task) (index : ℕ) → task_of s k ≡ Some t
          → (k.0.creator ≡ g.owner.0.creator) ⊎ (k.0.creator ≢ g.owner.0.creator)
          → (k.0.slot ≡ g.owner.0.slot) ⊎ (k.0.slot ≢ g.owner.0.slot) → (index ≡ g.index) ⊎ (index ≢ g.index)
          → Added (group_at k index)
      at_place k t index live (inl creator) (inl slot) (inl same) =
          subst (λ (h : Group). Added h) (sym (ap₂ (λ x y. group_at x y) (owner_is k t live creator slot) same)) own
      at_place k t index live (inr ne) b c = apart (group_at k index) (λ is _ _. ne is)
      at_place k t index live (inl a) (inr ne) c = apart (group_at k index) (λ _ is _. ne is)
      at_place k t index live (inl a) (inl b) (inr ne) = apart (group_at k index) (λ _ _ is. ne is)

-- ---- what is owed on a group by the name of a group that there may be

on_own : (g : Group) (o : Option Group) → o ≡ Some g → one (is_some_group g o) ≡ 1
on_own g o is = ap (λ (x : Option Group). one (is_some_group g x)) is ∙ ap one (own_group g)

on_other : (h g : Group) (o : Option Group) → o ≡ Some g → IsElsewhere h g → one (is_some_group h o) ≡ 0
on_other h g o is elsewhere = ap (λ (x : Option Group). one (is_some_group h x)) is ∙ ap one (other_group h g elsewhere)

on_none : (g : Group) (o : Option Group) → o ≡ None → one (is_some_group g o) ≡ 0
on_none g o is = ap (λ (x : Option Group). one (is_some_group g x)) is

-- what a thread owes for a task in the making, and for one that has finished
abbrev raises : State → Group → Owed → ℕ
raises s g o = one (is_some_group g (option_and_then (group_of_new s) o.counted))

abbrev lowers : State → Group → Owed → ℕ
lowers s g o = one (is_some_group g (option_and_then (group_of s) o.uncounted))

-- ---- raises

module _ (w : List ℕ) (m : Memory) (s : State) (owes : ℕ → Owed) (i : ℕ) (k : Tid) (t : Task)
    (keeps : KeepsWords w m s owes) (known : i < s.count) (none : (owes i).counted ≡ None)
    (raised : (owes i).raised ≡ Some k) (live : task_of s k ≡ Some t) where
  named : (q : Tid) → Some k ≡ Some q → (owes i).raised ≡ Some q
  named q same = raised ∙ same

  own_kept : (q : Tid) → (owes i).uncounted ≡ Some q → (owes i).own ≡ Some q
  own_kept q is = keeps.groups.uncounted i q known is

  group_is : (o : Option Group) → group_within k t ≡ o → group_of_new s k ≡ o
  group_is o is = ap (option_and_then (group_within k)) live ∙ is

  nobody : (h : Group) → raises s h (owes i) ≡ 0
  nobody h = ap (λ (x : Option Tid). one (is_some_group h (option_and_then (group_of_new s) x))) none

  pub raise_stored : (g : Group) → group_within k t ≡ Some g → IsSome (task_of s g.owner) → count_of m g < MOST_EVENTS
      → KeepsWords w (with_count_of m g (one_more (count_of m g))) s (replace_at owes i (record (owes i) { counted = Some k }))
  raise_stored g is lives small =
      let (owner, there) = live_of (task_of s g.owner) lives in
      count_stored w m s owes i (Some k) (owes i).uncounted keeps known named own_kept g owner there (one_more (count_of m g))
      (λ _.
      let before = nobody g in
      let now : raises s g (record (owes i) { counted = Some k }) ≡ 1 = on_own g (group_of_new s k) (group_is (Some g) is) in
      omega (arith, before, now, small))
      (λ h elsewhere.
      let before = nobody h in
      let now : raises s h (record (owes i) { counted = Some k }) ≡ 0 =
      on_other h g (group_of_new s k) (group_is (Some g) is) elsewhere in
      omega (arith, before, now))

  pub no_raise : group_within k t ≡ None → KeepsWords w m s (replace_at owes i (record (owes i) { counted = Some k }))
  no_raise is =
      unstored w m s owes i (Some k) (owes i).uncounted keeps known named own_kept
      (λ h.
      let before = nobody h in
      let now : raises s h (record (owes i) { counted = Some k }) ≡ 0 = on_none h (group_of_new s k) (group_is None is) in
      omega (arith, before, now))

pub count_adds_keep : CountAddsKeep
count_adds_keep =
    λ w m s owes i k t g keeps known none raised live is lives few small. raise_stored w m s owes i k t keeps known none raised live g is lives small

pub no_count_keeps : NoCountKeeps
no_count_keeps =
    λ w m s owes i k t keeps known none raised live is. no_raise w m s owes i k t keeps known none raised live is

-- ---- lowerings

module _ (w : List ℕ) (m : Memory) (s : State) (owes : ℕ → Owed) (i : ℕ) (k : Tid)
    (keeps : KeepsWords w m s owes) (known : i < s.count) (owed : (owes i).uncounted ≡ Some k) where
  raised_kept : (q : Tid) → (owes i).counted ≡ Some q → (owes i).raised ≡ Some q
  raised_kept q is = keeps.groups.counted i q known is

  lowered_in : (h : Group) (o : Option Group) → group_of s k ≡ o → lowers s h (owes i) ≡ one (is_some_group h o)
  lowered_in h o is =
      ap (λ (x : Option Tid). one (is_some_group h (option_and_then (group_of s) x))) owed
      ∙ ap (λ (x : Option Group). one (is_some_group h x)) is

  pub lowering_stored : (g : Group) → group_of s k ≡ Some g → IsSome (task_of s g.owner) → count_of m g < 2 ^ 64
      → KeepsWords w (with_count_of m g (one_less (count_of m g))) s (replace_at owes i (record (owes i) { uncounted = None }))
  lowering_stored g is lives small =
      let (owner, there) = live_of (task_of s g.owner) lives in
      count_stored w m s owes i (owes i).counted None keeps known raised_kept (λ q none. absurd (cc)) g owner there (one_less (count_of m g))
      (λ least.
      let before : lowers s g (owes i) ≡ 1 = lowered_in g (Some g) is ∙ on_own g (Some g) refl in
      let now : lowers s g (record (owes i) { uncounted = None }) ≡ 0 = refl in
      omega (arith, least, before, now, small))
      (λ h elsewhere.
      let before : lowers s h (owes i) ≡ 0 = lowered_in h (Some g) is ∙ on_other h g (Some g) refl elsewhere in
      let now : lowers s h (record (owes i) { uncounted = None }) ≡ 0 = refl in
      omega (arith, before, now))

  pub no_lowering : group_of s k ≡ None → KeepsWords w m s (replace_at owes i (record (owes i) { uncounted = None }))
  no_lowering is =
      unstored w m s owes i (owes i).counted None keeps known raised_kept (λ q none. absurd (cc))
      (λ h.
      let before : lowers s h (owes i) ≡ 0 = lowered_in h None is in
      let now : lowers s h (record (owes i) { uncounted = None }) ≡ 0 = refl in
      omega (arith, before, now))

pub count_subtracts_keep : CountSubtractsKeep
count_subtracts_keep =
    λ w m s owes i k g keeps known owed is lives few small. lowering_stored w m s owes i k keeps known owed g is lives small

pub uncounted_keeps : UncountedKeeps
uncounted_keeps = λ w m s owes i k keeps known owed is. no_lowering w m s owes i k keeps known owed is
