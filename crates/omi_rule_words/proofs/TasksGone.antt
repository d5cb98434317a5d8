-- Tasks that are gone where what is counted of them is 0.
use Rattle.std.proofs.Common.{◌≡◌, ◌==◌, ◌&&◌, ◌+◌, ◌<◌, ◌≤◌, Bool, true, false, not, ℕ, zero, suc, List, Option, Some, None, refl, ap, subst, ◌∙◌, arith, eq-eqb, eqb-true}
use Rattle.omi_model.specs.declared.id.Rid.{Rid}
use Rattle.omi_model.specs.declared.id.Tid.{Tid}
use Rattle.omi_model.specs.declared.region.Region.{Region}
use Rattle.omi_model.specs.declared.task.Task.{Task}
use Rattle.omi_model.specs.Barriers.{HasNoExplicit}
use Rattle.omi_model.specs.Freeing.{HasNoChild}
use Rattle.omi_model.specs.State.{State, region_of, task_of}
use Rattle.omi_model.proofs.Slots.{found_live, some_same}
use Rattle.omi_layout.specs.declared.field.Field.TheVariants.{RegionPending, TaskReferences}
use Rattle.omi_layout.specs.Field.{regions, tasks}
use Rattle.omi_layout.specs.Memory.{Memory}
use Rattle.omi_layout.specs.Named.{number}
use Rattle.omi_pc.specs.declared.place.Place.{Place}
use Rattle.omi_rep.specs.Shows.{IsWithin}
use Rattle.omi_rule_words.specs.Owes.{Owed}
use Rattle.omi_rule_words.specs.Counts.{gives_owed, is_at, is_at_some, is_explicit, is_region, is_some_region, is_some_task, is_task, is_unfinished, live_children, of_live, one, pending_owed, references_owed, sum_of_owed, unfinished_in}
use Rattle.omi_rule_words.specs.Objects.{KeepsRegion}
use Rattle.omi_rule_words.specs.Words.{IsOwedIn, KeepsWords}
use Rattle.omi_rule_words.specs.BarrierKinds.{word_of_region}
use Rattle.omi_rule_words.specs.FreeKinds.{AllTasksGone, DescendsInRegion, GivenHaveNoChild}
use Rattle.omi_rule_words.proofs.ChildrenFinished.{child_counted}
use Rattle.omi_rule_words.proofs.LiveTasks.{counts_of, name_of, one_at, same_name, task_part}
use Rattle.omi_rule_words.proofs.OwedTasks.{and_true}
use Rattle.omi_rule_words.proofs.Sums.{part_below, slots_none_within, sum_none_within}
use Rattle.omi_rule_words.proofs.TaskCounts.{on_own}
use Rattle.omi_rule_words.proofs.TaskEnds.{found_name, is_region_same}

-- ---- a task that is to be given back

module _ (w : List ℕ) (m : Memory) (s : State) (owes : ℕ → Owed) (i : ℕ) (k : Tid)
    (keeps : KeepsWords w m s owes) (within : IsWithin w s) (known : i < s.count)
    (gives : (owes i).gives ≡ Some k) where
  -- its word for references is 0
  pub given_word : m k.0.creator tasks k.0.slot (number TaskReferences) 0 ≡ 0
  given_word =
      let x = ((keeps.made i known).objects.gives k gives).0 in
      let given = (counts_of w s within m owes keeps k x.task x.live).given in
      let part : gives_owed k (owes i) ≤ sum_of_owed s owes (gives_owed k) =
      part_below s.count i (λ j. gives_owed k (owes j)) known in
      let own : gives_owed k (owes i) ≡ 1 = on_own k (owes i).gives gives in
      zero_where (is_explicit x.task) (m k.0.creator tasks k.0.slot (number TaskReferences) 0)
      (omega (arith, given, part, own))
    where
      zero_where : (b : Bool) (x : ℕ) → 1 ≤ one (b && x == 0) → x ≡ 0
      zero_where b x some = go b (x == 0) refl some
        where
          go : (b c : Bool) → x == 0 ≡ c → 1 ≤ one (b && c) → x ≡ 0
          go true true e some = eqb-true x 0 e
          go true false e some = absurd (omega (arith, some))
          go false c e some = absurd (omega (arith, some))

  pub given_childless : HasNoChild s k
  given_childless c n u live explicit made =
      let x = ((keeps.made i known).objects.gives k gives).0 in
      let references = (counts_of w s within m owes keeps k x.task x.live).references in
      let word = given_word in
      let part = task_part w s within (λ _ _ y. one (is_explicit y && is_some_task k y.generating)) c n u live in
      let own : one (is_explicit u && is_some_task k u.generating) ≡ 1 =
      child_counted (is_explicit u) k u made ∙ ap (λ b. one (not b)) explicit in
      omega (arith, references, word, part, own)

pub given_have_no_child : GivenHaveNoChild
given_have_no_child =
    λ w m s owes i k keeps within known gives. given_childless w m s owes i k keeps within known gives

-- ---- a region without unfinished explicit tasks

module _ (w : List ℕ) (m : Memory) (s : State) (owes : ℕ → Owed) (n : Rid) (r : Region)
    (keeps : KeepsWords w m s owes) (within : IsWithin w s) (descends : DescendsInRegion s)
    (live : region_of s n ≡ Some r) (word : word_of_region m n RegionPending ≡ 0) where
  counted : unfinished_in w s n + sum_of_owed s owes (pending_owed n) ≡ 0
  counted =
      let at = within.regions n.0.creator n.0.slot n.0.generation r live in
      let count = within.count in
      let maker = at.maker in
      let there = found_live n.0.generation (s.regions n.0.creator n.0.slot) r live in
      let region =
      subst (λ (q : Rid). KeepsRegion w s owes q (m n.0.creator regions n.0.slot) r) (found_name s n r live)
      (((keeps.made n.0.creator (omega (arith, maker, count))).regions n.0.slot at.place).live r there) in
      let pending = region.pending in
      omega (arith, pending, word)

  -- no thread owes on it, and so on the references of no task of it
  unowed : (j : ℕ) → j < s.count → (owes j).pending ≡ Some n → ⊥
  unowed j known is =
      let part : pending_owed n (owes j) ≤ sum_of_owed s owes (pending_owed n) =
      part_below s.count j (λ c. pending_owed n (owes c)) known in
      let own : pending_owed n (owes j) ≡ 1 =
      ap (λ o. one (is_some_region n o)) is ∙ ap one (is_region_same n) in
      omega (arith, counted, part, own)

  module _ (k : Tid) (t : Task) (there : task_of s k ≡ Some t) (in_region : t.region ≡ n) where
    -- a thread that owes on the task would owe on the region
    none_owes : (j : ℕ) → j < s.count → IsOwedIn s (owes j) k → ⊥
    none_owes j known (u, is, region) =
        unowed j known (region ∙ ap (λ (x : Task). Some x.region) (some_same is there) ∙ ap Some in_region)

    none_named : (j : ℕ) → j < s.count → (o : Option Tid) → ((q : Tid) → o ≡ Some q → IsOwedIn s (owes j) q)
        → one (is_some_task k o) ≡ 0
    none_named j known None owed = refl
    none_named j known (Some q) owed = go (is_task k q) refl
      where
        go : (b : Bool) → is_task k q ≡ b → one b ≡ 0
        go false e = refl
        go true e =
            absurd (none_owes j known (subst (λ (x : Tid). IsOwedIn s (owes j) x) (same_name q k e) (owed q refl)))

    none_at : (j : ℕ) → j < s.count → (o : Option Place)
        → ((p : Place) → o ≡ Some p → (q : Tid) × (is_at q p ≡ true) × IsOwedIn s (owes j) q)
        → one (is_at_some k o) ≡ 0
    none_at j known None owed = refl
    none_at j known (Some p) owed = go (is_at k p) refl
      where
        go : (b : Bool) → is_at k p ≡ b → one b ≡ 0
        go false e = refl
        go true e =
            let (q, at, of_region) = owed p refl in
            let (u, is, region) = of_region in
            let name = (one_at s k q p t u there is e at).0 in
            absurd (none_owes j known (subst (λ (x : Tid). IsOwedIn s (owes j) x) name of_region))

    references_unowed : sum_of_owed s owes (references_owed k) ≡ 0
    references_unowed =
        sum_none_within s.count (λ j. references_owed k (owes j))
        (λ j known.
        let o = (keeps.made j known).objects in
        let a = none_named j known (owes j).referred o.referred in
        let b = none_named j known (owes j).own (λ q is. (o.own q is).1) in
        let c = none_at j known (owes j).returned o.returned in
        omega (arith, a, b, c))

    gives_unowed : sum_of_owed s owes (gives_owed k) ≡ 0
    gives_unowed =
        sum_none_within s.count (λ j. gives_owed k (owes j))
        (λ j known. none_named j known (owes j).gives (λ q is. ((keeps.made j known).objects.gives q is).1))

    -- so an explicit one has a child
    has_child : t.implicit ≡ false → live_children w s k ≡ 0 → ⊥
    has_child explicit childless =
        let counts = counts_of w s within m owes keeps k t there in
        let references = counts.references in
        let given = counts.given in
        let part =
        task_part w s within (λ _ _ y. one (is_unfinished y && is_region n y.region)) k.0.creator k.0.slot t
        (found_live k.0.generation (s.tasks k.0.creator k.0.slot) t there) in
        let own : one (is_unfinished t && is_region n t.region) ≡ one (is_unfinished t) =
        ap (λ (x : Rid). one (is_unfinished t && is_region n x)) in_region
        ∙ (ap (λ b. one (is_unfinished t && b)) (is_region_same n) ∙ and_true (is_unfinished t)) in
        let a = references_unowed in
        let b = gives_unowed in
        let none : m k.0.creator tasks k.0.slot (number TaskReferences) 0 ≡ 0 =
        omega (arith, references, counted, part, own, a, childless) in
        let one_gives : one (is_explicit t && m k.0.creator tasks k.0.slot (number TaskReferences) 0 == 0) ≡ 1 =
        ap (λ x. one (not x && m k.0.creator tasks k.0.slot (number TaskReferences) 0 == 0)) explicit
        ∙ ap one (eq-eqb _ _ none) in
        omega (arith, given, b, one_gives)

  abbrev IsGone : ℕ → Type 0
  IsGone f = (c j : ℕ) (t : Task) → (s.tasks c j).live ≡ Some t → t.implicit ≡ false → t.region ≡ n
      → t.function < f → ⊥

  -- no explicit task of the region runs a function below this number
  gone_below : (f : ℕ) → IsGone f
  gone_below zero c j t there explicit in_region small = absurd (omega (arith, small))
  gone_below (suc f) c j t there explicit in_region small =
      let (k, creator, slot, is) = name_of w s within c j t there in
      has_child k t is in_region explicit
      (slots_none_within w s (λ _ _ y. one (is_explicit y && is_some_task k y.generating))
      (λ d h maker place. none (gone_below f) k t is in_region small d h (s.tasks d h).live refl))
    where
      none : IsGone f → (k : Tid) (t : Task) → task_of s k ≡ Some t → t.region ≡ n → t.function < suc f
          → (d h : ℕ) (o : Option Task) → (s.tasks d h).live ≡ o
          → of_live (λ y. one (is_explicit y && is_some_task k y.generating)) o ≡ 0
      none gone k t is in_region small d h None there = refl
      none gone k t is in_region small d h (Some u) there = go u.implicit refl u.generating refl
        where
          go : (b : Bool) → u.implicit ≡ b → (g : Option Tid) → u.generating ≡ g
              → one (not b && is_some_task k g) ≡ 0
          go true e g made = refl
          go false e None made = refl
          go false e (Some q) made = same (is_task k q) refl
            where
              same : (b : Bool) → is_task k q ≡ b → one b ≡ 0
              same false equal = refl
              same true equal =
                  let name = same_name q k equal in
                  let (v, _, _, child) = name_of w s within d h u there in
                  let (stands, smaller) = descends v k u _ child e (made ∙ ap Some name) is in
                  absurd (gone d h u there e (stands ∙ in_region) (omega (arith, smaller, small)))

  pub region_alone : HasNoExplicit s n
  region_alone c j t there explicit in_region =
      gone_below (suc t.function) c j t there explicit in_region (omega arith)

pub all_tasks_gone : AllTasksGone
all_tasks_gone =
    λ w m s owes n r keeps within descends live word. region_alone w m s owes n r keeps within descends live word
