-- Live tasks of a state within a layout: their records, what is counted there, and their names.
use Rattle.std.proofs.Common.{◌≡◌, ◌-◌, ◌<◌, ◌≤◌, true, false, ℕ, List, Some, refl, sym, ap, subst, ◌∙◌, arith}
use Rattle.std.proofs.lemmas.Bool.Decides.{nat_tests}
use Rattle.omi_model.specs.declared.id.Id.{Id}
use Rattle.omi_model.specs.declared.id.Tid.{Tid}
use Rattle.omi_model.specs.declared.progress.Progress.{Progress}
use Rattle.omi_model.specs.declared.progress.Progress.TheVariants as progress
use Rattle.omi_model.specs.declared.progress.Progress.TheVariants.{Deferred, NotBegun, Begun, Finished}
use Rattle.omi_model.specs.declared.task.Task.{Task}
use Rattle.omi_model.specs.Put.{found}
use Rattle.omi_model.specs.State.{State, task_of}
use Rattle.omi_model.proofs.Slots.{found_generation, found_live, id_same, some_same}
use Rattle.omi_layout.specs.Field.{tasks}
use Rattle.omi_layout.specs.Memory.{Memory}
use Rattle.omi_layout.specs.Table.{per_thread}
use Rattle.omi_pc.specs.declared.place.Place.{Place}
use Rattle.omi_rep.specs.Shows.{IsWithin}
use Rattle.omi_rule_words.specs.Owes.{Owed}
use Rattle.omi_rule_words.specs.Counts.{is_at, is_task, is_unfinished, of_live, one, sum_below, sum_of_slots}
use Rattle.omi_rule_words.specs.Objects.{KeepsCounts}
use Rattle.omi_rule_words.specs.Words.{KeepsWords, task_in}
use Rattle.omi_rule_words.proofs.Sums.{part_below}
use Rattle.omi_rule_words.proofs.TaskWords.{task_name}

-- an explicit task that is not unfinished has finished
pub over : (t : Task) → t.implicit ≡ false → one (is_unfinished t) ≡ 0 → t.progress ≡ progress.Finished
over t explicit none =
    go t.progress (sym (ap (λ b. one (is_unfinished (record t { implicit = b }))) explicit) ∙ none)
  where
    go : (p : Progress) → one (is_unfinished (record t { implicit = false; progress = p })) ≡ 0
        → p ≡ progress.Finished
    go Deferred is = absurd (omega (arith, is))
    go NotBegun is = absurd (omega (arith, is))
    go Begun is = absurd (omega (arith, is))
    go Finished is = refl

-- one name by what it is made of
pub named_as : (q k : Tid) → q.0 ≡ k.0 → q ≡ k
named_as q k same = ap (λ (n : Id). record { 0 = n }) same

-- names that are compared as the same are
pub same_name : (q k : Tid) → is_task k q ≡ true → q ≡ k
same_name q k e =
    let creator : q.0.creator ≡ k.0.creator = grind (arith, nat_tests) in
    let slot : q.0.slot ≡ k.0.slot = grind (arith, nat_tests) in
    let generation : q.0.generation ≡ k.0.generation = grind (arith, nat_tests) in
    named_as q k (id_same q.0 k.0 creator slot generation)

-- two live tasks of one slot are one
pub one_place : (s : State) (k q : Tid) (t u : Task) → task_of s k ≡ Some t → task_of s q ≡ Some u
    → q.0.creator ≡ k.0.creator → q.0.slot ≡ k.0.slot → (q ≡ k) × (u ≡ t)
one_place s k q t u is there creator slot =
    let live : (s.tasks k.0.creator k.0.slot).live ≡ Some t =
    found_live k.0.generation (s.tasks k.0.creator k.0.slot) t is in
    let other : (s.tasks q.0.creator q.0.slot).live ≡ Some u =
    found_live q.0.generation (s.tasks q.0.creator q.0.slot) u there in
    let moved : (s.tasks k.0.creator k.0.slot).live ≡ Some u =
    subst (λ j. (s.tasks k.0.creator j).live ≡ Some u) slot
    (subst (λ c. (s.tasks c q.0.slot).live ≡ Some u) creator other) in
    let a = found_generation k.0.generation (s.tasks k.0.creator k.0.slot) t is in
    let b = found_generation q.0.generation (s.tasks q.0.creator q.0.slot) u there in
    let c : (s.tasks q.0.creator q.0.slot).generations ≡ (s.tasks k.0.creator k.0.slot).generations =
    ap (λ x. (s.tasks x q.0.slot).generations) creator
    ∙ ap (λ x. (s.tasks k.0.creator x).generations) slot in
    (named_as q k (id_same q.0 k.0 creator slot (omega (arith, a, b, c))), some_same moved live)

-- and so are two at one place
pub one_at : (s : State) (k q : Tid) (p : Place) (t u : Task) → task_of s k ≡ Some t → task_of s q ≡ Some u
    → is_at k p ≡ true → is_at q p ≡ true → (q ≡ k) × (u ≡ t)
one_at s k q p t u is there at other =
    let creator : q.0.creator ≡ k.0.creator = grind (arith, nat_tests) in
    let slot : q.0.slot ≡ k.0.slot = grind (arith, nat_tests) in one_place s k q t u is there creator slot

module _ (w : List ℕ) (s : State) (within : IsWithin w s) where
  -- what is found stands in the layout
  pub found_below : (c j g : ℕ) (x : Task) → found g (s.tasks c j) ≡ Some x
      → (c < s.count) × (j < per_thread w tasks)
  found_below c j g x is =
      let at = within.tasks c j g x is in
      let count = within.count in
      let maker = at.maker in (omega (arith, maker, count), at.place)

  -- a live task has a name
  pub name_of : (c j : ℕ) (x : Task) → (s.tasks c j).live ≡ Some x
      → (k : Tid) × (k.0.creator ≡ c) × (k.0.slot ≡ j) × (task_of s k ≡ Some x)
  name_of c j x live =
      let (g, is) = within.tasks_named c j x live in
      (record { 0 = record { creator = c; slot = j; generation = g } }, refl, refl, is)

  pub task_in_live : (c j : ℕ) (x : Task) → (s.tasks c j).live ≡ Some x
      → task_of s (task_in c j (s.tasks c j)) ≡ Some x
  task_in_live c j x live =
      let (g, is) = within.tasks_named c j x live in
      let made = found_generation g (s.tasks c j) x is in
      let same : (s.tasks c j).generations - 1 ≡ g = omega (arith, made) in
      ap (λ y. found y (s.tasks c j)) same ∙ is

  pub live_below : (c j : ℕ) (x : Task) → (s.tasks c j).live ≡ Some x
      → (c < s.count) × (j < per_thread w tasks)
  live_below c j x live = let (g, is) = within.tasks_named c j x live in found_below c j g x is

  -- what is counted of it is no more than the sum
  pub task_part : (f : ℕ → ℕ → Task → ℕ) (c j : ℕ) (x : Task) → (s.tasks c j).live ≡ Some x
      → f c j x ≤ sum_of_slots w s f
  task_part f c j x live =
      let at = live_below c j x live in
      let first = part_below (per_thread w tasks) j (λ n. of_live (f c n) (s.tasks c n).live) at.1 in
      let second =
      part_below s.count c
      (λ d. sum_below (per_thread w tasks) (λ n. of_live (f d n) (s.tasks d n).live)) at.0 in
      let own : of_live (f c j) (s.tasks c j).live ≡ f c j x = ap (of_live (f c j)) live in
      omega (arith, first, second, own)

  -- its record has the counts
  pub counts_of : (m : Memory) (owes : ℕ → Owed) → KeepsWords w m s owes → (k : Tid) (t : Task)
      → task_of s k ≡ Some t → KeepsCounts w s owes k (m k.0.creator tasks k.0.slot) t
  counts_of m owes keeps k t live =
      let here = found_below k.0.creator k.0.slot k.0.generation t live in
      let there = found_live k.0.generation (s.tasks k.0.creator k.0.slot) t live in
      subst (λ (q : Tid). KeepsCounts w s owes q (m k.0.creator tasks k.0.slot) t) (task_name s k t live)
      (((keeps.made k.0.creator here.0).tasks k.0.slot here.1).live t there).counts
