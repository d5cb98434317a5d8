-- Threads that owe other records or assign words, and else the same: counts and slots are as they were.
use Rattle.std.proofs.Common.{◌≡◌, ◌+◌, ℕ, List, refl, ap, ap₂, ◌∙◌, sym, arith}
use Rattle.std.specs.Prelude.{All}
use Rattle.std.specs.Option.{option_and_then}
use Rattle.omi_model.specs.declared.id.Rid.{Rid}
use Rattle.omi_model.specs.declared.id.Tid.{Tid}
use Rattle.omi_model.specs.declared.region.Region.{Region}
use Rattle.omi_model.specs.declared.task.Task.{Task}
use Rattle.omi_model.specs.State.{State}
use Rattle.omi_layout.specs.Memory.{Rec}
use Rattle.omi_rule_words.specs.Owes.{Owed}
use Rattle.omi_rule_words.specs.Counts.{sum_of_owed, pending_owed, left_owed, children_owed, start_owed, assign_owed, assigns_in, one, is_some_region, is_some_task, generating_of, gives_owed, references_owed}
use Rattle.omi_rule_words.specs.Objects.{KeepsCounts, KeepsDeferred, KeepsRegion}
use Rattle.omi_rule_words.specs.Threads.{KeepsAssign, WaitsFor}
use Rattle.omi_rule_words.specs.Words.{KeepsTask, OwesOnLive}
use Rattle.omi_rule_words.proofs.CountedRegions.{region_counted}
use Rattle.omi_rule_words.proofs.OwedTasks.{OwesTasksAlike, owed_on_tasks, references_alike, tasks_stay}
use Rattle.omi_rule_words.proofs.Sums.{sum_same}
use Rattle.omi_rule_words.proofs.GroupCounts.{OnGroupsAlike}

-- two threads owe the same, but for records in the making, assign words and tasks that were met
pub record OwesAlike (p o : Owed) : Type 0 where
  pub pending : p.pending ≡ o.pending
  pub raised : p.raised ≡ o.raised
  pub lowered : p.lowered ≡ o.lowered
  pub referred : p.referred ≡ o.referred
  pub own : p.own ≡ o.own
  pub returned : p.returned ≡ o.returned
  pub gives : p.gives ≡ o.gives
  pub left : p.left ≡ o.left
  pub hand : p.hand ≡ o.hand
  pub counted : p.counted ≡ o.counted
  pub uncounted : p.uncounted ≡ o.uncounted

pub owes_alike : (o : Owed) → OwesAlike o o
owes_alike o =
    record { pending = refl; raised = refl; lowered = refl; referred = refl; own = refl; returned = refl; gives = refl; left = refl; hand = refl; counted = refl; uncounted = refl }

pub alike_on_groups : (p o : Owed) → OwesAlike p o → OnGroupsAlike p o
alike_on_groups p o alike = record { counted = alike.counted; uncounted = alike.uncounted; raised = λ k _ is. alike.raised ∙ is; own = λ k _ is. alike.own ∙ is }

pub alike_on_tasks : (p o : Owed) → OwesAlike p o → OwesTasksAlike p o
alike_on_tasks p o alike =
    record { pending = alike.pending; referred = alike.referred; own = alike.own; returned = alike.returned; gives = alike.gives }

module _ (w : List ℕ) (s : State) (owes other : ℕ → Owed)
    (alike : (j : ℕ) → OwesAlike (other j) (owes j)) where
  same : (f : Owed → ℕ) → ((j : ℕ) → f (other j) ≡ f (owes j)) → sum_of_owed s other f ≡ sum_of_owed s owes f
  same f each = sum_same s.count (λ j. f (other j)) (λ j. f (owes j)) each

  pub region_owed : (n : Rid) (r : Rec) (x : Region) → KeepsRegion w s owes n r x
      → KeepsRegion w s other n r x
  region_owed n r x o =
      let pending = same (pending_owed n) (λ j. ap (λ q. one (is_some_region n q)) (alike j).pending) in
      region_counted w s s owes other n r x (omega (arith, pending))
      (same (left_owed n) (λ j. ap (λ q. one (is_some_region n q)) (alike j).left)) o

  counts_owed : (k : Tid) (r : Rec) (t : Task) → KeepsCounts w s owes k r t → KeepsCounts w s other k r t
  counts_owed k r t o = record {
    children =
        let was = o.children in
        let owed =
        same (children_owed s k)
        (λ j. ap₂ (λ a b. one (is_some_task k a) + one (is_some_task k (option_and_then (generating_of s) b))) (alike j).raised (alike j).lowered) in
        omega (arith, was, owed);
    references =
        let was = o.references in
        let owed =
        same (references_owed k)
        (λ j. references_alike k (other j) (owes j) (alike j).referred (alike j).own (alike j).returned) in
        omega (arith, was, owed);
    given = same (gives_owed k) (λ j. ap (λ q. one (is_some_task k q)) (alike j).gives) ∙ o.given;
  }

  pub task_owed : (k : Tid) (r : Rec) (t : Task) → KeepsTask w s owes k r t → KeepsTask w s other k r t
  task_owed k r t o = record { environment = o.environment; place = o.place; counts = counts_owed k r t o.counts; slots = o.slots }

  pub deferred_owed : (r : ℕ → ℕ → Rec) → KeepsDeferred w r s owes → KeepsDeferred w r s other
  deferred_owed r o = record {
    once = λ k t live deferred.
        let was = o.once k t live deferred in
        let owed = same (start_owed k) (λ j. ap (λ q. one (is_some_task k q)) (alike j).hand) in
        omega (arith, was, owed);
    hands = λ i k known is. o.hands i k known (sym (alike i).hand ∙ is);
  }

-- and what a thread owes on lives
pub objects_owed : (s : State) (o p : Owed) → OwesAlike p o → All (λ m. WaitsFor s m.1 m.0) p.assigns
    → OwesOnLive s o → OwesOnLive s p
objects_owed s o p alike assigns x =
    let on_tasks = owed_on_tasks s s o p (tasks_stay s) (alike_on_tasks p o alike) x in
    record {
      pending = λ n is. x.pending n (sym alike.pending ∙ is);
      left = λ n is. x.left n (sym alike.left ∙ is);
      raised = λ k is. x.raised k (sym alike.raised ∙ is);
      lowered = λ k is. let (own, live) = x.lowered k (sym alike.lowered ∙ is) in (alike.own ∙ own, live);
      referred = on_tasks.referred;
      own = on_tasks.own;
      returned = on_tasks.returned;
      gives = on_tasks.gives;
      assigns = assigns;
    }

-- threads that owe the same assign words, and have met the same tasks
pub assign_owed_same : (w : List ℕ) (s : State) (owes other : ℕ → Owed)
    → ((j : ℕ) → (other j).assigns ≡ (owes j).assigns) → ((j : ℕ) → (other j).met ≡ (owes j).met)
    → (i : ℕ) (r : Rec) → KeepsAssign w s owes i r → KeepsAssign w s other i r
assign_owed_same w s owes other assigns met i r o = record {
  waiting = λ k waits.
      let was = o.waiting k waits in
      let sum = was.once in
      let owed : sum_of_owed s other (assign_owed i k) ≡ sum_of_owed s owes (assign_owed i k)
      = sum_same s.count (λ j. assign_owed i k (other j)) (λ j. assign_owed i k (owes j))
      (λ j. ap (assigns_in i k) (assigns j)) in
      let met_same : one (other i).met ≡ one (owes i).met = ap one (met i) in
      record { word_is = was.word_is; once = omega (arith, sum, owed, met_same) };
  none = o.none;
}
