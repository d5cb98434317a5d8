-- What a thread owes on tasks of a region: it stays where these tasks live on, and a thread owes the same.
use Rattle.std.proofs.Common.{◌≡◌, ◌==◌, ◌&&◌, ◌+◌, ◌≤◌, Bool, true, false, not, ℕ, Some, refl, sym, ap, ◌∙◌, arith, ne_eqb}
use Rattle.std.proofs.lemmas.List.Elements.{All-nil}
use Rattle.omi_model.specs.declared.id.Tid.{Tid}
use Rattle.omi_model.specs.declared.progress.Progress.{Progress}
use Rattle.omi_model.specs.declared.progress.Progress.TheVariants.{Deferred, NotBegun, Begun, Finished}
use Rattle.omi_model.specs.declared.task.Task.{Task}
use Rattle.omi_model.specs.State.{State, task_of}
use Rattle.omi_pc.specs.declared.place.Place.{Place}
use Rattle.omi_rule_words.specs.Owes.{Owed, nothing}
use Rattle.omi_rule_words.specs.Counts.{is_at, is_at_some, is_explicit, is_finished, is_some_task, one, own_reference, references_owed}
use Rattle.omi_rule_words.specs.Threads.{WaitsFor}
use Rattle.omi_rule_words.specs.Words.{HasFinished, IsOwedIn, OwesOnLive}

-- a test joined with one that holds
pub and_true : (b : Bool) → one (b && true) ≡ one b
and_true true = refl
and_true false = refl

-- two threads owe the same on references of tasks, and on the region of these tasks
pub record OwesTasksAlike (p o : Owed) : Type 0 where
  pub pending : p.pending ≡ o.pending
  pub referred : p.referred ≡ o.referred
  pub own : p.own ≡ o.own
  pub returned : p.returned ≡ o.returned
  pub gives : p.gives ≡ o.gives

pub owes_tasks_alike : (o : Owed) → OwesTasksAlike o o
owes_tasks_alike o = record { pending = refl; referred = refl; own = refl; returned = refl; gives = refl }

-- so as much is owed on a word for references
pub references_alike : (k : Tid) (p o : Owed) → p.referred ≡ o.referred → p.own ≡ o.own
    → p.returned ≡ o.returned → references_owed k p ≡ references_owed k o
references_alike k p o referred own returned =
    ap (λ x. one (is_some_task k x) + (one (is_some_task k p.own) + one (is_at_some k p.returned))) referred
    ∙ (ap
    (λ x. one (is_some_task k o.referred) + (one (is_some_task k x) + one (is_at_some k p.returned))) own
    ∙ ap
    (λ x. one (is_some_task k o.referred) + (one (is_some_task k o.own) + one (is_at_some k x))) returned)

-- a task is not to be given back that has a reference where it is explicit
pub referred_to : (explicit : Bool) (word : ℕ) → one explicit ≤ word → one (explicit && word == 0) ≡ 0
referred_to false word some = refl
referred_to true word some = ap one (ne_eqb word 0 (λ none. omega (arith, some, none)))

-- one that has not finished refers to itself
pub unfinished_refers : (t : Task) → (t.progress ≡ Finished → ⊥) → own_reference t ≡ one (is_explicit t)
unfinished_refers t ne = go t.progress ne
  where
    go : (p : Progress) → (p ≡ Finished → ⊥)
        → one (is_explicit t && not (is_finished p)) ≡ one (is_explicit t)
    go Deferred ne = and_true (is_explicit t)
    go NotBegun ne = and_true (is_explicit t)
    go Begun ne = and_true (is_explicit t)
    go Finished ne = absurd (ne refl)

-- what is owed on references, and to give tasks back, lives and is of the region on which the thread owes
pub record OwesOnTasks (s : State) (o : Owed) : Type 0 where
  pub referred : (k : Tid) → o.referred ≡ Some k → IsOwedIn s o k
  pub own : (k : Tid) → o.own ≡ Some k → HasFinished s k × IsOwedIn s o k
  pub returned : (p : Place) → o.returned ≡ Some p → (k : Tid) × (is_at k p ≡ true) × IsOwedIn s o k
  pub gives : (k : Tid) → o.gives ≡ Some k → HasFinished s k × IsOwedIn s o k

-- tasks live on in their regions, and have finished if they had
pub record TasksStay (s u : State) : Type 0 where
  pub live : (k : Tid) (t : Task) → task_of s k ≡ Some t
      → (x : Task) × (task_of u k ≡ Some x) × (x.region ≡ t.region)
  pub finished : (k : Tid) → HasFinished s k → HasFinished u k

pub tasks_stay : (s : State) → TasksStay s s
tasks_stay s = record { live = λ k t is. (t, is, refl); finished = λ k x. x }

pub owed_on_tasks : (s u : State) (o p : Owed) → TasksStay s u → OwesTasksAlike p o → OwesOnLive s o
    → OwesOnTasks u p
owed_on_tasks s u o p stay alike x = record {
  referred = λ k is. in_region k (x.referred k (sym alike.referred ∙ is));
  own = λ k is.
      let (finished, owed) = x.own k (sym alike.own ∙ is) in (stay.finished k finished, in_region k owed);
  returned = λ at is.
      let (k, there, owed) = x.returned at (sym alike.returned ∙ is) in (k, there, in_region k owed);
  gives = λ k is.
      let (finished, owed) = x.gives k (sym alike.gives ∙ is) in (stay.finished k finished, in_region k owed);
}
  where
    in_region : (k : Tid) → IsOwedIn s o k → IsOwedIn u p k
    in_region k (t, live, region) =
        let (y, now, same) = stay.live k t live in (y, now, alike.pending ∙ (region ∙ ap Some (sym same)))

-- a task of which the generating one's word is to be lowered has finished
pub lowered_finished : (s : State) (o : Owed) → OwesOnLive s o → (k : Tid) → o.lowered ≡ Some k
    → HasFinished s k
lowered_finished s o x k is = (x.own k (x.lowered k is).0).0

pub nothing_on_live : (s : State) → OwesOnLive s nothing
nothing_on_live s = record {
  pending = λ n is. absurd (cc);
  left = λ n is. absurd (cc);
  raised = λ k is. absurd (cc);
  lowered = λ k is. absurd (cc);
  referred = λ k is. absurd (cc);
  own = λ k is. absurd (cc);
  returned = λ at is. absurd (cc);
  gives = λ k is. absurd (cc);
  assigns = All-nil (λ (q : Tid × ℕ). WaitsFor s q.1 q.0);
}
