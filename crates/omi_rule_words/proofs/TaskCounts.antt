-- What is raised for an explicit task in the making, and lowered for one that has finished, in the records of tasks.
use Rattle.std.proofs.Common.{◌≡◌, ◌+◌, ◌<◌, ◌^◌, ℕ, List, Option, Some, None, refl, sym, ap, subst, ◌∙◌, arith}
use Rattle.std.specs.Prelude.{IsSome}
use Rattle.std.specs.Option.{option_and_then}
use Rattle.omi_model.specs.declared.limits.TheConstants.{MOST_EVENTS}
use Rattle.omi_model.specs.declared.id.Tid.{Tid}
use Rattle.omi_model.specs.declared.progress.Progress.TheVariants.{Finished}
use Rattle.omi_model.specs.declared.task.Task.{Task}
use Rattle.omi_model.specs.State.{State, task_of}
use Rattle.omi_layout.specs.declared.field.Field.TheVariants.{TaskChildren, TaskReferences}
use Rattle.omi_layout.specs.Memory.{Memory, replace_at}
use Rattle.omi_rule_words.specs.Owes.{Owed}
use Rattle.omi_rule_words.specs.Counts.{children_owed, generating_of, gives_owed, is_at_some, is_explicit, is_some_task, one, references_owed}
use Rattle.omi_rule_words.specs.Words.{IsOwedIn, KeepsWords}
use Rattle.omi_rule_words.specs.BarrierKinds.{one_more}
use Rattle.omi_rule_words.specs.CountKinds.{ChildrenAddsKeep, ChildrenSubtractsKeep, ReferencesAddKeep, one_less, with_task_word, word_of_task}
use Rattle.omi_rule_words.proofs.OtherCounts.{is_other_id, is_own_id, owed_put_same}
use Rattle.omi_rule_words.proofs.OwedTasks.{referred_to, unfinished_refers}
use Rattle.omi_rule_words.proofs.PendingWords.{live_of}
use Rattle.omi_rule_words.proofs.TaskWords.{children_stored, references_stored}

-- what is owed on a task by a name that is none, its own, or another's
pub on_none : (q : Tid) (o : Option Tid) → o ≡ None → one (is_some_task q o) ≡ 0
on_none q o is = ap (λ (x : Option Tid). one (is_some_task q x)) is

pub on_own : (k : Tid) (o : Option Tid) → o ≡ Some k → one (is_some_task k o) ≡ 1
on_own k o is = ap (λ (x : Option Tid). one (is_some_task k x)) is ∙ ap one (is_own_id k.0)

pub on_other : (q k : Tid) (o : Option Tid) → o ≡ Some k → (q.0.creator ≡ k.0.creator → q.0.slot ≡ k.0.slot → ⊥)
    → one (is_some_task q o) ≡ 0
on_other q k o is apart =
    ap (λ (x : Option Tid). one (is_some_task q x)) is ∙ ap one (is_other_id q.0 k.0 apart)

pub children_adds_keep : ChildrenAddsKeep
children_adds_keep =
    λ w m s owes i k keeps known none live small. kept w m s owes i k keeps known none live small
  where
    kept : (w : List ℕ) (m : Memory) (s : State) (owes : ℕ → Owed) (i : ℕ) (k : Tid) → KeepsWords w m s owes
        → i < s.count → (owes i).raised ≡ None → IsSome (task_of s k)
        → word_of_task m k TaskChildren < MOST_EVENTS
        → KeepsWords w (with_task_word m k TaskChildren (one_more (word_of_task m k TaskChildren))) s
        (replace_at owes i (record (owes i) { raised = Some k }))
    kept w m s owes i k keeps known none live small =
        let (t, is) = live_of (task_of s k) live in
        children_stored w m s owes i p k t keeps known
        (record { region = refl; tasks = refl; left = refl; assigns = refl; met = refl; hand = refl })
        (record { counted = refl; uncounted = refl; raised = λ q _ same. absurd (cc); own = λ q _ same. same }) is
        (λ q. refl)
        (λ q apart. record { children = ap (λ x. x + lowered q) (on_other q k (Some k) refl apart ∙ sym (on_none q (owes i).raised none)); references = refl; gives = refl })
        (λ x. record {
          pending = x.pending;
          left = x.left;
          raised = λ q same. let name : k ≡ q = cc in subst (λ (r : Tid). IsSome (task_of s r)) name live;
          lowered = x.lowered;
          referred = x.referred;
          own = x.own;
          returned = x.returned;
          gives = x.gives;
          assigns = x.assigns;
        })
        (one_more (word_of_task m k TaskChildren)) refl refl
        (λ _.
        let before : children_owed s k (owes i) ≡ 0 + lowered k =
        ap (λ x. x + lowered k) (on_none k (owes i).raised none) in
        let now : children_owed s k p ≡ 1 + lowered k = ap (λ x. x + lowered k) (on_own k (Some k) refl) in
        omega (arith, before, now, small))
      where
        p : Owed
        p = record (owes i) { raised = Some k }

        lowered : Tid → ℕ
        lowered q = one (is_some_task q (option_and_then (generating_of s) (owes i).lowered))

pub references_add_keep : ReferencesAddKeep
references_add_keep =
    λ w m s owes i k t keeps known none live unfinished pending small. kept w m s owes i k t keeps known none live unfinished pending small
  where
    kept : (w : List ℕ) (m : Memory) (s : State) (owes : ℕ → Owed) (i : ℕ) (k : Tid) (t : Task) → KeepsWords w m s owes
        → i < s.count → (owes i).referred ≡ None → task_of s k ≡ Some t → (t.progress ≡ Finished → ⊥)
        → (owes i).pending ≡ Some t.region → word_of_task m k TaskReferences < MOST_EVENTS
        → KeepsWords w (with_task_word m k TaskReferences (one_more (word_of_task m k TaskReferences))) s
        (replace_at owes i (record (owes i) { referred = Some k }))
    kept w m s owes i k t keeps known none live unfinished pending small =
        references_stored w m s owes i p k t keeps known
        (record { region = refl; tasks = refl; left = refl; assigns = refl; met = refl; hand = refl })
        (record { counted = refl; uncounted = refl; raised = λ q _ same. same; own = λ q _ same. same }) live
        (λ q. refl)
        (λ q apart. record { children = refl; references = ap (λ x. x + rest q) (on_other q k (Some k) refl apart ∙ sym (on_none q (owes i).referred none)); gives = refl })
        (λ x. record {
          pending = x.pending;
          left = x.left;
          raised = x.raised;
          lowered = x.lowered;
          referred = λ q same. let name : k ≡ q = cc in subst (λ (r : Tid). IsOwedIn s p r) name (t, live, pending);
          own = x.own;
          returned = x.returned;
          gives = x.gives;
          assigns = x.assigns;
        })
        (one_more (word_of_task m k TaskReferences)) refl
        (λ o.
        let word = o.references in
        let own = unfinished_refers t unfinished in
        owed_put_same s owes i p (gives_owed k) refl
        ∙ (o.given
        ∙ (referred_to (is_explicit t) (word_of_task m k TaskReferences) (omega (arith, word, own))
        ∙ sym (referred_to (is_explicit t) (one_more (word_of_task m k TaskReferences)) (omega (arith, word, own, small))))))
        (λ _.
        let before : references_owed k (owes i) ≡ 0 + rest k =
        ap (λ x. x + rest k) (on_none k (owes i).referred none) in
        let now : references_owed k p ≡ 1 + rest k = ap (λ x. x + rest k) (on_own k (Some k) refl) in
        omega (arith, before, now, small))
      where
        p : Owed
        p = record (owes i) { referred = Some k }

        rest : Tid → ℕ
        rest q = one (is_some_task q (owes i).own) + one (is_at_some q (owes i).returned)

pub children_subtracts_keep : ChildrenSubtractsKeep
children_subtracts_keep =
    λ w m s owes i k g keeps known owed made small. kept w m s owes i k g keeps known owed made small
  where
    kept : (w : List ℕ) (m : Memory) (s : State) (owes : ℕ → Owed) (i : ℕ) (k g : Tid) → KeepsWords w m s owes
        → i < s.count → (owes i).lowered ≡ Some k → generating_of s k ≡ Some g
        → word_of_task m g TaskChildren < 2 ^ 64
        → KeepsWords w (with_task_word m g TaskChildren (one_less (word_of_task m g TaskChildren))) s
        (replace_at owes i (record (owes i) { lowered = None }))
    kept w m s owes i k g keeps known owed made small =
        let (t, is) =
        live_of (task_of s g)
        (subst (λ (o : Option Tid). IsSome (option_and_then (task_of s) o)) made ((keeps.made i known).objects.lowered k owed).1) in
        children_stored w m s owes i p g t keeps known
        (record { region = refl; tasks = refl; left = refl; assigns = refl; met = refl; hand = refl })
        (record { counted = refl; uncounted = refl; raised = λ q _ same. same; own = λ q _ same. same }) is
        (λ q. refl)
        (λ q apart. record { children = ap (λ x. raised q + x) (sym (on_other q g (option_and_then (generating_of s) (owes i).lowered) of_made apart)); references = refl; gives = refl })
        (λ x. record {
          pending = x.pending;
          left = x.left;
          raised = x.raised;
          lowered = λ q same. absurd (cc);
          referred = x.referred;
          own = x.own;
          returned = x.returned;
          gives = x.gives;
          assigns = x.assigns;
        })
        (one_less (word_of_task m g TaskChildren)) refl refl
        (λ least.
        let before : children_owed s g (owes i) ≡ raised g + 1 =
        ap (λ x. raised g + x) (on_own g (option_and_then (generating_of s) (owes i).lowered) of_made) in
        let now : children_owed s g p ≡ raised g + 0 = refl in
        omega (arith, least, before, now, small))
      where
        p : Owed
        p = record (owes i) { lowered = None }

        raised : Tid → ℕ
        raised q = one (is_some_task q (owes i).raised)

        of_made : option_and_then (generating_of s) (owes i).lowered ≡ Some g
        of_made = ap (option_and_then (generating_of s)) owed ∙ made
