-- Walking a chain: where it begins, one task more, and where it ends.
use Rattle.std.proofs.Common.{◌≡◌, ◌⊎◌, inl, inr, ℕ, zero, suc, ◌+◌, ◌<◌, List, [], ◌∷◌, ◌++◌, Option, Some, None, refl, sym, ap, subst, ◌∙◌, arith, append_assoc}
use Rattle.std.specs.Option.{option_map, option_and_then}
use Rattle.omi_model.specs.declared.id.Id.{Id}
use Rattle.omi_model.specs.declared.id.Tid.{Tid}
use Rattle.omi_model.specs.declared.task.Task.{Task}
use Rattle.omi_model.specs.declared.view.TaskRow.{TaskRow}
use Rattle.omi_model.specs.State.{State, task_of, scheduling_of}
use Rattle.omi_model.specs.Views.{IsChain, task_row}
use Rattle.omi_model.specs.Visible.{IsVisibleTask}
use Rattle.omi_model.specs.WellFormed.{IsWellFormed, IsTaskRight, Ends, along}
use Rattle.omi_machine_view.specs.Chains.{IsChainAdded, IsSegment, IsWalked, LeadHere, task_name}
use Rattle.omi_machine_view.specs.Marks.{WasMet, IsMetSlot, Stops}
use Rattle.omi_machine_view.proofs.Alongs.{along_more, never_back}
use Rattle.omi_machine_view.proofs.LiveNames.{one_name}

some_same : {A : Type 0} (x y : A) → Some x ≡ Some y → x ≡ y
some_same x y e = cc e

append_none : {A : Type 0} (xs : List A) → xs ≡ xs ++ []
append_none [] = refl
append_none (x ∷ xs) = ap (λ ys. x ∷ ys) (append_none xs)

-- a segment up to the end is a chain
segment_chain : (s : State) (i : ℕ) (from : Option Tid) (rows : List TaskRow) → IsSegment s i from rows None
    → IsChain s i from rows
segment_chain s i None [] is = tt
segment_chain s i (Some k) [] is = absurd (cc is)
segment_chain s i None (row ∷ rows) is = absurd is
segment_chain s i (Some k) (row ∷ rows) (t, live, made, rest) =
    (t, live, made, segment_chain s i t.scheduling rows rest)

-- one task more
segment_more : (s : State) (i : ℕ) (from : Option Tid) (rows : List TaskRow) (k : Tid) (t : Task)
    → IsSegment s i from rows (Some k) → task_of s k ≡ Some t
    → IsSegment s i from (rows ++ task_row i k t ∷ []) t.scheduling
segment_more s i None [] k t is live = absurd (cc is)
segment_more s i (Some j) [] k t is live =
    let same : j ≡ k = some_same j k is in
    (t, ap (task_of s) same ∙ live, ap (λ (n : Tid). task_row i n t) (sym same), refl)
segment_more s i None (row ∷ rows) k t is live = absurd is
segment_more s i (Some j) (row ∷ rows) k t (u, there, made, rest) live =
    (u, there, made, segment_more s i u.scheduling rows k t rest live)

name_at : (at : Option Tid) (n : Id) → option_map (λ (k : Tid). k.0) at ≡ Some n → at ≡ Some (task_name n)
name_at None n e = absurd (cc e)
name_at (Some k) n e = let same : k.0 ≡ n = some_same k.0 n e in ap (λ (m : Id). Some (task_name m)) same

-- what follows a live task
follows : (s : State) (k : Tid) (t : Task) → task_of s k ≡ Some t → scheduling_of s k ≡ t.scheduling
follows s k t live = ap (option_and_then (λ (u : Task). u.scheduling)) live

pub walk_begins : (s : State) (i : ℕ) (old : List TaskRow) (met : List (Option Id)) → i < s.count
    → ((n : Id) → WasMet met n → ⊥) → IsWalked s i old old met (s.threads i).current
walk_begins s i old met within none = record {
  segment = ([], append_none old, refl);
  lead = λ n was. absurd (none n was);
  visible = λ right k is. right.currents i k within is;
}

module _ (s : State) (i : ℕ) (old rows : List TaskRow) (met : List (Option Id)) (at : Option Tid)
    (walked : IsWalked s i old rows met at) where
  pub walk_more : (after : List (Option Id)) (n : Id) (t : Task) → option_map (λ (k : Tid). k.0) at ≡ Some n
      → task_of s (task_name n) ≡ Some t
      → ((m : Id) → WasMet after m → WasMet met m ⊎ (m ≡ n)) → IsWalked s i old (rows ++ task_row i (task_name n) t ∷ []) after t.scheduling
  walk_more after n t named live only = record {
    segment = (
      walked.segment.0 ++ task_row i (task_name n) t ∷ [],
      ap (λ xs. xs ++ task_row i (task_name n) t ∷ []) walked.segment.1 ∙ append_assoc old walked.segment.0 (task_row i (task_name n) t ∷ []),
      segment_more s i (s.threads i).current walked.segment.0 (task_name n) t (subst (IsSegment s i (s.threads i).current walked.segment.0) here walked.segment.2) live,
    );
    lead = λ m was. leads m (only m was);
    visible = λ right k is. (subst (IsTaskRight s) (same_task right) (right.tasks (task_name n) (seen right))).scheduling k is;
  }
    where
      here : at ≡ Some (task_name n)
      here = name_at at n named

      seen : IsWellFormed s → IsVisibleTask s (task_name n)
      seen right = walked.visible right (task_name n) here

      same_task : (right : IsWellFormed s) → (seen right).task ≡ t
      same_task right = some_same (seen right).task t (sym (seen right).live ∙ live)

      leads : (m : Id) → WasMet met m ⊎ (m ≡ n)
          → (u : Task) × (steps : ℕ) × (task_of s (task_name m) ≡ Some u) × (along (scheduling_of s) (suc steps) (Some (task_name m)) ≡ t.scheduling)
      leads m (inl was) =
          let (u, steps, there, on) = walked.lead m was in
          (u, suc steps, there, along_more (scheduling_of s) (suc steps) (Some (task_name m)) ∙ ap (option_and_then (scheduling_of s)) (on ∙ here) ∙ follows s (task_name n) t live)
      leads m (inr same) =
          (t, 0, ap (λ (j : Id). task_of s (task_name j)) same ∙ live, ap (λ (j : Id). scheduling_of s (task_name j)) same ∙ follows s (task_name n) t live)

  pub walk_ends : Stops s.tasks met (option_map (λ (k : Tid). k.0) at) → IsWellFormed s
      → IsChainAdded s i old rows
  walk_ends stops right = go at refl stops
    where
      chain : at ≡ None → IsChainAdded s i old rows
      chain e =
          (walked.segment.0, walked.segment.1, segment_chain s i (s.threads i).current walked.segment.0 (subst (IsSegment s i (s.threads i).current walked.segment.0) e walked.segment.2))

      refuted : (k : Tid) → at ≡ Some k → (task_of s k ≡ None) ⊎ IsMetSlot met k.0 → ⊥
      refuted k e (inl dead) =
          let clash : None ≡ Some (walked.visible right k e).task = sym dead ∙ (walked.visible right k e).live in cc clash
      refuted k e (inr (m, was, creators, slots)) =
          let (u, steps, there, on) = walked.lead m was in
          let seen = walked.visible right k e in
          let same : m ≡ k.0 = one_name s.tasks m k.0 u seen.task there seen.live creators slots in
          let back : along (scheduling_of s) (suc steps) (Some k) ≡ Some k =
          ap (λ (j : Id). along (scheduling_of s) (suc steps) (Some (task_name j))) (sym same) ∙ on ∙ e in
          let ends = (right.tasks k seen).ends in
          never_back (scheduling_of s) steps k back
          (suc ends.0, ap (along (scheduling_of s) ends.0) (follows s k seen.task seen.live) ∙ ends.1)

      go : (o : Option Tid) → at ≡ o → Stops s.tasks met (option_map (λ (k : Tid). k.0) o)
          → IsChainAdded s i old rows
      go None e stops = chain e
      go (Some k) e stops = absurd (refuted k e stops)
