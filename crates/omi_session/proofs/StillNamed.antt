-- Handles that are held still stand for records after a call.
use Rattle.std.proofs.Common.{◌≡◌, ◌≢◌, inl, inr, ℕ, cond, List, Option, Some, None, sym, ap, subst, ◌∙◌}
use Rattle.std.specs.Prelude.{Result, Ok, Err, IfOk, OnErr}
use Rattle.std.specs.Ordering.{eq_by_cmp}
use Rattle.std.specs.FinMap.{empty, get, insert, remove, get-empty, get-insert}
use Rattle.omi_handle.specs.declared.handle.Held.{Held}
use Rattle.omi_handle.specs.Ledger.{Ledger, pair_cmp}
use Rattle.omi_handle.proofs.HeldLemmas.{pair_cmp_total, one_of_both, others_removed, gone_removed}
use Rattle.omi_session.specs.Named.{IsNamed, AreNamed}

-- the same handles are
pub same_named : (w : List ℕ) (old new : Ledger) → AreNamed w old → new.held ≡ old.held → AreNamed w new
same_named w old new was same = record { each = λ pair h is. was.each pair h (ap (λ m. get m pair) (sym same) ∙ is) }

-- with one more that is named
added_named : (w : List ℕ) (old new : Ledger) (pair : ℕ × ℕ) (h : Held) → AreNamed w old → IsNamed w h
    → new.held ≡ insert old.held pair h → AreNamed w new
added_named w old new pair h was named added = record {
  each = λ other g is.
      elim (one_of_both (eq_by_cmp pair_cmp other pair)) [
        | inl same ↦
            let this : Some h ≡ Some g =
            ap (λ b. cond b (Some h) (get old.held other)) (sym same)
            ∙ sym (get-insert pair_cmp_total old.held pair h other)
            ∙ ap (λ m. get m other) (sym added)
            ∙ is in
            let one : h ≡ g = cc in
            subst (IsNamed w) one named
        | inr apart ↦
            was.each other g
            (ap (λ b. cond b (Some h) (get old.held other)) (sym apart) ∙ sym (get-insert pair_cmp_total old.held pair h other) ∙ ap (λ m. get m other) (sym added) ∙ is)
      ];
}

-- after a handle was made, or was not
pub made_named : {E : Type 0} (w : List ℕ) (old new : Ledger) (h : Held) (r : Result (ℕ × ℕ) E)
    → AreNamed w old → IsNamed w h
    → IfOk r (λ pair. new.held ≡ insert old.held pair h) → OnErr r (new.held ≡ old.held) → AreNamed w new
made_named w old new h (Ok pair) was named added refused = added_named w old new pair h was named added
made_named w old new h (Err e) was named added refused = same_named w old new was refused

-- after a handle was let go
pub released_named : (w : List ℕ) (old new : Ledger) (pair : ℕ × ℕ) → AreNamed w old
    → new.held ≡ remove old.held pair → AreNamed w new
released_named w old new pair was removed = record {
  each = λ other g is.
      let there : get (remove old.held pair) other ≡ Some g = ap (λ m. get m other) (sym removed) ∙ is in
      let apart : other ≢ pair =
      λ same. (let none : ◌≡◌ {A = Option Held} (Some g) None = sym there ∙ ap (get (remove old.held pair)) same ∙ gone_removed old.held pair in cc) in
      was.each other g (sym (others_removed old.held pair other apart) ∙ there);
}

-- no handle stands for anything else
pub none_named : (w : List ℕ) (new : Ledger) → new.held ≡ empty → AreNamed w new
none_named w new none = record {
  each = λ pair h is.
      let never : ◌≡◌ {A = Option Held} (Some h) None = sym is ∙ ap (λ m. get m pair) none ∙ get-empty pair_cmp pair in absurd (cc);
}
