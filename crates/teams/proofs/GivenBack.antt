-- Handles that are made and given back, in whatever order.
use Rattle.std.proofs.Common.{◌≡◌, ℕ, Bool, true, false, cond, Option, None, refl, sym, ap, ◌∙◌}
use Rattle.std.specs.Ordering.{eq_by_cmp}
use Rattle.std.specs.FinMap.{FinMap, get, insert, remove, get-remove, same_map}
use Rattle.omi_handle.specs.declared.handle.Held.{Held}
use Rattle.omi_handle.specs.Ledger.{pair_cmp}
use Rattle.omi_handle.proofs.HeldLemmas.{pair_cmp_total, pair_cmp_antisymmetric}
use Rattle.omi_walk.proofs.Names.{restored}

either : (x y : Bool) (o : Option Held) → cond x None (cond y None o) ≡ cond y None (cond x None o)
either true true o = refl
either true false o = refl
either false true o = refl
either false false o = refl

in_turn : (held : FinMap pair_cmp Held) (a b : ℕ × ℕ) → remove (remove held a) b ≡ remove (remove held b) a
in_turn held a b = same_map pair_cmp_total pair_cmp_antisymmetric _ _ (λ other.
    get-remove pair_cmp_total (remove held a) b other
    ∙ ap (λ (o : Option Held). cond (eq_by_cmp pair_cmp other b) None o) (get-remove pair_cmp_total held a other)
    ∙ either (eq_by_cmp pair_cmp other b) (eq_by_cmp pair_cmp other a) (get held other)
    ∙ sym (ap (λ (o : Option Held). cond (eq_by_cmp pair_cmp other a) None o) (get-remove pair_cmp_total held b other))
    ∙ sym (get-remove pair_cmp_total (remove held b) a other))

-- one handle is made, another is given back, and then the one
pub given_back : (held : FinMap pair_cmp Held) (other pair : ℕ × ℕ) (h : Held) → get held pair ≡ None
    → remove (remove (insert held pair h) other) pair ≡ remove held other
given_back held other pair h unheld =
    in_turn (insert held pair h) other pair ∙ ap (λ m. remove m other) (restored held pair h unheld)
