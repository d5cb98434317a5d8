-- Looks one after the other.
use Rattle.std.proofs.Common.{◌≡◌, ap, ◌∙◌}
use Rattle.std.specs.Prelude.{Ok}
use Rattle.omi_rep.specs.Look.{Look, and_then}

-- a look that gives something, and then another
pub step : {A B : Type 0} (look : Look A) (more : A → Look B) (x : A) (y : Look B) → look ≡ Ok x → more x ≡ y
    → and_then look more ≡ y
unfolding and_then
step look more x y is next = ap (λ l. and_then l more) is ∙ next
