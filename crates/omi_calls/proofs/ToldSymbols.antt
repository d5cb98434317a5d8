-- The symbols that are told are one answer for each name.
use Rattle.std.proofs.Common.{◌≡◌, ℕ, List, Option, Some, None, sym, ap, ◌∙◌}
use Rattle.omi_calls.specs.Told.{Symbols}

pub same_symbols : (a b : Symbols) → (let some : Symbols → Option Symbols = λ s. Some s in some a ≡ some b) → a ≡ b
same_symbols a b e = ap (λ o. unwrapped o) e
  where
    unwrapped : Option Symbols → Symbols
    unwrapped (Some s) = s
    unwrapped None = a

-- what was found by one is what the other tells
pub told_symbol : (a b : Symbols) (name : List ℕ) (found : Option ℕ) → a name ≡ found → (let some : Symbols → Option Symbols = λ s. Some s in some a ≡ some b) → b name ≡ found
told_symbol a b name found is told = sym (ap (λ find. find name) (same_symbols a b told)) ∙ is
