-- What the parser counts above a line.
use Rattle.std.specs.Prelude.{◌≡◌, ℕ, ◌≤◌, ◌+◌, List, length, sum_by, Option}
use Rattle.std.specs.Option.{option_map_or, option_to_list}
use Rattle.omi_script.specs.declared.function.Func.{Func}
use Rattle.omi_script.specs.declared.limits.TheConstants.{MAX_FUNCTIONS}

-- the count of statements is right, and there are not too many functions with the one that is open
pub record AreCounted (closed : List Func) (statements : ℕ) (opened : Option Func) : Type 0 where
  pub count : statements
      ≡ sum_by (λ f. length f.body) closed + option_map_or (λ f. length f.body) opened 0
  pub room : length closed + length (option_to_list opened) ≤ MAX_FUNCTIONS
