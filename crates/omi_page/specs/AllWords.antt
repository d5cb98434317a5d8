-- Words of which each may be missing.
use Rattle.std.specs.Prelude.{ℕ, List, [], ◌∷◌, Option, Some}
use Rattle.std.specs.Option.{option_map, option_and_then}

-- all of them, where each is there
abbrev pub all_words : List (Option ℕ) → Option (List ℕ)
all_words [] = Some []
all_words (word ∷ words) = option_and_then (λ first. option_map (λ more. first ∷ more) (all_words words)) word
