-- How numbers, and lists of them, are printed.
use Rattle.std.specs.Prelude.{ℕ, false, List, ◌∷◌, ◌++◌, codes, map}
use Rattle.std.specs.Fmt.{decimal, digits}
use Rattle.std.specs.List.{join_with_byte, flat_map}

-- in hexadecimal, as addresses are printed: `0x` and lower-case hexadecimal digits without leading zeros
unfoldable pub hexadecimal : ℕ → List ℕ
hexadecimal n = codes "0x" ++ digits 16 false n

-- numbers in decimal, joined by commas
unfoldable pub decimals : List ℕ → List ℕ
decimals ns = join_with_byte 44 (map decimal ns)

-- numbers in decimal, each behind a comma
abbrev pub after_commas : List ℕ → List ℕ
after_commas ns = flat_map (λ n. 44 ∷ decimal n) ns
