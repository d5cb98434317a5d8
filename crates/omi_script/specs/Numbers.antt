-- Words that are numbers: decimal digits without a leading 0 but for 0 itself.
use Rattle.std.specs.Prelude.{ℕ, Bool, not, ◌&&◌, ◌||◌, nat_le, slice_index, ◌+◌, ◌-◌, ◌*◌, ◌==◌, List, [], ◌∷◌, length, map, Option, Some, None, option_and_then, option_map, if◌then◌else◌}
use Rattle.std.specs.List.{list_all, slice_split}
use Rattle.omi_script.specs.Names.{is_within, is_digit}
use Rattle.omi_script.specs.declared.limits.TheConstants.{MAX_SIZE, MAX_SIZES}

-- the word is a number
abbrev pub is_decimal : List ℕ → Bool
is_decimal word =
    nat_le 1 (length word)
    && list_all is_digit word
    && (length word == 1 || not (slice_index word 0 == 48))

-- the number that digits stand for, behind digits that stand for n
abbrev pub value_after : ℕ → List ℕ → ℕ
value_after n [] = n
value_after n (b ∷ word) = value_after (n * 10 + (b - 48)) word

abbrev pub value_of : List ℕ → ℕ
value_of word = value_after 0 word

-- the number that a word is, where it lies in a range
abbrev pub number_of : ℕ → ℕ → List ℕ → Option ℕ
number_of least most word =
    if is_decimal word && is_within least most (value_of word) then Some (value_of word) else None

-- the elements, where each is there
abbrev pub each_of : List (Option ℕ) → Option (List ℕ)
each_of [] = Some []
each_of (n ∷ ns) = option_and_then (λ m. option_map (λ ms. m ∷ ms) (each_of ns)) n

abbrev pub is_comma : ℕ → Bool
is_comma b = b == 44

-- the pieces of what stands behind a comma, if there is one
abbrev pub items_left : Option (List ℕ) → List (List ℕ)
items_left None = []
items_left (Some rest) = slice_split is_comma rest

-- the numbers that are joined by commas, where each lies in a range
abbrev pub numbers_of : ℕ → ℕ → List ℕ → Option (List ℕ)
numbers_of least most word = each_of (map (number_of least most) (slice_split is_comma word))

-- the element list of nthreads-var: 1 to `MAX_SIZES` numbers, each 1 to `MAX_SIZE`
abbrev pub sizes_of : List ℕ → Option (List ℕ)
sizes_of word =
    option_and_then
    (λ ns. if nat_le (length ns) MAX_SIZES then Some ns else None)
    (numbers_of 1 MAX_SIZE word)
