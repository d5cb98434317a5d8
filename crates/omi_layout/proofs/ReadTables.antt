-- A layout table is read word by word.
use Rattle.std.proofs.Common.{◌≡◌, ℕ, suc, ◌+◌, ◌*◌, ◌<◌, List, [], ◌∷◌, length, Some, ap, subst, refl, ◌∙◌, arith}
use Rattle.std.specs.Prelude.{slice_index}
use Rattle.std.specs.Option.{option_map, option_and_then}
use Rattle.omi_word.specs.Words.{Words}
use Rattle.omi_word.specs.SymbolTable.{words_from}
use Rattle.omi_layout.specs.declared.limits.TheConstants.{TABLE_WORDS}
use Rattle.omi_layout.specs.Given.{wrapped}
use Rattle.omi_layout.specs.NoLayout.{table_address}

-- words that are mapped one after the other are read
read_words : (f : Words) (xs : List ℕ) (a : ℕ)
    → ((j : ℕ) → j < length xs → f (a + 8 * j) ≡ Some (slice_index xs j))
    → words_from f a (length xs) ≡ Some xs
read_words f [] a each = refl
read_words f (x ∷ xs) a each =
    let here : a ≡ a + 8 * 0 = omega arith in
    let more : words_from f (a + 8) (length xs) ≡ Some xs =
    read_words f xs (a + 8)
    (λ j h. let next : (a + 8) + 8 * j ≡ a + 8 * suc j = omega arith in ap f next ∙ each (suc j) (omega arith)) in
    ap
    (option_and_then (λ (word : ℕ). option_map (λ (rest : List ℕ). word ∷ rest) (words_from f (a + 8) (length xs))))
    (ap f here ∙ each 0 (omega arith))
    ∙ ap (option_map (λ (rest : List ℕ). x ∷ rest)) more

-- the whole table was read
pub table_read : (words : Words) (address : ℕ) (table : List ℕ) → length table ≡ TABLE_WORDS
    → ((j : ℕ) → j < TABLE_WORDS → words (table_address address j) ≡ Some (slice_index table j)) → words_from (wrapped words) address TABLE_WORDS ≡ Some table
table_read words address table long each =
    subst (λ n. words_from (wrapped words) address n ≡ Some table) long
    (read_words (wrapped words) table address (λ j h. each j (omega (arith, h, long))))
