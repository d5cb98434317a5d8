-- The symbol table of a memory, read from its end.
use Rattle.std.proofs.Common.{◌≡◌, ℕ, zero, suc, ◌+◌, ◌-◌, ◌*◌, ◌≤◌, ◌<◌, Bool, true, false, cond, List, [], ◌∷◌, ◌++◌, length, replicate, drop, Option, Some, None, refl, sym, ap, ◌∙◌, arith}
use Rattle.std.specs.Prelude.{find, slice_index, nat_le}
use Rattle.std.proofs.lemmas.List.{drop-replicate}
use Rattle.std.proofs.lemmas.Bool.Decides.{nat_tests}
use Rattle.std.specs.Str.{bytes_eq}
use Rattle.std.specs.Int.{w64, to_le_bytes}
use Rattle.std.specs.Option.{option_map, option_and_then}
use Rattle.omi_word.specs.Words.{Words}
use Rattle.omi_word.specs.SymbolTable.{Symbol, words_from, symbol_of, symbols_from, symbols_in, symbol_in, is_named}

none_after : {A B : Type 0} (found : Option A) → option_and_then {U = B} (λ _. None) found ≡ None
none_after None = refl
none_after (Some x) = refl

-- where the symbols from some place on aren't mapped, all of them aren't
pub unmapped_behind : (words : Words) (addr here before more n : ℕ) → here ≡ addr + 40 * before
    → n ≡ before + more
    → symbols_from words here more ≡ None → symbols_from words addr n ≡ None
unmapped_behind words addr here zero more n at count none =
    let start : addr ≡ here = omega arith in
    let same : n ≡ more = omega arith in
    rw (start, same) none
unmapped_behind words addr here (suc before) more zero at count none = absurd (omega arith)
unmapped_behind words addr here (suc before) more (suc n) at count none =
    rw (unmapped_behind words (addr + 40) here before more n (omega arith) (omega arith) none)
    (none_after (words_from words addr 5))

-- where the next symbol isn't mapped, the table isn't
pub unmapped_table : (words : Words) (addr here before count : ℕ) → here ≡ addr + 40 * before → before < count
    → words_from words here 5 ≡ None → symbols_from words addr count ≡ None
unmapped_table words addr here before count at within none =
    unmapped_behind words addr here before (suc (count - suc before)) count at (omega arith) (rw none refl)

-- these symbols were read, and the first of them with the name was found
pub record Reads (words : Words) (name : List ℕ) (here more : ℕ) (found : Option ℕ) : Type 0 where
  pub symbols : List Symbol
  pub are : symbols_from words here more ≡ Some symbols
  pub first : found ≡ option_map (λ symbol. symbol.address) (find (is_named name) symbols)

pub reads_none : (words : Words) (name : List ℕ) (here : ℕ) → Reads words name here 0 None
reads_none words name here = record { symbols = []; are = refl; first = refl }

-- one symbol more was read
pub reads_more : (words : Words) (name five : List ℕ) (here next more n : ℕ) (found now : Option ℕ)
    → words_from words here 5 ≡ Some five
    → next ≡ here + 40 → n ≡ suc more → Reads words name next more found
    → now ≡ cond (is_named name (symbol_of five)) (Some (slice_index five 4)) found → Reads words name here n now
reads_more words name five here next more n found now there after count reads is = record {
  symbols = symbol_of five ∷ reads.symbols;
  are = rw (count, there) (rw (sym after, reads.are) refl);
  first = is ∙ by_name (is_named name (symbol_of five));
}
  where
    by_name : (b : Bool) → cond b (Some (slice_index five 4)) found
        ≡ option_map (λ symbol. symbol.address)
        (cond b (Some (symbol_of five)) (find (is_named name) reads.symbols))
    by_name true = refl
    by_name false = reads.first

-- the table of this many symbols
table_of : (words : Words) (count : ℕ) → words 65536 ≡ Some count → count ≤ 16
    → symbols_in words ≡ symbols_from words 65544 count
table_of words count counted few =
    let fits : nat_le count 16 ≡ true = grind (arith, nat_tests) in
    rw counted (rw fits refl)

-- the whole table was read
pub looked_up : (words : Words) (name : List ℕ) (count : ℕ) (found : Option ℕ) → words 65536 ≡ Some count
    → count ≤ 16
    → Reads words name 65544 count found → found ≡ symbol_in words name
looked_up words name count found counted few reads =
    reads.first
    ∙ sym
    (ap (option_and_then (λ symbols. option_map (λ symbol. symbol.address) (find (is_named name) symbols))) (table_of words count counted few ∙ reads.are))

-- a word of the table isn't mapped
pub not_mapped : (words : Words) (name : List ℕ) (count : ℕ) → words 65536 ≡ Some count → count ≤ 16
    → symbols_from words 65544 count ≡ None → None ≡ symbol_in words name
not_mapped words name count counted few none =
    sym
    (ap (option_and_then (λ symbols. option_map (λ symbol. symbol.address) (find (is_named name) symbols))) (table_of words count counted few ∙ none))

-- the four words of a name are its bytes
pub name_bytes : (words : List ℕ) → length words ≡ 5
    → (symbol_of words).name ≡ to_le_bytes w64 (slice_index words 0) ++ (to_le_bytes w64 (slice_index words 1) ++ (to_le_bytes w64 (slice_index words 2) ++ (to_le_bytes w64 (slice_index words 3) ++ [])))
name_bytes (a ∷ b ∷ c ∷ d ∷ e ∷ rest) is = refl
name_bytes (a ∷ b ∷ c ∷ d ∷ []) is = absurd (omega arith)
name_bytes (a ∷ b ∷ c ∷ []) is = absurd (omega arith)
name_bytes (a ∷ b ∷ []) is = absurd (omega arith)
name_bytes (a ∷ []) is = absurd (omega arith)
name_bytes [] is = absurd (omega arith)

-- a name that is filled up
pub filled_name : (name : List ℕ)
    → name ++ drop (length name) (replicate 32 0) ≡ name ++ replicate (32 - length name) 0
filled_name name = ap (λ (rest : List ℕ). name ++ rest) (drop-replicate (length name) 32 0)

-- the test of the stored bytes is the test of the name
pub told_name : (words name first second third fourth stored front filled : List ℕ) (b : Bool)
    → length words ≡ 5
    → first ≡ to_le_bytes w64 (slice_index words 0) → second ≡ to_le_bytes w64 (slice_index words 1)
    → third ≡ to_le_bytes w64 (slice_index words 2) → fourth ≡ to_le_bytes w64 (slice_index words 3)
    → stored ≡ first ++ (second ++ (third ++ (fourth ++ []))) → front ≡ name → filled ≡ front ++ drop (length name) (replicate 32 0)
    → b ≡ bytes_eq stored filled → b ≡ is_named name (symbol_of words)
told_name words name first second third fourth stored front filled b five is1 is2 is3 is4 all named fills is =
    let bytes : stored ≡ (symbol_of words).name =
    all ∙ (λ i. is1 i ++ (is2 i ++ (is3 i ++ (is4 i ++ [])))) ∙ sym (name_bytes words five) in
    let full =
    fills ∙ ap (λ (l : List ℕ). l ++ drop (length name) (replicate 32 0)) named ∙ filled_name name in
    is ∙ (λ i. bytes_eq (bytes i) (full i))
