-- How a line is made of words.
use Rattle.std.specs.Prelude.{ℕ, List, [], ◌∷◌, ◌++◌, codes, Option, Some, None}

-- a line: its words, with one space between them, and the line feed that ends it
abbrev pub line : List (List ℕ) → List ℕ
line [] = 10 ∷ []
line (word ∷ []) = word ++ 10 ∷ []
line (word ∷ next ∷ words) = word ++ 32 ∷ line (next ∷ words)

-- the word for a variable and its value
abbrev pub named_value : List ℕ → List ℕ → List ℕ
named_value name value = name ++ 61 ∷ value

-- what is printed of a value that need not be there
abbrev pub or_none : {A : Type 0} → (A → List ℕ) → Option A → List ℕ
or_none text None = codes "none"
or_none text (Some x) = text x
