-- The text of a table: each row is a line, and each column is as wide as its widest cell.
use Rattle.std.specs.Prelude.{ℕ, ◌+◌, ◌-◌, max, List, [], ◌∷◌, ◌++◌, length, replicate, codes, slice_get, unwrap_or}
use Rattle.std.specs.List.{flat_map, fold}

-- how long the cell at a place is, where there is one
abbrev pub length_at : List (List ℕ) → ℕ → ℕ
length_at row at = length (unwrap_or (slice_get row at) [])

-- the width of a column: the greatest length of its cells
abbrev pub width_at : List (List (List ℕ)) → ℕ → ℕ
width_at table at = fold (λ width row. max width (length_at row at)) 0 table

-- a cell that is filled up with spaces to its column's width, and two spaces between it and the next one
abbrev pub filled : ℕ → List ℕ → List ℕ
filled width cell = cell ++ (replicate (width - length cell) 32 ++ codes "  ")

-- the line of a row, whose first cell stands in this column. The last cell isn't filled up
abbrev pub row_line : (ℕ → ℕ) → ℕ → List (List ℕ) → List ℕ
row_line width at [] = 10 ∷ []
row_line width at (last ∷ []) = last ++ 10 ∷ []
row_line width at (cell ∷ next ∷ cells) = filled (width at) cell ++ row_line width (at + 1) (next ∷ cells)

abbrev pub table_text : List (List (List ℕ)) → List ℕ
table_text table = flat_map (row_line (width_at table) 0) table
