-- The line of a row, cell by cell, and by widths in a list.
use Rattle.std.proofs.Common.{◌≡◌, ◌<◌, ◌≤◌, ◌+◌, ◌++◌, ℕ, List, [], ◌∷◌, drop, length, Some, refl, sym, ap, ap₂, subst, ◌∙◌, append_assoc, arith}
use Rattle.std.specs.Prelude.{All, slice_get}
use Rattle.std.proofs.lemmas.List.{drop_all, drop_more}
use Rattle.std.proofs.lemmas.Option.{get_or_from_slice_get, slice_get_within}
use Rattle.omi_text.proofs.Rows.{rows_left}
use Rattle.omi_listing.specs.Table.{filled, row_line, width_at}
use Rattle.omi_listing.specs.Widths.{AreWidths, width_in}

module _ (width : ℕ → ℕ) (row : List (List ℕ)) (old whole new : List ℕ) (at : ℕ) (cell : List ℕ)
    (here : slice_get row at ≡ Some cell) (so_far : old ++ row_line width at (drop at row) ≡ whole) where
  left : drop at row ≡ cell ∷ drop (at + 1) row
  left = rows_left row at cell here

  -- one more cell is added, which isn't the last
  pub cell_added : at + 1 < length row → new ≡ old ++ filled (width at) cell
      → new ++ row_line width (at + 1) (drop (at + 1) row) ≡ whole
  cell_added more told =
      let next = drop_more row (at + 1) [] more in
      ap₂ (λ t cells. t ++ row_line width (at + 1) cells) told next
      ∙ append_assoc old (filled (width at) cell) _
      ∙ ap (λ cells. old ++ row_line width at (cell ∷ cells)) (sym next)
      ∙ ap (λ cells. old ++ row_line width at cells) (sym left)
      ∙ so_far

  -- the last one is
  pub last_added : length row ≤ at + 1 → new ≡ old ++ cell → new ++ 10 ∷ [] ≡ whole
  last_added all told =
      ap (λ t. t ++ 10 ∷ []) told
      ∙ append_assoc old cell (10 ∷ [])
      ∙ ap (λ cells. old ++ row_line width at (cell ∷ cells)) (sym (drop_all (at + 1) row all))
      ∙ ap (λ cells. old ++ row_line width at cells) (sym left)
      ∙ so_far

-- widths that are the same give the same line
same_line : (f g : ℕ → ℕ) (at : ℕ) (row : List (List ℕ)) → ((k : ℕ) → at ≤ k → k < at + length row → f k ≡ g k)
    → row_line f at row ≡ row_line g at row
same_line f g at [] same = refl
same_line f g at (last ∷ []) same = refl
same_line f g at (cell ∷ next ∷ cells) same =
    ap₂ (λ w rest. filled w cell ++ rest) (same at (omega arith) (omega arith))
    (same_line f g (at + 1) (next ∷ cells) (λ k from below. same k (omega (arith, from)) (omega (arith, below))))

module _ (widths : List ℕ) (table : List (List (List ℕ))) (columns : ℕ) (are : AreWidths widths table columns)
    (few : All (λ row. length row ≤ columns) table) (at : ℕ) (row : List (List ℕ)) (here : slice_get table at ≡ Some row) where
  pub row_few : length row ≤ columns
  row_few =
      subst (λ (r : List (List ℕ)). length r ≤ columns) (get_or_from_slice_get table at row row here)
      (few at row (slice_get_within table at row here))

  -- the line of a row of the table
  pub line_told : row_line (width_in widths) 0 row ≡ row_line (width_at table) 0 row
  line_told =
      same_line (width_in widths) (width_at table) 0 row (λ k from below. are.each k (let few_here = row_few in omega (arith, below, few_here)))
