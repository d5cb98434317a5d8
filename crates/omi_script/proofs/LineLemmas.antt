-- The lines of a text, by the first.
use Rattle.std.proofs.Common.{◌≡◌, ℕ, ◌<◌, ◌+◌, suc, true, false, List, [], ◌∷◌, length, refl, sym, ap, ◌∙◌, arith, ⊎_elim, if◌then◌else◌, ◌==◌}
use Rattle.std.proofs.lemmas.Bool.{cases_lt}
use Rattle.std.proofs.lemmas.Bool.Decides.{nat_tests}
use Rattle.std.proofs.lemmas.List.{length-drop}
use Rattle.std.specs.List.{position_or_len, before_first, after_first, slice_split}
use Rattle.omi_script.specs.Lines.{is_line_feed, lines, without_last_empty}
use Rattle.omi_script.proofs.PieceLemmas.{cut_last, cut_first}

not_zero : (n : ℕ) → 0 < n → (n == 0) ≡ false
not_zero n l = grind (arith, nat_tests)

-- a piece that others stand behind is a line
piece_onto : (piece : List ℕ) (first : List ℕ) (more pieces : List (List ℕ)) → pieces ≡ first ∷ more
    → without_last_empty (piece ∷ pieces) ≡ piece ∷ without_last_empty pieces
piece_onto piece first more pieces e =
    ap (λ ps. without_last_empty (piece ∷ ps)) e ∙ sym (ap (λ ps. piece ∷ without_last_empty ps) e)

some_piece : (xs : List ℕ)
    → (first : List ℕ) × (more : List (List ℕ)) × (slice_split is_line_feed xs ≡ first ∷ more)
some_piece xs =
    ⊎_elim
    (λ h. (before_first is_line_feed xs, slice_split is_line_feed (after_first is_line_feed xs), cut_first is_line_feed xs h))
    (λ h. (xs, [], (cut_last is_line_feed xs h).0))
    (cases_lt (position_or_len is_line_feed xs) (length xs))

-- the lines of a text that is not empty, by the first
pub lines_step : (bytes : List ℕ) → 0 < length bytes
    → lines bytes ≡ before_first is_line_feed bytes ∷ lines (after_first is_line_feed bytes)
lines_step bytes some =
    ⊎_elim
    (λ h. let next = some_piece (after_first is_line_feed bytes) in
    ap without_last_empty (cut_first is_line_feed bytes h) ∙ piece_onto (before_first is_line_feed bytes) next.0 next.1 (slice_split is_line_feed (after_first is_line_feed bytes)) next.2)
    (λ h. let e = cut_last is_line_feed bytes h in
    ap without_last_empty e.0 ∙ ap (λ b. if b then [] else bytes ∷ []) (not_zero (length bytes) some) ∙ sym (ap (λ w. w ∷ lines (after_first is_line_feed bytes)) e.1 ∙ ap (λ a. bytes ∷ lines a) e.2))
    (cases_lt (position_or_len is_line_feed bytes) (length bytes))

-- an empty text has no line
pub lines_none : (bytes : List ℕ) → (length bytes == 0) ≡ true → lines bytes ≡ []
lines_none [] e = refl
lines_none (b ∷ bs) e = let no = not_zero (suc (length bs)) (omega arith) in absurd (cc (no, e))

-- what stands after the first line is shorter
pub after_shorter : (bytes : List ℕ) → 0 < length bytes
    → length (after_first is_line_feed bytes) < length bytes
after_shorter bytes some = let e = length-drop (position_or_len is_line_feed bytes + 1) bytes in omega arith
