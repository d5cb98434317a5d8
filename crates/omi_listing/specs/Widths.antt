-- The widths of columns in a list. No public clause cites this.
use Rattle.std.specs.Prelude.{◌≡◌, ◌<◌, ℕ, List, length, slice_index_or}
use Rattle.omi_listing.specs.Table.{width_at}

-- the width of a column
abbrev pub width_in : List ℕ → ℕ → ℕ
width_in widths at = slice_index_or widths at 0

-- these are the widths of the first columns
pub record AreWidths (widths : List ℕ) (table : List (List (List ℕ))) (columns : ℕ) : Type 0 where
  pub count : length widths ≡ columns
  pub each : (at : ℕ) → at < columns → width_in widths at ≡ width_at table at
