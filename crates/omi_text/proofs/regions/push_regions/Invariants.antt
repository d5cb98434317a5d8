use Rattle.std.proofs.Common.{◌≡◌, ◌++◌, drop}
use Rattle.std.specs.Prelude.{string_bytes}
use Rattle.std.specs.List.{flat_map}
use Rattle.omi_text.specs.Regions.{region_lines}
use Rattle.omi_text.proofs.regions.push_regions.Given as goal

-- the lines so far, and those of the rows that are left
abbrev pub invariant-loop-at : goal.invariant-loop-at
invariant-loop-at l =
    string_bytes l.text ++ flat_map region_lines (drop l.at l.rows) ≡ string_bytes l.fn.text ++ flat_map region_lines l.rows
