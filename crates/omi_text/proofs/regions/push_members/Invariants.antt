use Rattle.std.proofs.Common.{◌≡◌, ◌++◌, drop}
use Rattle.std.specs.Prelude.{string_bytes}
use Rattle.omi_text.specs.Regions.{member_lines}
use Rattle.omi_text.proofs.regions.push_members.Given as goal

-- the lines so far, and those of the members that are left
abbrev pub invariant-loop-at : goal.invariant-loop-at
invariant-loop-at l =
    string_bytes l.text ++ member_lines l.at (drop l.at l.rows) ≡ string_bytes l.fn.text ++ member_lines 0 l.rows
