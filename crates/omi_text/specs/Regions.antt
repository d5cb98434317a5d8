-- The lines of a region: the region, and its members.
use Rattle.std.specs.Prelude.{ℕ, ◌+◌, List, [], ◌∷◌, ◌++◌, codes}
use Rattle.std.specs.Fmt.{decimal}
use Rattle.omi_model.specs.declared.view.RegionRow.{RegionRow}
use Rattle.omi_model.specs.declared.view.MemberRow.{MemberRow}
use Rattle.omi_text.specs.Ids.{region_id, task_id}
use Rattle.omi_text.specs.Lines.{line, named_value, or_none}
use Rattle.omi_text.specs.Numbers.{hexadecimal}

-- region R function F levels-var=L active-levels-var=A team-size-var=S enclosing E
unfoldable pub region_line : RegionRow → List ℕ
region_line r = line
    (codes "region" ∷ region_id r.region
    ∷ codes "function" ∷ hexadecimal r.func
    ∷ named_value (codes "levels-var") (decimal r.levels)
    ∷ named_value (codes "active-levels-var") (decimal r.active)
    ∷ named_value (codes "team-size-var") (decimal r.size)
    ∷ codes "enclosing" ∷ or_none region_id r.enclosing
    ∷ [])

-- member J thread I task K
unfoldable pub member_line : ℕ → MemberRow → List ℕ
member_line number m = line
    (codes "member" ∷ decimal number ∷ codes "thread" ∷ decimal m.thread ∷ codes "task"
    ∷ task_id m.task ∷ [])

-- the lines of members, of which the first has this number
abbrev pub member_lines : ℕ → List MemberRow → List ℕ
member_lines number [] = []
member_lines number (m ∷ ms) = member_line number m ++ member_lines (number + 1) ms

-- a region, followed by its members from 0 on
abbrev pub region_lines : RegionRow → List ℕ
region_lines r = region_line r ++ member_lines 0 r.members
