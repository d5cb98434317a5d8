use Rattle.std.proofs.Common.{◌≡◌, ◌-◌, length, drop}
use Rattle.omi_model.specs.Rows.{body_items}
use Rattle.omi_machine.proofs.first_lists.push_body.Given as goal

-- the last statements stand in front
abbrev pub invariant-loop-k : goal.invariant-loop-k
invariant-loop-k l = l.list ≡ body_items (drop (length l.body - l.k) l.body) l.fn.list
