use Rattle.std.proofs.Common.{◌+◌, refl}
use Rattle.std.specs.Prelude.{string_bytes}
use Rattle.omi_text.specs.Regions.{member_line, member_lines}
use Rattle.omi_text.proofs.Rows.{rows_further}
use Rattle.omi_text.proofs.regions.push_members.Goals as goal

pub loop-at-preserved : goal.loop-at-preserved
loop-at-preserved c =
    rows_further (member_lines c.loop-at.at) (member_lines (c.loop-at.at + 1))
    (member_line c.loop-at.at c.get.result.now)
    (string_bytes c.loop-at.text) c.args.rows.now c.loop-at.at c.get.result.now _ _
    (λ ys. refl) c.get.ensures c.in_ok-push_member.ensures c.loop-at.invariant
