use Rattle.std.specs.Prelude.{codes}
use Rattle.omi_text.proofs.Teams.{with_word}
use Rattle.omi_text.proofs.Whole.{on_ok}
use Rattle.omi_text.proofs.events.push_team_line.Goals as goal

pub returns : goal.returns
returns c =
    on_ok c.push_members.result
    (with_word _ _ _ (codes "team") c.args.team.now c.in_ok-push_str.ensures.bytes) c.push_members.ensures
