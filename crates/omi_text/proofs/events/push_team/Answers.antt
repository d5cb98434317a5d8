use Rattle.std.specs.Prelude.{◌∷◌, string_bytes}
use Rattle.omi_text.specs.Events.{member_word}
use Rattle.omi_text.proofs.Rows.{flat_map_further}
use Rattle.omi_text.proofs.events.push_team.Goals as goal

pub loop-at-preserved : goal.loop-at-preserved
loop-at-preserved c =
    flat_map_further (λ m. 32 ∷ member_word m)
    (string_bytes c.loop-at.text) c.args.team.now c.loop-at.at c.get-thread.result _ _
    c.get-thread.ensures c.in_ok-push_member.ensures c.loop-at.invariant
