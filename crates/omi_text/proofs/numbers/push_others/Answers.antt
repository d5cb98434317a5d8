use Rattle.std.proofs.Common.{◌∷◌}
use Rattle.std.specs.Prelude.{string_bytes}
use Rattle.std.specs.Fmt.{decimal}
use Rattle.omi_text.proofs.Rows.{flat_map_further}
use Rattle.omi_text.proofs.numbers.push_others.Goals as goal

pub loop-at-preserved : goal.loop-at-preserved
loop-at-preserved c =
    flat_map_further (λ n. 44 ∷ decimal n)
    (string_bytes c.loop-at.text) c.args.list.now c.loop-at.at c.get.result.now _ _
    c.get.ensures c.in_ok-write.ensures.bytes c.loop-at.invariant
