use Rattle.std.proofs.Common.{arith}
use Rattle.std.proofs.lemmas.Result.{IfOk-weaker}
use Rattle.omi_rep.specs.Suits.{Suits}
use Rattle.omi_rewind_top.proofs.Turned.{image_fits, turned_first}
use Rattle.omi_rewind_top.proofs.turns.rewind_of.Goals as goal

pub opening-requires-clause-suits : goal.opening-requires-clause-suits
opening-requires-clause-suits c =
    c.families_suit.ensures c.args.p 0 c.args.layout.table (omega arith) c.requires

pub returns-clause-turned : goal.returns-clause-turned
returns-clause-turned c =
    IfOk-weaker c.opening.result _ _
    (λ rewind o. turned_first c.args.p c.args.layout.table rewind o c.requires c.args.layout.valid) c.opening.ensures

pub returns-clause-table : goal.returns-clause-table
returns-clause-table c = IfOk-weaker c.opening.result _ _ (λ rewind o. o.opens.table) c.opening.ensures

pub returns-clause-fits : goal.returns-clause-fits
returns-clause-fits c =
    let suits : Suits c.args.p c.args.layout.table =
    c.families_suit.ensures c.args.p 0 c.args.layout.table (omega arith) c.requires in
    IfOk-weaker c.opening.result _ _
    (λ rewind o. image_fits c.args.p c.args.layout.table rewind o suits) c.opening.ensures
