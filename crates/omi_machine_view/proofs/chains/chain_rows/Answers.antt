use Rattle.std.proofs.Common.{◌++◌, ◌∷◌, [], sym, subst, arith}
use Rattle.omi_model.specs.Views.{AreChains}
use Rattle.omi_machine.specs.Kept.{state_of}
use Rattle.omi_machine_view.proofs.KnownThreads.{chains_more, element}
use Rattle.omi_machine_view.proofs.Takes.{one_more}
use Rattle.omi_machine_view.proofs.chains.chain_rows.Goals as goal

pub push_chain-requires : goal.push_chain-requires
push_chain-requires c =
    c.requires c.get.result.now (element c.args.threads.now c.loop-at.at c.get.result.now c.get.ensures)

pub loop-at-preserved : goal.loop-at-preserved
loop-at-preserved c right =
    let s = state_of c.args.s.now in
    let threads = c.args.threads.now in
    let i = c.get.result.now in
    subst (λ front. AreChains s front c.push_chain.new.rows)
    (sym (one_more threads c.loop-at.at i c.get.ensures))
    (chains_more s _ i c.loop-at.rows c.push_chain.new.rows (c.loop-at.invariant right) (c.in_ok-push_chain.ensures right))
