use Rattle.std.proofs.Common.{sym, subst}
use Rattle.std.specs.Prelude.{Contains}
use Rattle.omi_machine.specs.Kept.{state_of}
use Rattle.omi_machine_view.proofs.KnownThreads.{threads_known}
use Rattle.omi_machine_view.proofs.viewing.view_of.Goals as goal

pub region_rows-requires : goal.region_rows-requires
region_rows-requires c i among =
    threads_known (state_of c.args.s.now) c.args.contexts.now i
    (subst (λ xs. Contains xs i) c.in_ok-threads.ensures among)

pub chain_rows-requires : goal.chain_rows-requires
chain_rows-requires c i among =
    threads_known (state_of c.args.s.now) c.args.contexts.now i
    (subst (λ xs. Contains xs i) c.in_ok-threads.ensures among)
