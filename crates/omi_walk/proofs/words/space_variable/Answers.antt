use Rattle.std.specs.FinMap.{get}
use Rattle.omi_icv.specs.declared.scoped.Scoped.TheVariants as scoped
use Rattle.omi_icv.specs.Icvs.{icv_from_scope}
use Rattle.std.proofs.Common.{None, refl}
use Rattle.omi_walk.specs.Fault.{walked}
use Rattle.omi_walk.proofs.Goes.{of_answers}
use Rattle.omi_walk.specs.AskWords.{ask_space}
use Rattle.omi_walk.proofs.words.space_variable.Goals as goal

-- reads: what was asked

pub returns-clause-reads : goal.returns-clause-reads
unfolding ask_space icv_from_scope
returns-clause-reads g c =
    of_answers g.C.Callbacks.told g.C.Callbacks.asked c.args.s.now _ c.get_icv_from_scope-answer.result _
    (walked None) (icv_from_scope c.args.s.now.layout (get c.args.s.now.handles.held) scoped.Space c.args.icv)
    refl c.walked_from.ensures c.get_icv_from_scope-answer.ensures.answer
