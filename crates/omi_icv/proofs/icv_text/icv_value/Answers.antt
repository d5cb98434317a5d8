use Rattle.std.specs.FinMap.{get}
use Rattle.omi_icv.specs.Icvs.{icv_value}
use Rattle.omi_icv.proofs.Scoping.{by_handle, value_scoped}
use Rattle.omi_icv.proofs.icv_text.icv_value.Goals as goal

pub returns-clause-answer : goal.returns-clause-answer
returns-clause-answer g c =
    by_handle (λ held of. icv_value c.args.s.now.layout held of c.args.icv)
    (value_scoped c.args.s.now.layout c.args.icv) (get c.args.s.now.handles.held) c.args.of
    c.found_of-found.ensures.value c.scope.ensures c.icv_value_of.ensures.answer
