use Rattle.std.specs.FinMap.{get}
use Rattle.omi_session.proofs.Asked.{answers_is}
use Rattle.omi_icv.specs.Icvs.{icv_from_scope}
use Rattle.omi_icv.proofs.Scoping.{by_handle, number_scoped}
use Rattle.omi_icv.proofs.ShownInquiries.{number_given}
use Rattle.omi_icv.proofs.icv.get_icv_from_scope.Goals as goal

pub returns-clause-answer : goal.returns-clause-answer
returns-clause-answer g c =
    by_handle (λ held of. icv_from_scope c.args.s.now.layout held of c.args.icv)
    (number_scoped c.args.s.now.layout c.args.icv) (get c.args.s.now.handles.held) c.args.of
    c.found_of-found.ensures.value c.scope.ensures c.icv_number_of.ensures.answer

pub returns-clause-shown : goal.returns-clause-shown
returns-clause-shown g c =
    number_given (g.C.Callbacks.told c.args.s.now.table.calls) c.args.s.now.layout
    (get c.args.s.now.handles.held) c.args.of c.args.icv _ (answers_is (returns-clause-answer g c))
