use Rattle.std.specs.FinMap.{get}
use Rattle.omi_session.proofs.Asked.{answers_is}
use Rattle.omi_icv.specs.StateWords.{tool_data}
use Rattle.omi_icv.proofs.Scoping.{by_handle, tool_scoped}
use Rattle.omi_icv.proofs.ShownInquiries.{tool_given}
use Rattle.omi_icv.proofs.tool.get_tool_data.Goals as goal

pub returns-clause-answer : goal.returns-clause-answer
returns-clause-answer g c =
    by_handle (tool_data c.args.s.now.layout) (tool_scoped c.args.s.now.layout) (get c.args.s.now.handles.held) c.args.of
    c.found_of-found.ensures.value c.scope.ensures c.tool_data_of.ensures.answer

pub returns-clause-shown : goal.returns-clause-shown
returns-clause-shown g c =
    tool_given (g.C.Callbacks.told c.args.s.now.table.calls) c.args.s.now.layout
    (get c.args.s.now.handles.held) c.args.of _ (answers_is (returns-clause-answer g c))
