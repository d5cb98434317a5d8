use Rattle.std.proofs.Common.{◌∙◌, ap, sym}
use Rattle.omi_model.specs.declared.thread.Thread.{Thread}
use Rattle.omi_machine.proofs.StateChanges.{current_changed}
use Rattle.omi_machine.proofs.setting_changes.set_tool.Goals as goal

pub returns : goal.returns
returns c =
    let name = ap (λ (h : Thread). h.current) (sym c.thread.ensures) ∙ c.in-Some.is in
    current_changed c.args.s.now c.take_live.new.slots c.put_live.new.slots c.args.i c.in-Some.k _
    (λ k t u. record u { tool = c.args.x }) c.in-Some-take_live.t name c.in-Some-take_live.ensures.kept c.in-Some-take_live.ensures.found c.in-Some-take_live.ensures.taken c.put_live.ensures
