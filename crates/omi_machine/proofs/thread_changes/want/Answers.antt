use Rattle.std.proofs.Common.{List, [], ℕ, Bool, ap, ◌∙◌, slice_set}
use Rattle.omi_model.specs.declared.thread.Thread.{Thread}
use Rattle.omi_machine.proofs.StateChanges.{thread_changed}
use Rattle.omi_machine.proofs.thread_changes.want.Goals as goal

pub returns : goal.returns
returns c =
    let h : Thread = c.exchange-h.result in
    let back =
    c.exchange.ensures.after
    ∙ ap
    (λ (asks : List (ℕ × Bool)). slice_set c.exchange-h.new.self c.args.i (record h { wanted = c.args.wanted; asks = asks })) c.new.ensures in
    thread_changed c.args.s.now _ _ c.args.i _ _
    (λ h. record h { wanted = c.args.wanted; asks = [] }) c.requires c.exchange-h.ensures.before c.exchange-h.ensures.after back
