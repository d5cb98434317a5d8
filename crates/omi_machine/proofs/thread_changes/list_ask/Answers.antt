use Rattle.std.proofs.Common.{rules, ◌≡◌, ◌++◌, ◌∷◌, ◌∙◌, [], List, Bool, ℕ, ap, slice_set}
use Rattle.omi_model.specs.declared.thread.Thread.{Thread}
use Rattle.omi_machine.proofs.StateChanges.{thread_changed}
use Rattle.omi_machine.proofs.thread_changes.list_ask.Goals as goal

pub returns-clause-done : goal.returns-clause-done
returns-clause-done c =
    let h : Thread = c.exchange-h.result in
    let added : c.push.new.self ≡ h.asks ++ (c.args.w, c.args.got) ∷ [] = search rules in
    let back =
    c.exchange-2.ensures.after
    ∙ ap
    (λ (asks : List (ℕ × Bool)). slice_set c.exchange-h.new.self c.args.i (record h { asks = asks })) added in
    thread_changed c.args.s.now _ _ c.args.i _ _
    (λ h. record h { asks = h.asks ++ (c.args.w, c.args.got) ∷ [] }) c.requires c.exchange-h.ensures.before c.exchange-h.ensures.after back
