use Rattle.std.proofs.Common.{◌≡◌, ◌∙◌, ap, sym, List, slice_set, Option}
use Rattle.std.specs.Prelude.{unwrap_or}
use Rattle.omi_model.specs.Changes.{on_thread}
use Rattle.omi_model.specs.Opening.{waiting_worker}
use Rattle.omi_model.specs.State.{State}
use Rattle.omi_model.specs.declared.item.Item.{Item}
use Rattle.omi_model.specs.declared.thread.Thread.{Thread}
use Rattle.omi_machine.specs.Kept.{state_of}
use Rattle.omi_machine.proofs.ChangesBack.{thread_back}
use Rattle.omi_machine.proofs.StateChanges.{thread_changed}
use Rattle.omi_machine.proofs.list_changes.exchange_in_thread.Goals as goal

pub returns-clause-after : goal.returns-clause-after
returns-clause-after c =
    let h : Thread = c.exchange-h.result in
    let back =
    c.exchange.ensures.after
    ∙ ap
    (λ (list : List Item). slice_set c.exchange-h.new.self c.args.i (record h { list = list })) c.replace-old.ensures.after in
    thread_changed c.args.s.now _ _ c.args.i _ _
    (λ h. record h { list = c.args.list }) c.requires c.exchange-h.ensures.before c.exchange-h.ensures.after back

pub returns-clause-back : goal.returns-clause-back
returns-clause-back c =
    let s : State = state_of c.args.s.now in
    let h : Thread = c.exchange-h.result in
    let was : s.threads c.args.i ≡ h =
    ap (λ (o : Option Thread). unwrap_or o waiting_worker) c.exchange-h.ensures.before in
    let list = c.replace-old.ensures.value ∙ ap (λ (x : Thread). x.list) (sym was) in
    ap (λ (x : State). on_thread x c.args.i (λ h. record h { list = c.replace-old.result }))
    (returns-clause-after c)
    ∙ thread_back s c.args.i (λ h. record h { list = c.args.list })
    (λ h. record h { list = c.replace-old.result })
    (ap (λ (old : List Item). record (s.threads c.args.i) { list = old }) list)
