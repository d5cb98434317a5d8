use Rattle.std.proofs.Common.{◌++◌, ◌∷◌, ◌∙◌, [], Bool, ap, sym, if◌then◌else◌}
use Rattle.omi_model.specs.Changes.{on_thread}
use Rattle.omi_machine.specs.Kept.{state_of}
use Rattle.omi_model.specs.State.{State}
use Rattle.omi_model.specs.declared.claim.Claim.TheVariants.{By}
use Rattle.omi_machine.proofs.thread_changes.ask.Goals as goal

pub returns-then-got-clause-done : goal.returns-then-got-clause-done
returns-then-got-clause-done c =
    let i = c.args.i in
    let w = c.args.w in
    let listed : State =
    on_thread (state_of c.args.s.now) i (λ h. record h { asks = h.asks ++ (w, c.args.got) ∷ [] }) in
    let claimed : State = on_thread listed w (λ h. record h { claim = By i }) in
    let joins = ap (λ (b : Bool). if b then claimed else listed) c.if-got.true in
    c.claim.ensures
    ∙ ap (λ (x : State). on_thread x w (λ h. record h { claim = By i })) c.in_ok-list_ask.ensures.done
    ∙ sym joins
