use Rattle.std.proofs.Common.{◌∙◌, ap, sym, subst}
use Rattle.omi_model.specs.Changes.{with_ahead, with_list}
use Rattle.omi_model.specs.State.{State}
use Rattle.omi_model.specs.declared.item.Item.{Item}
use Rattle.omi_machine.specs.Kept.{state_of}
use Rattle.omi_machine.specs.Needs.{Needs}
use Rattle.omi_machine.proofs.AfterEvents.{after_is, fits_is, item_is, needs_moved}
use Rattle.omi_machine.proofs.after_event.after.Goals as goal

pub take_effect-requires-clause-needs : goal.take_effect-requires-clause-needs
take_effect-requires-clause-needs c =
    let item =
    item_is c.args.p.now
    (state_of c.args.s.now) c.args.thread c.args.e.now c.requires _ _ c.in_ok-moved.moved c.encounter.ensures c.ahead_of-frees.ensures c.in_ok-moved.ensures c.in-Some.x c.in-Some.list c.in-Some.is in
    subst (λ (s : State). Needs s c.args.thread c.args.e.now c.in-Some.x)
    (sym c.exchange_ahead-old_frees.ensures.after)
    (subst (λ (x : Item). Needs (with_list (state_of c.args.s.now) c.args.thread c.in-Some.list) c.args.thread c.args.e.now x) (sym item)
    (needs_moved (state_of c.args.s.now) c.args.thread c.in-Some.list c.args.e.now c.requires.item c.requires.rule))

pub take_effect-requires-clause-taken : goal.take_effect-requires-clause-taken
take_effect-requires-clause-taken c =
    fits_is c.args.p.now
    (state_of c.args.s.now) c.args.thread c.args.e.now c.requires _ _ c.in_ok-moved.moved c.encounter.ensures c.ahead_of-frees.ensures c.in_ok-moved.ensures c.in-Some.x c.in-Some.list c.in-Some.is

pub returns-in-Ok-clause-done : goal.returns-in-Ok-clause-done
returns-in-Ok-clause-done c =
    sym
    (after_is c.args.p.now (state_of c.args.s.now) c.args.thread c.args.e.now c.requires _ _ c.in_ok-moved.moved c.encounter.ensures c.ahead_of-frees.ensures c.in_ok-moved.ensures c.in-Some.x c.in-Some.list c.in-Some.is (state_of c.exchange_ahead-old_frees.new.s) c.exchange_ahead-old_frees.ensures.after)
    ∙ c.in-Ok.ensures.done

pub returns-in-Err-clause-refused : goal.returns-in-Err-clause-refused
returns-in-Err-clause-refused c =
    c.exchange_ahead.ensures.after
    ∙ ap (λ (s : State). with_ahead s c.args.thread c.exchange_ahead-old_frees.result.0 c.exchange_ahead-old_frees.result.1) c.in-Err.ensures.refused
    ∙ c.exchange_ahead-old_frees.ensures.back
