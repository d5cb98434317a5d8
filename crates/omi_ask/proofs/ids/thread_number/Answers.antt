use Rattle.std.proofs.Common.{◌≡◌, ap, arith}
use Rattle.std.specs.Prelude.{Ok, Err}
use Rattle.omi_handle.specs.declared.handle.Kind.TheVariants.{Thread}
use Rattle.omi_model.specs.declared.id.Id.{Id}
use Rattle.omi_session.proofs.ShownNames.{name_told}
use Rattle.omi_ask.proofs.ids.thread_number.Goals as goal

pub returns-in_err-name-clause-shown : goal.returns-in_err-name-clause-shown
returns-in_err-name-clause-shown g c = λ s shown t.
    let clash = name_told c.args.s.now.layout shown.valid Thread (record { creator = t.thread; slot = 0; generation = 0 })
    (record { made_by = omega (arith, t.begun.known, shown.shows.within.count); within = omega arith }) _ t.is
    (Err c.in_err-name.field-0.0) c.in_err-name.ensures in
    absurd (cc clash)

pub returns-clause-shown : goal.returns-clause-shown
returns-clause-shown g c = λ s shown t.
    let same = name_told c.args.s.now.layout shown.valid Thread (record { creator = t.thread; slot = 0; generation = 0 })
    (record { made_by = omega (arith, t.begun.known, shown.shows.within.count); within = omega arith }) _ t.is
    (Ok c.in_ok-name.field-0) c.in_ok-name.ensures in
    let is : c.in_ok-name.field-0 ≡ record { creator = t.thread; slot = 0; generation = 0 } = cc same in
    ap (λ (n : Id). Ok n.creator) is
