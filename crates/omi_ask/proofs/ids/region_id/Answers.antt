use Rattle.std.proofs.Common.{◌≡◌}
use Rattle.std.specs.Prelude.{Ok, Err}
use Rattle.omi_handle.specs.declared.handle.Kind.TheVariants.{Region}
use Rattle.omi_rep.proofs.Same.{region_slot}
use Rattle.omi_session.proofs.ShownNames.{name_told}
use Rattle.omi_ask.proofs.ids.region_id.Goals as goal

pub returns-in_err-name-clause-shown : goal.returns-in_err-name-clause-shown
returns-in_err-name-clause-shown g c = λ s shown r.
    let clash = name_told c.args.s.now.layout shown.valid Region r.name.0 (region_slot c.args.s.now.layout shown.memory shown.valid s shown.shows r.name r.seen) _ r.is (Err c.in_err-name.field-0.0) c.in_err-name.ensures in
    absurd (cc clash)

pub returns-clause-shown : goal.returns-clause-shown
returns-clause-shown g c = λ s shown r.
    let same = name_told c.args.s.now.layout shown.valid Region r.name.0 (region_slot c.args.s.now.layout shown.memory shown.valid s shown.shows r.name r.seen) _ r.is (Ok c.in_ok-name.field-0) c.in_ok-name.ensures in
    let is : c.in_ok-name.field-0 ≡ r.name.0 = cc same in
    λ i. Ok (record { 0 = is i })
