use Rattle.std.proofs.Common.{◌≡◌, ◌+◌, ◌*◌, ap, ◌∙◌, arith}
use Rattle.std.specs.Prelude.{is_err}
use Rattle.std.specs.Option.{ok_or}
use Rattle.omi_layout.specs.Named.{number}
use Rattle.omi_layout.specs.Table.{offset}
use Rattle.omi_session.specs.declared.rc.Rc.TheVariants.{Error}
use Rattle.omi_session.specs.Inquiry.{place_of, word_of}
use Rattle.omi_session.proofs.Asked.{asked_once, asked_failed, worked}
use Rattle.omi_session.proofs.asking.word.Goals as goal

pub returns-clause-answer : goal.returns-clause-answer
unfolding word_of
returns-clause-answer g c =
    let front =
    c.from.ensures ∙ c.offset.ensures ∙ (λ i. offset (c.layout.ensures i) (c.number-number.ensures.value i)) in
    let place : c.args.address + 8 * (c.from.result + c.args.at) ≡ place_of c.args.s.now.layout c.args.address c.args.field c.args.at =
    ap (λ x. c.args.address + 8 * (x + c.args.at)) front in
    let is : c.ok_or.result ≡ ok_or c.in-Ok.found (Error c.args.address c.number-number.result) =
    grind arith in
    asked_once (c.args.address + 8 * (c.from.result + c.args.at)) place c.peek.ensures.asked (worked c.in-Ok.is) (λ memory t.
    is ∙ ap (λ n. ok_or c.in-Ok.found (Error c.args.address n)) c.number-number.ensures.value
    ∙ ap (λ o. ok_or o (Error c.args.address (number c.args.field))) (c.in-Ok.ensures.word memory t ∙ ap memory place))

pub returns-in_default-clause-answer : goal.returns-in_default-clause-answer
unfolding word_of
returns-in_default-clause-answer g c =
    let front =
    c.from.ensures ∙ c.offset.ensures ∙ (λ i. offset (c.layout.ensures i) (c.number-number.ensures.value i)) in
    asked_failed (c.args.address + 8 * (c.from.result + c.args.at))
    (ap (λ x. c.args.address + 8 * (x + c.args.at)) front) c.peek.ensures.asked (ap is_err c.in_default.is)
