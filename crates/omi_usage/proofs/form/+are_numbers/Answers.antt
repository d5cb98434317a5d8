use Rattle.std.proofs.Common.{◌∙◌, ap, arith, List, ℕ, sym}
use Rattle.std.specs.Prelude.{is_some}
use Rattle.omi_line.specs.Number.{number_between}
use Rattle.omi_usage.proofs.Parts.{last_part, more_no, more_yes, no_room}
use Rattle.omi_usage.proofs.form.+are_numbers.Goals as goal

pub returns-then-many-eq0 : goal.returns-then-many-eq0
returns-then-many-eq0 t c = no_room c.args.many c.args.most c.args.word.now c.if-many-eq0.true

pub returns-then-is_some : goal.returns-then-is_some
returns-then-is_some t c =
    c.are_numbers.ensures
    ∙ more_yes c.args.word.now c.split_once.result c.split_once.ensures.cases c.args.many c.args.most (omega (arith, c.if-many-eq0.false))
    _ c.in-Some.is
    (sym
    (c.is_some.ensures ∙ ap is_some c.number_of.ensures
    ∙ ap (λ (b : List ℕ). is_some (number_between b 0 c.args.most)) c.as_bytes.ensures.value)
    ∙ c.if-is_some.true)

pub returns-else-is_some : goal.returns-else-is_some
returns-else-is_some t c =
    c.if-is_some.false
    ∙ more_no c.args.word.now c.split_once.result c.split_once.ensures.cases c.args.many c.args.most (omega (arith, c.if-many-eq0.false))
    _ c.in-Some.is
    (sym
    (c.is_some.ensures ∙ ap is_some c.number_of.ensures
    ∙ ap (λ (b : List ℕ). is_some (number_between b 0 c.args.most)) c.as_bytes.ensures.value)
    ∙ c.if-is_some.false)

pub returns-in-None : goal.returns-in-None
returns-in-None t c =
    c.is_some-in-None.ensures ∙ ap is_some c.number_of-in-None.ensures
    ∙ ap (λ (b : List ℕ). is_some (number_between b 0 c.args.most)) c.as_bytes-in-None.ensures.value
    ∙ last_part c.args.word.now c.split_once.result c.split_once.ensures.cases c.args.many c.args.most (omega (arith, c.if-many-eq0.false)) c.in-None.is
