use Rattle.std.proofs.Common.{◌≡◌, ap, ◌∙◌, arith}
use Rattle.std.specs.Option.{ok_or}
use Rattle.omi_session.specs.declared.rc.Rc.TheVariants.{BadInput}
use Rattle.omi_session.proofs.Asked.{asked_then, asked_answer, refused_then}
use Rattle.omi_c.specs.ControlVars.{control_var}
use Rattle.omi_c.proofs.variables.shown_at.Goals as goal

pub returns-in_err-words : goal.returns-in_err-words
unfolding control_var
returns-in_err-words g c = refused_then _ c.in_err-words.ensures.answer c.from_residual.ensures.1

pub returns : goal.returns
unfolding control_var
returns g c =
    let is : c.ok_or.result ≡ ok_or c.display_text.result BadInput = grind arith in
    asked_then c.space_words.new.s _ c.in_ok-words.words c.space_words.ensures.same.table.same c.in_ok-words.ensures.answer
    (asked_answer (is ∙ ap (λ text. ok_or text BadInput) c.display_text.ensures))
