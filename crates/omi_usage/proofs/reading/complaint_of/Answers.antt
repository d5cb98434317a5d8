use Rattle.std.proofs.Common.{◌∙◌, ap, map, string_bytes}
use Rattle.std.specs.Option.{is_none}
use Rattle.omi_usage.specs.Form.{CommandForm, form_of}
use Rattle.omi_usage.specs.Reading.{complaint_about}
use Rattle.omi_usage.proofs.Silent.{silent_of}
use Rattle.omi_usage.proofs.reading.complaint_of.Goals as goal

pub returns-clause-first : goal.returns-clause-first
returns-clause-first c =
    c.first_complaint.ensures
    ∙ ap (λ (form : CommandForm). complaint_about form (map string_bytes c.args.words.now)) c.form_in.ensures

pub returns-clause-silent : goal.returns-clause-silent
returns-clause-silent c =
    ap is_none (c.first_complaint.ensures
    ∙ ap (λ (form : CommandForm). complaint_about form (map string_bytes c.args.words.now)) c.form_in.ensures)
    ∙ silent_of (map form_of c.args.forms.now) (map string_bytes c.args.words.now)
