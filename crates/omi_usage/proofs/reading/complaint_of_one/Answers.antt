use Rattle.std.proofs.Common.{◌∙◌, ap, map, string_bytes}
use Rattle.std.specs.Option.{is_none}
use Rattle.omi_usage.specs.Form.{form_of}
use Rattle.omi_usage.proofs.Silent.{silent_about}
use Rattle.omi_usage.proofs.reading.complaint_of_one.Goals as goal

pub returns-clause-silent : goal.returns-clause-silent
returns-clause-silent c =
    ap is_none c.first_complaint.ensures
    ∙ silent_about (form_of c.args.form.now) (map string_bytes c.args.words.now)
