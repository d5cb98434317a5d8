use Rattle.std.proofs.Common.{◌∙◌, ap, map, string_bytes, List}
use Rattle.std.specs.Prelude.{String}
use Rattle.std.specs.declared.alloc.Global.{Global}
use Rattle.omi_line.specs.Line.{split_of}
use Rattle.omi_usage.specs.Form.{CommandForm, is_command}
use Rattle.omi_usage.specs.Reading.{complaint_about}
use Rattle.omi_live.specs.Forms.{live_form}
use Rattle.omi_live.proofs.Forms.{silent_live}
use Rattle.omi_live.proofs.usage.live_complaint.Goals as goal

pub returns-clause-silent : goal.returns-clause-silent
returns-clause-silent c =
    c.complaint_of_one.ensures.silent
    ∙ ap (λ (form : CommandForm). is_command form (split_of (map string_bytes c.as_slice.result.now))) c.live_form.ensures
    ∙ ap (λ (words : List (String Global)). is_command live_form (split_of (map string_bytes words))) c.as_slice.ensures.value
    ∙ silent_live (split_of (map string_bytes c.args.words.now.items))

pub returns-clause-first : goal.returns-clause-first
returns-clause-first c =
    c.complaint_of_one.ensures.first
    ∙ ap (λ (form : CommandForm). complaint_about form (map string_bytes c.as_slice.result.now)) c.live_form.ensures
    ∙ ap (λ (words : List (String Global)). complaint_about live_form (map string_bytes words)) c.as_slice.ensures.value
