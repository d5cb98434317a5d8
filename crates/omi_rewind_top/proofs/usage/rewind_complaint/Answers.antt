use Rattle.std.proofs.Common.{◌≡◌, ◌∙◌, ap, map, string_bytes, List}
use Rattle.std.specs.Prelude.{String}
use Rattle.std.specs.declared.alloc.Global.{Global}
use Rattle.omi_line.specs.Line.{split_of}
use Rattle.omi_usage.specs.Form.{CommandForm, is_command_of}
use Rattle.omi_usage.specs.Reading.{complaint_about, form_in}
use Rattle.omi_rewind_top.specs.Forms.{rewind_forms}
use Rattle.omi_rewind_top.proofs.Forms.{silent_rewind}
use Rattle.omi_rewind_top.proofs.usage.rewind_complaint.Goals as goal

pub returns-clause-silent : goal.returns-clause-silent
returns-clause-silent c =
    c.complaint_of.ensures.silent
    ∙ ap (λ (forms : List CommandForm). is_command_of forms (split_of (map string_bytes c.as_slice.result.now))) c.rewind_forms.ensures
    ∙ ap (λ (words : List (String Global)). is_command_of rewind_forms (split_of (map string_bytes words))) c.as_slice.ensures.value
    ∙ silent_rewind (split_of (map string_bytes c.args.words.now.items))

pub returns-clause-first : goal.returns-clause-first
returns-clause-first c =
    c.complaint_of.ensures.first
    ∙ ap (λ (forms : List CommandForm). complaint_about (form_in forms (map string_bytes c.as_slice.result.now)) (map string_bytes c.as_slice.result.now)) c.rewind_forms.ensures
    ∙ ap (λ (words : List (String Global)). complaint_about (form_in rewind_forms (map string_bytes words)) (map string_bytes words)) c.as_slice.ensures.value
