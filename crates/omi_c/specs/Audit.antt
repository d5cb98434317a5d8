-- What is answered for words that are audited.
use Rattle.std.specs.Prelude.{◌≡◌, ◌==◌, ◌⊎◌, ℕ, true, false, List, Ok, Err, nat_le, if◌then◌else◌}
use Rattle.omi_audit.specs.declared.verdict.Verdict.{Verdict}
use Rattle.omi_audit.specs.declared.verdict.Verdict.TheVariants.{Yes, No}
use Rattle.omi_audit.specs.Verdicts.{verdict}
use Rattle.omi_layout.specs.Named.{field_text}
use Rattle.omi_c.specs.declared.judged.Judged.{Judged}
use Rattle.omi_layout.specs.declared.limits.TheConstants.{FIELDS}
use Rattle.omi_session.specs.declared.rc.Rc.TheVariants.{BadInput, NoMem}
use Rattle.omi_word.specs.Words.{Words}
use Rattle.omi_c.specs.declared.answers.Audited.{Audited}
use Rattle.omi_c.specs.declared.answers.Refusal.{Refusal}
use Rattle.omi_c.specs.declared.answers.TheConstants.{OK}
use Rattle.omi_c.specs.declared.causes.Cause.TheVariants.{NoLayout, Says}
use Rattle.omi_c.specs.Answers.{refusal_of}
use Rattle.omi_c.specs.Judged.{refusal_in}
use Rattle.omi_c.specs.Replies.{Reply}

-- the verdict on a memory in the layout of a table, where it was judged to be one
abbrev pub verdict_in : Judged → Words → Reply Verdict
verdict_in table memory =
    if table.code == OK then Ok (verdict table.words memory) else Err (NoLayout (refusal_in table))

-- how it is spelled
abbrev pub audited_by : Refusal → Audited
audited_by r = record { code = r.code; place = r.place; yes = false; records = 0; addr = 0; field = 0; clause = 0 }

abbrev pub audited_of : Reply Verdict → Audited
audited_of (Ok (Yes records)) =
    record { code = OK; place = 0; yes = true; records = records; addr = 0; field = 0; clause = 0 }
audited_of (Ok (No addr field clause)) =
    record { code = OK; place = 0; yes = false; records = 0; addr = addr; field = field; clause = clause }
audited_of (Err cause) = audited_by (refusal_of cause)

-- the reply is this verdict, or that memory ran out in a layout
abbrev pub IsVerdict : Judged → Words → Reply Verdict → Type 0
IsVerdict table memory reply =
    (reply ≡ verdict_in table memory) ⊎ ((table.code ≡ OK) × (reply ≡ Err (Says NoMem)))

-- an answer spells such a reply
pub record IsAudited (table : Judged) (memory : Words) (answer : Audited) : Type 0 where
  pub reply : Reply Verdict
  pub is : IsVerdict table memory reply
  pub spells : answer ≡ audited_of reply

-- the text that names a field, where one has the number
abbrev pub field_reply : ℕ → Reply (List ℕ)
field_reply field = if nat_le field FIELDS then Ok (field_text field) else Err (Says BadInput)
