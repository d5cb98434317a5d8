-- What `audit` makes of a core, and what it prints.
use Rattle.std.specs.Prelude.{◌≡◌, ◌⊎◌, ℕ, List, [], ◌∷◌, ◌++◌, Result, Ok, Err, codes, ⊤}
use Rattle.std.specs.Fmt.{decimal}
use Rattle.omi_audit.specs.Verdicts.{verdict}
use Rattle.omi_audit.specs.declared.verdict.AuditFault.{AuditFault}
use Rattle.omi_audit.specs.declared.verdict.AuditFault.TheVariants as fault
use Rattle.omi_audit.specs.declared.verdict.Verdict.{Verdict}
use Rattle.omi_audit.specs.declared.verdict.Verdict.TheVariants.{Yes, No}
use Rattle.omi_corefile.specs.declared.core_image.CoreImage.{CoreImage}
use Rattle.omi_layout.specs.Given.{GivesLayout}
use Rattle.omi_layout.specs.Named.{field_text}
use Rattle.omi_layout.specs.Valid.{IsValid}
use Rattle.omi_model.specs.State.{State}
use Rattle.omi_text.specs.Numbers.{hexadecimal}
use Rattle.omi_top.specs.Cores.{ShowsState, words_of_core}
use Rattle.omi_top.specs.Questions.{IsLayoutRefusal}
use Rattle.omi_frame.specs.Refusal.{IsUnread}
use Rattle.omi_frame.specs.declared.refusal.Input.TheVariants as input
use Rattle.omi_frame.specs.declared.refusal.Refusal.{Refusal}
use Rattle.omi_frame.specs.declared.refusal.Refusal.TheVariants as refusal

-- the verdict on the words of a core, through the valid layout that they give
pub record IsAudited (core : CoreImage) (v : Verdict) : Type 0 where
  pub w : List ℕ
  pub valid : IsValid w
  pub layout : GivesLayout (words_of_core core) w
  pub is : verdict w (words_of_core core) ≡ v

-- where the verdict is Yes, the words of the core show a state
abbrev pub ShowsWhereYes : CoreImage → Verdict → Type 0
ShowsWhereYes core (Yes records) = (s : State) × ShowsState core s
ShowsWhereYes core (No addr field clause) = ⊤

-- what an audit may answer of a core: the verdict, or why there is none: its words give no layout, a read failed, or memory ran out
abbrev pub IsJudged : CoreImage → Result Verdict Refusal → Type 0
IsJudged core (Ok v) = IsAudited core v
IsJudged core (Err r) = IsLayoutRefusal core r ⊎ IsUnread input.Core r

-- what an audit's fault is handed on as. A callback that fails is a read that failed
abbrev pub refusal_of_audit : AuditFault → Refusal
refusal_of_audit fault.Callback = refusal.ReadFault input.Core
refusal_of_audit fault.OutOfMemory = refusal.OutOfMemory

abbrev pub judged : Result Verdict AuditFault → Result Verdict Refusal
judged (Ok v) = Ok v
judged (Err f) = Err (refusal_of_audit f)

-- the line that is printed: how many records are reached, or the address, the field and the clause of the first failure
abbrev pub audit_line : Verdict → List ℕ
audit_line (Yes records) = codes "audit ok records " ++ (decimal records ++ 10 ∷ [])
audit_line (No addr field clause) =
    codes "audit no " ++ (hexadecimal addr ++ (codes " " ++ (field_text field
    ++ (codes " " ++ (decimal clause ++ 10 ∷ [])))))
