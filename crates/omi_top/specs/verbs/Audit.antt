-- The verb `audit`: its answers, and what it promises.
use Rattle.std.specs.Prelude.{◌≡◌, ℕ, List, Option, Some, None, ⊤, ◌⊎◌, Ok, Err}
use Rattle.omi_outside.specs.Outside.{Told, put_on}
use Rattle.omi_outside.specs.declared.status.Status.{Status}
use Rattle.omi_outside.specs.declared.status.Status.TheVariants as status
use Rattle.omi_corefile.specs.declared.core_image.CoreImage.{CoreImage}
use Rattle.omi_audit.specs.declared.verdict.Verdict.{Verdict}
use Rattle.omi_audit.specs.declared.verdict.Verdict.TheVariants.{Yes}
use Rattle.omi_frame.specs.Statuses.{ComesWhere, IsDoneOrFailed}
use Rattle.omi_top.specs.Audit.{IsAudited, ShowsWhereYes, audit_line}
use Rattle.omi_top.specs.Cores.{HasLayout, HasWrongTable, IsIncompatible, ShowsReached, Spells}
use Rattle.omi_top.specs.Files.{HasFault, IsFileRefusal}
use Rattle.omi_page.specs.CoreFiles.{IsFileOf}
use Rattle.omi_frame.specs.Verb.{Answer, Gives, Verb}
use Rattle.omi_frame.specs.declared.refusal.Refusal.{Refusal}
use Rattle.omi_top.specs.Kinds.{of_core}
use Rattle.omi_top.specs.Questions.{IsLayoutRefusal}

-- why `audit` refuses, by the content of the core's file: there is none, its bytes are no core, or the core's words give no layout
abbrev pub IsAuditRefusal : Option (List ℕ) → Refusal → Type 0
IsAuditRefusal None r = IsFileRefusal None r
IsAuditRefusal (Some bytes) r =
    IsFileRefusal (Some bytes) r ⊎ Spells bytes (λ core. IsLayoutRefusal core r)

-- the line on the verdict on the words of a file's core
abbrev pub IsAuditOf : List ℕ → List ℕ → Type 0
IsAuditOf bytes text =
    (v : Verdict) × Spells bytes (λ core. IsAudited core v) × (text ≡ audit_line v)

-- an answer of `audit`, by the content of the core's file: a refusal, or the line on the verdict
abbrev pub IsAuditAnswer : Option (List ℕ) → Answer → Type 0
IsAuditAnswer content (Gives None (Err r)) = IsAuditRefusal content r
IsAuditAnswer (Some bytes) (Gives None (Ok text)) = IsAuditOf bytes text
IsAuditAnswer content answer = ⊥

-- the verb, which reads a core and writes nothing
abbrev pub audit_verb : List ℕ → Verb
audit_verb core = of_core core IsAuditAnswer

-- what `audit` makes of a core whose words show a state that events of a program reach: the verdict is Yes, unless a file or the output fails or
-- memory runs out
abbrev pub IsApproved : Status → Option (List ℕ) → Option (List ℕ) → Type 0
IsApproved status.Success out after = (records : ℕ) × (after ≡ put_on out (audit_line (Yes records)))
IsApproved status.ReadFault out after = ⊤
IsApproved status.WriteFault out after = ⊤
IsApproved status.OutOfMemory out after = ⊤
IsApproved other out after = ⊥

-- What `audit CORE` promises of a call that ends with the status s: told is what the files that it reads tell, and out and after what was put
-- before and behind.
pub record AuditPromise (core : List ℕ) (s : Status) (told : List ℕ → Told) (out after : Option (List ℕ)) : Type 0 where
  -- a file is refused as `show` refuses it, and of the words the layout table alone
  pub no_file : (content : Option (List ℕ)) → told core ≡ Some content
      → ComesWhere status.NoFile s (content ≡ None)
  pub core_fault : (bytes : List ℕ) → told core ≡ Some (Some bytes) → ComesWhere status.Core s (HasFault bytes)
  pub incompatible : (bytes : List ℕ) → told core ≡ Some (Some bytes)
      → ComesWhere status.Incompatible s (Spells bytes IsIncompatible)
  pub damaged : (bytes : List ℕ) → told core ≡ Some (Some bytes)
      → ComesWhere status.Damaged s (Spells bytes HasWrongTable)
  -- whatever the words are, a core that gives a layout has a verdict
  pub accepts : (bytes : List ℕ) → told core ≡ Some (Some bytes) → Spells bytes HasLayout → IsDoneOrFailed s
  -- with success what is put is the line on the verdict on the core's words; Yes is that they show a state
  pub success : (bytes : List ℕ) → told core ≡ Some (Some bytes) → s ≡ status.Success
      → (image : CoreImage) × (v : Verdict) × IsFileOf bytes image × IsAudited image v
      × (after ≡ put_on out (audit_line v)) × ShowsWhereYes image v
  -- where the words show a state that events of a program reach, the verdict is Yes
  pub reached : (bytes : List ℕ) → told core ≡ Some (Some bytes) → (image : CoreImage)
      → IsFileOf bytes image → ShowsReached image → IsApproved s out after
