-- A core has one refusal of `audit` or one verdict: what each says of its bytes and of its words.
use Rattle.std.proofs.Common.{◌≡◌, ◌⊎◌, inl, inr, ℕ, List, Option, Some, None, refl, sym, ◌∙◌, ap, subst}
use Rattle.omi_audit.specs.declared.verdict.Verdict.{Verdict}
use Rattle.omi_outside.specs.declared.status.Status.{Status}
use Rattle.omi_outside.specs.declared.status.Status.TheVariants as status
use Rattle.omi_corefile.specs.declared.core_image.CoreImage.{CoreImage}
use Rattle.omi_layout.proofs.OneAnswer.{not_both}
use Rattle.omi_top.specs.verbs.Audit.{IsAuditRefusal}
use Rattle.omi_top.specs.verbs.Show.{IsShowRefusal}
use Rattle.omi_top.specs.Audit.{IsAudited}
use Rattle.omi_top.specs.Cores.{HasLayout, HasWrongTable, IsIncompatible, IsWrongTable, LacksTable, Spells, words_of_core}
use Rattle.omi_top.specs.Questions.{IsLayoutRefusal, refusal_of_layout}
use Rattle.omi_top.specs.Files.{HasFault}
use Rattle.omi_top.proofs.Files.{fault_told, file_not_refused, told_status}
use Rattle.omi_page.proofs.OpenedFiles.{file_unique}
use Rattle.omi_top.proofs.ShowVerdicts.{either_table, lacking_status, one_refusal, wrong_status}
use Rattle.omi_frame.specs.Refusal.{status_of}
use Rattle.omi_frame.specs.declared.refusal.Input.TheVariants as input
use Rattle.omi_frame.specs.declared.refusal.Refusal.{Refusal}
use Rattle.omi_frame.specs.declared.refusal.Refusal.TheVariants as refusal

-- what `audit` refuses, `show` does
pub refused_by_show : (content : Option (List ℕ)) (r : Refusal) → IsAuditRefusal content r → IsShowRefusal content r
refused_by_show None r refuses = refuses
refused_by_show (Some bytes) r (inl refused) = inl refused
refused_by_show (Some bytes) r (inr (core, spelled, refused)) = inr (core, spelled, inl refused)

-- a core that gives a layout isn't refused
pub layout_not_refused : (bytes : List ℕ) (r : Refusal) → Spells bytes HasLayout
    → IsAuditRefusal (Some bytes) r → ⊥
layout_not_refused bytes r (core, is, has) (inl told) = file_not_refused bytes core r is told
layout_not_refused bytes r (core, spelled, (w, valid, layout)) (inr (other, also, refused)) =
    let (e, none, same) = subst (λ (c : CoreImage). IsLayoutRefusal c r) (file_unique bytes other core also spelled) refused in
    not_both (words_of_core core) w e valid layout none

-- and one that has a verdict gives a layout
pub audited_layout : (bytes : List ℕ) (v : Verdict) → Spells bytes (λ core. IsAudited core v)
    → Spells bytes HasLayout
audited_layout bytes v (core, spelled, audited) = (core, spelled, (audited.w, audited.valid, audited.layout))

-- ---- each fact is the cause of a refusal with its status, and each refusal with this status says the fact

abbrev pub Declining : Option (List ℕ) → Status → Type 0
Declining content s = (r : Refusal) × IsAuditRefusal content r × (status_of r ≡ s)

pub missing : Declining None status.NoFile
missing = (refusal.NoFile input.Core, refl, refl)

pub faulty : (bytes : List ℕ) → HasFault bytes → Declining (Some bytes) status.Core
faulty bytes fault = let (r, told) = fault_told bytes fault in (r, inl told, told_status bytes r told)

pub incompatible : (bytes : List ℕ) → Spells bytes IsIncompatible → Declining (Some bytes) status.Incompatible
incompatible bytes (core, spelled, (e, none, lacks)) =
    (refusal_of_layout e, inr (core, spelled, (e, none, refl)), lacking_status e lacks)

pub wrong : (bytes : List ℕ) → Spells bytes HasWrongTable → Declining (Some bytes) status.Damaged
wrong bytes (core, spelled, (e, none, is)) =
    (refusal_of_layout e, inr (core, spelled, (e, none, refl)), wrong_status e is)

pub says_wrong : (bytes : List ℕ) (r : Refusal) → IsAuditRefusal (Some bytes) r → status_of r ≡ status.Damaged
    → Spells bytes HasWrongTable
says_wrong bytes r (inl told) is =
    let never : status.Core ≡ status.Damaged = sym (told_status bytes r told) ∙ is in absurd (cc)
says_wrong bytes r (inr (core, spelled, (e, none, same))) is = go (either_table e)
  where
    go : LacksTable e ⊎ IsWrongTable e → Spells bytes HasWrongTable
    go (inl lacks) =
        let never : status.Incompatible ≡ status.Damaged = sym (lacking_status e lacks) ∙ ap status_of (sym same) ∙ is in absurd (cc)
    go (inr wrong) = (core, spelled, (e, none, wrong))

-- nothing else is refused where a refusal with this status is
pub all_declining : (content : Option (List ℕ)) (s : Status) → Declining content s → (r : Refusal)
    → IsAuditRefusal content r → status_of r ≡ s
all_declining content s (one, is, same) r refuses =
    ap status_of
    (one_refusal content r one (refused_by_show content r refuses) (refused_by_show content one is)) ∙ same
