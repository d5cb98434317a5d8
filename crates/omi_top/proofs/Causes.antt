-- What a printed text and a fault of writing are not, for the causes that each layer of the top call says.
use Rattle.std.proofs.Common.{inl, inr, ℕ, Ok, Err, subst}
use Rattle.std.specs.Prelude.{Result, IfErr, IsErrAnd, IsErrOf}
use Rattle.std.specs.Global.{Vec}
use Rattle.omi_outside.specs.declared.status.Status.{Status}
use Rattle.omi_frame.specs.Concluded.{MayEndWith}
use Rattle.omi_frame.specs.Refusal.{IsLate, IsReadFault, status_of}
use Rattle.omi_frame.specs.Statuses.{IsOfCore, IsPrinting}
use Rattle.omi_frame.proofs.Elsewhere.{late_not_of_core}
use Rattle.omi_frame.specs.declared.refusal.Refusal.{Refusal}
use Rattle.omi_frame.specs.declared.refusal.Refusal.TheVariants as refusal
use Rattle.omi_top.specs.Kinds.{IsUnwrittenBy}

-- a text that was printed, whole or in part, comes behind all that is written
pub printing_writes : (last : Type 0) (s : Status) → IsPrinting s → IsUnwrittenBy last s → ⊥
printing_writes last s (inl e) unwritten =
    let P : Status → Type 0 = λ x. IsUnwrittenBy last x in subst P e unwritten
printing_writes last s (inr (inl e)) unwritten =
    let P : Status → Type 0 = λ x. IsUnwrittenBy last x in subst P e unwritten
printing_writes last s (inr (inr e)) unwritten =
    let P : Status → Type 0 = λ x. IsUnwrittenBy last x in subst P e unwritten

-- a fault of writing, or want of memory
pub late_not_read : (result : Result (Vec ℕ) Refusal) → IfErr result IsLate → IsErrAnd result IsReadFault → ⊥
late_not_read (Ok text) late read = read
late_not_read (Err refusal.WriteFault) late read = read
late_not_read (Err refusal.OutOfMemory) late read = read
late_not_read (Err r) late read = late

-- what a call wrote nothing of stays, whether it gave a text or a refusal
pub unwritten_of : {C : Type 0} (last : Type 0) (result : Result (Vec ℕ) Refusal)
    → IfErr result (λ r. IsUnwrittenBy last (status_of r) → C)
    → (s : Status) → MayEndWith result s → IsUnwrittenBy last s → C
unwritten_of last (Ok text) stays s ends unwritten = absurd (printing_writes last s ends unwritten)
unwritten_of last (Err r) stays s ends unwritten =
    stays (let P : Status → Type 0 = λ x. IsUnwrittenBy last x in subst P ends unwritten)

pub late_not_usage_of : (result : Result (Vec ℕ) Refusal) → IfErr result IsLate → IsErrOf result refusal.Usage → ⊥
late_not_usage_of (Ok text) late is = cc
late_not_usage_of (Err refusal.Usage) late is = late
late_not_usage_of (Err r) late is = cc

pub late_not_core : (C : Type 0) (result : Result (Vec ℕ) Refusal) → IfErr result IsLate
    → IfErr result (λ r. IsOfCore (status_of r) → C)
late_not_core C (Ok text) late = tt
late_not_core C (Err r) late = λ is. absurd (late_not_of_core r late is)

pub late_writes : {C : Type 0} (last : Type 0) (result : Result (Vec ℕ) Refusal) → IfErr result IsLate
    → (s : Status) → MayEndWith result s → IsUnwrittenBy last s → C
late_writes last (Ok text) late s ends unwritten = absurd (printing_writes last s ends unwritten)
late_writes last (Err refusal.WriteFault) late s ends unwritten =
    absurd (let P : Status → Type 0 = λ x. IsUnwrittenBy last x in subst P ends unwritten)
late_writes last (Err refusal.OutOfMemory) late s ends unwritten =
    absurd (let P : Status → Type 0 = λ x. IsUnwrittenBy last x in subst P ends unwritten)
late_writes last (Err r) late s ends unwritten = absurd late
