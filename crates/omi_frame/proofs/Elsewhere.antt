-- What a refusal of a script, a refused write and a printed text are not, and what a status says of the refusal behind it.
use Rattle.std.proofs.Common.{◌≡◌, ◌∙◌, inl, inr, ℕ, Bool, true, false, Ok, Err, refl, sym, ap, subst}
use Rattle.std.specs.Prelude.{List, Option, Result, IsErrAnd, IsErrOf}
use Rattle.std.specs.Global.{Vec}
use Rattle.omi_outside.specs.declared.files.Refused.{Refused as RefusedWrite}
use Rattle.omi_outside.specs.declared.files.Refused.TheVariants as refused
use Rattle.omi_outside.specs.declared.status.Status.{Status}
use Rattle.omi_outside.specs.declared.status.Status.TheVariants as status
use Rattle.omi_frame.specs.Refusal.{IsLate, IsReadFault, Named, refusal_line, refusal_of_write, status_of}
use Rattle.omi_frame.specs.Said.{IsSaid}
use Rattle.omi_frame.specs.Scripts.{IsOfScript}
use Rattle.omi_frame.specs.Statuses.{IsOfCore, IsPrinting}
use Rattle.omi_frame.specs.declared.refusal.Refusal.{Refusal}
use Rattle.omi_frame.specs.declared.refusal.Refusal.TheVariants as refusal

-- what the reading of a script is refused for is no refusal of the words, no fault of writing, and no refusal of a core
abbrev is_elsewhere : Refusal → Bool
is_elsewhere refusal.Usage = true
is_elsewhere refusal.WriteFault = true
is_elsewhere r = false

of_script : (r : Refusal) → IsOfScript r → is_elsewhere r ≡ false
of_script (refusal.NoFile read) is = refl
of_script (refusal.ReadFault read) is = refl
of_script (refusal.Script fault) is = refl
of_script refusal.OutOfMemory is = refl
of_script refusal.Usage is = absurd is
of_script refusal.WriteFault is = absurd is
of_script (refusal.Core at why) is = absurd is
of_script (refusal.Elf at why) is = absurd is
of_script (refusal.Damaged addr field) is = absurd is
of_script (refusal.Cycle addr) is = absurd is
of_script refusal.Incompatible is = absurd is

abbrev ends_elsewhere : Result (Vec ℕ) Refusal → Bool
ends_elsewhere (Ok text) = false
ends_elsewhere (Err r) = is_elsewhere r

pub never_elsewhere : (r s : Refusal) → IsOfScript r → is_elsewhere s ≡ true → (let ended : Refusal → Result (Vec ℕ) Refusal = λ x. Err x in ended r ≡ ended s) → ⊥
never_elsewhere r s said elsewhere is =
    let both : false ≡ true = sym (of_script r said) ∙ ap ends_elsewhere is ∙ elsewhere in cc both

pub never_of_core : (r : Refusal) → IsOfScript r → IsOfCore (status_of r) → ⊥
never_of_core (refusal.NoFile read) is of_core = of_core
never_of_core (refusal.ReadFault read) is of_core = of_core
never_of_core (refusal.Script fault) is of_core = of_core
never_of_core refusal.OutOfMemory is of_core = of_core
never_of_core refusal.Usage is of_core = of_core
never_of_core refusal.WriteFault is of_core = of_core
never_of_core (refusal.Core at why) is of_core = is
never_of_core (refusal.Elf at why) is of_core = is
never_of_core (refusal.Damaged addr field) is of_core = is
never_of_core (refusal.Cycle addr) is of_core = is
never_of_core refusal.Incompatible is of_core = is

-- what a refused write is handed on as: never a refusal of the words or a fault of reading, and a fault of writing where the write failed
abbrev pub handed_on : RefusedWrite → Result (Vec ℕ) Refusal
handed_on e = Err (refusal_of_write e)

pub never_usage : (e : RefusedWrite) → handed_on e ≡ Err refusal.Usage → ⊥
never_usage refused.Failed is = cc
never_usage refused.OutOfMemory is = cc

pub write_not_read : (e : RefusedWrite) → IsReadFault (refusal_of_write e) → ⊥
write_not_read refused.Failed is = is
write_not_read refused.OutOfMemory is = is

pub write_failed : (e : RefusedWrite) → handed_on e ≡ Err refusal.WriteFault → e ≡ refused.Failed
write_failed refused.Failed is = refl
write_failed refused.OutOfMemory is = absurd (cc)

pub write_not_of_core : (r : RefusedWrite) → IsOfCore (status_of (refusal_of_write r)) → ⊥
write_not_of_core refused.Failed is = is
write_not_of_core refused.OutOfMemory is = is

-- a refused write is a fault of writing, or want of memory
pub late : (r : RefusedWrite) → IsLate (refusal_of_write r)
late refused.Failed = tt
late refused.OutOfMemory = tt

-- ---- a text that was printed, whole or in part

abbrev is_printing : Status → Bool
is_printing status.Success = true
is_printing status.WriteFault = true
is_printing status.OutOfMemory = true
is_printing other = false

printing : (s : Status) → IsPrinting s → is_printing s ≡ true
printing s (inl e) = ap is_printing e
printing s (inr (inl e)) = ap is_printing e
printing s (inr (inr e)) = ap is_printing e

-- its status is none of another kind
pub never_printing : (s other : Status) → IsPrinting s → is_printing other ≡ false → s ≡ other → ⊥
never_printing s other printed not is =
    let both : false ≡ true = sym not ∙ ap is_printing (sym is) ∙ printing s printed in cc both

pub printing_not_of_core : (s : Status) → IsPrinting s → IsOfCore s → ⊥
printing_not_of_core s (inl e) is = subst (λ (x : Status). IsOfCore x) e is
printing_not_of_core s (inr (inl e)) is = subst (λ (x : Status). IsOfCore x) e is
printing_not_of_core s (inr (inr e)) is = subst (λ (x : Status). IsOfCore x) e is

-- ---- the refusal that a status stands for

abbrev ended : Refusal → Result (Vec ℕ) Refusal
ended r = Err r

pub of_usage : (r : Refusal) → status_of r ≡ status.Usage → IsErrOf (ended r) refusal.Usage
of_usage refusal.Usage is = refl
of_usage r is = absurd (cc)

pub of_read : (r : Refusal) → status_of r ≡ status.ReadFault → IsErrAnd (ended r) IsReadFault
of_read (refusal.ReadFault read) is = tt
of_read r is = absurd (cc)

pub of_write : (r : Refusal) → status_of r ≡ status.WriteFault → IsErrOf (ended r) refusal.WriteFault
of_write refusal.WriteFault is = refl
of_write r is = absurd (cc)

-- want of memory has no line
pub unsaid : (names : Named) (r : Refusal) (counted : Type 0) (old new : Option (List ℕ))
    → IsSaid (refusal_line names r) counted old new → status_of r ≡ status.OutOfMemory → new ≡ old
unsaid names refusal.OutOfMemory counted old new said is = said
unsaid names r counted old new said is = absurd (cc)

-- ---- a fault of writing, or want of memory

pub late_not_of_core : (r : Refusal) → IsLate r → IsOfCore (status_of r) → ⊥
late_not_of_core refusal.WriteFault late is = is
late_not_of_core refusal.OutOfMemory late is = is
late_not_of_core r late is = late
