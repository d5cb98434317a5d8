-- What the file of a core is, an ELF file or another one: it stands for one core, or is refused for one fault.
use Rattle.std.proofs.Common.{◌≡◌, ℕ, Bool, true, false, List, Some, Result, Ok, Err, refl, sym, ◌∙◌, ap, subst}
use Rattle.omi_corefile.specs.Refusals.{ReadRefusal as Reason}
use Rattle.omi_corefile.specs.Spelling.{Core}
use Rattle.omi_corefile.specs.declared.core_image.CoreImage.{CoreImage}
use Rattle.omi_corefile.specs.declared.fault.CoreFault.{CoreFault}
use Rattle.omi_corefile.proofs.FileLaws.{core_not_refused}
use Rattle.omi_elf.specs.ElfCore.{ElfCore}
use Rattle.omi_elf.specs.Header.{begins_as_elf}
use Rattle.omi_elf.specs.Table.{ElfRefusal, judgement, front_rows, header_rows}
use Rattle.omi_elf.specs.declared.fault.ElfFault.{ElfFault}
use Rattle.omi_elf.specs.declared.fault.ElfFault.TheVariants.{NotElf}
use Rattle.omi_elf.proofs.Stands.{elf_not_refused}
use Rattle.omi_page.proofs.OpenedFiles.{core_begins}
use Rattle.omi_outside.specs.declared.status.Status.TheVariants as status
use Rattle.omi_top.specs.Files.{HasFault, HasFaultBy, IsFaultBy, IsFileRefusal}
use Rattle.omi_page.specs.CoreFiles.{IsCoreBy, IsFileOf}
use Rattle.omi_frame.specs.Refusal.{status_of}
use Rattle.omi_frame.specs.declared.refusal.Refusal.{Refusal}
use Rattle.omi_frame.specs.declared.refusal.Refusal.TheVariants as refusal

-- ---- the first bytes of a file

-- another file is no ELF core file
not_elf : (bytes : List ℕ) → begins_as_elf bytes ≡ false → judgement bytes ≡ Err (0, NotElf)
unfolding judgement header_rows front_rows
not_elf bytes begins = rw begins refl

-- a file that stands for a core as an ELF file begins as one, and one that spells a core doesn't
pub elf_begins : (bytes : List ℕ) (c : CoreImage) → ElfCore bytes c → begins_as_elf bytes ≡ true
elf_begins bytes c is = go (begins_as_elf bytes) refl
  where
    go : (b : Bool) → begins_as_elf bytes ≡ b → begins_as_elf bytes ≡ true
    go true begins = begins
    go false begins = let both = sym (not_elf bytes begins) ∙ is.faultless in absurd cc

-- ---- a file of either kind

pub elf_is_file : (bytes : List ℕ) (c : CoreImage) → ElfCore bytes c → IsFileOf bytes c
elf_is_file bytes c is = subst (λ (elf : Bool). IsCoreBy elf bytes c) (sym (elf_begins bytes c is)) is

-- so a core that a run wrote is read as such
pub core_is_file : (bytes : List ℕ) (c : CoreImage) → Core bytes c → IsFileOf bytes c
core_is_file bytes c is = subst (λ (elf : Bool). IsCoreBy elf bytes c) (sym (core_begins bytes c is)) is

-- it stands for a core, or it has a fault
not_faulty_by : (elf : Bool) (bytes : List ℕ) (c : CoreImage) → IsCoreBy elf bytes c → HasFaultBy elf bytes → ⊥
not_faulty_by true bytes c is fault = elf_not_refused bytes c is fault
not_faulty_by false bytes c is fault = core_not_refused bytes (c, is) fault

-- ---- the fault that is told

-- what is told is a fault of the file
fault_by : (elf : Bool) (bytes : List ℕ) (r : Refusal) → IsFaultBy elf bytes r → HasFaultBy elf bytes
fault_by true bytes r (at, why, refused, is) = (at, why, refused)
fault_by false bytes r (at, why, refused, is) = (at, why, refused)

pub says_fault : (bytes : List ℕ) (r : Refusal) → IsFileRefusal (Some bytes) r → HasFault bytes
says_fault bytes r told = fault_by (begins_as_elf bytes) bytes r told

-- and each fault is told
abbrev pub Telling : Bool → List ℕ → Type 0
Telling elf bytes = (r : Refusal) × IsFaultBy elf bytes r

tell_by : (elf : Bool) (bytes : List ℕ) → HasFaultBy elf bytes → Telling elf bytes
tell_by true bytes (at, why, refused) = (refusal.Elf at why, (at, why, refused, refl))
tell_by false bytes (at, why, refused) = (refusal.Core at why, (at, why, refused, refl))

pub fault_told : (bytes : List ℕ) → HasFault bytes → (r : Refusal) × IsFileRefusal (Some bytes) r
fault_told bytes fault = tell_by (begins_as_elf bytes) bytes fault

-- one refusal tells it
abbrev said_by_core : {A : Type 0} → Result A Reason → Refusal
said_by_core (Err reason) = refusal.Core reason.0 reason.1
said_by_core (Ok x) = refusal.Usage

abbrev said_by_elf : {A : Type 0} → Result A ElfRefusal → Refusal
said_by_elf (Err reason) = refusal.Elf reason.0 reason.1
said_by_elf (Ok x) = refusal.Usage

one_by : (elf : Bool) (bytes : List ℕ) (r s : Refusal) → IsFaultBy elf bytes r → IsFaultBy elf bytes s → r ≡ s
one_by true bytes r s (at, why, a, p) (place, fault, b, q) = p ∙ ap said_by_elf (sym a ∙ b) ∙ sym q
one_by false bytes r s (at, why, a, p) (place, fault, b, q) = p ∙ ap said_by_core (sym a ∙ b) ∙ sym q

pub one_told : (bytes : List ℕ) (r s : Refusal) → IsFileRefusal (Some bytes) r → IsFileRefusal (Some bytes) s → r ≡ s
one_told bytes = one_by (begins_as_elf bytes) bytes

-- with one status
status_by : (elf : Bool) (bytes : List ℕ) (r : Refusal) → IsFaultBy elf bytes r → status_of r ≡ status.Core
status_by true bytes r (at, why, refused, is) = ap status_of is
status_by false bytes r (at, why, refused, is) = ap status_of is

pub told_status : (bytes : List ℕ) (r : Refusal) → IsFileRefusal (Some bytes) r → status_of r ≡ status.Core
told_status bytes = status_by (begins_as_elf bytes) bytes

-- what holds of each refusal that tells a fault
holds_by : (P : Refusal → Type 0) → ((at : ℕ) (why : ElfFault) → P (refusal.Elf at why)) → ((at : ℕ) (why : CoreFault) → P (refusal.Core at why))
    → (elf : Bool) (bytes : List ℕ) (r : Refusal) → IsFaultBy elf bytes r → P r
holds_by P of_elf of_core true bytes r (at, why, refused, is) = subst P (sym is) (of_elf at why)
holds_by P of_elf of_core false bytes r (at, why, refused, is) = subst P (sym is) (of_core at why)

pub told_holds : (P : Refusal → Type 0) → ((at : ℕ) (why : ElfFault) → P (refusal.Elf at why)) → ((at : ℕ) (why : CoreFault) → P (refusal.Core at why))
    → (bytes : List ℕ) (r : Refusal) → IsFileRefusal (Some bytes) r → P r
told_holds P of_elf of_core bytes r told = holds_by P of_elf of_core (begins_as_elf bytes) bytes r told

-- so a refusal that is made of it, and is the same where a fault is told, tells it too
as_by : (f : Refusal → Refusal) → ((at : ℕ) (why : ElfFault) → f (refusal.Elf at why) ≡ refusal.Elf at why)
    → ((at : ℕ) (why : CoreFault) → f (refusal.Core at why) ≡ refusal.Core at why) → (elf : Bool) (bytes : List ℕ) (r : Refusal) → IsFaultBy elf bytes r
    → IsFaultBy elf bytes (f r)
as_by f of_elf of_core true bytes r (at, why, refused, is) = (at, why, refused, ap f is ∙ of_elf at why)
as_by f of_elf of_core false bytes r (at, why, refused, is) = (at, why, refused, ap f is ∙ of_core at why)

pub told_as : (f : Refusal → Refusal) → ((at : ℕ) (why : ElfFault) → f (refusal.Elf at why) ≡ refusal.Elf at why)
    → ((at : ℕ) (why : CoreFault) → f (refusal.Core at why) ≡ refusal.Core at why) → (bytes : List ℕ) (r : Refusal) → IsFileRefusal (Some bytes) r
    → IsFileRefusal (Some bytes) (f r)
told_as f of_elf of_core bytes r told = as_by f of_elf of_core (begins_as_elf bytes) bytes r told

-- no file is a core and refused
pub file_not_refused : (bytes : List ℕ) (c : CoreImage) (r : Refusal) → IsFileOf bytes c → IsFileRefusal (Some bytes) r → ⊥
file_not_refused bytes c r is told = not_faulty_by (begins_as_elf bytes) bytes c is (says_fault bytes r told)
