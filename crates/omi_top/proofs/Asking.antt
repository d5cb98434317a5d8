-- The exits of a question that is asked of the core in a file: what each result is an answer to.
use Rattle.std.proofs.Common.{◌≡◌, inl, inr, ℕ, Bool, true, false, List, Option, Some, None, Ok, Err, refl, subst, ◌∙◌}
use Rattle.std.specs.Prelude.{Result}
use Rattle.omi_outside.specs.Outside.{Told}
use Rattle.omi_calls.specs.Memory.{told_by}
use Rattle.omi_corefile.specs.declared.core_image.CoreImage.{CoreImage}
use Rattle.omi_elf.specs.Header.{begins_as_elf}
use Rattle.omi_outside.specs.declared.status.Status.TheVariants as status
use Rattle.omi_page.proofs.OpenedFiles.{tells_core}
use Rattle.omi_page.specs.CoreFiles.{IsFileOf, StandsForCore}
use Rattle.omi_page.specs.CoreFiles.{IsFaultBy as IsPageFault}
use Rattle.omi_page.specs.Outcomes.{IsFaultOf, UnlessFreeError}
use Rattle.omi_page.specs.Told.{told_by_file}
use Rattle.omi_page.specs.declared.fault.PageError.{PageError}
use Rattle.omi_page.specs.declared.fault.PageError.TheVariants as page
use Rattle.omi_top.specs.Files.{IsFaultBy}
use Rattle.omi_top.specs.Questions.{ComesOfFile, IsAnswerOf, refusal_of_page}
use Rattle.omi_frame.specs.Refusal.{status_of}
use Rattle.omi_frame.specs.declared.refusal.Input.TheVariants as input
use Rattle.omi_frame.specs.declared.refusal.Refusal.{Refusal}
use Rattle.omi_frame.specs.declared.refusal.Refusal.TheVariants as refusal

-- ---- what comes of a file

-- neither the words of the command line nor a script is refused, and nothing is written
pub record IsOfCommand (r : Refusal) : Type 0 where
  pub no_usage : r ≡ refusal.Usage → ⊥
  pub no_write : r ≡ refusal.WriteFault → ⊥
  pub no_script : status_of r ≡ status.Script → ⊥

pub file_of_command : (r : Refusal) → ComesOfFile r → IsOfCommand r
file_of_command r comes = record { no_usage = usage r comes; no_write = write r comes; no_script = script r comes }
  where
    usage : (r : Refusal) → ComesOfFile r → r ≡ refusal.Usage → ⊥
    usage r comes is =
        let P : Refusal → Type 0 = ComesOfFile in elim (subst P is comes) [ inl e ↦ cc e | inr e ↦ cc e ]

    write : (r : Refusal) → ComesOfFile r → r ≡ refusal.WriteFault → ⊥
    write r comes is =
        let P : Refusal → Type 0 = ComesOfFile in elim (subst P is comes) [ inl e ↦ cc e | inr e ↦ cc e ]

    script : (r : Refusal) → ComesOfFile r → status_of r ≡ status.Script → ⊥
    script refusal.Incompatible comes is = cc is
    script (refusal.Damaged addr field) comes is = cc is
    script (refusal.Cycle addr) comes is = cc is
    script (refusal.Script fault) comes is = elim comes [ inl e ↦ cc e | inr e ↦ cc e ]
    script refusal.Usage comes is = cc is
    script (refusal.NoFile read) comes is = cc is
    script (refusal.ReadFault read) comes is = cc is
    script refusal.WriteFault comes is = cc is
    script (refusal.Core at why) comes is = cc is
    script (refusal.Elf at why) comes is = cc is
    script refusal.OutOfMemory comes is = cc is

-- ---- the answers

-- an error is that there is no file
abbrev pub IsNoFile : (X : Type 0) → PageError → Type 0
IsNoFile X e =
    let error : Result X PageError = Err e in let none : Result X PageError = Err page.NoFile in error ≡ none

-- the fault of a file, as it is handed on
fault_as : (elf : Bool) (bytes : List ℕ) (e : PageError) → IsPageFault elf bytes e → IsFaultBy elf bytes (refusal_of_page e)
fault_as true bytes (page.Elf at why) fault = (at, why, fault, refl)
fault_as true bytes (page.Fault at why) fault = absurd fault
fault_as true bytes page.NoFile fault = absurd fault
fault_as true bytes page.Failed fault = absurd fault
fault_as true bytes page.OutOfMemory fault = absurd fault
fault_as false bytes (page.Fault at why) fault = (at, why, fault, refl)
fault_as false bytes (page.Elf at why) fault = absurd fault
fault_as false bytes page.NoFile fault = absurd fault
fault_as false bytes page.Failed fault = absurd fault
fault_as false bytes page.OutOfMemory fault = absurd fault

module _ {A : Type 0} (answers : CoreImage → Result A Refusal → Type 0) where
  -- the file isn't opened
  refused_by : (bytes : List ℕ) (e : PageError) → IsFaultOf bytes e → IsAnswerOf answers (Some bytes) (Err (refusal_of_page e))
  refused_by bytes (page.Fault at why) fault = inl (fault_as (begins_as_elf bytes) bytes (page.Fault at why) fault)
  refused_by bytes (page.Elf at why) fault = inl (fault_as (begins_as_elf bytes) bytes (page.Elf at why) fault)
  refused_by bytes page.NoFile fault = inl (fault_as (begins_as_elf bytes) bytes page.NoFile fault)
  refused_by bytes page.Failed fault = inr (inl (inl refl))
  refused_by bytes page.OutOfMemory fault = inr (inl (inr refl))

  missing_by : (X : Type 0) (e : PageError) → UnlessFreeError e (IsNoFile X e) → IsAnswerOf answers None (Err (refusal_of_page e))
  missing_by X (page.Fault at why) missing = absurd cc
  missing_by X (page.Elf at why) missing = absurd cc
  missing_by X page.NoFile missing = inl refl
  missing_by X page.Failed missing = inr (inl refl)
  missing_by X page.OutOfMemory missing = inr (inr refl)

  pub unopened_answer : (X : Type 0) (told : Told) (content : Option (List ℕ)) (e : PageError)
      → told ≡ Some content
      → (told ≡ Some None → UnlessFreeError e (IsNoFile X e)) → ((bytes : List ℕ) → told ≡ Some (Some bytes) → IsFaultOf bytes e)
      → IsAnswerOf answers content (Err (refusal_of_page e))
  unopened_answer X told (Some bytes) e is missing fault = refused_by bytes e (fault bytes is)
  unopened_answer X told None e is missing fault = missing_by X e (missing is)

  -- it is opened, and memory runs out
  pub stopped_answer : (content : Option (List ℕ)) → IsAnswerOf answers content (Err refusal.OutOfMemory)
  stopped_answer None = inr (inr refl)
  stopped_answer (Some bytes) = inr (inl (inr refl))

  -- it is opened, so it stands for a core, and its pages tell what the core tells
  pub opened_answer : (told pages : Told) (content : Option (List ℕ)) (contexts : List ℕ) (result : Result A Refusal)
      → told ≡ Some content → pages ≡ told
      → (told ≡ Some None → ⊥) → ((bytes : List ℕ) → told ≡ Some (Some bytes) → StandsForCore bytes)
      → ((bytes : List ℕ) (core : CoreImage) → told ≡ Some (Some bytes) → IsFileOf bytes core → contexts ≡ core.contexts)
      → ((core : CoreImage) → told_by_file pages ≡ told_by core → contexts ≡ core.contexts → answers core result) → IsAnswerOf answers content result
  opened_answer told pages None contexts result is same there cores ids answered = absurd (there is)
  opened_answer told pages (Some bytes) contexts (Ok a) is same there cores ids answered =
      let s = cores bytes is in
      (s.core, s.is, answered s.core (tells_core pages bytes s.core (same ∙ is) s s.is) (ids bytes s.core is s.is))
  opened_answer told pages (Some bytes) contexts (Err r) is same there cores ids answered =
      let s = cores bytes is in
      inr (inr (s.core, s.is, answered s.core (tells_core pages bytes s.core (same ∙ is) s s.is) (ids bytes s.core is s.is)))
