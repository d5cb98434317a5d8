-- The rows of the table, one after the other.
use Rattle.std.proofs.Common.{◌≡◌, ◌≢◌, ℕ, ◌<◌, ◌≤◌, List, [], ◌∷◌, length, map, Option, Some, None, Result, Ok, Err, refl, ap, sym, subst, ◌∙◌, arith}
use Rattle.std.proofs.lemmas.Bool.{eq-eqb, ne_eqb}
use Rattle.omi_elf.specs.Header.{e_phnum, order_of, program_headers}
use Rattle.omi_elf.specs.declared.program_header.ProgramHeader.{ProgramHeader}
use Rattle.omi_elf.specs.Notes.{description_place, note_found, notes}
use Rattle.omi_elf.specs.Outcomes.{ReadFails}
use Rattle.omi_elf.specs.Table.{Judged}
use Rattle.omi_elf.specs.declared.fault.ElfReadError.{ElfReadError}
use Rattle.omi_elf.specs.declared.fault.ElfReadError.TheVariants as read
use Rattle.omi_process.specs.Ids.{first_untold, listed, pr_pid, statuses}
use Rattle.omi_process.specs.Outcomes.{IsGathered, Judges, Tells, process_error_of}
use Rattle.omi_process.specs.Reading.{Told, Untold, Cut, gathered, notes_of}
use Rattle.omi_process.specs.Table.{Row, as_elf, first_of, ids, many_headers, threads, untold}
use Rattle.omi_process.specs.declared.limits.TheConstants.{MANY_HEADERS, MANY_HEADERS_PLACE}
use Rattle.omi_process.specs.declared.fault.ProcessError.{ProcessError}
use Rattle.omi_process.specs.declared.fault.ProcessError.TheVariants.{Fault, Failed, OutOfMemory}
use Rattle.omi_process.specs.declared.fault.ProcessFault.TheVariants.{Elf, ManyHeaders, NoThreads, BadThread}
use Rattle.omi_process.specs.declared.listed.Listed.TheVariants.{Threads}
use Rattle.omi_process.proofs.AlongNotes.{gathered_is, told_by}

-- a fault that the first row tells, and one that the others do where that one tells none
pub first_tells : (e : ProcessError) (row : Row) (more : List Row) → Tells e row → Tells e (first_of (row ∷ more))
first_tells (Fault at why) row more is = rw is refl
first_tells Failed row more is = tt
first_tells OutOfMemory row more is = tt

pub next_tells : (e : ProcessError) (row : Row) (more : List Row) → row ≡ None → Tells e (first_of more) → Tells e (first_of (row ∷ more))
next_tells e row more none is = rw none is

pub next_passes : (row : Row) (more : List Row) → row ≡ None → first_of more ≡ None → first_of (row ∷ more) ≡ None
next_passes row more none is = rw none is

pub next_judges : {X : Type 0} (r : Result X ProcessError) (row : Row) (more : List Row) → row ≡ None → Judges r (first_of more)
    → Judges r (first_of (row ∷ more))
next_judges r row more none is = rw none is

-- ---- rows of ELF cores

pub elf_tells : (e : ElfReadError) (judged : Judged) → ReadFails e judged → Tells (process_error_of e) (as_elf judged)
elf_tells (read.Fault at why) judged is = ap as_elf is
elf_tells read.Failed judged is = tt
elf_tells read.OutOfMemory judged is = tt

pub elf_passes : (judged : Judged) → judged ≡ Ok tt → as_elf judged ≡ None
elf_passes judged is = ap as_elf is

-- ---- the number of program headers

pub too_many : (bytes : List ℕ) → e_phnum bytes ≡ MANY_HEADERS → many_headers bytes ≡ Some (MANY_HEADERS_PLACE, ManyHeaders)
too_many bytes is = let test = eq-eqb (e_phnum bytes) MANY_HEADERS is in rw test refl

pub not_many : (bytes : List ℕ) → e_phnum bytes ≢ MANY_HEADERS → many_headers bytes ≡ None
not_many bytes ne = let test = ne_eqb (e_phnum bytes) MANY_HEADERS ne in rw test refl

-- ---- the row of the ids, where no note is ours

-- what was gathered of a file's notes, by its own order and program headers
pub gathered_as : (bytes : List ℕ) (order : ℕ) (headers : List ProgramHeader) (before : List ℕ) (result : Result (Unit {0}) ProcessError) (ids_read : List ℕ)
    → order ≡ order_of bytes → headers ≡ program_headers bytes → before ≡ []
    → IsGathered order bytes result ids_read (gathered order bytes before (notes_of order bytes headers))
    → IsGathered (order_of bytes) bytes result ids_read (gathered (order_of bytes) bytes [] (notes bytes))
gathered_as bytes order headers before result ids_read o h b is =
    subst (λ k. IsGathered k bytes result ids_read (gathered k bytes [] (notes_of k bytes (program_headers bytes)))) o
    (subst (λ hs. IsGathered order bytes result ids_read (gathered order bytes [] (notes_of order bytes hs))) h
    (subst (λ ids_before. IsGathered order bytes result ids_read (gathered order bytes ids_before (notes_of order bytes headers))) b is))

module _ (bytes : List ℕ) (none : note_found bytes ≡ None) where
  row_is : ids bytes ≡ threads bytes (statuses bytes)
  row_is = rw none refl

  told_is : gathered (order_of bytes) bytes [] (notes bytes)
      ≡ told_by (order_of bytes) bytes (first_untold (order_of bytes) bytes (statuses bytes)) (map (pr_pid (order_of bytes) bytes) (statuses bytes))
  told_is = gathered_is (order_of bytes) bytes (notes bytes) [] none

  -- all of them tell one
  all_told : (ids_read : List ℕ) → gathered (order_of bytes) bytes [] (notes bytes) ≡ Told ids_read
      → (first_untold (order_of bytes) bytes (statuses bytes) ≡ None) × (map (pr_pid (order_of bytes) bytes) (statuses bytes) ≡ ids_read)
  all_told ids_read is = go (first_untold (order_of bytes) bytes (statuses bytes)) refl (sym told_is ∙ is)
    where
      go : (o : Option ℕ) → first_untold (order_of bytes) bytes (statuses bytes) ≡ o
          → told_by (order_of bytes) bytes o (map (pr_pid (order_of bytes) bytes) (statuses bytes)) ≡ Told ids_read
          → (first_untold (order_of bytes) bytes (statuses bytes) ≡ None) × (map (pr_pid (order_of bytes) bytes) (statuses bytes) ≡ ids_read)
      go None e same = (e, cc)
      go (Some at) e same = absurd cc

  pub ids_listed : (ids_read : List ℕ) → gathered (order_of bytes) bytes [] (notes bytes) ≡ Told ids_read → Threads ids_read ≡ listed bytes
  ids_listed ids_read is = let all = all_told ids_read is in rw none (ap Threads (sym all.1))

  some_threads : (places : List ℕ) → first_untold (order_of bytes) bytes places ≡ None → 0 < length (map (pr_pid (order_of bytes) bytes) places)
      → threads bytes places ≡ None
  some_threads [] e some = absurd (omega (arith, some))
  some_threads (at ∷ more) e some = ap (untold bytes) e

  pub ids_pass : (ids_read : List ℕ) → gathered (order_of bytes) bytes [] (notes bytes) ≡ Told ids_read → 0 < length ids_read → ids bytes ≡ None
  ids_pass ids_read is some =
      let all = all_told ids_read is in
      row_is ∙ some_threads (statuses bytes) all.0 (omega (arith, ap length all.1, some))

  no_threads : (places : List ℕ) → length (map (pr_pid (order_of bytes) bytes) places) ≡ 0 → threads bytes places ≡ Some (0, NoThreads)
  no_threads [] e = refl
  no_threads (at ∷ more) e = absurd (omega (arith, e))

  pub ids_none : (ids_read : List ℕ) → gathered (order_of bytes) bytes [] (notes bytes) ≡ Told ids_read → length ids_read ≡ 0
      → ids bytes ≡ Some (0, NoThreads)
  ids_none ids_read is empty =
      let all = all_told ids_read is in
      row_is ∙ no_threads (statuses bytes) (ap length all.1 ∙ empty)

  untold_thread : (places : List ℕ) (at : ℕ) → first_untold (order_of bytes) bytes places ≡ Some at
      → threads bytes places ≡ Some (description_place (order_of bytes) bytes at, BadThread (description_place (order_of bytes) bytes at))
  untold_thread [] at e = absurd cc
  untold_thread (one ∷ more) at e = ap (untold bytes) e

  -- one tells none
  one_untold : (note : ℕ) → gathered (order_of bytes) bytes [] (notes bytes) ≡ Untold note
      → first_untold (order_of bytes) bytes (statuses bytes) ≡ Some note
  one_untold note is = go (first_untold (order_of bytes) bytes (statuses bytes)) refl (sym told_is ∙ is)
    where
      go : (o : Option ℕ) → first_untold (order_of bytes) bytes (statuses bytes) ≡ o
          → told_by (order_of bytes) bytes o (map (pr_pid (order_of bytes) bytes) (statuses bytes)) ≡ Untold note
          → first_untold (order_of bytes) bytes (statuses bytes) ≡ Some note
      go None e same = absurd cc
      go (Some at) e same = let one : at ≡ note = cc in e ∙ ap Some one

  never_cut : gathered (order_of bytes) bytes [] (notes bytes) ≡ Cut → ⊥
  never_cut is = go (first_untold (order_of bytes) bytes (statuses bytes)) (sym told_is ∙ is)
    where
      go : (o : Option ℕ)
          → told_by (order_of bytes) bytes o (map (pr_pid (order_of bytes) bytes) (statuses bytes)) ≡ Cut → ⊥
      go None same = cc
      go (Some at) same = cc

  pub ids_refused : (e : ProcessError) (ids_read : List ℕ)
      → IsGathered (order_of bytes) bytes (Err e) ids_read (gathered (order_of bytes) bytes [] (notes bytes)) → Tells e (ids bytes)
  ids_refused (Fault at (BadThread place)) ids_read (note, found, at_is, place_is) =
      row_is ∙ untold_thread (statuses bytes) note (one_untold note found)
      ∙ (λ i. Some (sym at_is i, BadThread (sym place_is i)))
  ids_refused (Fault at (Elf why)) ids_read found = absurd (never_cut found)
  ids_refused (Fault at ManyHeaders) ids_read found = absurd found
  ids_refused (Fault at NoThreads) ids_read found = absurd found
  ids_refused Failed ids_read found = tt
  ids_refused OutOfMemory ids_read found = tt
