-- What is known of a file once it was opened, or refused.
use Rattle.std.proofs.Common.{◌≡◌, ◌⊎◌, inl, inr, ℕ, Bool, true, false, List, Some, Ok, sym, ap, subst, ◌∙◌}
use Rattle.omi_outside.specs.Outside.{Told as FileTold}
use Rattle.omi_outside.specs.declared.files.Refused.{Refused}
use Rattle.omi_outside.specs.declared.files.Refused.TheVariants as refused
use Rattle.omi_corefile.specs.declared.core_image.CoreImage.{CoreImage}
use Rattle.omi_corefile.specs.Spelling.{Core}
use Rattle.omi_corefile.specs.Outcomes.{IsCore, IsRefused}
use Rattle.omi_corefile.specs.Refusals.{AreBytes, Parts, ReadRefusal, reading}
use Rattle.omi_corefile.proofs.Numbers.{ok_is}
use Rattle.omi_corefile.proofs.FileLaws.{core_not_refused, core_unique, parts_of, reading_again, some_answer}
use Rattle.omi_calls.specs.CoreWords.{words_of_segments}
use Rattle.omi_calls.specs.Memory.{told_by}
use Rattle.omi_elf.specs.Header.{begins_as_elf, order_of, kept_segments}
use Rattle.omi_elf.specs.Notes.{contexts_of}
use Rattle.omi_elf.specs.Segments.{by_start}
use Rattle.omi_elf.specs.Table.{judgement}
use Rattle.omi_elf.specs.Outcomes.{ReadFails}
use Rattle.omi_elf.specs.declared.fault.ElfFault.{ElfFault}
use Rattle.omi_elf.specs.declared.fault.ElfReadError.{ElfReadError}
use Rattle.omi_elf.specs.declared.fault.ElfReadError.TheVariants as elf
use Rattle.omi_elf.proofs.Stands.{core_stands, elf_unique, elf_not_refused}
use Rattle.omi_page.specs.declared.contents.Contents.{Contents}
use Rattle.omi_page.specs.declared.fault.PageError.{PageError}
use Rattle.omi_page.specs.declared.fault.PageError.TheVariants.{Fault, Elf, NoFile, Failed, OutOfMemory}
use Rattle.omi_page.specs.Bounds.{AreBoundsOf}
use Rattle.omi_page.specs.CoreFiles.{IsCoreBy, IsFileOf, IsFault, IsFaultBy, StandsForCore}
use Rattle.omi_page.specs.Faults.{page_error_of_elf, page_error_of_refused}
use Rattle.omi_read.specs.Holding.{Holds}
use Rattle.omi_page.specs.Outcomes.{Fails, Gives, IsFaultOf, UnlessFreeError}
use Rattle.omi_page.specs.Paging.{IsContentsOf}
use Rattle.omi_page.specs.Spans.{word_there, segments_there, place_in}
use Rattle.omi_page.specs.Told.{parts_of_bytes, parts_read, told_by_parts, told_by_file}
use Rattle.omi_page.proofs.ElfWords.{words_there_are}
use Rattle.omi_page.proofs.Telling.{place_words}
use Rattle.std.specs.Option.{option_map}
use Rattle.std.specs.Prelude.{Option, Result, Err, IfOk, IfErr}

-- ---- a file that is a core of its format

-- a core is read as what it holds
pub read_core : (bytes : List ℕ) (c : CoreImage) → Core bytes c → reading bytes ≡ Ok (parts_of c)
read_core bytes c is = ap reading is ∙ reading_again c

-- a file of bytes that is read is a core
file_is_core : (bytes : List ℕ) (p : Parts) → AreBytes bytes → reading bytes ≡ Ok p → IsCore bytes
file_is_core bytes p are read = by_answer (some_answer bytes are)
  where
    by_answer : IsCore bytes ⊎ IsRefused bytes → IsCore bytes
    by_answer (inl core) = core
    by_answer (inr (at, why, refused)) = let both = sym read ∙ refused in absurd cc

-- and begins as no ELF file
pub core_begins : (bytes : List ℕ) (c : CoreImage) → Core bytes c → begins_as_elf bytes ≡ false
core_begins bytes c is = ap begins_as_elf is

pub core_parts : (bytes : List ℕ) (c : CoreImage) → Core bytes c → parts_of_bytes bytes ≡ Some (parts_of c)
core_parts bytes c is = let begins = core_begins bytes c is in rw begins (ap parts_read (read_core bytes c is))

unique_by : (elf : Bool) (bytes : List ℕ) (c d : CoreImage) → IsCoreBy elf bytes c → IsCoreBy elf bytes d → c ≡ d
unique_by true = elf_unique
unique_by false = core_unique

pub file_unique : (bytes : List ℕ) (c d : CoreImage) → IsFileOf bytes c → IsFileOf bytes d → c ≡ d
file_unique bytes = unique_by (begins_as_elf bytes) bytes

-- ---- what was read of a file

module _ (bytes : List ℕ) (contents : Contents) (are : AreBytes bytes) where
  -- of one that is no ELF file
  abbrev there : Parts
  there = record { order = contents.order; contexts = contents.contexts; segments = segments_there contents.order bytes contents.spans }

  pub core_contents : begins_as_elf bytes ≡ false → reading bytes ≡ Ok there → IsContentsOf bytes contents
  core_contents begins read =
      let core = file_is_core bytes there are read in
      let again = read_core bytes core.0 core.1 in
      let same : parts_of core.0 ≡ there = ok_is (parts_of core.0) there (sym again ∙ read) in
      record {
        core = record {
          core = core.0;
          is = subst (λ (b : Bool). IsCoreBy b bytes core.0) (sym begins) core.1;
          read = rw begins (ap parts_read again);
        };
        are = record {
          order_is = ap (λ p. p.order) same;
          contexts_are = ap (λ p. p.contexts) same;
          words_are = λ addr aligned. ap (λ p. words_of_segments p.segments addr) same
              ∙ place_words contents.order bytes contents.spans addr aligned;
        };
      }

  -- of an ELF file
  pub elf_contents : begins_as_elf bytes ≡ true → judgement bytes ≡ Ok tt → contents.order ≡ order_of bytes
      → contents.contexts ≡ contexts_of bytes → AreBoundsOf (by_start (kept_segments bytes)) contents.spans → IsContentsOf bytes contents
  elf_contents begins none order contexts bounds =
      let stands = core_stands bytes are none in
      record {
        core = record {
          core = stands.core;
          is = subst (λ (b : Bool). IsCoreBy b bytes stands.core) (sym begins) stands.is;
          read = rw begins (ap parts_read stands.read);
        };
        are = record {
          order_is = stands.is.order ∙ sym order;
          contexts_are = stands.is.contexts_are ∙ sym contexts;
          words_are = λ addr aligned.
              ap (λ ss. words_of_segments ss addr) stands.segments_are
              ∙ words_there_are (order_of bytes) bytes (by_start (kept_segments bytes)) contents.spans addr bounds aligned
              ∙ ap (λ (o : ℕ). option_map (word_there o bytes) (place_in contents.spans addr)) (sym order);
        };
      }

-- ---- why a file was refused

fault_by : (elf : Bool) (bytes : List ℕ) (e : PageError) → begins_as_elf bytes ≡ elf → IsFaultBy elf bytes e → IsFault bytes e
fault_by elf bytes e begins fault = subst (λ (b : Bool). IsFaultBy b bytes e) (sym begins) fault

pub core_fault : (e : PageError) (bytes : List ℕ) → begins_as_elf bytes ≡ false → Fails e (reading bytes) → IsFaultOf bytes e
core_fault (Fault at why) bytes begins failed = fault_by false bytes (Fault at why) begins failed
core_fault (Elf at why) bytes begins failed = absurd failed
core_fault NoFile bytes begins failed = absurd failed
core_fault Failed bytes begins failed = tt
core_fault OutOfMemory bytes begins failed = tt

pub free_fault : (e : PageError) (bytes : List ℕ) → UnlessFreeError e ⊥ → IsFaultOf bytes e
free_fault (Fault at why) bytes never = absurd never
free_fault (Elf at why) bytes never = absurd never
free_fault NoFile bytes never = absurd never
free_fault Failed bytes never = tt
free_fault OutOfMemory bytes never = tt

pub refused_free : (r : Refused) → UnlessFreeError (page_error_of_refused r) ⊥
refused_free refused.Failed = tt
refused_free refused.OutOfMemory = tt

pub elf_fault : (e : ElfReadError) (bytes : List ℕ) → begins_as_elf bytes ≡ true → ReadFails e (judgement bytes)
    → IsFaultOf bytes (page_error_of_elf e)
elf_fault (elf.Fault at why) bytes begins failed = fault_by true bytes (Elf at why) begins failed
elf_fault elf.Failed bytes begins failed = tt
elf_fault elf.OutOfMemory bytes begins failed = tt

-- a core has no fault
opens_by : (elf : Bool) (e : PageError) (bytes : List ℕ) (c : CoreImage) → IsFaultBy elf bytes e → IsCoreBy elf bytes c → ⊥
opens_by true (Elf at why) bytes c fault is = elf_not_refused bytes c is (at, why, fault)
opens_by true (Fault at why) bytes c fault is = fault
opens_by true NoFile bytes c fault is = fault
opens_by true Failed bytes c fault is = fault
opens_by true OutOfMemory bytes c fault is = fault
opens_by false (Fault at why) bytes c fault is = core_not_refused bytes (c, is) (at, why, fault)
opens_by false (Elf at why) bytes c fault is = fault
opens_by false NoFile bytes c fault is = fault
opens_by false Failed bytes c fault is = fault
opens_by false OutOfMemory bytes c fault is = fault

pub no_fault : (bytes : List ℕ) (c : CoreImage) (e : PageError) → IsFileOf bytes c → IsFault bytes e → ⊥
no_fault bytes c e is fault = opens_by (begins_as_elf bytes) e bytes c fault is

pub core_opens : (e : PageError) (bytes : List ℕ) (c : CoreImage) (P : Type 0) → IsFaultOf bytes e → IsFileOf bytes c → UnlessFreeError e P
core_opens (Fault at why) bytes c P fault is = absurd (no_fault bytes c (Fault at why) is fault)
core_opens (Elf at why) bytes c P fault is = absurd (no_fault bytes c (Elf at why) is fault)
core_opens NoFile bytes c P fault is = absurd (no_fault bytes c NoFile is fault)
core_opens Failed bytes c P fault is = tt
core_opens OutOfMemory bytes c P fault is = tt

-- a file has one fault
abbrev page_of_core : Result Parts ReadRefusal → PageError
page_of_core (Err r) = Fault r.0 r.1
page_of_core (Ok p) = NoFile

abbrev page_of_elf : {A : Type 0} → Result A (ℕ × ElfFault) → PageError
page_of_elf (Err r) = Elf r.0 r.1
page_of_elf (Ok p) = NoFile

one_by : (elf : Bool) (bytes : List ℕ) (e f : PageError) → IsFaultBy elf bytes e → IsFaultBy elf bytes f → e ≡ f
one_by true bytes (Elf at why) (Elf place fault) a b = ap page_of_elf (sym a ∙ b)
one_by true bytes (Elf at why) (Fault place fault) a b = absurd b
one_by true bytes (Elf at why) NoFile a b = absurd b
one_by true bytes (Elf at why) Failed a b = absurd b
one_by true bytes (Elf at why) OutOfMemory a b = absurd b
one_by true bytes (Fault at why) f a b = absurd a
one_by true bytes NoFile f a b = absurd a
one_by true bytes Failed f a b = absurd a
one_by true bytes OutOfMemory f a b = absurd a
one_by false bytes (Fault at why) (Fault place fault) a b = ap page_of_core (sym a ∙ b)
one_by false bytes (Fault at why) (Elf place fault) a b = absurd b
one_by false bytes (Fault at why) NoFile a b = absurd b
one_by false bytes (Fault at why) Failed a b = absurd b
one_by false bytes (Fault at why) OutOfMemory a b = absurd b
one_by false bytes (Elf at why) f a b = absurd a
one_by false bytes NoFile f a b = absurd a
one_by false bytes Failed f a b = absurd a
one_by false bytes OutOfMemory f a b = absurd a

pub one_fault : (bytes : List ℕ) (e f : PageError) → IsFault bytes e → IsFault bytes f → e ≡ f
one_fault bytes = one_by (begins_as_elf bytes) bytes

-- the fault of a file is what it is refused for
pub refused_for : (A : Type 0) (bytes : List ℕ) (e f : PageError) → IsFaultOf bytes e → IsFault bytes f
    → (let answer : PageError → Result A PageError = λ x. Err x in UnlessFreeError e (answer e ≡ answer f))
refused_for A bytes (Fault at why) f fault is = ap (λ (x : PageError). Err x) (one_fault bytes (Fault at why) f fault is)
refused_for A bytes (Elf at why) f fault is = ap (λ (x : PageError). Err x) (one_fault bytes (Elf at why) f fault is)
refused_for A bytes NoFile f fault is = ap (λ (x : PageError). Err x) (one_fault bytes NoFile f fault is)
refused_for A bytes Failed f fault is = tt
refused_for A bytes OutOfMemory f fault is = tt

-- what reading a core file answers
abbrev parts_by : List ℕ → Contents → Parts
parts_by bytes x = record { order = x.order; contexts = x.contexts; segments = segments_there x.order bytes x.spans }

pub core_is_read : (r : Result Contents PageError) (bytes : List ℕ) → AreBytes bytes → begins_as_elf bytes ≡ false
    → Gives (parts_by bytes) r (reading bytes) → IfOk r (IsContentsOf bytes)
core_is_read (Ok x) bytes are begins read = core_contents bytes x are begins read
core_is_read (Err e) bytes are begins read = tt

pub core_is_refused : (r : Result Contents PageError) (bytes : List ℕ) → begins_as_elf bytes ≡ false
    → Gives (parts_by bytes) r (reading bytes) → IfErr r (IsFaultOf bytes)
core_is_refused (Ok x) bytes begins read = tt
core_is_refused (Err e) bytes begins read = core_fault e bytes begins read

-- ---- what is told of it

-- what is told of a core's file is what the core tells
pub tells_core : (told : FileTold) (bytes : List ℕ) (c : CoreImage) → Holds told bytes → StandsForCore bytes → IsFileOf bytes c
    → told_by_file told ≡ told_by c
tells_core told bytes c holds stands is =
    ap told_by_file holds ∙ ap told_by_parts stands.read ∙ ap told_by (file_unique bytes stands.core c stands.is is)

-- parts that are read are the core's
pub same_parts : (bytes : List ℕ) (p q : Parts) → parts_of_bytes bytes ≡ Some p → parts_of_bytes bytes ≡ Some q → p ≡ q
same_parts bytes p q a b = some_is p q (sym a ∙ b)
  where
    some_is : (x y : Parts) → (let some : Parts → Option Parts = λ z. Some z in some x ≡ some y) → x ≡ y
    some_is x y e = cc
