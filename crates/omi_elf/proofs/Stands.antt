-- A file in which no row of the table tells a fault stands for a core, for no other one, and a file that stands for one has no fault.
use Rattle.std.proofs.Common.{◌≡◌, ℕ, List, Ok, Err, refl, sym, ap, ◌∙◌}
use Rattle.omi_corefile.specs.declared.segment.Segment.{Segment}
use Rattle.omi_corefile.specs.declared.core_image.CoreImage.{CoreImage}
use Rattle.omi_corefile.specs.Refusals.{AreBytes}
use Rattle.omi_corefile.proofs.Bounds.{bounds}
use Rattle.omi_corefile.proofs.FileLaws.{core_is, core_with, parts_of}
use Rattle.omi_word.specs.declared.limits.TheConstants.{FIRST_ADDRESS}
use Rattle.omi_elf.specs.declared.fault.ElfFault.{ElfFault}
use Rattle.omi_elf.specs.ElfCore.{ElfCore}
use Rattle.omi_elf.specs.ElfParts.{segments_in, parts_in, elf_reading}
use Rattle.omi_elf.specs.Table.{judgement, ElfRefused}
use Rattle.omi_elf.proofs.FileLaws.{limits_kept, made, spelled_word, word_spelled}
use Rattle.omi_elf.proofs.Words.{any_from_word, one_by_words, word_from_any}

pub record Stands (bytes : List ℕ) : Type 0 where
  pub core : CoreImage
  pub is : ElfCore bytes core
  pub read : elf_reading bytes ≡ Ok (parts_of core)
  pub segments_are : core.segments ≡ segments_in bytes

pub core_stands : (bytes : List ℕ) → AreBytes bytes → judgement bytes ≡ Ok tt → Stands bytes
core_stands bytes are none =
    let core : CoreImage = core_with (parts_in bytes) (limits_kept bytes are none) in
    record {
      core = core;
      is = record {
        faultless = none;
        order = refl;
        contexts_are = refl;
        words = λ address word. (word_spelled bytes address word, spelled_word bytes address word);
      };
      read = rw none refl;
      segments_are = refl;
    }

pub elf_unique : (bytes : List ℕ) (c d : CoreImage) → ElfCore bytes c → ElfCore bytes d → c ≡ d
elf_unique bytes c d a b =
    let segments : c.segments ≡ d.segments =
    one_by_words FIRST_ADDRESS FIRST_ADDRESS c.segments d.segments (bounds c).segments_rise (bounds d).segments_rise
    (λ x w. (
      λ h. any_from_word d.segments x w ((b.words x w).1 ((a.words x w).0 (word_from_any c.segments x w h))),
      λ h. any_from_word c.segments x w ((a.words x w).1 ((b.words x w).0 (word_from_any d.segments x w h))),
    )) in
    let order : c.order ≡ d.order = a.order ∙ sym b.order in
    let contexts : c.contexts ≡ d.contexts = a.contexts_are ∙ sym b.contexts_are in
    core_is c (parts_of d) d.limits
    (ap (λ (n : ℕ). made n c.contexts c.segments) order
    ∙ ap (λ (xs : List ℕ). made d.order xs c.segments) contexts
    ∙ ap (λ (ss : List Segment). made d.order d.contexts ss) segments)

pub elf_not_refused : (bytes : List ℕ) (c : CoreImage) → ElfCore bytes c → (at : ℕ) × (why : ElfFault) × ElfRefused bytes at why → ⊥
elf_not_refused bytes c is (at, why, refused) = let both = sym is.faultless ∙ refused in cc
