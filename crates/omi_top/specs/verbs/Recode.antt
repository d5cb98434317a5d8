-- The verb `recode`, and what it promises.
use Rattle.std.specs.Prelude.{◌≡◌, ℕ, List, Option, Some, None}
use Rattle.omi_outside.specs.Outside.{Told, holding, put_on}
use Rattle.omi_outside.specs.declared.status.Status.{Status}
use Rattle.omi_outside.specs.declared.status.Status.TheVariants as status
use Rattle.omi_corefile.specs.Refusals.{CoreRefused}
use Rattle.omi_corefile.specs.Spelling.{Core}
use Rattle.omi_corefile.specs.declared.core_image.CoreImage.{CoreImage}
use Rattle.omi_corefile.specs.declared.fault.CoreFault.{CoreFault}
use Rattle.omi_frame.specs.Statuses.{ComesWhere, IsDoneOrFailed}
use Rattle.omi_top.specs.Recode.{IsRecoded, recoded_line, IsRecodedCopy}
use Rattle.omi_frame.specs.Verb.{Verb}
use Rattle.omi_top.specs.verbs.Copy.{copy_verb}

abbrev pub recode_verb : ℕ → List ℕ → List ℕ → Verb
recode_verb order core copy = copy_verb (IsRecodedCopy order) core copy

-- What `recode ORDER CORE CORE2` promises of a call that ends with the status s: told is what the files that it reads tell, old and new what CORE2
-- holds before and behind, and out and after what was put before and behind.
pub record RecodePromise (order : ℕ) (core copy : List ℕ) (s : Status) (told : List ℕ → Told)
    (old new : Told) (out after : Option (List ℕ)) : Type 0 where
  -- a file that is missing is refused, and one that the grammar of core files refuses
  pub no_file : (content : Option (List ℕ)) → told core ≡ Some content
      → ComesWhere status.NoFile s (content ≡ None)
  pub core_fault : (bytes : List ℕ) → told core ≡ Some (Some bytes)
      → ComesWhere status.Core s ((at : ℕ) × (why : CoreFault) × CoreRefused bytes at why)
  -- a core is refused nothing
  pub accepts : (bytes : List ℕ) → told core ≡ Some (Some bytes) → (image : CoreImage) → Core bytes image
      → IsDoneOrFailed s
  -- with success CORE2 holds the core with the contexts and segments of CORE and this order, and what is put is the line
  pub success : (bytes : List ℕ) → told core ≡ Some (Some bytes) → s ≡ status.Success
      → (written : List ℕ) × IsRecoded order bytes written
      × (new ≡ holding old written)
      × (after ≡ put_on out (recoded_line order))
