-- The core that a file holds which was opened.
use Rattle.std.proofs.Common.{◌≡◌, ℕ, List, Option, Some, None}
use Rattle.omi_corefile.specs.declared.core_image.CoreImage.{CoreImage}
use Rattle.omi_outside.specs.Outside.{Told}
use Rattle.omi_page.specs.CoreFiles.{IsFileOf, StandsForCore}
use Rattle.omi_page.specs.Told.{told_by_file}
use Rattle.omi_page.proofs.OpenedFiles.{tells_core}
use Rattle.omi.specs.Targets.{TellsCore}

pub held : (told : Told) (content : Option (List ℕ)) (threads : List ℕ) → told ≡ Some content → (told ≡ Some None → ⊥)
    → ((bytes : List ℕ) → told ≡ Some (Some bytes) → StandsForCore bytes)
    → ((bytes : List ℕ) (core : CoreImage) → told ≡ Some (Some bytes) → IsFileOf bytes core → threads ≡ core.contexts)
    → TellsCore content (told_by_file told) threads
held told None threads is there stands ids = absurd (there is)
held told (Some bytes) threads is there stands ids =
    let s = stands bytes is in
    record { core = s.core; holds = s.is; told_is = tells_core told bytes s.core is s s.is; threads_are = ids bytes s.core is s.is }
