-- The bytes that are written for the native ids of the threads are the core of these threads.
use Rattle.std.proofs.Common.{◌≡◌, ℕ, List, subst}
use Rattle.omi_corefile.specs.Spelling.{Core, HoldsImage, core_bytes}
use Rattle.omi_corefile.specs.declared.core_image.CoreImage.{CoreImage}
use Rattle.omi_commands.specs.Cores.{IsCoreOf}

pub core_of_ids : (ids contexts words : List ℕ) → contexts ≡ ids
    → (c : CoreImage) × Core (core_bytes contexts words) c × HoldsImage contexts words c → IsCoreOf ids (core_bytes contexts words) words
core_of_ids ids contexts words are (c, spelled, image) = record { core = c; spelled = spelled; image = subst (λ (ns : List ℕ). HoldsImage ns words c) are image }
