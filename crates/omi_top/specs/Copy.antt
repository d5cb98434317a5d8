-- What the reading of a core file that is to be copied can be refused for.
use Rattle.std.specs.Prelude.{⊤}
use Rattle.omi_frame.specs.declared.refusal.Input.TheVariants as input
use Rattle.omi_frame.specs.declared.refusal.Refusal.{Refusal}
use Rattle.omi_frame.specs.declared.refusal.Refusal.TheVariants as refusal

abbrev pub IsOfCoreFile : Refusal → Type 0
IsOfCoreFile (refusal.NoFile input.Core) = ⊤
IsOfCoreFile (refusal.ReadFault input.Core) = ⊤
IsOfCoreFile (refusal.Core at why) = ⊤
IsOfCoreFile refusal.OutOfMemory = ⊤
IsOfCoreFile r = ⊥
