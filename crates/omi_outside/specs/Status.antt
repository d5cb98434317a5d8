-- The exit status of a process: the numbers 0 to 9, in the order of the variants.
use Rattle.std.specs.Prelude.{ℕ}
use Rattle.omi_outside.specs.declared.status.Status.{Status}
use Rattle.omi_outside.specs.declared.status.Status.TheVariants.{Success, Usage, NoFile, ReadFault, WriteFault, Script, Core, Damaged, Incompatible, OutOfMemory}

abbrev pub code_of : Status → ℕ
code_of Success = 0
code_of Usage = 1
code_of NoFile = 2
code_of ReadFault = 3
code_of WriteFault = 4
code_of Script = 5
code_of Core = 6
code_of Damaged = 7
code_of Incompatible = 8
code_of OutOfMemory = 9
