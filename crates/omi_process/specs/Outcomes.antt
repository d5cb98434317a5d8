-- What a reading function of the code answers beside what the definitions give. Want of memory and a failed read may stand in place of any answer.
use Rattle.std.specs.Prelude.{◌≡◌, ℕ, List, Some, None, Result, Ok, Err}
use Rattle.omi_elf.specs.Notes.{description_place}
use Rattle.omi_elf.specs.declared.fault.ElfReadError.{ElfReadError}
use Rattle.omi_elf.specs.declared.fault.ElfReadError.TheVariants as read
use Rattle.omi_process.specs.Reading.{Gathered, Told, Untold, Cut}
use Rattle.omi_process.specs.Table.{Row}
use Rattle.omi_process.specs.declared.fault.ProcessError.{ProcessError}
use Rattle.omi_process.specs.declared.fault.ProcessError.TheVariants.{Fault, Failed, OutOfMemory}
use Rattle.omi_process.specs.declared.fault.ProcessFault.{ProcessFault}
use Rattle.omi_process.specs.declared.fault.ProcessFault.TheVariants.{Elf, ManyHeaders, NoThreads, BadThread}

-- an error of the parts that ELF cores have too
abbrev pub process_error_of : ElfReadError → ProcessError
process_error_of (read.Fault at why) = Fault at (Elf why)
process_error_of read.Failed = Failed
process_error_of read.OutOfMemory = OutOfMemory

-- memory ran out, a read failed, or this is the fault
abbrev pub Tells : ProcessError → Row → Type 0
Tells (Fault at why) row = row ≡ Some (at, why)
Tells Failed row = Unit {0}
Tells OutOfMemory row = Unit {0}

-- the code answered a value exactly where nothing is wrong, and else the fault, unless memory ran out or a read failed
abbrev pub Judges : {X : Type 0} → Result X ProcessError → Row → Type 0
Judges (Ok x) row = row ≡ None
Judges (Err e) row = Tells e row

-- the fault of the notes of threads: one tells none, or the file ends inside one
abbrev pub IsUntold : ℕ → List ℕ → ℕ → ProcessFault → Gathered → Type 0
IsUntold order bytes at (BadThread place) found =
    (note : ℕ) × (found ≡ Untold note) × (at ≡ description_place order bytes note) × (place ≡ description_place order bytes note)
IsUntold order bytes at (Elf why) found = found ≡ Cut
IsUntold order bytes at ManyHeaders found = ⊥
IsUntold order bytes at NoThreads found = ⊥

-- the ids are those that the notes of threads add
abbrev pub IsGathered : ℕ → List ℕ → Result (Unit {0}) ProcessError → List ℕ → Gathered → Type 0
IsGathered order bytes (Ok x) ids found = found ≡ Told ids
IsGathered order bytes (Err (Fault at why)) ids found = IsUntold order bytes at why found
IsGathered order bytes (Err Failed) ids found = Unit {0}
IsGathered order bytes (Err OutOfMemory) ids found = Unit {0}
