-- How often the calls of real files have failed, what of them is not handed to a device yet, and which write the system refused last.
use Rattle.std.specs.Prelude.{◌≡◌, ◌⊎◌, IsSome, Option, ℕ}
use Rattle.omi_outside.specs.declared.disk.DiskFiles.{DiskFiles}
use Rattle.omi_outside.specs.declared.fault.Fault.{Fault}

abbrev pub disk_read_faults : {R S T : Type 0} → DiskFiles R S T → ℕ
disk_read_faults files = files.reads

abbrev pub disk_write_faults : {R S T : Type 0} → DiskFiles R S T → ℕ
disk_write_faults files = files.writes

-- how many creates and appends were made since all that was written was handed to its device
abbrev pub disk_unsynced : {R S T : Type 0} → DiskFiles R S T → ℕ
disk_unsynced files = files.unsynced

abbrev pub disk_fault : {R S T : Type 0} → DiskFiles R S T → Option Fault
disk_fault files = files.fault

-- a call that fails leaves a write that is told, and each other one leaves what was told
abbrev pub TellsFault : Option Fault → Option Fault → Type 0 → Type 0
TellsFault before now failure = (failure → IsSome now) × ((failure → ⊥) → now ≡ before)
