-- Why a command ends without an answer, what it prints then, and what the program ends with.
use Rattle.std.specs.Prelude.{◌≡◌, ◌⊎◌, ◌≤◌, ◌+◌, ℕ, List, [], ◌∷◌, ◌++◌, length, Option, Some, None, codes, ⊤}
use Rattle.std.specs.Fmt.{decimal}
use Rattle.omi_script.specs.Faults.{number_of_fault, text_of_fault}
use Rattle.omi_script.specs.declared.fault.ScriptFault.{ScriptFault}
use Rattle.omi_script.specs.declared.fault.ScriptError.{ScriptError}
use Rattle.omi_script.specs.declared.fault.ScriptError.TheVariants as error
use Rattle.omi_corefile.specs.Faults.{core_fault_number, core_fault_text}
use Rattle.omi_corefile.specs.declared.fault.CoreFault.{CoreFault}
use Rattle.omi_corefile.specs.declared.fault.CoreError.{CoreError}
use Rattle.omi_corefile.specs.declared.fault.CoreError.TheVariants as core
use Rattle.omi_elf.specs.Faults.{elf_fault_number, elf_fault_text}
use Rattle.omi_elf.specs.declared.fault.ElfFault.{ElfFault}
use Rattle.omi_elf.specs.declared.fault.ElfError.{ElfError}
use Rattle.omi_elf.specs.declared.fault.ElfError.TheVariants as elf
use Rattle.omi_outside.specs.declared.files.Refused.{Refused}
use Rattle.omi_outside.specs.declared.files.Refused.TheVariants as refused
use Rattle.omi_outside.specs.declared.status.Status.{Status}
use Rattle.omi_outside.specs.declared.status.Status.TheVariants as status
use Rattle.omi_layout.specs.Named.{field_text}
use Rattle.omi_text.specs.Numbers.{hexadecimal}
use Rattle.omi_frame.specs.declared.limits.TheConstants.{LINE_ROOM}
use Rattle.omi_frame.specs.declared.names.Names.{Names}
use Rattle.omi_frame.specs.declared.refusal.Input.{Input}
use Rattle.omi_frame.specs.declared.refusal.Input.TheVariants as input
use Rattle.omi_frame.specs.declared.refusal.Refusal.{Refusal}
use Rattle.omi_frame.specs.declared.refusal.Refusal.TheVariants as refusal

-- what a refused write, and the error of a script, of a core or of an ELF core file, are handed on as
abbrev pub refusal_of_write : Refused → Refusal
refusal_of_write refused.Failed = refusal.WriteFault
refusal_of_write refused.OutOfMemory = refusal.OutOfMemory

abbrev pub refusal_of_script : ScriptError → Refusal
refusal_of_script (error.Fault fault) = refusal.Script fault
refusal_of_script error.OutOfMemory = refusal.OutOfMemory

abbrev pub refusal_of_core : CoreError → Refusal
refusal_of_core (core.Fault at why) = refusal.Core at why
refusal_of_core core.OutOfMemory = refusal.OutOfMemory

abbrev pub refusal_of_elf : ElfError → Refusal
refusal_of_elf (elf.Fault at why) = refusal.Elf at why
refusal_of_elf elf.OutOfMemory = refusal.OutOfMemory

-- a file can't be read
abbrev pub IsReadFault : Refusal → Type 0
IsReadFault (refusal.ReadFault read) = ⊤
IsReadFault r = ⊥

-- a file of this kind can't be read, or memory ran out
abbrev pub IsUnread : Input → Refusal → Type 0
IsUnread read r = (r ≡ refusal.ReadFault read) ⊎ (r ≡ refusal.OutOfMemory)

-- a fault of writing, or want of memory
abbrev pub IsLate : Refusal → Type 0
IsLate refusal.WriteFault = ⊤
IsLate refusal.OutOfMemory = ⊤
IsLate r = ⊥

-- the status of a refusal
abbrev pub status_of : Refusal → Status
status_of refusal.Usage = status.Usage
status_of (refusal.NoFile read) = status.NoFile
status_of (refusal.ReadFault read) = status.ReadFault
status_of refusal.WriteFault = status.WriteFault
status_of (refusal.Script fault) = status.Script
status_of (refusal.Core at why) = status.Core
status_of (refusal.Elf at why) = status.Core
status_of (refusal.Damaged addr field) = status.Damaged
status_of (refusal.Cycle addr) = status.Damaged
status_of refusal.Incompatible = status.Incompatible
status_of refusal.OutOfMemory = status.OutOfMemory

-- line, number and name of a fault of a script
abbrev pub fault_line : ScriptFault → List ℕ
fault_line fault =
    codes "script " ++ (decimal fault.line ++ (codes " " ++ (decimal (number_of_fault fault.why)
    ++ (codes " " ++ (text_of_fault fault.why ++ 10 ∷ [])))))

-- place, number and name of a fault of a core, and of one of an ELF core file, whose table has numbers of its own
abbrev pub numbered_line : ℕ → ℕ → List ℕ → List ℕ
numbered_line at number name =
    codes "core " ++ (decimal at ++ (codes " " ++ (decimal number ++ (codes " " ++ (name ++ 10 ∷ [])))))

abbrev pub core_fault_line : ℕ → CoreFault → List ℕ
core_fault_line at why = numbered_line at (core_fault_number why) (core_fault_text why)

abbrev pub elf_fault_line : ℕ → ElfFault → List ℕ
elf_fault_line at why = numbered_line at (elf_fault_number why) (elf_fault_text why)

-- the address of a record, of a pointer or of a word of the layout table, and the name of the field, which is `layout` for the table
abbrev pub damaged_line : ℕ → ℕ → List ℕ
damaged_line addr field =
    codes "damaged " ++ (hexadecimal addr ++ (codes " " ++ (field_text field ++ 10 ∷ [])))

-- the address that a chain meets a second time
abbrev pub cycle_line : ℕ → List ℕ
cycle_line addr = codes "cycle " ++ (hexadecimal addr ++ 10 ∷ [])

-- the names that a command gives to a script, to a core and to a later core of the same target. One that it does not give is empty
pub record Named : Type 0 where
  pub script : List ℕ
  pub core : List ℕ
  pub later : List ℕ

abbrev pub named : Names → Named
named n = record { script = n.script.now; core = n.core.now; later = n.later.now }

-- the name of what a command reads
abbrev pub input_name : Named → Input → List ℕ
input_name names input.Script = names.script
input_name names input.Core = names.core
input_name names input.Later = names.later

-- the line that a refusal prints
abbrev pub refusal_line : Named → Refusal → Option (List ℕ)
refusal_line names refusal.Usage = Some (codes "usage" ++ 10 ∷ [])
refusal_line names (refusal.NoFile read) =
    Some (codes "no file " ++ (input_name names read ++ 10 ∷ []))
refusal_line names (refusal.ReadFault read) =
    Some (codes "read fault " ++ (input_name names read ++ 10 ∷ []))
refusal_line names (refusal.Script fault) = Some (fault_line fault)
refusal_line names (refusal.Core at why) = Some (core_fault_line at why)
refusal_line names (refusal.Elf at why) = Some (elf_fault_line at why)
refusal_line names (refusal.Damaged addr field) = Some (damaged_line addr field)
refusal_line names (refusal.Cycle addr) = Some (cycle_line addr)
refusal_line names refusal.Incompatible = Some (codes "incompatible" ++ 10 ∷ [])
refusal_line names refusal.WriteFault = None
refusal_line names refusal.OutOfMemory = None

-- a line with any of these names has room in so many bytes
pub record HasRoom (names : Named) (room : ℕ) : Type 0 where
  pub of_script : length names.script + LINE_ROOM ≤ room
  pub of_core : length names.core + LINE_ROOM ≤ room
  pub of_later : length names.later + LINE_ROOM ≤ room
