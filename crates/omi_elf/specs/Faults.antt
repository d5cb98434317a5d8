-- The number and the name of each fault of an ELF core file, and what an error is where the file is read in pieces.
use Rattle.std.specs.Prelude.{ℕ, List, codes}
use Rattle.omi_elf.specs.declared.fault.ElfError.{ElfError}
use Rattle.omi_elf.specs.declared.fault.ElfError.TheVariants as decoded
use Rattle.omi_elf.specs.declared.fault.ElfFault.{ElfFault}
use Rattle.omi_elf.specs.declared.fault.ElfFault.TheVariants.{NotElf, Class, Order, NotCore, HeaderSize, Short, Unaligned, TooLarge, Overlap, NoContexts, BadContext, TooMany}
use Rattle.omi_elf.specs.declared.fault.ElfReadError.{ElfReadError}
use Rattle.omi_elf.specs.declared.fault.ElfReadError.TheVariants as read

abbrev pub elf_fault_number : ElfFault → ℕ
elf_fault_number NotElf = 21
elf_fault_number (Class b) = 22
elf_fault_number (Order b) = 23
elf_fault_number (NotCore n) = 24
elf_fault_number (HeaderSize n) = 25
elf_fault_number (Short n) = 26
elf_fault_number (Unaligned n) = 27
elf_fault_number (TooLarge n) = 28
elf_fault_number (Overlap n) = 29
elf_fault_number NoContexts = 30
elf_fault_number (BadContext n) = 31
elf_fault_number (TooMany n) = 32

abbrev pub elf_fault_text : ElfFault → List ℕ
elf_fault_text NotElf = codes "NotElf"
elf_fault_text (Class b) = codes "Class"
elf_fault_text (Order b) = codes "Order"
elf_fault_text (NotCore n) = codes "NotCore"
elf_fault_text (HeaderSize n) = codes "HeaderSize"
elf_fault_text (Short n) = codes "Short"
elf_fault_text (Unaligned n) = codes "Unaligned"
elf_fault_text (TooLarge n) = codes "TooLarge"
elf_fault_text (Overlap n) = codes "Overlap"
elf_fault_text NoContexts = codes "NoContexts"
elf_fault_text (BadContext n) = codes "BadContext"
elf_fault_text (TooMany n) = codes "TooMany"

-- the error of bytes in memory, as one of reading
abbrev pub read_error_of : ElfError → ElfReadError
read_error_of (decoded.Fault at why) = read.Fault at why
read_error_of decoded.OutOfMemory = read.OutOfMemory
