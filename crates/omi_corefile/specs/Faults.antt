-- The number and the name of each fault of a core file.
use Rattle.std.specs.Prelude.{ℕ, List, codes}
use Rattle.omi_corefile.specs.declared.fault.CoreFault.{CoreFault}
use Rattle.omi_corefile.specs.declared.fault.CoreFault.TheVariants.{BadMagic, Version, Order, Short, TooLarge, SegmentOrder, BadContext, Trailing}

abbrev pub core_fault_number : CoreFault → ℕ
core_fault_number BadMagic = 1
core_fault_number (Version v) = 2
core_fault_number (Order b) = 3
core_fault_number (Short at) = 4
core_fault_number (TooLarge n) = 5
core_fault_number (SegmentOrder at) = 6
core_fault_number (BadContext at) = 7
core_fault_number (Trailing at) = 8

abbrev pub core_fault_text : CoreFault → List ℕ
core_fault_text BadMagic = codes "BadMagic"
core_fault_text (Version v) = codes "Version"
core_fault_text (Order b) = codes "Order"
core_fault_text (Short at) = codes "Short"
core_fault_text (TooLarge n) = codes "TooLarge"
core_fault_text (SegmentOrder at) = codes "SegmentOrder"
core_fault_text (BadContext at) = codes "BadContext"
core_fault_text (Trailing at) = codes "Trailing"
