-- The faults of a line by number and by name: the least number of the first faulty line decides.
use Rattle.std.specs.Prelude.{ℕ, List, codes}
use Rattle.omi_script.specs.declared.fault.Why.{Why}
use Rattle.omi_script.specs.declared.fault.Why.TheVariants.{NotText, UnknownWord, BadNumber, UnknownName, Repeated, BarrierInTask, BarrierNested, OverLimit, NoMain, Unclosed}

-- a fault's number
abbrev pub number_of_fault : Why → ℕ
number_of_fault NotText = 1
number_of_fault UnknownWord = 2
number_of_fault BadNumber = 3
number_of_fault UnknownName = 4
number_of_fault Repeated = 5
number_of_fault BarrierInTask = 6
number_of_fault BarrierNested = 7
number_of_fault OverLimit = 8
number_of_fault NoMain = 9
number_of_fault Unclosed = 10

-- the bytes of a fault's name
abbrev pub text_of_fault : Why → List ℕ
text_of_fault NotText = codes "NotText"
text_of_fault UnknownWord = codes "UnknownWord"
text_of_fault BadNumber = codes "BadNumber"
text_of_fault UnknownName = codes "UnknownName"
text_of_fault Repeated = codes "Repeated"
text_of_fault BarrierInTask = codes "BarrierInTask"
text_of_fault BarrierNested = codes "BarrierNested"
text_of_fault OverLimit = codes "OverLimit"
text_of_fault NoMain = codes "NoMain"
text_of_fault Unclosed = codes "Unclosed"
