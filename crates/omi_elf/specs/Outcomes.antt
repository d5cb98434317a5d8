-- What a reading function of the code answers beside what the definitions give. Want of memory may stand in place of any answer, and so may a
-- failed read where pieces of a file are read.
use Rattle.std.specs.Prelude.{◌≡◌, ℕ, List, Result, Ok, Err}
use Rattle.omi_elf.specs.declared.fault.ElfError.{ElfError}
use Rattle.omi_elf.specs.declared.fault.ElfError.TheVariants.{Fault, OutOfMemory}
use Rattle.omi_elf.specs.declared.fault.ElfReadError.{ElfReadError}
use Rattle.omi_elf.specs.declared.fault.ElfReadError.TheVariants as read
use Rattle.omi_elf.specs.Table.{ElfRefusal, Judged, ElfRefused}

-- memory ran out, or this is the fault
abbrev pub Fails : {Y : Type 0} → ElfError → Result Y ElfRefusal → Type 0
Fails (Fault at why) judged = judged ≡ Err (at, why)
Fails OutOfMemory judged = Unit {0}

-- the code answered a value exactly where nothing is wrong, and else the fault, unless memory ran out
abbrev pub Judges : {X : Type 0} → Result X ElfError → Judged → Type 0
Judges (Ok x) row = row ≡ Ok tt
Judges (Err e) row = Fails e row

-- the same where pieces of a file are read, unless a read failed
abbrev pub ReadFails : {Y : Type 0} → ElfReadError → Result Y ElfRefusal → Type 0
ReadFails (read.Fault at why) judged = judged ≡ Err (at, why)
ReadFails read.Failed judged = Unit {0}
ReadFails read.OutOfMemory judged = Unit {0}

abbrev pub ReadJudges : {X : Type 0} → Result X ElfReadError → Judged → Type 0
ReadJudges (Ok x) row = row ≡ Ok tt
ReadJudges (Err e) row = ReadFails e row

-- a fact about an answer, unless memory ran out
abbrev pub UnlessMemory : {X : Type 0} → Result X ElfError → Type 0 → Type 0
UnlessMemory (Err OutOfMemory) P = Unit {0}
UnlessMemory (Err (Fault at why)) P = P
UnlessMemory (Ok x) P = P

-- the fault of an error is the file's
abbrev pub IsFaultOf : List ℕ → ElfError → Type 0
IsFaultOf bytes (Fault at why) = ElfRefused bytes at why
IsFaultOf bytes OutOfMemory = Unit {0}
