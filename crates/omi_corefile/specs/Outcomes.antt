-- What a file is, and what a reading function of the code answers beside what reading gives. Want of memory may stand in place of any answer.
use Rattle.std.specs.Prelude.{◌≡◌, ℕ, List, Result, Ok, Err}
use Rattle.omi_corefile.specs.declared.core_image.CoreImage.{CoreImage}
use Rattle.omi_corefile.specs.declared.fault.CoreFault.{CoreFault}
use Rattle.omi_corefile.specs.declared.fault.CoreError.{CoreError}
use Rattle.omi_corefile.specs.declared.fault.CoreError.TheVariants.{Fault, OutOfMemory}
use Rattle.omi_corefile.specs.Spelling.{Core}
use Rattle.omi_corefile.specs.Refusals.{ReadRefusal, CoreRefused}

-- memory ran out, or reading gives this fault
abbrev pub Fails : {Y : Type 0} → CoreError → Result Y ReadRefusal → Type 0
Fails (Fault at why) read = read ≡ Err (at, why)
Fails OutOfMemory read = Unit {0}

-- what the code answered, seen by `view`, is what reading gives, unless memory ran out
abbrev pub Gives : {X Y : Type 0} → (X → Y) → Result X CoreError → Result Y ReadRefusal → Type 0
Gives view (Ok x) read = read ≡ Ok (view x)
Gives view (Err e) read = Fails e read

-- a fact about an answer, unless memory ran out
abbrev pub UnlessMemory : {X : Type 0} → Result X CoreError → Type 0 → Type 0
UnlessMemory (Err OutOfMemory) P = Unit {0}
UnlessMemory (Err (Fault at why)) P = P
UnlessMemory (Ok x) P = P

-- the fault of an error is the file's
abbrev pub IsFaultOf : List ℕ → CoreError → Type 0
IsFaultOf bytes (Fault at why) = CoreRefused bytes at why
IsFaultOf bytes OutOfMemory = Unit {0}

-- the file spells some core
abbrev pub IsCore : List ℕ → Type 0
IsCore bytes = (c : CoreImage) × Core bytes c

-- the file has some fault
abbrev pub IsRefused : List ℕ → Type 0
IsRefused bytes = (at : ℕ) × (why : CoreFault) × CoreRefused bytes at why
