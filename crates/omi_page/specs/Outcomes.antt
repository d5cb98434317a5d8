-- What an opening call answers beside what reading a core file gives. Want of memory and a failed read may stand in place of any
-- answer.
use Rattle.std.specs.Prelude.{◌≡◌, ℕ, List, Result, Ok, Err}
use Rattle.omi_corefile.specs.Refusals.{ReadRefusal}
use Rattle.omi_page.specs.CoreFiles.{IsFault}
use Rattle.omi_page.specs.declared.fault.PageError.{PageError}
use Rattle.omi_page.specs.declared.fault.PageError.TheVariants.{Fault, Elf, NoFile, Failed, OutOfMemory}

-- a refusal of a file that is there: reading gives this fault, or what may stand in place of any answer
abbrev pub Fails : {Y : Type 0} → PageError → Result Y ReadRefusal → Type 0
Fails (Fault at why) read = read ≡ Err (at, why)
Fails (Elf at why) read = ⊥
Fails NoFile read = ⊥
Fails Failed read = Unit {0}
Fails OutOfMemory read = Unit {0}

-- what was answered, seen by `view`, is what reading gives
abbrev pub Gives : {X Y : Type 0} → (X → Y) → Result X PageError → Result Y ReadRefusal → Type 0
Gives view (Ok x) read = read ≡ Ok (view x)
Gives view (Err e) read = Fails e read

-- the fault of a refusal is that of the file's bytes
abbrev pub IsFaultOf : List ℕ → PageError → Type 0
IsFaultOf bytes Failed = Unit {0}
IsFaultOf bytes OutOfMemory = Unit {0}
IsFaultOf bytes error = IsFault bytes error

-- a fact about a refusal, unless a read failed or memory ran out
abbrev pub UnlessFreeError : PageError → Type 0 → Type 0
UnlessFreeError (Fault at why) P = P
UnlessFreeError (Elf at why) P = P
UnlessFreeError NoFile P = P
UnlessFreeError Failed P = Unit {0}
UnlessFreeError OutOfMemory P = Unit {0}

-- a fact about an answer, unless a read failed or memory ran out
abbrev pub UnlessFree : {X : Type 0} → Result X PageError → Type 0 → Type 0
UnlessFree (Ok x) P = P
UnlessFree (Err error) P = UnlessFreeError error P
