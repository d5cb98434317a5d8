-- What a step along a chain of regions or tasks answers, by what the inquiry for the next object does.
use Rattle.std.specs.Prelude.{◌≡◌, ◌==◌, ◌||◌, ◌⊎◌, ℕ, ◌+◌, ◌≤◌, Bool, true, false, Option, Some, None, Result, Ok, Err, IsOk}
use Rattle.std.specs.FinMap.{get}
use Rattle.std.specs.Option.{option_map}
use Rattle.std.specs.Ordering.{nat_cmp}
use Rattle.std.specs.BTreeSet.{contains}
use Rattle.omi_calls.specs.Asked.{Asked}
use Rattle.omi_calls.specs.Told.{Told}
use Rattle.omi_handle.specs.Ledger.{Ledger}
use Rattle.omi_handle.specs.declared.handle.Held.{Held}
use Rattle.omi_handle.specs.declared.handle.Kind.{Kind}
use Rattle.omi_session.specs.Made.{AddsHandle}
use Rattle.omi_session.specs.Opened.{Opened}
use Rattle.omi_session.specs.Reads.{Reads, Ran, answer_on}
use Rattle.omi_session.specs.Tells.{Tells}
use Rattle.omi_session.specs.declared.rc.Rc.{Rc}
use Rattle.omi_session.specs.declared.rc.Rc.TheVariants.{Unavailable, NoMem, CallbackError}
use Rattle.omi_word.specs.Words.{Words}
use Rattle.omi.specs.declared.chain.Chain.{Chain}
use Rattle.omi.specs.declared.chain.ChainError.{ChainError}
use Rattle.omi.specs.declared.chain.ChainError.TheVariants.{Cycle, Refused}

-- the chain came by the record at this address
abbrev pub came_by : Chain → ℕ → Bool
came_by chain address = contains nat_cmp chain.records address

-- this is the address of the object's record
abbrev pub is_record_of : Option Held → ℕ → Bool
is_record_of None address = false
is_record_of (Some h) address = h.addr == address

-- the chain came by the records of before, and by none else
abbrev pub StaysBy : Chain → Chain → Type 0
StaysBy old new = (address : ℕ) → came_by new address ≡ came_by old address

-- the chain came by the records of before and by this object's, and by none else
abbrev pub ComesBy : Chain → Chain → Option Held → Type 0
ComesBy old new object =
    (address : ℕ) → came_by new address ≡ (came_by old address || is_record_of object address)

-- By which records the chain came after a step from an object: by its record too, whatever the answer is. Where memory ran out it may
-- be that it came by none but those of before
abbrev pub StepComesBy : {A : Type 0} → Chain → Chain → Option Held → Result A ChainError → Type 0
StepComesBy old new object (Err (Refused NoMem)) = StaysBy old new ⊎ ComesBy old new object
StepComesBy old new object answer = ComesBy old new object

-- a step, by its handle's pair of key and serial
abbrev pub as_step : {H : Type 0} → (H → ℕ × ℕ) → Result (Option H) ChainError
    → Result (Option (ℕ × ℕ)) ChainError
as_step pair (Ok next) = Ok (option_map pair next)
as_step pair (Err e) = Err e

-- A step's answer where an inquiry for the next object answers this: the object, by whose record the chain did not come; that there is
-- none; or its refusal. A Cycle names the record by which it came before
abbrev pub IsStepTo : (ℕ → Bool) → Ledger → Result (Option (ℕ × ℕ)) ChainError → Result Held Rc
    → Type 0
IsStepTo before new (Ok (Some pair)) answer =
    record { object : Held; answers : answer ≡ Ok object; found : get new.held pair ≡ Some object; unmet : before object.addr ≡ false }
IsStepTo before new (Ok None) answer = answer ≡ Err Unavailable
IsStepTo before new (Err (Cycle addr)) answer =
    record { object : Held; answers : answer ≡ Ok object; is : object.addr ≡ addr; met : before addr ≡ true }
IsStepTo before new (Err (Refused NoMem)) answer = Unit {0}
IsStepTo before new (Err (Refused CallbackError)) answer = Unit {0}
IsStepTo before new (Err (Refused Unavailable)) answer = ⊥
IsStepTo before new (Err (Refused rc)) answer = answer ≡ Err rc

-- the same of reads, where the callbacks tell their words
abbrev pub Steps : Told → (ℕ → Bool) → Ledger → Result (Option (ℕ × ℕ)) ChainError → Reads Held
    → Type 0
Steps told before new result reads = (memory : Words) → Tells told memory
    → IsStepTo before new result (answer_on memory reads)

-- what a step comes to, by what the reads of its inquiry found. Where memory ran out for a handle, an object was found
abbrev pub IsStepOf : (ℕ → Bool) → Ledger → Result (Option (ℕ × ℕ)) ChainError → Result Held Rc → Type 0
IsStepOf before new (Ok (Some pair)) found =
    record { object : Held; is : found ≡ Ok object; held : get new.held pair ≡ Some object; unmet : before object.addr ≡ false }
IsStepOf before new (Ok None) found = found ≡ Err Unavailable
IsStepOf before new (Err (Cycle addr)) found =
    record { object : Held; is : found ≡ Ok object; at : object.addr ≡ addr; met : before addr ≡ true }
IsStepOf before new (Err (Refused NoMem)) found = IsOk found
IsStepOf before new (Err (Refused Unavailable)) found = ⊥
IsStepOf before new (Err (Refused rc)) found = found ≡ Err rc

-- these reads were made over a memory, and a step came to this by what they found
pub record IsSteppedBy {C F : Type 0} (told : C → Told) (asked : C → Asked) (memory : Words) (before : ℕ → Bool)
    (old new : Opened C F) (result : Result (Option (ℕ × ℕ)) ChainError) (reads : Reads Held) : Type 0 where
  pub found : Result Held Rc
  pub ran : Ran (told old.table.calls) memory CallbackError reads (asked old.table.calls)
      (asked new.table.calls) found
  pub step : IsStepOf before new.handles result found

-- a step asks for the words of these reads on the words that are told, and for no other. Where memory ran out for the record by which the chain comes,
-- it asks for none
abbrev pub StepAsks : {C F : Type 0} → (C → Told) → (C → Asked) → (ℕ → Bool) → Opened C F → Opened C F
    → Result (Option (ℕ × ℕ)) ChainError → Reads Held → Type 0
StepAsks told asked before old new result reads = (memory : Words) → Tells (told old.table.calls) memory
    → IsSteppedBy told asked memory before old new result reads
    ⊎ ((result ≡ Err (Refused NoMem)) × (asked new.table.calls ≡ asked old.table.calls))

-- a step makes a handle of this kind, or leaves those that are held
abbrev pub MakesStep : Kind → Ledger → Ledger → Result (Option (ℕ × ℕ)) ChainError → Type 0
MakesStep kind old new (Ok (Some pair)) =
    record { object : Held; kind : object.kind ≡ kind; adds : AddsHandle old new pair object }
MakesStep kind old new other =
    record { held : new.held ≡ old.held; made : new.made ≤ old.made + 1 }

-- a callback failed
abbrev pub IsCallbackError : {A : Type 0} → Result A ChainError → Type 0
IsCallbackError (Err (Refused CallbackError)) = Unit {0}
IsCallbackError other = ⊥
