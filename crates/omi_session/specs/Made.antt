-- What a call that makes a handle leaves.
use Rattle.std.specs.Prelude.{◌≡◌, ℕ, ◌+◌, Some, None, Result, Ok, Err, IsOk}
use Rattle.std.specs.FinMap.{get, insert}
use Rattle.omi_word.specs.Words.{Words}
use Rattle.omi_calls.specs.Asked.{Asked}
use Rattle.omi_calls.specs.Told.{Told}
use Rattle.omi_handle.specs.declared.handle.Kind.{Kind}
use Rattle.omi_handle.specs.declared.handle.Held.{Held}
use Rattle.omi_handle.specs.declared.handle.ThreadHandle.{ThreadHandle}
use Rattle.omi_handle.specs.declared.handle.RegionHandle.{RegionHandle}
use Rattle.omi_handle.specs.declared.handle.TaskHandle.{TaskHandle}
use Rattle.omi_handle.specs.Ledger.{Ledger}
use Rattle.omi_session.specs.declared.rc.Rc.{Rc}
use Rattle.omi_session.specs.declared.rc.Rc.TheVariants.{NoMem, CallbackError}
use Rattle.omi_session.specs.Tells.{Tells}
use Rattle.omi_session.specs.Opened.{Opened}
use Rattle.omi_session.specs.Reads.{Reads, Ran, answer_on}

-- the pair of key and serial of a handle
abbrev pub thread_pair : ThreadHandle → ℕ × ℕ
thread_pair h = (h.key, h.serial)

abbrev pub region_pair : RegionHandle → ℕ × ℕ
region_pair h = (h.key, h.serial)

abbrev pub task_pair : TaskHandle → ℕ × ℕ
task_pair h = (h.key, h.serial)

-- what a call gave, as the pair of its handle
abbrev pub as_pair : {H : Type 0} → (H → ℕ × ℕ) → Result H Rc → Result (ℕ × ℕ) Rc
as_pair pair (Ok h) = Ok (pair h)
as_pair pair (Err rc) = Err rc

-- a handle of this object was added under the pair
pub record AddsHandle (old new : Ledger) (pair : ℕ × ℕ) (h : Held) : Type 0 where
  pub unheld : get old.held pair ≡ None
  pub added : new.held ≡ insert old.held pair h
  pub found : get new.held pair ≡ Some h
  pub serial : pair.1 ≡ old.made
  pub counted : new.made ≡ old.made + 1

-- all handles are as they were
pub record KeepsHandles (old new : Ledger) : Type 0 where
  pub held : new.held ≡ old.held
  pub made : new.made ≡ old.made

-- a call that makes a handle of this kind adds one, or leaves the handles as they were. Within room that was reserved it finds memory
abbrev pub Makes : Kind → Ledger → Ledger → Result (ℕ × ℕ) Rc → Type 0
Makes kind old new (Ok pair) =
    record { object : Held; kind : object.kind ≡ kind; adds : AddsHandle old new pair object }
Makes kind old new (Err rc) =
    record { keeps : KeepsHandles old new; full : rc ≡ NoMem → old.room ≡ 0 }

-- the handle stands for the object that is answered. Where memory ran out, one was
abbrev pub IsMade : Ledger → Result (ℕ × ℕ) Rc → Result Held Rc → Type 0
IsMade new (Ok pair) answer =
    record { object : Held; answers : answer ≡ Ok object; found : get new.held pair ≡ Some object }
IsMade new (Err NoMem) answer = IsOk answer
IsMade new (Err CallbackError) answer = Unit {0}
IsMade new (Err rc) answer = answer ≡ Err rc

-- the handle stands for the object that these reads answer on the words that are told
abbrev pub IsMadeOf : Told → Ledger → Result (ℕ × ℕ) Rc → Reads Held → Type 0
IsMadeOf told new result reads = (memory : Words) → Tells told memory
    → IsMade new result (answer_on memory reads)

-- the handle stands for the object that was found, or the call is refused as the search was. Where memory ran out, one was found
abbrev pub StandsFor : Ledger → Result (ℕ × ℕ) Rc → Result Held Rc → Type 0
StandsFor new (Ok pair) found =
    record { object : Held; is : found ≡ Ok object; held : get new.held pair ≡ Some object }
StandsFor new (Err NoMem) found = IsOk found
StandsFor new (Err rc) found = found ≡ Err rc

-- these reads found an object, or were refused, and the handle stands for it
pub record IsFoundBy {C F : Type 0} (told : C → Told) (asked : C → Asked) (memory : Words) (old new : Opened C F)
    (result : Result (ℕ × ℕ) Rc) (reads : Reads Held) : Type 0 where
  pub found : Result Held Rc
  pub ran : Ran (told old.table.calls) memory CallbackError reads (asked old.table.calls)
      (asked new.table.calls) found
  pub stands : StandsFor new.handles result found

-- a call of a session makes a handle of the object that these reads find on the words that are told
pub record Answered {C F : Type 0} (told : C → Told) (asked : C → Asked) (old new : Opened C F)
    (result : Result (ℕ × ℕ) Rc) (reads : Reads Held) : Type 0 where
  pub ran : (memory : Words) → Tells (told old.table.calls) memory
      → IsFoundBy told asked memory old new result reads

-- what becomes of an object that was found, or of the refusal
abbrev pub IsHanded : Ledger → Ledger → Result Held Rc → Result (ℕ × ℕ) Rc → Type 0
IsHanded old new (Ok h) (Ok pair) = AddsHandle old new pair h
IsHanded old new (Ok h) (Err rc) =
    record { is : rc ≡ NoMem; keeps : KeepsHandles old new; full : old.room ≡ 0 }
IsHanded old new (Err rc) (Ok pair) = ⊥
IsHanded old new (Err rc) (Err why) = record { is : why ≡ rc; keeps : KeepsHandles old new }
