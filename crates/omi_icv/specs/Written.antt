-- What a call leaves that makes a text of what its reads answer.
use Rattle.std.specs.Prelude.{◌≡◌, Result, Ok, Err, IsOk}
use Rattle.omi_word.specs.Words.{Words}
use Rattle.omi_calls.specs.Asked.{Asked}
use Rattle.omi_calls.specs.Told.{Told}
use Rattle.omi_session.specs.declared.rc.Rc.{Rc}
use Rattle.omi_session.specs.declared.rc.Rc.TheVariants.{NoMem, CallbackError}
use Rattle.omi_session.specs.Opened.{Opened}
use Rattle.omi_session.specs.Tells.{Tells}
use Rattle.omi_session.specs.Reads.{Reads, Ran, answer_on}

-- what a call gave, as the bytes of its text
abbrev pub as_bytes : {T A : Type 0} → (T → A) → Result T Rc → Result A Rc
as_bytes bytes (Ok text) = Ok (bytes text)
as_bytes bytes (Err rc) = Err rc

-- the text is the one that is answered. Where memory ran out, one was
abbrev pub IsWritten : {A : Type 0} → Result A Rc → Result A Rc → Type 0
IsWritten (Ok text) answer = answer ≡ Ok text
IsWritten (Err NoMem) answer = IsOk answer
IsWritten (Err CallbackError) answer = Unit {0}
IsWritten (Err rc) answer = answer ≡ Err rc

-- the text is the one that these reads answer on the words that are told
abbrev pub IsWrittenOf : {A : Type 0} → Told → Result A Rc → Reads A → Type 0
IsWrittenOf told result reads = (memory : Words) → Tells told memory
    → IsWritten result (answer_on memory reads)

-- the text is the one that was found, or the call is refused as the reads were. Where memory ran out, one was found
abbrev pub IsTextOf : {A : Type 0} → Result A Rc → Result A Rc → Type 0
IsTextOf (Ok text) found = found ≡ Ok text
IsTextOf (Err NoMem) found = IsOk found
IsTextOf (Err rc) found = found ≡ Err rc

-- these reads found a text, or were refused, and the call gives it
pub record IsWrittenBy {A C F : Type 0} (told : C → Told) (asked : C → Asked) (memory : Words) (old new : Opened C F)
    (result : Result A Rc) (reads : Reads A) : Type 0 where
  pub found : Result A Rc
  pub ran : Ran (told old.table.calls) memory CallbackError reads (asked old.table.calls)
      (asked new.table.calls) found
  pub text : IsTextOf result found

-- a call of a session makes a text of what these reads find on the words that are told
pub record Written {A C F : Type 0} (told : C → Told) (asked : C → Asked) (old new : Opened C F)
    (result : Result A Rc) (reads : Reads A) : Type 0 where
  pub ran : (memory : Words) → Tells (told old.table.calls) memory
      → IsWrittenBy told asked memory old new result reads
