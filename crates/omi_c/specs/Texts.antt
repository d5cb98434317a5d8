-- Texts that are put at the front of bytes which C lends, and the answers that go with them.
use Rattle.std.specs.Prelude.{◌==◌, ℕ, List, ◌++◌, length, take, drop, false, Ok, Err}
use Rattle.omi_c.specs.declared.answers.Entry.{Entry}
use Rattle.omi_c.specs.declared.answers.Text.{Text}
use Rattle.omi_c.specs.declared.answers.TheConstants.{OK}
use Rattle.omi_c.specs.declared.causes.Cause.{Cause}
use Rattle.omi_c.specs.Answers.{refusal_of, text_of}
use Rattle.omi_c.specs.Replies.{Reply}

-- the bytes after a text was put at their front. What has no room is left out, and what is behind the text stays
abbrev pub put_over : List ℕ → List ℕ → List ℕ
put_over text before = take (length before) text ++ drop (length text) before

-- the bytes after a reply, whose text is put
abbrev pub bytes_after : List ℕ → Reply (List ℕ) → List ℕ
bytes_after before (Ok text) = put_over text before
bytes_after before (Err cause) = before

-- the answer for a text, and the bytes after it
abbrev pub text_in : List ℕ → Reply (List ℕ) → Text × List ℕ
text_in before reply = (text_of reply, bytes_after before reply)

-- no entry
abbrev pub entry_by : Cause → Entry
entry_by cause = record { code = (refusal_of cause).code; next = 0; scope = 0; more = false; length = 0 }

-- the entry of an enumeration, and the bytes after its name
abbrev pub state_in : List ℕ → Reply (ℕ × List ℕ × ℕ) → Entry × List ℕ
state_in before (Ok e) =
    (record { code = OK; next = e.0; scope = 0; more = e.2 == 1; length = length e.1 }, put_over e.1 before)
state_in before (Err cause) = (entry_by cause, before)

abbrev pub icv_in : List ℕ → Reply (ℕ × List ℕ × ℕ × ℕ) → Entry × List ℕ
icv_in before (Ok e) =
    (record { code = OK; next = e.0; scope = e.2; more = e.3 == 1; length = length e.1 }, put_over e.1 before)
icv_in before (Err cause) = (entry_by cause, before)
