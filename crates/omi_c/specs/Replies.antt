-- What is answered to the reads of an inquiry over the words that are known.
use Rattle.std.specs.Prelude.{◌==◌, ℕ, List, Result, Ok, Err, if◌then◌else◌}
use Rattle.omi_session.specs.declared.rc.Rc.{Rc}
use Rattle.omi_session.specs.Reads.{Reads, Answer, Read}
use Rattle.omi_c.specs.declared.answers.TheConstants.{OK}
use Rattle.omi_c.specs.declared.causes.Cause.{Cause}
use Rattle.omi_c.specs.declared.causes.Cause.TheVariants.{NoLayout, Needs, Says}
use Rattle.omi_c.specs.declared.judged.Judged.{Judged}
use Rattle.omi_c.specs.declared.known.Known.{Known}
use Rattle.omi_c.specs.Judged.{refusal_in}
use Rattle.omi_c.specs.Known.{is_unknown, word_at}

-- the value, or why there is none
abbrev pub Reply : Type 0 → Type 0
Reply A = Result A Cause

abbrev pub replied : {A : Type 0} → Result A Rc → Reply A
replied (Ok x) = Ok x
replied (Err rc) = Err (Says rc)

-- an inquiry over known words: each word that it reads is the known one, up to its answer or to the first word that isn't known
abbrev pub asked_on : {A : Type 0} → List Known → Reads A → Reply A
asked_on known (Answer answer) = replied answer
asked_on known (Read addr more) =
    if is_unknown known addr then Err (Needs addr) else asked_on known (more (word_at known addr))

-- the same in the layout of a table, where it was judged to be one
abbrev pub asked_in : {A : Type 0} → Judged → List Known → (List ℕ → Reads A) → Reply A
asked_in table known reads =
    if table.code == OK then asked_on known (reads table.words) else Err (NoLayout (refusal_in table))
