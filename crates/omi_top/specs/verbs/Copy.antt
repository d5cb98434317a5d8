-- What verbs that write a copy of a core have in common, where `copies` says which bytes are the copy of a file, and which line tells of it.
use Rattle.std.specs.Prelude.{◌≡◌, ℕ, List, [], Option, Some, None, Ok, Err, ⊤}
use Rattle.omi_outside.specs.Outside.{Told}
use Rattle.omi_outside.specs.declared.status.Status.TheVariants as status
use Rattle.omi_frame.specs.Verb.{Answer, Gives, Verb}
use Rattle.omi_top.specs.Kinds.{IsCore, IsUnwrittenBy, to_write}
use Rattle.omi_top.specs.Questions.{IsCoreRefusal}

-- an answer by the content of the core's file: a refusal alone, or the bytes of a copy and the line
abbrev pub IsCopyAnswer : (List ℕ → List ℕ → List ℕ → Type 0) → Option (List ℕ) → Answer → Type 0
IsCopyAnswer copies content (Gives None (Err r)) = IsCoreRefusal content r
IsCopyAnswer copies (Some bytes) (Gives (Some copy) (Ok line)) = copies bytes copy line
IsCopyAnswer copies content answer = ⊥

abbrev pub CopyAnswers : (List ℕ → List ℕ → List ℕ → Type 0) → List ℕ → (List ℕ → Told) → Answer → Type 0
CopyAnswers copies core told answer = (content : Option (List ℕ)) × (told core ≡ Some content) × IsCopyAnswer copies content answer

-- the verb, which refuses a file for its bytes alone
abbrev pub copy_verb : (List ℕ → List ℕ → List ℕ → Type 0) → List ℕ → List ℕ → Verb
copy_verb copies core copy = record {
  names = record { script = []; core = core; later = [] };
  writes = Some copy;
  are_told = λ told. (content : Option (List ℕ)) × (told core ≡ Some content);
  answers = CopyAnswers copies core;
  is_to_write = to_write (CopyAnswers copies core);
  reads_first = IsCore;
  reads_back = λ read. ⊥;
  refuses_words = ⊥;
  refuses_core = λ s. s ≡ status.Core;
  wrote_nothing = IsUnwrittenBy ⊤;
}
