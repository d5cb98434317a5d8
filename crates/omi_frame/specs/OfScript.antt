-- Verbs that read a script and nothing else, and do something of its program.
use Rattle.std.specs.Prelude.{◌≡◌, ◌⊎◌, ℕ, List, [], Option, Some, None, Ok, Err, ⊤}
use Rattle.omi_outside.specs.declared.status.Status.{Status}
use Rattle.omi_outside.specs.declared.status.Status.TheVariants as status
use Rattle.omi_script.specs.declared.program.Program.{Program}
use Rattle.omi_frame.specs.Scripts.{IsProgramIn, IsScriptRefusal}
use Rattle.omi_frame.specs.Verb.{Answer, Gives, Verb, name_or_none}
use Rattle.omi_frame.specs.declared.refusal.Input.{Input}
use Rattle.omi_frame.specs.declared.refusal.Input.TheVariants as input
use Rattle.omi_frame.specs.declared.refusal.Refusal.{Refusal}
use Rattle.omi_frame.specs.declared.refusal.Refusal.TheVariants as refusal

-- what such a verb does
pub record ScriptVerb : Type 1 where
  -- the name of the script
  pub script : List ℕ
  -- the name of the file that it writes, if it writes one
  pub writes : Option (List ℕ)
  -- of a program it writes these bytes, if it writes any, and says this text
  pub gives : Program → Option (List ℕ) → List ℕ → Type 0
  -- it refuses its words for a program, which lacks what they name
  pub lacks : Program → Type 0
  -- there may be such a program
  pub may_lack : Type 0

-- a script's file holds a program for which the words are refused
abbrev pub IsLacking : ScriptVerb → Option (List ℕ) → Type 0
IsLacking v content = (p : Program) × IsProgramIn content p × v.lacks p

-- why the verb refuses, by the content of its script's file: there is none, the grammar refuses its text, or its program lacks what the
-- words name
abbrev pub IsRefusalOf : ScriptVerb → Option (List ℕ) → Refusal → Type 0
IsRefusalOf v content r = IsScriptRefusal content r ⊎ ((r ≡ refusal.Usage) × IsLacking v content)

-- what it gives of the program in its script's file
abbrev pub IsGiven : ScriptVerb → Option (List ℕ) → Option (List ℕ) → List ℕ → Type 0
IsGiven v content written text = (p : Program) × IsProgramIn content p × v.gives p written text

-- its answer, by the content of its script's file: a refusal alone, or what it gives
abbrev pub IsAnswerOf : ScriptVerb → Option (List ℕ) → Answer → Type 0
IsAnswerOf v content (Gives written (Ok text)) = IsGiven v content written text
IsAnswerOf v content (Gives None (Err r)) = IsRefusalOf v content r
IsAnswerOf v content (Gives (Some bytes) (Err r)) = ⊥

-- it ends with this status before it writes
abbrev pub IsBeforeWriting : Status → Type 0
IsBeforeWriting status.Success = ⊥
IsBeforeWriting status.WriteFault = ⊥
IsBeforeWriting status.OutOfMemory = ⊥
IsBeforeWriting other = ⊤

-- it reads a script
abbrev pub IsScript : Input → Type 0
IsScript input.Script = ⊤
IsScript read = ⊥

-- the verb
abbrev pub of_script : ScriptVerb → Verb
of_script v = record {
  names = record { script = v.script; core = name_or_none v.writes; later = [] };
  writes = v.writes;
  are_told = λ told. (content : Option (List ℕ)) × (told v.script ≡ Some content);
  answers = λ told answer. (content : Option (List ℕ)) × (told v.script ≡ Some content) × IsAnswerOf v content answer;
  is_to_write = λ told bytes. (content : Option (List ℕ)) × (told v.script ≡ Some content)
      × (text : List ℕ) × IsGiven v content (Some bytes) text;
  reads_first = IsScript;
  reads_back = λ read. ⊥;
  refuses_words = v.may_lack;
  refuses_core = λ s. ⊥;
  wrote_nothing = λ s. (v.writes ≡ None) ⊎ IsBeforeWriting s;
}
