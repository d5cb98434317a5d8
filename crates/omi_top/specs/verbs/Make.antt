-- The verb `make`: its answers, and what it promises.
use Rattle.std.specs.Prelude.{◌≡◌, ℕ, List, Option, ⊤, [], Some, Ok}
use Rattle.omi_outside.specs.Outside.{Told, holding, put_on}
use Rattle.omi_outside.specs.declared.status.Status.{Status}
use Rattle.omi_outside.specs.declared.status.Status.TheVariants as status
use Rattle.omi_script.specs.Grammar.{Grammar}
use Rattle.omi_script.specs.declared.program.Program.{Program}
use Rattle.omi_top.specs.Make.{IsMade, make_text}
use Rattle.omi_frame.specs.Verb.{Answer, Gives, Verb}
use Rattle.omi_top.specs.Kinds.{IsUnwrittenBy, to_write}

-- an answer of `make`: its text, which is a program, and the line on a run of this program
abbrev pub IsMakeAnswer : ℕ → Answer → Type 0
IsMakeAnswer n (Gives (Some script) (Ok line)) =
    (script ≡ make_text n) × ((p : Program) × Grammar script p × IsMade n p line)
IsMakeAnswer n answer = ⊥

-- the verb, which reads nothing
abbrev pub make_verb : ℕ → List ℕ → Verb
make_verb n script = record {
  names = record { script = script; core = []; later = [] };
  writes = Some script;
  are_told = λ told. ⊤;
  answers = λ told. IsMakeAnswer n;
  is_to_write = to_write (λ told. IsMakeAnswer n);
  reads_first = λ read. ⊥;
  reads_back = λ read. ⊥;
  refuses_words = ⊥;
  refuses_core = λ s. ⊥;
  wrote_nothing = IsUnwrittenBy ⊤;
}

-- all is done, or a write failed or memory ran out
abbrev pub IsWritingStatus : Status → Type 0
IsWritingStatus status.Success = ⊤
IsWritingStatus status.WriteFault = ⊤
IsWritingStatus status.OutOfMemory = ⊤
IsWritingStatus other = ⊥

-- What `make N SCRIPT` promises of a call that ends with the status s: old and new are what SCRIPT holds before and behind, and out and after what
-- was put before and behind.
pub record MakePromise (n : ℕ) (script : List ℕ) (s : Status) (old new : Told)
    (out after : Option (List ℕ)) : Type 0 where
  -- it is refused nothing, and reads nothing
  pub accepts : IsWritingStatus s
  -- with success the script holds its text, which is a program, and what is put is the line on a run of this program
  pub success : s ≡ status.Success
      → (p : Program) × (line : List ℕ) × Grammar (make_text n) p × IsMade n p line
      × (new ≡ holding old (make_text n)) × (after ≡ put_on out line)
