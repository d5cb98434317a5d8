-- What verbs of one kind have in common.
use Rattle.std.specs.Prelude.{◌≡◌, ℕ, List, [], Option, Some, None, Result, ⊤}
use Rattle.omi_outside.specs.Outside.{Told}
use Rattle.omi_outside.specs.declared.status.Status.{Status}
use Rattle.omi_outside.specs.declared.status.Status.TheVariants as status
use Rattle.omi_frame.specs.Verb.{Answer, Gives, Verb}
use Rattle.omi_frame.specs.declared.refusal.Input.{Input}
use Rattle.omi_frame.specs.declared.refusal.Input.TheVariants as input
use Rattle.omi_frame.specs.declared.refusal.Refusal.{Refusal}

-- what a verb with these answers has to write: the bytes of an answer, whatever it says
abbrev pub to_write : ((List ℕ → Told) → Answer → Type 0) → (List ℕ → Told) → List ℕ → Type 0
to_write answers told bytes = (says : Result (List ℕ) Refusal) × answers told (Gives (Some bytes) says)

-- A verb wrote nothing where it ends with this status: it refused its words or its script, or, where L holds, that is where it writes after all that
-- it reads, anything else that it read
abbrev pub IsUnwrittenBy : Type 0 → Status → Type 0
IsUnwrittenBy L status.Usage = ⊤
IsUnwrittenBy L status.Script = ⊤
IsUnwrittenBy L status.NoFile = L
IsUnwrittenBy L status.ReadFault = L
IsUnwrittenBy L status.Core = L
IsUnwrittenBy L status.Damaged = L
IsUnwrittenBy L status.Incompatible = L
IsUnwrittenBy L other = ⊥

-- it reads a core
abbrev pub IsCore : Input → Type 0
IsCore input.Core = ⊤
IsCore read = ⊥

-- the verb that reads a core, which it may refuse, and writes nothing, with these answers by the content of the core's file
abbrev pub of_core : List ℕ → (Option (List ℕ) → Answer → Type 0) → Verb
of_core core answers = record {
  names = record { script = []; core = core; later = [] };
  writes = None;
  are_told = λ told. (content : Option (List ℕ)) × (told core ≡ Some content);
  answers = λ told answer. (content : Option (List ℕ)) × (told core ≡ Some content) × answers content answer;
  is_to_write = to_write (λ told answer. (content : Option (List ℕ)) × (told core ≡ Some content) × answers content answer);
  reads_first = IsCore;
  reads_back = λ read. ⊥;
  refuses_words = ⊥;
  refuses_core = λ s. ⊤;
  wrote_nothing = IsUnwrittenBy ⊤;
}
