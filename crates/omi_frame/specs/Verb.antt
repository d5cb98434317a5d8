-- What is promised of a command, whichever program carries it out.
use Rattle.std.specs.Prelude.{◌≡◌, ℕ, List, [], Option, Some, None, Result}
use Rattle.omi_outside.specs.Outside.{Told}
use Rattle.omi_outside.specs.declared.status.Status.{Status}
use Rattle.omi_frame.specs.Refusal.{Named}
use Rattle.omi_frame.specs.declared.refusal.Input.{Input}
use Rattle.omi_frame.specs.declared.refusal.Refusal.{Refusal}

-- The answer to a command: the bytes that it writes to its file, if it writes one, and what it says, a text or a refusal. So a command
-- can write a core and then refuse what it reads.
pub data Answer : Type 0 where
  Gives : (written : Option (List ℕ)) (says : Result (List ℕ) Refusal) → Answer

-- A verb: what a command reads and writes, and its answers, as a relation between what is told of the files that it reads and what it
-- writes and says. So threads that run, of which no function of bytes tells, have a verb as well.
pub record Verb : Type 1 where
  -- the names that it gives, for the line of a refusal
  pub names : Named
  -- the name of the file that it writes, if it writes one
  pub writes : Option (List ℕ)
  -- the content of each file that it reads is told
  pub are_told : (List ℕ → Told) → Type 0
  -- this is an answer to it, by what is told of these files
  pub answers : (List ℕ → Told) → Answer → Type 0
  -- it has these bytes to write to its file
  pub is_to_write : (List ℕ → Told) → List ℕ → Type 0
  -- it reads this before it writes
  pub reads_first : Input → Type 0
  -- it reads this after it wrote
  pub reads_back : Input → Type 0
  -- it may refuse its words by what it reads
  pub refuses_words : Type 0
  -- it may refuse a core with this status
  pub refuses_core : Status → Type 0
  -- it wrote nothing where it ends with this status
  pub wrote_nothing : Status → Type 0

-- the name of the file that a verb writes, which is empty where it writes none
abbrev pub name_or_none : Option (List ℕ) → List ℕ
name_or_none None = []
name_or_none (Some name) = name

abbrev pub written_name : Verb → List ℕ
written_name v = name_or_none v.writes

-- a verb writes the file of this name
abbrev pub Writes : Verb → List ℕ → Type 0
Writes v name = v.writes ≡ Some name

-- a verb writes a file
abbrev pub WritesOne : Verb → Type 0
WritesOne v = (name : List ℕ) × Writes v name
