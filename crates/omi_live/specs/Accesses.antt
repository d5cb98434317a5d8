-- What threads do at the table of words: their steps, and between these the loads of the stop word and the stores into it. The stop word
-- stands behind the words of the image.
use Rattle.std.specs.Prelude.{◌≡◌, ◌==◌, ◌≤◌, ◌++◌, ℕ, Bool, true, false, List, [], ◌∷◌, Option, if◌then◌else◌}
use Rattle.omi_word.specs.declared.op.Op.{Op}
use Rattle.omi_word.specs.declared.op.Op.TheVariants as op
use Rattle.omi_word.specs.Memory.{address_at, address_of, word_at, words_after}
use Rattle.omi_script.specs.declared.program.Program.{Program}
use Rattle.omi_layout.specs.Place.{image_words}
use Rattle.omi_rep.specs.declared.outcome.Outcome.{Outcome}
use Rattle.omi_core.specs.declared.entry.Entry.{Entry}
use Rattle.omi_core.specs.declared.stop.Break.{Break}
use Rattle.omi_core.specs.declared.thread_run.Until.{Until}
use Rattle.omi_core.specs.declared.thread_run.Until.TheVariants as until
use Rattle.omi_live.specs.declared.known.Access.{Access}
use Rattle.omi_live.specs.declared.known.Access.TheVariants as access
use Rattle.omi_seat.specs.Stops.{stops_at}

-- ---- one access

-- the stop word, which is raised or not
abbrev pub stop_word : Bool → ℕ
stop_word false = 0
stop_word true = 1

-- its operation, where the stop word has this address
abbrev pub operation_of : ℕ → Access → Op
operation_of stop (access.Look raised) = op.Load stop
operation_of stop (access.Step e) = e.op
operation_of stop access.Raise = op.Store stop (stop_word true)

-- the operation found this word. Of a store nothing is told
abbrev pub Finds : Access → ℕ → Type 0
Finds (access.Look raised) word = word ≡ stop_word raised
Finds (access.Step e) word = word ≡ e.old
Finds access.Raise word = Unit {0}

-- ---- accesses of several threads, in some order

-- They lead from words to words: each finds the word that those before it left
abbrev pub LeadTo : ℕ → List ℕ → List (ℕ × Access) → List ℕ → Type 0
LeadTo stop words [] last = last ≡ words
LeadTo stop words (x ∷ xs) last = Finds x.1 (word_at words (address_of (operation_of stop x.1)))
    × LeadTo stop (words_after words (operation_of stop x.1)) xs last

-- the steps among them
abbrev pub step_in : ℕ → Access → List (ℕ × Entry)
step_in thread (access.Step e) = (thread, e) ∷ []
step_in thread a = []

abbrev pub steps_in : List (ℕ × Access) → List (ℕ × Entry)
steps_in [] = []
steps_in (x ∷ xs) = step_in x.0 x.1 ++ steps_in xs

-- the accesses of one thread
abbrev pub accesses_of : ℕ → List (ℕ × Access) → List Access
accesses_of i [] = []
accesses_of i (x ∷ xs) = if x.0 == i then x.1 ∷ accesses_of i xs else accesses_of i xs

-- These are accesses of the threads of a program to the table, in order. Without those to the stop word they are these steps. They lead
-- from the first words of the image, behind which the stop word is not raised, to these words of the table
pub record AreAccesses (p : Program) (w : List ℕ) (entries : List (ℕ × Entry))
    (accesses : List (ℕ × Access)) (first words : List ℕ) : Type 0 where
  pub among : steps_in accesses ≡ entries
  pub lead : LeadTo (address_at (image_words w)) (first ++ stop_word false ∷ []) accesses words
  pub threads : (i : ℕ) → p.threads ≤ i → accesses_of i accesses ≡ []

-- ---- what a thread is to do

-- behind a step that commits an event at which the run is to stop, the thread raises the stop word
abbrev pub raise_behind : Option Break → Outcome → List Access
raise_behind on o = if stops_at on o then access.Raise ∷ [] else []

-- the accesses of a thread that makes these steps: it looks at the stop word before each of them, and finds it not raised
abbrev pub with_looks : Option Break → List Entry → List Access
with_looks on [] = []
with_looks on (e ∷ es) = access.Look false ∷ access.Step e
    ∷ (raise_behind on e.outcome ++ with_looks on es)

-- a thread that is stopped looks once more, and finds it raised
abbrev pub last_look : Until → List Access
last_look until.Stopped = access.Look true ∷ []
last_look until.Budget = []
last_look until.Ended = []
