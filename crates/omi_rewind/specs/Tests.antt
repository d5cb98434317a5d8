-- A test of the words of an image in a layout: the state of a thread, or that it runs a task.
use Rattle.std.specs.Prelude.{◌≡◌, ◌==◌, ◌≤◌, ◌%◌, ◌^◌, ℕ, Bool, IsTrue, List, length, not}
use Rattle.omi_word.specs.declared.limits.TheConstants.{MOST_WORDS}
use Rattle.omi_layout.specs.declared.field.Field.{Field}
use Rattle.omi_layout.specs.declared.field.Field.TheVariants.{ThreadCurrent, ThreadState}
use Rattle.omi_layout.specs.Field.{threads}
use Rattle.omi_layout.specs.Memory.{memory_of}
use Rattle.omi_layout.specs.Named.{number}
use Rattle.omi_layout.specs.Place.{fits}
use Rattle.omi_rewind.specs.declared.test.Test.{Test}
use Rattle.omi_rewind.specs.declared.test.Test.TheVariants.{State, Running}

-- the word of a field of a thread's record
abbrev pub thread_word : List ℕ → List ℕ → ℕ → Field → ℕ
thread_word w words thread field = memory_of w words thread threads 0 (number field) 0

-- The test holds of these words in this layout: the low 16 bits of the thread's state word are the state, or the word of its current task
-- isn't 0
abbrev pub holds : Test → List ℕ → List ℕ → Bool
holds (State thread state) w words = thread_word w words thread ThreadState % 2 ^ 16 == state
holds (Running thread) w words = not (thread_word w words thread ThreadCurrent == 0)

-- the thread that a test asks about
abbrev pub thread_of : Test → ℕ
thread_of (State thread state) = thread
thread_of (Running thread) = thread

-- words of an image that the layout fits
pub record IsFit (w words : List ℕ) : Type 0 where
  pub size : length words ≤ MOST_WORDS
  pub fits : IsTrue (fits w (length words))

-- a closure takes every image that the layout fits
abbrev pub TakesImages : List ℕ → (List ℕ → Type 0) → Type 0
TakesImages w takes = (words : List ℕ) → IsFit w words → takes words

-- and answers the test there
abbrev pub AnswersTest : Test → List ℕ → (List ℕ → Bool → Type 0) → Type 0
AnswersTest test w gives =
    (words : List ℕ) (answer : Bool) → IsFit w words → gives words answer → answer ≡ holds test w words

-- a test, the layout that it is asked in, and a closure that answers it
pub record KeptTest (Q : Type 0) : Type 0 where
  pub test : Test
  pub table : List ℕ
  pub answers : Q

-- what is known of the closure
pub record KeepsTest (test : Test) (w : List ℕ) (takes : List ℕ → Type 0)
    (gives : List ℕ → Bool → Type 0) : Type 0 where
  pub takes_images : TakesImages w takes
  pub answers_test : AnswersTest test w gives
