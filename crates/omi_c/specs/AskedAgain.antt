-- An inquiry that is asked again, each time with the word that it needs.
use Rattle.std.specs.Prelude.{◌≡◌, ◌≢◌, ◌%◌, ℕ, zero, suc, true, false, List, [], ◌∷◌, ◌++◌, length, Option, Some, None, Result, Err}
use Rattle.omi_word.specs.Words.{Words}
use Rattle.omi_session.specs.declared.rc.Rc.{Rc}
use Rattle.omi_session.specs.Reads.{Reads, answer_on, addresses_on}
use Rattle.omi_c.specs.declared.known.Known.{Known}
use Rattle.omi_c.specs.Known.{known_at, word_known}
use Rattle.omi_c.specs.declared.causes.Cause.TheVariants.{Needs}
use Rattle.omi_c.specs.Replies.{Reply, asked_on, replied}

-- a memory has these words, and none at an address that is no multiple of 8. The first known word at an address counts
pub record Has (known : List Known) (memory : Words) : Type 0 where
  pub words : (addr : ℕ) (k : Known) → addr % 8 ≡ 0 → known_at known addr ≡ Some k → memory addr ≡ word_known k
  pub aligned : (addr : ℕ) → addr % 8 ≢ 0 → memory addr ≡ None

-- what stands at an address, as a known word
abbrev pub known_of : ℕ → Option ℕ → Known
known_of addr (Some word) = record { addr = addr; word = word; mapped = true }
known_of addr None = record { addr = addr; word = 0; mapped = false }

module _ (memory : Words) where
  -- what is known behind a reply: the word that it needs too
  abbrev pub known_with : {A : Type 0} → List Known → Reply A → List Known
  known_with known (Err (Needs addr)) = known ++ known_of addr (memory addr) ∷ []
  known_with known reply = known

  -- and behind so many of them
  abbrev pub known_after : {A : Type 0} → Reads A → ℕ → List Known → List Known
  known_after reads zero known = known
  known_after reads (suc n) known = known_after reads n (known_with known (asked_on known reads))

-- where no word is needed, the reply is the answer on each memory that has the known words
abbrev pub HoldsOnEach : Type 0 → Type 0
HoldsOnEach A = (memory : Words) (known : List Known) (reads : Reads A) (result : Result A Rc) → Has known memory
    → asked_on known reads ≡ replied result → answer_on memory reads ≡ result

-- an inquiry that got each word which it needed, as often as it reads one, needs no other. Its reply is the answer on the memory
abbrev pub ComesToAnswer : Type 0 → Type 0
ComesToAnswer A = (memory : Words) (known : List Known) (reads : Reads A) → Has known memory
    → asked_on (known_after memory reads (length (addresses_on memory reads)) known) reads
    ≡ replied (answer_on memory reads)
