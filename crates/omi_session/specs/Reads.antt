-- An inquiry by the words that it reads: each read names an address, and what follows depends on the word found there, or on that none
-- is mapped there. So one definition says what is answered, which words are read, and which refusal decides.
use Rattle.std.specs.Prelude.{◌≡◌, ◌≢◌, ◌⊎◌, ℕ, List, [], ◌∷◌, Option, Result, Ok, Err}
use Rattle.omi_word.specs.Words.{Words}
use Rattle.omi_calls.specs.Asked.{Asked, Word, MayFail, MayAnswer, asked_after, missed_after}
use Rattle.omi_calls.specs.Told.{Told}
use Rattle.omi_session.specs.declared.rc.Rc.{Rc}
use Rattle.omi_session.specs.declared.rc.Rc.TheVariants.{CallbackError}
use Rattle.omi_session.specs.Opened.{Opened}
use Rattle.omi_session.specs.Tells.{Tells}

-- reads that are refused for an E
pub data ReadsOr (E A : Type 0) : Type 0 where
  -- nothing more is read
  Answer : Result A E → ReadsOr E A
  -- the word at this address is read
  Read : ℕ → (Option ℕ → ReadsOr E A) → ReadsOr E A

-- the reads of an inquiry, which is refused by a return code
abbrev pub Reads : Type 0 → Type 0
Reads A = ReadsOr Rc A

-- the answer over a memory
abbrev pub answer_on : {E A : Type 0} → Words → ReadsOr E A → Result A E
answer_on memory (Answer result) = result
answer_on memory (Read addr more) = answer_on memory (more (memory addr))

-- the addresses that are read over a memory, in their order
abbrev pub addresses_on : {E A : Type 0} → Words → ReadsOr E A → List ℕ
addresses_on memory (Answer result) = []
addresses_on memory (Read addr more) = addr ∷ addresses_on memory (more (memory addr))

-- reads after an answer: a refusal ends them
abbrev pub after : {E A B : Type 0} → Result A E → (A → ReadsOr E B) → ReadsOr E B
after (Ok x) more = more x
after (Err e) more = Answer (Err e)

-- reads, and then others by what those answered
unfoldable pub then_reads : {E A B : Type 0} → ReadsOr E A → (A → ReadsOr E B) → ReadsOr E B
then_reads (Answer result) more = after result more
then_reads (Read addr next) more = Read addr (λ word. then_reads (next word) more)

-- a result is the answer of these reads on the words that are told, unless a callback failed
abbrev pub IsAnswer : {A : Type 0} → Told → Result A Rc → Reads A → Type 0
IsAnswer told result reads = (memory : Words) → Tells told memory → result ≢ Err CallbackError
    → result ≡ answer_on memory reads

module _ {E : Type 0} (told : Told) (memory : Words) where
  -- these reads were made over a memory: what was asked for before and then, and the result. A read that fails is the last, and refused with
  -- this; one that is answered is followed by those that depend on its word
  abbrev pub Ran : {A : Type 0} → E → ReadsOr E A → Asked → Asked → Result A E → Type 0
  Ran failed (Answer answer) before now result = (now ≡ before) × (result ≡ answer)
  Ran failed (Read addr more) before now result =
      (MayFail told addr × (now ≡ missed_after addr before) × (result ≡ Err failed))
      ⊎ (MayAnswer told addr × Ran failed (more (memory addr)) (asked_after (Word addr) before) now result)

  -- some of them were made, from the first on, or all, and each was answered
  abbrev pub RanSome : {A : Type 0} → ReadsOr E A → Asked → Asked → Type 0
  RanSome (Answer answer) before now = now ≡ before
  RanSome (Read addr more) before now =
      (now ≡ before)
      ⊎ (MayAnswer told addr × RanSome (more (memory addr)) (asked_after (Word addr) before) now)

-- a call of a session is these reads on the words that are told: its result, what it asks for, and the read that fails, if one does
pub record Answers {A C F : Type 0} (told : C → Told) (asked : C → Asked) (old new : Opened C F)
    (result : Result A Rc) (reads : Reads A) : Type 0 where
  pub ran : (memory : Words) → Tells (told old.table.calls) memory
      → Ran (told old.table.calls) memory CallbackError reads (asked old.table.calls)
      (asked new.table.calls) result
