-- What callbacks were asked for: words by their addresses and symbols by their names, in the order in which they were asked for.
use Rattle.std.specs.Prelude.{◌≡◌, ℕ, Bool, false, List, [], ◌∷◌, ◌++◌, Option, Some, None, IsTrue}
use Rattle.std.specs.Option.{option_map}
use Rattle.omi_calls.specs.Told.{Told}

-- a word at an address, or the address of a symbol
pub data Wanted : Type 0 where
  Word : ℕ → Wanted
  Symbol : List ℕ → Wanted

-- what was asked for so far
pub record Asked : Type 0 where
  -- in order, those too for which the callback failed. None where it isn't listed
  pub listed : Option (List Wanted)
  -- the address of the latest read that failed, if one did. None where it isn't kept
  pub missed : Option (Option ℕ)

-- nothing is listed or kept
abbrev pub unlisted : Asked
unlisted = record { listed = None; missed = None }

-- one more was asked for
abbrev pub listed_after : Wanted → Option (List Wanted) → Option (List Wanted)
listed_after wanted = option_map (λ before. before ++ (wanted ∷ []))

abbrev pub asked_after : Wanted → Asked → Asked
asked_after wanted before = record { listed = listed_after wanted before.listed; missed = before.missed }

-- the word at this address was asked for, and the read failed
abbrev pub missed_after : ℕ → Asked → Asked
missed_after addr before = record {
  listed = listed_after (Word addr) before.listed;
  missed = option_map (λ _. Some addr) before.missed;
}

-- a read at this address may fail, and may come to an answer: each does where nothing is told of failures
abbrev pub MayFail : Told → ℕ → Type 0
MayFail told addr = (fails : ℕ → Bool) → told.fails ≡ Some fails → IsTrue (fails addr)

abbrev pub MayAnswer : Told → ℕ → Type 0
MayAnswer told addr = (fails : ℕ → Bool) → told.fails ≡ Some fails → fails addr ≡ false

-- the word at this address was asked for, which failed or was answered
pub record AsksWord (told : Told) (addr : ℕ) (before now : Asked) (Failed : Type 0) : Type 0 where
  pub answered : ¬ Failed → MayAnswer told addr × (now ≡ asked_after (Word addr) before)
  pub failed : Failed → MayFail told addr × (now ≡ missed_after addr before)
