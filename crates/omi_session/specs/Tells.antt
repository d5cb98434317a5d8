-- What callbacks tell of the target's words, and what no call changes of them.
use Rattle.std.specs.Prelude.{◌≡◌, ℕ, Some}
use Rattle.omi_word.specs.Words.{Words}
use Rattle.omi_calls.specs.Told.{Told, aligned_word_at}
use Rattle.omi_calls.specs.Kept.{Kept}

-- the order of a word's bytes is told, and so are the words, by some words where none are told. They are this memory: None where no
-- word stands at an address, or the address is unaligned
pub record Tells (told : Told) (memory : Words) : Type 0 where
  pub order : ℕ
  pub order_told : told.order ≡ Some order
  pub words : Words
  pub rest : Words
  pub words_told : told.words rest ≡ Some words
  pub is : memory ≡ aligned_word_at words

-- a table after a call tells what it told before, in the same order and with the same conversion
pub record KeepsTold {C F : Type 0} (told : C → Told) (old new : Kept C F) : Type 0 where
  pub same : told new.calls ≡ told old.calls
  pub order : new.order ≡ old.order
  pub to_host : new.to_host ≡ old.to_host
