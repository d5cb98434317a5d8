-- Words of an image that show a state.
use Rattle.std.specs.Prelude.{◌<◌, ℕ, List, length}
use Rattle.omi_layout.specs.Valid.{IsValid}
use Rattle.omi_model.specs.State.{State}
use Rattle.omi_rep.specs.ShownLooks.{AreNames}
use Rattle.omi_rep.specs.Shows.{Shows}
use Rattle.omi_word.specs.Words.{words_of}

-- there are words, and they show some state in a valid layout, where what is visible has names of 32 bits
pub record ShowsSome (words : List ℕ) : Type 0 where
  pub some : 0 < length words
  pub w : List ℕ
  pub valid : IsValid w
  pub state : State
  pub names : AreNames state
  pub shows : Shows w (words_of words) state
