-- Words that keep the rule show the state, whatever threads owe: an update without its commit step shows the state before it.
use Rattle.std.specs.Prelude.{◌≡◌, ℕ, List, length}
use Rattle.omi_model.specs.State.{State}
use Rattle.omi_layout.specs.Given.{HasTables}
use Rattle.omi_layout.specs.Memory.{memory_of}
use Rattle.omi_layout.specs.Place.{image_words}
use Rattle.omi_layout.specs.Table.{version}
use Rattle.omi_layout.specs.declared.limits.TheConstants.{GROUP_VERSION}
use Rattle.omi_word.specs.Words.{words_of}
use Rattle.omi_layout.specs.Valid.{IsValid}
use Rattle.omi_rep.specs.Shows.{IsWithin, Shows}
use Rattle.omi_rule_words.specs.Owes.{Owed}
use Rattle.omi_rule_words.specs.Words.{KeepsWords}

abbrev pub KeptWordsShow : Type 0
KeptWordsShow = (w words : List ℕ) (s : State) (owes : ℕ → Owed) → IsValid w → version w ≡ GROUP_VERSION
    → length words ≡ image_words w → HasTables w words → IsWithin w s
    → KeepsWords w (memory_of w words) s owes → Shows w (words_of words) s
