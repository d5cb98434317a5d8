-- The opening words of a program show its opening state.
use Rattle.std.specs.Prelude.{◌≡◌, ℕ, List}
use Rattle.omi_script.specs.declared.program.Program.{Program}
use Rattle.omi_model.specs.Opening.{opening}
use Rattle.omi_layout.specs.OpeningWords.{AreOpening}
use Rattle.omi_word.specs.Words.{words_of}
use Rattle.omi_layout.specs.Table.{thread_count}
use Rattle.omi_layout.specs.Valid.{IsValid}
use Rattle.omi_rep.specs.Shows.{Shows}

-- in each layout that has as many threads as the program
abbrev pub OpeningIsShown : Type 0
OpeningIsShown = (p : Program) (w words : List ℕ) → IsValid w → p.threads ≡ thread_count w
    → AreOpening p w words → Shows w (words_of words) (opening p)
