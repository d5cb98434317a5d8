-- The opening words of a program keep the rule on words, with the opening state and actors.
use Rattle.std.specs.Prelude.{ℕ, List}
use Rattle.omi_script.specs.declared.program.Program.{Program}
use Rattle.omi_model.specs.Opening.{opening}
use Rattle.omi_layout.specs.Memory.{memory_of}
use Rattle.omi_layout.specs.OpeningWords.{AreOpening}
use Rattle.omi_layout.specs.Valid.{IsValid}
use Rattle.omi_pc.specs.Opening.{opening_actor}
use Rattle.omi_rep.specs.Suits.{Suits}
use Rattle.omi_rule_words.specs.Owes.{all_owed}
use Rattle.omi_rule_words.specs.Words.{KeepsWords}

abbrev pub OpeningKeepsWords : Type 0
OpeningKeepsWords = (p : Program) (w words : List ℕ) → IsValid w → Suits p w → AreOpening p w words
    → KeepsWords w (memory_of w words) (opening p) (all_owed (opening_actor p))
