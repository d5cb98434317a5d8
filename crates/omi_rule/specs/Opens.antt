-- A program starts under the rule: with its opening words, its opening state, and the actors with which it starts.
use Rattle.std.specs.Prelude.{ℕ, List, []}
use Rattle.omi_script.specs.declared.program.Program.{Program}
use Rattle.omi_model.specs.Opening.{opening}
use Rattle.omi_layout.specs.Memory.{memory_of}
use Rattle.omi_layout.specs.OpeningWords.{AreOpening}
use Rattle.omi_layout.specs.Valid.{IsValid}
use Rattle.omi_pc.specs.Opening.{opening_actor}
use Rattle.omi_rep.specs.Suits.{Suits}
use Rattle.omi_rule.specs.Rule.{Rule}

abbrev pub OpeningKeepsRule : Type 0
OpeningKeepsRule = (p : Program) (w words : List ℕ) → IsValid w → Suits p w → AreOpening p w words
    → Rule p w (memory_of w words) [] (opening p) (opening_actor p)
