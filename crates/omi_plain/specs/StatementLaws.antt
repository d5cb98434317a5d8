-- The law of statements that set a variable.
use Rattle.std.specs.Prelude.{◌≡◌, Some}
use Rattle.omi_script.specs.declared.statement.Stmt.{Stmt}
use Rattle.omi_model.specs.declared.encounter.Encounter.{Encounter}
use Rattle.omi_model.specs.declared.item.Item.TheVariants as item
use Rattle.omi_model.specs.Rows.{first_of}
use Rattle.omi_pc.specs.Fits.{Sets}
use Rattle.omi_plain.specs.Statements.{set_number, set_word}

-- the number and the word of the variable are those that the machine's row of the statement has
abbrev pub VariablesAreSetAsRowsSay : Type 0
VariablesAreSetAsRowsSay =
    (at : Encounter) (s : Stmt) → Sets s
    → first_of at s ≡ item.Set (set_number (Some s)) (set_word (Some s))
