-- What statements that set a variable say is what the machine's rows have.
use Rattle.std.proofs.Common.{◌≡◌, refl}
use Rattle.omi_model.specs.declared.encounter.Encounter.{Encounter}
use Rattle.omi_model.specs.declared.item.Item.TheVariants as item
use Rattle.omi_model.specs.declared.shape.Shape.{Shape}
use Rattle.omi_model.specs.declared.shape.Shape.TheVariants as shape
use Rattle.omi_model.specs.Rows.{first_item}
use Rattle.omi_model.specs.Shapes.{shape_of}
use Rattle.omi_pc.specs.Fits.{ShapeSets}
use Rattle.omi_plain.specs.StatementLaws.{VariablesAreSetAsRowsSay}
use Rattle.omi_plain.specs.Statements.{variable_of, word_to_set}

set_as_row : (at : Encounter) (q : Shape) → ShapeSets q
    → first_item at q ≡ item.Set (variable_of q) (word_to_set q)
set_as_row at (shape.Sets variable word) sets = refl
set_as_row at _ sets = absurd sets

pub sets_as_rows : VariablesAreSetAsRowsSay
sets_as_rows at s sets = set_as_row at (shape_of s) sets
