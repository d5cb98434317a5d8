-- The row of a report that tells of an object, by the object's name.
use Rattle.std.specs.Prelude.{◌==◌, ◌&&◌, Bool, List, Option, find}
use Rattle.omi_model.specs.declared.id.Id.{Id}

abbrev pub is_same_id : Id → Id → Bool
is_same_id a b = a.creator == b.creator && a.slot == b.slot && a.generation == b.generation

-- the first row with this name
abbrev pub row_named : {R : Type 0} → (R → Id) → List R → Id → Option R
row_named name rows id = find (λ row. is_same_id (name row) id) rows
