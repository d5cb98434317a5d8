-- What contracts see of a list of made steps: the steps in order, and the room that is left.
use Rattle.std.specs.Prelude.{ℕ, List}
use Rattle.omi_run_lists.specs.declared.made.Made.{Made}

pub record Steps : Type 0 where
  pub items : List Made
  -- so many more steps take no memory
  pub spare : ℕ
