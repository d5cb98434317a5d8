-- What a cell shows of a value that need not be there.
use Rattle.std.specs.Prelude.{ℕ, List, codes, Option, Some, None}

abbrev pub or_dash : {A : Type 0} → (A → List ℕ) → Option A → List ℕ
or_dash text None = codes "-"
or_dash text (Some x) = text x
