-- The kinds of a schedule, by OpenMP 5.0.
use Rattle.std.specs.Prelude.{ℕ, List, [], ◌∷◌, codes, Option}
use Rattle.omi_numbers.specs.declared.schedules.TheConstants.{STATIC, DYNAMIC, GUIDED, AUTO}
use Rattle.omi_numbers.specs.Names.{number_in}

-- each kind's number and name
abbrev pub schedule_kinds : List (ℕ × List ℕ)
schedule_kinds =
    (STATIC, codes "static")
    ∷ (DYNAMIC, codes "dynamic")
    ∷ (GUIDED, codes "guided")
    ∷ (AUTO, codes "auto")
    ∷ []

-- the number of the kind with a name
abbrev pub schedule_kind_of : List ℕ → Option ℕ
schedule_kind_of word = number_in schedule_kinds word
