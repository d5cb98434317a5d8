-- The lines of a step that is gone to and of a step that is found.
use Rattle.std.specs.Prelude.{ℕ, List, [], ◌∷◌, ◌++◌, Option, Some, None, codes, if◌then◌else◌, nat_lt}
use Rattle.std.specs.Fmt.{decimal}
use Rattle.omi_rewind.specs.declared.rewind.At.{At}
use Rattle.omi_rewind.specs.declared.rewind.At.TheVariants.{Here, Done}

-- `step N`, and the step that committed `done` where the image stands there
abbrev pub place_line : ℕ → At → List ℕ
place_line n Here = codes "step " ++ (decimal n ++ 10 ∷ [])
place_line n (Done d) = codes "step " ++ (decimal n ++ (codes " done " ++ (decimal d ++ 10 ∷ [])))

-- where the image stands for a step, by the step that committed `done`
abbrev pub place_by : ℕ → Option ℕ → At
place_by n None = Here
place_by n (Some d) = if nat_lt d n then Done d else Here

-- the line of a step in a run, by the step that committed `done`
abbrev pub step_line : ℕ → Option ℕ → List ℕ
step_line n done = place_line n (place_by n done)

-- `first N` or `none`
abbrev pub first_line : Option ℕ → List ℕ
first_line (Some n) = codes "first " ++ (decimal n ++ 10 ∷ [])
first_line None = codes "none" ++ 10 ∷ []
