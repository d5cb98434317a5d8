-- The forms of the program's commands.
use Rattle.std.specs.Prelude.{List, [], ◌∷◌, codes, map}
use Rattle.omi_numbers.specs.States.{states}
use Rattle.omi_rewind.specs.declared.limits.TheConstants.{LAST_STEP}
use Rattle.omi_usage.specs.Form.{CommandForm, File, Number, Numbers, OneOf, Verb, bare_form}
use Rattle.omi_rewind_top.specs.declared.limits.TheConstants.{MOST_JUMPS, MOST_NUMBER}

-- `at N,N,.. SCRIPT`
abbrev pub at_form : CommandForm
at_form = bare_form (Verb (codes "at") ∷ Numbers MOST_JUMPS LAST_STEP ∷ File ∷ [])

-- `when I STATE STEPS SCRIPT`
abbrev pub when_form : CommandForm
when_form =
    bare_form (Verb (codes "when") ∷ Number 0 MOST_NUMBER ∷ OneOf (map (λ row. row.1) states) ∷ Number 0 LAST_STEP ∷ File ∷ [])

abbrev pub rewind_forms : List CommandForm
rewind_forms = at_form ∷ when_form ∷ []
