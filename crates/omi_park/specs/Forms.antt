-- The form of the program's command.
use Rattle.std.specs.Prelude.{[], ◌∷◌}
use Rattle.omi_seat.specs.declared.limits.TheConstants.{MOST_BUDGET}
use Rattle.omi_usage.specs.Form.{CommandForm, File, Number, bare_form}
use Rattle.omi_park.specs.declared.limits.TheConstants.{MOST_STOPS}

-- `BUDGET STOPS SCRIPT`, without options
abbrev pub park_form : CommandForm
park_form = bare_form (Number 0 MOST_BUDGET ∷ Number 0 MOST_STOPS ∷ File ∷ [])
