-- The form of the program's command.
use Rattle.std.specs.Prelude.{[], ◌∷◌, Some, None}
use Rattle.omi_seat.specs.declared.limits.TheConstants.{MOST_BUDGET}
use Rattle.omi_usage.specs.Form.{CommandForm, File, Number}
use Rattle.omi_commands.specs.Forms.{a_breakpoint, a_layout}

-- `BUDGET SCRIPT CORE`, with `--break NAME` and `--layout K`
abbrev pub live_form : CommandForm
live_form = record {
  words = Number 0 MOST_BUDGET ∷ File ∷ File ∷ [];
  seed = None;
  on = Some a_breakpoint;
  count = None;
  layout = Some a_layout;
}
