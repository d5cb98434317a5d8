-- The forms of the program's commands.
use Rattle.std.specs.Prelude.{Bool, true, false, List, [], ◌∷◌, Some, codes}
use Rattle.omi_usage.specs.Form.{CommandForm, File, Number, Verb, Want, bare_form}
use Rattle.omi_commands.specs.Forms.{a_breakpoint, a_layout}
use Rattle.omi_top.specs.Command.{Command, Faulty}
use Rattle.omi_top.specs.declared.limits.TheConstants.{MOST_COUNT, MOST_NODES, MOST_SEED, MOST_STEPS}

-- a command with the options of a run
abbrev pub with_options : List Want → CommandForm
with_options words = record {
  words = words;
  seed = Some (Number 0 MOST_SEED);
  on = Some a_breakpoint;
  count = Some (Number 1 MOST_COUNT);
  layout = Some a_layout;
}

-- `stop STEPS SCRIPT CORE`, with options
abbrev pub stop_form : CommandForm
stop_form = with_options (Verb (codes "stop") ∷ Number 0 MOST_STEPS ∷ File ∷ File ∷ [])

-- `run STEPS SCRIPT CORE`, with options
abbrev pub run_form : CommandForm
run_form = with_options (Verb (codes "run") ∷ Number 0 MOST_STEPS ∷ File ∷ File ∷ [])

-- `make N SCRIPT`
abbrev pub make_form : CommandForm
make_form = bare_form (Verb (codes "make") ∷ Number 1 MOST_NODES ∷ File ∷ [])

-- `show CORE`
abbrev pub show_form : CommandForm
show_form = bare_form (Verb (codes "show") ∷ File ∷ [])

-- `recode ORDER CORE CORE2`
abbrev pub recode_form : CommandForm
recode_form = bare_form (Verb (codes "recode") ∷ Number 0 1 ∷ File ∷ File ∷ [])

-- `elf CORE CORE2`
abbrev pub elf_form : CommandForm
elf_form = bare_form (Verb (codes "elf") ∷ File ∷ File ∷ [])

-- `audit CORE`
abbrev pub audit_form : CommandForm
audit_form = bare_form (Verb (codes "audit") ∷ File ∷ [])

-- `follow CORE CORE2`
abbrev pub follow_form : CommandForm
follow_form = bare_form (Verb (codes "follow") ∷ File ∷ File ∷ [])

abbrev pub run_forms : List CommandForm
run_forms =
    stop_form ∷ make_form ∷ show_form ∷ run_form ∷ recode_form ∷ elf_form ∷ audit_form ∷ follow_form ∷ []

-- the words ask for a command
abbrev pub is_asked : Command → Bool
is_asked Faulty = false
is_asked command = true
