-- The command by which `clap` reads a line: four options with a value, and one positional argument that takes every other word.
use Rattle.std.specs.Prelude.{List, ℕ, Some, true, codes}
use Rattle.clap.specs.Words.{App, Rule, new_app, new_rule, with_rule}
use Rattle.clap.specs.Simple.{on_top}
use Rattle.clap.specs.declared.builder.action.ArgAction.TheVariants.{Append}

-- an option that is written `--` and its id
abbrev pub option_rule : List ℕ → Rule
option_rule id = record (new_rule id) { long = Some id }

abbrev pub words_rule : Rule
words_rule = record (new_rule (codes "words")) { action = Some Append }

-- a command without arguments, without help and version flags, that reads a first word as any other
abbrev pub bare_app : App
bare_app =
    on_top
    (λ s. record s {
      no_binary_name = true;
      disable_help_flag = true;
      disable_version_flag = true;
    })
    (new_app (codes "line"))

abbrev pub line_app : App
line_app = with_rule (with_rule (with_rule (with_rule (with_rule bare_app
    (option_rule (codes "seed")))
    (option_rule (codes "break")))
    (option_rule (codes "count")))
    (option_rule (codes "layout")))
    words_rule
