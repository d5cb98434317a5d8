-- What a command is after one more argument.
use Rattle.std.proofs.Common.{◌≡◌, ◌∙◌, ap₂, false}
use Rattle.clap.specs.Words.{AddsArg, App, Rule, app_of, rule_of, with_rule}
use Rattle.clap.specs.declared.builder.arg.Arg.{Arg}
use Rattle.clap.specs.declared.builder.command.Command.{Command}

pub added : (old new : Command) (argument : Arg) (app : App) (rule : Rule) → AddsArg old argument new
    → argument.global ≡ false
    → app_of old ≡ app → rule_of argument ≡ rule → app_of new ≡ with_rule app rule
added old new argument app rule adds local was is = adds.shape local ∙ ap₂ with_rule was is
