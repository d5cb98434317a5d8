-- A request of the program as a command.
use Rattle.std.specs.Prelude.{◌≤◌}
use Rattle.std.specs.List.{All}
use Rattle.omi_rewind.specs.declared.limits.TheConstants.{LAST_STEP}
use Rattle.omi_rewind_top.specs.Command.{RewindCommand, GoTo, FindState}
use Rattle.omi_rewind_top.specs.declared.command.Request.{Request}
use Rattle.omi_rewind_top.specs.declared.command.Request.TheVariants as request

abbrev pub asked : Request → RewindCommand
asked (request.GoTo steps script) = GoTo steps.items script.now
asked (request.FindState thread state last script) = FindState thread state last script.now

-- no step lies behind the last one
abbrev pub IsPossible : Request → Type 0
IsPossible (request.GoTo steps script) = All (λ n. n ≤ LAST_STEP) steps.items
IsPossible (request.FindState thread state last script) = last ≤ LAST_STEP
