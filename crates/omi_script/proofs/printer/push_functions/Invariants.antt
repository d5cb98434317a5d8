use Rattle.std.proofs.Common.{◌≡◌, ◌++◌, take}
use Rattle.std.specs.Prelude.{flat_map}
use Rattle.omi_script.specs.Canonical.{function_text}
use Rattle.omi_script.proofs.printer.push_functions.Given as goal

abbrev pub invariant-loop-f : goal.invariant-loop-f
invariant-loop-f l =
    l.text.items ≡ l.initial.text.items ++ flat_map (function_text l.funcs) (take l.f-index l.f-items)
