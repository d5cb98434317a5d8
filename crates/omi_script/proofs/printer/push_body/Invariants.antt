use Rattle.std.proofs.Common.{◌≡◌, ◌++◌, take}
use Rattle.std.specs.Prelude.{flat_map}
use Rattle.omi_script.specs.Canonical.{statement_text}
use Rattle.omi_script.proofs.printer.push_body.Given as goal

abbrev pub invariant-loop-s : goal.invariant-loop-s
invariant-loop-s l =
    l.text.items ≡ l.initial.text.items ++ flat_map (statement_text l.funcs) (take l.s-index l.body)
