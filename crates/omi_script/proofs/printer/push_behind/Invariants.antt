use Rattle.std.proofs.Common.{◌≡◌, ◌++◌, take}
use Rattle.omi_script.specs.Canonical.{listed_behind}
use Rattle.omi_script.proofs.printer.push_behind.Given as goal

abbrev pub invariant-loop-n : goal.invariant-loop-n
invariant-loop-n l = l.text.items ≡ l.initial.text.items ++ listed_behind (take l.n-index l.list)
