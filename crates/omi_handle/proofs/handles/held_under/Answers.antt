use Rattle.std.proofs.Common.{arith}
use Rattle.std.proofs.lemmas.Grind.{common_steps}
use Rattle.std.proofs.lemmas.Bool.Decides.{nat_tests}
use Rattle.omi_handle.proofs.HeldLemmas.{held_at}
use Rattle.omi_handle.proofs.handles.held_under.Goals as goal

pub returns-in-Some : goal.returns-in-Some
returns-in-Some c =
    rw (held_at c.args.entries.now c.args.key c.args.serial)
    (grind (arith, common_steps, nat_tests, c.get.ensures))

pub returns-in_default : goal.returns-in_default
returns-in_default c =
    rw (held_at c.args.entries.now c.args.key c.args.serial)
    (grind (arith, common_steps, nat_tests, c.get.ensures))

pub returns-in_default-2 : goal.returns-in_default-2
returns-in_default-2 c =
    rw (held_at c.args.entries.now c.args.key c.args.serial)
    (grind (arith, common_steps, nat_tests, c.get.ensures))
