use Rattle.std.proofs.Common.{Some, ap, sym, ◌∙◌}
use Rattle.omi_plain.proofs.Locks.{lock_in_range}
use Rattle.omi_plain.proofs.statements.lock.Goals as goal

pub returns-in-Some-Critical-clause-range : goal.returns-in-Some-Critical-clause-range
returns-in-Some-Critical-clause-range c =
    let p = c.args.p.now in
    let at = sym c.statement.ensures ∙ c.in-Some-Critical.is ∙ ap Some c.in-Some-Critical.field-0-is in
    lock_in_range p c.args.a.now.stack c.in-Some-Critical.k c.in-Some-Critical.field-0-1
    (c.program_rules.ensures p) at
