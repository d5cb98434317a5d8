use Rattle.std.proofs.Common.{◌∙◌, sym}
use Rattle.std.proofs.lemmas.Bool.{ne_eqb}
use Rattle.omi_machine.proofs.StateChanges.{variable_set}
use Rattle.omi_machine.proofs.variable_changes.set_variable.Goals as goal

pub returns-clause-done : goal.returns-clause-done
returns-clause-done c =
    let took = c.in-Some-take_live.ensures in
    variable_set c.args.s.now c.take_live.new.slots c.put_live.new.slots c.args.i c.args.icv c.args.value c.in-Some.k _ c.in-Some.t.now c.in-Some-take_live.t c.in-Some-2.variables
    (ne_eqb c.args.icv 7 c.if-icv-eq-MAX_ACTIVE_LEVELS_VAR.false) c.in-Some.ensures.found
    (sym c.in_ok-variables.ensures ∙ c.in-Some-2.is) took.kept took.found took.taken c.put_live.ensures
