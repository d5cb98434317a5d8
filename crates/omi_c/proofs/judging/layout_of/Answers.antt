use Rattle.std.proofs.Common.{subst}
use Rattle.omi_layout.specs.Valid.{RefusesTable}
use Rattle.omi_c.specs.Judged.{Refused}
use Rattle.omi_c.proofs.judging.layout_of.Goals as goal

pub returns-in-Err-clause-refused : goal.returns-in-Err-clause-refused
returns-in-Err-clause-refused c = record {
  fault = Refused c.in-Err.fault;
  is = subst (λ w. RefusesTable w c.in-Err.fault) c.copy_from_slice.ensures.after c.in-Err.ensures;
  gives = c.fault_refusal.ensures;
}
