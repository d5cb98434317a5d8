use Rattle.std.proofs.Common.{sym, arith}
use Rattle.omi_script.proofs.RuleLemmas.{Rules-from_accepted}
use Rattle.omi_layout.proofs.Families.{family_fits, family_small}
use Rattle.omi_rep.proofs.laws.families_suit.Goals as goal

pub returns : goal.returns
returns c = λ p k w is family.
    let few = (Rules-from_accepted p).threads in
    record {
      threads = sym family.threads;
      fits = family_fits k p.threads w few.0 (omega (arith, few.1)) family;
      size = family_small k p.threads w few.0 (omega (arith, few.1)) family;
      groups = family.known;
    }
