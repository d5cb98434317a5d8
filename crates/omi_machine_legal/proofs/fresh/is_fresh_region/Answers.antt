use Rattle.std.proofs.Common.{sym, subst}
use Rattle.omi_model.specs.Fresh.{IsFresh}
use Rattle.omi_model.specs.Put.{Slots}
use Rattle.omi_model.specs.declared.region.Region.{Region}
use Rattle.omi_machine_legal.proofs.fresh.is_fresh_region.Goals as goal

pub returns : goal.returns
returns c = (
  λ is. subst (λ (x : Slots Region). IsFresh x c.args.i c.args.n.0) (sym c.regions.ensures) (c.is_fresh.ensures.0 is),
  λ fresh. c.is_fresh.ensures.1 (subst (λ (x : Slots Region). IsFresh x c.args.i c.args.n.0) c.regions.ensures fresh),
)
