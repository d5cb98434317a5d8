use Rattle.std.proofs.Common.{sym, subst}
use Rattle.omi_model.specs.Fresh.{IsFresh}
use Rattle.omi_model.specs.Put.{Slots}
use Rattle.omi_model.specs.declared.task.Task.{Task}
use Rattle.omi_machine_legal.proofs.fresh.is_fresh_task.Goals as goal

pub returns : goal.returns
returns c = (
  λ is. subst (λ (x : Slots Task). IsFresh x c.args.i c.args.k.0) (sym c.tasks.ensures) (c.is_fresh.ensures.0 is),
  λ fresh. c.is_fresh.ensures.1 (subst (λ (x : Slots Task). IsFresh x c.args.i c.args.k.0) c.tasks.ensures fresh),
)
