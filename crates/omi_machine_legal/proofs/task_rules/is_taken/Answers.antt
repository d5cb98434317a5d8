use Rattle.std.proofs.Common.{ℕ, sym, subst}
use Rattle.omi_model.specs.Put.{Slots}
use Rattle.omi_model.specs.declared.task.Task.{Task}
use Rattle.omi_machine_legal.specs.Decided.{HasLive, IsDeferredIn}
use Rattle.omi_machine_legal.proofs.task_rules.is_taken.Goals as goal

pub returns : goal.returns
returns c = (
  λ is.
      let (k, (t, live, x)) =
      subst
      (λ (slots : Slots Task). (k : ℕ) × HasLive (IsDeferredIn c.args.region c.args.place) (slots c.args.i k))
      (sym c.tasks.ensures) (c.is_taken_in.ensures.0 is) in
      record { slot = k; task = t; live = live; explicit = x.explicit; deferred = x.deferred; same = x.same; there = x.there },
  λ taken.
      c.is_taken_in.ensures.1
      (subst (λ (slots : Slots Task). (k : ℕ) × HasLive (IsDeferredIn c.args.region c.args.place) (slots c.args.i k)) c.tasks.ensures
      (taken.slot, (taken.task, taken.live, record { explicit = taken.explicit; deferred = taken.deferred; same = taken.same; there = taken.there }))),
)
