use Rattle.std.proofs.Common.{◌++◌, ap, ◌∙◌}
use Rattle.omi_seat.specs.Seats.{Seated}
use Rattle.omi_seat.specs.declared.step_log.StepLog.{StepLog}
use Rattle.omi_seat.specs.declared.worker.Worker.{Worker}
use Rattle.omi_seat.proofs.workers.joined.Goals as goal

pub join_seat-requires : goal.join_seat-requires
join_seat-requires g c =
    let own = c.parts-own.ensures.seat ∙ ap (λ (z : Worker _). z.seat) c.parts-worker.ensures.worker in (
      c.requires.seated,
      ap (λ z. z.table_id) own ∙ c.requires.theirs.table,
      ap (λ z. z.me.1) own ∙ ap (λ (m : Seated _). m.1) c.requires.theirs.knows,
      c.requires.count,
      c.requires.may c.args.seat.now.id c.args.seat.now.me.0 c.parts-own.result.0.id c.parts-own.result.0.me.0,
    )

pub returns-clause-knows : goal.returns-clause-knows
returns-clause-knows g c =
    let own = c.parts-own.ensures.seat ∙ ap (λ (z : Worker _). z.seat) c.parts-worker.ensures.worker in
    c.join_seat.ensures.2 ∙ ap (λ z. (c.args.seat.now.me.0 ++ z.me.0, c.args.seat.now.me.1)) own

pub returns-clause-left : goal.returns-clause-left
returns-clause-left g c =
    let log = c.parts-own.ensures.log ∙ ap (λ (z : Worker _). z.log) c.parts-worker.ensures.worker in
    record {
      steps = ap (λ (z : StepLog). z.steps) log;
      until = c.parts-worker.ensures.until;
      made = ap (λ (z : StepLog). z.made) log;
      events = ap (λ (z : StepLog). z.events) log;
      actor = ap (λ (z : StepLog). z.actor) log;
    }
