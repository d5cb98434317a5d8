use Rattle.std.proofs.Common.{◌<◌, ◌∙◌, sym, subst}
use Rattle.std.proofs.lemmas.Result.{err_from_is_err_and}
use Rattle.omi_script.specs.declared.program.Program.{Program}
use Rattle.omi_core.proofs.Judging.{same_again, same_itself, step_of_same}
use Rattle.omi_core.proofs.scheduled.CoreStepper.make_one.Goals as goal

pub step-entry-requires-clause-thread : goal.step-entry-requires-clause-thread
step-entry-requires-clause-thread c =
    subst (λ (p : Program). c.args.thread < p.threads)
    (sym (c.in_ok-make_room.ensures.run.program ∙ c.requires.stands.1.program)) c.requires.stands.2

pub returns-clause-made : goal.returns-clause-made
returns-clause-made c a stands = record {
  entry = c.step-entry.result;
  next = c.step-entry.new.self;
  step = step_of_same a c.make_room.new.self c.step-entry.new.self c.args.thread c.step-entry.result
      (same_again a c.args.self.now c.make_room.new.self stands c.in_ok-make_room.ensures.run) c.step-entry.ensures.entry;
  end_is = c.end_at.ensures;
  met_is = c.met_at.ensures;
  stands_behind = same_itself c.step-entry.new.self;
}

pub returns-in_err-make_room-clause-wanting : goal.returns-in_err-make_room-clause-wanting
returns-in_err-make_room-clause-wanting c a stands =
    let p = err_from_is_err_and c.from_residual.result c.from_residual.ensures.1 in
    rw (p.1) (same_again a c.args.self.now c.make_room.new.self stands c.in_err-make_room.ensures.run)
