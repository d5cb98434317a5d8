use Rattle.omi_core.proofs.Judging.{ends_same, run_to_same, same_itself}
use Rattle.omi_core.proofs.run.Core.run.Goals as goal

pub run_by-ended-requires-clause-listed : goal.run_by-ended-requires-clause-listed
run_by-ended-requires-clause-listed c = (c.args.self.now, same_itself c.args.self.now, c.requires.listed)

pub returns-clause-run : goal.returns-clause-run
returns-clause-run c =
    let on = c.run_by-ended.ensures c.args.self.now (same_itself c.args.self.now) in
    run_to_same c.args.self.now on.new c.run_by-ended.new.stepper c.args.how.now c.args.stop (ends_same c.run_by-ended.result _ on.behind)
    c.run_by-ended.result on.run
