use Rattle.std.proofs.Common.{ℕ, Option, Some, None, sym, subst}
use Rattle.std.proofs.lemmas.Result.{IfOk-weaker}
use Rattle.omi_core.specs.declared.schedule.Schedule.{Schedule}
use Rattle.omi_core.specs.Recorded.{IsRecorded}
use Rattle.omi_core.specs.Schedules.{IsListed}
use Rattle.omi_top.specs.Run.{thread_schedule}
use Rattle.omi_top.proofs.run.run_of.Goals as goal

-- neither schedule is a list
listed : (seed : Option ℕ) (threads steps : ℕ) → IsListed (thread_schedule seed) threads steps
listed None threads steps = tt
listed (Some seed) threads steps = tt

pub run_recorded-requires-clause-listed : goal.run_recorded-requires-clause-listed
run_recorded-requires-clause-listed g c =
    subst (λ (how : Schedule). IsListed how c.args.p.threads c.args.plan.stop.steps)
    (sym c.schedule.ensures)
    (listed c.args.plan.seed c.args.p.threads c.args.plan.stop.steps)

pub returns : goal.returns
returns g c =
    IfOk-weaker c.run_recorded.result _ _
    (λ ran recorded. record {
      w = c.family-layout.result.table;
      valid = c.family-layout.result.valid;
      family = c.family-layout.ensures.family;
      recorded = subst (λ (how : Schedule). IsRecorded c.args.p c.family-layout.result.table how c.args.plan.stop (λ items. g.R.Recorder.tells ran.recorder items) ran.image ran.steps ran.why) c.schedule.ensures recorded;
    })
    c.run_recorded.ensures
