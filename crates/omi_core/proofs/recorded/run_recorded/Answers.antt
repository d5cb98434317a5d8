use Rattle.std.proofs.Common.{ℕ, List, ◌∙◌, sym, subst}
use Rattle.omi_script.specs.declared.program.Program.{Program}
use Rattle.omi_core.specs.Runs.{IsOpening}
use Rattle.omi_core.specs.Schedules.{IsListed}
use Rattle.omi_core.proofs.RecordedRuns.{recorded}
use Rattle.omi_core.proofs.recorded.run_recorded.Goals as goal

pub run_by-requires-clause-listed : goal.run_by-requires-clause-listed
run_by-requires-clause-listed g c =
    let o = c.in_ok-machine.ensures.opened in (
      o.first,
      (o.at, subst (g.R.Recorder.tells c.args.recorder) (sym o.opens.events) c.requires.nothing),
      subst (λ (p : Program). IsListed c.args.how.now p.threads c.args.stop.steps)
          (sym (o.opens.program ∙ c.in_ok-machine.ensures.program)) c.requires.listed,
    )

pub returns : goal.returns
returns g c =
    let o = c.in_ok-machine.ensures.opened in
    let told = subst (g.R.Recorder.tells c.args.recorder) (sym o.opens.events) c.requires.nothing in
    let made = c.in_ok-machine.ensures in
    let machine = c.in_ok-machine.machine in
    let opens =
    subst (λ (p : Program). IsOpening p c.args.l.table o.first) made.program
    (subst (λ (w : List ℕ). IsOpening machine.program w o.first) made.layout o.opens) in
    recorded c.args.p c.args.l.table c.args.how.now c.args.stop (g.R.Recorder.tells c.run_by.new.stepper.recorder) c.in_ok-why.why _
    c.run_by.new.stepper.machine c.run_by.new.stepper.steps o.first opens (c.in_ok-why.ensures o.first (o.at, told)) c.into_image.result
    c.into_image.ensures
