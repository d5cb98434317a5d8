use Rattle.std.proofs.Common.{◌∙◌, ap, sym}
use Rattle.omi_core.specs.Ends.{end_at, met_at}
use Rattle.omi_core.proofs.recorded.RecordingStepper.make_one.Goals as goal

pub returns-clause-made : goal.returns-clause-made
returns-clause-made g c a stands =
    let on = c.in_ok-outcome.ensures a stands.0 stands.1 in record {
      entry = on.entry;
      next = on.next;
      step = on.step;
      end_is = c.compact_end_at.ensures on.team ∙ ap (end_at c.args.on c.args.met) (sym on.outcome_is);
      met_is = c.compact_met_at.ensures on.team ∙ ap (met_at c.args.on c.args.met) (sym on.outcome_is);
      stands_behind = (on.at, on.told);
    }
