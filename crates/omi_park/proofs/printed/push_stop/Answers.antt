use Rattle.std.proofs.Common.{◌++◌, refl}
use Rattle.std.proofs.lemmas.Result.{IfOk-weaker}
use Rattle.std.specs.Prelude.{string_bytes}
use Rattle.omi_park.specs.Lines.{stop_head}
use Rattle.omi_text.specs.Report.{report}
use Rattle.omi_park.proofs.Showing.{added}
use Rattle.omi_park.proofs.printed.push_stop.Goals as goal

pub view_of-requires-clause-shown : goal.view_of-requires-clause-shown
view_of-requires-clause-shown c = let (w, names, copy, holds) = c.requires.copy in copy.shown

pub tasks_of-requires-clause-copy : goal.tasks_of-requires-clause-copy
tasks_of-requires-clause-copy c = let (w, names, copy, holds) = c.requires.copy in (w, copy)

pub returns : goal.returns
returns c = λ w names copy holds.
    let view = c.in_ok-view.view in
    let looked = c.in_ok-view.ensures w copy.gives in
    IfOk-weaker c.tasks_of.result _ _
    (λ kept keeps. record {
      part = stop_head c.args.number c.args.stop.now.steps ++ (report view ++ string_bytes c.in_ok-fates.fates);
      added =
          rw (
            c.in_ok-extend_from_slice-3.ensures.items,
            c.in_ok-extend_from_slice-2.ensures.items,
            c.in_ok-extend_from_slice.ensures.items,
            c.as_bytes-2.ensures.value,
            c.deref.ensures.value,
            c.as_bytes.ensures.value,
            c.in_ok-head.ensures,
            c.in_ok-report.ensures,
          )
          (added c.args.text.now.items (stop_head c.args.number c.args.stop.now.steps) (report view) (string_bytes c.in_ok-fates.fates));
      looked = record {
        view = view;
        look = looked;
        fates = string_bytes c.in_ok-fates.fates;
        asked = c.in_ok-fates.ensures w names copy holds;
        is = refl;
      };
      keeps = keeps;
    })
    (c.tasks_of.ensures w view copy looked)
