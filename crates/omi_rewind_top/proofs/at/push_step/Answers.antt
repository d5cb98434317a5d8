use Rattle.std.proofs.Common.{◌++◌, sym, subst, append_assoc}
use Rattle.omi_core.specs.Schedules.{IsListed}
use Rattle.omi_core.specs.declared.schedule.Schedule.{Schedule}
use Rattle.omi_rewind_top.specs.Lines.{place_line}
use Rattle.omi_rewind_top.proofs.Printed.{step_looked}
use Rattle.omi_rewind_top.proofs.Turned.{turn_later}
use Rattle.omi_rewind_top.proofs.at.push_step.Goals as goal

pub to-requires-clause-listed : goal.to-requires-clause-listed
to-requires-clause-listed c =
    subst (λ (how : Schedule). IsListed how c.args.rewind.now.run.program.threads c.args.step) (sym c.requires.turns.how) tt

pub report_at-requires : goal.report_at-requires
report_at-requires c =
    turn_later c.args.rewind.now c.to.new.self c.args.contexts.now c.requires.turns c.in_ok-at.ensures.later

pub returns-clause-shown : goal.returns-clause-shown
returns-clause-shown c =
    let turns = turn_later c.args.rewind.now c.to.new.self c.args.contexts.now c.requires.turns c.in_ok-at.ensures.later in (
      place_line c.args.step c.in_ok-at.at ++ c.in_ok-report.report.items,
      rw (c.in_ok-extend_from_slice-2.ensures.items, c.in_ok-extend_from_slice.ensures.items, c.deref.ensures.value, c.as_bytes.ensures.value, c.in_ok-line.ensures)
          (append_assoc c.args.text.now.items (place_line c.args.step c.in_ok-at.at) c.in_ok-report.report.items),
      step_looked c.to.new.self c.args.contexts.now turns c.made-made.ensures.run c.args.step c.in_ok-at.at c.in_ok-at.ensures.reached
          c.in_ok-report.report.items c.in_ok-report.ensures,
    )
