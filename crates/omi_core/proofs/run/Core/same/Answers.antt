use Rattle.std.proofs.Common.{◌∙◌, refl, subst}
use Rattle.omi_script.proofs.OneProgram.{same_program}
use Rattle.omi_core.specs.Runs.{IsSameRun, Run}
use Rattle.omi_core.proofs.Copied.{copied_run}
use Rattle.omi_core.proofs.run.Core.same.Goals as goal

pub invariant_of-result : goal.invariant_of-result
invariant_of-result c =
    copied_run
    (record { program = c.self.inside.program; table = c.self.inside.layout.table; words = c.self.inside.image; actors = c.self.inside.actors.items; events = c.self.inside.events; made = c.self.inside.made })
    c.self.invariant _ _ _ _ _ _
    (same_program _ _ c.in_ok-program.ensures) refl c.in_ok-image.ensures (c.in_ok-actors.ensures ∙ c.deref.ensures.value) c.in_ok-events.ensures c.in_ok-made.ensures

pub returns : goal.returns
returns c =
    subst
    (λ (z : Run). IsSameRun z (record { program = c.in_ok-program.program; table = c.self.inside.layout.table; words = c.in_ok-image.image; actors = c.in_ok-actors.actors.items; events = c.in_ok-events.events; made = c.in_ok-made.made }))
    c.self.view_is
    (record {
      program = same_program _ _ c.in_ok-program.ensures;
      table = refl;
      words = c.in_ok-image.ensures;
      actors = c.in_ok-actors.ensures ∙ c.deref.ensures.value;
      events = c.in_ok-events.ensures;
      made = c.in_ok-made.ensures;
    })
