use Rattle.std.proofs.Common.{◌∙◌}
use Rattle.omi_ask.specs.Regions as regions
use Rattle.omi_handle.specs.declared.handle.Kind.TheVariants as object
use Rattle.omi_c.specs.Objects as objects
use Rattle.omi_c.proofs.Asked.{asked_of_object, refused_in}
use Rattle.omi_c.proofs.regions.curr_parallel.Goals as goal

pub returns-in_err-s : goal.returns-in_err-s
returns-in_err-s g c =
    refused_in c.args.table.now c.args.known.now (λ w. regions.current_region w (objects.held_in w object.Thread c.args.thread))
    c.from_residual.result _ c.from_residual.ensures.1 c.in_err-s.ensures.refused

pub returns : goal.returns
returns g c =
    c.replied.ensures
    ∙ asked_of_object c.args.table.now c.args.known.now c.in_ok-s.s _ c.in_ok-s.ensures.opened object.Thread c.args.thread
    regions.current_region c.held_in-thread.result c.current_region_of-region.result c.held_in-thread.ensures.value c.current_region_of-region.ensures.answer
