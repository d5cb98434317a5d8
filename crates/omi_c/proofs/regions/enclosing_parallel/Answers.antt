use Rattle.std.proofs.Common.{◌∙◌}
use Rattle.omi_ask.specs.Regions as regions
use Rattle.omi_handle.specs.declared.handle.Kind.TheVariants as object
use Rattle.omi_c.specs.Objects as objects
use Rattle.omi_c.proofs.Asked.{asked_of_object, refused_in}
use Rattle.omi_c.proofs.regions.enclosing_parallel.Goals as goal

pub returns-in_err-s : goal.returns-in_err-s
returns-in_err-s g c =
    refused_in c.args.table.now c.args.known.now (λ w. regions.enclosing_region w (objects.held_in w object.Region c.args.region))
    c.from_residual.result _ c.from_residual.ensures.1 c.in_err-s.ensures.refused

pub returns : goal.returns
returns g c =
    c.replied.ensures
    ∙ asked_of_object c.args.table.now c.args.known.now c.in_ok-s.s _ c.in_ok-s.ensures.opened object.Region c.args.region
    regions.enclosing_region c.held_in-region.result c.enclosing_region_of-enclosing.result c.held_in-region.ensures.value c.enclosing_region_of-enclosing.ensures.answer
