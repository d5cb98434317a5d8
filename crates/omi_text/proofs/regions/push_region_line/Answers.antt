use Rattle.omi_text.proofs.Whole.{on_ok, region_added}
use Rattle.omi_text.proofs.regions.push_region_line.Goals as goal

pub returns : goal.returns
returns c =
    on_ok c.push_around.result
    (region_added c.args.row.now _ c.in_ok-push_name.ensures c.in_ok-push_variables.ensures)
    c.push_around.ensures
