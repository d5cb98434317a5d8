use Rattle.std.proofs.Common.{◌∷◌, ◌++◌, [], map, take, ap, ap₂, sym, ◌∙◌}
use Rattle.std.proofs.lemmas.List.{map_more}
use Rattle.std.proofs.lemmas.Option.{get_or_from_slice_get, slice_get_within}
use Rattle.omi_listing.specs.Threads.{context_cells, heading}
use Rattle.omi_listing.proofs.threads.rows.Goals as goal

pub loop-at-preserved : goal.loop-at-preserved
loop-at-preserved c =
    let xs = c.args.view.now.threads in
    let x = c.get.result.now in
    let f = context_cells c.args.view.now in
    let at = c.loop-at.at in
    c.in_ok-push-2.ensures.added
    ∙ ap₂ (λ table row. table ++ row ∷ []) c.loop-at.invariant c.in_ok-context_row.ensures
    ∙ ap (λ row. heading ∷ (map f (take at xs) ++ f row ∷ [])) (sym (get_or_from_slice_get xs at x x c.get.ensures))
    ∙ ap (λ rows. heading ∷ rows) (sym (map_more f xs at x (slice_get_within xs at x c.get.ensures)))
