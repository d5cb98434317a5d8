use Rattle.std.proofs.Common.{◌+◌, Some, cond, drop, ap, sym, ◌∙◌}
use Rattle.omi_text.proofs.Rows.{rows_left}
use Rattle.omi_listing.specs.Named.{is_same_id, row_named}
use Rattle.omi_listing.proofs.named.row_named.Goals as goal

pub returns-then-is_same_id : goal.returns-then-is_same_id
returns-then-is_same_id g c =
    let row = c.get-row.result.now in
    let left = rows_left c.args.rows.now c.loop-at.at row c.get-row.ensures in
    let named = ap (λ id. is_same_id id c.args.id) (sym c.id.ensures) ∙ sym c.is_same_id.ensures ∙ c.if-is_same_id.true in
    sym (c.loop-at.invariant
    ∙ ap (λ rows. row_named g.R.Named.name rows c.args.id) left
    ∙ ap (λ b. cond b (Some row) (row_named g.R.Named.name (drop (c.loop-at.at + 1) c.args.rows.now) c.args.id)) named)

pub loop-at-preserved : goal.loop-at-preserved
loop-at-preserved g c =
    let row = c.get-row.result.now in
    let left = rows_left c.args.rows.now c.loop-at.at row c.get-row.ensures in
    let other = ap (λ id. is_same_id id c.args.id) (sym c.id.ensures) ∙ sym c.is_same_id.ensures ∙ c.if-is_same_id.false in
    c.loop-at.invariant
    ∙ ap (λ rows. row_named g.R.Named.name rows c.args.id) left
    ∙ ap (λ b. cond b (Some row) (row_named g.R.Named.name (drop (c.loop-at.at + 1) c.args.rows.now) c.args.id)) other
