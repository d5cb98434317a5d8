use Rattle.std.proofs.Common.{◌∙◌, refl, arith}
use Rattle.std.proofs.lemmas.Result.{on_ok_weaker}
use Rattle.omi_machine.proofs.GrownSlots.{now_kept, row_exchanged, still_kept_row}
use Rattle.omi_machine.proofs.slot_changes.keep_slot.Goals as goal

pub returns-clause-same : goal.returns-clause-same
returns-clause-same g c =
    row_exchanged c.keep_creators.new.slots _ _ c.args.n.creator c.exchange-row.result c.keep_row-kept.new.row c.new.result
    (omega (arith, c.in_ok-keep_creators.ensures.done)) c.exchange-row.ensures.before c.exchange-row.ensures.after c.exchange.ensures.after
    c.keep_row-kept.ensures.same ∙ c.in_ok-keep_creators.ensures.same

pub returns-clause-keeps : goal.returns-clause-keeps
returns-clause-keeps g c m kept =
    still_kept_row c.keep_creators.new.slots _ _ c.args.n.creator c.exchange-row.result c.keep_row-kept.new.row c.new.result
    (omega (arith, c.in_ok-keep_creators.ensures.done)) c.exchange-row.ensures.before c.exchange-row.ensures.after c.exchange.ensures.after
    c.keep_row-kept.ensures.more m (c.in_ok-keep_creators.ensures.keeps m kept)

pub returns-clause-done : goal.returns-clause-done
returns-clause-done g c =
    on_ok_weaker c.keep_row-kept.result
    (λ more. now_kept c.keep_creators.new.slots _ _ c.args.n.creator c.exchange-row.result c.keep_row-kept.new.row c.new.result (omega (arith, c.in_ok-keep_creators.ensures.done)) c.exchange-row.ensures.before c.exchange-row.ensures.after c.exchange.ensures.after
    c.args.n refl (omega (arith, more)))
    c.keep_row-kept.ensures.done
