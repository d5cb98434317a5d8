use Rattle.std.proofs.Common.{◌≡◌, ◌+◌, ◌∷◌, ◌++◌, ◌∙◌, [], List, length, ap, sym, subst, length-append}
use Rattle.omi_model.specs.declared.slot.Slot.{Slot}
use Rattle.omi_machine.specs.Kept.{slots_of}
use Rattle.omi_machine.specs.KeptSlots.{IsKept}
use Rattle.omi_machine.proofs.GrownSlots.{slots_more, kept_more}
use Rattle.omi_machine.proofs.slot_changes.keep_creators.Goals as goal

pub loop-preserved : goal.loop-preserved
loop-preserved g c =
    let slots : List (List (Slot g.row.T.Denot)) = c.loop.slots in
    let more : c.push.new.self ≡ slots ++ [] ∷ [] =
    c.in_ok-push.ensures.added ∙ ap (λ (row : List (Slot g.row.T.Denot)). slots ++ row ∷ []) c.new.ensures in
    record {
      same = ap (λ (s : List (List (Slot g.row.T.Denot))). slots_of s) more ∙ slots_more slots ∙ c.loop.invariant.same;
      keeps = λ n kept. subst (λ (s : List (List (Slot g.row.T.Denot))). IsKept s n) (sym more) (kept_more slots n (c.loop.invariant.keeps n kept));
      count = ap (λ (s : List (List (Slot g.row.T.Denot))). length s) more ∙ length-append slots ([] ∷ []) ∙ ap (λ n. n + 1) c.loop.invariant.count;
    }
