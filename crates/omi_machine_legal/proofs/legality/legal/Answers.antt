use Rattle.std.proofs.Common.{◌≡◌, Option, Some, None, List, sym, ap, subst, ◌∙◌, arith}
use Rattle.std.specs.Option.{option_map}
use Rattle.std.proofs.lemmas.Option.{none-some, same_Some}
use Rattle.omi_model.specs.declared.item.Item.{Item}
use Rattle.omi_machine.specs.Kept.{state_of}
use Rattle.omi_model.specs.Rules.{Rule, taken_by}
use Rattle.omi_machine_legal.proofs.legality.legal.Goals as goal

-- an item that was found, with what stands behind it
with_rest : (o : Option (Item × List Item)) (x : Item) → option_map (λ (t : Item × List Item). t.0) o ≡ Some x
    → (rest : List Item) × (o ≡ Some (x, rest))
with_rest None x is = absurd (none-some x is)
with_rest (Some (y, rest)) x is = (rest, ap (λ (z : Item). Some (z, rest)) (same_Some y x is))

pub returns-in-Some : goal.returns-in-Some
returns-in-Some c =
    let found = c.in-Some.ensures c.args.p.now in
    let (rest, taken) = with_rest (taken_by c.args.p.now (state_of c.args.s.now) c.args.thread c.args.e.now) c.in-Some.x found in (
      λ holds. record { known = omega arith; item = c.in-Some.x; behind = rest; taken = taken; rule = c.rule_holds.ensures.0 holds },
      λ legal. c.rule_holds.ensures.1 (subst (Rule (state_of c.args.s.now) c.args.thread c.args.e.now) (same_Some legal.item c.in-Some.x (sym (ap (option_map (λ (t : Item × List Item). t.0)) legal.taken) ∙ found)) legal.rule),
    )
