use Rattle.std.proofs.Common.{◌≡◌, ◌≤◌, ◌∙◌, ◌-◌, ℕ, ap, sym, List, length, take, drop, arith}
use Rattle.std.specs.Prelude.{reverse}
use Rattle.std.proofs.lemmas.List.{length-reverse}
use Rattle.omi_model.specs.declared.item.Item.{Item}
use Rattle.omi_model.proofs.ItemLists.{reverse-take}
use Rattle.omi_model.proofs.item_list.ItemList.from_place.Goals as goal

pub returns : goal.returns
returns c =
    let xs : List Item = c.deref.result.now in
    let view : c.args.self.now ≡ reverse xs =
    sym c.self.view_is ∙ ap (λ (ys : List Item). reverse ys) (sym c.deref.ensures.value) in
    let count : c.len.result ≡ length xs = c.len.ensures ∙ sym c.deref.ensures.len in
    let within : c.args.at ≤ length xs =
    omega (arith, c.requires, ap (λ (ys : List Item). length ys) view, length-reverse xs) in
    ap (λ (ys : List Item). reverse ys)
    (c.in_ok-items.ensures.items ∙ ap (λ (n : ℕ). take (n - c.args.at) xs) count)
    ∙ reverse-take xs c.args.at within
    ∙ ap (drop c.args.at) (sym view)
