-- Looking for an event's item from the front of a list on.
use Rattle.std.proofs.Common.{◌≡◌, ◌+◌, ℕ, suc, Bool, true, false, List, ◌∷◌, drop, Option, Some, None, refl, sym, ap, ◌∙◌, arith}
use Rattle.std.specs.Prelude.{slice_get}
use Rattle.std.specs.Option.{option_map}
use Rattle.std.proofs.Math.Seq.{drop-cons}
use Rattle.std.proofs.lemmas.Option.{slice_get_within, get_or_from_slice_get}
use Rattle.omi_script.specs.declared.program.Program.{Program}
use Rattle.omi_model.specs.declared.encounter.Encounter.{Encounter}
use Rattle.omi_model.specs.declared.event.Event.{Event}
use Rattle.omi_model.specs.declared.item.Item.{Item}
use Rattle.omi_model.specs.declared.item.Item.TheVariants as item
use Rattle.omi_model.specs.Lists.{fits, may_drop, opened, stays, take_item}

-- the list from a place on, where the item there is known
from_place : (xs : List Item) (k : ℕ) (x : Item) → slice_get xs k ≡ Some x → drop k xs ≡ x ∷ drop (k + 1) xs
from_place xs k x is =
    let next : suc k ≡ k + 1 = omega arith in
    drop-cons xs k item.Done (slice_get_within xs k x is)
    ∙ ap (λ (y : Item). y ∷ drop (suc k) xs) (get_or_from_slice_get xs k x item.Done is)
    ∙ ap (λ (n : ℕ). x ∷ drop n xs) next

module _ (p : Program) (at : Encounter) (e : Event) (xs : List Item) (k : ℕ) (x : Item) where
  -- the event's item is here
  pub taken_here : slice_get xs k ≡ Some x → fits e (opened p at x (drop (k + 1) xs)).0 ≡ true
      → take_item p at e (drop k xs) ≡ Some (opened p at x (drop (k + 1) xs))
  taken_here is fit = ap (take_item p at e) (from_place xs k x is) ∙ rw fit refl

  -- the item here is passed over
  pub passed_over : slice_get xs k ≡ Some x → fits e (opened p at x (drop (k + 1) xs)).0 ≡ false
      → may_drop x ≡ true → take_item p at e (drop k xs) ≡ take_item p at e (drop (k + 1) xs)
  passed_over is other may = ap (take_item p at e) (from_place xs k x is) ∙ rw (other, may) refl

  -- the item here stands in the way
  pub not_taken : slice_get xs k ≡ Some x → fits e (opened p at x (drop (k + 1) xs)).0 ≡ false
      → may_drop x ≡ false → take_item p at e (drop k xs) ≡ None
  not_taken is other may = ap (take_item p at e) (from_place xs k x is) ∙ rw (other, may) refl

-- the same, by the head that the item opens to, and from the whole list on
module _ (at : Encounter) (e : Event) (xs : List Item) (k : ℕ) (x head : Item) (is : slice_get xs k ≡ Some x)
    (heads : (p : Program) (rest : List Item) → (opened p at x rest).0 ≡ head)
    (so_far : (p : Program) → take_item p at e (drop k xs) ≡ take_item p at e xs) where
  fits_as : (p : Program) (b : Bool) → fits e head ≡ b → fits e (opened p at x (drop (k + 1) xs)).0 ≡ b
  fits_as p b fit = ap (fits e) (heads p (drop (k + 1) xs)) ∙ fit

  pub head_taken : (b : Bool) → b ≡ fits e head → b ≡ true → (p : Program)
      → option_map (λ (t : Item × List Item). t.0) (take_item p at e xs) ≡ Some head
  head_taken b fit here p =
      ap (option_map (λ (t : Item × List Item). t.0))
      (sym (so_far p) ∙ taken_here p at e xs k x is (fits_as p true (sym fit ∙ here)))
      ∙ ap (λ (y : Item). Some y) (heads p (drop (k + 1) xs))

  pub none_taken : (b d : Bool) → b ≡ fits e head → b ≡ false → d ≡ may_drop x → d ≡ false → (p : Program)
      → option_map (λ (t : Item × List Item). t.0) (take_item p at e xs) ≡ None
  none_taken b d fit other may stop p =
      ap (option_map (λ (t : Item × List Item). t.0))
      (sym (so_far p) ∙ not_taken p at e xs k x is (fits_as p false (sym fit ∙ other)) (sym may ∙ stop))

  pub next_place : (b d : Bool) → b ≡ fits e head → b ≡ false → d ≡ may_drop x → d ≡ true → (p : Program)
      → take_item p at e (drop (k + 1) xs) ≡ take_item p at e xs
  next_place b d fit other may goes p =
      sym (passed_over p at e xs k x is (fits_as p false (sym fit ∙ other)) (sym may ∙ goes)) ∙ so_far p

-- the list once an item is taken
abbrev pub moved : Encounter → Event → Option (Item × List Item) → Option (Item × List Item)
moved at e = option_map (λ (t : Item × List Item). (t.0, stays at e t.0 t.1))

-- the list moves on, as far as it was looked at
module _ (p : Program) (at : Encounter) (e : Event) (xs : List Item) (k : ℕ) (x head : Item)
    (is : slice_get xs k ≡ Some x) (heads : (p : Program) (rest : List Item) → (opened p at x rest).0 ≡ head)
    (so_far : take_item p at e (drop k xs) ≡ take_item p at e xs) (b : Bool) (fit : b ≡ fits e head) where
  fits_here : (d : Bool) → b ≡ d → fits e (opened p at x (drop (k + 1) xs)).0 ≡ d
  fits_here d here = ap (fits e) (heads p (drop (k + 1) xs)) ∙ sym fit ∙ here

  pub moved_here : (rest opens stay : List Item) → b ≡ true → rest ≡ drop (k + 1) xs
      → opens ≡ (opened p at x rest).1 → stay ≡ stays at e head opens
      → (t : Item × List Item) → t.0 ≡ head → t.1 ≡ stay → Some t ≡ moved at e (take_item p at e xs)
  moved_here rest opens stay here behind row what t first second =
      let o : Item × List Item = opened p at x (drop (k + 1) xs) in
      let h : o.0 ≡ head = heads p (drop (k + 1) xs) in
      let r : opens ≡ o.1 = row ∙ ap (λ (ys : List Item). (opened p at x ys).1) behind in
      let pair : Item → List Item → Item × List Item = λ y ys. (y, ys) in
      ap (λ (u : Item × List Item). Some u)
      ((λ j. pair (first j) (second j)) ∙ ap (pair head) (what ∙ ap (stays at e head) r) ∙ ap (λ (y : Item). pair y (stays at e y o.1)) (sym h))
      ∙ ap (moved at e) (sym (taken_here p at e xs k x is (fits_here true here)) ∙ so_far)

  pub none_here : (d : Bool) → b ≡ false → d ≡ may_drop x → d ≡ false
      → None ≡ moved at e (take_item p at e xs)
  none_here d other may stop =
      sym (ap (moved at e) (sym so_far ∙ not_taken p at e xs k x is (fits_here false other) (sym may ∙ stop)))

  pub next_here : (d : Bool) → b ≡ false → d ≡ may_drop x → d ≡ true
      → take_item p at e (drop (k + 1) xs) ≡ take_item p at e xs
  next_here d other may goes =
      sym (passed_over p at e xs k x is (fits_here false other) (sym may ∙ goes)) ∙ so_far
