-- An operation is on one word of a record.
use Rattle.std.proofs.Common.{◌≡◌, ℕ, List, sym, ap, ◌∙◌, subst, arith}
use Rattle.omi_word.specs.declared.op.Op.{Op}
use Rattle.omi_layout.specs.Field.{kind_of}
use Rattle.omi_layout.specs.Memory.{word_address}
use Rattle.omi_layout.specs.Named.{number}
use Rattle.omi_layout.specs.Place.{IsSlot, index_of}
use Rattle.omi_layout.specs.Valid.{IsValid}
use Rattle.omi_layout.specs.Words.{word_place}
use Rattle.omi_layout.proofs.Frame.{are_apart, slots_apart}
use Rattle.omi_layout.proofs.Stored.{address_placed, numbered}
use Rattle.omi_rule.specs.Steps.{IsOn, RecordWord}
use Rattle.omi_rule_watch.specs.WatchLaws.{WordsAreOne}

same_place : (w : List ℕ) → IsValid w → (o : Op) (x y : RecordWord) → IsOn w o x → IsOn w o y
    → word_place w (number x.field) (index_of w (kind_of (number x.field)) x.creator x.slot) x.place ≡ word_place w (number y.field)
    (index_of w (kind_of (number y.field)) y.creator y.slot) y.place
same_place w valid o x y on there =
    let one : word_address w x.creator x.slot (number x.field) x.place ≡ word_address w y.creator y.slot (number y.field) y.place =
    sym on.address ∙ there.address in
    let first = address_placed w valid x.creator x.slot (number x.field) x.place in
    let second = address_placed w valid y.creator y.slot (number y.field) y.place in
    omega (arith, one, first, second)

pub words_one : WordsAreOne
words_one = λ w o x y valid on there.
    let same = are_apart w valid (number x.field) (index_of w (kind_of (number x.field)) x.creator x.slot) x.place (number y.field)
    (index_of w (kind_of (number y.field)) y.creator y.slot) y.place
    (numbered w x.creator x.slot (number x.field) x.place on.there)
    (numbered w y.creator y.slot (number y.field) y.place there.there) (same_place w valid o x y on there) in
    let slots = slots_apart w (kind_of (number x.field)) x.creator x.slot y.creator y.slot on.there.record_slot
    (subst (λ f. IsSlot w (kind_of f) y.creator y.slot) (sym same.field) there.there.record_slot)
    (same.record_number ∙ ap (λ f. index_of w (kind_of f) y.creator y.slot) (sym same.field)) in
    record { creator = slots.maker; slot = slots.place; field = same.field; place = same.element }
