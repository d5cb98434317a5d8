use Rattle.std.proofs.Common.{◌≡◌, ◌+◌, ◌<◌, ◌*◌, length, get_or, take, refl, sym, ap, subst, ◌∙◌, arith}
use Rattle.std.specs.Prelude.{IsTrue}
use Rattle.omi_layout.specs.declared.field.Field.TheVariants.{RuntimeVersion}
use Rattle.omi_layout.specs.Named.{number}
use Rattle.omi_layout.specs.Place.{fits}
use Rattle.omi_layout.specs.Plan.{Entry, IsEntryOf, IsFilled}
use Rattle.omi_layout.specs.Table.{offset}
use Rattle.omi_layout.proofs.Filling.{entry_low, entry_inside, filled_next}
use Rattle.omi_layout.proofs.layout.Layout.fill.Goals as goal
use Rattle.omi_layout.proofs.layout.Layout.fill.Goals.{After-from}

abbrev none : Entry
none = (RuntimeVersion, 0, 0)

abbrev this : After-from → Entry
this c = get_or c.args.plan.now c.loop-field.field-index none

is_entry : (c : After-from) → IsEntryOf c.args.self.now.table c.args.kind (this c)
is_entry c = c.requires.entries c.loop-field.field-index none c.loop-field-test.true

front : (c : After-from) → c.from.result ≡ offset c.args.self.now.table (number (this c).0)
front c = c.from.ensures ∙ c.offset.ensures ∙ ap (offset c.args.self.now.table) c.number.ensures.value

low : (c : After-from) → c.from.result + (this c).1 < 4096
low c =
    omega
    (arith, entry_low c.args.self.now.table c.args.self.now.valid c.args.kind (this c) (is_entry c), front c)

pub overflow_add-front : goal.overflow_add-front
overflow_add-front c = omega (arith, low (goal.at.overflow_add-front c).After-from)

pub overflow_mul-front : goal.overflow_mul-front
overflow_mul-front c = omega (arith, low (goal.at.overflow_mul-front c).After-from)

pub overflow_add-base : goal.overflow_add-base
overflow_add-base c = omega (arith, low (goal.at.overflow_add-base c).After-from, c.requires.low)

still_fits : (c : After-from) → IsTrue (fits c.args.self.now.table (length c.loop-field.image))
still_fits c =
    subst (λ n. IsTrue (fits c.args.self.now.table n))
    (sym c.loop-field.invariant.keeps.count) c.requires.fits

pub apply-requires : goal.apply-requires
apply-requires c =
    let f = (goal.at.apply-requires c).After-from in
    entry_inside c.args.self.now.table c.args.self.now.valid c.loop-field.image c.args.kind c.args.creator c.args.base
    (this f) (still_fits f) c.requires.slot (is_entry f) c.requires.address
    (c.args.base + 8 * (c.from.result + (this f).1)) (ap (λ n. c.args.base + 8 * (n + (this f).1)) (front f))

pub loop-field-preserved : goal.loop-field-preserved
loop-field-preserved c =
    let f = (goal.at.loop-field-preserved c).After-from in
    subst
    (λ image. IsFilled c.args.self.now.table c.args.image.now image c.args.creator c.args.kind (take (c.loop-field.field-index + 1) c.args.plan.now))
    (sym c.apply.ensures.after)
    (filled_next c.args.self.now.table c.args.self.now.valid c.loop-field.image c.args.kind c.args.creator c.args.base (this f) (still_fits f) c.requires.slot (is_entry f) c.requires.address
    (c.args.base + 8 * (c.from.result + (this f).1)) (ap (λ n. c.args.base + 8 * (n + (this f).1)) (front f))
    c.args.image.now c.args.plan.now c.loop-field.field-index none c.loop-field-test.true refl c.loop-field.invariant)
