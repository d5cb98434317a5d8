use Rattle.std.proofs.Common.{◌≡◌, ◌+◌, sym, ap, subst, arith}
use mathlib.Core.Option.{none}
use Rattle.atomic_table.specs.Table.{Allows, step}
use Rattle.omi_layout.specs.declared.layout.Layout.{Layout}
use Rattle.omi_layout.specs.Place.{image_words}
use Rattle.omi_seat.specs.Seats.{Seated}
use Rattle.omi_park.specs.declared.known.Part.{Part}
use Rattle.omi_park.specs.Plays.{said}
use Rattle.omi_park.specs.Running.{Keeps}
use Rattle.omi_park.proofs.Worked.{say_allowed}
use Rattle.omi_park.proofs.worker.say.Goals as goal

pub store-requires : goal.store-requires
store-requires c =
    let x = c.requires.may.0 in
    let may = c.requires.may.1 in
    let key = c.args.words.now.key in
    let image : image_words c.args.l.now.table ≡ image_words key.layout.value.table =
    ap (λ (z : Layout). image_words z.table) (sym c.requires.at.layout) in
    let thread = may.with_it.thread in
    let place = c.acknowledgement_place-own.ensures.place in (
      c.requires.seated,
      c.acknowledgement_place-own.ensures.inside,
      subst
          (λ n. Allows (Keeps key.program.value key.layout.value) c.args.words.now.table_id.slots c.args.worker.now.seat.id c.args.worker.now.seat.me n (λ found. c.args.word) (λ found. said (step 0 0 0 0 none) c.args.worker.now.seat.me c.args.word))
          (omega (arith, image, thread, place))
          (subst (λ (m : Seated Part). Allows (Keeps key.program.value key.layout.value) c.args.words.now.table_id.slots c.args.worker.now.seat.id m (image_words key.layout.value.table + 1 + x.known.thread) (λ found. c.args.word) (λ found. said (step 0 0 0 0 none) m c.args.word)) (sym may.with_it.knows)
          (say_allowed key.program.value key.layout.value c.args.words.now.table_id.slots c.args.worker.now.seat.id x c.args.word (step 0 0 0 0 none) may.loose may.with_it.few may.may)),
    )

pub returns-clause-said : goal.returns-clause-said
returns-clause-said c x is = c.store.ensures.2 x (ap (λ (m : Seated Part). m.0) is)
