use Rattle.std.proofs.Common.{◌≡◌, sym, ap, ◌∙◌, subst, arith}
use mathlib.Core.Option.{none}
use Rattle.atomic_table.specs.Table.{Allows, step}
use Rattle.omi_layout.specs.declared.layout.Layout.{Layout}
use Rattle.omi_layout.specs.Place.{image_words}
use Rattle.omi_seat.specs.Seats.{Seated}
use Rattle.omi_live.specs.declared.known.Part.{Part}
use Rattle.omi_live.specs.Plays.{raised}
use Rattle.omi_live.specs.Running.{Keeps}
use Rattle.omi_live.proofs.Looked.{raise_allowed}
use Rattle.omi_live.proofs.worker.tell.Goals as goal

pub store-requires : goal.store-requires
store-requires c =
    let stops = c.requires.stops in
    let key = c.args.words.now.key in
    let at : c.image_words.result ≡ image_words key.layout.value.table =
    c.image_words.ensures ∙ ap (λ (z : Layout). image_words z.table) (sym c.requires.layout) in
    let count = c.requires.count in
    let is = c.image_words.ensures in (
      c.requires.seated,
      omega (arith, count, is),
      subst
          (λ n. Allows (Keeps key.program.value key.layout.value key.on) c.args.words.now.table_id.slots c.args.worker.now.seat.id c.args.worker.now.seat.me n (λ found. 1) (λ found. raised (step 0 0 0 0 none) c.args.worker.now.seat.me 1))
          (sym at)
          (subst (λ (m : Seated Part). Allows (Keeps key.program.value key.layout.value key.on) c.args.words.now.table_id.slots c.args.worker.now.seat.id m (image_words key.layout.value.table) (λ found. 1) (λ found. raised (step 0 0 0 0 none) m 1)) (sym stops.1)
          (raise_allowed key.program.value key.layout.value key.on c.args.words.now.table_id.slots c.args.worker.now.seat.id stops.0 (step 0 0 0 0 none) stops.2)),
    )

pub returns-clause-told : goal.returns-clause-told
returns-clause-told c x is = c.store.ensures.2 x (ap (λ (m : Seated Part). m.0) is)
