use Rattle.std.proofs.Common.{◌≡◌, sym, ap, ◌∙◌, subst, arith}
use mathlib.Core.Option.{none}
use Rattle.atomic_table.specs.Table.{Allows, step}
use Rattle.omi_layout.specs.declared.layout.Layout.{Layout}
use Rattle.omi_layout.specs.Place.{image_words}
use Rattle.omi_seat.specs.Seats.{Seated}
use Rattle.omi_park.specs.declared.known.Part.{Part}
use Rattle.omi_park.specs.Plays.{loaded}
use Rattle.omi_park.specs.Running.{Keeps}
use Rattle.omi_park.proofs.Worked.{load_allowed}
use Rattle.omi_park.proofs.worker.load_epoch.Goals as goal

pub load-requires : goal.load-requires
load-requires c =
    let alone = c.requires.alone in
    let key = c.args.words.now.key in
    let at : c.image_words.result ≡ image_words key.layout.value.table =
    c.image_words.ensures ∙ ap (λ (z : Layout). image_words z.table) (sym c.requires.at.layout) in
    let count = c.requires.at.count in
    let is = c.image_words.ensures in (
      c.requires.seated,
      omega (arith, count, is),
      subst
          (λ n. Allows (Keeps key.program.value key.layout.value) c.args.words.now.table_id.slots c.args.worker.now.seat.id c.args.worker.now.seat.me n (λ found. found) (loaded (step 0 0 0 0 none) c.args.worker.now.seat.me))
          (sym at)
          (subst (λ (m : Seated Part). Allows (Keeps key.program.value key.layout.value) c.args.words.now.table_id.slots c.args.worker.now.seat.id m (image_words key.layout.value.table) (λ found. found) (loaded (step 0 0 0 0 none) m)) (sym alone.1)
          (load_allowed key.program.value key.layout.value c.args.words.now.table_id.slots c.args.worker.now.seat.id alone.0 (step 0 0 0 0 none) alone.2)),
    )

pub returns-clause-loaded : goal.returns-clause-loaded
returns-clause-loaded c x is =
    let here = c.load.ensures.2 x (ap (λ (m : Seated Part). m.0) is) in
    record { knows = here.0; last = here.1; parked = here.2; able = here.3 }
