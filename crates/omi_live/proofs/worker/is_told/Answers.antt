use Rattle.std.proofs.Common.{◌≡◌, ◌==◌, sym, ap, ◌∙◌, subst, arith}
use mathlib.Core.Option.{none}
use Rattle.atomic_table.specs.Table.{Allows, step}
use Rattle.omi_layout.specs.declared.layout.Layout.{Layout}
use Rattle.omi_layout.specs.Place.{image_words}
use Rattle.omi_seat.specs.Seats.{Seated}
use Rattle.omi_live.specs.declared.known.Part.{Part}
use Rattle.omi_live.specs.Plays.{looked}
use Rattle.omi_live.specs.Running.{Keeps}
use Rattle.omi_live.proofs.Looked.{look_allowed}
use Rattle.omi_live.proofs.worker.is_told.Goals as goal

pub load-requires : goal.load-requires
load-requires c =
    let alone = c.requires.alone in
    let key = c.args.words.now.key in
    let at : c.image_words.result ≡ image_words key.layout.value.table =
    c.image_words.ensures ∙ ap (λ (z : Layout). image_words z.table) (sym c.requires.layout) in
    let count = c.requires.count in
    let is = c.image_words.ensures in (
      c.requires.seated,
      omega (arith, count, is),
      subst
          (λ n. Allows (Keeps key.program.value key.layout.value key.on) c.args.words.now.table_id.slots c.args.worker.now.seat.id c.args.worker.now.seat.me n (λ found. found) (looked (step 0 0 0 0 none) c.args.worker.now.seat.me))
          (sym at)
          (subst (λ (m : Seated Part). Allows (Keeps key.program.value key.layout.value key.on) c.args.words.now.table_id.slots c.args.worker.now.seat.id m (image_words key.layout.value.table) (λ found. found) (looked (step 0 0 0 0 none) m)) (sym alone.1)
          (look_allowed key.program.value key.layout.value key.on c.args.words.now.table_id.slots c.args.worker.now.seat.id alone.0 (step 0 0 0 0 none))),
    )

pub returns-clause-looked : goal.returns-clause-looked
returns-clause-looked c x is =
    let here = c.load.ensures.2 x (ap (λ (m : Seated Part). m.0) is) in
    record { knows = here.0; told = λ told. ap (λ n. n == 1) (here.2 told); able = here.3 }
