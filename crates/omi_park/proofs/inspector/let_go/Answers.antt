use Rattle.std.proofs.Common.{◌≡◌, ◌+◌, [], ◌∷◌, sym, ap, ◌∙◌, subst, arith}
use mathlib.Core.Option.{none}
use Rattle.atomic_table.specs.Table.{Allows, step}
use Rattle.omi_script.specs.declared.program.Program.{Program}
use Rattle.omi_layout.specs.declared.layout.Layout.{Layout}
use Rattle.omi_layout.specs.Place.{image_words}
use Rattle.omi_seat.specs.Seats.{Seated}
use Rattle.omi_park.specs.declared.known.Part.{Part}
use Rattle.omi_park.specs.declared.known.Part.TheVariants as part
use Rattle.omi_park.specs.Plays.{let_go}
use Rattle.omi_park.specs.Running.{Keeps}
use Rattle.omi_park.proofs.Inspected.{go_allowed}
use Rattle.omi_park.proofs.inspector.let_go.Goals as goal

pub store-requires : goal.store-requires
store-requires c =
    let i = c.requires.held.0 in
    let held = c.requires.held.1 in
    let key = c.args.words.now.key in
    let of = c.requires.table.of in
    let at : c.image_words.result ≡ image_words key.layout.value.table =
    c.image_words.ensures ∙ ap (λ (z : Layout). image_words z.table) (sym of.layout) in
    let threads : key.program.value.threads ≡ c.args.p.now.threads =
    ap (λ (q : Program). q.threads) c.requires.table.program in
    let count = of.count in
    let is = c.image_words.ensures in
    let called = held.called in
    let last = c.requires.last in
    let seen = held.seen in
    let copied = held.copied in (
      c.requires.seated,
      omega (arith, count, is),
      subst
          (λ n. Allows (Keeps key.program.value key.layout.value) c.args.words.now.table_id.slots c.args.seat.now.id c.args.seat.now.me n (λ found. c.args.epoch + 1) (λ found. let_go (step 0 0 0 0 none) c.args.seat.now.me (c.args.epoch + 1)))
          (sym at)
          (subst (λ (m : Seated Part). Allows (Keeps key.program.value key.layout.value) c.args.words.now.table_id.slots c.args.seat.now.id m (image_words key.layout.value.table) (λ found. c.args.epoch + 1) (λ found. let_go (step 0 0 0 0 none) m (c.args.epoch + 1))) (sym held.knows)
          (subst (λ e. Allows (Keeps key.program.value key.layout.value) c.args.words.now.table_id.slots c.args.seat.now.id (part.Inspector i ∷ [], []) (image_words key.layout.value.table) (λ found. e + 1) (λ found. let_go (step 0 0 0 0 none) (part.Inspector i ∷ [], []) (e + 1))) called
          (go_allowed key.program.value key.layout.value c.args.words.now.table_id.slots c.args.seat.now.id i (step 0 0 0 0 none) (omega (arith, seen, threads)) (omega (arith, copied, at, is)) (omega (arith, called, last))))),
    )

pub returns-clause-over : goal.returns-clause-over
returns-clause-over c i held = c.store.ensures.2 i (ap (λ (m : Seated Part). m.0) held.knows)
