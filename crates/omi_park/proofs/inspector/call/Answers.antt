use Rattle.std.proofs.Common.{◌≡◌, [], ◌∷◌, length, refl, sym, ap, ◌∙◌, subst, arith}
use mathlib.Core.Option.{none}
use Rattle.atomic_table.specs.Table.{Allows, step}
use Rattle.omi_layout.specs.declared.layout.Layout.{Layout}
use Rattle.omi_layout.specs.Place.{image_words}
use Rattle.omi_seat.specs.Seats.{Seated}
use Rattle.omi_park.specs.declared.known.InspectorPart.{InspectorPart}
use Rattle.omi_park.specs.declared.known.Part.{Part}
use Rattle.omi_park.specs.declared.known.Part.TheVariants as part
use Rattle.omi_park.specs.Plays.{called}
use Rattle.omi_park.specs.Running.{Keeps}
use Rattle.omi_park.proofs.Inspected.{call_allowed}
use Rattle.omi_park.proofs.inspector.call.Goals as goal

pub store-requires : goal.store-requires
store-requires c =
    let i = c.requires.call.0 in
    let call = c.requires.call.1 in
    let key = c.args.words.now.key in
    let at : c.image_words.result ≡ image_words key.layout.value.table =
    c.image_words.ensures ∙ ap (λ (z : Layout). image_words z.table) (sym c.requires.table.layout) in
    let count = c.requires.table.count in
    let is = c.image_words.ensures in
    let next = call.next in
    let last = call.last in (
      c.requires.seated,
      omega (arith, count, is),
      subst
          (λ n. Allows (Keeps key.program.value key.layout.value) c.args.words.now.table_id.slots c.args.seat.now.id c.args.seat.now.me n (λ found. c.args.epoch) (λ found. called (step 0 0 0 0 none) c.args.seat.now.me c.args.epoch))
          (sym at)
          (subst (λ (m : Seated Part). Allows (Keeps key.program.value key.layout.value) c.args.words.now.table_id.slots c.args.seat.now.id m (image_words key.layout.value.table) (λ found. c.args.epoch) (λ found. called (step 0 0 0 0 none) m c.args.epoch)) (sym call.knows)
          (subst (λ e. Allows (Keeps key.program.value key.layout.value) c.args.words.now.table_id.slots c.args.seat.now.id (part.Inspector i ∷ [], []) (image_words key.layout.value.table) (λ found. e) (λ found. called (step 0 0 0 0 none) (part.Inspector i ∷ [], []) e)) next
          (call_allowed key.program.value key.layout.value c.args.words.now.table_id.slots c.args.seat.now.id i (step 0 0 0 0 none) call.none_seen call.none_copied (omega (arith, next, last))))),
    )

pub returns-clause-called : goal.returns-clause-called
returns-clause-called c i call = record {
  knows =
      c.store.ensures.2 i (ap (λ (m : Seated Part). m.0) call.knows)
      ∙ ap (λ e. (let j : InspectorPart = record i { epoch = e } in (part.Inspector j ∷ [], []))) call.next;
  called = refl;
  odd = call.odd;
  seen = ap length call.none_seen;
  none_copied = call.none_copied;
}
