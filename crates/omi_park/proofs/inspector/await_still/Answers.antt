use Rattle.std.proofs.Common.{◌≡◌, ◌+◌, true, false, length, sym, ap, ◌∙◌, subst, arith}
use mathlib.Core.Option.{none}
use Rattle.atomic_table.specs.Table.{Allows, step}
use Rattle.omi_script.specs.declared.program.Program.{Program}
use Rattle.omi_layout.specs.declared.layout.Layout.{Layout}
use Rattle.omi_layout.specs.Place.{image_words}
use Rattle.omi_seat.specs.Seats.{Seated}
use Rattle.omi_park.specs.declared.known.Part.{Part}
use Rattle.omi_park.specs.Acknowledged.{IsOdd, is_still}
use Rattle.omi_park.specs.Plays.{seen}
use Rattle.omi_park.specs.Running.{Keeps}
use Rattle.omi_park.proofs.Copying.{has_seen, not_seen}
use Rattle.omi_park.proofs.Inspected.{see_allowed}
use Rattle.omi_park.proofs.inspector.await_still.Goals as goal

pub acknowledgement_place-place-requires-clause-below : goal.acknowledgement_place-place-requires-clause-below
acknowledgement_place-place-requires-clause-below g c =
    let below = c.requires.below in
    let threads = ap (λ (q : Program). q.threads) c.requires.table.program in
    omega (arith, below, threads)

pub load-said-requires : goal.load-said-requires
load-said-requires g c =
    let i = c.requires.seeing.0 in
    let seeing = c.requires.seeing.1 in
    let now = c.loop.invariant in
    let key = c.args.words.now.key in
    let of = c.requires.table.of in
    let image : image_words c.args.l.now.table ≡ image_words key.layout.value.table =
    ap (λ (z : Layout). image_words z.table) (sym of.layout) in
    let threads : key.program.value.threads ≡ c.args.p.now.threads =
    ap (λ (q : Program). q.threads) c.requires.table.program in
    let below = c.requires.below in
    let place = c.acknowledgement_place-place.ensures.place in
    let many = seeing.seen in (
      now.seated ∙ c.requires.seated,
      c.acknowledgement_place-place.ensures.inside,
      subst
          (λ n. Allows (Keeps key.program.value key.layout.value) c.args.words.now.table_id.slots c.loop.seat.id c.loop.seat.me n (λ found. found) (seen (step 0 0 0 0 none) c.loop.seat.me))
          (omega (arith, image, many, place))
          (subst (λ (m : Seated Part). Allows (Keeps key.program.value key.layout.value) c.args.words.now.table_id.slots c.loop.seat.id m (image_words key.layout.value.table + 1 + length i.seen) (λ found. found) (seen (step 0 0 0 0 none) m)) (sym (now.same ∙ seeing.knows))
          (see_allowed key.program.value key.layout.value c.args.words.now.table_id.slots c.loop.seat.id i (step 0 0 0 0 none)
          (subst IsOdd (sym seeing.called) seeing.odd) seeing.none_copied (omega (arith, many, below, threads)))),
    )

pub loop-preserved : goal.loop-preserved
loop-preserved g c =
    let i = c.requires.seeing.0 in
    let seeing = c.requires.seeing.1 in
    let now = c.loop.invariant in
    let not : is_still i.epoch c.load-said.result ≡ false =
    ap (λ e. is_still e c.load-said.result) seeing.called ∙ sym c.is_still.ensures ∙ c.if-is_still.false in
    record {
      seated = c.load-said.ensures.0 ∙ now.seated;
      same = not_seen i c.load-said.result c.load-said.new.seat.me c.loop.seat.me not
          (c.load-said.ensures.2 i (ap (λ (m : Seated Part). m.0) (now.same ∙ seeing.knows)))
          (now.same ∙ seeing.knows) ∙ now.same;
    }

pub returns-then-is_still-clause-seen : goal.returns-then-is_still-clause-seen
returns-then-is_still-clause-seen g c i seeing =
    let now = c.loop.invariant in
    let still : is_still i.epoch c.load-said.result ≡ true =
    ap (λ e. is_still e c.load-said.result) seeing.called ∙ sym c.is_still.ensures ∙ c.if-is_still.true in
    has_seen i c.load-said.result c.load-said.new.seat.me still
    (c.load-said.ensures.2 i (ap (λ (m : Seated Part). m.0) (now.same ∙ seeing.knows)))
