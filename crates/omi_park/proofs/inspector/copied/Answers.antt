use Rattle.std.proofs.Common.{◌≡◌, ◌+◌, ℕ, List, length, slice_set, refl, sym, ap, ◌∙◌, subst, arith}
use mathlib.Core.Option.{none}
use Rattle.std.proofs.lemmas.List.{ext_get_or, length-set}
use Rattle.atomic_table.specs.Table.{Allows, step}
use Rattle.omi_script.specs.declared.program.Program.{Program}
use Rattle.omi_layout.specs.declared.layout.Layout.{Layout}
use Rattle.omi_layout.specs.Place.{image_words}
use Rattle.omi_word.proofs.Addresses.{place-address}
use Rattle.omi_seat.specs.Seats.{Seated}
use Rattle.omi_park.specs.declared.known.InspectorPart.{InspectorPart}
use Rattle.omi_park.specs.declared.known.Part.{Part}
use Rattle.omi_park.specs.Inspecting.{HasCopied, IsInspectorSeat}
use Rattle.omi_park.specs.Plays.{copied}
use Rattle.omi_park.specs.Running.{Keeps}
use Rattle.omi_park.proofs.Copying.{copied_more, none_yet}
use Rattle.omi_park.proofs.Inspected.{copy_allowed}
use Rattle.omi_park.proofs.inspector.copied.Goals as goal

pub loop-at-init : goal.loop-at-init
loop-at-init c = record {
  seated = refl;
  long = refl;
  copied = λ i seeing. none_yet i c.args.image c.args.seat.now.me seeing.knows seeing.none_copied;
}

pub load-word-requires : goal.load-word-requires
load-word-requires c =
    let i = c.requires.seen.0 in
    let seeing = c.requires.seen.1 in
    let now = c.loop-at.invariant in
    let has = now.copied i seeing in
    let key = c.args.words.now.key in
    let of = c.requires.table.of in
    let table : image_words c.args.l.now.table ≡ image_words key.layout.value.table =
    ap (λ (z : Layout). image_words z.table) (sym of.layout) in
    let threads : key.program.value.threads ≡ c.args.p.now.threads =
    ap (λ (q : Program). q.threads) c.requires.table.program in
    let count = of.count in
    let below = c.loop-at-test.true in
    let long = c.requires.long in
    let len = c.len-count.ensures.value in
    let many = has.many in
    let seen = seeing.seen in
    let j : InspectorPart = record i { copied = has.words } in (
      now.seated ∙ c.requires.seated,
      omega (arith, count, below, long, len),
      subst
          (λ n. Allows (Keeps key.program.value key.layout.value) c.args.words.now.table_id.slots c.loop-at.seat.id c.loop-at.seat.me n (λ found. found) (copied (step 0 0 0 0 none) c.loop-at.seat.me))
          many
          (subst (λ (m : Seated Part). Allows (Keeps key.program.value key.layout.value) c.args.words.now.table_id.slots c.loop-at.seat.id m (length has.words) (λ found. found) (copied (step 0 0 0 0 none) m)) (sym has.knows)
          (copy_allowed key.program.value key.layout.value c.args.words.now.table_id.slots c.loop-at.seat.id j (step 0 0 0 0 none)
          (omega (arith, seen, threads)) (omega (arith, many, below, long, len, table)))),
    )

pub loop-at-preserved : goal.loop-at-preserved
loop-at-preserved c =
    let now = c.loop-at.invariant in
    let below = c.loop-at-test.true in
    let count = c.len-count.ensures.value in
    let long = now.long in
    let there : c.apply.new.self ≡ slice_set c.loop-at.image c.loop-at.at c.load-word.result =
    c.apply.ensures.after ∙ ap (λ k. slice_set c.loop-at.image k c.load-word.result) (place-address c.loop-at.at) in
    record {
      seated = c.load-word.ensures.0 ∙ now.seated;
      long = ap length there ∙ length-set c.loop-at.image c.loop-at.at c.load-word.result ∙ long;
      copied = λ i seeing.
          subst (λ (image : List ℕ). HasCopied i (c.loop-at.at + 1) image c.load-word.new.seat.me) (sym there)
          (copied_more i c.loop-at.at c.load-word.result c.loop-at.image c.loop-at.seat.me c.load-word.new.seat.me (now.copied i seeing)
          (omega (arith, below, count, long)) (c.load-word.ensures.2 _ (ap (λ (m : Seated Part). m.0) (now.copied i seeing).knows)));
    }

pub returns-clause-long : goal.returns-clause-long
returns-clause-long c = c.loop-at.invariant.long ∙ c.requires.long

pub returns-clause-copied : goal.returns-clause-copied
returns-clause-copied c i seeing =
    let now = c.loop-at.invariant in
    let has = now.copied i seeing in
    let end = c.loop-at-test.false in
    let most = c.loop-at.auto.at-end in
    let count = c.len-count.ensures.value in
    let long = now.long in
    let many = has.many in
    let same : has.words ≡ c.loop-at.image =
    sym (ext_get_or 0 c.loop-at.image has.words (omega (arith, many, end, most, count, long))
    (λ k below. has.same k (omega (arith, below, end, most, count, long)))) in
    subst (λ (ws : List ℕ). IsInspectorSeat (record i { copied = ws }) c.loop-at.seat.me) same has.knows
