use Rattle.std.proofs.Common.{◌≡◌, ◌+◌, List, ℕ, length, refl, sym, ap, ◌∙◌, subst, arith}
use Rattle.omi_park.specs.Inspecting.{HasSeenAll}
use Rattle.omi_park.proofs.Copying.{none_seen_yet, seen_more}
use Rattle.omi_park.proofs.inspector.await_all.Goals as goal

pub loop-thread-init : goal.loop-thread-init
loop-thread-init g c =
    let long = c.args.steps.ok.0 in
    let none : length c.args.steps.items ≡ 0 = ap length c.requires.empty in
    record {
      seated = refl;
      count = omega (arith, long, none);
      room = c.requires.room;
      seen = λ i seeing.
          subst (λ (made : List ℕ). HasSeenAll i 0 made c.args.seat.now.me) (sym c.requires.empty)
          (none_seen_yet i c.args.seat.now.me seeing.knows seeing.seen);
    }

pub await_still-made-requires-clause-seated : goal.await_still-made-requires-clause-seated
await_still-made-requires-clause-seated g c = c.loop-thread.invariant.seated ∙ c.requires.seated

pub await_still-made-requires-clause-seeing : goal.await_still-made-requires-clause-seeing
await_still-made-requires-clause-seeing g c =
    let i = c.requires.seeing.0 in
    let seeing = c.requires.seeing.1 in
    let has = c.loop-thread.invariant.seen i seeing in (
      record i { seen = has.words },
      record {
        knows = has.knows;
        called = seeing.called;
        odd = seeing.odd;
        seen = has.many;
        none_copied = seeing.none_copied;
      },
    )

pub loop-thread-preserved : goal.loop-thread-preserved
loop-thread-preserved g c =
    let now = c.loop-thread.invariant in
    let count = now.count in
    let more = c.push_reserved.ensures.len in
    let capacity = c.push_reserved.ensures.capacity in
    let room = now.room in
    record {
      seated = c.await_still-made.ensures.seated ∙ now.seated;
      count = omega (arith, count, more);
      room = omega (arith, room, capacity);
      seen = λ i seeing.
          let has = now.seen i seeing in
          let seen = c.await_still-made.ensures.seen (record i { seen = has.words })
          record {
            knows = has.knows;
            called = seeing.called;
            odd = seeing.odd;
            seen = has.many;
            none_copied = seeing.none_copied;
          } in
          subst (λ (made : List ℕ). HasSeenAll i (c.loop-thread.thread + 1) made c.await_still-made.new.seat.me) (sym c.push_reserved.ensures.items)
          (seen_more i c.loop-thread.thread c.await_still-made.result c.loop-thread.steps.items c.loop-thread.seat.me c.await_still-made.new.seat.me has seen);
    }

pub push_reserved-requires : goal.push_reserved-requires
push_reserved-requires g c =
    let room = c.loop-thread.invariant.room in
    let count = c.loop-thread.invariant.count in
    let below = c.loop-thread-test.true in
    omega (arith, room, count, below)

pub returns-clause-seen : goal.returns-clause-seen
returns-clause-seen g c i seeing =
    let now = c.loop-thread.invariant in
    let end = c.loop-thread-test.false in
    let least = c.loop-thread.auto.thread-end in
    subst (λ (made : List ℕ). HasSeenAll i c.args.p.now.threads made c.loop-thread.seat.me) (sym c.from_vec.ensures)
    (subst (λ n. HasSeenAll i n c.loop-thread.steps.items c.loop-thread.seat.me) (omega (arith, end, least)) (now.seen i seeing))
