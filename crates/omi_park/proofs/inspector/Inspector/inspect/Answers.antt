-- The inspector's stops, one after another.
use Rattle.std.proofs.Common.{◌≡◌, ◌+◌, ◌++◌, List, [], ◌∷◌, length, slice_get, sym, ap, ◌∙◌, arith}
use Rattle.std.proofs.lemmas.List.{length-append}
use Rattle.omi_seat.proofs.Lists.{get_front, get_last}
use Rattle.omi_park.specs.declared.inspector.Room.{Room}
use Rattle.omi_park.specs.declared.stopped.Stopped.{Stopped}
use Rattle.omi_park.proofs.inspector.Inspector.inspect.Goals as goal

pub stop-stopped-requires-clause-room : goal.stop-stopped-requires-clause-room
stop-stopped-requires-clause-room g c κs held =
    c.loop-room.invariant.between.rooms (length c.pop.new.self.items) c.in-Some.room
    (ap (λ (rs : List Room). slice_get rs (length c.pop.new.self.items)) c.in-Some.ensures.items
    ∙ get_last c.pop.new.self.items c.in-Some.room)

pub stop-stopped-requires-clause-call : goal.stop-stopped-requires-clause-call
stop-stopped-requires-clause-call g c κs held =
    let now = c.loop-room.invariant in
    let between = now.between in
    let epoch = between.epoch in
    let next = now.epoch in
    let last = between.last in
    let rooms : length c.loop-room.self.rooms.items ≡ length c.pop.new.self.items + 1 =
    ap (λ (rs : List Room). length rs) c.in-Some.ensures.items ∙ length-append c.pop.new.self.items (c.in-Some.room ∷ []) in (
      now.part,
      record {
        knows = between.knows;
        none_seen = between.none_seen;
        none_copied = between.none_copied;
        next = omega (arith, epoch, next);
        odd = omega (arith, next);
        last = omega (arith, next, last, rooms);
      },
    )

pub stop-stopped-requires-clause-seated : goal.stop-stopped-requires-clause-seated
stop-stopped-requires-clause-seated g c κs held = c.loop-room.invariant.between.table

pub loop-room-preserved : goal.loop-room-preserved
loop-room-preserved g c =
    let now = c.loop-room.invariant in
    let between = now.between in
    let before = between.epoch in
    let next = now.epoch in
    let last = between.last in
    let rooms : length c.loop-room.self.rooms.items ≡ length c.pop.new.self.items + 1 =
    ap (λ (rs : List Room). length rs) c.in-Some.ensures.items ∙ length-append c.pop.new.self.items (c.in-Some.room ∷ []) in
    let stops : length c.push_reserved.new.self.items ≡ length c.loop-room.self.stops.items + 1 =
    ap (λ (ss : List Stopped). length ss) c.push_reserved.ensures.items ∙ length-append c.loop-room.self.stops.items (c.stop-stopped.result ∷ []) in
    let fewer = c.in-Some.ensures.cases in
    let more = c.push_reserved.ensures.len in
    let capacity = c.push_reserved.ensures.capacity in
    let room = between.room in
    let count = now.count in
    record {
      part = record now.part {
        epoch = c.loop-room.epoch + 1;
        stops = now.part.stops ++ c.stop-stopped.result ∷ [];
      };
      between = record {
        table = c.stop-stopped.ensures.seated ∙ between.table;
        knows =
            c.stop-stopped.ensures.over now.part
            record {
              knows = between.knows;
              none_seen = between.none_seen;
              none_copied = between.none_copied;
              next = omega (arith, before, next);
              odd = omega (arith, next);
              last = omega (arith, next, last, rooms);
            };
        none_seen = between.none_seen;
        none_copied = between.none_copied;
        epoch = omega (arith, next, stops);
        stops =
            ap (λ (ss : List Stopped). ss ++ c.stop-stopped.result ∷ []) between.stops
            ∙ sym c.push_reserved.ensures.items;
        rooms = λ k place got. between.rooms k place
            (ap (λ (rs : List Room). slice_get rs k) c.in-Some.ensures.items
            ∙ get_front c.pop.new.self.items c.in-Some.room place k got);
        last = omega (arith, last, rooms, stops);
        room = omega (arith, room, fewer, more, capacity);
      };
      epoch = omega (arith, next, stops);
      count = omega (arith, count, fewer, more);
    }

pub push_reserved-requires : goal.push_reserved-requires
push_reserved-requires g c =
    let room = c.loop-room.invariant.between.room in
    let fewer = c.in-Some.ensures.cases in
    omega (arith, room, fewer)
