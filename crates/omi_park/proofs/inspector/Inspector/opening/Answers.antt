use Rattle.std.proofs.Common.{◌≡◌, length, refl, sym, ap, subst, arith}
use Rattle.omi_park.specs.Inspecting.{AreRooms}
use Rattle.omi_park.proofs.inspector.Inspector.opening.Goals as goal

pub returns-clause-between : goal.returns-clause-between
returns-clause-between c knows =
    let none = c.in_ok-stops.ensures.items in
    let zero : length c.in_ok-stops.stops.items ≡ 0 = ap length none in
    let empty = c.in_ok-stops.ensures.len in
    let capacity = c.in_ok-stops.ensures.capacity in
    let from = c.from.ensures in
    let count = c.in_ok-rooms.ensures.count in
    let long = c.in_ok-rooms.rooms.ok.0 in
    let few = c.requires.stops in
    record {
      table = refl;
      knows = knows;
      none_seen = refl;
      none_copied = refl;
      epoch = omega (arith, zero);
      stops = sym none;
      rooms = subst (λ n. AreRooms c.args.p.now.threads n c.in_ok-rooms.rooms.items) c.image_words.ensures c.in_ok-rooms.ensures.each;
      last = omega (arith, zero, count, long, few);
      room = omega (arith, empty, capacity, from, count);
    }
