use Rattle.std.proofs.Common.{◌≡◌, ◌++◌, List, [], ◌∷◌, length, slice_get, Some, vec_len, sym, ap, ◌∙◌, subst, arith}
use Rattle.omi_core.specs.declared.thread_run.ThreadRun.{ThreadRun}
use Rattle.omi_seat.specs.Workers.{AreJoined}
use Rattle.omi_seat.proofs.Joined.{joined_more, none_joined}
use Rattle.omi_seat.proofs.Lists.{get_front, get_last}
use Rattle.omi_seat.proofs.workers.all_joined.Goals as goal

pub loop-ended-init : goal.loop-ended-init
loop-ended-init g c =
    let room = c.requires.room in
    let none : length c.args.runs.items ≡ 0 = ap length c.requires.empty in
    let long = c.args.runs.ok.0 in
    record {
      seated = c.requires.seated;
      none = c.requires.none;
      room = omega (arith, room, none, long);
      count = omega (arith, none, long);
      left = λ i e got. got;
      joined = none_joined (vec_len c.args.all) c.args.all.items c.args.seat.now.me.0 c.args.runs.items c.requires.empty;
    }

pub joined-requires-clause-theirs : goal.joined-requires-clause-theirs
joined-requires-clause-theirs g c =
    let here : slice_get c.loop-ended.all.items (length c.pop.new.self.items) ≡ Some c.in-Some.ended =
    ap (λ es. slice_get es (length c.pop.new.self.items)) c.in-Some.ensures.items
    ∙ get_last c.pop.new.self.items c.in-Some.ended in
    c.requires.theirs (length c.pop.new.self.items) c.in-Some.ended (c.loop-ended.invariant.left (length c.pop.new.self.items) c.in-Some.ended here)

pub loop-ended-preserved : goal.loop-ended-preserved
loop-ended-preserved g c =
    let now = c.loop-ended.invariant in
    let fewer = c.in-Some.ensures.cases in
    let count = now.count in
    let more = c.push_reserved.ensures.len in
    let room = now.room in
    let capacity = c.push_reserved.ensures.capacity in
    let as_many = c.pop.new.self.ok.0 in
    let joined_count = c.loop-ended.runs.ok.0 in
    let here : slice_get c.loop-ended.all.items (length c.pop.new.self.items) ≡ Some c.in-Some.ended =
    ap (λ es. slice_get es (length c.pop.new.self.items)) c.in-Some.ensures.items
    ∙ get_last c.pop.new.self.items c.in-Some.ended in
    let there = now.left (length c.pop.new.self.items) c.in-Some.ended here in
    let theirs = c.requires.theirs (length c.pop.new.self.items) c.in-Some.ended there in
    let knows : c.joined.new.seat.me.0 ≡ c.loop-ended.seat.me.0 ++ theirs.part ∷ [] =
    ap (λ m. m.0) c.joined.ensures.knows ∙ ap (λ m. c.loop-ended.seat.me.0 ++ m.0) theirs.knows in
    record {
      seated = c.joined.ensures.seated ∙ now.seated;
      none = ap (λ m. m.1) c.joined.ensures.knows ∙ now.none;
      room = omega (arith, more, fewer, room, capacity);
      count = omega (arith, more, fewer, count);
      left = λ i e got. now.left i e (ap (λ es. slice_get es i) c.in-Some.ensures.items ∙ get_front c.pop.new.self.items c.in-Some.ended e i got);
      joined =
          subst (λ (rs : List ThreadRun). AreJoined (vec_len c.args.all) c.args.all.items c.args.seat.now.me.0 c.joined.new.seat.me.0 rs)
          (sym c.push_reserved.ensures.items)
          (joined_more (vec_len c.args.all) c.args.all.items c.args.seat.now.me.0 c.loop-ended.seat.me.0 c.joined.new.seat.me.0 c.loop-ended.runs.items now.joined
          (length c.pop.new.self.items) c.in-Some.ended c.joined.result theirs.part
          (omega (arith, as_many, joined_count, fewer, count)) there c.joined.ensures.left theirs.knows knows);
    }

pub returns-clause-joined : goal.returns-clause-joined
returns-clause-joined g c =
    subst (λ (rs : List ThreadRun). AreJoined (vec_len c.args.all) c.args.all.items c.args.seat.now.me.0 c.loop-ended.seat.me.0 rs) (sym c.from_vec.ensures)
    c.loop-ended.invariant.joined
