use Rattle.std.proofs.Common.{◌≡◌, ◌<◌, ◌+◌, ◌-◌, ◌++◌, ◌∷◌, [], ◌∙◌, Ok, refl, ap, sym, subst, arith}
use Rattle.std.proofs.lemmas.List.Elements.{filter_map-append}
use Rattle.std.proofs.lemmas.Result.{err_from_is_err_and}
use Rattle.std.specs.List.{filter_map, range_with_len}
use Rattle.omi_layout.proofs.Arenas.{threads_of_valid}
use Rattle.omi_layout.specs.Table.{thread_count}
use Rattle.omi_rep.specs.Look.{each}
use Rattle.omi_session.proofs.Told.{stays_then}
use Rattle.omi_walk.proofs.Steps.{EachSoFar, each_begins, each_next, each_stops, each_ends, next_range, no_more, stop_gives}
use Rattle.omi_walk.specs.Gives.{Looks}
use Rattle.omi_ps.proofs.ThreadWords.{look_ids, stays}
use Rattle.omi_ps.specs.Recorded.{look_id}
use Rattle.omi_ps.proofs.recorded.recorded_ids.Goals as goal

pub loop-i-init : goal.loop-i-init
loop-i-init g c = record {
  same = record { table = record { same = refl; order = refl; to_host = refl }; layout = refl; handles = refl };
  later = omega arith;
  bound = c.threads_of-i-end.ensures.count;
  few = rw c.new-ids.ensures (omega arith);
  seen = [];
  ids_are = c.new-ids.ensures;
  goes =
      let n = thread_count c.args.s.now.layout in
      let all : n - 0 ≡ n = omega arith in
      rw all (each_begins g.C.Callbacks.told c.args.s.now look_id (range_with_len 0 n));
}

pub loop-i-preserved : goal.loop-i-preserved
loop-i-preserved g c =
    let told = g.C.Callbacks.told in
    let s = c.args.s.now in
    let t = c.loop-i.s in
    let n = thread_count s.layout in
    let all = range_with_len 0 n in
    let below : c.loop-i.i < n = omega (arith, c.loop-i.invariant.bound, c.loop-i-test.true) in
    record {
      same = stays_then told s t c.recorded_id.new.s c.loop-i.invariant.same c.recorded_id.ensures.same;
      later = omega (arith, c.loop-i.invariant.later, c.recorded_id.ensures.cause.later);
      bound = c.loop-i.invariant.bound;
      few = omega (arith, c.loop-i.invariant.few, c.in_ok-push_some.ensures.few);
      seen = c.loop-i.invariant.seen ++ c.in_ok-id.id ∷ [];
      ids_are =
          c.in_ok-push_some.ensures.added
          ∙ ap (λ ids. ids ++ filter_map (λ id. id) (c.in_ok-id.id ∷ [])) c.loop-i.invariant.ids_are
          ∙ sym (filter_map-append (λ id. id) c.loop-i.invariant.seen (c.in_ok-id.id ∷ []));
      goes = each_next told s look_id all t c.loop-i.invariant.seen c.recorded_id.new.s c.loop-i.i (range_with_len (c.loop-i.i + 1) (n - (c.loop-i.i + 1))) c.in_ok-id.id
          (subst (λ left. EachSoFar told s t look_id all c.loop-i.invariant.seen left) (next_range c.loop-i.i n below) c.loop-i.invariant.goes)
          c.in_ok-id.ensures.look (stays c.recorded_id.ensures.same);
    }

pub returns-in_err-id-clause-look : goal.returns-in_err-id-clause-look
unfolding Looks
returns-in_err-id-clause-look g c =
    let told = g.C.Callbacks.told in
    let s = c.args.s.now in
    let t = c.loop-i.s in
    let n = thread_count s.layout in
    let all = range_with_len 0 n in
    let f = c.in_err-id.field-0.0 in
    let p = err_from_is_err_and c.from_residual.result c.from_residual.ensures.1 in
    let below : c.loop-i.i < n = omega (arith, c.loop-i.invariant.bound, c.loop-i-test.true) in
    let so = subst (λ left. EachSoFar told s t look_id all c.loop-i.invariant.seen left) (next_range c.loop-i.i n below) c.loop-i.invariant.goes in
    λ memory tells. rw (p.1, p.2)
    (stop_gives f (each (look_id s.layout memory) all) (λ seen. Ok (filter_map (λ id. id) seen))
    (each_stops told s look_id all t c.loop-i.invariant.seen c.loop-i.i (range_with_len (c.loop-i.i + 1) (n - (c.loop-i.i + 1))) f so c.in_err-id.ensures.look memory tells))

pub returns-in_err-push_some-clause-look : goal.returns-in_err-push_some-clause-look
unfolding Looks
returns-in_err-push_some-clause-look g c =
    let p = err_from_is_err_and c.from_residual-in_err-push_some.result c.from_residual-in_err-push_some.ensures.1 in
    λ memory tells. rw (p.1, p.2) tt

pub returns-clause-look : goal.returns-clause-look
unfolding Looks
returns-clause-look g c =
    let told = g.C.Callbacks.told in
    let s = c.args.s.now in
    let t = c.loop-i.s in
    let n = thread_count s.layout in
    let all = range_with_len 0 n in
    λ memory tells. rw c.loop-i.invariant.ids_are
    (look_ids (filter_map (λ id. id)) (each (look_id s.layout memory) all) c.loop-i.invariant.seen
    (each_ends told s look_id all t c.loop-i.invariant.seen
    (subst (λ left. EachSoFar told s t look_id all c.loop-i.invariant.seen left) (no_more c.loop-i.i n (omega (arith, c.loop-i.invariant.bound, c.loop-i-test.false))) c.loop-i.invariant.goes)
    memory tells))

pub returns-clause-few : goal.returns-clause-few
returns-clause-few g c =
    omega (arith, c.loop-i.invariant.few, c.loop-i.auto.i-end, c.loop-i.invariant.bound, threads_of_valid c.args.s.now.layout c.threads_of-i-end.ensures.valid)
