use Rattle.std.proofs.Common.{◌≤◌, ℕ, ◌+◌, List, [], length, refl, sym, subst, arith}
use Rattle.std.specs.Prelude.{IsTrue}
use Rattle.std.proofs.lemmas.List.{take_all}
use Rattle.omi_corefile.specs.Limits.{rises_from}
use Rattle.omi_commands.proofs.ThreadIds.{count, rising}
use Rattle.omi_commands.specs.Cores.{thread_ids}
use Rattle.omi_park.specs.Kept.{AreStopsLooked, IsStopPushed}
use Rattle.omi_park.specs.declared.stopped.Stopped.{Stopped}
use Rattle.omi_park.proofs.Showing.{pushed_more}
use Rattle.omi_park.proofs.printed.stops_text.Goals as goal

pub loop-at-init : goal.loop-at-init
loop-at-init c = record {
  bound = c.len-at-end.ensures;
  looked = λ w copies. ([], (c.new-text.ensures.items, refl), refl);
}

pub push_stop-requires-clause-few : goal.push_stop-requires-clause-few
push_stop-requires-clause-few c =
    let few = c.requires.few in
    let many = count c.args.threads in
    subst (λ (ids : List ℕ). length ids ≤ 64) (sym c.in_ok-contexts.ensures) (omega (arith, few, many))

pub push_stop-requires-clause-rising : goal.push_stop-requires-clause-rising
push_stop-requires-clause-rising c =
    subst (λ (ids : List ℕ). IsTrue (rises_from 0 ids)) (sym c.in_ok-contexts.ensures) (rising c.args.threads)

pub push_stop-requires-clause-copy : goal.push_stop-requires-clause-copy
push_stop-requires-clause-copy c =
    let (w, copies) = c.requires.copies in
    let (last, looked, holds) = c.loop-at.invariant.looked w copies in
    (w, last, copies c.loop-at.at c.get.result.now c.get.ensures, holds)

pub loop-at-preserved : goal.loop-at-preserved
loop-at-preserved c = record {
  bound = c.loop-at.invariant.bound;
  looked =
      λ w copies.
      let (last, looked, holds) = c.loop-at.invariant.looked w copies in
      pushed_more w (thread_ids c.args.threads) last c.args.stops.now c.loop-at.at c.get.result.now c.get.ensures c.loop-at.text.items c.push_stop.new.text.items
      c.in_ok-kept.kept looked
      (subst (λ (ids : List ℕ). IsStopPushed w ids (c.loop-at.at + 1) last c.get.result.now c.loop-at.text.items c.push_stop.new.text.items c.in_ok-kept.kept)
      c.in_ok-contexts.ensures (c.in_ok-kept.ensures w last (copies c.loop-at.at c.get.result.now c.get.ensures) holds));
}

pub returns : goal.returns
returns c = λ w copies.
    let (last, looked, holds) = c.loop-at.invariant.looked w copies in
    let bound = c.loop-at.invariant.bound in
    let past = c.loop-at-test.false in (
      last,
      subst (λ (stops : List Stopped). AreStopsLooked w (thread_ids c.args.threads) 1 [] stops c.loop-at.text.items last)
          (take_all c.loop-at.at c.args.stops.now (omega (arith, bound, past))) looked,
    )
