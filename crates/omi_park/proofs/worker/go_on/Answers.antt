-- A worker that waits: it parks in each odd epoch that it loads anew, and goes on in an even one.
use Rattle.std.proofs.Common.{refl, ◌∙◌, arith}
use Rattle.omi_park.specs.Acknowledged.{IsOdd}
use Rattle.omi_park.specs.Plays.{loads}
use Rattle.omi_park.proofs.Going.{is_to_park, waits_first, waits_on, waits_over, waits_still}
use Rattle.omi_park.proofs.worker.go_on.Goals as goal

pub loop-init : goal.loop-init
loop-init g c = record {
  same = record { table = refl; log = refl };
  waits = λ x goes. waits_first x c.args.worker.now goes;
}

pub load_epoch-epoch-requires-clause-seated : goal.load_epoch-epoch-requires-clause-seated
load_epoch-epoch-requires-clause-seated g c = c.loop.invariant.same.table ∙ c.requires.seated

pub load_epoch-epoch-requires-clause-alone : goal.load_epoch-epoch-requires-clause-alone
load_epoch-epoch-requires-clause-alone g c =
    let w = c.loop.invariant.waits c.requires.before.0 c.requires.before.1 in (w.part, w.with_it.knows, w.begun)

pub returns-then-epoch-eq0-clause-gone : goal.returns-then-epoch-eq0-clause-gone
returns-then-epoch-eq0-clause-gone g c x goes =
    let w = c.loop.invariant.waits x goes in
    waits_over w (c.load_epoch-epoch.ensures.loaded w.part w.with_it.knows) c.load_epoch-epoch.ensures.same
    (λ odd. let even = c.if-epoch-eq0.true in omega (arith, even, odd))

pub loop-preserved-then-epoch-parked : goal.loop-preserved-then-epoch-parked
loop-preserved-then-epoch-parked g c =
    let now = c.loop.invariant in
    let same = c.load_epoch-epoch.ensures.same in
    record {
      same = record { table = same.table ∙ now.same.table; log = same.log ∙ now.same.log };
      waits = λ x goes.
          let w = now.waits x goes in
          waits_still w (c.load_epoch-epoch.ensures.loaded w.part w.with_it.knows) same c.if-epoch-parked.true;
    }

pub park-requires-clause-may : goal.park-requires-clause-may
park-requires-clause-may g c =
    let w = c.loop.invariant.waits c.requires.before.0 c.requires.before.1 in (
      loads c.load_epoch-epoch.result w.part,
      is_to_park w (c.load_epoch-epoch.ensures.loaded w.part w.with_it.knows) c.load_epoch-epoch.ensures.same
          (let not_even = c.if-epoch-eq0.false in omega (arith, not_even))
          (λ is. let other = c.if-epoch-parked.false in omega (arith, other, is)),
    )

pub loop-preserved : goal.loop-preserved
loop-preserved g c =
    let now = c.loop.invariant in
    let same = c.load_epoch-epoch.ensures.same in
    let parked = c.park.ensures.same in
    record {
      same = record {
        table = parked.table ∙ same.table ∙ now.same.table;
        log = parked.log ∙ same.log ∙ now.same.log;
      };
      waits = λ x goes.
          let w = now.waits x goes in
          let has = c.load_epoch-epoch.ensures.loaded w.part w.with_it.knows in
          let odd : IsOdd c.load_epoch-epoch.result = (let not_even = c.if-epoch-eq0.false in omega (arith, not_even)) in
          waits_on w has same odd parked
          (c.park.ensures.parked (loads c.load_epoch-epoch.result w.part)
          (is_to_park w has same odd (λ is. let other = c.if-epoch-parked.false in omega (arith, other, is))));
    }
