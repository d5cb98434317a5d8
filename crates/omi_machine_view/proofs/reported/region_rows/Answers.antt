use Rattle.std.proofs.Common.{◌≡◌, ◌++◌, ◌∷◌, [], take, length, sym, ap, subst, ◌∙◌, arith}
use Rattle.std.proofs.lemmas.List.{take_all}
use Rattle.omi_model.specs.Put.{named}
use Rattle.omi_model.specs.Views.{AreRegions}
use Rattle.omi_machine.specs.Kept.{state_of}
use Rattle.omi_machine_view.specs.Reported.{AreMet}
use Rattle.omi_machine_view.proofs.KnownThreads.{element}
use Rattle.omi_machine_view.proofs.RegionWalks.{none_met}
use Rattle.omi_machine_view.proofs.RegionRows.{regions_met}
use Rattle.omi_machine_view.proofs.Takes.{one_more}
use Rattle.omi_machine_view.proofs.reported.region_rows.Goals as goal

pub loop-at-init : goal.loop-at-init
loop-at-init c = record {
  places = λ n x is. c.in_ok-marks.ensures.places n x (ap (λ m. named m n) (sym c.regions.ensures) ∙ is);
  met = none_met (state_of c.args.s.now) c.in_ok-marks.marks.met.items c.in_ok-marks.ensures.empty;
}

pub meet_regions-requires-clause-known : goal.meet_regions-requires-clause-known
meet_regions-requires-clause-known c =
    c.requires c.get.result.now (element c.args.threads.now c.loop-at.at c.get.result.now c.get.ensures)

pub loop-at-preserved : goal.loop-at-preserved
loop-at-preserved c =
    let s = state_of c.args.s.now in
    let i = c.get.result.now in
    record {
      places = c.meet_regions.ensures.places;
      met =
          subst (λ front. AreMet s front c.meet_regions.new.marks.met.items)
          (sym (one_more c.args.threads.now c.loop-at.at i c.get.ensures))
          (c.meet_regions.ensures.met (take c.loop-at.at c.args.threads.now) c.loop-at.invariant.met);
    }

pub returns : goal.returns
returns c right =
    let s = state_of c.args.s.now in
    let threads = c.args.threads.now in
    let marks = c.loop-at.marks in
    let whole = take_all c.loop-at.at threads (omega arith) in
    let are = subst (λ front. AreMet s front marks.met.items) whole c.loop-at.invariant.met in
    subst (AreRegions s threads) (sym c.in_ok-rows.ensures)
    (regions_met s threads marks.met.items right c.requires are marks.creators marks.width marks.placed)
