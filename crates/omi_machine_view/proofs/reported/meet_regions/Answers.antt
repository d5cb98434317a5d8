use Rattle.std.proofs.Common.{◌≡◌, [], ◌∷◌, ◌++◌, Some, sym, ap, subst, ◌∙◌}
use Rattle.std.specs.Option.{option_map}
use Rattle.omi_model.specs.Put.{named}
use Rattle.omi_model.specs.State.{region_of}
use Rattle.omi_machine.specs.Kept.{state_of, slots_of}
use Rattle.omi_machine_view.specs.Reported.{AreMet, AreMetBut, region_name}
use Rattle.omi_machine_view.proofs.MarkLemmas.{places_stay, stop_at}
use Rattle.omi_machine_view.proofs.RegionWalks.{walk_begins, walk_more, walk_ends}
use Rattle.omi_machine_view.proofs.reported.meet_regions.Goals as goal

pub loop-r-init : goal.loop-r-init
loop-r-init c =
    let s = state_of c.args.s.now in
    let met = c.args.marks.now.met.items in
    record {
      places = c.requires.places;
      met = λ threads are. subst (AreMetBut s threads c.args.i met) (sym c.root-at.ensures) (walk_begins s threads c.args.i met are);
    }

pub next_live-requires : goal.next_live-requires
next_live-requires c = λ n x is. c.loop-r.invariant.places n x (ap (λ m. named m n) c.regions.ensures ∙ is)

pub loop-r-preserved : goal.loop-r-preserved
loop-r-preserved c =
    let s = state_of c.args.s.now in
    let found = c.in-Some.ensures in
    let before = c.loop-r.invariant in
    let n = c.in-Some.field-0-0 in
    let r = c.in-Some.r.now in
    let live : region_of s (region_name n) ≡ Some r = ap (λ m. named m n) c.regions.ensures ∙ found.live in
    record {
      places = places_stay s.regions c.loop-r.marks c.next_live.new.marks n found.marked before.places;
      met = λ threads are.
          walk_more s threads c.args.i c.loop-r.marks.met.items c.loop-r.at (before.met threads are) c.next_live.new.marks.met.items n r (sym c.id_of.ensures ∙ found.next) live found.marked.kept found.marked.only found.marked.added;
    }

pub returns-clause-met : goal.returns-clause-met
returns-clause-met c threads are =
    let s = state_of c.args.s.now in
    let stops =
    stop_at s.regions (slots_of c.regions.result.now) c.loop-r.marks.met.items c.id_of.result
    (option_map (λ k. k.0) c.loop-r.at) c.regions.ensures c.id_of.ensures c.in_default.ensures.stops in
    let met =
    walk_ends s threads c.args.i c.loop-r.marks.met.items c.loop-r.at
    (c.loop-r.invariant.met threads are) stops in
    subst (λ m. AreMet s (threads ++ c.args.i ∷ []) m.met.items) (sym c.in_default.ensures.same) met
