use Rattle.std.proofs.Common.{◌≡◌, ◌≤◌, ◌*◌, List, length, drop}
use Rattle.std.specs.List.{All, flat_map}
use Rattle.omi_handle.specs.declared.handle.Kind.TheVariants.{Region}
use Rattle.omi_walk.specs.declared.met.Met.{Met}
use Rattle.omi_walk.specs.Index.{HasFirst, AreSmall}
use Rattle.omi_walk.specs.Leaves.{Leaves}
use Rattle.omi_walk.specs.Objects.{IsMet}
use Rattle.omi_walk.specs.AskRegions.{ask_regions}
use Rattle.omi_walk.proofs.EachAsked.{EachGoes}
use Rattle.omi_walk.proofs.regions_met.regions_met.Given as goal

abbrev pub invariant-loop-at : goal.invariant-loop-at
invariant-loop-at g l = record {
  leaves : Leaves g.C.Callbacks.told (8194 * l.at) l.initial.s l.s;
  later : g.C.Callbacks.faults l.initial.s.table.calls ≤ g.C.Callbacks.faults l.s.table.calls;
  bound : l.at-end ≡ length l.found;
  met : List Met;
  first : HasFirst l.index met;
  small : AreSmall met;
  live : All (IsMet g.C.Callbacks.told l.s Region) met;
  all : List (List Met);
  flat : flat_map (λ chain. chain) all ≡ met;
  goes : EachGoes g.C.Callbacks.told g.C.Callbacks.asked l.initial.s (0, 0) (λ w k f. ask_regions w f) l.found l.s all (drop l.at l.found);
}
