use Rattle.std.proofs.Common.{◌≡◌, ◌≤◌, ◌*◌, ◌-◌, Some}
use Rattle.std.specs.Prelude.{IfSome, All}
use Rattle.std.specs.Ordering.{nat_cmp}
use Rattle.std.specs.BTreeSet.{contains}
use Rattle.omi_handle.specs.declared.handle.Kind.TheVariants.{Region}
use Rattle.omi_layout.specs.Field.{regions}
use Rattle.omi_layout.specs.Table.{records}
use Rattle.omi_walk.specs.Leaves.{Leaves}
use Rattle.omi_walk.specs.Objects.{IsMet}
use Rattle.omi_walk.specs.AskRegions.{ask_enclosed}
use Rattle.omi_walk.proofs.ChainAsked.{ChainGoes}
use Rattle.omi_walk.proofs.chain.enclosing.Given as goal

abbrev pub invariant-loop : goal.invariant-loop
invariant-loop g l = record {
  leaves : Leaves g.C.Callbacks.told (2 * l.counter) l.initial.s l.s;
  later : g.C.Callbacks.faults l.initial.s.table.calls ≤ g.C.Callbacks.faults l.s.table.calls;
  bound : l.end ≡ records l.initial.s.layout regions;
  few : l.end ≤ 4096;
  current : IfSome l.current (IsMet g.C.Callbacks.told l.s Region);
  chain : All (IsMet g.C.Callbacks.told l.s Region) l.chain;
  goes : ChainGoes g.C.Callbacks.told g.C.Callbacks.asked l.initial.s ask_enclosed
      (records l.initial.s.layout regions) (Some l.fn.first) l.s l.chain (l.end - l.counter)
      (contains nat_cmp l.met) l.current;
}
