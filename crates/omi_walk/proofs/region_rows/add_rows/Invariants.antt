use Rattle.std.proofs.Common.{◌≡◌, ◌≤◌, ◌*◌, ◌++◌, ◌-◌, List, map}
use Rattle.std.specs.List.{range_with_len, filter_map}
use Rattle.omi_layout.specs.Field.{regions}
use Rattle.omi_layout.specs.Table.{per_thread}
use Rattle.omi_walk.specs.Leaves.{Leaves}
use Rattle.omi_model.specs.declared.view.RegionRow.{RegionRow}
use Rattle.omi_walk.specs.Regions.{met_in_slot, own_slots}
use Rattle.omi_walk.specs.AskRegions.{ask_region}
use Rattle.omi_walk.proofs.EachAsked.{EachGoes}
use Rattle.omi_walk.proofs.region_rows.add_rows.Given as goal

abbrev pub invariant-loop-slot : goal.invariant-loop-slot
invariant-loop-slot g l = record {
  leaves : Leaves g.C.Callbacks.told (130 * l.slot) l.initial.s l.s;
  later : g.C.Callbacks.faults l.initial.s.table.calls ≤ g.C.Callbacks.faults l.s.table.calls;
  bound : l.slot-end ≡ per_thread l.initial.s.layout regions;
  few : per_thread l.initial.s.layout regions ≤ 64;
  walked : List RegionRow;
  walked_is : l.rows ≡ l.initial.rows ++ walked;
  goes : EachGoes g.C.Callbacks.told g.C.Callbacks.asked l.initial.s (0, 0) (λ w k m. ask_region w m) (filter_map (met_in_slot l.index) (own_slots l.initial.s.layout l.creator)) l.s walked
      (filter_map (met_in_slot l.index) (map (λ slot. (l.creator, slot)) (range_with_len l.slot (per_thread l.initial.s.layout regions - l.slot))));
}
