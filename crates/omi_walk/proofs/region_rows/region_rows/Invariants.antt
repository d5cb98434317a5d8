use Rattle.std.proofs.Common.{◌≡◌, ◌≤◌, ◌*◌, ◌-◌}
use Rattle.std.specs.List.{flat_map, range_with_len, filter_map}
use Rattle.omi_layout.specs.Field.{regions}
use Rattle.omi_layout.specs.Table.{thread_count, per_thread}
use Rattle.omi_walk.specs.Leaves.{Leaves}
use Rattle.omi_walk.specs.Regions.{met_in_slot, own_slots}
use Rattle.omi_walk.specs.AskRegions.{ask_region}
use Rattle.omi_rep.specs.Look.{slot_list}
use Rattle.omi_walk.proofs.EachAsked.{EachGoes}
use Rattle.omi_walk.proofs.region_rows.region_rows.Given as goal

abbrev pub invariant-loop-creator : goal.invariant-loop-creator
invariant-loop-creator g l = record {
  leaves : Leaves g.C.Callbacks.told (8320 * l.creator) l.initial.s l.s;
  later : g.C.Callbacks.faults l.initial.s.table.calls ≤ g.C.Callbacks.faults l.s.table.calls;
  bound : l.creator-end ≡ thread_count l.initial.s.layout;
  few : per_thread l.initial.s.layout regions ≤ 64;
  threads : thread_count l.initial.s.layout ≤ 64;
  goes : EachGoes g.C.Callbacks.told g.C.Callbacks.asked l.initial.s (0, 0) (λ w k m. ask_region w m)
      (filter_map (met_in_slot l.index) (slot_list l.initial.s.layout regions)) l.s l.rows
      (filter_map (met_in_slot l.index) (flat_map (own_slots l.initial.s.layout)
      (range_with_len l.creator (thread_count l.initial.s.layout - l.creator))));
}
