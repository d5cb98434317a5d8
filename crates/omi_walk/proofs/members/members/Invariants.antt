use Rattle.std.proofs.Common.{◌≡◌, ◌≤◌, ◌*◌, ◌-◌}
use Rattle.std.specs.List.{range_with_len}
use Rattle.omi_session.specs.Made.{region_pair}
use Rattle.omi_walk.specs.Leaves.{Leaves}
use Rattle.omi_walk.proofs.EachAsked.{EachGoes}
use Rattle.omi_walk.specs.AskRegions.{ask_member}
use Rattle.omi_walk.proofs.members.members.Given as goal

abbrev pub invariant-loop-num : goal.invariant-loop-num
invariant-loop-num g l = record {
  leaves : Leaves g.C.Callbacks.told (2 * l.num) l.initial.s l.s;
  later : g.C.Callbacks.faults l.initial.s.table.calls ≤ g.C.Callbacks.faults l.s.table.calls;
  bound : l.num-end ≡ l.size;
  goes : EachGoes g.C.Callbacks.told g.C.Callbacks.asked l.initial.s (region_pair l.r) (λ w k num. ask_member w k num) (range_with_len 0 l.size) l.s l.rows (range_with_len l.num (l.size - l.num));
}
