use Rattle.std.proofs.Common.{◌≡◌, ◌≤◌, ◌-◌, ℕ, List, length, Option}
use Rattle.std.specs.List.{filter_map, range_with_len}
use Rattle.omi_layout.specs.Table.{thread_count}
use Rattle.omi_session.specs.Opened.{StaysWhole}
use Rattle.omi_walk.proofs.Steps.{EachSoFar}
use Rattle.omi_ps.specs.Recorded.{look_id}
use Rattle.omi_ps.proofs.recorded.recorded_ids.Given as goal

-- a look at the threads so far gives these
abbrev pub invariant-loop-i : goal.invariant-loop-i
invariant-loop-i g l =
    let n = thread_count l.initial.s.layout in
    record {
      same : StaysWhole g.C.Callbacks.told l.initial.s l.s;
      later : g.C.Callbacks.faults l.initial.s.table.calls ≤ g.C.Callbacks.faults l.s.table.calls;
      bound : l.i-end ≡ n;
      few : length l.ids ≤ l.i;
      seen : List (Option ℕ);
      ids_are : l.ids ≡ filter_map (λ id. id) seen;
      goes : EachSoFar g.C.Callbacks.told l.initial.s l.s look_id (range_with_len 0 n) seen (range_with_len l.i (n - l.i));
    }
