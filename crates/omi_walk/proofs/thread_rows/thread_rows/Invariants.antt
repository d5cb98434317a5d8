use Rattle.std.proofs.Common.{◌≡◌, ◌≤◌, ◌*◌, List, drop, length, map}
use Rattle.std.specs.List.{All, flat_map}
use Rattle.omi_walk.specs.FoundThreads.{IsFound}
use Rattle.omi_walk.specs.Leaves.{Leaves}
use Rattle.omi_walk.specs.declared.threads.SeenThread.{SeenThread}
use Rattle.omi_walk.specs.SeenThreads.{found_in}
use Rattle.omi_walk.specs.AskThreads.{ask_thread}
use Rattle.omi_walk.proofs.EachAsked.{EachGoes}
use Rattle.omi_walk.proofs.thread_rows.thread_rows.Given as goal

abbrev pub invariant-loop-native : goal.invariant-loop-native
invariant-loop-native g l = record {
  leaves : Leaves g.C.Callbacks.told (3 * l.native-index) l.initial.s l.s;
  later : g.C.Callbacks.faults l.initial.s.table.calls ≤ g.C.Callbacks.faults l.s.table.calls;
  each : All (IsFound g.C.Callbacks.told l.s) l.found;
  few : length l.found ≤ l.native-index;
  seen : List SeenThread;
  rows_are : l.rows ≡ map (λ x. x.row) seen;
  found_are : l.found ≡ flat_map (λ x. found_in x.row.found x.current) seen;
  goes : EachGoes g.C.Callbacks.told g.C.Callbacks.asked l.initial.s (0, 0) (λ w k native. ask_thread w native) l.native-items l.s seen (drop l.native-index l.native-items);
}
