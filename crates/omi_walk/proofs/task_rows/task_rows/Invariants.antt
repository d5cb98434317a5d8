use Rattle.std.proofs.Common.{◌≡◌, ◌≤◌, ◌*◌, List, length, drop}
use Rattle.std.specs.List.{flat_map}
use Rattle.std.specs.Prelude.{All}
use Rattle.omi_model.specs.declared.view.TaskRow.{TaskRow}
use Rattle.omi_walk.specs.Kept.{IsLive}
use Rattle.omi_walk.specs.Leaves.{Leaves}
use Rattle.omi_walk.specs.AskTasks.{ask_tasks}
use Rattle.omi_walk.proofs.EachAsked.{EachGoes}
use Rattle.omi_walk.proofs.task_rows.task_rows.Given as goal

abbrev pub invariant-loop-at : goal.invariant-loop-at
invariant-loop-at g l = record {
  leaves : Leaves g.C.Callbacks.told (1310720 * l.at) l.initial.s l.s;
  later : g.C.Callbacks.faults l.initial.s.table.calls ≤ g.C.Callbacks.faults l.s.table.calls;
  bound : l.at-end ≡ length l.found;
  live : All (λ row. IsLive g.C.Callbacks.told l.s row.task) l.rows;
  few : length l.rows ≤ 262144 * l.at;
  walked : List (List TaskRow);
  walked_is : l.rows ≡ flat_map (λ r. r) walked;
  goes : EachGoes g.C.Callbacks.told g.C.Callbacks.asked l.initial.s (0, 0) (λ w k f. ask_tasks w f) l.found l.s walked (drop l.at l.found);
}
