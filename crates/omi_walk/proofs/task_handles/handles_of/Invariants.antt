use Rattle.std.proofs.Common.{◌≡◌, ◌≤◌, ◌+◌, length, map, take, vec_len, vec_capacity}
use Rattle.omi_session.specs.Opened.{Stays}
use Rattle.omi_walk.proofs.HandlesMade.{AreMade}
use Rattle.omi_walk.proofs.task_handles.handles_of.Given as goal

abbrev pub invariant-loop-row : goal.invariant-loop-row
invariant-loop-row g l = record {
  made : AreMade l.initial.s.layout l.initial.s.handles l.s.handles l.kept.items;
  names : map (λ k. k.0) l.kept.items ≡ map (λ row. row.task) (take l.row-index l.row-items);
  len : vec_len l.kept ≡ l.row-index;
  room : length l.row-items ≤ l.s.handles.room + l.row-index;
  capacity : vec_capacity l.kept ≡ length l.row-items;
  stays : Stays g.C.Callbacks.told l.initial.s l.s;
  table : l.s.table ≡ l.initial.s.table;
}
