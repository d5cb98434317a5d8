use Rattle.std.proofs.Common.{◌≡◌, ◌≤◌, ◌*◌, ◌-◌, ◌++◌, List, length}
use Rattle.std.specs.Prelude.{All, IfSome}
use Rattle.std.specs.Ordering.{nat_cmp}
use Rattle.std.specs.BTreeSet.{contains}
use Rattle.omi_handle.specs.declared.handle.Kind.TheVariants.{Task}
use Rattle.omi_layout.specs.Field.{tasks}
use Rattle.omi_layout.specs.Table.{records}
use Rattle.omi_model.specs.declared.view.TaskRow.{TaskRow}
use Rattle.omi_walk.specs.Kept.{IsLive}
use Rattle.omi_walk.specs.Leaves.{Leaves}
use Rattle.omi_walk.specs.Objects.{IsMet}
use Rattle.omi_walk.specs.AskTasks.{ask_chained}
use Rattle.omi_walk.proofs.ChainAsked.{ChainGoes}
use Rattle.omi_walk.proofs.scheduling.task_chain.Given as goal

abbrev pub invariant-loop : goal.invariant-loop
invariant-loop g l = record {
  leaves : Leaves g.C.Callbacks.told (5 * l.counter) l.initial.s l.s;
  later : g.C.Callbacks.faults l.initial.s.table.calls ≤ g.C.Callbacks.faults l.s.table.calls;
  bound : l.end ≡ records l.initial.s.layout tasks;
  few : l.end ≤ 262144;
  met : IfSome l.current (IsMet g.C.Callbacks.told l.s Task);
  added : List TaskRow;
  is : l.rows ≡ l.initial.rows ++ added;
  live : All (λ row. IsLive g.C.Callbacks.told l.s row.task) added;
  count : length added ≤ l.counter;
  goes : ChainGoes g.C.Callbacks.told g.C.Callbacks.asked l.initial.s (λ w. ask_chained w l.thread)
      (records l.initial.s.layout tasks) l.fn.first l.s added (l.end - l.counter)
      (contains nat_cmp l.met) l.current;
}
