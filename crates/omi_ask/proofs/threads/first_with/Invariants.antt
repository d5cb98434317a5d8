use Rattle.std.proofs.Common.{◌≡◌, ◌-◌, ◌≤◌}
use Rattle.std.specs.Prelude.{Result}
use Rattle.std.specs.List.{range_with_len}
use Rattle.omi_handle.specs.declared.handle.Held.{Held}
use Rattle.omi_layout.specs.Table.{thread_count}
use Rattle.omi_session.specs.declared.rc.Rc.{Rc}
use Rattle.omi_session.specs.Opened.{Opened, StaysWhole}
use Rattle.omi_session.specs.Reads.{Answers}
use Rattle.omi_ask.specs.Threads.{first_with}
use Rattle.omi_ask.proofs.threads.first_with.Given as goal

-- the answer of the threads that are left is the answer of all
abbrev pub invariant-loop-i : goal.invariant-loop-i
invariant-loop-i g l = record {
  same : StaysWhole g.C.Callbacks.told l.initial.s l.s;
  later : g.C.Callbacks.faults l.initial.s.table.calls ≤ g.C.Callbacks.faults l.s.table.calls;
  bound : l.i-end ≡ thread_count l.initial.s.layout;
  rest : (last : Opened _ _) (result : Result Held Rc)
      → Answers g.C.Callbacks.told g.C.Callbacks.asked l.s last result
      (first_with l.initial.s.layout l.native (range_with_len l.i (thread_count l.initial.s.layout - l.i)))
      → Answers g.C.Callbacks.told g.C.Callbacks.asked l.initial.s last result (first_with l.initial.s.layout l.native (range_with_len 0 (thread_count l.initial.s.layout)));
}
