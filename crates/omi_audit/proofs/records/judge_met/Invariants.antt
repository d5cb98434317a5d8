-- The records so far were judged, and what they name is met. The loop leaves the session whole, and what is known of the threads.
use Rattle.std.proofs.Common.{◌≡◌, ◌≤◌, ◌+◌, take}
use Rattle.omi_layout.specs.Field.{regions, tasks}
use Rattle.omi_layout.specs.Table.{records}
use Rattle.omi_session.specs.Opened.{StaysWhole}
use Rattle.omi_audit.specs.Judged.{OverKept, Starts}
use Rattle.omi_audit.specs.Listed.{asked_in_records}
use Rattle.omi_audit.proofs.Asking.{AsksAll}
use Rattle.omi_audit.proofs.JudgedSearch.{IsJudging}
use Rattle.omi_audit.proofs.records.judge_met.Given as goal

abbrev pub invariant-loop-next : goal.invariant-loop-next
invariant-loop-next g l =
    record {
      judged : OverKept g.C.Callbacks.told l.initial.s l.initial.search (λ memory.
          Starts l.initial.s.layout memory l.initial.search → IsJudging l.initial.s.layout memory l.next l.search);
      asks : OverKept g.C.Callbacks.told l.initial.s l.initial.search (λ memory.
          Starts l.initial.s.layout memory l.initial.search → AsksAll (g.C.Callbacks.told l.initial.s.table.calls) memory
          (asked_in_records l.initial.s.layout memory l.initial.search.met.keys (take l.next l.search.met.keys))
          (g.C.Callbacks.asked l.initial.s.table.calls) (g.C.Callbacks.asked l.s.table.calls));
      end : l.next-end ≡ records l.initial.s.layout regions + records l.initial.s.layout tasks;
      begun : l.search.begun.items ≡ l.initial.search.begun.items;
      same : StaysWhole g.C.Callbacks.told l.initial.s l.s;
      later : g.C.Callbacks.faults l.initial.s.table.calls ≤ g.C.Callbacks.faults l.s.table.calls;
    }
