-- No clause failed in the records of the threads so far, what they name is met, and it is kept whether they have begun. The loop leaves the
-- session whole, and ends at the layout's number of threads.
use Rattle.std.proofs.Common.{◌≡◌, ◌≤◌, take, length}
use Rattle.std.specs.List.{flat_map, range_with_len}
use Rattle.omi_layout.specs.Table.{thread_count}
use Rattle.omi_session.specs.Opened.{StaysWhole}
use Rattle.omi_audit.specs.Judged.{OverKept, IsFine, AreThreads, refused_thread}
use Rattle.omi_audit.specs.Listed.{asked_of_threads}
use Rattle.omi_audit.proofs.Asking.{AsksAll}
use Rattle.omi_audit.proofs.records.judge_threads.Given as goal

abbrev pub invariant-loop-thread : goal.invariant-loop-thread
invariant-loop-thread g l =
    record {
      judged : OverKept g.C.Callbacks.told l.initial.s l.initial.search (λ memory.
          IsFine (flat_map (refused_thread l.initial.s.layout memory) (take l.thread (range_with_len 0 (thread_count l.initial.s.layout))))
          (AreThreads l.initial.s.layout memory (take l.thread (range_with_len 0 (thread_count l.initial.s.layout))) l.initial.search l.search));
      asks : OverKept g.C.Callbacks.told l.initial.s l.initial.search (λ memory.
          AsksAll (g.C.Callbacks.told l.initial.s.table.calls) memory
          (asked_of_threads l.initial.s.layout memory l.initial.search.met.keys (take l.thread (range_with_len 0 (thread_count l.initial.s.layout))))
          (g.C.Callbacks.asked l.initial.s.table.calls) (g.C.Callbacks.asked l.s.table.calls));
      end : l.thread-end ≡ thread_count l.initial.s.layout;
      begun : length l.search.begun.items ≡ l.thread;
      same : StaysWhole g.C.Callbacks.told l.initial.s l.s;
      later : g.C.Callbacks.faults l.initial.s.table.calls ≤ g.C.Callbacks.faults l.s.table.calls;
    }
