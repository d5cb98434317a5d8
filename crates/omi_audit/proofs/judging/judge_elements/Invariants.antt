-- No clause failed at the words so far, what they name is met, and no more were read. The loop leaves the session whole, and what is known of the threads.
use Rattle.std.proofs.Common.{◌≡◌, ◌≤◌, take}
use Rattle.omi_session.specs.Opened.{StaysWhole}
use Rattle.omi_audit.specs.Judged.{OverKept}
use Rattle.omi_audit.specs.Search.{elements_of}
use Rattle.omi_audit.proofs.JudgedPlaces.{AreFine}
use Rattle.omi_audit.specs.Listed.{asked_among}
use Rattle.omi_audit.proofs.Asking.{AsksAll}
use Rattle.omi_audit.proofs.judging.judge_elements.Given as goal

abbrev pub invariant-loop-at : goal.invariant-loop-at
invariant-loop-at g l =
    record {
      judged : OverKept g.C.Callbacks.told l.initial.s l.initial.search (λ memory.
          AreFine l.initial.s.layout memory 0 (take l.at (elements_of l.addr l.field l.count)) l.initial.search l.search);
      asks : OverKept g.C.Callbacks.told l.initial.s l.initial.search (λ memory.
          AsksAll (g.C.Callbacks.told l.initial.s.table.calls) memory
          (asked_among l.initial.s.layout memory 0 l.initial.search.met.keys (take l.at (elements_of l.addr l.field l.count)))
          (g.C.Callbacks.asked l.initial.s.table.calls) (g.C.Callbacks.asked l.s.table.calls));
      begun : l.search.begun.items ≡ l.initial.search.begun.items;
      same : StaysWhole g.C.Callbacks.told l.initial.s l.s;
      later : g.C.Callbacks.faults l.initial.s.table.calls ≤ g.C.Callbacks.faults l.s.table.calls;
    }
