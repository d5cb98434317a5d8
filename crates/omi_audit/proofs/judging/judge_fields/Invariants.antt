-- No clause failed at the fields so far, what they name is met, and what they say is found. The loop leaves the session whole, and what is known
-- of the threads.
use Rattle.std.proofs.Common.{◌≡◌, ◌≤◌, take}
use Rattle.omi_session.specs.Opened.{StaysWhole}
use Rattle.omi_audit.specs.Judged.{OverKept}
use Rattle.omi_audit.specs.Search.{places_of}
use Rattle.omi_audit.proofs.JudgedPlaces.{AreFine, AreSaid}
use Rattle.omi_audit.specs.Listed.{asked_among}
use Rattle.omi_audit.proofs.Asking.{AsksAll}
use Rattle.omi_audit.proofs.judging.judge_fields.Given as goal

abbrev pub invariant-loop-field : goal.invariant-loop-field
invariant-loop-field g l =
    record {
      judged : OverKept g.C.Callbacks.told l.initial.s l.initial.search (λ memory.
          AreFine l.initial.s.layout memory l.thread (take l.field-index (places_of l.addr l.fields)) l.initial.search l.search);
      said : OverKept g.C.Callbacks.told l.initial.s l.initial.search (λ memory.
          AreSaid l.initial.s.layout memory l.addr (take l.field-index l.fields) l.found);
      asks : OverKept g.C.Callbacks.told l.initial.s l.initial.search (λ memory.
          AsksAll (g.C.Callbacks.told l.initial.s.table.calls) memory
          (asked_among l.initial.s.layout memory l.thread l.initial.search.met.keys (take l.field-index (places_of l.addr l.fields)))
          (g.C.Callbacks.asked l.initial.s.table.calls) (g.C.Callbacks.asked l.s.table.calls));
      few : l.found.count ≤ 64;
      begun : l.search.begun.items ≡ l.initial.search.begun.items;
      same : StaysWhole g.C.Callbacks.told l.initial.s l.s;
      later : g.C.Callbacks.faults l.initial.s.table.calls ≤ g.C.Callbacks.faults l.s.table.calls;
    }
