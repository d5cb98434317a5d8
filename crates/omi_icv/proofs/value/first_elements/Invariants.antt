use Rattle.std.proofs.Common.{◌≡◌, ◌≤◌, length}
use Rattle.std.specs.Prelude.{Ok}
use Rattle.omi_session.specs.Opened.{StaysWhole}
use Rattle.omi_session.specs.Reads.{Answers}
use Rattle.omi_icv.specs.Values.{first_elements}
use Rattle.omi_icv.proofs.value.first_elements.Given as goal

-- the numbers are the elements that were read
abbrev pub invariant-loop-at : goal.invariant-loop-at
invariant-loop-at g l = record {
  same : StaysWhole g.C.Callbacks.told l.initial.s l.s;
  later : g.C.Callbacks.faults l.initial.s.table.calls ≤ g.C.Callbacks.faults l.s.table.calls;
  many : length l.numbers ≡ l.at;
  read : Answers g.C.Callbacks.told g.C.Callbacks.asked l.initial.s l.s (Ok l.numbers) (first_elements l.initial.s.layout l.address l.at);
}
