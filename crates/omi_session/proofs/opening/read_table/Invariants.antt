use Rattle.std.proofs.Common.{◌≡◌, ℕ, ◌-◌, ◌<◌, ◌≤◌, List, [], length, take, Some}
use Rattle.std.specs.Prelude.{Result, slice_index}
use Rattle.omi_calls.specs.Asked.{Asked}
use Rattle.omi_word.specs.Words.{Words}
use Rattle.omi_layout.specs.declared.limits.TheConstants.{TABLE_WORDS}
use Rattle.omi_layout.specs.NoLayout.{table_address}
use Rattle.omi_session.specs.declared.rc.Rc.{Rc}
use Rattle.omi_session.specs.declared.rc.Rc.TheVariants.{CallbackError}
use Rattle.omi_session.specs.Opening.{words_behind}
use Rattle.omi_session.specs.Reads.{Ran}
use Rattle.omi_session.specs.Tells.{Tells, KeepsTold}
use Rattle.omi_session.proofs.opening.read_table.Given as goal

abbrev pub invariant-loop-at : goal.invariant-loop-at
invariant-loop-at g l = record {
  words : length l.words ≡ TABLE_WORDS;
  same : KeepsTold g.C.Callbacks.told l.initial.table l.table;
  later : g.C.Callbacks.faults l.initial.table.calls ≤ g.C.Callbacks.faults l.table.calls;
  reads : (memory : Words) → Tells (g.C.Callbacks.told l.initial.table.calls) memory → (now : Asked) (r : Result (List ℕ) Rc)
      → Ran (g.C.Callbacks.told l.initial.table.calls) memory CallbackError (words_behind l.address (TABLE_WORDS - l.at) (take l.at l.words))
      (g.C.Callbacks.asked l.table.calls) now r
      → Ran (g.C.Callbacks.told l.initial.table.calls) memory CallbackError (words_behind l.address TABLE_WORDS [])
      (g.C.Callbacks.asked l.initial.table.calls) now r;
  read : (memory : Words) → Tells (g.C.Callbacks.told l.initial.table.calls) memory → (j : ℕ) → j < l.at
      → memory (table_address l.address j) ≡ Some (slice_index l.words j);
}
