use Rattle.std.proofs.Common.{◌≡◌, ◌≤◌, drop, length, map}
use Rattle.std.specs.Prelude.{string_bytes}
use Rattle.omi_handle.specs.declared.handle.TaskHandle.{TaskHandle}
use Rattle.omi_model.specs.declared.id.Tid.{Tid}
use Rattle.omi_session.specs.Opened.{StaysWhole}
use Rattle.omi_word.specs.Words.{Words}
use Rattle.omi_session.specs.Tells.{Tells}
use Rattle.omi_commands.specs.Fates.{HoldsEach}
use Rattle.omi_commands.proofs.FateLines.{FatesSoFar}
use Rattle.omi_commands.proofs.kept_tasks.fates.Given as goal

abbrev pub invariant-loop-at : goal.invariant-loop-at
invariant-loop-at g l =
    let told = g.C.Callbacks.told in
    record {
      stays : StaysWhole told l.initial.session l.session;
      later : g.C.Callbacks.faults l.initial.session.table.calls ≤ g.C.Callbacks.faults l.session.table.calls;
      bound : l.at-end ≡ length l.tasks;
      lines : (memory : Words) → Tells (told l.initial.session.table.calls) memory
          → HoldsEach l.initial.session.layout l.initial.session.handles l.tasks
          → FatesSoFar l.initial.session.layout memory (map (λ (k : Tid × TaskHandle). k.0) l.tasks) (string_bytes l.text)
          (map (λ (k : Tid × TaskHandle). k.0) (drop l.at l.tasks));
    }
