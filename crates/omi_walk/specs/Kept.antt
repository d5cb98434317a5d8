-- A handle of each task of a report: what a walk that keeps them answers, and which handles are held after it.
use Rattle.std.specs.Prelude.{◌≡◌, ◌≢◌, ◌≤◌, ◌+◌, ◌*◌, ℕ, List, map, length, All, Some, None, Result, Ok, Err}
use Rattle.std.specs.FinMap.{get}
use Rattle.std.specs.List.{range_with_len}
use Rattle.omi_calls.specs.Told.{Told}
use Rattle.omi_handle.specs.declared.handle.Held.{Held}
use Rattle.omi_handle.specs.declared.handle.Kind.TheVariants.{Task}
use Rattle.omi_handle.specs.declared.handle.TaskHandle.{TaskHandle}
use Rattle.omi_handle.specs.Ledger.{Ledger}
use Rattle.omi_layout.specs.Field.{tasks}
use Rattle.omi_layout.specs.Place.{IsSlot}
use Rattle.omi_model.specs.declared.id.Tid.{Tid}
use Rattle.omi_model.specs.declared.view.View.{View}
use Rattle.omi_rep.specs.Look.{Look, id_address, mapped}
use Rattle.omi_rep.specs.LookView.{look_view}
use Rattle.omi_session.specs.Inquiry.{unchanged}
use Rattle.omi_session.specs.Made.{task_pair}
use Rattle.omi_session.specs.Named.{IsNamed}
use Rattle.omi_session.specs.Opened.{Opened}
use Rattle.omi_session.specs.Reads.{answer_on}
use Rattle.omi_session.specs.Tells.{Tells}
use Rattle.omi_word.specs.Words.{Words}
use Rattle.omi_walk.specs.declared.fault.WalkFault.{WalkFault}
use Rattle.omi_walk.specs.Asking.{Asks, with_answer}
use Rattle.omi_walk.specs.AskView.{ask_view}

-- the tasks of a report, in the order of its rows
abbrev pub task_names : View → List Tid
task_names v = map (λ row. row.task) v.tasks

-- the tasks of which handles were kept, or the refusal
abbrev pub names_kept : Result (List (Tid × TaskHandle)) WalkFault → Result (List Tid) WalkFault
names_kept (Ok kept) = Ok (map (λ k. k.0) kept)
names_kept (Err fault) = Err fault

-- the tasks that a plain look at the words gives, and what is asked for them: the whole report
abbrev pub look_names : List ℕ → Words → List ℕ → Look (List Tid)
look_names w memory contexts = mapped task_names (look_view w memory contexts)

abbrev pub ask_names : List ℕ → List ℕ → Asks (List Tid)
ask_names w contexts = with_answer task_names (ask_view w contexts)

-- what a handle to the task of this name stands for: its record, with the life word of its generation
abbrev pub task_object : List ℕ → Tid → Held
task_object w task = record {
  kind = Task;
  addr = id_address w tasks task.0;
  life = 2 * task.0.generation + 1;
}

-- the task of this name lives: it has a slot, and where the words are told, the record there has the life word of its generation
pub record IsLive {C F : Type 0} (told : C → Told) (s : Opened C F) (task : Tid) : Type 0 where
  pub slot : IsSlot s.layout tasks task.0.creator task.0.slot
  pub named : IsNamed s.layout (task_object s.layout task)
  pub lives : (memory : Words) → Tells (told s.table.calls) memory
      → answer_on memory (unchanged s.layout (task_object s.layout task))
      ≡ Ok (task_object s.layout task)

-- each of these tasks has a handle of its own, and no other handle was added
pub record Keeps (w : List ℕ) (old new : Ledger) (kept : List (Tid × TaskHandle)) : Type 0 where
  -- their serials follow one another, so no two tasks share a handle
  pub first : ℕ
  pub later : old.made ≤ first
  pub apart : map (λ k. k.1.serial) kept ≡ range_with_len first (length kept)
  -- each stands for its task, and was not held before
  pub each : All (λ k. get new.held (task_pair k.1) ≡ Some (task_object w k.0)) kept
  pub fresh : All (λ k. get old.held (task_pair k.1) ≡ None) kept
  -- all others are as they were
  pub others : (pair : ℕ × ℕ) → All (λ k. task_pair k.1 ≢ pair) kept
      → get new.held pair ≡ get old.held pair
