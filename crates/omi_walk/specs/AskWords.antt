-- What a walk asks about the address space, a region and a task itself. A refused handle's fault names the life word of its object.
use Rattle.std.specs.Prelude.{ℕ, List, Option, None, Ok}
use Rattle.std.specs.Option.{ok_or}
use Rattle.omi_handle.specs.declared.handle.Held.{Held}
use Rattle.omi_layout.specs.Table.{thread_count}
use Rattle.omi_layout.specs.declared.field.Field.TheVariants.{RuntimeVersion, RegionFunction}
use Rattle.omi_model.specs.declared.view.HeadRow.{HeadRow}
use Rattle.omi_numbers.specs.declared.variables.TheConstants.{NTHREADS_VAR, MAX_ACTIVE_LEVELS_VAR, DEBUG_VAR, NUM_PROCS_VAR}
use Rattle.omi_rep.specs.Records.{runtime_address}
use Rattle.omi_session.specs.declared.rc.Rc.TheVariants.{BadInput}
use Rattle.omi_session.specs.Inquiry.{word_of}
use Rattle.omi_session.specs.Reads.{Answer, then_reads}
use Rattle.omi_asktask.specs.declared.words.Frames.{Frames}
use Rattle.omi_asktask.specs.TaskWords.{function, frames}
use Rattle.omi_icv.specs.declared.icv_text.Value.{Value}
use Rattle.omi_icv.specs.declared.scoped.Scoped.TheVariants.{Space, Parallel, Task}
use Rattle.omi_icv.specs.Icvs.{icv_from_scope, icv_value}
use Rattle.omi_icv.specs.StateWords.{tool_data}
use Rattle.omi_walk.specs.Asking.{Asks, answering, with_answer}
use Rattle.omi_walk.specs.Fault.{walked}

module _ (w : List ℕ) where
  -- a control variable of the address space, of a region, and of a task
  unfoldable pub ask_space : ℕ → Asks ℕ
  ask_space icv = answering (walked None) (icv_from_scope w (λ _. None) Space icv)

  unfoldable pub ask_region_variable : ℕ → Option Held → Asks ℕ
  ask_region_variable icv r =
      answering (walked r)
      (icv_from_scope w (λ _. r) (Parallel (record { key = 0; serial = 0 })) icv)

  unfoldable pub ask_task_variable : ℕ → Option Held → Asks ℕ
  ask_task_variable icv k =
      answering (walked k) (icv_from_scope w (λ _. k) (Task (record { key = 0; serial = 0 })) icv)

  -- the elements of nthreads-var of a task
  unfoldable pub ask_nthreads : Option Held → Asks (List ℕ)
  ask_nthreads k =
      with_answer (λ (value : Value). value.numbers) (answering (walked k)
      (icv_value w (λ _. k) (Task (record { key = 0; serial = 0 })) NTHREADS_VAR))

  -- the function of a task, its exit and its enter frame, and its tool word
  unfoldable pub ask_function : Option Held → Asks ℕ
  ask_function k = answering (walked k) (function w k)

  unfoldable pub ask_frames : Option Held → Asks (ℕ × ℕ)
  ask_frames k =
      with_answer (λ (f : Frames). (f.exit, f.enter)) (answering (walked k) (frames w k))

  unfoldable pub ask_tool : Option Held → Asks ℕ
  ask_tool k =
      answering (walked k) (tool_data w (λ _. k) (Task (record { key = 0; serial = 0 })))

  -- the function of a region. No inquiry gives it, so the word of its record is read
  unfoldable pub ask_entry : Option Held → Asks ℕ
  ask_entry r =
      answering (walked r)
      (then_reads (Answer (ok_or r BadInput)) (λ h. word_of w h.addr RegionFunction 0))

  -- the version of OpenMP of the target's runtime
  unfoldable pub ask_version : Asks ℕ
  ask_version = answering (walked None) (word_of w (runtime_address w) RuntimeVersion 0)

  -- the header
  unfoldable pub ask_head : Asks HeadRow
  ask_head =
      then_reads ask_version (λ version.
      then_reads (ask_space DEBUG_VAR) (λ debug.
      then_reads (ask_space NUM_PROCS_VAR) (λ procs.
      then_reads (ask_space MAX_ACTIVE_LEVELS_VAR) (λ max_active.
      Answer (Ok (record {
        version = version;
        threads = thread_count w;
        debug = debug;
        procs = procs;
        max_active = max_active;
      }))))))
