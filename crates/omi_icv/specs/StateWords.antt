-- The inquiries for the state of a thread and for the tool word of a task, by the words that they read.
use Rattle.std.specs.Prelude.{ℕ, ◌==◌, List, Option, Ok, Err, if◌then◌else◌}
use Rattle.omi_numbers.specs.Words.{state_of, wait_of}
use Rattle.omi_handle.specs.declared.handle.Kind.TheVariants as kind
use Rattle.omi_handle.specs.declared.handle.Held.{Held}
use Rattle.omi_layout.specs.declared.field.Field.TheVariants.{RuntimeDebug, ThreadState, TaskTool}
use Rattle.omi_rep.specs.Records.{runtime_address}
use Rattle.omi_session.specs.declared.rc.Rc.TheVariants.{Unsupported, NeedsStateTracking}
use Rattle.omi_session.specs.Reads.{Reads, Answer, then_reads}
use Rattle.omi_session.specs.Inquiry.{object_of, word_of}
use Rattle.omi_icv.specs.declared.scoped.Scoped.{Scoped}
use Rattle.omi_icv.specs.declared.scoped.Scoped.TheVariants.{Space, Thread, Parallel, Task}
use Rattle.omi_icv.specs.Records.{Handles, record_of}

module _ (w : List ℕ) where
  -- the state of a thread and its wait id, where states are kept: the low 16 bits of the state word, and the rest
  unfoldable pub state : Option Held → Reads (ℕ × ℕ)
  state t =
      then_reads (object_of w kind.Thread t) (λ thread.
      then_reads (word_of w (runtime_address w) RuntimeDebug 0) (λ debug.
      if debug == 0 then Answer (Err NeedsStateTracking)
      else then_reads (word_of w thread.addr ThreadState 0)
      (λ word. Answer (Ok (state_of word, wait_of word)))))

  -- the tool word of the record of a task, which nothing else has
  abbrev pub tool_word : Scoped → ℕ → Reads ℕ
  tool_word Space address = Answer (Err Unsupported)
  tool_word (Thread t) address = Answer (Err Unsupported)
  tool_word (Parallel r) address = Answer (Err Unsupported)
  tool_word (Task k) address = word_of w address TaskTool 0

  unfoldable pub tool_data : Handles → Scoped → Reads ℕ
  tool_data held of = then_reads (record_of w held of) (tool_word of)
