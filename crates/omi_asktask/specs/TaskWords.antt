-- The inquiries for words of a task, by the words that they read.
use Rattle.std.specs.Prelude.{ℕ, List, Option, Ok}
use Rattle.omi_handle.specs.declared.handle.Kind.TheVariants.{Task}
use Rattle.omi_handle.specs.declared.handle.Held.{Held}
use Rattle.omi_layout.specs.declared.field.Field.TheVariants.{TaskFunction, TaskExit, TaskEnter}
use Rattle.omi_session.specs.Reads.{Reads, Answer, then_reads}
use Rattle.omi_session.specs.Inquiry.{object_of, word_of}
use Rattle.omi_asktask.specs.declared.words.Frames.{Frames}
use Rattle.omi_asktask.specs.Frame.{flag_of}

module _ (w : List ℕ) where
  -- the entry address of a task's function
  unfoldable pub function : Option Held → Reads ℕ
  function k =
      then_reads (object_of w Task k) (λ task. word_of w task.addr TaskFunction 0)

  -- the frames of a task, each with its flag
  unfoldable pub frames : Option Held → Reads Frames
  frames k =
      then_reads (object_of w Task k) (λ task.
      then_reads (word_of w task.addr TaskExit 0) (λ exit.
      then_reads (word_of w task.addr TaskEnter 0) (λ enter.
      Answer (Ok (record {
        exit = exit;
        exit_flag = flag_of exit;
        enter = enter;
        enter_flag = flag_of enter;
      })))))
