-- The initial task of a program, by the words of its record: it is the first task that thread 0 makes, in the first of its slots.
use Rattle.std.specs.Prelude.{ℕ, List}
use Rattle.std.specs.Option.{ok_or}
use Rattle.omi_handle.specs.declared.handle.Kind.TheVariants.{Task}
use Rattle.omi_handle.specs.declared.handle.Held.{Held}
use Rattle.omi_layout.specs.Field.{tasks}
use Rattle.omi_layout.specs.Place.{slot_address}
use Rattle.omi_layout.specs.declared.field.Field.TheVariants.{TaskLife}
use Rattle.omi_session.specs.declared.rc.Rc.TheVariants.{Unavailable}
use Rattle.omi_session.specs.Inquiry.{object_at, word_of}
use Rattle.omi_session.specs.Reads.{Reads, Answer, then_reads}

module _ (w : List ℕ) where
  -- the byte address of its record
  abbrev pub initial_address : ℕ
  initial_address = slot_address w tasks 0 0

  -- the task, where the life word of the record is that of a live one
  unfoldable pub initial_task : Reads Held
  initial_task =
      then_reads (word_of w initial_address TaskLife 0)
      (λ life. Answer (ok_or (object_at w Task initial_address life) Unavailable))
