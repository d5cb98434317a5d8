-- The inquiries that find a task, by the words that they read. A thread's current task and a member's task are parts of other
-- inquiries too, and stand with those.
use Rattle.std.specs.Prelude.{ℕ, List, Option}
use Rattle.omi_handle.specs.declared.handle.Kind.TheVariants.{Task}
use Rattle.omi_handle.specs.declared.handle.Held.{Held}
use Rattle.omi_layout.specs.declared.field.Field.TheVariants.{TaskGenerating, TaskScheduling}
use Rattle.omi_session.specs.Reads.{Reads}
use Rattle.omi_session.specs.Inquiry.{related}

module _ (w : List ℕ) where
  -- the task that made a task
  unfoldable pub generating_task : Option Held → Reads Held
  generating_task k = related w Task k Task TaskGenerating

  -- the task that was left for a task on its thread
  unfoldable pub scheduling_task : Option Held → Reads Held
  scheduling_task k = related w Task k Task TaskScheduling
