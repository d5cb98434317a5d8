-- The inquiries that find a region, by the words that they read.
use Rattle.std.specs.Prelude.{ℕ, List, Option}
use Rattle.omi_handle.specs.declared.handle.Kind.TheVariants.{Region, Task}
use Rattle.omi_handle.specs.declared.handle.Held.{Held}
use Rattle.omi_layout.specs.declared.field.Field.TheVariants.{RegionEnclosing, TaskRegion}
use Rattle.omi_session.specs.Reads.{Reads, then_reads}
use Rattle.omi_session.specs.Inquiry.{object_of, follow, related, current_task}

module _ (w : List ℕ) where
  -- the region of a thread's current task
  unfoldable pub current_region : Option Held → Reads Held
  current_region t =
      then_reads (current_task w t) (λ task. follow w Region task.addr TaskRegion 0)

  -- the region that encloses a region
  unfoldable pub enclosing_region : Option Held → Reads Held
  enclosing_region r = related w Region r Region RegionEnclosing

  -- the region of a task
  unfoldable pub region_of_task : Option Held → Reads Held
  region_of_task k =
      then_reads (object_of w Task k) (λ task. follow w Region task.addr TaskRegion 0)
