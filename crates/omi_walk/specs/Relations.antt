-- How an object leads to another one that may be missing: from a handle, by a field of its object.
use Rattle.std.specs.Prelude.{ℕ, List, Option}
use Rattle.omi_handle.specs.declared.handle.Kind.{Kind}
use Rattle.omi_handle.specs.declared.handle.Kind.TheVariants as kind
use Rattle.omi_handle.specs.declared.handle.Held.{Held}
use Rattle.omi_layout.specs.declared.field.Field.{Field}
use Rattle.omi_layout.specs.declared.field.Field.TheVariants.{ThreadCurrent, TaskGenerating, TaskScheduling, RegionEnclosing}
use Rattle.omi_ask.specs.Regions.{enclosing_region}
use Rattle.omi_asktask.specs.Tasks.{generating_task, scheduling_task}
use Rattle.omi_session.specs.Inquiry.{current_task}
use Rattle.omi_session.specs.Made.{thread_pair, region_pair, task_pair}
use Rattle.omi_session.specs.Reads.{Reads}
use Rattle.omi_walk.specs.declared.related.Relation.{Relation}
use Rattle.omi_walk.specs.declared.related.Relation.TheVariants.{Current, Generating, Scheduling, Enclosing}

-- the handle that it begins with, and the kind of its object
abbrev pub pair_of : Relation → ℕ × ℕ
pair_of (Current t) = thread_pair t
pair_of (Generating k) = task_pair k
pair_of (Scheduling k) = task_pair k
pair_of (Enclosing r) = region_pair r

abbrev pub kind_from : Relation → Kind
kind_from (Current t) = kind.Thread
kind_from (Generating k) = kind.Task
kind_from (Scheduling k) = kind.Task
kind_from (Enclosing r) = kind.Region

-- the kind of object to which it leads, and the field that does
abbrev pub kind_to : Relation → Kind
kind_to (Current t) = kind.Task
kind_to (Generating k) = kind.Task
kind_to (Scheduling k) = kind.Task
kind_to (Enclosing r) = kind.Region

abbrev pub field_of : Relation → Field
field_of (Current t) = ThreadCurrent
field_of (Generating k) = TaskGenerating
field_of (Scheduling k) = TaskScheduling
field_of (Enclosing r) = RegionEnclosing

-- the inquiry for this object
abbrev pub inquiry_of : List ℕ → Relation → Option Held → Reads Held
inquiry_of w (Current t) found = current_task w found
inquiry_of w (Generating k) found = generating_task w found
inquiry_of w (Scheduling k) found = scheduling_task w found
inquiry_of w (Enclosing r) found = enclosing_region w found
