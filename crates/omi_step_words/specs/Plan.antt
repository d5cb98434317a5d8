-- What a record in the making is filled with: the word of each store, by its number.
use Rattle.std.specs.Prelude.{◌≡◌, ℕ, ◌-◌, ◌<◌, nat_lt, List, [], ◌∷◌, slice_index, slice_index_or, Option, Some, if◌then◌else◌}
use Rattle.omi_word.specs.declared.op.Op.{Op}
use Rattle.omi_word.specs.declared.op.Op.TheVariants as op
use Rattle.omi_model.specs.declared.group.Group.{Group}
use Rattle.omi_model.specs.declared.id.Id.{Id}
use Rattle.omi_model.specs.declared.task.Variables.{Variables}
use Rattle.omi_layout.specs.declared.field.Field.{Field}
use Rattle.omi_layout.specs.declared.field.Field.TheVariants.{RegionFunction, RegionEnclosing, RegionEncountering, RegionSize, RegionLevels, RegionActive, RegionReleased, RegionArrived, RegionPending, RegionLeft, TaskImplicit, TaskRegion, TaskThread, TaskNumber, TaskGenerating, TaskScheduling, TaskFunction, TaskExit, TaskEnter, TaskDynamic, TaskNthreadsLength, TaskSchedule, TaskDevice, TaskFinal, TaskTool, TaskChildren, TaskReferences, TaskNthreads, TaskSlots}
use Rattle.omi_numbers.specs.Words.{flag}
use Rattle.omi_numbers.specs.Addresses.{entry_address}
use Rattle.omi_layout.specs.Field.{IsField, kind_of}
use Rattle.omi_layout.specs.Memory.{word_address}
use Rattle.omi_layout.specs.Named.{number}
use Rattle.omi_layout.specs.Table.{width}
use Rattle.omi_rep.specs.Codes.{TaskWords}
use Rattle.omi_rep.specs.Records.{thread_address, region_address, task_address, task_word}
use Rattle.omi_step_words.specs.declared.plan.NewRegion.{NewRegion}
use Rattle.omi_step_words.specs.declared.plan.NewTask.{NewTask}
use Rattle.omi_step_words.specs.declared.plan.Planned.{Planned}

-- a word that is stored into a record, and a word 0
abbrev pub filled : Field → ℕ → ℕ → Planned
filled f at value = record { field = f; at = at; value = value }

abbrev pub zero_in : Field → ℕ → Planned
zero_in f at = filled f at 0

-- a planned word is one of the records of a kind
pub record IsPlannedIn (w : List ℕ) (kind : ℕ) (word : Planned) : Type 0 where
  pub field : IsField (number word.field)
  pub kind_is : kind_of (number word.field) ≡ kind
  pub within : word.at < width w (number word.field)

-- a planned word is stored into the record of an object
abbrev pub filling : List ℕ → Id → Planned → Op
filling w n x = op.Store (word_address w n.creator n.slot (number x.field) x.at) x.value

-- ---- regions

-- the words of a region's record, but for its life word and its team, in the order of their stores
abbrev pub region_words : List ℕ → NewRegion → List Planned
region_words w n =
    filled RegionFunction 0 (entry_address n.function)
    ∷ filled RegionEnclosing 0 (region_address w n.enclosing)
    ∷ filled RegionEncountering 0 (task_address w n.encountering)
    ∷ filled RegionSize 0 n.size
    ∷ filled RegionLevels 0 n.levels
    ∷ filled RegionActive 0 n.active
    ∷ zero_in RegionReleased 0
    ∷ zero_in RegionArrived 0
    ∷ zero_in RegionPending 0
    ∷ zero_in RegionLeft 0
    ∷ []

abbrev pub region_plan : List ℕ → NewRegion → ℕ → Planned
region_plan w n word = slice_index_or (region_words w n) word (zero_in RegionLeft 0)

-- ---- tasks

-- the words of a task's record, but for its life word, in the order of their stores: behind the slots stand the words for groups
abbrev pub task_words : List ℕ → NewTask → List Planned
task_words w t =
    let variable = slice_index t.variables in
    filled TaskImplicit 0 (flag t.implicit)
    ∷ filled TaskRegion 0 (region_address w t.region)
    ∷ filled TaskThread 0 (thread_address w t.thread)
    ∷ filled TaskNumber 0 t.number
    ∷ filled TaskGenerating 0 (task_address w t.generating)
    ∷ filled TaskScheduling 0 (task_word w t.scheduling)
    ∷ filled TaskFunction 0 (entry_address t.function)
    ∷ filled TaskExit 0 t.exit
    ∷ zero_in TaskEnter 0
    ∷ filled TaskDynamic 0 (variable 0)
    ∷ filled TaskNthreadsLength 0 (variable 1)
    ∷ filled TaskSchedule 0 (variable 2)
    ∷ filled TaskDevice 0 (variable 3)
    ∷ filled TaskFinal 0 (flag t.is_final)
    ∷ zero_in TaskTool 0
    ∷ zero_in TaskChildren 0
    ∷ filled TaskReferences 0 t.references
    ∷ filled TaskNthreads 0 (variable 4)
    ∷ filled TaskNthreads 1 (variable 5)
    ∷ filled TaskNthreads 2 (variable 6)
    ∷ filled TaskNthreads 3 (variable 7)
    ∷ zero_in TaskSlots 0
    ∷ zero_in TaskSlots 1
    ∷ zero_in TaskSlots 2
    ∷ zero_in TaskSlots 3
    ∷ filled TaskSlots 4 t.group
    ∷ zero_in TaskSlots 5
    ∷ zero_in TaskSlots 6
    ∷ zero_in TaskSlots 7
    ∷ zero_in TaskSlots 8
    ∷ zero_in TaskSlots 9
    ∷ []

abbrev pub task_plan : List ℕ → NewTask → ℕ → Planned
task_plan w t word = slice_index_or (task_words w t) word (zero_in TaskSlots 9)

-- what these words tell of the task, where the words of its data environment are those of these variables and the word of its group that of this one
abbrev pub planned_task : NewTask → Variables → Option Group → TaskWords
planned_task n v g =
    record {
      implicit = n.implicit;
      region = n.region;
      thread = n.thread;
      number = n.number;
      generating = Some n.generating;
      scheduling = n.scheduling;
      function = n.function;
      exit = n.exit;
      enter = 0;
      variables = v;
      is_final = n.is_final;
      tool = 0;
      group = g;
      open_groups = 0;
    }

-- ---- data environments

-- where the words of a data environment stand in the record of a task
abbrev pub variable_words : List (Field × ℕ)
variable_words =
    (TaskDynamic, 0) ∷ (TaskNthreadsLength, 0) ∷ (TaskSchedule, 0) ∷ (TaskDevice, 0)
    ∷ (TaskNthreads, 0) ∷ (TaskNthreads, 1) ∷ (TaskNthreads, 2) ∷ (TaskNthreads, 3) ∷ []

abbrev pub variable_at : ℕ → Field × ℕ
variable_at word = slice_index_or variable_words word (TaskNthreads, 3)

-- the address of a word of a task's data environment
abbrev pub of_variable : List ℕ → Id → ℕ → ℕ
of_variable w k word =
    let at = variable_at word in word_address w k.creator k.slot (number at.0) at.1

-- the data environment of an implicit task, word by word: that of the encountering task, with the elements of nthreads-var
-- but the first one, or with the same where it has one
abbrev pub inherited_words : List ℕ → List ℕ
inherited_words v =
    let variable = slice_index v in
    if nat_lt 1 (variable 1)
    then variable 0 ∷ (variable 1 - 1) ∷ variable 2 ∷ variable 3
    ∷ variable 5 ∷ variable 6 ∷ variable 7 ∷ 0 ∷ []
    else v
