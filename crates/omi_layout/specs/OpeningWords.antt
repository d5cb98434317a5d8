-- The words with which a program opens in a layout: the tables in front, the records of the runtime, the threads, the initial region and the initial task, and 0 everywhere else, in gaps too.
use Rattle.std.specs.Prelude.{◌≡◌, ◌==◌, ℕ, zero, suc, ◌<◌, List, length, slice_index, if◌then◌else◌}
use Rattle.omi_numbers.specs.declared.states.TheConstants.{WORK_SERIAL, IDLE}
use Rattle.omi_numbers.specs.declared.words.TheConstants.{OPENMP_VERSION}
use Rattle.omi_script.specs.declared.program.Program.{Program}
use Rattle.omi_layout.specs.declared.field.Field.{Field}
use Rattle.omi_layout.specs.declared.field.Field.TheVariants.{RuntimeVersion, RuntimeThreads, RuntimeProcs, RuntimeDebug, RuntimeMaxActive, ThreadLife, ThreadNative, ThreadCurrent, ThreadState, RegionLife, RegionFunction, RegionSize, RegionTeam, TaskLife, TaskImplicit, TaskRegion, TaskThread, TaskFunction, TaskExit, TaskDynamic, TaskNthreadsLength, TaskSchedule, TaskDevice, TaskNthreads}
use Rattle.omi_layout.specs.Field.{runtime, threads, regions, tasks}
use Rattle.omi_layout.specs.Named.{number}
use Rattle.omi_layout.specs.Table.{thread_count}
use Rattle.omi_layout.specs.Place.{slot_address, image_words}
use Rattle.omi_layout.specs.Words.{IsGap}
use Rattle.omi_layout.specs.Memory.{Rec, MadeRecords, memory_of}
use Rattle.omi_layout.specs.Given.{HasTables}
use Rattle.omi_numbers.specs.Words.{flag, native_id}
use Rattle.omi_numbers.specs.Addresses.{entry_address, exit_frame}
use Rattle.omi_script.specs.Schedules.{schedule_word}

-- a field of one word, and a field whose words are 0
abbrev pub alone : ℕ → ℕ → ℕ
alone word zero = word
alone word (suc at) = 0

abbrev pub zeros : ℕ → ℕ
zeros at = 0

-- the version of OpenMP, and the values of the environment. No lock is held
abbrev pub runtime_opening : Program → Field → ℕ → ℕ
runtime_opening p RuntimeVersion = alone OPENMP_VERSION
runtime_opening p RuntimeThreads = alone p.threads
runtime_opening p RuntimeProcs = alone p.env.procs
runtime_opening p RuntimeDebug = alone (flag p.env.debug)
runtime_opening p RuntimeMaxActive = alone p.env.max_active
runtime_opening p _ = zeros

-- thread 0 has begun, runs the initial task and is in the state work_serial; a worker hasn't begun, has no task and is idle. No thread
-- is claimed, and no task is assigned to one
abbrev pub thread_opening : List ℕ → ℕ → Field → ℕ → ℕ
thread_opening w i ThreadLife = alone (if i == 0 then 1 else 0)
thread_opening w i ThreadNative = alone (native_id i)
thread_opening w i ThreadCurrent = alone (if i == 0 then slot_address w tasks 0 0 else 0)
thread_opening w i ThreadState = alone (if i == 0 then WORK_SERIAL else IDLE)
thread_opening w i _ = zeros

-- the initial region: the first region of thread 0, in which `main` runs. Its one member is the initial task. Nothing encloses it,
-- it has no levels, and nobody has come to a barrier, has a task to finish there or has left
abbrev pub region_opening : Program → List ℕ → Field → ℕ → ℕ
region_opening p w RegionLife = alone 1
region_opening p w RegionFunction = alone (entry_address p.main)
region_opening p w RegionSize = alone 1
region_opening p w RegionTeam = alone (slot_address w tasks 0 0)
region_opening p w _ = zeros

-- the initial task: the first task of thread 0, member 0 of the initial region. Its variables are those of the environment. No task
-- generated it or was scheduled before it, it has no enter frame, is not final and has no tool word, no children, no references and
-- no task in a slot
abbrev pub task_opening : Program → List ℕ → Field → ℕ → ℕ
task_opening p w TaskLife = alone 1
task_opening p w TaskImplicit = alone 1
task_opening p w TaskRegion = alone (slot_address w regions 0 0)
task_opening p w TaskThread = alone (slot_address w threads 0 0)
task_opening p w TaskFunction = alone (entry_address p.main)
task_opening p w TaskExit = alone (exit_frame 0 1)
task_opening p w TaskDynamic = alone (flag p.env.dynamic)
task_opening p w TaskNthreadsLength = alone (length p.env.nthreads)
task_opening p w TaskSchedule = alone (schedule_word p.env.sched)
task_opening p w TaskDevice = alone p.env.device
task_opening p w TaskNthreads = slice_index p.env.nthreads
task_opening p w _ = zeros

-- a record has these words in all fields
pub record OpensRuntime (p : Program) (r : Rec) : Type 0 where
  pub words : (f : Field) (at : ℕ) → r (number f) at ≡ runtime_opening p f at

pub record OpensThread (w : List ℕ) (i : ℕ) (r : Rec) : Type 0 where
  pub words : (f : Field) (at : ℕ) → r (number f) at ≡ thread_opening w i f at

pub record OpensRegion (p : Program) (w : List ℕ) (r : Rec) : Type 0 where
  pub words : (f : Field) (at : ℕ) → r (number f) at ≡ region_opening p w f at

pub record OpensTask (p : Program) (w : List ℕ) (r : Rec) : Type 0 where
  pub words : (f : Field) (at : ℕ) → r (number f) at ≡ task_opening p w f at

-- all words of a record are 0
abbrev pub IsZero : Rec → Type 0
IsZero r = (f at : ℕ) → r f at ≡ 0

-- the records that a thread makes: the initial region and task are in slot 0 of thread 0, and all others are 0
pub record OpensMade (p : Program) (w : List ℕ) (i : ℕ) (made : MadeRecords) : Type 0 where
  pub thread : OpensThread w i (made threads 0)
  pub region : i ≡ 0 → OpensRegion p w (made regions 0)
  pub task : i ≡ 0 → OpensTask p w (made tasks 0)
  pub no_region : (s : ℕ) → (i ≡ 0 → s ≡ 0 → ⊥) → IsZero (made regions s)
  pub no_task : (s : ℕ) → (i ≡ 0 → s ≡ 0 → ⊥) → IsZero (made tasks s)

-- the opening words of a program in a layout with as many threads
pub record AreOpening (p : Program) (w words : List ℕ) : Type 0 where
  pub count : length words ≡ image_words w
  pub tables : HasTables w words
  pub runtime_record : OpensRuntime p (memory_of w words 0 runtime 0)
  pub made : (i : ℕ) → i < thread_count w → OpensMade p w i (memory_of w words i)
  pub gaps : (place : ℕ) → IsGap w place → slice_index words place ≡ 0
