-- What each word of a record means: the word that stands in a field, at a place of the field, by the part of the state that it tells. An object
-- stands as the address of its record, none as 0, a function as its entry address, and a flag as 1 or 0.
use Rattle.std.specs.Prelude.{◌≡◌, ℕ, zero, suc, ◌==◌, Bool, nat_lt, List, [], ◌∷◌, length, slice_get, sum, Option, Some, None, if◌then◌else◌}
use Rattle.std.specs.Option.{option_map}
use Rattle.std.specs.List.{list_any}
use Rattle.omi_numbers.specs.declared.holders.TheConstants.{FREE_CLAIM}
use Rattle.omi_numbers.specs.declared.words.TheConstants.{OPENMP_VERSION}
use Rattle.omi_numbers.specs.Addresses.{entry_address}
use Rattle.omi_numbers.specs.Holders.{claimed_word, holder_word}
use Rattle.omi_numbers.specs.Words.{flag, state_word, native_id}
use Rattle.omi_script.specs.Schedules.{schedule_word}
use Rattle.omi_model.specs.declared.claim.Claim.{Claim}
use Rattle.omi_model.specs.declared.claim.Claim.TheVariants as claim
use Rattle.omi_model.specs.declared.group.Group.{Group}
use Rattle.omi_model.specs.declared.id.Rid.{Rid}
use Rattle.omi_model.specs.declared.id.Tid.{Tid}
use Rattle.omi_model.specs.declared.region.Region.{Region}
use Rattle.omi_model.specs.declared.task.Task.{Task}
use Rattle.omi_model.specs.declared.task.Variables.{Variables}
use Rattle.omi_model.specs.declared.thread.Thread.{Thread}
use Rattle.omi_model.specs.State.{State}
use Rattle.omi_layout.specs.declared.field.Field.{Field}
use Rattle.omi_layout.specs.declared.field.Field.TheVariants.{RuntimeVersion, RuntimeThreads, RuntimeProcs, RuntimeDebug, RuntimeMaxActive, RuntimeLocks, ThreadLife, ThreadNative, ThreadCurrent, ThreadState, ThreadClaim, RegionFunction, RegionEnclosing, RegionEncountering, RegionSize, RegionLevels, RegionActive, RegionReleased, RegionArrived, RegionTeam, TaskImplicit, TaskRegion, TaskThread, TaskNumber, TaskGenerating, TaskScheduling, TaskFunction, TaskExit, TaskEnter, TaskDynamic, TaskNthreadsLength, TaskSchedule, TaskDevice, TaskFinal, TaskTool, TaskNthreads, TaskSlots}
use Rattle.omi_layout.specs.Memory.{Rec}
use Rattle.omi_layout.specs.Named.{number}
use Rattle.omi_layout.specs.Table.{width}
use Rattle.omi_layout.specs.declared.limits.TheConstants.{GROUP_PLACE, OPEN_PLACE}
use Rattle.omi_rep.specs.Records.{thread_address, region_address, task_address, region_word, task_word, group_word}

-- ---- codes

-- the codes of an object, by field and place of the field. None where the object alone doesn't tell the word, as of counts
abbrev pub Codes : Type 0
Codes = Field → ℕ → Option ℕ

-- each code stands in a record
abbrev pub HasCodes : Codes → Rec → Type 0
HasCodes codes r = (f : Field) (at word : ℕ) → codes f at ≡ Some word → r (number f) at ≡ word

-- a field of one word, and a field that an object alone doesn't tell
abbrev pub single : ℕ → ℕ → Option ℕ
single word zero = Some word
single word (suc at) = None

abbrev pub untold : ℕ → Option ℕ
untold at = None

-- who may use a thread
abbrev pub claim_word : Claim → ℕ
claim_word claim.Own = 0
claim_word claim.Free = FREE_CLAIM
claim_word (claim.By i) = claimed_word i

-- who holds a lock: none as 0, and thread i as i + 1
abbrev pub lock_word : Option ℕ → ℕ
lock_word None = 0
lock_word (Some i) = holder_word i

-- ---- the runtime

-- what the words of the runtime record tell of the state
pub record RuntimeWords : Type 0 where
  pub threads : ℕ
  pub procs : ℕ
  pub debug : Bool
  pub max_active : ℕ
  pub locks : ℕ → Option ℕ

abbrev pub runtime_told : State → RuntimeWords
runtime_told s =
    record {
      threads = s.count;
      procs = s.environment.procs;
      debug = s.environment.debug;
      max_active = s.max_active;
      locks = s.locks;
    }

abbrev pub runtime_code : List ℕ → RuntimeWords → Codes
runtime_code w r RuntimeVersion = single OPENMP_VERSION
runtime_code w r RuntimeThreads = single r.threads
runtime_code w r RuntimeProcs = single r.procs
runtime_code w r RuntimeDebug = single (flag r.debug)
runtime_code w r RuntimeMaxActive = single r.max_active
runtime_code w r RuntimeLocks =
    λ lock. if nat_lt lock (width w (number RuntimeLocks)) then Some (lock_word (r.locks lock)) else None
runtime_code w r _ = untold

-- ---- threads

-- what the words of a thread's record tell of the thread
pub record ThreadWords : Type 0 where
  pub begun : Bool
  pub current : Option Tid
  pub state : ℕ
  pub wait : ℕ
  pub claim : Claim

abbrev pub thread_told : Thread → ThreadWords
thread_told h =
    record { begun = h.begun; current = h.current; state = h.state; wait = h.wait; claim = h.claim }

-- of thread i
abbrev pub thread_code : List ℕ → ℕ → ThreadWords → Codes
thread_code w i h ThreadLife = single (flag h.begun)
thread_code w i h ThreadNative = single (native_id i)
thread_code w i h ThreadCurrent = single (task_word w h.current)
thread_code w i h ThreadState = single (state_word h.state h.wait)
thread_code w i h ThreadClaim = single (claim_word h.claim)
thread_code w i h _ = untold

-- ---- regions

-- what the words of a region's record tell of the region
pub record RegionWords : Type 0 where
  pub enclosing : Option Rid
  pub encountering : Option Tid
  pub team : List (Tid × ℕ)
  pub function : ℕ
  pub levels : ℕ
  pub active : ℕ
  pub arrivals : List ℕ
  pub released : ℕ

abbrev pub region_told : Region → RegionWords
region_told r =
    record {
      enclosing = r.enclosing;
      encountering = r.encountering;
      team = r.team;
      function = r.function;
      levels = r.levels;
      active = r.active;
      arrivals = r.arrivals;
      released = r.released;
    }

abbrev pub region_code : List ℕ → RegionWords → Codes
region_code w r RegionFunction = single (entry_address r.function)
region_code w r RegionEnclosing = single (region_word w r.enclosing)
region_code w r RegionEncountering = single (task_word w r.encountering)
region_code w r RegionSize = single (length r.team)
region_code w r RegionLevels = single r.levels
region_code w r RegionActive = single r.active
region_code w r RegionReleased = single r.released
region_code w r RegionArrived = single (sum r.arrivals)
region_code w r RegionTeam = λ member. option_map (λ m. task_address w m.0) (slice_get r.team member)
region_code w r _ = untold

-- ---- tasks

-- what the words of a task's record tell of the task: not how far it is, nor what it still has to do
pub record TaskWords : Type 0 where
  pub implicit : Bool
  pub region : Rid
  pub thread : ℕ
  pub number : ℕ
  pub generating : Option Tid
  pub scheduling : Option Tid
  pub function : ℕ
  pub exit : ℕ
  pub enter : ℕ
  pub variables : Variables
  pub is_final : Bool
  pub tool : ℕ
  pub group : Option Group
  pub open_groups : ℕ

abbrev pub task_told : Task → TaskWords
task_told t =
    record {
      implicit = t.implicit;
      region = t.region;
      thread = t.thread;
      number = t.number;
      generating = t.generating;
      scheduling = t.scheduling;
      function = t.function;
      exit = t.exit;
      enter = t.enter;
      variables = t.variables;
      is_final = t.is_final;
      tool = t.tool;
      group = t.group;
      open_groups = t.open_groups;
    }

-- the words for groups behind the slots, where the layout has them: the task's group, and how many groups it has open
abbrev pub group_code : List ℕ → TaskWords → ℕ → Option ℕ
group_code w t at =
    if at == GROUP_PLACE then Some (group_word w t.group)
    else (if at == OPEN_PLACE then Some t.open_groups else None)

abbrev pub task_code : List ℕ → TaskWords → Codes
task_code w t TaskImplicit = single (flag t.implicit)
task_code w t TaskRegion = single (region_address w t.region)
task_code w t TaskThread = single (thread_address w t.thread)
task_code w t TaskNumber = single t.number
task_code w t TaskGenerating = single (task_word w t.generating)
task_code w t TaskScheduling = single (task_word w t.scheduling)
task_code w t TaskFunction = single (entry_address t.function)
task_code w t TaskExit = single t.exit
task_code w t TaskEnter = single t.enter
task_code w t TaskDynamic = single (flag t.variables.dynamic)
task_code w t TaskNthreadsLength = single (length t.variables.nthreads)
task_code w t TaskSchedule = single (schedule_word t.variables.schedule)
task_code w t TaskDevice = single t.variables.device
task_code w t TaskFinal = single (flag t.is_final)
task_code w t TaskTool = single t.tool
task_code w t TaskNthreads = slice_get t.variables.nthreads
task_code w t TaskSlots = λ at. if nat_lt at (width w (number TaskSlots)) then group_code w t at else None
task_code w t _ = untold

-- ---- groups of fields

-- the field is one of these
abbrev pub is_among : List Field → Field → Bool
is_among fields f = list_any (λ g. number g == number f) fields

-- the fields of a task's place on a thread, which a deferred task has not got yet
abbrev pub is_place : Field → Bool
is_place =
    is_among (TaskThread ∷ TaskNumber ∷ TaskScheduling ∷ TaskExit ∷ TaskEnter ∷ [])

-- the fields that a tool may be shown, and of a thread that has not begun
abbrev pub shown : Field → Bool
shown =
    is_among (RuntimeVersion ∷ RuntimeThreads ∷ RuntimeProcs ∷ RuntimeDebug ∷ RuntimeMaxActive
    ∷ ThreadLife ∷ ThreadNative ∷ ThreadCurrent ∷ ThreadState
    ∷ RegionFunction ∷ RegionEnclosing ∷ RegionEncountering ∷ RegionSize ∷ RegionLevels
    ∷ RegionActive ∷ RegionTeam
    ∷ TaskImplicit ∷ TaskRegion ∷ TaskThread ∷ TaskNumber ∷ TaskGenerating ∷ TaskScheduling
    ∷ TaskFunction ∷ TaskExit ∷ TaskEnter ∷ TaskDynamic ∷ TaskNthreadsLength ∷ TaskSchedule
    ∷ TaskDevice ∷ TaskFinal ∷ TaskTool ∷ TaskNthreads ∷ TaskSlots ∷ [])

abbrev pub shown_unbegun : Field → Bool
shown_unbegun = is_among (ThreadLife ∷ ThreadNative ∷ [])
