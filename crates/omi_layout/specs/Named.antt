-- The numbers of the kinds of records and of their fields, by name, and the texts that name fields.
use Rattle.std.specs.Prelude.{ℕ, List, [], ◌∷◌, codes, map, slice_index_or}
use Rattle.omi_layout.specs.declared.field.Kind.{Kind}
use Rattle.omi_layout.specs.declared.field.Kind.TheVariants.{Runtime, Threads, Regions, Tasks}
use Rattle.omi_layout.specs.declared.field.Field.{Field}
use Rattle.omi_layout.specs.declared.field.Field.TheVariants.{RuntimeVersion, RuntimeThreads, RuntimeProcs, RuntimeDebug, RuntimeMaxActive, RuntimeLocks, ThreadLife, ThreadNative, ThreadCurrent, ThreadState, ThreadClaim, ThreadAssign, RegionLife, RegionFunction, RegionEnclosing, RegionEncountering, RegionSize, RegionLevels, RegionActive, RegionReleased, RegionArrived, RegionPending, RegionLeft, RegionTeam, TaskLife, TaskImplicit, TaskRegion, TaskThread, TaskNumber, TaskGenerating, TaskScheduling, TaskFunction, TaskExit, TaskEnter, TaskDynamic, TaskNthreadsLength, TaskSchedule, TaskDevice, TaskFinal, TaskTool, TaskChildren, TaskReferences, TaskNthreads, TaskSlots}

-- the number of a kind of record, which its arena has too
abbrev pub kind_number : Kind → ℕ
kind_number Runtime = 1
kind_number Threads = 2
kind_number Regions = 3
kind_number Tasks = 4

-- the number of a field
abbrev pub number : Field → ℕ
number RuntimeVersion = 1
number RuntimeThreads = 2
number RuntimeProcs = 3
number RuntimeDebug = 4
number RuntimeMaxActive = 5
number RuntimeLocks = 6
number ThreadLife = 7
number ThreadNative = 8
number ThreadCurrent = 9
number ThreadState = 10
number ThreadClaim = 11
number ThreadAssign = 12
number RegionLife = 13
number RegionFunction = 14
number RegionEnclosing = 15
number RegionEncountering = 16
number RegionSize = 17
number RegionLevels = 18
number RegionActive = 19
number RegionReleased = 20
number RegionArrived = 21
number RegionPending = 22
number RegionLeft = 23
number RegionTeam = 24
number TaskLife = 25
number TaskImplicit = 26
number TaskRegion = 27
number TaskThread = 28
number TaskNumber = 29
number TaskGenerating = 30
number TaskScheduling = 31
number TaskFunction = 32
number TaskExit = 33
number TaskEnter = 34
number TaskDynamic = 35
number TaskNthreadsLength = 36
number TaskSchedule = 37
number TaskDevice = 38
number TaskFinal = 39
number TaskTool = 40
number TaskChildren = 41
number TaskReferences = 42
number TaskNthreads = 43
number TaskSlots = 44

-- the fields in the order of their numbers, each with its name
abbrev pub fields : List (Field × List ℕ)
fields =
    (RuntimeVersion, codes "rt.version")
    ∷ (RuntimeThreads, codes "rt.threads")
    ∷ (RuntimeProcs, codes "rt.procs")
    ∷ (RuntimeDebug, codes "rt.debug")
    ∷ (RuntimeMaxActive, codes "rt.maxact")
    ∷ (RuntimeLocks, codes "rt.locks")
    ∷ (ThreadLife, codes "thread.life")
    ∷ (ThreadNative, codes "thread.native")
    ∷ (ThreadCurrent, codes "thread.cur")
    ∷ (ThreadState, codes "thread.state")
    ∷ (ThreadClaim, codes "thread.claim")
    ∷ (ThreadAssign, codes "thread.assign")
    ∷ (RegionLife, codes "region.life")
    ∷ (RegionFunction, codes "region.func")
    ∷ (RegionEnclosing, codes "region.enclosing")
    ∷ (RegionEncountering, codes "region.encounter")
    ∷ (RegionSize, codes "region.size")
    ∷ (RegionLevels, codes "region.levels")
    ∷ (RegionActive, codes "region.active")
    ∷ (RegionReleased, codes "region.released")
    ∷ (RegionArrived, codes "region.arrived")
    ∷ (RegionPending, codes "region.pending")
    ∷ (RegionLeft, codes "region.left")
    ∷ (RegionTeam, codes "region.team")
    ∷ (TaskLife, codes "task.life")
    ∷ (TaskImplicit, codes "task.implicit")
    ∷ (TaskRegion, codes "task.region")
    ∷ (TaskThread, codes "task.thread")
    ∷ (TaskNumber, codes "task.number")
    ∷ (TaskGenerating, codes "task.generating")
    ∷ (TaskScheduling, codes "task.scheduling")
    ∷ (TaskFunction, codes "task.func")
    ∷ (TaskExit, codes "task.exit")
    ∷ (TaskEnter, codes "task.enter")
    ∷ (TaskDynamic, codes "task.dyn")
    ∷ (TaskNthreadsLength, codes "task.nthn")
    ∷ (TaskSchedule, codes "task.sched")
    ∷ (TaskDevice, codes "task.device")
    ∷ (TaskFinal, codes "task.final")
    ∷ (TaskTool, codes "task.tool")
    ∷ (TaskChildren, codes "task.children")
    ∷ (TaskReferences, codes "task.refs")
    ∷ (TaskNthreads, codes "task.nth")
    ∷ (TaskSlots, codes "task.slots")
    ∷ []

-- the names of the fields by number. 0 stands for the layout table
abbrev pub names : List (List ℕ)
names = codes "layout" ∷ map (λ field. field.1) fields

-- the text by which a fault names a field
abbrev pub field_text : ℕ → List ℕ
field_text f = slice_index_or names f []
