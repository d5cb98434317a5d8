-- At which word a step commits its event, and at which words a thread may wait.
use Rattle.std.specs.Prelude.{◌≡◌, ◌⊎◌, ℕ, List, ◌∷◌, slice_get, Some}
use Rattle.omi_numbers.specs.declared.holders.TheConstants.{FREE_CLAIM}
use Rattle.omi_numbers.specs.Holders.{claimed_word, holder_word}
use Rattle.omi_word.specs.declared.op.Op.{Op}
use Rattle.omi_word.specs.declared.op.Op.TheVariants as op
use Rattle.omi_word.specs.Memory.{address_of}
use Rattle.omi_model.specs.declared.event.Event.{Event}
use Rattle.omi_model.specs.declared.event.Event.TheVariants as event
use Rattle.omi_model.specs.declared.id.Tid.{Tid}
use Rattle.omi_model.specs.declared.item.Item.{Item}
use Rattle.omi_model.specs.declared.item.Item.TheVariants as item
use Rattle.omi_model.specs.Changes.{OfCurrent, OfCurrentRegion}
use Rattle.omi_numbers.specs.declared.variables.TheConstants.{DEFAULT_DEVICE_VAR, DYN_VAR, MAX_ACTIVE_LEVELS_VAR, NTHREADS_VAR, RUN_SCHED_VAR}
use Rattle.omi_model.specs.State.{State}
use Rattle.omi_layout.specs.declared.field.Field.{Field}
use Rattle.omi_layout.specs.declared.field.Field.TheVariants.{RegionArrived, RegionLife, RegionReleased, RuntimeLocks, RuntimeMaxActive, TaskChildren, TaskDevice, TaskDynamic, TaskEnter, TaskLife, TaskNthreads, TaskSchedule, TaskSlots, TaskTool, ThreadClaim, ThreadCurrent, ThreadLife, ThreadNative, ThreadState}
use Rattle.omi_layout.specs.declared.limits.TheConstants.{OPEN_PLACE}
use Rattle.omi_layout.specs.Memory.{word_address}
use Rattle.omi_layout.specs.Named.{number}
use Rattle.omi_rep.specs.declared.outcome.Outcome.{Outcome}
use Rattle.omi_rep.specs.declared.outcome.Outcome.TheVariants as outcome
use Rattle.omi_step_words.specs.Words.{of_groups, of_region, of_runtime, of_task, of_thread}

-- a store at an address
abbrev pub StoresAt : Op → ℕ → Type 0
StoresAt o address = (word : ℕ) × (o ≡ op.Store address word)

-- a variable of a data environment is set in this field
abbrev pub IsVariableField : ℕ → Field → Type 0
IsVariableField icv TaskDynamic = icv ≡ DYN_VAR
IsVariableField icv TaskNthreads = icv ≡ NTHREADS_VAR
IsVariableField icv TaskSchedule = icv ≡ RUN_SCHED_VAR
IsVariableField icv TaskDevice = icv ≡ DEFAULT_DEVICE_VAR
IsVariableField icv f = ⊥

-- the one word of an internal control variable: that of the whole program, or the current task's
abbrev pub SetsAt : List ℕ → State → ℕ → ℕ → Op → Type 0
SetsAt w s i icv o = ((icv ≡ MAX_ACTIVE_LEVELS_VAR) × StoresAt o (of_runtime w RuntimeMaxActive))
    ⊎ ((f : Field) × IsVariableField icv f × OfCurrent s i (λ k t. StoresAt o (of_task w k f)))

-- a thread's row is the implicit task of its member of the current region
abbrev pub OfOwnRow : State → ℕ → (Tid → Type 0) → Type 0
OfOwnRow s i P = OfCurrentRegion s i (λ k t r. (x : Tid) × (slice_get r.team t.number ≡ Some (x, i)) × P x)

-- a slot for deferred tasks in the record of a row
abbrev pub of_row_slot : List ℕ → Tid → ℕ → ℕ
of_row_slot w x j = word_address w x.0.creator x.0.slot (number TaskSlots) j

-- a task is deferred next, in the slot of this number: the first one of the row that was not seen taken
abbrev pub defers_next : ℕ → List Item → Type 0
defers_next j (item.Defer seen f final ∷ xs) = j ≡ seen
defers_next j xs = ⊥

-- Each event is committed by one operation on one word
abbrev pub CommitsAt : List ℕ → State → ℕ → Event → Op → Type 0
CommitsAt w s i event.Begin o = StoresAt o (of_thread w i ThreadLife)
CommitsAt w s i event.Offer o = StoresAt o (of_thread w i ThreadClaim)
CommitsAt w s i (event.Want n) o = o ≡ op.Load (of_runtime w RuntimeMaxActive)
CommitsAt w s i (event.Ask v got) o = o ≡ op.Cas (of_thread w v ThreadClaim) FREE_CLAIM (claimed_word i)
CommitsAt w s i (event.Fork region team) o = StoresAt o (of_thread w i ThreadCurrent)
CommitsAt w s i (event.ImplicitBegin task) o = StoresAt o (of_thread w i ThreadCurrent)
CommitsAt w s i (event.State state wait) o = StoresAt o (of_thread w i ThreadState)
CommitsAt w s i event.Enter o = OfCurrent s i (λ k t. StoresAt o (of_task w k TaskEnter))
CommitsAt w s i event.Leave o = OfCurrent s i (λ k t. StoresAt o (of_task w k TaskEnter))
CommitsAt w s i event.Arrive o = OfCurrent s i (λ k t. o ≡ op.Add (of_region w t.region RegionArrived) 1)
CommitsAt w s i event.Release o = OfCurrent s i (λ k t. StoresAt o (of_region w t.region RegionReleased))
CommitsAt w s i event.Pass o = OfCurrent s i (λ k t. o ≡ op.Load (of_region w t.region RegionReleased))
CommitsAt w s i (event.ImplicitEnd task) o = o ≡ op.Store (of_thread w i ThreadCurrent) 0
CommitsAt w s i (event.Join region) o = StoresAt o (of_thread w i ThreadCurrent)
CommitsAt w s i (event.Set icv value) o = SetsAt w s i icv o
CommitsAt w s i (event.SetTool x) o = OfCurrent s i (λ k t. StoresAt o (of_task w k TaskTool))
CommitsAt w s i (event.Lock k) o =
    o ≡ op.Cas (word_address w 0 0 (number RuntimeLocks) k) 0 (holder_word i)
CommitsAt w s i (event.Unlock k) o = o ≡ op.Store (word_address w 0 0 (number RuntimeLocks) k) 0
CommitsAt w s i (event.Seen j) o = OfOwnRow s i (λ x. o ≡ op.Load (of_row_slot w x j))
CommitsAt w s i (event.Defer task) o = (j : ℕ) × OfCurrent s i (λ k t. defers_next j t.list)
    × OfOwnRow s i (λ x. StoresAt o (of_row_slot w x j))
CommitsAt w s i (event.StartNow task) o = StoresAt o (of_thread w i ThreadCurrent)
CommitsAt w s i (event.Start task) o = StoresAt o (of_thread w i ThreadCurrent)
CommitsAt w s i (event.Finish task) o = StoresAt o (of_thread w i ThreadCurrent)
CommitsAt w s i event.WaitDone o = OfCurrent s i (λ k t. o ≡ op.Load (of_task w k TaskChildren))
CommitsAt w s i event.GroupBegin o = OfCurrent s i (λ k t. StoresAt o (of_groups w k OPEN_PLACE))
CommitsAt w s i event.GroupEnd o = OfCurrent s i (λ k t. StoresAt o (of_groups w k OPEN_PLACE))
CommitsAt w s i event.Yield o = o ≡ op.Load (of_thread w i ThreadNative)
CommitsAt w s i event.Work o = o ≡ op.Load (of_thread w i ThreadNative)
CommitsAt w s i (event.Call f) o = o ≡ op.Load (of_thread w i ThreadNative)
CommitsAt w s i event.Skip o = o ≡ op.Load (of_thread w i ThreadNative)
CommitsAt w s i event.Ret o = o ≡ op.Load (of_thread w i ThreadNative)
CommitsAt w s i event.Done o = o ≡ op.Load (of_thread w i ThreadNative)
CommitsAt w s i (event.FreeTask task) o = StoresAt o (of_task w task TaskLife)
CommitsAt w s i (event.FreeRegion region) o = StoresAt o (of_region w region RegionLife)

-- a load, or a compare and exchange
abbrev pub IsLoad : Op → Type 0
IsLoad (op.Load at) = Unit {0}
IsLoad o = ⊥

abbrev pub Compares : Op → Type 0
Compares (op.Load at) = Unit {0}
Compares (op.Cas at before new) = Unit {0}
Compares o = ⊥

-- the slot in which a task is deferred was found empty
abbrev pub FindsEmptySlot : Event → ℕ → Type 0
FindsEmptySlot (event.Defer task) found = found ≡ 0
FindsEmptySlot e found = Unit {0}

-- an outcome comes of an operation that found this word
abbrev pub ComesOf : List ℕ → State → ℕ → Op → ℕ → Outcome → Type 0
ComesOf w s i o found outcome.Quiet = Unit {0}
ComesOf w s i o found (outcome.Event e) = CommitsAt w s i e o × FindsEmptySlot e found
ComesOf w s i o found (outcome.NotReady address word) =
    Compares o × (address ≡ address_of o) × (word ≡ found)
ComesOf w s i o found outcome.Ended = IsLoad o
