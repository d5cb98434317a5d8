-- What the clauses 2 to 6 ask of a word, by the field in which it stands. A clause asks nothing of the words in other fields. Clause 1 asks that
-- each of these words is mapped; 7 and 8 are about chains, and stand in Verdicts.
use Rattle.std.specs.Prelude.{◌==◌, ◌&&◌, ◌||◌, ℕ, ◌-◌, ◌/◌, ◌%◌, Bool, true, not, nat_le, nat_lt, List, [], ◌∷◌, map, filter, Option, Some, None, is_some, if◌then◌else◌}
use Rattle.std.specs.Option.{option_map_or}
use Rattle.std.specs.List.{list_any}
use Rattle.omi_script.specs.declared.limits.TheConstants.{MAX_FUNCTIONS, MAX_SIZE, MAX_SIZES, MAX_LEVELS, MAX_DEVICE, MAX_CHUNK, MAX_PROCS, MAX_LOCK}
use Rattle.omi_numbers.specs.declared.limits.TheConstants.{OPEN_GROUPS}
use Rattle.omi_numbers.specs.declared.schedules.TheConstants.{STATIC, AUTO}
use Rattle.omi_numbers.specs.declared.words.TheConstants.{OPENMP_VERSION, CHUNK_PLACE}
use Rattle.omi_numbers.specs.Addresses.{entry_address, function_at}
use Rattle.omi_numbers.specs.Holders.{lock_wait}
use Rattle.omi_numbers.specs.States.{state_numbers}
use Rattle.omi_numbers.specs.Words.{native_id, state_of, wait_of}
use Rattle.omi_layout.specs.declared.field.Field.{Field}
use Rattle.omi_layout.specs.declared.field.Field.TheVariants.{RuntimeVersion, RuntimeThreads, RuntimeProcs, RuntimeDebug, RuntimeMaxActive, ThreadLife, ThreadNative, ThreadCurrent, ThreadState, RegionFunction, RegionEnclosing, RegionEncountering, RegionSize, RegionLevels, RegionActive, RegionTeam, TaskImplicit, TaskRegion, TaskThread, TaskNumber, TaskGenerating, TaskScheduling, TaskFunction, TaskDynamic, TaskNthreadsLength, TaskSchedule, TaskDevice, TaskFinal, TaskNthreads, TaskSlots}
use Rattle.omi_layout.specs.declared.limits.TheConstants.{GROUP_PLACE}
use Rattle.omi_layout.specs.Field.{threads, regions, tasks}
use Rattle.omi_layout.specs.Table.{thread_count}
use Rattle.omi_layout.specs.Valid.{is_between}
use Rattle.omi_word.specs.Words.{Words}
use Rattle.omi_rep.specs.Codes.{is_among}
use Rattle.omi_rep.specs.Look.{live_at}

-- ---- words by themselves

-- a flag
abbrev pub is_flag : ℕ → Bool
is_flag word = nat_le word 1

-- the entry address of a function, whose number is below `MAX_FUNCTIONS`
abbrev pub is_entry : ℕ → Bool
is_entry word = entry_address (function_at word) == word && nat_lt (function_at word) MAX_FUNCTIONS

-- a listed state, with no wait id or that of a lock
abbrev pub is_state : ℕ → Bool
is_state word =
    list_any (λ state. state == state_of word) state_numbers
    && nat_le (wait_of word) (lock_wait MAX_LOCK)

-- a kind of schedule and a chunk
abbrev pub is_schedule : ℕ → Bool
is_schedule word = is_between STATIC (word % CHUNK_PLACE) AUTO && nat_le (word / CHUNK_PLACE) MAX_CHUNK

-- ---- pointers

-- the kind of record to which a word leads, by its field and its place there. Of the words for groups, behind the slots of a task, the first one does
abbrev pub leads_to : Field → ℕ → Option ℕ
leads_to ThreadCurrent at = Some tasks
leads_to RegionEnclosing at = Some regions
leads_to RegionEncountering at = Some tasks
leads_to RegionTeam at = Some tasks
leads_to TaskRegion at = Some regions
leads_to TaskThread at = Some threads
leads_to TaskGenerating at = Some tasks
leads_to TaskScheduling at = Some tasks
leads_to TaskSlots at = if at == GROUP_PLACE then Some tasks else None
leads_to _ at = None

-- the address to which it leads: that of the record itself, behind which the word for a group has the group's index
abbrev pub led_to : Field → ℕ → ℕ
led_to TaskSlots word = word - word % OPEN_GROUPS
led_to _ word = word

-- the fields of these that may hold 0, for none
abbrev pub may_be_none : Field → Bool
may_be_none =
    is_among (ThreadCurrent ∷ RegionEnclosing ∷ RegionEncountering ∷ TaskGenerating ∷ TaskScheduling
    ∷ TaskSlots ∷ [])

-- the clause that asks this of the word: clause 4, and clause 6 of the word for a task's group
abbrev pub pointer_clause : Field → ℕ
pointer_clause TaskSlots = 6
pointer_clause _ = 4

-- ---- the clauses

-- clause 3: thread i
abbrev pub clause_3 : ℕ → Field → ℕ → Bool
clause_3 i ThreadLife word = is_flag word
clause_3 i ThreadNative word = word == native_id i
clause_3 i ThreadState word = is_state word
clause_3 i _ word = true

module _ (w : List ℕ) where
  -- clause 2: the global values
  abbrev pub clause_2 : Field → ℕ → Bool
  clause_2 RuntimeVersion word = word == OPENMP_VERSION
  clause_2 RuntimeThreads word = word == thread_count w
  clause_2 RuntimeProcs word = is_between 1 word MAX_PROCS
  clause_2 RuntimeDebug word = is_flag word
  clause_2 RuntimeMaxActive word = nat_le word MAX_LEVELS
  clause_2 _ word = true

  -- clause 4: a pointer names a live record of its kind, or none where it may
  abbrev pub clause_4 : Words → Field → ℕ → ℕ → Bool
  clause_4 words f at word =
      option_map_or
      (λ kind. (may_be_none f && word == 0) || is_some (live_at w words kind (led_to f word)))
      (leads_to f at) true

  -- clause 5: a region
  abbrev pub clause_5 : Field → ℕ → Bool
  clause_5 RegionFunction word = is_entry word
  clause_5 RegionSize word = is_between 1 word (thread_count w)
  clause_5 RegionLevels word = nat_le word MAX_LEVELS
  clause_5 RegionActive word = nat_le word MAX_LEVELS
  clause_5 _ word = true

  -- clause 6: a task. Behind the word for its group stands the number of its open groups
  abbrev pub clause_6 : Field → ℕ → ℕ → Bool
  clause_6 TaskImplicit at word = is_flag word
  clause_6 TaskNumber at word = nat_lt word (thread_count w)
  clause_6 TaskFunction at word = is_entry word
  clause_6 TaskDynamic at word = is_flag word
  clause_6 TaskNthreadsLength at word = is_between 1 word MAX_SIZES
  clause_6 TaskSchedule at word = is_schedule word
  clause_6 TaskDevice at word = nat_le word MAX_DEVICE
  clause_6 TaskFinal at word = is_flag word
  clause_6 TaskNthreads at word = is_between 1 word MAX_SIZE
  clause_6 TaskSlots at word = at == GROUP_PLACE || nat_le word OPEN_GROUPS
  clause_6 _ at word = true

  -- these clauses by number, each with whether it holds of a word at a place of a field
  abbrev pub clauses : Words → ℕ → Field → ℕ → ℕ → List (ℕ × Bool)
  clauses words i f at word =
      (2, clause_2 f word)
      ∷ (3, clause_3 i f word)
      ∷ (pointer_clause f, clause_4 words f at word)
      ∷ (5, clause_5 f word)
      ∷ (6, clause_6 f at word)
      ∷ []

  -- the numbers of those that fail
  abbrev pub failing : Words → ℕ → Field → ℕ → ℕ → List ℕ
  failing words i f at word =
      map (λ clause. clause.0) (filter (λ clause. not clause.1) (clauses words i f at word))
