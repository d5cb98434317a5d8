-- Which words are judged, and the records that a breadth-first search from the threads meets, in its order. A record is known by its address.
use Rattle.std.specs.Prelude.{◌==◌, ℕ, zero, suc, ◌+◌, ◌++◌, Bool, List, [], ◌∷◌, map, fold, filter, Option, is_some, if◌then◌else◌}
use Rattle.std.specs.Option.{option_map_or}
use Rattle.std.specs.List.{range_with_len, flat_map, list_any}
use Rattle.omi_layout.specs.declared.field.Field.{Field}
use Rattle.omi_layout.specs.declared.field.Field.TheVariants.{RuntimeVersion, RuntimeThreads, RuntimeProcs, RuntimeDebug, RuntimeMaxActive, ThreadLife, ThreadNative, ThreadCurrent, ThreadState, RegionFunction, RegionEnclosing, RegionEncountering, RegionSize, RegionLevels, RegionActive, RegionTeam, TaskImplicit, TaskRegion, TaskThread, TaskNumber, TaskGenerating, TaskScheduling, TaskFunction, TaskExit, TaskEnter, TaskDynamic, TaskNthreadsLength, TaskSchedule, TaskDevice, TaskFinal, TaskTool, TaskNthreads, TaskSlots}
use Rattle.omi_layout.specs.declared.limits.TheConstants.{GROUP_PLACE, GROUP_VERSION, OPEN_PLACE}
use Rattle.omi_layout.specs.Field.{threads, regions, tasks}
use Rattle.omi_layout.specs.Named.{number}
use Rattle.omi_layout.specs.Table.{thread_count, records, version}
use Rattle.omi_word.specs.Words.{Words}
use Rattle.omi_rep.specs.Look.{live_at, slot_at}
use Rattle.omi_rep.specs.Records.{record_at, runtime_address, thread_address}
use Rattle.omi_audit.specs.Clauses.{leads_to, led_to}

-- a word of a record, by the record's address, the field, and the place in the field
pub record Place : Type 0 where
  pub address : ℕ
  pub field : Field
  pub at : ℕ

-- the first words of these fields of a record
abbrev pub places_of : ℕ → List Field → List Place
places_of address fields = map (λ f. record { address = address; field = f; at = 0 }) fields

-- the first so many words of a field
abbrev pub elements_of : ℕ → Field → ℕ → List Place
elements_of address f n = map (λ at. record { address = address; field = f; at = at }) (range_with_len 0 n)

-- each where it comes first
abbrev pub first_ones : List ℕ → List ℕ
first_ones addresses =
    fold (λ met address. if list_any (λ one. address == one) met then met else met ++ address ∷ []) [] addresses

module _ (w : List ℕ) (words : Words) where
  -- the word at a place
  abbrev pub word_at : Place → Option ℕ
  word_at p = record_at w words p.address (number p.field) p.at

  -- a number that a record holds, 0 where it isn't mapped
  abbrev pub number_in : ℕ → Field → ℕ
  number_in address f = option_map_or (λ word. word) (record_at w words address (number f) 0) 0

  -- ---- the words that are judged, by record, in the order of their fields

  abbrev pub runtime_places : List Place
  runtime_places =
      places_of (runtime_address w)
      (RuntimeVersion ∷ RuntimeThreads ∷ RuntimeProcs ∷ RuntimeDebug ∷ RuntimeMaxActive ∷ [])

  -- of a thread that has not begun, its life word and its native id alone
  abbrev pub thread_places : ℕ → List Place
  thread_places i =
      let address = thread_address w i in
      places_of address (ThreadLife ∷ ThreadNative ∷ [])
      ++ (if number_in address ThreadLife == 1
      then places_of address (ThreadCurrent ∷ ThreadState ∷ []) else [])

  -- the team has as many elements as the size says
  abbrev pub region_places : ℕ → List Place
  region_places address =
      places_of address
      (RegionFunction ∷ RegionEnclosing ∷ RegionEncountering ∷ RegionSize ∷ RegionLevels ∷ RegionActive ∷ [])
      ++ elements_of address RegionTeam (number_in address RegionSize)

  -- exit, enter and tool may be any words, but are to be mapped
  abbrev pub value_places : ℕ → List Place
  value_places address =
      places_of address
      (TaskImplicit ∷ TaskRegion ∷ TaskThread ∷ TaskNumber ∷ TaskGenerating ∷ TaskScheduling
      ∷ TaskFunction ∷ TaskExit ∷ TaskEnter ∷ TaskDynamic ∷ TaskNthreadsLength ∷ TaskSchedule
      ∷ TaskDevice ∷ TaskFinal ∷ TaskTool ∷ [])
      ++ elements_of address TaskNthreads (number_in address TaskNthreadsLength)

  -- the group of a task and the number of its open groups, where the layout has words for them
  abbrev pub group_places : ℕ → List Place
  group_places address =
      if version w == GROUP_VERSION
      then record { address = address; field = TaskSlots; at = GROUP_PLACE }
      ∷ record { address = address; field = TaskSlots; at = OPEN_PLACE } ∷ [] else []

  abbrev pub task_places : ℕ → List Place
  task_places address = value_places address ++ group_places address

  -- the address is that of a region's record
  abbrev pub is_region : ℕ → Bool
  is_region address = is_some (slot_at w regions address)

  abbrev pub record_places : ℕ → List Place
  record_places address = if is_region address then region_places address else task_places address

  -- ---- the search

  -- the live region or task that the word at a place names: of the word for a group, the task whose group it is
  abbrev pub named_at : Place → List ℕ
  named_at p =
      option_map_or
      (λ kind. if kind == threads then []
      else filter (λ one. is_some (live_at w words kind one))
      (option_map_or (λ word. led_to p.field word ∷ []) (word_at p) []))
      (leads_to p.field p.at) []

  -- those that a record names, in the order of its fields
  abbrev pub named_by : ℕ → List ℕ
  named_by address = flat_map named_at (record_places address)

  -- and those that the threads name
  abbrev pub current_tasks : List ℕ
  current_tasks = flat_map (λ i. flat_map named_at (thread_places i)) (range_with_len 0 (thread_count w))

  -- the records at a distance below n from the threads: those that the threads name, and then those that each of these records names in its turn
  abbrev pub met_within : ℕ → List ℕ
  met_within zero = []
  met_within (suc n) = first_ones (current_tasks ++ flat_map named_by (met_within n))

  -- how many records of regions and of tasks there are: no distance is greater
  abbrev pub all_records : ℕ
  all_records = records w regions + records w tasks

  -- all that are reached
  abbrev pub reached : List ℕ
  reached = met_within all_records
