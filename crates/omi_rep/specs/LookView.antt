-- The contents of the report that a plain look at the words gives, for contexts in their order, or the first refusal in the order of its lines.
use Rattle.std.specs.Prelude.{◌==◌, ◌&&◌, ℕ, zero, suc, nat_le, List, [], ◌∷◌, find, Option, Some, None, Ok, Err, if◌then◌else◌}
use Rattle.std.specs.Option.{option_map}
use Rattle.std.specs.List.{range_with_len, flat_map, filter_map}
use Rattle.omi_script.specs.declared.limits.TheConstants.{MAX_SIZES}
use Rattle.omi_numbers.specs.Words.{state_of, wait_of}
use Rattle.omi_model.specs.declared.id.Id.{Id}
use Rattle.omi_model.specs.declared.view.View.{View}
use Rattle.omi_model.specs.declared.view.HeadRow.{HeadRow}
use Rattle.omi_model.specs.declared.view.ThreadRow.{ThreadRow}
use Rattle.omi_model.specs.declared.view.ThreadPart.{ThreadPart}
use Rattle.omi_model.specs.declared.view.RegionRow.{RegionRow}
use Rattle.omi_model.specs.declared.view.MemberRow.{MemberRow}
use Rattle.omi_model.specs.declared.view.TaskRow.{TaskRow}
use Rattle.omi_layout.specs.declared.field.Field.{Field}
use Rattle.omi_layout.specs.declared.field.Field.TheVariants.{RuntimeVersion, RuntimeProcs, RuntimeDebug, RuntimeMaxActive, ThreadLife, ThreadNative, ThreadCurrent, ThreadState, RegionFunction, RegionEnclosing, RegionSize, RegionLevels, RegionActive, RegionTeam, TaskImplicit, TaskRegion, TaskThread, TaskNumber, TaskGenerating, TaskScheduling, TaskFunction, TaskExit, TaskEnter, TaskDynamic, TaskNthreadsLength, TaskSchedule, TaskDevice, TaskFinal, TaskTool, TaskNthreads}
use Rattle.omi_layout.specs.Field.{threads, regions, tasks}
use Rattle.omi_layout.specs.Named.{number}
use Rattle.omi_layout.specs.Table.{thread_count, records}
use Rattle.omi_word.specs.Words.{Words}
use Rattle.omi_rep.specs.declared.fault.LookFault.TheVariants.{Damaged, Cycle}
use Rattle.omi_rep.specs.Records.{runtime_address, thread_address}
use Rattle.omi_rep.specs.Look.{Look, and_then, mapped, each, optional, slot_list, id_address, look_word, look_object, look_optional, look_onward}

module _ (w : List ℕ) (words : Words) where
  -- a word of the runtime record, of a thread, a region and a task
  abbrev pub read_runtime : Field → Look ℕ
  read_runtime f = look_word w words (runtime_address w) f 0

  abbrev pub read_thread : ℕ → Field → Look ℕ
  read_thread i f = look_word w words (thread_address w i) f 0

  abbrev pub read_region : Id → Field → Look ℕ
  read_region n f = look_word w words (id_address w regions n) f 0

  abbrev pub read_task : Id → Field → Look ℕ
  read_task k f = look_word w words (id_address w tasks k) f 0

  -- a word whose value has to be within bounds
  abbrev pub look_within : ℕ → Field → ℕ → ℕ → Look ℕ
  look_within address f least most =
      and_then (look_word w words address f 0) (λ word. if nat_le least word && nat_le word most
      then Ok word else Err (Damaged address (number f)))

  -- the header
  abbrev pub look_head : Look HeadRow
  look_head =
      and_then (read_runtime RuntimeVersion) (λ version.
      and_then (read_runtime RuntimeDebug) (λ debug.
      and_then (read_runtime RuntimeProcs) (λ procs.
      and_then (read_runtime RuntimeMaxActive) (λ max_active.
      Ok (record {
        version = version;
        threads = thread_count w;
        debug = debug;
        procs = procs;
        max_active = max_active;
      })))))

  -- the first of these threads that has begun and has this native id
  abbrev pub look_for : ℕ → List ℕ → Look (Option ℕ)
  look_for native [] = Ok None
  look_for native (i ∷ more) =
      and_then (read_thread i ThreadLife) (λ life. if life == 1
      then and_then (read_thread i ThreadNative) (λ id. if id == native then Ok (Some i)
      else look_for native more)
      else look_for native more)

  -- the state and the wait id of a thread, where states are kept. The state word has both
  abbrev pub look_state : ℕ → Look (Option (ℕ × ℕ))
  look_state i =
      and_then (read_runtime RuntimeDebug) (λ debug. if debug == 0 then Ok None
      else mapped (λ word. Some (state_of word, wait_of word)) (read_thread i ThreadState))

  -- the current task of a thread
  abbrev pub look_current : ℕ → Look (Option Id)
  look_current i = look_optional w words tasks (thread_address w i) ThreadCurrent 0

  abbrev pub look_part : ℕ → Look ThreadPart
  look_part i =
      and_then (look_state i) (λ state.
      and_then (look_current i) (λ current.
      and_then (optional (λ k. read_task k TaskNumber) current) (λ member.
      Ok (record {
        thread = i;
        state = state;
        number = member;
        current = option_map (λ k. record { 0 = k }) current;
      }))))

  -- the row of a context
  abbrev pub look_thread : ℕ → Look ThreadRow
  look_thread native =
      and_then (look_for native (range_with_len 0 (thread_count w))) (λ i.
      mapped (λ part. record { native = native; found = part }) (optional look_part i))

  -- the region of the current task of a thread
  abbrev pub look_innermost : ℕ → Look (Option Id)
  look_innermost i =
      and_then (look_current i) (λ current.
      optional (λ k. look_object w words regions (id_address w tasks k) TaskRegion 0) current)

  -- the regions from one on, each enclosed by the next. `met` are the addresses before it. No address comes twice, so `n`, the number of records, is enough
  abbrev pub look_enclosing : ℕ → List ℕ → Option Id → Look (List Id)
  look_enclosing n met None = Ok []
  look_enclosing zero met (Some r) = Err (Cycle (id_address w regions r))
  look_enclosing (suc n) met (Some r) =
      let address = id_address w regions r in
      and_then (look_onward w words regions (address ∷ met) address RegionEnclosing) (λ next.
      mapped (λ more. r ∷ more) (look_enclosing n (address ∷ met) next))

  -- the regions of a thread: that of its current task, and those which enclose it
  abbrev pub look_regions : ℕ → Look (List Id)
  look_regions i =
      and_then (look_innermost i) (λ innermost. look_enclosing (records w regions) [] innermost)

  -- the region that was met in a slot
  abbrev pub met_in : List Id → ℕ × ℕ → Option Id
  met_in met at = find (λ n. n.creator == at.0 && n.slot == at.1) met

  -- a member of a region
  abbrev pub look_member : Id → ℕ → Look MemberRow
  look_member n j =
      and_then (look_object w words tasks (id_address w regions n) RegionTeam j) (λ k.
      and_then (look_object w words threads (id_address w tasks k) TaskThread 0) (λ i.
      Ok (record { thread = i.creator; task = record { 0 = k } })))

  -- a region and its members
  abbrev pub look_region : Id → Look RegionRow
  look_region n =
      let address = id_address w regions n in
      and_then (read_region n RegionFunction) (λ func.
      and_then (read_region n RegionLevels) (λ levels.
      and_then (read_region n RegionActive) (λ active.
      and_then (look_within address RegionSize 1 (thread_count w)) (λ size.
      and_then (look_optional w words regions address RegionEnclosing 0) (λ enclosing.
      and_then (each (look_member n) (range_with_len 0 size)) (λ members.
      Ok (record {
        region = record { 0 = n };
        func = func;
        levels = levels;
        active = active;
        size = size;
        enclosing = option_map (λ r. record { 0 = r }) enclosing;
        members = members;
      })))))))

  -- the elements of nthreads-var of a task
  abbrev pub look_nthreads : Id → Look (List ℕ)
  look_nthreads k =
      let address = id_address w tasks k in
      and_then (look_within address TaskNthreadsLength 1 MAX_SIZES) (λ length.
      each (look_word w words address TaskNthreads) (range_with_len 0 length))

  -- a task on the chain of a thread. `met` are the addresses of the chain so far, this one included
  abbrev pub look_task : List ℕ → ℕ → Id → Look TaskRow
  look_task met i k =
      let address = id_address w tasks k in
      and_then (read_task k TaskImplicit) (λ implicit.
      and_then (look_object w words regions address TaskRegion 0) (λ region.
      and_then (read_task k TaskFunction) (λ func.
      and_then (look_optional w words tasks address TaskGenerating 0) (λ generating.
      and_then (look_onward w words tasks met address TaskScheduling) (λ scheduling.
      and_then (read_task k TaskExit) (λ exit.
      and_then (read_task k TaskEnter) (λ enter.
      and_then (read_task k TaskTool) (λ tool.
      and_then (read_task k TaskDynamic) (λ dynamic.
      and_then (look_nthreads k) (λ nthreads.
      and_then (read_task k TaskSchedule) (λ schedule.
      and_then (read_task k TaskDevice) (λ device.
      and_then (read_task k TaskFinal) (λ final.
      Ok (record {
        task = record { 0 = k };
        thread = i;
        implicit = implicit;
        region = record { 0 = region };
        func = func;
        generating = option_map (λ g. record { 0 = g }) generating;
        scheduling = option_map (λ h. record { 0 = h }) scheduling;
        exit = exit;
        enter = enter;
        tool = tool;
        dyn_var = dynamic;
        nthreads = nthreads;
        sched = schedule;
        device = device;
        final_task = final;
      }))))))))))))))

  -- the chain of a thread, from a task on by scheduling task. No address comes twice, so `n`, the number of records, is enough
  abbrev pub look_chain : ℕ → List ℕ → ℕ → Option Id → Look (List TaskRow)
  look_chain n met i None = Ok []
  look_chain zero met i (Some k) = Err (Cycle (id_address w tasks k))
  look_chain (suc n) met i (Some k) =
      let seen = id_address w tasks k ∷ met in
      and_then (look_task seen i k) (λ row.
      mapped (λ more. row ∷ more)
      (look_chain n seen i (option_map (λ next. next.0) row.scheduling)))

  abbrev pub look_tasks : ℕ → Look (List TaskRow)
  look_tasks i = and_then (look_current i) (look_chain (records w tasks) [] i)

  -- the threads that were found for the contexts
  abbrev pub found_threads : List ThreadRow → List ℕ
  found_threads rows = filter_map (λ row. option_map (λ part. part.thread) row.found) rows

  -- the report: the header, the row of each context, the regions of all threads in the order of names, and the chain of each thread
  abbrev pub look_view : List ℕ → Look View
  look_view contexts =
      and_then look_head (λ head.
      and_then (each look_thread contexts) (λ rows.
      let found = found_threads rows in
      and_then (each look_regions found) (λ met.
      and_then (each look_region (filter_map (met_in (flat_map (λ ids. ids) met)) (slot_list w regions))) (λ regions.
      and_then (each look_tasks found) (λ chains.
      Ok (record { head = head; threads = rows; regions = regions; tasks = flat_map (λ rows. rows) chains }))))))
