-- What a walk asks about tasks: the chain of each thread that was found.
use Rattle.std.specs.Prelude.{ℕ, Bool, List, Option, Some, Ok}
use Rattle.std.specs.Option.{option_map}
use Rattle.std.specs.List.{flat_map}
use Rattle.omi_handle.specs.declared.handle.Held.{Held}
use Rattle.omi_layout.specs.Field.{tasks}
use Rattle.omi_layout.specs.Table.{records}
use Rattle.omi_model.specs.declared.id.Id.{Id}
use Rattle.omi_model.specs.declared.view.TaskRow.{TaskRow}
use Rattle.omi_numbers.specs.declared.variables.TheConstants.{DYN_VAR, RUN_SCHED_VAR, DEFAULT_DEVICE_VAR, FINAL_TASK_VAR, IMPLICIT_TASK_VAR}
use Rattle.omi_session.specs.Reads.{Answer, then_reads}
use Rattle.omi_asktask.specs.Tasks.{generating_task, scheduling_task}
use Rattle.omi_walk.specs.declared.found.Found.{Found}
use Rattle.omi_walk.specs.declared.met.Met.{Met}
use Rattle.omi_walk.specs.declared.tasks.Environment.{Environment}
use Rattle.omi_walk.specs.declared.tasks.Link.{Link}
use Rattle.omi_walk.specs.declared.tasks.SeenRelations.{SeenRelations}
use Rattle.omi_walk.specs.Asking.{Asks, with_answer, ask_each, ask_chain, ask_maybe, none_met}
use Rattle.omi_walk.specs.AskWords.{ask_task_variable, ask_nthreads, ask_function, ask_frames, ask_tool}
use Rattle.omi_walk.specs.AskRegions.{ask_region_of}
use Rattle.omi_walk.specs.Chains.{unmet}
use Rattle.omi_walk.specs.Objects.{name_in}

module _ (w : List ℕ) where
  -- the task that made a task, and the one that it was scheduled from, if there is one
  abbrev pub ask_generating : Option Held → Asks (Option Met)
  ask_generating k = ask_maybe w k (generating_task w k)

  abbrev pub ask_scheduling : Option Held → Asks (Option Met)
  ask_scheduling k = ask_maybe w k (scheduling_task w k)

  -- the latter must not have been met before
  unfoldable pub ask_next : (ℕ → Bool) → Option Held → Asks (Option Met)
  ask_next known k = then_reads (ask_scheduling k) (λ next. Answer (unmet known next))

  -- the relations of a task
  unfoldable pub ask_relations : (ℕ → Bool) → Option Held → Asks SeenRelations
  ask_relations known k =
      then_reads (ask_task_variable w IMPLICIT_TASK_VAR k) (λ implicit.
      then_reads (ask_region_of w k) (λ region.
      then_reads (ask_function w k) (λ func.
      then_reads (ask_generating k) (λ generating.
      then_reads (ask_next known k) (λ next.
      Answer (Ok (record {
        relations = record {
          implicit = implicit;
          region = record { 0 = region.name };
          func = func;
          generating = option_map (λ n. record { 0 = n }) (name_in generating);
          scheduling = option_map (λ n. record { 0 = n }) (name_in next);
        };
        next = next;
      })))))))

  -- the data environment of a task
  unfoldable pub ask_environment : Option Held → Asks Environment
  ask_environment k =
      then_reads (ask_task_variable w DYN_VAR k) (λ dyn_var.
      then_reads (ask_nthreads w k) (λ nthreads.
      then_reads (ask_task_variable w RUN_SCHED_VAR k) (λ sched.
      then_reads (ask_task_variable w DEFAULT_DEVICE_VAR k) (λ device.
      then_reads (ask_task_variable w FINAL_TASK_VAR k) (λ final_task.
      Answer (Ok (record {
        dyn_var = dyn_var;
        nthreads = nthreads;
        sched = sched;
        device = device;
        final_task = final_task;
      })))))))

  -- the row of the task of this name on the chain of a thread, and the task that is next on it
  unfoldable pub ask_link : (ℕ → Bool) → ℕ → Id → Option Held → Asks Link
  ask_link known i n k =
      then_reads (ask_relations known k) (λ seen.
      then_reads (ask_frames w k) (λ frames.
      then_reads (ask_tool w k) (λ tool.
      then_reads (ask_environment k) (λ environment.
      Answer (Ok (record {
        row = record {
          task = record { 0 = n };
          thread = i;
          implicit = seen.relations.implicit;
          region = seen.relations.region;
          func = seen.relations.func;
          generating = seen.relations.generating;
          scheduling = seen.relations.scheduling;
          exit = frames.0;
          enter = frames.1;
          tool = tool;
          dyn_var = environment.dyn_var;
          nthreads = environment.nthreads;
          sched = environment.sched;
          device = environment.device;
          final_task = environment.final_task;
        };
        next = seen.next;
      }))))))

  abbrev pub ask_task : (ℕ → Bool) → ℕ → Met → Asks Link
  ask_task known i k = ask_link known i k.name (Some k.held)

  -- the row of a task, and the task that it was scheduled from
  unfoldable pub ask_chained : ℕ → (ℕ → Bool) → Met → Asks (TaskRow × Option Met)
  ask_chained i known k =
      with_answer (λ (link : Link). (link.row, link.next)) (ask_task known i k)

  -- the chain of a thread, from a task on by scheduling task
  abbrev pub ask_rows_from : ℕ → Option Met → Asks (List TaskRow)
  ask_rows_from i first = ask_chain (ask_chained i) (records w tasks) none_met first

  abbrev pub ask_tasks : Found → Asks (List TaskRow)
  ask_tasks f = ask_rows_from f.thread f.current

  -- the chains of all, one after the other
  unfoldable pub ask_all_tasks : List Found → Asks (List TaskRow)
  ask_all_tasks found = with_answer (flat_map (λ rows. rows)) (ask_each ask_tasks found)
