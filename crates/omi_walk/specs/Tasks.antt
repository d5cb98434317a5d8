-- The look at a task in two parts, its relations and its data environment, and what a walk sees of it without what it keeps beside.
use Rattle.std.specs.Prelude.{ℕ, List, Result, Ok, Err}
use Rattle.std.specs.Option.{option_map}
use Rattle.omi_layout.specs.declared.field.Field.TheVariants.{TaskImplicit, TaskRegion, TaskFunction, TaskGenerating, TaskScheduling, TaskDynamic, TaskSchedule, TaskDevice, TaskFinal}
use Rattle.omi_layout.specs.Field.{regions, tasks}
use Rattle.omi_word.specs.Words.{Words}
use Rattle.omi_model.specs.declared.id.Id.{Id}
use Rattle.omi_model.specs.declared.view.TaskRow.{TaskRow}
use Rattle.omi_rep.specs.Look.{Look, and_then, id_address, look_object, look_optional, look_onward}
use Rattle.omi_rep.specs.LookView.{read_task, look_nthreads}
use Rattle.omi_walk.specs.declared.fault.WalkFault.{WalkFault}
use Rattle.omi_walk.specs.declared.tasks.Environment.{Environment}
use Rattle.omi_walk.specs.declared.tasks.Link.{Link}
use Rattle.omi_walk.specs.declared.tasks.Relations.{Relations}
use Rattle.omi_walk.specs.declared.tasks.SeenRelations.{SeenRelations}

module _ (w : List ℕ) (memory : Words) where
  -- the relations of a task. `met` are the addresses of the chain so far, this one included
  abbrev pub look_relations : List ℕ → Id → Look Relations
  look_relations met k =
      let address = id_address w tasks k in
      and_then (read_task w memory k TaskImplicit) (λ implicit.
      and_then (look_object w memory regions address TaskRegion 0) (λ region.
      and_then (read_task w memory k TaskFunction) (λ func.
      and_then (look_optional w memory tasks address TaskGenerating 0) (λ generating.
      and_then (look_onward w memory tasks met address TaskScheduling) (λ scheduling.
      Ok (record {
        implicit = implicit;
        region = record { 0 = region };
        func = func;
        generating = option_map (λ g. record { 0 = g }) generating;
        scheduling = option_map (λ h. record { 0 = h }) scheduling;
      }))))))

  -- the data environment of a task
  abbrev pub look_environment : Id → Look Environment
  look_environment k =
      and_then (read_task w memory k TaskDynamic) (λ dynamic.
      and_then (look_nthreads w memory k) (λ nthreads.
      and_then (read_task w memory k TaskSchedule) (λ schedule.
      and_then (read_task w memory k TaskDevice) (λ device.
      and_then (read_task w memory k TaskFinal) (λ final.
      Ok (record {
        dyn_var = dynamic;
        nthreads = nthreads;
        sched = schedule;
        device = device;
        final_task = final;
      }))))))

abbrev pub relations_seen : Result SeenRelations WalkFault → Result Relations WalkFault
relations_seen (Ok seen) = Ok seen.relations
relations_seen (Err fault) = Err fault

-- the row of a link of a chain
abbrev pub row_of : Result Link WalkFault → Result TaskRow WalkFault
row_of (Ok link) = Ok link.row
row_of (Err fault) = Err fault
