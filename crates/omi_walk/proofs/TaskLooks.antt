-- The look at a task is a look at its relations, at its words, and at its data environment.
use Rattle.std.proofs.Common.{◌≡◌, ◌∙◌, ℕ, List, refl}
use Rattle.std.specs.Option.{option_map}
use Rattle.std.specs.Prelude.{Ok, Err}
use Rattle.omi_word.specs.Words.{Words}
use Rattle.omi_layout.specs.declared.field.Field.TheVariants.{TaskImplicit, TaskRegion, TaskFunction, TaskGenerating, TaskScheduling, TaskExit, TaskEnter, TaskDynamic, TaskSchedule, TaskDevice, TaskFinal, TaskTool}
use Rattle.omi_layout.specs.Field.{regions, tasks}
use Rattle.omi_model.specs.declared.id.Id.{Id}
use Rattle.omi_model.specs.declared.view.TaskRow.{TaskRow}
use Rattle.omi_rep.specs.Look.{Look, and_then, id_address, look_object, look_optional, look_onward}
use Rattle.omi_rep.specs.LookView.{look_task, look_nthreads, read_task}
use Rattle.omi_walk.specs.declared.tasks.Environment.{Environment}
use Rattle.omi_walk.specs.declared.tasks.Relations.{Relations}
use Rattle.omi_walk.specs.Parts.{look_frames}
use Rattle.omi_walk.specs.Tasks.{look_relations, look_environment}

-- two looks as one
as_two : {A B R Z : Type 0} (a : Look A) (b : Look B) (part : A → B → R) (more : R → Look Z)
    → and_then (and_then a (λ x. and_then b (λ y. Ok (part x y)))) more ≡ and_then a (λ x. and_then b (λ y. more (part x y)))
unfolding and_then
as_two (Err e) b part more = refl
as_two (Ok x) (Err e) part more = refl
as_two (Ok x) (Ok y) part more = refl

-- five looks as one
as_five : {A B C D E R Z : Type 0} (a : Look A) (b : Look B) (c : Look C) (d : Look D) (e : Look E) (part : A → B → C → D → E → R) (more : R → Look Z)
    → and_then
    (and_then a (λ v. and_then b (λ w. and_then c (λ x. and_then d (λ y. and_then e (λ z. Ok (part v w x y z))))))) more
    ≡ and_then a
    (λ v. and_then b (λ w. and_then c (λ x. and_then d (λ y. and_then e (λ z. more (part v w x y z))))))
unfolding and_then
as_five (Err f) b c d e part more = refl
as_five (Ok v) (Err f) c d e part more = refl
as_five (Ok v) (Ok w) (Err f) d e part more = refl
as_five (Ok v) (Ok w) (Ok x) (Err f) e part more = refl
as_five (Ok v) (Ok w) (Ok x) (Ok y) (Err f) part more = refl
as_five (Ok v) (Ok w) (Ok x) (Ok y) (Ok z) part more = refl

-- the row of a task, from its parts
abbrev pub row_from : ℕ → Id → Relations → ℕ × ℕ → ℕ → Environment → TaskRow
row_from i k relations frames tool environment = record {
  task = record { 0 = k };
  thread = i;
  implicit = relations.implicit;
  region = relations.region;
  func = relations.func;
  generating = relations.generating;
  scheduling = relations.scheduling;
  exit = frames.0;
  enter = frames.1;
  tool = tool;
  dyn_var = environment.dyn_var;
  nthreads = environment.nthreads;
  sched = environment.sched;
  device = environment.device;
  final_task = environment.final_task;
}

module _ (w : List ℕ) (memory : Words) (met : List ℕ) (i : ℕ) (k : Id) where
  -- the look at a task by its parts
  abbrev pub look_in_parts : Look TaskRow
  look_in_parts =
      and_then (look_relations w memory met k) (λ relations.
      and_then (look_frames w memory k) (λ frames.
      and_then (read_task w memory k TaskTool) (λ tool.
      and_then (look_environment w memory k) (λ environment.
      Ok (row_from i k relations frames tool environment)))))

  environment_part : (relations : Relations) (frames : ℕ × ℕ) (tool : ℕ)
      → and_then (look_environment w memory k)
      (λ environment. Ok (row_from i k relations frames tool environment))
      ≡ and_then (read_task w memory k TaskDynamic) (λ dynamic. and_then (look_nthreads w memory k) (λ nthreads. and_then (read_task w memory k TaskSchedule) (λ schedule.
      and_then (read_task w memory k TaskDevice) (λ device. and_then (read_task w memory k TaskFinal) (λ final.
      Ok (row_from i k relations frames tool (record { dyn_var = dynamic; nthreads = nthreads; sched = schedule; device = device; final_task = final })))))))
  environment_part relations frames tool =
      as_five (read_task w memory k TaskDynamic) (look_nthreads w memory k)
      (read_task w memory k TaskSchedule) (read_task w memory k TaskDevice) (read_task w memory k TaskFinal)
      (λ dynamic nthreads schedule device final. record { dyn_var = dynamic; nthreads = nthreads; sched = schedule; device = device; final_task = final })
      (λ environment. Ok (row_from i k relations frames tool environment))

  words_part : (relations : Relations)
      → and_then (look_frames w memory k)
      (λ frames. and_then (read_task w memory k TaskTool) (λ tool. and_then (look_environment w memory k) (λ environment. Ok (row_from i k relations frames tool environment))))
      ≡ and_then (read_task w memory k TaskExit) (λ exit. and_then (read_task w memory k TaskEnter) (λ enter. and_then (read_task w memory k TaskTool) (λ tool.
      and_then (read_task w memory k TaskDynamic) (λ dynamic. and_then (look_nthreads w memory k) (λ nthreads. and_then (read_task w memory k TaskSchedule) (λ schedule.
      and_then (read_task w memory k TaskDevice) (λ device. and_then (read_task w memory k TaskFinal) (λ final.
      Ok (row_from i k relations (exit, enter) tool (record { dyn_var = dynamic; nthreads = nthreads; sched = schedule; device = device; final_task = final }))))))))))
  words_part relations =
      as_two (read_task w memory k TaskExit) (read_task w memory k TaskEnter) (λ exit enter. (exit, enter))
      (λ frames. and_then (read_task w memory k TaskTool) (λ tool. and_then (look_environment w memory k) (λ environment. Ok (row_from i k relations frames tool environment))))
      ∙ λ j. and_then (read_task w memory k TaskExit) (λ exit. and_then (read_task w memory k TaskEnter) (λ enter. and_then (read_task w memory k TaskTool) (λ tool. environment_part relations (exit, enter) tool j)))

  pub parts_of_task : look_in_parts ≡ look_task w memory met i k
  parts_of_task =
      as_five (read_task w memory k TaskImplicit)
      (look_object w memory regions (id_address w tasks k) TaskRegion 0) (read_task w memory k TaskFunction)
      (look_optional w memory tasks (id_address w tasks k) TaskGenerating 0)
      (look_onward w memory tasks met (id_address w tasks k) TaskScheduling)
      (λ implicit region func generating scheduling. record {
        implicit = implicit;
        region = record { 0 = region };
        func = func;
        generating = option_map (λ g. record { 0 = g }) generating;
        scheduling = option_map (λ h. record { 0 = h }) scheduling;
      })
      (λ relations. and_then (look_frames w memory k) (λ frames. and_then (read_task w memory k TaskTool) (λ tool. and_then (look_environment w memory k) (λ environment. Ok (row_from i k relations frames tool environment)))))
      ∙ λ j. and_then (read_task w memory k TaskImplicit) (λ implicit.
      and_then (look_object w memory regions (id_address w tasks k) TaskRegion 0) (λ region.
      and_then (read_task w memory k TaskFunction) (λ func.
      and_then (look_optional w memory tasks (id_address w tasks k) TaskGenerating 0) (λ generating.
      and_then (look_onward w memory tasks met (id_address w tasks k) TaskScheduling) (λ scheduling.
      words_part (record {
        implicit = implicit;
        region = record { 0 = region };
        func = func;
        generating = option_map (λ g. record { 0 = g }) generating;
        scheduling = option_map (λ h. record { 0 = h }) scheduling;
      }) j)))))
