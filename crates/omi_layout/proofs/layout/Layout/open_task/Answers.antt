use Rattle.std.proofs.Common.{◌≡◌, ℕ, zero, suc, [], ◌∷◌, refl, sym, ap, ◌∙◌, arith}
use Rattle.std.proofs.lemmas.List.{get_or_past}
use Rattle.std.proofs.lemmas.List.Elements.{All-from_recursion}
use Rattle.std.specs.Prelude.{slice_index}
use Rattle.omi_script.proofs.RuleLemmas.{Rules-from_accepted}
use Rattle.omi_layout.specs.declared.field.Field.{Field}
use Rattle.omi_layout.specs.declared.field.Field.TheVariants.{TaskLife, TaskImplicit, TaskRegion, TaskThread, TaskFunction, TaskExit, TaskDynamic, TaskNthreadsLength, TaskSchedule, TaskDevice, TaskNthreads}
use Rattle.omi_layout.specs.Field.{tasks}
use Rattle.omi_layout.specs.Memory.{Rec, memory_of}
use Rattle.omi_layout.specs.Named.{number}
use Rattle.omi_layout.specs.OpeningWords.{task_opening}
use Rattle.omi_layout.specs.Plan.{IsEntryOf}
use Rattle.omi_layout.proofs.Arenas.{some_threads, some_regions, some_tasks}
use Rattle.omi_layout.proofs.Filling.{flag_is, later_zero, past_four}
use Rattle.omi_layout.proofs.layout.Layout.open_task.Goals as goal

pub region_at-requires : goal.region_at-requires
region_at-requires c = record { made_by = some_threads c.args.self.now.table c.args.self.now.valid; within = some_regions c.args.self.now.table c.args.self.now.valid }

pub thread_at-requires : goal.thread_at-requires
thread_at-requires c = some_threads c.args.self.now.table c.args.self.now.valid

pub task_at-requires : goal.task_at-requires
task_at-requires c = record { made_by = some_threads c.args.self.now.table c.args.self.now.valid; within = some_tasks c.args.self.now.table c.args.self.now.valid }

pub fill-requires-clause-slot : goal.fill-requires-clause-slot
fill-requires-clause-slot c = record { made_by = some_threads c.args.self.now.table c.args.self.now.valid; within = some_tasks c.args.self.now.table c.args.self.now.valid }

pub fill-requires-clause-entries : goal.fill-requires-clause-entries
fill-requires-clause-entries c =
    All-from_recursion (IsEntryOf c.args.self.now.table 4)
    ((TaskLife, 0, 1) ∷ (TaskImplicit, 0, 1) ∷ (TaskRegion, 0, c.region_at.result) ∷ (TaskThread, 0, c.thread_at.result)
    ∷ (TaskFunction, 0, c.entry_address.result) ∷ (TaskExit, 0, c.exit_frame.result) ∷ (TaskDynamic, 0, c.from.result)
    ∷ (TaskNthreadsLength, 0, c.len.result) ∷ (TaskSchedule, 0, c.word.result) ∷ (TaskDevice, 0, c.from-2.result)
    ∷ (TaskNthreads, 0, c.element.result) ∷ (TaskNthreads, 1, c.element-2.result) ∷ (TaskNthreads, 2, c.element-3.result)
    ∷ (TaskNthreads, 3, c.element-4.result) ∷ [])
    ((refl, omega arith), ((refl, omega arith), ((refl, omega arith), ((refl, omega arith), ((refl, omega arith), ((refl, omega arith), ((refl, omega arith), ((refl, omega arith), ((refl, omega arith), ((refl, omega arith), ((refl, omega arith), ((refl, omega arith), ((refl, omega arith), ((refl, omega arith), tt))))))))))))))

pub returns-clause-opens : goal.returns-clause-opens
returns-clause-opens c = record { words = words }
  where
    -- the elements of nthreads-var
    elements : (j : ℕ)
        → memory_of c.args.self.now.table c.fill.new.image 0 tasks 0 (number TaskNthreads) j ≡ slice_index c.args.p.now.env.nthreads j
    elements zero = ap (λ (r : Rec). r (number TaskNthreads) 0) c.fill.ensures.here ∙ c.element.ensures
    elements (suc zero) = ap (λ (r : Rec). r (number TaskNthreads) 1) c.fill.ensures.here ∙ c.element-2.ensures
    elements (suc (suc zero)) = ap (λ (r : Rec). r (number TaskNthreads) 2) c.fill.ensures.here ∙ c.element-3.ensures
    elements (suc (suc (suc zero))) = ap (λ (r : Rec). r (number TaskNthreads) 3) c.fill.ensures.here ∙ c.element-4.ensures
    elements (suc (suc (suc (suc j)))) =
        ap (λ (r : Rec). r (number TaskNthreads) (suc (suc (suc (suc j))))) c.fill.ensures.here
        ∙ past_four
        (memory_of c.args.self.now.table c.args.image.now 0 tasks 0 (number TaskNthreads)) c.element.result c.element-2.result c.element-3.result c.element-4.result
        (suc (suc (suc (suc j)))) (omega arith)
        ∙ c.requires.zero (number TaskNthreads) (suc (suc (suc (suc j))))
        ∙ sym
        (get_or_past c.args.p.now.env.nthreads (suc (suc (suc (suc j)))) 0 (omega (arith, (Rules-from_accepted c.args.p.now).count.1)))

    words : (f : Field) (at : ℕ)
        → memory_of c.args.self.now.table c.fill.new.image 0 tasks 0 (number f) at
        ≡ task_opening c.args.p.now c.args.self.now.table f at
    words TaskLife zero = ap (λ (r : Rec). r (number TaskLife) 0) c.fill.ensures.here
    words TaskImplicit zero = ap (λ (r : Rec). r (number TaskImplicit) 0) c.fill.ensures.here
    words TaskRegion zero =
        ap (λ (r : Rec). r (number TaskRegion) 0) c.fill.ensures.here ∙ c.region_at.ensures.address
    words TaskThread zero =
        ap (λ (r : Rec). r (number TaskThread) 0) c.fill.ensures.here ∙ c.thread_at.ensures.address
    words TaskFunction zero =
        ap (λ (r : Rec). r (number TaskFunction) 0) c.fill.ensures.here ∙ c.entry_address.ensures
    words TaskExit zero =
        ap (λ (r : Rec). r (number TaskExit) 0) c.fill.ensures.here ∙ c.exit_frame.ensures
    words TaskDynamic zero =
        ap (λ (r : Rec). r (number TaskDynamic) 0) c.fill.ensures.here ∙ c.from.ensures ∙ flag_is c.args.p.now.env.dynamic
    words TaskNthreadsLength zero =
        ap (λ (r : Rec). r (number TaskNthreadsLength) 0) c.fill.ensures.here ∙ c.len.ensures
    words TaskSchedule zero =
        ap (λ (r : Rec). r (number TaskSchedule) 0) c.fill.ensures.here ∙ c.word.ensures
    words TaskDevice zero =
        ap (λ (r : Rec). r (number TaskDevice) 0) c.fill.ensures.here ∙ c.from-2.ensures
    words TaskNthreads at = elements at
    words f zero = ap (λ (r : Rec). r (number f) 0) c.fill.ensures.here ∙ c.requires.zero (number f) 0
    words f (suc at) = later_zero c.fill.ensures c.requires.zero (number f) at refl
