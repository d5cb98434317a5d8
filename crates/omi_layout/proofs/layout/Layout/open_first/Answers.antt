use Rattle.std.proofs.Common.{◌≡◌, ℕ, zero, suc, refl, ap, ◌∙◌}
use Rattle.omi_layout.specs.declared.field.Field.{Field}
use Rattle.omi_layout.specs.declared.field.Field.TheVariants.{ThreadLife, ThreadNative, ThreadCurrent}
use Rattle.omi_layout.specs.Field.{threads}
use Rattle.omi_layout.specs.Memory.{Rec, memory_of}
use Rattle.omi_layout.specs.Named.{number}
use Rattle.omi_layout.specs.OpeningWords.{thread_opening}
use Rattle.omi_layout.proofs.Arenas.{some_threads, some_tasks}
use Rattle.omi_layout.proofs.Filling.{later_zero}
use Rattle.omi_layout.proofs.layout.Layout.open_first.Goals as goal

pub task_at-requires : goal.task_at-requires
task_at-requires c = record { made_by = some_threads c.args.self.now.table c.args.self.now.valid; within = some_tasks c.args.self.now.table c.args.self.now.valid }

pub returns-clause-opens : goal.returns-clause-opens
returns-clause-opens c = record { words = words }
  where
    words : (f : Field) (at : ℕ)
        → memory_of c.args.self.now.table c.fill.new.image 0 threads 0 (number f) at ≡ thread_opening c.args.self.now.table 0 f at
    words ThreadLife zero = ap (λ (r : Rec). r 7 0) c.fill.ensures.here
    words ThreadNative zero = ap (λ (r : Rec). r 8 0) c.fill.ensures.here
    words ThreadCurrent zero = ap (λ (r : Rec). r 9 0) c.fill.ensures.here ∙ c.task_at.ensures.address
    words f zero = ap (λ (r : Rec). r (number f) 0) c.fill.ensures.here ∙ c.requires.zero (number f) 0
    words ThreadLife (suc at) = later_zero c.fill.ensures c.requires.zero (number ThreadLife) at refl
    words f (suc at) = later_zero c.fill.ensures c.requires.zero (number f) at refl
