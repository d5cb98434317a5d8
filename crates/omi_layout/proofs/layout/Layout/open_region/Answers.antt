use Rattle.std.proofs.Common.{◌≡◌, ℕ, zero, suc, [], ◌∷◌, refl, ap, ◌∙◌, arith}
use Rattle.std.proofs.lemmas.List.Elements.{All-from_recursion}
use Rattle.omi_layout.specs.declared.field.Field.{Field}
use Rattle.omi_layout.specs.declared.field.Field.TheVariants.{RegionLife, RegionFunction, RegionSize, RegionTeam}
use Rattle.omi_layout.specs.Field.{regions}
use Rattle.omi_layout.specs.Memory.{Rec, memory_of}
use Rattle.omi_layout.specs.Named.{number}
use Rattle.omi_layout.specs.OpeningWords.{region_opening}
use Rattle.omi_layout.specs.Plan.{IsEntryOf}
use Rattle.omi_layout.proofs.Arenas.{some_threads, some_regions, some_tasks}
use Rattle.omi_layout.proofs.Filling.{later_zero}
use Rattle.omi_layout.proofs.layout.Layout.open_region.Goals as goal

pub task_at-requires : goal.task_at-requires
task_at-requires c = record { made_by = some_threads c.args.self.now.table c.args.self.now.valid; within = some_tasks c.args.self.now.table c.args.self.now.valid }

pub region_at-requires : goal.region_at-requires
region_at-requires c = record { made_by = some_threads c.args.self.now.table c.args.self.now.valid; within = some_regions c.args.self.now.table c.args.self.now.valid }

pub fill-requires-clause-slot : goal.fill-requires-clause-slot
fill-requires-clause-slot c = record { made_by = some_threads c.args.self.now.table c.args.self.now.valid; within = some_regions c.args.self.now.table c.args.self.now.valid }

pub fill-requires-clause-entries : goal.fill-requires-clause-entries
fill-requires-clause-entries c =
    All-from_recursion (IsEntryOf c.args.self.now.table 3)
    ((RegionLife, 0, 1) ∷ (RegionFunction, 0, c.entry_address.result) ∷ (RegionSize, 0, 1) ∷ (RegionTeam, 0, c.task_at.result) ∷ [])
    ((refl, omega arith), ((refl, omega arith), ((refl, omega arith), ((refl, some_threads c.args.self.now.table c.args.self.now.valid), tt))))

pub returns-clause-opens : goal.returns-clause-opens
returns-clause-opens c = record { words = words }
  where
    words : (f : Field) (at : ℕ)
        → memory_of c.args.self.now.table c.fill.new.image 0 regions 0 (number f) at
        ≡ region_opening c.args.p.now c.args.self.now.table f at
    words RegionLife zero = ap (λ (r : Rec). r 13 0) c.fill.ensures.here
    words RegionFunction zero = ap (λ (r : Rec). r 14 0) c.fill.ensures.here ∙ c.entry_address.ensures
    words RegionSize zero = ap (λ (r : Rec). r 17 0) c.fill.ensures.here
    words RegionTeam zero = ap (λ (r : Rec). r 24 0) c.fill.ensures.here ∙ c.task_at.ensures.address
    words f zero = ap (λ (r : Rec). r (number f) 0) c.fill.ensures.here ∙ c.requires.zero (number f) 0
    words RegionLife (suc at) = later_zero c.fill.ensures c.requires.zero (number RegionLife) at refl
    words f (suc at) = later_zero c.fill.ensures c.requires.zero (number f) at refl
