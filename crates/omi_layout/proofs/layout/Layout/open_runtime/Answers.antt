use Rattle.std.proofs.Common.{◌≡◌, ℕ, zero, suc, refl, ap, ◌∙◌}
use Rattle.omi_layout.specs.declared.field.Field.{Field}
use Rattle.omi_layout.specs.declared.field.Field.TheVariants.{RuntimeVersion, RuntimeThreads, RuntimeProcs, RuntimeDebug, RuntimeMaxActive}
use Rattle.omi_layout.specs.Field.{runtime}
use Rattle.omi_layout.specs.Memory.{Rec, memory_of}
use Rattle.omi_layout.specs.Named.{number}
use Rattle.omi_layout.specs.OpeningWords.{runtime_opening}
use Rattle.omi_layout.proofs.Filling.{flag_is, later_zero}
use Rattle.omi_layout.proofs.layout.Layout.open_runtime.Goals as goal

pub returns-clause-opens : goal.returns-clause-opens
returns-clause-opens c = record { words = words }
  where
    words : (f : Field) (at : ℕ)
        → memory_of c.args.self.now.table c.fill.new.image 0 runtime 0 (number f) at ≡ runtime_opening c.args.p.now f at
    words RuntimeVersion zero = ap (λ (r : Rec). r 1 0) c.fill.ensures.here
    words RuntimeThreads zero = ap (λ (r : Rec). r 2 0) c.fill.ensures.here ∙ c.from.ensures
    words RuntimeProcs zero = ap (λ (r : Rec). r 3 0) c.fill.ensures.here ∙ c.from-2.ensures
    words RuntimeDebug zero =
        ap (λ (r : Rec). r 4 0) c.fill.ensures.here ∙ c.from-3.ensures ∙ flag_is c.args.p.now.env.debug
    words RuntimeMaxActive zero = ap (λ (r : Rec). r 5 0) c.fill.ensures.here ∙ c.from-4.ensures
    words f zero = ap (λ (r : Rec). r (number f) 0) c.fill.ensures.here ∙ c.requires.zero (number f) 0
    words RuntimeVersion (suc at) = later_zero c.fill.ensures c.requires.zero (number RuntimeVersion) at refl
    words f (suc at) = later_zero c.fill.ensures c.requires.zero (number f) at refl
