use Rattle.std.proofs.Common.{◌≡◌, ℕ, zero, suc, cond, refl, ap, sym, ◌∙◌}
use Rattle.omi_numbers.specs.declared.states.TheConstants.{WORK_SERIAL, IDLE}
use Rattle.omi_layout.specs.declared.field.Field.{Field}
use Rattle.omi_layout.specs.declared.field.Field.TheVariants.{ThreadLife, ThreadNative, ThreadCurrent, ThreadState}
use Rattle.omi_layout.specs.Field.{tasks, threads}
use Rattle.omi_layout.specs.Memory.{Rec, memory_of}
use Rattle.omi_layout.specs.Named.{number}
use Rattle.omi_layout.specs.OpeningWords.{thread_opening}
use Rattle.omi_layout.specs.Place.{slot_address}
use Rattle.omi_layout.proofs.Filling.{later_zero, not_first}
use Rattle.omi_layout.proofs.layout.Layout.open_worker.Goals as goal

pub returns-clause-opens : goal.returns-clause-opens
returns-clause-opens c = record { words = words }
  where
    words : (f : Field) (at : ℕ)
        → memory_of c.args.self.now.table c.fill.new.image c.args.i threads 0 (number f) at
        ≡ thread_opening c.args.self.now.table c.args.i f at
    words ThreadLife zero =
        ap (λ (r : Rec). r 7 0) c.fill.ensures.here
        ∙ c.requires.zero 7 0
        ∙ sym (ap (λ b. cond b 1 0) (not_first c.args.i c.requires.worker))
    words ThreadNative zero = ap (λ (r : Rec). r 8 0) c.fill.ensures.here ∙ c.native_id.ensures
    words ThreadCurrent zero =
        ap (λ (r : Rec). r 9 0) c.fill.ensures.here
        ∙ c.requires.zero 9 0
        ∙ sym (ap (λ b. cond b (slot_address c.args.self.now.table tasks 0 0) 0) (not_first c.args.i c.requires.worker))
    words ThreadState zero =
        ap (λ (r : Rec). r 10 0) c.fill.ensures.here
        ∙ c.from.ensures
        ∙ sym (ap (λ b. cond b WORK_SERIAL IDLE) (not_first c.args.i c.requires.worker))
    words f zero = ap (λ (r : Rec). r (number f) 0) c.fill.ensures.here ∙ c.requires.zero (number f) 0
    words ThreadLife (suc at) = later_zero c.fill.ensures c.requires.zero (number ThreadLife) at refl
    words f (suc at) = later_zero c.fill.ensures c.requires.zero (number f) at refl
