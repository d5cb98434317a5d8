use Rattle.std.proofs.Common.{◌≡◌, ◌∙◌, ℕ, Bool, cond, sym, ap}
use Rattle.std.specs.Prelude.{is_some}
use Rattle.omi_layout.specs.declared.field.Field.{Field}
use Rattle.omi_layout.specs.declared.field.Field.TheVariants.{RegionEnclosing, TaskScheduling}
use Rattle.omi_layout.specs.Field.{regions}
use Rattle.omi_layout.specs.Named.{number}
use Rattle.omi_rep.specs.Look.{slot_at}
use Rattle.omi_rep.proofs.Slots.{slot_same}
use Rattle.omi_audit.specs.declared.stop.Stop.TheVariants.{Fails}
use Rattle.omi_audit.proofs.chains.comes_back.Goals as goal
use Rattle.omi_audit.proofs.chains.comes_back.Goals.{then-is_some, else-is_some}

pub returns-clause-fails : goal.returns-clause-fails
returns-clause-fails c = λ memory.
    let a = c.args.addr in
    let place : is_some (slot_at c.args.layout.now.table regions a) ≡ c.is_some.result =
    ap is_some (slot_same c.args.layout.now.table regions a c.region_of.result c.region_of.ensures) ∙ sym c.is_some.ensures in
    let number_is = ap (λ n. Fails a n c.if-is_some.field.1) c.number.ensures.value in
    elim c.if-is_some.branch [
      | then-is_some u ↦
          number_is ∙ ap (λ (g : Field × ℕ). Fails a (number g.0) g.1) u.field-is
          ∙ sym (ap (λ (d : Bool). Fails a (number (cond d RegionEnclosing TaskScheduling)) (cond d 8 7)) (place ∙ u.if-is_some.true))
      | else-is_some u ↦
          number_is ∙ ap (λ (g : Field × ℕ). Fails a (number g.0) g.1) u.field-is
          ∙ sym (ap (λ (d : Bool). Fails a (number (cond d RegionEnclosing TaskScheduling)) (cond d 8 7)) (place ∙ u.if-is_some.false))
    ]
