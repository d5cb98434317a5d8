use Rattle.std.proofs.Common.{◌≡◌, ◌≢◌, ◌-◌, ◌*◌, ◌/◌, ◌%◌, Some, sym, subst, ap₂, ◌∙◌, arith}
use Rattle.omi_layout.specs.Place.{IsRecordAt}
use Rattle.omi_layout.specs.Table.{size, place}
use Rattle.omi_layout.proofs.Arenas.{few_of_valid, small, positive}
use Rattle.omi_layout.proofs.Finding.{none_between, one_found}
use Rattle.omi_layout.proofs.layout.Layout.index_at.Goals as goal

pub overflow_mul-bytes : goal.overflow_mul-bytes
overflow_mul-bytes c =
    omega
    (arith, c.size-bytes.ensures, small c.args.self.now.table c.args.self.now.valid.inside c.args.p c.requires)

pub nonzero_div-index : goal.nonzero_div-index
nonzero_div-index c =
    omega
    (arith, c.size-bytes.ensures, positive c.args.self.now.table c.args.self.now.valid.inside c.args.p c.requires)

pub nonzero_rem-rest : goal.nonzero_rem-rest
nonzero_rem-rest c =
    omega
    (arith, c.size-bytes.ensures, positive c.args.self.now.table c.args.self.now.valid.inside c.args.p c.requires)

pub returns-then-rest-ne0 : goal.returns-then-rest-ne0
returns-then-rest-ne0 c =
    none_between c.args.self.now.table c.args.p c.args.addr
    (positive c.args.self.now.table c.args.self.now.valid.inside c.args.p c.requires)
    (subst (λ a. (c.args.addr - a) % (8 * size c.args.self.now.table c.args.p) ≢ 0) c.place-first.ensures
    (subst (λ s. (c.args.addr - c.place-first.result) % (8 * s) ≢ 0) c.size-bytes.ensures c.if-rest-ne0.true))

pub records-requires : goal.records-requires
records-requires c = few_of_valid c.args.self.now.table c.args.self.now.valid c.args.p c.requires

pub returns-then-index-records : goal.returns-then-index-records
returns-then-index-records c =
    let w = c.args.self.now.table in
    let h = positive w c.args.self.now.valid.inside c.args.p c.requires in
    let first = c.place-first.ensures in
    let words = c.size-bytes.ensures in
    let quotient : (c.args.addr - c.place-first.result) / (8 * c.size-bytes.result) ≡ (c.args.addr - place w c.args.p) / (8 * size w c.args.p) =
    ap₂ (λ a s. (c.args.addr - a) / (8 * s)) first words in
    let rest : (c.args.addr - c.place-first.result) % (8 * c.size-bytes.result) ≡ (c.args.addr - place w c.args.p) % (8 * size w c.args.p) =
    ap₂ (λ a s. (c.args.addr - a) % (8 * s)) first words in
    subst (λ q. IsRecordAt w c.args.p c.args.addr (Some q)) (sym quotient)
    (one_found w c.args.p c.args.addr h (omega (arith, first, c.if-addr-first.false)) (sym rest ∙ c.if-rest-ne0.false)
    (omega (arith, quotient, c.records.ensures, c.if-index-records.true)))
