use Rattle.std.proofs.Common.{◌/◌, length, take, sym, ap, ◌∙◌, arith}
use Rattle.std.proofs.lemmas.List.{length-take-le}
use Rattle.omi_elf.proofs.Within.{front_piece}
use Rattle.omi_elf.proofs.Tables.{length-numbers_from}
use Rattle.omi_elf.proofs.Ids.{ids_read, ids_row, fallen_row}
use Rattle.omi_elf.proofs.gathering.ids_of.Goals as goal

pub returns-clause-ids : goal.returns-clause-ids
returns-clause-ids g c = λ bytes told d.
    ids_read c.args.order bytes _ c.args.note _ d
    (front_piece bytes c.front.new.to c.args.note.description c.in_ok-count.count (omega (arith, c.in_ok-count.ensures.count, c.in_ok-count.ensures.length)) (c.in_ok-count.ensures.bytes bytes told))
    (length-take-le c.in_ok-count.count c.front.new.to (omega (arith, c.in_ok-count.ensures.count, c.in_ok-count.ensures.length)) ∙ omega (arith, c.in_ok-count.ensures.count, c.requires.within)) c.in_ok-ids.ensures

pub returns-clause-row : goal.returns-clause-row
returns-clause-row g c = λ bytes told o d.
    ids_row c.args.order bytes c.args.note.at _ o (omega (arith, d.size)) (omega (arith, d.size))
    (ids_read c.args.order bytes _ c.args.note _ d
    (front_piece bytes c.front.new.to c.args.note.description c.in_ok-count.count (omega (arith, c.in_ok-count.ensures.count, c.in_ok-count.ensures.length)) (c.in_ok-count.ensures.bytes bytes told))
    (length-take-le c.in_ok-count.count c.front.new.to (omega (arith, c.in_ok-count.ensures.count, c.in_ok-count.ensures.length)) ∙ omega (arith, c.in_ok-count.ensures.count, c.requires.within)) c.in_ok-ids.ensures)
    (sym c.rise.ensures ∙ c.if-not-rise.false)

pub returns-then-not-rise-clause-row : goal.returns-then-not-rise-clause-row
returns-then-not-rise-clause-row g c = λ bytes told o d.
    fallen_row c.args.order bytes c.args.note.at c.args.note.description _ o (omega (arith, d.size)) (omega (arith, d.size)) d.place
    (ids_read c.args.order bytes _ c.args.note _ d
    (front_piece bytes c.front.new.to c.args.note.description c.in_ok-count.count (omega (arith, c.in_ok-count.ensures.count, c.in_ok-count.ensures.length)) (c.in_ok-count.ensures.bytes bytes told))
    (length-take-le c.in_ok-count.count c.front.new.to (omega (arith, c.in_ok-count.ensures.count, c.in_ok-count.ensures.length)) ∙ omega (arith, c.in_ok-count.ensures.count, c.requires.within)) c.in_ok-ids.ensures)
    (sym c.rise.ensures ∙ c.if-not-rise.true)

pub returns-clause-few : goal.returns-clause-few
returns-clause-few g c =
    let long = length-take-le c.in_ok-count.count c.front.new.to (omega (arith, c.in_ok-count.ensures.count, c.in_ok-count.ensures.length)) in
    let count = ap length c.in_ok-ids.ensures ∙ length-numbers_from c.args.order (take c.in_ok-count.count c.front.new.to) 0 (length (take c.in_ok-count.count c.front.new.to) / 8) in
    omega (arith, count, long, c.in_ok-count.ensures.count, c.in_ok-count.ensures.length)
