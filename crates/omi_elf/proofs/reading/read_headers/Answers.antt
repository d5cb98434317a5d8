use Rattle.std.proofs.Common.{◌≡◌, Some, sym, ap, ◌∙◌, arith}
use Rattle.omi_elf.specs.Header.{order_of, e_phoff, e_phnum, headers_from}
use Rattle.omi_elf.proofs.Tables.{headers_from-none}
use Rattle.omi_elf.proofs.Judgements.{no_headers, cut_headers, whole_headers}
use Rattle.omi_elf.proofs.reading.read_headers.Goals.{then-len-header-via-then-len-header, then-len-header-via-else-len-header+then-len-header-2}
use Rattle.omi_elf.proofs.reading.read_headers.Goals as goal

pub returns-then-header-eq0-clause-row : goal.returns-then-header-eq0-clause-row
returns-then-header-eq0-clause-row g c = λ bytes told says.
    no_headers bytes (sym says.count ∙ c.if-header-eq0.true)

pub returns-then-header-eq0-clause-headers : goal.returns-then-header-eq0-clause-headers
returns-then-header-eq0-clause-headers g c = λ bytes told says.
    let none : e_phnum bytes ≡ 0 = sym says.count ∙ c.if-header-eq0.true in
    c.new.ensures.items
    ∙ sym (headers_from-none (order_of bytes) bytes (e_phoff bytes))
    ∙ ap (headers_from (order_of bytes) bytes (e_phoff bytes)) (sym none)

pub returns-then-len-header-clause-row : goal.returns-then-len-header-clause-row
returns-then-len-header-clause-row g c = λ bytes told says.
    let long = c.requires.len (Some bytes) told in
    rw (c.into.ensures, c.short.ensures)
    (elim c.then-len-header.branch [
      | then-len-header-via-then-len-header w ↦ cut_headers bytes c.args.len long (omega (arith, says.count)) (omega (arith, says.count, says.place))
      | then-len-header-via-else-len-header+then-len-header-2 w ↦ cut_headers bytes c.args.len long (omega (arith, says.count)) (omega (arith, says.count, says.place, c.from-size.ensures))
    ])

pub returns-clause-row : goal.returns-clause-row
returns-clause-row g c = λ bytes told says.
    let long = c.requires.len (Some bytes) told in
    whole_headers bytes (omega (arith, says.count, says.place, c.from-size.ensures, long))
