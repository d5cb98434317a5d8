use Rattle.std.proofs.Common.{sym, ap, subst, ◌∙◌}
use Rattle.std.specs.Prelude.{IfOk}
use Rattle.std.proofs.lemmas.Result.{err_from_is_err_and}
use Rattle.omi_read.specs.Holding.{IsLength}
use Rattle.omi_page.proofs.OpenedFiles.{core_is_read, core_is_refused, free_fault}
use Rattle.omi_page.proofs.formats.read_contents.Goals as goal

pub read_elf_core-requires-clause-bytes : goal.read_elf_core-requires-clause-bytes
read_elf_core-requires-clause-bytes g c = λ bytes told.
    let before = sym (ap (λ t. t c.args.name.now) (c.in_ok-elf.ensures.same ∙ c.in_ok-len.ensures.same)) ∙ told in
    c.in_ok-len.ensures.are_bytes bytes before

pub returns-then-elf-clause-contents : goal.returns-then-elf-clause-contents
returns-then-elf-clause-contents g c = λ bytes told.
    let second = ap (λ t. t c.args.name.now) c.in_ok-len.ensures.same ∙ told in
    let third = ap (λ t. t c.args.name.now) c.in_ok-elf.ensures.same ∙ second in
    c.read_elf_core.ensures.contents bytes third (sym (c.in_ok-elf.ensures.begins bytes second) ∙ c.if-elf.true)

pub returns-then-elf-clause-fault : goal.returns-then-elf-clause-fault
returns-then-elf-clause-fault g c = λ bytes told.
    let second = ap (λ t. t c.args.name.now) c.in_ok-len.ensures.same ∙ told in
    let third = ap (λ t. t c.args.name.now) c.in_ok-elf.ensures.same ∙ second in
    c.read_elf_core.ensures.fault bytes third (sym (c.in_ok-elf.ensures.begins bytes second) ∙ c.if-elf.true)

pub returns-else-elf-clause-contents : goal.returns-else-elf-clause-contents
returns-else-elf-clause-contents g c = λ bytes told.
    let second = ap (λ t. t c.args.name.now) c.in_ok-len.ensures.same ∙ told in
    let third = ap (λ t. t c.args.name.now) c.in_ok-elf.ensures.same ∙ second in
    core_is_read c.read_core.result bytes (c.in_ok-len.ensures.are_bytes bytes told)
    (sym (c.in_ok-elf.ensures.begins bytes second) ∙ c.if-elf.false) (c.read_core.ensures.read bytes third)

pub returns-else-elf-clause-fault : goal.returns-else-elf-clause-fault
returns-else-elf-clause-fault g c = λ bytes told.
    let second = ap (λ t. t c.args.name.now) c.in_ok-len.ensures.same ∙ told in
    let third = ap (λ t. t c.args.name.now) c.in_ok-elf.ensures.same ∙ second in
    core_is_refused c.read_core.result bytes
    (sym (c.in_ok-elf.ensures.begins bytes second) ∙ c.if-elf.false) (c.read_core.ensures.read bytes third)

pub returns-in_err-len-clause-fault : goal.returns-in_err-len-clause-fault
returns-in_err-len-clause-fault g c = λ bytes told.
    let p = err_from_is_err_and c.from_residual.result c.from_residual.ensures.1 in
    rw (p.1, p.2) (free_fault c.in_err-len.field-0.0 bytes (c.in_err-len.ensures.free bytes told))

pub returns-in_err-elf-clause-fault : goal.returns-in_err-elf-clause-fault
returns-in_err-elf-clause-fault g c = λ bytes told.
    let p = err_from_is_err_and c.from_residual-in_err-elf.result c.from_residual-in_err-elf.ensures.1 in
    rw (p.1, p.2, c.in_err-elf.ensures.failed) tt

pub returns-then-elf-clause-len : goal.returns-then-elf-clause-len
returns-then-elf-clause-len g c =
    let same = ap (λ t. t c.args.name.now) (c.in_ok-elf.ensures.same ∙ c.in_ok-len.ensures.same) in
    subst (λ t. IfOk c.read_elf_core.result (λ x. IsLength t x.len)) same c.read_elf_core.ensures.len

pub returns-else-elf-clause-len : goal.returns-else-elf-clause-len
returns-else-elf-clause-len g c =
    let same = ap (λ t. t c.args.name.now) (c.in_ok-elf.ensures.same ∙ c.in_ok-len.ensures.same) in
    subst (λ t. IfOk c.read_core.result (λ x. IsLength t x.len)) same c.read_core.ensures.len
