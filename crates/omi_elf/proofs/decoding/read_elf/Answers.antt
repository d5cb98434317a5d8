use Rattle.std.proofs.Common.{sym, ap, ◌∙◌}
use Rattle.std.proofs.lemmas.Result.{err_from_is_err_and}
use Rattle.omi_elf.proofs.Judgements.{header_fails, headers_fail, rest_fails, none_fails}
use Rattle.omi_elf.proofs.decoding.read_elf.Goals as goal

pub returns-in_err-header-clause-rows : goal.returns-in_err-header-clause-rows
returns-in_err-header-clause-rows g c = λ bytes told.
    let p = err_from_is_err_and c.from_residual.result c.from_residual.ensures.1 in
    rw (p.1, p.2) (header_fails bytes c.in_err-header.field-0.0 (c.in_err-header.ensures.rows bytes told))

pub returns-in_err-headers-clause-rows : goal.returns-in_err-headers-clause-rows
returns-in_err-headers-clause-rows g c = λ bytes told.
    let then = ap (λ t. t c.args.name.now) c.read_header.ensures.same ∙ told in
    let says = c.in_ok-header.ensures.says bytes told in
    let p = err_from_is_err_and c.from_residual-in_err-headers.result c.from_residual-in_err-headers.ensures.1 in
    rw (p.1, p.2)
    (headers_fail bytes c.in_err-headers.field-0.0 (c.in_ok-header.ensures.rows bytes told) (c.in_err-headers.ensures.row bytes then says))

pub contents-requires-clause-order : goal.contents-requires-clause-order
contents-requires-clause-order g c = λ bytes told.
    let entry = sym (ap (λ t. t c.args.name.now) (c.read_headers.ensures.same ∙ c.read_header.ensures.same)) ∙ told in
    (c.in_ok-header.ensures.says bytes entry).order_is

pub contents-requires-clause-headers : goal.contents-requires-clause-headers
contents-requires-clause-headers g c = λ bytes told.
    let entry = sym (ap (λ t. t c.args.name.now) (c.read_headers.ensures.same ∙ c.read_header.ensures.same)) ∙ told in
    let then = sym (ap (λ t. t c.args.name.now) c.read_headers.ensures.same) ∙ told in
    c.deref.ensures.value ∙ c.in_ok-headers.ensures.headers bytes then (c.in_ok-header.ensures.says bytes entry)

pub returns-in_err-contexts-clause-rows : goal.returns-in_err-contexts-clause-rows
returns-in_err-contexts-clause-rows g c = λ bytes told.
    let second = ap (λ t. t c.args.name.now) c.read_header.ensures.same ∙ told in
    let third = ap (λ t. t c.args.name.now) c.read_headers.ensures.same ∙ second in
    let says = c.in_ok-header.ensures.says bytes told in
    let p = err_from_is_err_and c.from_residual-in_err-contexts.result c.from_residual-in_err-contexts.ensures.1 in
    rw (p.1, p.2)
    (rest_fails bytes c.in_err-contexts.field-0.0 (c.in_ok-header.ensures.rows bytes told) (c.in_ok-headers.ensures.row bytes second says)
    (c.in_err-contexts.ensures.rows bytes third))

pub returns-clause-rows : goal.returns-clause-rows
returns-clause-rows g c = λ bytes told.
    let second = ap (λ t. t c.args.name.now) c.read_header.ensures.same ∙ told in
    let third = ap (λ t. t c.args.name.now) c.read_headers.ensures.same ∙ second in
    let says = c.in_ok-header.ensures.says bytes told in
    none_fails bytes (c.in_ok-header.ensures.rows bytes told) (c.in_ok-headers.ensures.row bytes second says) (c.in_ok-contexts.ensures.rows bytes third)

pub returns-clause-order : goal.returns-clause-order
returns-clause-order g c = λ bytes told. (c.in_ok-header.ensures.says bytes told).order_is

pub returns-clause-contexts : goal.returns-clause-contexts
returns-clause-contexts g c = λ bytes told.
    c.in_ok-contexts.ensures.contexts bytes (ap (λ t. t c.args.name.now) (c.read_headers.ensures.same ∙ c.read_header.ensures.same) ∙ told)

pub returns-clause-segments : goal.returns-clause-segments
returns-clause-segments g c = λ bytes told.
    c.in_ok-contexts.ensures.segments bytes (ap (λ t. t c.args.name.now) (c.read_headers.ensures.same ∙ c.read_header.ensures.same) ∙ told)
