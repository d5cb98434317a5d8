use Rattle.std.proofs.Common.{Some, arith, ap, ◌∙◌}
use Rattle.std.proofs.lemmas.Result.{err_from_is_err_and}
use Rattle.omi_read.specs.Holding.{Holds}
use Rattle.omi_page.proofs.WholeFiles.{header_fails, contexts_fail, segments_fail, file_whole, file_trailing}
use Rattle.omi_page.proofs.opening.read_core.Goals as goal

pub returns-in_err-counts-clause-read : goal.returns-in_err-counts-clause-read
returns-in_err-counts-clause-read g c = λ bytes told.
    let p = err_from_is_err_and c.from_residual.result c.from_residual.ensures.1 in
    rw (p.1, p.2)
    (header_fails c.in_err-counts.field-0.0 bytes c.args.len (c.requires.len (Some bytes) told) (c.in_err-counts.ensures.read bytes told))

pub returns-in_err-contexts-clause-read : goal.returns-in_err-contexts-clause-read
returns-in_err-contexts-clause-read g c = λ bytes told.
    let at_contexts : Holds (g.F.Files.told c.read_header.new.files c.args.name.now) bytes =
    ap (λ t. t c.args.name.now) c.in_ok-counts.ensures.same ∙ told in
    let p = err_from_is_err_and c.from_residual-in_err-contexts.result c.from_residual-in_err-contexts.ensures.1 in
    rw (p.1, p.2) (contexts_fail c.in_err-contexts.field-0.0 bytes c.args.len _ _
    (record { length_is = c.requires.len (Some bytes) told; header_is = c.in_ok-counts.ensures.read bytes told })
    (c.in_err-contexts.ensures.read bytes at_contexts))

pub returns-in_err-spans-clause-read : goal.returns-in_err-spans-clause-read
returns-in_err-spans-clause-read g c = λ bytes told.
    let at_contexts : Holds (g.F.Files.told c.read_header.new.files c.args.name.now) bytes =
    ap (λ t. t c.args.name.now) c.in_ok-counts.ensures.same ∙ told in
    let at_spans : Holds (g.F.Files.told c.read_contexts.new.files c.args.name.now) bytes =
    ap (λ t. t c.args.name.now) c.in_ok-contexts.ensures.same ∙ at_contexts in
    let p = err_from_is_err_and c.from_residual-in_err-spans.result c.from_residual-in_err-spans.ensures.1 in
    rw (p.1, p.2) (segments_fail c.in_err-spans.field-0.0 bytes c.args.len _ c.in_ok-contexts.contexts _
    (record { length_is = c.requires.len (Some bytes) told; middle = _; header_is = c.in_ok-counts.ensures.read bytes told; contexts_are = c.in_ok-contexts.ensures.read bytes at_contexts })
    (c.in_err-spans.ensures.read bytes at_spans))

pub returns-then-end-len-clause-read : goal.returns-then-end-len-clause-read
returns-then-end-len-clause-read g c = λ bytes told.
    let at_contexts : Holds (g.F.Files.told c.read_header.new.files c.args.name.now) bytes =
    ap (λ t. t c.args.name.now) c.in_ok-counts.ensures.same ∙ told in
    let at_spans : Holds (g.F.Files.told c.read_contexts.new.files c.args.name.now) bytes =
    ap (λ t. t c.args.name.now) c.in_ok-contexts.ensures.same ∙ at_contexts in
    file_trailing bytes c.args.len _ c.in_ok-contexts.contexts _ _ c.in_ok-spans.end
    (record { length_is = c.requires.len (Some bytes) told; middle = _; header_is = c.in_ok-counts.ensures.read bytes told; contexts_are = c.in_ok-contexts.ensures.read bytes at_contexts })
    (c.in_ok-spans.ensures.read bytes at_spans) c.if-end-len.true

pub returns-clause-read : goal.returns-clause-read
returns-clause-read g c = λ bytes told.
    let at_contexts : Holds (g.F.Files.told c.read_header.new.files c.args.name.now) bytes =
    ap (λ t. t c.args.name.now) c.in_ok-counts.ensures.same ∙ told in
    let at_spans : Holds (g.F.Files.told c.read_contexts.new.files c.args.name.now) bytes =
    ap (λ t. t c.args.name.now) c.in_ok-contexts.ensures.same ∙ at_contexts in
    file_whole bytes c.args.len _ c.in_ok-contexts.contexts _ _ c.in_ok-spans.end
    (record { length_is = c.requires.len (Some bytes) told; middle = _; header_is = c.in_ok-counts.ensures.read bytes told; contexts_are = c.in_ok-contexts.ensures.read bytes at_contexts })
    (c.in_ok-spans.ensures.read bytes at_spans) (omega arith)
