use Rattle.std.proofs.lemmas.Result.{err_from_is_err_and}
use Rattle.omi_page.proofs.OpenedFiles.{refused_free}
use Rattle.omi_page.proofs.formats.len_of.Goals as goal

pub returns-in_err-len-clause-free : goal.returns-in_err-len-clause-free
returns-in_err-len-clause-free g c = λ bytes told.
    let p = err_from_is_err_and c.from_residual.result c.from_residual.ensures.1 in
    rw (p.1, p.2) (refused_free c.in_err-len.field-0.0)
