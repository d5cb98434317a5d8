use Rattle.std.proofs.Common.{[], Ok, length, sym, ap, ◌∙◌}
use Rattle.std.specs.Prelude.{codes}
use Rattle.omi_session.specs.Reads.{Answer}
use Rattle.omi_c.specs.Texts.{text_in, put_over}
use Rattle.omi_c.proofs.Asked.{in_layout, in_none}
use Rattle.omi_c.proofs.library.openmp_text.Goals as goal

pub returns-in-Ok : goal.returns-in-Ok
returns-in-Ok g c =
    let bytes = c.as_bytes.ensures.value ∙ c.get_omp_version_string.ensures in
    let n = c.put.ensures.length ∙ ap length bytes in
    let put = c.put.ensures.put ∙ ap (λ bytes. put_over bytes c.args.to.now) bytes in
    (λ i. (record { code = 0; place = 0; length = n i }, put i))
    ∙ ap (text_in c.args.to.now)
    (sym (in_layout c.args.table.now [] (λ _. Answer (Ok (codes "OpenMP 5.0 host"))) c.in-Ok.ensures.opened.judged))

pub returns-in-Err : goal.returns-in-Err
returns-in-Err g c =
    ap (λ text. (text, c.args.to.now)) c.refused.ensures
    ∙ ap (text_in c.args.to.now)
    (sym (in_none c.args.table.now [] (λ _. Answer (Ok (codes "OpenMP 5.0 host"))) c.in-Err.cause c.in-Err.ensures.refused))
