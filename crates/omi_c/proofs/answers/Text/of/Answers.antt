use Rattle.std.proofs.Common.{length, sym, ap, ◌∙◌}
use Rattle.omi_c.specs.Texts.{put_over, text_in}
use Rattle.omi_c.proofs.answers.Text.of.Goals as goal

pub returns-in-Ok : goal.returns-in-Ok
returns-in-Ok c =
    let bytes = c.as_bytes.ensures.value ∙ c.as_str.ensures.text in
    let n = c.put.ensures.length ∙ ap length bytes in
    let put = c.put.ensures.put ∙ ap (λ bytes. put_over bytes c.args.to.now) bytes in
    (λ i. (record { code = 0; place = 0; length = n i }, put i)) ∙ ap (text_in c.args.to.now) (sym c.in-Ok.is)

pub returns-in-Err : goal.returns-in-Err
returns-in-Err c =
    ap (λ text. (text, c.args.to.now)) c.refused.ensures ∙ ap (text_in c.args.to.now) (sym c.in-Err.is)
