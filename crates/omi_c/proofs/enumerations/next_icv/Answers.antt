use Rattle.std.proofs.Common.{[], sym, ap, length, ◌==◌, ◌∙◌}
use Rattle.omi_icv.specs.Enumeration as inquiry
use Rattle.omi_session.specs.Reads.{Answer}
use Rattle.omi_c.specs.Replies.{replied}
use Rattle.omi_c.specs.Texts.{icv_in, put_over}
use Rattle.omi_c.proofs.Asked.{in_layout, in_none}
use Rattle.omi_c.proofs.enumerations.next_icv.Goals as goal

pub returns-in-Ok-enumerate_icvs : goal.returns-in-Ok-enumerate_icvs
returns-in-Ok-enumerate_icvs g c =
    let n = c.put.ensures.length ∙ ap length c.as_bytes.ensures.value in
    let put = c.put.ensures.put ∙ ap (λ bytes. put_over bytes c.args.to.now) c.as_bytes.ensures.value in
    (λ i. (record { code = 0; next = c.in-Ok-enumerate_icvs.next; scope = c.in-Ok-enumerate_icvs.scope; more = c.in-Ok-enumerate_icvs.more == 1; length = n i }, put i))
    ∙ ap (icv_in c.args.to.now)
    (ap replied c.in-Ok-enumerate_icvs.ensures.next
    ∙ sym (in_layout c.args.table.now [] (λ _. Answer (inquiry.next_icv c.args.current)) c.in-Ok.ensures.opened.judged))

pub returns-in-Ok : goal.returns-in-Ok
returns-in-Ok g c =
    ap (λ e. (e, c.args.to.now)) c.refused.ensures
    ∙ ap (icv_in c.args.to.now)
    (ap replied c.in-Err-enumerate_icvs.ensures.next
    ∙ sym (in_layout c.args.table.now [] (λ _. Answer (inquiry.next_icv c.args.current)) c.in-Ok.ensures.opened.judged))

pub returns : goal.returns
returns g c =
    ap (λ e. (e, c.args.to.now)) c.refused-in-Err.ensures
    ∙ ap (icv_in c.args.to.now)
    (sym (in_none c.args.table.now [] (λ _. Answer (inquiry.next_icv c.args.current)) c.in-Err.cause c.in-Err.ensures.refused))
