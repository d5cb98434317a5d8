use Rattle.std.proofs.Common.{Ok, Err, Some, ◌∙◌, sym, eq-eqb, arith}
use Rattle.std.proofs.lemmas.Bool.Decides.{nat_tests}
use Rattle.std.proofs.lemmas.Result.{err_from_is_err_and}
use Rattle.omi_layout.specs.declared.field.Field.TheVariants.{ThreadLife, ThreadNative}
use Rattle.omi_rep.specs.LookView.{read_thread}
use Rattle.omi_walk.proofs.Steps.{looks_before, same_gives, stop_gives}
use Rattle.omi_walk.specs.Gives.{Looks}
use Rattle.omi_ps.proofs.ThreadWords.{begun, look_ids, stays, unbegun}
use Rattle.omi_ps.specs.Recorded.{look_id}
use Rattle.omi_ps.proofs.recorded.recorded_id.Goals as goal

pub returns-in_err-life-clause-look : goal.returns-in_err-life-clause-look
unfolding Looks
returns-in_err-life-clause-look g c =
    let p = err_from_is_err_and c.from_residual.result c.from_residual.ensures.1 in
    λ memory tells. rw (p.1, p.2)
    (stop_gives c.in_err-life.field-0.0 (read_thread c.args.s.now.layout memory c.args.i ThreadLife) _ (c.in_err-life.ensures.look memory tells))

pub returns-then-life-ne1-clause-look : goal.returns-then-life-ne1-clause-look
unfolding Looks
returns-then-life-ne1-clause-look g c = λ memory tells.
    unbegun c.args.s.now.layout memory c.args.i c.in_ok-life.life (c.in_ok-life.ensures.look memory tells) (grind (arith, nat_tests, c.if-life-ne1.true))

pub returns-in_err-id-clause-look : goal.returns-in_err-id-clause-look
unfolding Looks
returns-in_err-id-clause-look g c =
    let told = g.C.Callbacks.told in
    let s = c.args.s.now in
    let t = c.thread_word.new.s in
    let f = c.in_err-id.field-0.0 in
    let p = err_from_is_err_and c.from_residual-in_err-id.result c.from_residual-in_err-id.ensures.1 in
    λ memory tells. rw (p.1, p.2)
    (same_gives (Err f) _ (look_id s.layout memory c.args.i)
    (sym (begun s.layout memory c.args.i c.in_ok-life.life (c.in_ok-life.ensures.look memory tells) (eq-eqb _ _ c.if-life-ne1.false)))
    (stop_gives f (read_thread s.layout memory c.args.i ThreadNative) (λ id. Ok (Some id))
    (looks_before told s t (Err f) (λ w words. read_thread w words c.args.i ThreadNative) (stays c.thread_word.ensures.same) c.in_err-id.ensures.look memory tells)))

pub returns-clause-look : goal.returns-clause-look
unfolding Looks
returns-clause-look g c =
    let told = g.C.Callbacks.told in
    let s = c.args.s.now in
    let t = c.thread_word.new.s in
    λ memory tells.
    begun s.layout memory c.args.i c.in_ok-life.life (c.in_ok-life.ensures.look memory tells) (eq-eqb _ _ c.if-life-ne1.false)
    ∙ look_ids (λ id. Some id) (read_thread s.layout memory c.args.i ThreadNative) c.in_ok-id.id
    (looks_before told s t (Ok c.in_ok-id.id) (λ w words. read_thread w words c.args.i ThreadNative) (stays c.thread_word.ensures.same) c.in_ok-id.ensures.look memory tells)
