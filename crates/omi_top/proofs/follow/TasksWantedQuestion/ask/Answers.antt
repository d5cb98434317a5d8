use Rattle.std.proofs.Common.{◌∙◌, ap, refl, subst}
use Rattle.std.specs.Prelude.{IsErrAnd}
use Rattle.omi_calls.specs.Kept.{Kept}
use Rattle.omi_layout.specs.Valid.{IsValid}
use Rattle.omi_walk.specs.Gives.{Looks}
use Rattle.omi_frame.specs.Refusal.{IsReadFault}
use Rattle.omi_frame.proofs.Behind.{cause_as, cause_behind}
use Rattle.omi_top.proofs.Following.{kept_answer, kept_failed, kept_of_words}
use Rattle.omi_top.proofs.Opening.{unopened_viewed}
use Rattle.omi_top.proofs.follow.TasksWantedQuestion.ask.Goals as goal

pub returns-in-Err-clause-answered : goal.returns-in-Err-clause-answered
returns-in-Err-clause-answered g c =
    λ core is same. unopened_viewed core c.in-Err.refusal (c.in-Err.ensures.refused core is)

pub returns-clause-answered : goal.returns-clause-answered
unfolding Looks
returns-clause-answered g c = λ core is same.
    let valid : IsValid c.in-Ok.session.layout = c.has_valid_layout.ensures in
    rw c.kept_in.ensures
    (kept_answer core (g.C.Callbacks.told c.in-Ok.session.table.calls) c.in-Ok.session.layout c.args.contexts.now
    c.in-Ok.session.handles c.kept-tasks.new.s.handles c.part-parted.result.0 c.kept-tasks.result (c.in-Ok.ensures.told ∙ is) same valid
    (c.in-Ok.ensures.layout core is) c.kept-tasks.ensures.look c.kept-tasks.ensures.keeps (c.part-parted.ensures.layout ∙ c.kept-tasks.ensures.stays.layout)
    c.part-parted.ensures.handles)

pub returns-clause-words : goal.returns-clause-words
returns-clause-words g c = rw c.kept_in.ensures (kept_of_words c.part-parted.result.0 c.kept-tasks.result)

pub returns-clause-cause : goal.returns-clause-cause
returns-clause-cause g c =
    cause_as _ _ _ _ refl (ap g.C.Callbacks.faults (c.into_calls.ensures ∙ ap (λ (k : Kept _ _). k.calls) c.part-parted.ensures.table))
    (λ read. kept_failed c.part-parted.result.0 c.kept-tasks.result (subst (λ r. IsErrAnd r IsReadFault) c.kept_in.ensures read))
    (cause_behind _ _ _ c.in-Ok.ensures.cause c.kept-tasks.ensures.cause)
