use Rattle.std.proofs.Common.{◌≡◌, ◌∙◌, refl, subst, arith, true, false, nat_lt}
use Rattle.std.proofs.lemmas.Bool.Decides.{nat_tests}
use Rattle.std.proofs.lemmas.Result.{err_from_is_err_and}
use Rattle.std.specs.Prelude.{Ok, Err}
use Rattle.omi_handle.specs.declared.handle.Kind.TheVariants.{Task}
use Rattle.omi_layout.specs.declared.field.Field.TheVariants.{RegionTeam}
use Rattle.omi_session.specs.Reads.{Answers}
use Rattle.omi_session.specs.Inquiry.{member, team_size, follow}
use Rattle.omi_session.proofs.Asked.{asked_then, asked_refused, asked_true, asked_false, asked_answer, refused_then}
use Rattle.omi_session.proofs.members.member_of.Goals as goal

pub returns-in_err-region-clause-answer : goal.returns-in_err-region-clause-answer
unfolding member
returns-in_err-region-clause-answer g c =
    refused_then _ c.in_err-region.ensures.answer c.from_residual.ensures.1

pub returns-in_err-size-clause-answer : goal.returns-in_err-size-clause-answer
unfolding member
returns-in_err-size-clause-answer g c =
    let p = err_from_is_err_and c.from_residual-in_err-size.result c.from_residual-in_err-size.ensures.1 in
    asked_then c.object_of.new.s _ c.in_ok-region.region c.object_of.ensures.same.table.same c.in_ok-region.ensures.answer
    (rw (p.1, p.2) (asked_refused _
    (subst (λ w. Answers g.C.Callbacks.told g.C.Callbacks.asked c.object_of.new.s c.team_size.new.s (Err c.in_err-size.field-0.0) (team_size w c.in_ok-region.region.addr)) c.object_of.ensures.same.layout c.in_err-size.ensures.answer)))

pub returns-then-num-size-clause-answer : goal.returns-then-num-size-clause-answer
unfolding member
returns-then-num-size-clause-answer g c =
    let below : nat_lt c.args.num c.in_ok-size.size ≡ true =
    grind (arith, nat_tests, c.if-num-size.true, c.from-num.ensures) in
    let layout = c.team_size.ensures.same.layout ∙ c.object_of.ensures.same.layout in
    asked_then c.object_of.new.s _ c.in_ok-region.region c.object_of.ensures.same.table.same c.in_ok-region.ensures.answer
    (asked_then c.team_size.new.s _ c.in_ok-size.size c.team_size.ensures.same.table.same
    (subst (λ w. Answers g.C.Callbacks.told g.C.Callbacks.asked c.object_of.new.s c.team_size.new.s (Ok c.in_ok-size.size) (team_size w c.in_ok-region.region.addr)) c.object_of.ensures.same.layout c.in_ok-size.ensures.answer)
    (asked_true _ below
    (subst (λ n. Answers g.C.Callbacks.told g.C.Callbacks.asked c.team_size.new.s c.follow.new.s c.follow.result (follow c.args.s.now.layout Task c.in_ok-region.region.addr RegionTeam n)) c.from-num.ensures
    (subst (λ w. Answers g.C.Callbacks.told g.C.Callbacks.asked c.team_size.new.s c.follow.new.s c.follow.result (follow w Task c.in_ok-region.region.addr RegionTeam c.from-num.result)) layout c.follow.ensures.answer))))

pub returns-else-num-size-clause-answer : goal.returns-else-num-size-clause-answer
unfolding member
returns-else-num-size-clause-answer g c =
    let past : nat_lt c.args.num c.in_ok-size.size ≡ false =
    grind (arith, nat_tests, c.if-num-size.false, c.from-num.ensures) in
    asked_then c.object_of.new.s _ c.in_ok-region.region c.object_of.ensures.same.table.same c.in_ok-region.ensures.answer
    (asked_then c.team_size.new.s _ c.in_ok-size.size c.team_size.ensures.same.table.same
    (subst (λ w. Answers g.C.Callbacks.told g.C.Callbacks.asked c.object_of.new.s c.team_size.new.s (Ok c.in_ok-size.size) (team_size w c.in_ok-region.region.addr)) c.object_of.ensures.same.layout c.in_ok-size.ensures.answer)
    (asked_false _ past (asked_answer refl)))
