use Rattle.std.proofs.Common.{◌≡◌, ◌-◌, ◌∙◌, ℕ, List, length, ap, sym, arith, Some}
use Rattle.std.specs.Prelude.{slice_get}
use Rattle.omi_model.specs.declared.id.Tid.{Tid}
use Rattle.omi_model.specs.declared.task.Task.{Task}
use Rattle.omi_model.specs.Teams.{member_task}
use Rattle.omi_machine.proofs.TeamsMade.{ready_more}
use Rattle.omi_machine.proofs.new_teams.new_members.Goals as goal

pub loop-done-preserved : goal.loop-done-preserved
loop-done-preserved c =
    let team : List (Tid × ℕ) = c.args.team.now in
    let done : ℕ = c.loop-done.done in
    let task : ℕ → ℕ → Task =
    member_task c.args.p.now c.args.region c.args.k c.args.t.now c.args.r.now c.args.f in
    let count : c.len.result ≡ length team = c.len.ensures.value in
    let is : slice_get team (length team - 1 - done) ≡ Some c.get-thread.result =
    ap (λ (n : ℕ). slice_get team (n - 1 - done)) (sym count) ∙ c.get-thread.ensures in
    let new = c.in_ok-new_member.ensures ∙ ap (λ (n : ℕ). task (n - 1 - done) c.get-thread.result.1) count in
    c.in_ok-push.ensures.added
    ∙ ready_more task team done c.get-thread.result c.loop-done.new c.in_ok-new_member.field-0
    (omega arith) is c.loop-done.invariant new
