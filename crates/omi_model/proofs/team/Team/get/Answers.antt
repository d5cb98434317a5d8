use Rattle.std.proofs.Common.{arith, ap, sym, ◌∙◌, subst, length, slice_get, ◌≡◌, Some, List, ℕ, get_or}
use Rattle.omi_model.specs.declared.id.Tid.{Tid}
use Rattle.omi_model.specs.Columns.{no_task}
use Rattle.omi_model.specs.ColumnLemmas.{length-view, member_at}
use Rattle.omi_model.proofs.team.Team.get.Goals as goal

pub returns : goal.returns
returns c =
    let a = c.self.inside in
    let len = length-view a.len a.tasks a.threads c.self.invariant in
    let whole = ap length c.self.view_is in
    subst
    (λ (ms : List (Tid × ℕ)). slice_get ms c.args.at ≡ Some (get_or a.tasks c.args.at no_task, get_or a.threads c.args.at 0)) c.self.view_is
    (member_at a.len c.args.at no_task a.tasks a.threads (omega (arith, len, whole)) (omega (arith, len, whole, c.self.invariant.limit, c.self.invariant.tasks.whole)) (c.self.invariant.tasks.whole ∙ sym c.self.invariant.threads.whole))
