use Rattle.std.proofs.Common.{◌≡◌, ℕ, zero, suc, List, [], ◌∷◌, take, refl, ap, ◌∙◌}
use Rattle.std.specs.Prelude.{slice_set}
use Rattle.omi_model.specs.declared.id.Tid.{Tid}
use Rattle.omi_model.specs.Columns.{members, with_task}
use Rattle.omi_model.proofs.team.Team.set_task.Goals as goal

taken : (n at : ℕ) (t : Tid) (xs : List Tid) (ys : List ℕ)
    → take n (members (slice_set xs at t) ys) ≡ with_task t at (take n (members xs ys))
taken zero at t xs ys = refl
taken (suc n) at t [] ys = refl
taken (suc n) zero t (x ∷ xs) [] = refl
taken (suc n) (suc at) t (x ∷ xs) [] = refl
taken (suc n) zero t (x ∷ xs) (y ∷ ys) = refl
taken (suc n) (suc at) t (x ∷ xs) (y ∷ ys) = ap (λ (ms : List (Tid × ℕ)). (x, y) ∷ ms) (taken n at t xs ys)

pub returns : goal.returns
returns c =
    taken c.self.inside.len c.args.at c.args.task c.self.inside.tasks c.self.inside.threads
    ∙ ap (with_task c.args.task c.args.at) c.self.view_is
