-- Two teams are equal where their fields are, which what is seen of them gives back.
use Rattle.std.proofs.Common.{◌≡◌, ◌&&◌, Bool, true, false, List, ℕ, length, eqb, refl, ap, ap₂, sym, ◌∙◌}
use lib.Pointwise.{pointwise}
use Rattle.omi_model.specs.contracts.id.TidPartialEq.TheImpl as tid
use Rattle.omi_model.specs.declared.id.Tid.{Tid}
use Rattle.omi_model.specs.declared.team.Team.TheInside.{Inside}
use Rattle.omi_model.specs.Columns.{no_task, padded, tasks_of, threads_of}
use Rattle.omi_model.specs.TeamBack.{team_back}
use Rattle.omi_model.proofs.team.TeamPartialEq.eq.Goals as goal

-- the fields that are seen back from the members
abbrev back : List (Tid × ℕ) → Inside
back ms = record { len = length ms; tasks = padded no_task (tasks_of ms); threads = padded 0 (threads_of ms) }

abbrev same : Inside → Inside → Bool
same x y =
    (eqb x.len y.len && pointwise (tid.eq-value).it x.tasks y.tasks) && pointwise eqb x.threads y.threads

grouped : (a b c : Bool) → ((a && b) && c) ≡ (a && (b && c))
grouped true b c = refl
grouped false b c = refl

by_field : (x y : Inside)
    → same x y ≡ (eqb x.len y.len && (pointwise (tid.eq-value).it x.tasks y.tasks && pointwise eqb x.threads y.threads))
by_field x y =
    grouped (eqb x.len y.len) (pointwise (tid.eq-value).it x.tasks y.tasks)
    (pointwise eqb x.threads y.threads)

pub returns : goal.returns
returns c =
    let left = sym (team_back c.t1-1.inside c.t1-1.invariant) ∙ ap back c.t1-1.view_is in
    let right = sym (team_back c.t2-1.inside c.t2-1.invariant) ∙ ap back c.t2-1.view_is in
    rw (c.and_eq-2.ensures, c.and_eq.ensures, c.eq.ensures)
    (ap₂ same left right ∙ by_field (back c.args.self.now) (back c.args.other.now))
