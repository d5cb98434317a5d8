use Rattle.std.proofs.Common.{arith, ap, sym, ◌∙◌, length, ◌<◌, ◌++◌, ◌∷◌, [], List, ℕ}
use Rattle.omi_model.specs.declared.id.Tid.{Tid}
use Rattle.omi_model.specs.Columns.{no_task}
use Rattle.omi_model.specs.ColumnLemmas.{length-view, member_pushed, column_more}
use Rattle.omi_model.proofs.team.Team.push.Goals as goal

pub bounds-self-inside-at : goal.bounds-self-inside-at
bounds-self-inside-at c =
    omega
    (arith, length-view c.self.inside.len c.self.inside.tasks c.self.inside.threads c.self.invariant, ap length c.self.view_is)

pub bounds-self-inside-at-2 : goal.bounds-self-inside-at-2
bounds-self-inside-at-2 c =
    omega
    (arith, length-view c.self.inside.len c.self.inside.tasks c.self.inside.threads c.self.invariant, ap length c.self.view_is)

pub invariant_of-self : goal.invariant_of-self
invariant_of-self c =
    let small : c.self.inside.len < 64 =
    omega
    (arith, length-view c.self.inside.len c.self.inside.tasks c.self.inside.threads c.self.invariant, ap length c.self.view_is) in
    record {
      limit = omega arith;
      tasks = column_more no_task c.self.inside.len c.self.inside.tasks c.args.task small c.self.invariant.tasks;
      threads = column_more 0 c.self.inside.len c.self.inside.threads c.args.thread small c.self.invariant.threads;
    }

pub returns : goal.returns
returns c =
    let small : c.self.inside.len < 64 =
    omega
    (arith, length-view c.self.inside.len c.self.inside.tasks c.self.inside.threads c.self.invariant, ap length c.self.view_is) in
    member_pushed c.self.inside.len c.self.inside.tasks c.self.inside.threads c.args.task c.args.thread
    (omega (arith, c.self.invariant.tasks.whole))
    (c.self.invariant.tasks.whole ∙ sym c.self.invariant.threads.whole)
    ∙ ap (λ (ms : List (Tid × ℕ)). ms ++ (c.args.task, c.args.thread) ∷ []) c.self.view_is
