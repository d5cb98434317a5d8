use Rattle.std.proofs.Common.{List, ℕ, subst}
use Rattle.std.specs.Prelude.{IfOk}
use Rattle.omi_rewind.specs.Answers.{IsFirst}
use Rattle.omi_rewind.specs.declared.test.Test.{Test}
use Rattle.omi_rewind_top.proofs.when.first_by.Goals as goal

pub returns-clause-first : goal.returns-clause-first
returns-clause-first g c =
    subst (λ (t : Test). IfOk c.when.result (IsFirst c.when.new.self t c.args.layout.now.table c.args.last)) c.new-kept.ensures.test
    (subst (λ (w : List ℕ). IfOk c.when.result (IsFirst c.when.new.self c.new-kept.result.test w c.args.last)) c.new-kept.ensures.table
    c.when.ensures.first)
