use Rattle.std.proofs.Common.{◌+◌, subst}
use Rattle.omi_rewind.specs.Answers.{HoldsNowhere, IsFirst}
use Rattle.omi_rewind.proofs.Stays.{later_self}
use Rattle.omi_rewind.proofs.rewind.Rewind.when.Goals as goal

pub returns-then-upto-made-clause-later : goal.returns-then-upto-made-clause-later
returns-then-upto-made-clause-later g c = later_self c.args.self.now

pub returns-in_err-first-clause-later : goal.returns-in_err-first-clause-later
returns-in_err-first-clause-later g c = later_self c.args.self.now

pub returns-in-Some-clause-later : goal.returns-in-Some-clause-later
returns-in-Some-clause-later g c = later_self c.args.self.now

pub first_new-requires-clause-before : goal.first_new-requires-clause-before
first_new-requires-clause-before g c =
    subst (λ n. HoldsNowhere c.args.self.now c.args.q.now.test c.args.q.now.table (n + 1)) c.made-made.ensures.count
    (subst (λ o. IsFirst c.args.self.now c.args.q.now.test c.args.q.now.table c.made-made.result o) c.in-None.is c.in_ok-first.ensures).1
