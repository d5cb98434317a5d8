use Rattle.std.proofs.Common.{string_bytes}
use Rattle.std.proofs.lemmas.Result.{IfOk-weaker}
use Rattle.omi_rewind.specs.declared.test.Test.TheVariants.{State}
use Rattle.omi_rewind_top.proofs.Turned.{first_shown}
use Rattle.omi_rewind_top.proofs.when.when_text.Goals as goal

pub returns : goal.returns
returns c =
    IfOk-weaker c.first_line.result _ _
    (λ text is. first_shown c.args.p c.in_ok-rewind.rewind c.first_in_state.new.rewind c.family-layout.result.table c.in_ok-rewind.ensures.turned
    c.in_ok-rewind.ensures.table c.in_ok-first.ensures.later c.made-made.ensures.run (State c.args.thread c.args.state) c.args.last c.in_ok-first.first
    c.in_ok-first.ensures.first (string_bytes text) is) c.first_line.ensures
