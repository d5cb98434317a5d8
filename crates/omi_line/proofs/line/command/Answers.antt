use Rattle.std.proofs.Common.{codes}
use Rattle.std.proofs.lemmas.Result.{IfOk-weaker}
use Rattle.omi_line.specs.Command.{bare_app, option_rule, words_rule}
use Rattle.omi_line.proofs.Added.{added}
use Rattle.omi_line.proofs.line.command.Goals as goal

pub returns : goal.returns
returns c =
    let seed =
    added _ _ _ bare_app
    (option_rule (codes "seed")) c.in_ok-arg.ensures c.option.ensures.local c.bare_command.ensures c.option.ensures.rule in
    let break_ =
    added _ _ _ _
    (option_rule (codes "break")) c.in_ok-arg-2.ensures c.option-2.ensures.local seed c.option-2.ensures.rule in
    let count =
    added _ _ _ _
    (option_rule (codes "count")) c.in_ok-arg-3.ensures c.option-3.ensures.local break_ c.option-3.ensures.rule in
    let layout =
    added _ _ _ _
    (option_rule (codes "layout")) c.in_ok-arg-4.ensures c.option-4.ensures.local count c.option-4.ensures.rule in
    IfOk-weaker c.arg-5.result _ _
    (λ command adds. added _ command _ _ words_rule adds c.words_argument.ensures.local layout c.words_argument.ensures.rule) c.arg-5.ensures
