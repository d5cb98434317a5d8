use Rattle.std.proofs.Common.{◌∙◌, sym, Some, None}
use Rattle.omi_script.proofs.EndLemmas.{closed_end}
use Rattle.omi_script.proofs.parser.Parser.main.Goals as goal

pub returns-in-Some-number_of-clause-none : goal.returns-in-Some-number_of-clause-none
returns-in-Some-number_of-clause-none c =
    closed_end c.args.self.now.state (Some c.in-Some-number_of.main) (c.in_default.is)
    (sym c.number_of.ensures ∙ c.in-Some-number_of.is)

pub returns-in-None-clause-fault : goal.returns-in-None-clause-fault
returns-in-None-clause-fault c =
    closed_end c.args.self.now.state None (c.in_default.is) (sym c.number_of.ensures ∙ c.in-None.is)
