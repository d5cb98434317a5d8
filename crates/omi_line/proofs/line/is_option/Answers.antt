use Rattle.omi_line.proofs.Hyphens.{not_named}
use Rattle.omi_line.proofs.line.is_option.Goals as goal

pub returns-in_default : goal.returns-in_default
returns-in_default c =
    not_named c.args.word.now c.in_default.not-text c.in_default.not-text-2 c.in_default.not-text-3 c.in_default.not-text-4
