use Rattle.omi_top.proofs.MadeTexts.{never_refused}
use Rattle.omi_top.proofs.make.program.Goals as goal

pub unreachable-requires : goal.unreachable-requires
unreachable-requires c =
    never_refused c.args.text.now c.requires c.in-Err-Fault.field-0-0
    (rw c.in-Err-Fault.field-0-is at c.in-Err-Fault.ensures.refused)
