use Rattle.std.proofs.Common.{rules}
use Rattle.omi_frame.proofs.refusal_line.line_of.Goals as goal
use Rattle.omi_frame.proofs.refusal_line.line_of.Goals.{in-NoFile, in-ReadFault, in-Script, in-Damaged, in-Cycle, in-Core, in-Elf}

pub returns : goal.returns
returns c = elim c.match-refusal.branch [ in-NoFile w ↦ search rules | in-ReadFault w ↦ search rules | in-Script w ↦ search rules | in-Damaged w ↦ search rules | in-Cycle w ↦ search rules | in-Core w ↦ search rules | in-Elf w ↦ search rules ]
