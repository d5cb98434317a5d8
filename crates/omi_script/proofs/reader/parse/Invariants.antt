use Rattle.std.proofs.Common.{◌≡◌, ◌+◌, ◌≤◌, length}
use Rattle.omi_script.specs.Lines.{lines}
use Rattle.omi_script.specs.Verdict.{judge, verdict}
use Rattle.omi_script.specs.declared.limits.TheConstants.{MAX_BYTES}
use Rattle.omi_script.proofs.reader.parse.Given as goal

-- the lines that are left are judged in the state that the parser came to, and each has a byte at least
abbrev pub invariant-lines : goal.invariant-lines
invariant-lines l = record {
  judged : judge l.number l.parser.state (lines l.rest) ≡ verdict l.bytes;
  room : l.number + length l.rest ≤ MAX_BYTES + 1;
}

abbrev pub decreases-lines : goal.decreases-lines
decreases-lines l = length l.rest
