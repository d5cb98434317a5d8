use Rattle.std.proofs.Common.{◌≡◌, drop}
use Rattle.omi_corefile.specs.Limits.{rises_from, least_after}
use Rattle.omi_elf.proofs.gathering.rise.Given as goal

abbrev pub invariant-loop-id : goal.invariant-loop-id
invariant-loop-id l = rises_from (least_after l.before) (drop l.id-index l.id-items) ≡ rises_from 0 l.fn.ids
