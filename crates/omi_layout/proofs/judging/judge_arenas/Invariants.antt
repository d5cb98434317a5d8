use Rattle.omi_layout.specs.Judged.{AllBelow}
use Rattle.omi_layout.proofs.judging.judge_arenas.Given as goal

abbrev pub invariant-loop-p : goal.invariant-loop-p
invariant-loop-p l = AllBelow l.w l.p
