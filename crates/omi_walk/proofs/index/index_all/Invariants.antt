use Rattle.std.proofs.Common.{◌≡◌, ◌++◌, take, length}
use Rattle.omi_walk.specs.Index.{HasFirst, AreSmall}
use Rattle.omi_walk.proofs.index.index_all.Given as goal

abbrev pub invariant-loop-i : goal.invariant-loop-i
invariant-loop-i l = record {
  bound : l.i-end ≡ length l.met;
  first : (before : _) → HasFirst l.initial.index before → HasFirst l.index (before ++ take l.i l.met);
  small : AreSmall (take l.i l.met);
}
