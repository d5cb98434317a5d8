use Rattle.std.proofs.Common.{◌≡◌, ◌++◌, ◌-◌, ◌≤◌, take, drop}
use Rattle.omi_corefile.specs.Spelling.{words_in}
use Rattle.omi_corefile.proofs.encoding.put_image.Given as goal

abbrev pub invariant-loop-at : goal.invariant-loop-at
invariant-loop-at l = record {
  within : l.from ≤ l.at;
  so_far : l.out.items ≡ l.fn.out.items ++ words_in 0 (take (l.at - l.from) (drop l.from l.image));
}
