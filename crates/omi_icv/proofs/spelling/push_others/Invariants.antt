use Rattle.std.proofs.Common.{◌≡◌, ◌+◌, ◌*◌, ◌≤◌, ◌++◌, drop, length}
use Rattle.omi_icv.specs.Spellings.{after_commas}
use Rattle.omi_icv.proofs.spelling.push_others.Given as goal

-- the numbers so far, and those that are left; and no more than 41 bytes and a comma for each so far
abbrev pub invariant-loop-at : goal.invariant-loop-at
invariant-loop-at l = record {
  told : l.text ++ after_commas l.spelling (drop l.at l.numbers) ≡ l.fn.text ++ after_commas l.spelling (drop 1 l.numbers);
  short : length l.text + 1 ≤ 42 * l.at;
}
