use Rattle.std.proofs.Common.{◌≡◌, ◌≤◌, ◌*◌, take}
use Rattle.omi_elf.specs.declared.limits.TheConstants.{MOST_ELF_BYTES}
use Rattle.omi_elf.specs.Table.{words_of_all}
use Rattle.omi_elf.proofs.judging.judge_words.Given as goal

abbrev pub invariant-loop-h : goal.invariant-loop-h
invariant-loop-h l = record {
  added : l.words ≡ words_of_all (take l.h-index l.kept);
  small : l.words ≤ MOST_ELF_BYTES * l.h-index;
}
