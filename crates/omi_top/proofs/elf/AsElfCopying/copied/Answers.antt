use Rattle.std.proofs.Common.{ap, ◌∙◌}
use Rattle.omi_top.specs.Elf.{elf_line}
use Rattle.omi_top.proofs.elf.AsElfCopying.copied.Goals as goal

pub returns : goal.returns
returns c = λ bytes spelled. record {
  core = c.args.core;
  spelled = spelled;
  copied = c.in_ok-bytes.ensures.spelled;
  says = c.in_ok-line.ensures ∙ ap elf_line c.len.ensures;
}
