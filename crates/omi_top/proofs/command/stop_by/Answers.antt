use Rattle.std.proofs.Common.{arith}
use Rattle.std.specs.Str.{IsUtf8}
use Rattle.std.proofs.lemmas.List.Elements.{All-get_or}
use Rattle.omi_top.proofs.command.stop_by.Goals as goal

pub text_of-requires : goal.text_of-requires
text_of-requires c =
    rw c.script-item.is
    (All-get_or IsUtf8 c.args.names.now 1 c.script-item.result (omega arith) c.requires.names)
