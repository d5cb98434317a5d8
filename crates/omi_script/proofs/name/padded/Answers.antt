use Rattle.std.proofs.Common.{◌++◌, ◌∙◌, ap, drop, length, replicate}
use Rattle.omi_script.proofs.NamingLemmas.{zeros_behind}
use Rattle.omi_script.proofs.name.padded.Goals as goal

pub returns : goal.returns
returns c =
    ap (λ xs. xs ++ drop (length c.args.word.now) (replicate 32 0)) c.copy_from_slice.ensures.after
    ∙ ap (λ xs. c.args.word.now ++ xs) (zeros_behind (length c.args.word.now))
