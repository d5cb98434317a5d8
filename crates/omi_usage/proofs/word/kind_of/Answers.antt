use Rattle.std.proofs.Common.{lit<, sym, None}
use Rattle.std.proofs.lemmas.Str.Pattern.{strip_prefix_char}
use Rattle.omi_usage.proofs.Words.{no_hyphen, refused_word}
use Rattle.omi_usage.proofs.word.kind_of.Goals as goal

pub returns-in_default : goal.returns-in_default
returns-in_default c =
    no_hyphen c.args.word.now (strip_prefix_char 45 c.args.word.now None c.in_default.ensures.cases (lit< tt))

pub returns-in-None-2 : goal.returns-in-None-2
returns-in-None-2 c =
    refused_word c.args.word.now c.in-Some.text.now
    (rw c.in-Some.is at (strip_prefix_char 45 c.args.word.now c.strip_prefix.result c.strip_prefix.ensures.cases (lit< tt)))
    (strip_prefix_char 45 c.in-Some.text.now None c.in-None-2.ensures.cases (lit< tt))
    (sym c.if-is_empty.ensures)
