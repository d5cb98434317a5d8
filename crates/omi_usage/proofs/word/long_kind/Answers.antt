use Rattle.std.proofs.Common.{sym}
use Rattle.omi_usage.proofs.Words.{given, named, refused, unnamed}
use Rattle.omi_usage.proofs.word.long_kind.Goals as goal

pub returns-in-Some-option_named : goal.returns-in-Some-option_named
returns-in-Some-option_named c =
    given c.args.text.now _ c.split_once.ensures.cases (sym c.if-is_empty.ensures) _ c.in-Some.is _
    c.in-Some-option_named.ensures

pub returns-in-None-option_named : goal.returns-in-None-option_named
returns-in-None-option_named c =
    refused c.args.text.now _ c.split_once.ensures.cases (sym c.if-is_empty.ensures) _ c.in-Some.is
    c.in-None-option_named.ensures

pub returns-in-Some-option_named-2 : goal.returns-in-Some-option_named-2
returns-in-Some-option_named-2 c =
    named c.args.text.now _ c.split_once.ensures.cases (sym c.if-is_empty.ensures) c.in-None.is _
    c.in-Some-option_named-2.ensures

pub returns-in-None-option_named-2 : goal.returns-in-None-option_named-2
returns-in-None-option_named-2 c =
    unnamed c.args.text.now _ c.split_once.ensures.cases (sym c.if-is_empty.ensures) c.in-None.is
    c.in-None-option_named-2.ensures
