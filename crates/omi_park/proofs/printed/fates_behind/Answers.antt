use Rattle.std.proofs.Common.{subst}
use Rattle.std.specs.Prelude.{string_bytes}
use Rattle.omi_word.specs.Words.{words_of}
use Rattle.omi_park.specs.Kept.{HoldsBefore}
use Rattle.omi_park.proofs.Showing.{no_fates}
use Rattle.omi_park.proofs.printed.fates_behind.Goals as goal

pub fates_of-requires-clause-copy : goal.fates_of-requires-clause-copy
fates_of-requires-clause-copy c =
    let (w, names, copy, holds) = c.requires.copy in
    (w, names, copy, subst (HoldsBefore w names) c.in-Some.is holds)

pub returns-in-Some : goal.returns-in-Some
returns-in-Some c = λ w names copy holds.
    c.fates_of.ensures w names copy (subst (HoldsBefore w names) c.in-Some.is holds)

pub returns-in-None : goal.returns-in-None
returns-in-None c = λ w names copy holds.
    no_fates w (words_of c.args.image.now) names (subst (HoldsBefore w names) c.in-None.is holds)
    (string_bytes c.new.result) c.new.ensures.bytes
