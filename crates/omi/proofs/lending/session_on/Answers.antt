use Rattle.std.proofs.Common.{ap, ◌∙◌}
use Rattle.omi_calls.specs.Told.{Told}
use Rattle.omi_page.specs.Borrowed.{told_of}
use Rattle.omi.proofs.NoTargets.{tells_core, unopened}
use Rattle.omi.specs.Opened.{words_of_core}
use Rattle.omi.proofs.lending.session_on.Goals as goal

pub returns-in-Ok-clause-layout : goal.returns-in-Ok-clause-layout
returns-in-Ok-clause-layout g c = λ core is.
    let told = ap told_of c.of-lent.ensures.pages ∙ is in
    c.in-Ok.ensures.words (words_of_core core) (tells_core core (told_of c.of-lent.result.pages) told)
    (ap (λ (t : Told). t.sizes) told)

pub returns-in-Err-clause-refused : goal.returns-in-Err-clause-refused
returns-in-Err-clause-refused g c = λ core is.
    rw c.not_opened.ensures
    (unopened core (told_of c.of-lent.result.pages) c.in-Err.back.0 (ap told_of c.of-lent.ensures.pages ∙ is) c.in-Err.ensures.words)
