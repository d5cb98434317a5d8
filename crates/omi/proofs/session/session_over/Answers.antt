use Rattle.std.proofs.Common.{ap, arith}
use Rattle.omi_calls.specs.CoreCalls.{told_of_core}
use Rattle.omi_calls.specs.Told.{Told}
use Rattle.omi.proofs.NoTargets.{tells_core, no_target}
use Rattle.omi.specs.Opened.{words_of_core}
use Rattle.omi.proofs.session.session_over.Goals as goal

pub returns-in-Ok-clause-layout : goal.returns-in-Ok-clause-layout
returns-in-Ok-clause-layout g c =
    c.in-Ok.ensures.words (words_of_core c.args.core)
    (tells_core c.args.core (told_of_core c.over.result) c.over.ensures) (ap (λ (t : Told). t.sizes) c.over.ensures)

pub returns-clause-refused : goal.returns-clause-refused
returns-clause-refused g c =
    no_target c.args.core (told_of_core c.over.result) c.in-Err.rc c.over.ensures c.in-Err.ensures.words
    (λ failed. absurd (omega (arith, c.in-Err.ensures.cause.failed failed)))
