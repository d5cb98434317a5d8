use Rattle.std.proofs.Common.{ap}
use Rattle.omi_calls.specs.Told.{Told}
use Rattle.omi.proofs.NoTargets.{tells_core}
use Rattle.omi_top.proofs.Opening.{open_refused}
use Rattle.omi_top.specs.Cores.{words_of_core}
use Rattle.omi_top.proofs.opened.opened.Goals as goal

pub returns-in-Ok-clause-layout : goal.returns-in-Ok-clause-layout
returns-in-Ok-clause-layout g c = λ core is.
    c.in-Ok.ensures.words (words_of_core core) (tells_core core (g.C.Callbacks.told c.args.calls) is) (ap (λ (t : Told). t.sizes) is)

pub returns-in-Err-clause-refused : goal.returns-in-Err-clause-refused
returns-in-Err-clause-refused g c = λ core is.
    rw c.refusal_of_code.ensures
    (open_refused core (g.C.Callbacks.told c.args.calls) c.in-Err.rc is c.in-Err.ensures.words)
