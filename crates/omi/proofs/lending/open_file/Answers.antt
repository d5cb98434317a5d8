use Rattle.std.proofs.Common.{ap, sym, subst, ◌∙◌}
use Rattle.omi_page.specs.Told.{told_by_file}
use Rattle.omi.specs.Targets.{TellsCore}
use Rattle.omi.proofs.Held.{held}
use Rattle.omi.proofs.lending.open_file.Goals as goal

pub returns-clause-core : goal.returns-clause-core
returns-clause-core g c = λ content told.
    subst (λ t. TellsCore content (told_by_file t) c.in_ok-threads.threads) (sym (ap (λ t. t c.args.name.now) c.in_ok-opened.ensures.same))
    (held (g.F.Files.told c.args.files.now c.args.name.now) content c.in_ok-threads.threads told
    (λ none. let never = c.in_ok-opened.ensures.missing none in absurd cc)
    c.in_ok-opened.ensures.core
    (λ bytes core holds is. c.in_ok-threads.ensures ∙ c.contexts.ensures.contexts ∙ c.in_ok-opened.ensures.contexts bytes core holds is))
