use Rattle.std.proofs.Common.{◌∙◌}
use Rattle.omi_page.specs.Told.{told_by_file}
use Rattle.omi.proofs.Looking.{looked_into, not_looked}
use Rattle.omi.proofs.tool.look_into.Goals as goal

pub returns-clause-looked : goal.returns-clause-looked
returns-clause-looked g c =
    looked_into (g.F.Files.told c.args.files.now c.args.name.now) _ _ c.in_ok-opened.threads c.look_on-looked.result.0 g.T.Tool.looks c.args.tool.now c.look_on-looked.new.tool
    (λ content told. c.in_ok-opened.ensures.core content told)
    (λ i. told_by_file (g.F.Files.told (c.of-pages.ensures.same i) (c.of-pages.ensures.same_name i))) c.look_on-looked.ensures.looked

pub returns-clause-refused : goal.returns-clause-refused
returns-clause-refused g c = λ content told.
    let t = c.in_ok-opened.ensures.core content told in
    not_looked content t.core c.look_on-looked.result.0 t.holds
    (c.look_on-looked.ensures.refused t.core
    ((λ i. told_by_file (g.F.Files.told (c.of-pages.ensures.same i) (c.of-pages.ensures.same_name i))) ∙ t.told_is))
