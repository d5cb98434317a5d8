use Rattle.std.proofs.Common.{sym, ap, subst, ◌∙◌, arith}
use Rattle.omi_layout.specs.Given.{GivesLayout}
use Rattle.omi_page.specs.Borrowed.{told_of}
use Rattle.omi_page.specs.Told.{told_by_file}
use Rattle.omi.proofs.NoTargets.{not_opened}
use Rattle.omi.specs.LowestFirst.{lowest_first}
use Rattle.omi.specs.Opened.{words_of_core}
use Rattle.omi.proofs.opened.open_core.Goals as goal

pub returns-in-Err-clause-refused : goal.returns-in-Err-clause-refused
returns-in-Err-clause-refused g c = λ content told.
    let t = c.in_ok-opened.ensures.core content told in
    let is = (λ i. told_by_file (g.F.Files.told (c.of-pages.ensures.same i) (c.of-pages.ensures.same_name i))) ∙ t.told_is in
    not_opened content t.core c.in-Err.back.0 t.holds (c.in-Err.ensures.refused t.core is)

pub returns-in-Err-clause-cause : goal.returns-in-Err-clause-cause
returns-in-Err-clause-cause g c =
    let lent = ap g.F.Files.reads c.of-pages.ensures.same in
    record {
      left = c.in-Err.back.1.files.now;
      same = c.in-Err.ensures.back.told ∙ ap g.F.Files.told c.of-pages.ensures.same ∙ c.in_ok-opened.ensures.same;
      unwritten = c.in-Err.ensures.back.writes ∙ ap g.F.Files.writes c.of-pages.ensures.same ∙ c.in_ok-opened.ensures.writes;
      cause = record {
        later = omega (arith, c.in_ok-opened.ensures.cause.later, lent, c.in-Err.ensures.cause.later);
        failed = λ failed. let rose = c.in-Err.ensures.cause.failed (cc failed) in omega (arith, rose, lent, c.in_ok-opened.ensures.cause.later);
      };
    }

pub returns-clause-opened : goal.returns-clause-opened
returns-clause-opened g c = λ content told.
    let t = c.in_ok-opened.ensures.core content told in
    let is = (λ i. told_by_file (g.F.Files.told (c.of-pages.ensures.same i) (c.of-pages.ensures.same_name i))) ∙ t.told_is in
    record {
      core = t.core;
      holds = t.holds;
      told = ap (λ k. lowest_first (told_of k.calls.pages)) c.in_layout.ensures.table
          ∙ ap (λ calls. lowest_first (told_of calls.pages)) c.new-table.ensures.calls
          ∙ ap lowest_first (c.in-Ok.ensures.told ∙ is);
      layout = subst (GivesLayout (words_of_core t.core)) (sym c.in_layout.ensures.layout) (c.in-Ok.ensures.layout t.core is);
      fresh = c.in_layout.ensures.fresh;
      threads = t.threads_are;
    }
