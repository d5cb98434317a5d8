use Rattle.std.proofs.Common.{◌≡◌, ◌≤◌, List, ℕ, Ok, length, sym, subst, arith}
use Rattle.std.proofs.lemmas.Result.{IfOk-weaker}
use Rattle.std.specs.Prelude.{IsTrue}
use Rattle.omi_corefile.specs.Limits.{rises_from}
use Rattle.omi_layout.specs.Given.{GivesLayout}
use Rattle.omi_rep.specs.LookView.{look_view}
use Rattle.omi_word.specs.Words.{words_of}
use Rattle.omi_rewind_top.proofs.Turned.{image_shows}
use Rattle.omi_commands.specs.Imaged.{ShowsSome}
use Rattle.omi_commands.proofs.ThreadIds.{count, rising}
use Rattle.omi_rewind_top.proofs.at.report_at.Goals as goal

pub view_of-requires-clause-few : goal.view_of-requires-clause-few
view_of-requires-clause-few c =
    let few = c.requires.few in
    let many = count c.args.rewind.now.run.program.threads in
    subst (λ (ids : List ℕ). length ids ≤ 64) (sym c.requires.ids_are) (omega (arith, few, many))

pub view_of-requires-clause-rising : goal.view_of-requires-clause-rising
view_of-requires-clause-rising c =
    subst (λ (ids : List ℕ). IsTrue (rises_from 0 ids)) (sym c.requires.ids_are)
    (rising c.args.rewind.now.run.program.threads)

pub view_of-requires-clause-shown : goal.view_of-requires-clause-shown
view_of-requires-clause-shown c =
    subst (λ (words : List ℕ). ShowsSome words) (sym c.image.ensures.words)
    (image_shows c.args.rewind.now c.requires.valid c.made-made.ensures.run c.image.ensures.shown)

pub returns : goal.returns
returns c =
    let table = c.args.rewind.now.run.table in
    let gives = c.image.ensures.shown.shows.layout in
    let look =
    c.in_ok-view.ensures table (subst (λ (ws : List ℕ). GivesLayout (words_of ws) table) (sym c.image.ensures.words) gives) in
    IfOk-weaker c.report_text.result _ _
    (λ text is. (
      c.in_ok-view.view,
      subst (λ (ws : List ℕ). look_view table (words_of ws) c.args.contexts.now ≡ Ok c.in_ok-view.view) c.image.ensures.words look,
      is,
    ))
    c.report_text.ensures
