use Rattle.std.proofs.Common.{ℕ, List, Some, ap, ◌∙◌}
use Rattle.std.specs.Prelude.{slice_get}
use Rattle.omi_corefile.proofs.FileLaws.{parts_of}
use Rattle.omi_page.proofs.OpenedFiles.{core_parts}
use Rattle.omi_page.proofs.Telling.{no_other_order}
use Rattle.omi_page.proofs.pages.Pages.order.Goals as goal

pub returns-clause-told : goal.returns-clause-told
returns-clause-told g c = record {
  known = c.args.self.now.known;
  agrees = λ other told. no_other_order _ c.args.self.now.order c.args.self.now.contexts c.args.self.now.spans other c.args.self.now.parts told;
}

pub returns-clause-byte : goal.returns-clause-byte
returns-clause-byte g c = λ bytes holds core.
    let are = c.args.self.now.parts bytes (parts_of core.0) holds (core_parts bytes core.0 core.1) in
    ap (λ (b : List ℕ). slice_get b 9) core.1 ∙ ap (λ (o : ℕ). Some o) are.order_is
