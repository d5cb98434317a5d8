use Rattle.std.proofs.Common.{sym, ap, ◌∙◌}
use Rattle.omi_page.proofs.Telling.{tells_symbols}
use Rattle.omi_page.proofs.pages.PagesCallbacks.symbol_addr_lookup.Goals as goal

pub returns-in-Ok-Some-clause-symbol : goal.returns-in-Ok-Some-clause-symbol
returns-in-Ok-Some-clause-symbol g c = λ symbols told.
    let t = tells_symbols (g.F.Files.told c.args.self.now.files.now c.args.self.now.name.now) symbols told in
    ap (λ s. s c.args.name.now) (sym t.symbols_are)
    ∙ sym (sym c.in-Ok-Some.field-0-is ∙ c.in-Ok-Some.ensures.symbol t.words t.rest t.told_words)

pub returns-in-Ok-None-clause-symbol : goal.returns-in-Ok-None-clause-symbol
returns-in-Ok-None-clause-symbol g c = λ symbols told.
    let t = tells_symbols (g.F.Files.told c.args.self.now.files.now c.args.self.now.name.now) symbols told in
    ap (λ s. s c.args.name.now) (sym t.symbols_are)
    ∙ sym (sym c.in-Ok-None.field-0-is ∙ c.in-Ok-None.ensures.symbol t.words t.rest t.told_words)
