use Rattle.std.proofs.Common.{ap, ◌∙◌, inl, inr}
use Rattle.omi_page.proofs.KeptPages.{kept_more}
use Rattle.omi_page.proofs.keeping.put_page.Goals as goal

pub returns-in-Ok-clause-pages : goal.returns-in-Ok-clause-pages
returns-in-Ok-clause-pages c = λ other items contained.
    elim (kept_more c.put.result c.args.kept.now c.put.new.self c.args.page other c.in-Ok.items items c.put.ensures.entries c.put.ensures.err contained) [
      | inl was ↦ inl was
      | inr put ↦ inr (put.0, ap (λ v. v.items) put.1 ∙ c.in-Ok.ensures.items)
    ]
