use Rattle.std.proofs.Common.{refl, sym, ap, ◌∙◌, Some}
use Rattle.omi_corefile.specs.ByteOrder.{number_of}
use Rattle.omi_page.proofs.Telling.{told_order}
use Rattle.omi_page.proofs.pages.Pages.word.Goals as goal

pub returns-in-Bytes-clause-word : goal.returns-in-Bytes-clause-word
returns-in-Bytes-clause-word g c = λ words rest told.
    let order =
    told_order _ c.args.self.now.order c.args.self.now.contexts c.args.self.now.spans words rest told c.args.self.now.parts in
    ap (λ n. Some n) c.number_of.ensures
    ∙ ap (λ o. Some (number_of o c.read_word.new.to)) c.order-order.ensures.order
    ∙ sym (c.in-Bytes.ensures.bytes words rest c.args.self.now.order told order refl)
