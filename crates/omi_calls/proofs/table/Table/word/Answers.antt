use Rattle.std.proofs.Common.{◌≡◌, ap, sym, ◌∙◌, Some}
use Rattle.omi_corefile.specs.ByteOrder.{number_of}
use Rattle.omi_calls.proofs.table.Table.word.Goals as goal

pub returns-clause-word : goal.returns-clause-word
returns-clause-word g c = λ words rest order are is.
    let here = ap (λ k. g.C.Callbacks.told k.calls) c.self.view_is in
    let told = ap (λ t. t.order) here ∙ is in
    let same : order ≡ c.self.inside.order = c.self.invariant.is_order.agrees order told in
    ap (λ n. Some n)
    (c.number.ensures c.self.inside.order c.self.invariant.gives_numbers ∙ ap (λ o. number_of o c.read_memory.new.to) (sym same))
    ∙ sym (c.read_memory.ensures.bytes words rest order (ap (λ t. t.words rest) here ∙ are) told c.in-Bytes.is)
