use Rattle.std.proofs.Common.{Some, ap, ◌∙◌}
use Rattle.omi_page.specs.Borrowed.{told_of}
use Rattle.omi.proofs.Turned.{turned_number, zero_told}
use Rattle.omi.proofs.lowest_first.LowestFirstCallbacks.read_memory.Goals as goal

pub returns-then-order-ne0-clause-bytes : goal.returns-then-order-ne0-clause-bytes
returns-then-order-ne0-clause-bytes g c = λ words rest order told told_order got.
    let known =
    zero_told (told_of c.args.self.now.pages).order order c.order.result told_order
    (λ other is. c.order.ensures.told.agrees other (ap (λ t. t.order) c.read_memory-got.ensures.same ∙ is)) in
    c.read_memory-got.ensures.bytes words rest c.order.result told known.1 got
    ∙ ap (λ n. Some n) (turned_number order c.order.result c.read_memory-got.new.to c.reverse.new.self known.0 c.if-order-ne0.true c.read_memory-got.array_long c.reverse.ensures.by_index)
