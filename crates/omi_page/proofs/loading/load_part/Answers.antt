use Rattle.std.proofs.Common.{◌-◌, ◌+◌, take, drop, arith, ap, ◌∙◌}
use Rattle.omi_page.proofs.Placing.{part_here, part_others, part_length}
use Rattle.omi_page.proofs.Answering.{on_ok}
use Rattle.omi_page.proofs.loading.load_part.Goals as goal

pub returns-clause-here : goal.returns-clause-here
returns-clause-here g c = λ bytes told.
    let long =
    part_length c.args.base c.max-low.result c.min-high.result c.args.buffer.now
    (omega (arith, c.max-low.ensures)) (omega (arith, c.min-high.ensures)) c.requires.length in
    on_ok c.fill.result _ _ (λ read offset at aligned within there.
    part_here c.args.span.now c.args.base c.max-low.result c.min-high.result c.args.buffer.now c.fill.new.to bytes offset at
    (record { aligned = c.requires.aligned; low_is = c.max-low.ensures; high_is = c.min-high.ensures; some = c.if-low-high.false; room = c.requires.length; fits = c.fill.ensures.length ∙ long })
    (read ∙ ap (λ n. take n (drop (c.args.span.now.place + (c.max-low.result - c.args.span.now.start)) bytes)) long) aligned within there) (c.fill.ensures.bytes bytes told)

pub returns-clause-others : goal.returns-clause-others
returns-clause-others g c = λ offset aligned within none.
    let long =
    part_length c.args.base c.max-low.result c.min-high.result c.args.buffer.now
    (omega (arith, c.max-low.ensures)) (omega (arith, c.min-high.ensures)) c.requires.length in
    part_others c.args.span.now c.args.base c.max-low.result c.min-high.result c.args.buffer.now c.fill.new.to offset
    (record { aligned = c.requires.aligned; low_is = c.max-low.ensures; high_is = c.min-high.ensures; some = c.if-low-high.false; room = c.requires.length; fits = c.fill.ensures.length ∙ long })
    aligned within none
