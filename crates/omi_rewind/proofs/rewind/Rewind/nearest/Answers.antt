use Rattle.std.proofs.Common.{◌≡◌, ◌<◌, ◌*◌, ◌∙◌, [], ap, length, slice_index_or, subst, arith}
use Rattle.std.proofs.lemmas.List.{get_or_default}
use Rattle.omi_rewind.specs.declared.limits.TheConstants.{COPY_EVERY}
use Rattle.omi_rewind.specs.Rewound.{Rewound, words_at}
use Rattle.omi_rewind.proofs.rewind.Rewind.nearest.Goals as goal

pub returns-clause-words : goal.returns-clause-words
returns-clause-words c =
    let some = c.self.invariant.some in
    let count = c.len.ensures in
    let copy = c.min-copy.ensures in
    let below : c.min-copy.result < length c.self.inside.copies.items = grind (arith, some, count, copy) in
    let same : c.min-copy.result * COPY_EVERY ≡ 65536 * c.min-copy.result = omega arith in
    subst (λ (z : Rewound). c.in_ok-image.image ≡ words_at z (65536 * c.min-copy.result)) c.self.view_is
    (c.in_ok-image.ensures
    ∙ c.index.ensures
    ∙ get_or_default c.self.inside.copies.items c.min-copy.result c.index.result.now [] below
    ∙ (c.self.invariant.copied c.min-copy.result below).copy
    ∙ ap (words_at (record { run = c.self.inside.core; how = c.self.inside.how; first = slice_index_or c.self.inside.copies.items 0 []; at = c.self.inside.at; copies = length c.self.inside.copies.items })) same)
