use Rattle.std.proofs.Common.{[], length, refl, slice_index_or, arith, ◌∙◌}
use Rattle.omi_rewind.proofs.Stays.{few_copies, one_more_copy}
use Rattle.omi_rewind.proofs.rewind.Rewind.keep_copy.Goals as goal

pub overflow_mul-len : goal.overflow_mul-len
overflow_mul-len c =
    let few = few_copies _ _ _ _ _ c.self.invariant in let count = c.len.ensures in omega (arith, few, count)

pub invariant_of-self-in_ok-push : goal.invariant_of-self-in_ok-push
invariant_of-self-in_ok-push c =
    let full = c.if-steps-len.true in
    let steps = c.steps.ensures in
    let count = c.len.ensures in
    (one_more_copy
    (record { run = c.self.inside.core; how = c.self.inside.how; first = slice_index_or c.self.inside.copies.items 0 []; at = c.self.inside.at; copies = length c.self.inside.copies.items })
    _ c.self.inside.copies.items _ c.self.inside.image c.self.inside.draw c.self.inside.done c.self.invariant refl refl refl refl refl refl
    c.in_ok-same.field-0 c.in_ok-push.ensures.items (c.in_ok-same.ensures ∙ c.image.ensures.words) (omega (arith, full, steps, count))).0
