use Rattle.std.proofs.Common.{◌≡◌, ◌<◌, ◌+◌, ◌*◌, ◌∙◌, [], length, None, slice_index_or, sym, ap, subst}
use Rattle.omi_core.specs.Schedules.{IsListed, next_draw, thread_at}
use Rattle.omi_run_lists.specs.Steps.{Steps}
use Rattle.omi_rewind.specs.declared.limits.TheConstants.{COPY_EVERY, LAST_STEP}
use Rattle.omi_rewind.specs.Rewound.{Rewound, done_in, steps_in}
use Rattle.omi_rewind.proofs.Stepped.{stepped_done, stepped_on, thread_below}
use Rattle.omi_rewind.proofs.rewind.Rewind.make_step.Goals as goal

pub step-entry-requires-clause-thread : goal.step-entry-requires-clause-thread
step-entry-requires-clause-thread c =
    thread_below c.self.inside.how c.self.inside.core.program _ _ _ c.threads-threads.ensures.threads _ c.steps.ensures
    (subst (λ (z : Rewound). IsListed z.how z.run.program.threads (steps_in z + 1)) (sym c.self.view_is) c.requires.listed)
    c.thread_at-thread.ensures

pub invariant_of-self : goal.invariant_of-self
invariant_of-self c =
    stepped_done
    (record { run = c.self.inside.core; how = c.self.inside.how; first = slice_index_or c.self.inside.copies.items 0 []; at = c.self.inside.at; copies = length c.self.inside.copies.items })
    _ _ _ _ c.self.invariant c.step-entry.new.self _ c.step-entry.result c.step-entry.ensures.entry c.made.ensures.history
    (subst (λ (z : Rewound). done_in z.run.events.items ≡ None) (sym c.self.view_is) c.requires.going)
    (subst (λ (z : Rewound). steps_in z < LAST_STEP) (sym c.self.view_is) c.requires.few)
    (subst (λ (z : Rewound). steps_in z < z.copies * COPY_EVERY) (sym c.self.view_is) c.requires.copied)
    (c.thread_at-thread.ensures
    ∙ ap (λ t. thread_at c.self.inside.how t c.steps.result) c.threads-threads.ensures.threads
    ∙ ap (λ n. thread_at c.self.inside.how c.self.inside.core.program.threads n) c.steps.ensures)
    _ (c.next_draw-self-inside.ensures ∙ ap (λ t. next_draw c.self.inside.how t c.self.inside.draw) c.threads-threads.ensures.threads)
    _ (c.len-step.ensures ∙ ap (λ (s : Steps). length s.items) c.made.ensures.made) (sym c.is_done.ensures ∙ c.if-is_done.true)

pub invariant_of-self-else-is_done : goal.invariant_of-self-else-is_done
invariant_of-self-else-is_done c =
    stepped_on
    (record { run = c.self.inside.core; how = c.self.inside.how; first = slice_index_or c.self.inside.copies.items 0 []; at = c.self.inside.at; copies = length c.self.inside.copies.items })
    _ _ _ _ c.self.invariant c.step-entry.new.self _ c.step-entry.result c.step-entry.ensures.entry c.made.ensures.history
    (subst (λ (z : Rewound). done_in z.run.events.items ≡ None) (sym c.self.view_is) c.requires.going)
    (subst (λ (z : Rewound). steps_in z < LAST_STEP) (sym c.self.view_is) c.requires.few)
    (subst (λ (z : Rewound). steps_in z < z.copies * COPY_EVERY) (sym c.self.view_is) c.requires.copied)
    (c.thread_at-thread.ensures
    ∙ ap (λ t. thread_at c.self.inside.how t c.steps.result) c.threads-threads.ensures.threads
    ∙ ap (λ n. thread_at c.self.inside.how c.self.inside.core.program.threads n) c.steps.ensures)
    _ (c.next_draw-self-inside.ensures ∙ ap (λ t. next_draw c.self.inside.how t c.self.inside.draw) c.threads-threads.ensures.threads)
    (sym c.is_done.ensures ∙ c.if-is_done.false)
