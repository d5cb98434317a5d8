use Rattle.std.proofs.Common.{◌≡◌, ◌≢◌, ◌+◌, ◌-◌, ◌<◌, ℕ, zero, suc, List, refl, ap, ◌∙◌, arith}
use Rattle.omi_layout.specs.declared.field.Field.TheVariants.{TaskSlots}
use Rattle.omi_step_words.specs.declared.plan.NewTask.{NewTask}
use Rattle.omi_step_words.specs.Plan.{task_plan, zero_in}
use Rattle.omi_step_words.proofs.plan.task_plan.Goals as goal

-- the slots and the words for groups come last, and but for that of the task's own group are stored as 0
slots_planned : (w : List ℕ) (t : NewTask) (k : ℕ) → k < 10 → k ≢ 4 → zero_in TaskSlots k ≡ task_plan w t (21 + k)
slots_planned w t zero less ne = refl
slots_planned w t (suc zero) less ne = refl
slots_planned w t (suc (suc zero)) less ne = refl
slots_planned w t (suc (suc (suc zero))) less ne = refl
slots_planned w t (suc (suc (suc (suc zero)))) less ne = absurd (ne refl)
slots_planned w t (suc (suc (suc (suc (suc zero))))) less ne = refl
slots_planned w t (suc (suc (suc (suc (suc (suc zero)))))) less ne = refl
slots_planned w t (suc (suc (suc (suc (suc (suc (suc zero))))))) less ne = refl
slots_planned w t (suc (suc (suc (suc (suc (suc (suc (suc zero)))))))) less ne = refl
slots_planned w t (suc (suc (suc (suc (suc (suc (suc (suc (suc zero))))))))) less ne = refl
slots_planned w t (suc (suc (suc (suc (suc (suc (suc (suc (suc (suc k)))))))))) less ne = absurd (omega (arith, less))

pub returns-then-word-ge-FIRST_SLOT-clause-planned : goal.returns-then-word-ge-FIRST_SLOT-clause-planned
returns-then-word-ge-FIRST_SLOT-clause-planned c =
    let less : c.args.word - 21 < 10 = omega (arith, c.requires.word) in
    let same : 21 + (c.args.word - 21) ≡ c.args.word = omega arith in
    let ne : c.args.word - 21 ≢ 4 = λ is. omega (arith, is, c.if-word, c.if-word-ge-FIRST_SLOT) in
    c.filled-then-word-ge-FIRST_SLOT.ensures ∙ slots_planned c.args.l.now.table c.args.t.now (c.args.word - 21) less ne
    ∙ ap (task_plan c.args.l.now.table c.args.t.now) same
