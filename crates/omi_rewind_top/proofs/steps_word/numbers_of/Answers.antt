use Rattle.std.proofs.Common.{◌∙◌, List, ℕ, ap, map, sym}
use Rattle.omi_rewind_top.proofs.Parts.{all_behind, numbers_behind}
use Rattle.omi_rewind_top.proofs.steps_word.numbers_of.Goals as goal

pub loop-part-init : goal.loop-part-init
loop-part-init c =
    sym (all_behind (map (λ p. p.now) c.args.parts.now))
    ∙ ap (λ (ns : List ℕ). numbers_behind ns (map (λ p. p.now) c.args.parts.now)) (sym c.new-steps.ensures.items)
