use Rattle.std.proofs.Common.{◌∙◌, ◌++◌, ◌∷◌, [], ℕ, List, ap}
use Rattle.omi_rewind.proofs.Opened.{is_opened, opened}
use Rattle.omi_rewind.proofs.rewind.Rewind.opening.Goals as goal

pub invariant_of-result : goal.invariant_of-result
invariant_of-result c =
    opened c.args.p c.args.l.table c.in_ok-core.core c.in_ok-core.ensures c.made-made.ensures.history c.args.how c.push.new.self.items
    (c.in_ok-push.ensures.items
    ∙ ap (λ (l : List (List ℕ)). l ++ c.in_ok-same.field-0 ∷ []) c.new-copies.ensures.items
    ∙ ap (λ (x : List ℕ). x ∷ []) (c.in_ok-same.ensures ∙ c.image.ensures.words))
    c.in_ok-image.image c.first_draw-draw.result (c.in_ok-image.ensures ∙ c.image-2.ensures.words) c.first_draw-draw.ensures

pub returns : goal.returns
returns c =
    is_opened c.args.p c.args.l.table c.in_ok-core.core c.in_ok-core.ensures c.made-made.ensures.history c.args.how c.push.new.self.items
    (c.in_ok-push.ensures.items
    ∙ ap (λ (l : List (List ℕ)). l ++ c.in_ok-same.field-0 ∷ []) c.new-copies.ensures.items
    ∙ ap (λ (x : List ℕ). x ∷ []) (c.in_ok-same.ensures ∙ c.image.ensures.words))
