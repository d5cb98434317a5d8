use Rattle.std.proofs.Common.{[], length, slice_index_or, ◌≡◌, ◌+◌, ◌∙◌, ℕ, sym, ap, subst}
use Rattle.std.specs.Prelude.{slice_get}
use Rattle.omi_run_lists.specs.Steps.{Steps}
use Rattle.omi_word.specs.Memory.{IsWordOf, address_of, words_after}
use Rattle.omi_rewind.specs.Rewound.{Rewound, words_at}
use Rattle.omi_rewind.proofs.Fronts.{words_next}
use Rattle.omi_rewind.proofs.Stays.{op_inside}
use Rattle.omi_rewind.proofs.rewind.Rewind.op_at.Goals as goal

pub returns-clause-after : goal.returns-clause-after
returns-clause-after c =
    let here = ap (λ (s : Steps). slice_get s.items c.args.made) (sym c.made.ensures.made) ∙ c.get.ensures in
    subst (λ (z : Rewound). words_at z (c.args.made + 1) ≡ words_after (words_at z c.args.made) c.get.result.op)
    c.self.view_is (words_next (record { run = c.self.inside.core; how = c.self.inside.how; first = slice_index_or c.self.inside.copies.items 0 []; at = c.self.inside.at; copies = length c.self.inside.copies.items }) c.args.made c.get.result here)

pub returns-clause-inside : goal.returns-clause-inside
returns-clause-inside c =
    let here = ap (λ (s : Steps). slice_get s.items c.args.made) (sym c.made.ensures.made) ∙ c.get.ensures in
    subst (λ (z : Rewound). (n : ℕ) → IsWordOf (words_at z n) (address_of c.get.result.op)) c.self.view_is
    (op_inside (record { run = c.self.inside.core; how = c.self.inside.how; first = slice_index_or c.self.inside.copies.items 0 []; at = c.self.inside.at; copies = length c.self.inside.copies.items }) c.self.invariant.opens c.made.ensures.history c.args.made c.get.result here)
