use Rattle.std.proofs.Common.{◌≡◌, ◌≤◌, [], length, slice_index_or, subst, sym}
use Rattle.omi_rewind.specs.Rewound.{Rewound, steps_in, words_at}
use Rattle.omi_rewind.proofs.Stays.{other_image}
use Rattle.omi_rewind.proofs.rewind.Rewind.put_image.Goals as goal

pub invariant_of-self : goal.invariant_of-self
invariant_of-self c =
    other_image
    (record { run = c.self.inside.core; how = c.self.inside.how; first = slice_index_or c.self.inside.copies.items 0 []; at = c.self.inside.at; copies = length c.self.inside.copies.items })
    c.args.at _ _ c.args.image _ _ c.self.invariant
    (subst (λ (z : Rewound). c.args.at ≤ steps_in z) (sym c.self.view_is) c.requires.within)
    (subst (λ (z : Rewound). c.args.image ≡ words_at z c.args.at) (sym c.self.view_is) c.requires.words)
