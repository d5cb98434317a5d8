use Rattle.std.proofs.Common.{subst}
use Rattle.omi_rewind.specs.Rewound.{IsRewound, Rewound}
use Rattle.omi_rewind.proofs.Stays.{rewound}
use Rattle.omi_rewind.proofs.rewind.Rewind.made.Goals as goal

pub returns-clause-run : goal.returns-clause-run
returns-clause-run c =
    subst (λ (z : Rewound). IsRewound z) c.self.view_is (rewound _ _ _ _ _ c.self.invariant c.made.ensures.history)
