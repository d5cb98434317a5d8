use Rattle.std.proofs.Common.{◌++◌, ◌∷◌, [], ◌∙◌, sym, ap}
use Rattle.omi_script.specs.Reach.{reach_of, reaches}
use Rattle.omi_script.proofs.ReachLemmas.{groups_shallow_closed, shallow_closed, known_more}
use Rattle.omi_script.proofs.closed.Closed.with.Goals as goal

pub reach_of-reach-requires-clause-depth : goal.reach_of-reach-requires-clause-depth
reach_of-reach-requires-clause-depth c =
    shallow_closed c.self.inside.funcs c.deref.result.now (c.deref.ensures.value ∙ c.self.invariant)

pub reach_of-reach-requires-clause-groups : goal.reach_of-reach-requires-clause-groups
reach_of-reach-requires-clause-groups c =
    groups_shallow_closed c.self.inside.funcs c.deref.result.now (c.deref.ensures.value ∙ c.self.invariant)

pub invariant_of-result : goal.invariant_of-result
invariant_of-result c =
    let reach =
    c.reach_of-reach.ensures
    ∙ ap (reach_of c.deref.result.now) c.as_slice.ensures
    ∙ ap (λ ks. reach_of ks c.args.f.body) c.deref.ensures.value in
    c.in_ok-push.ensures.items
    ∙ ap (λ r. c.self.inside.known.items ++ r ∷ []) reach
    ∙ sym (known_more c.self.inside.known.items c.self.inside.funcs c.args.f c.self.invariant)
    ∙ sym (ap (reaches []) c.in_ok-push-2.ensures.added)
