use Rattle.std.proofs.Common.{◌≡◌, ◌+◌, ◌<◌, ◌++◌, ◌∷◌, [], ℕ, length, take, arith, ap, ◌∙◌, append_assoc}
use Rattle.std.proofs.lemmas.List.{take_more}
use Rattle.std.proofs.lemmas.Option.{get_or_from_slice_get}
use Rattle.omi_model.specs.declared.id.Tid.{Tid}
use Rattle.omi_run_lists.proofs.teams.seat_team.Goals as goal

pub loop-at-preserved : goal.loop-at-preserved
loop-at-preserved c =
    let team = c.args.team.now in
    let at = c.loop-at.at in
    let member = c.get.result in
    let within : at < length team = omega arith in
    let one_more : take (at + 1) team ≡ take at team ++ member ∷ [] =
    take_more team at member within
    ∙ ap (λ (m : Tid × ℕ). take at team ++ m ∷ [])
    (get_or_from_slice_get team at member member c.get.ensures) in
    record {
      items = rw (c.push_reserved.ensures.items, c.loop-at.invariant.items, one_more)
          (append_assoc c.args.members.now.items (take at team) (member ∷ []));
      len = omega arith;
      capacity = c.push_reserved.ensures.capacity ∙ c.loop-at.invariant.capacity;
    }
