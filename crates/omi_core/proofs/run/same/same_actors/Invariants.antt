use Rattle.std.proofs.Common.{◌≡◌, take}
use Rattle.omi_core.proofs.run.same.same_actors.Given as goal

abbrev pub invariant-loop-actor : goal.invariant-loop-actor
invariant-loop-actor l = l.copies.items ≡ take l.actor-index l.actors
