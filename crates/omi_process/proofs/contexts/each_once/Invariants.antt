use Rattle.std.proofs.Common.{◌≡◌, ℕ, drop}
use Rattle.std.specs.Prelude.{◌||◌}
use Rattle.std.specs.BTreeSet.{contains}
use Rattle.std.specs.Ordering.{nat_cmp}
use Rattle.omi_process.specs.Contexts.{has}
use Rattle.omi_process.proofs.contexts.each_once.Given as goal

-- an id is in the set, or among those that are left, where it is among all
abbrev pub invariant-loop-id : goal.invariant-loop-id
invariant-loop-id l =
    (id : ℕ) → contains nat_cmp l.set id || has (drop l.id-index l.ids) id ≡ has l.ids id
