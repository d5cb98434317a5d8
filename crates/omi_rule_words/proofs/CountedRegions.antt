-- The record of a region keeps it in another state, and where other things are owed, if the two counts come out the same.
use Rattle.std.proofs.Common.{◌≡◌, ◌+◌, ℕ, List, arith}
use Rattle.omi_model.specs.declared.id.Rid.{Rid}
use Rattle.omi_model.specs.declared.region.Region.{Region}
use Rattle.omi_model.specs.State.{State}
use Rattle.omi_layout.specs.Memory.{Rec}
use Rattle.omi_rule_words.specs.Owes.{Owed}
use Rattle.omi_rule_words.specs.Counts.{left_owed, pending_owed, sum_of_owed, unfinished_in}
use Rattle.omi_rule_words.specs.Objects.{KeepsRegion}

pub region_counted : (w : List ℕ) (s u : State) (owes other : ℕ → Owed) (n : Rid) (r : Rec) (x : Region)
    → unfinished_in w u n + sum_of_owed u other (pending_owed n) ≡ unfinished_in w s n + sum_of_owed s owes (pending_owed n)
    → sum_of_owed u other (left_owed n) ≡ sum_of_owed s owes (left_owed n) → KeepsRegion w s owes n r x → KeepsRegion w u other n r x
region_counted w s u owes other n r x pending left o = record {
  codes = o.codes;
  pending = let was = o.pending in omega (arith, was, pending);
  left = let was = o.left in omega (arith, was, left);
}
