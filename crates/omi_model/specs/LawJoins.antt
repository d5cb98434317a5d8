-- Joins: in a region that was joined every member but member 0 has ended.
use Rattle.std.specs.Prelude.{◌≡◌, ℕ, List, true, drop, Some, All}
use Rattle.omi_script.specs.declared.program.Program.{Program}
use Rattle.omi_model.specs.declared.event.Event.{Event}
use Rattle.omi_model.specs.declared.id.Rid.{Rid}
use Rattle.omi_model.specs.declared.region.Region.{Region}
use Rattle.omi_model.specs.Reached.{Reached}
use Rattle.omi_model.specs.State.{State, region_of}

abbrev pub IsJoinedLast : Region → Type 0
IsJoinedLast r = r.joined ≡ true → All (λ b. b ≡ true) (drop 1 r.ended)

-- in every reached state
abbrev pub JoinsComeLast : Type 0
JoinsComeLast = (p : Program) (events : List (ℕ × Event)) (s : State) → Reached p events s
    → (n : Rid) (r : Region) → region_of s n ≡ Some r → IsJoinedLast r
