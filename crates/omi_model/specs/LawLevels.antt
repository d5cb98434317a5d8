-- Levels: a region is one level deeper than the region that encloses it, and one active level deeper where its team has more than one thread; the chain of enclosing regions ends.
use Rattle.std.specs.Prelude.{◌≡◌, ℕ, ◌+◌, nat_lt, List, length, Some, MatchOption, if◌then◌else◌}
use Rattle.omi_script.specs.declared.program.Program.{Program}
use Rattle.omi_model.specs.declared.event.Event.{Event}
use Rattle.omi_model.specs.declared.id.Rid.{Rid}
use Rattle.omi_model.specs.declared.region.Region.{Region}
use Rattle.omi_model.specs.Reached.{Reached}
use Rattle.omi_model.specs.State.{State, enclosing_of, region_of}
use Rattle.omi_model.specs.WellFormed.{Ends}

-- region r stands directly in region q
pub record IsEnclosedIn (r q : Region) : Type 0 where
  pub levels : r.levels ≡ q.levels + 1
  pub active : r.active ≡ q.active + (if nat_lt 1 (length r.team) then 1 else 0)

-- the levels of a region: 0 where nothing encloses it, else by the region that encloses it
abbrev pub AreLevelsRight : State → Region → Type 0
AreLevelsRight s r = MatchOption r.enclosing ((r.levels ≡ 0) × (r.active ≡ 0))
    (λ o. (q : Region) × (region_of s o ≡ Some q) × IsEnclosedIn r q)

pub record StandsInChain (s : State) (r : Region) : Type 0 where
  pub levels : AreLevelsRight s r
  pub ends : Ends (enclosing_of s) r.enclosing

-- in every reached state
abbrev pub LevelsCountRegions : Type 0
LevelsCountRegions = (p : Program) (events : List (ℕ × Event)) (s : State) → Reached p events s
    → (n : Rid) (r : Region) → region_of s n ≡ Some r → StandsInChain s r
