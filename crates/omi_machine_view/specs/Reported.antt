-- What is walked so far of the regions that are reported: those of the current tasks of threads, and those that enclose one.
use Rattle.std.specs.Prelude.{◌≡◌, ◌⊎◌, ℕ, List, [], ◌∷◌, ◌++◌, Option, Some, Contains}
use Rattle.std.specs.Option.{option_map, option_and_then}
use Rattle.omi_model.specs.declared.id.Id.{Id}
use Rattle.omi_model.specs.declared.id.Rid.{Rid}
use Rattle.omi_model.specs.declared.region.Region.{Region}
use Rattle.omi_model.specs.declared.task.Task.{Task}
use Rattle.omi_model.specs.declared.view.RegionRow.{RegionRow}
use Rattle.omi_model.specs.State.{State, region_of, current_task, enclosing_of}
use Rattle.omi_model.specs.Views.{IsReported, region_row}
use Rattle.omi_model.specs.WellFormed.{along}
use Rattle.omi_machine_view.specs.Marks.{WasMet}

-- the name of a region
abbrev pub region_name : Id → Rid
region_name n = record { 0 = n }

abbrev pub IsLive : State → Rid → Type 0
IsLive s n = (r : Region) × (region_of s n ≡ Some r)

-- the region of a thread's current task
abbrev pub root_of : State → ℕ → Option Rid
root_of s i = option_map (λ t. t.region) (current_task s i)

-- All live regions are met that are reported of these threads, and no other ones.
pub record AreMet (s : State) (threads : List ℕ) (met : List (Option Id)) : Type 0 where
  pub live : (n : Id) → WasMet met n → IsLive s (region_name n)
  pub reported : (n : Id) → WasMet met n → IsReported s threads (region_name n)
  pub closed : (n : Id) (o : Rid) → WasMet met n → enclosing_of s (region_name n) ≡ Some o
      → IsLive s o → WasMet met o.0
  pub roots : (i : ℕ) (o : Rid) → Contains threads i → root_of s i ≡ Some o → IsLive s o
      → WasMet met o.0

-- A walk from the region of one more thread has come to a region: all else is met.
pub record AreMetBut (s : State) (threads : List ℕ) (i : ℕ) (met : List (Option Id)) (at : Option Rid) : Type 0 where
  pub live : (n : Id) → WasMet met n → IsLive s (region_name n)
  pub reported : (n : Id) → WasMet met n → IsReported s (threads ++ i ∷ []) (region_name n)
  pub closed : (n : Id) (o : Rid) → WasMet met n → enclosing_of s (region_name n) ≡ Some o
      → IsLive s o → WasMet met o.0 ⊎ (at ≡ Some o)
  pub roots : (j : ℕ) (o : Rid) → Contains (threads ++ i ∷ []) j → root_of s j ≡ Some o → IsLive s o
      → WasMet met o.0 ⊎ (at ≡ Some o)
  pub steps : ℕ
  pub here : along (enclosing_of s) steps (root_of s i) ≡ at

-- the row of the region that was met at a place, where it is live
abbrev pub row_met : State → Option Id → Option RegionRow
row_met s met =
    option_and_then (λ n. option_map (region_row (region_name n)) (region_of s (region_name n))) met
