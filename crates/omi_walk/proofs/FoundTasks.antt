-- The chains of the threads that were found, one after the other.
use Rattle.std.proofs.Common.{◌≡◌, ◌≤◌, ℕ, List, [], Option, Some, None, length, map, drop, ap, subst}
use Rattle.std.specs.Prelude.{IfSome, All, slice_get}
use Rattle.std.proofs.lemmas.List.{drop_all}
use Rattle.std.proofs.lemmas.List.Elements.{All-get_or}
use Rattle.std.proofs.lemmas.Option.{slice_get_within, get_or_from_slice_get}
use Rattle.omi_calls.specs.Told.{Told}
use Rattle.omi_handle.specs.declared.handle.Kind.TheVariants.{Task}
use Rattle.omi_session.specs.Opened.{Opened, Stays}
use Rattle.omi_walk.specs.declared.found.Found.{Found}
use Rattle.omi_walk.specs.declared.met.Met.{Met}
use Rattle.omi_walk.specs.FoundThreads.{IsFound}
use Rattle.omi_walk.specs.Objects.{IsMet}
use Rattle.omi_walk.proofs.Steps.{met_after}

-- and past the last there is none
pub no_thread : (found : List Found) (at : ℕ) → length found ≤ at → map (λ f. f.thread) (drop at found) ≡ []
no_thread found at over = ap (map (λ f. f.thread)) (drop_all at found over)

module _ {C F : Type 0} (told : C → Told) (s : Opened C F) where
  -- each of them was found
  pub found_at : (found : List Found) (at : ℕ) (f : Found) → slice_get found at ≡ Some f
      → All (IsFound told s) found → IsFound told s f
  found_at found at f here all =
      subst (IsFound told s) (get_or_from_slice_get found at f f here)
      (All-get_or (IsFound told s) found at f (slice_get_within found at f here) all)

  -- a current task that was met still lives
  pub current_after : (t : Opened C F) (o : Option Met) → Stays told s t → IfSome o (IsMet told s Task)
      → IfSome o (IsMet told t Task)
  current_after t None stays met = met
  current_after t (Some m) stays met = met_after told s t Task m stays met
