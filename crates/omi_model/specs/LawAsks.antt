-- Teams: a team has the asking thread and the threads that joined, in the order of asking, and no more than are wanted; where it has fewer, each other thread was asked and is in the team or was found busy.
use Rattle.std.specs.Prelude.{◌≡◌, ◌≢◌, ◌⊎◌, ◌<◌, ◌≤◌, ℕ, List, ◌∷◌, length, map, max, false, Contains}
use Rattle.omi_script.specs.declared.program.Program.{Program}
use Rattle.omi_model.specs.declared.event.Event.{Event}
use Rattle.omi_model.specs.declared.event.Event.TheVariants as event
use Rattle.omi_model.specs.declared.id.Rid.{Rid}
use Rattle.omi_model.specs.declared.id.Tid.{Tid}
use Rattle.omi_model.specs.Reached.{Reached}
use Rattle.omi_model.specs.Rules.{Legal}
use Rattle.omi_model.specs.State.{State}
use Rattle.omi_model.specs.Teams.{got_threads}

-- the team that thread i forks
pub record HasAskedTeam (s : State) (i : ℕ) (team : List (Tid × ℕ)) : Type 0 where
  pub threads : map (λ m. m.1) team ≡ i ∷ got_threads (s.threads i).asks
  pub most : length team ≤ max 1 (s.threads i).wanted
  pub few : length team ≤ s.count
  pub others : (length team ≡ (s.threads i).wanted) ⊎ ((w : ℕ) → w < s.count → w ≢ i
      → Contains (map (λ m. m.1) team) w ⊎ Contains (s.threads i).asks (w, false))

-- where a fork is legal
abbrev pub TeamsAreAsked : Type 0
TeamsAreAsked = (p : Program) (events : List (ℕ × Event)) (s : State) → Reached p events s
    → (i : ℕ) (region : Rid) (team : List (Tid × ℕ)) → Legal p s i (event.Fork region team)
    → HasAskedTeam s i team
