-- Each step of a parallel construct keeps the rule.
use Rattle.std.proofs.Common.{◌≡◌, ℕ, List}
use Rattle.omi_script.specs.declared.program.Program.{Program}
use Rattle.omi_model.specs.declared.event.Event.{Event}
use Rattle.omi_model.specs.State.{State}
use Rattle.omi_layout.specs.Memory.{Memory}
use Rattle.omi_pc.specs.declared.actor.Actor.{Actor}
use Rattle.omi_pc.specs.declared.counter.Counter.TheVariants as counter
use Rattle.omi_pc.specs.declared.team_counter.TeamCounter.{TeamCounter}
use Rattle.omi_pc.specs.declared.team_counter.TeamCounter.TheVariants as team
use Rattle.omi_fork.specs.TeamSteps.{team_moved, team_next, team_outcome}
use Rattle.omi_rule.specs.Steps.{StepKeeps}
use Rattle.omi_rule.proofs.Assembly.{Before}
use Rattle.omi_rule.proofs.team.Asks.{ask_keeps}
use Rattle.omi_rule.proofs.team.Assigns.{assign_keeps}
use Rattle.omi_rule.proofs.team.Forks.{fork_keeps}
use Rattle.omi_rule.proofs.team.Loads.{active_keeps, levels_keep, variable_keeps}
use Rattle.omi_rule.proofs.team.Overheads.{overhead_keeps}
use Rattle.omi_rule.proofs.team.Regions.{region_fill_keeps, region_take_keeps}
use Rattle.omi_rule.proofs.team.Searches.{region_search_keeps, task_search_keeps}
use Rattle.omi_rule.proofs.team.Tasks.{member_store_keeps, task_fill_keeps, task_take_keeps}
use Rattle.omi_rule.proofs.team.Wants.{want_keeps}

module _ (p : Program) (w : List ℕ) (m : Memory) (events : List (ℕ × Event)) (s : State) (actors : ℕ → Actor)
    (i : ℕ) (before : Before p w m events s actors i) where
  pub team_keeps : (c : TeamCounter) → (actors i).counter ≡ counter.Team c
      → StepKeeps p w m events s actors i (team_next p w (actors i) c) (λ old. (team_moved p w (actors i) c old, team_outcome p w (actors i) c old))
  team_keeps team.OverheadState at = overhead_keeps p w m events s actors i before at
  team_keeps team.LoadLevels at = levels_keep p w m events s actors i before at
  team_keeps team.LoadActive at = active_keeps p w m events s actors i before at
  team_keeps (team.LoadVariable word) at = variable_keeps p w m events s actors i before word at
  team_keeps team.Want at = want_keeps p w m events s actors i before at
  team_keeps team.Ask at = ask_keeps p w m events s actors i before at
  team_keeps (team.LoadRegionLife slot) at = region_search_keeps p w m events s actors i before slot at
  team_keeps (team.TakeRegion r) at = region_take_keeps p w m events s actors i before r at
  team_keeps (team.FillRegion r word) at = region_fill_keeps p w m events s actors i before r word at
  team_keeps (team.LoadTaskLife r member slot) at =
      task_search_keeps p w m events s actors i before r member slot at
  team_keeps (team.TakeTask r member t) at = task_take_keeps p w m events s actors i before r member t at
  team_keeps (team.FillTask r member t word) at =
      task_fill_keeps p w m events s actors i before r member t word at
  team_keeps (team.StoreMember r member t) at =
      member_store_keeps p w m events s actors i before r member t at
  team_keeps (team.Fork r) at = fork_keeps p w m events s actors i before r at
  team_keeps (team.Assign member) at = assign_keeps p w m events s actors i before member at
