-- What a step answers, without the members of a team.
use Rattle.std.specs.Prelude.{ℕ, List}
use Rattle.omi_model.specs.declared.id.Tid.{Tid}
use Rattle.omi_rep.specs.declared.outcome.Outcome.{Outcome}
use Rattle.omi_rep.specs.declared.outcome.Outcome.TheVariants as outcome
use Rattle.omi_pc.specs.declared.actor.Actor.{Actor}
use Rattle.omi_run_lists.specs.Compact.{with_team}
use Rattle.omi_step_words.specs.declared.outcomes.CompactOutcome.{CompactOutcome}
use Rattle.omi_step_words.specs.declared.outcomes.CompactOutcome.TheVariants as compact

-- the outcome with the members of a team, which a fork takes
abbrev pub outcome_with : List (Tid × ℕ) → CompactOutcome → Outcome
outcome_with team compact.Quiet = outcome.Quiet
outcome_with team (compact.Event e) = outcome.Event (with_team team e)
outcome_with team (compact.NotReady addr word) = outcome.NotReady addr word
outcome_with team compact.Ended = outcome.Ended

-- the outcome of a step of this actor, whose registers have the members of the team that is forked
abbrev pub outcome_of : Actor → CompactOutcome → Outcome
outcome_of a o = outcome_with a.gathered.team o
