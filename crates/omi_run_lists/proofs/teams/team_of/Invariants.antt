use Rattle.std.proofs.Common.{◌≡◌, take}
use Rattle.omi_run_lists.proofs.teams.team_of.Given as goal

-- the team has the members that were passed
abbrev pub invariant-loop-member : goal.invariant-loop-member
invariant-loop-member l = l.team ≡ take l.member-index l.members
