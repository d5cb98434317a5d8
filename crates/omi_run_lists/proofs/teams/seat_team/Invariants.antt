use Rattle.std.proofs.Common.{◌≡◌, ◌++◌, take, vec_capacity, vec_len, ◌+◌}
use Rattle.omi_run_lists.proofs.teams.seat_team.Given as goal

-- the members of the team that were passed stand behind the others
abbrev pub invariant-loop-at : goal.invariant-loop-at
invariant-loop-at l = record {
  items : l.members.items ≡ l.initial.members.items ++ take l.at l.team;
  len : vec_len l.members ≡ vec_len l.initial.members + l.at;
  capacity : vec_capacity l.members ≡ vec_capacity l.initial.members;
}
