use Rattle.std.proofs.Common.{◌≡◌, ◌-◌, length, drop}
use Rattle.omi_model.specs.Teams.{member_task}
use Rattle.omi_machine.specs.NewMembers.{tasks_back}
use Rattle.omi_machine.proofs.new_teams.new_members.Given as goal

-- the tasks of the last members
abbrev pub invariant-loop-done : goal.invariant-loop-done
invariant-loop-done l =
    l.new ≡ tasks_back (member_task l.p l.region l.k l.t l.r l.f) (length l.team - l.done) (drop (length l.team - l.done) l.team)
