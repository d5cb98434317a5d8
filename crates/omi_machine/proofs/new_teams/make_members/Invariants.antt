use Rattle.std.proofs.Common.{◌≡◌, ℕ}
use Rattle.omi_model.specs.declared.task.Task.{Task}
use Rattle.omi_machine.specs.Kept.{slots_of}
use Rattle.omi_machine.specs.KeptSlots.{AreKept}
use Rattle.omi_machine.specs.NewMembers.{tasks_back}
use Rattle.omi_machine.proofs.TeamsMade.{IsMaking}
use Rattle.omi_machine.proofs.new_teams.make_members.Given as goal

-- the tasks of the members so far have begun
abbrev pub invariant-loop-at : goal.invariant-loop-at
invariant-loop-at l = record {
  kept : AreKept l.slots l.team;
  making : (task : ℕ → ℕ → Task) → l.fn.new ≡ tasks_back task 0 l.team
      → IsMaking task l.at l.new l.team (slots_of l.slots) (slots_of l.fn.slots);
}
