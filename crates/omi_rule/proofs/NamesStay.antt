-- What an event leaves: names that were made are not made again, and where a task lived it lives on, or nothing lives in its slot.
use Rattle.std.proofs.Common.{◌≡◌, inl, inr, ℕ, Some}
use Rattle.omi_script.specs.declared.program.Program.{Program}
use Rattle.omi_model.specs.declared.event.Event.{Event}
use Rattle.omi_model.specs.declared.id.Tid.{Tid}
use Rattle.omi_model.specs.declared.task.Task.{Task}
use Rattle.omi_model.specs.LawStays.{IsSameTask, Stays}
use Rattle.omi_model.specs.Reached.{Step}
use Rattle.omi_model.specs.State.{State, task_of}
use Rattle.omi_model.proofs.NamesKept.{AreKept, kept_same, tasks_kept}
use Rattle.omi_model.proofs.Slots.{none_some}
use Rattle.omi_model.proofs.StaysKept.{stays_same, stays_step}
use Rattle.omi_rule.proofs.LivesOn.{HasOrEmpty, LivesOn, lives_same, tasks_live_on}

-- a state and a later one
pub record NamesStay (s u : State) : Type 0 where
  pub stays : Stays s u
  pub lives : LivesOn s.tasks u.tasks
  pub tasks : AreKept s.tasks u.tasks

-- a task where something lives in the slot later on
pub lives_there : (s u : State) → NamesStay s u → (k : Tid) (t : Task) → task_of s k ≡ Some t → (x : Task)
    → (u.tasks k.0.creator k.0.slot).live ≡ Some x → (v : Task) × (task_of u k ≡ Some v) × IsSameTask t v
lives_there s u names k t live x there = go (names.lives k.0 t live)
  where
    go : HasOrEmpty u.tasks k.0 → (v : Task) × (task_of u k ≡ Some v) × IsSameTask t v
    go (inl (v, later)) = (v, later, names.stays.alike k t v live later)
    go (inr empty) = absurd (none_some empty there)

pub names_same : (s : State) → NamesStay s s
names_same s = record { stays = stays_same s; lives = lives_same s.tasks; tasks = kept_same s.tasks }

pub names_step : (p : Program) (s : State) (i : ℕ) (e : Event) (next : State) → Step p s i e next
    → NamesStay s next
names_step p s i e next step = record {
  stays = stays_step p s i e next step;
  lives = tasks_live_on p s i e next step;
  tasks = tasks_kept p s i e next step;
}
