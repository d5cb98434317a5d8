-- What a thread knows of an explicit task that has finished, and when it is to give one back: by the word for references that it found.
use Rattle.std.proofs.Common.{◌≡◌, ◌==◌, ◌&&◌, ℕ, Bool, true, false, not, Some, None, ap, ◌∙◌, if◌then◌else◌}
use Rattle.omi_model.specs.declared.id.Tid.{Tid}
use Rattle.omi_model.specs.declared.task.Task.{Task}
use Rattle.omi_model.specs.State.{State}
use Rattle.omi_rule_words.specs.FreeKinds.{given_at}
use Rattle.omi_pc.specs.declared.actor.Actor.{Actor}
use Rattle.omi_pc.specs.declared.counter.Counter.{Counter}
use Rattle.omi_rule.specs.Rows.{HasEndedUnder}
use Rattle.omi_rule.proofs.barrier.AtCounter.{at_counter}

-- an explicit task is given back where the word was 1
pub given_explicit : (k : Tid) (t : Task) (word : ℕ) (b : Bool) → t.implicit ≡ false → word == 1 ≡ b
    → given_at k t word ≡ (if b then Some k else None)
given_explicit k t word b explicit is =
    ap (λ x. if not x && word == 1 then Some k else None) explicit ∙ ap (λ x. if x then Some k else None) is

-- an implicit one never is
pub given_implicit : (k : Tid) (t : Task) (word : ℕ) → t.implicit ≡ true → given_at k t word ≡ None
given_implicit k t word implicit = ap (λ x. if not x && word == 1 then Some k else None) implicit

-- a thread at another counter knows the same of a task that has finished
pub same_end : (s : State) (a : Actor) (to : Counter) (k : Tid) (known : Tid → Type 0) → HasEndedUnder s a k known
    → HasEndedUnder s (at_counter to a) k known
same_end s a to k known o = record {
  task = o.task;
  live = o.live;
  explicit = o.explicit;
  progress = o.progress;
  region = o.region;
  generating = o.generating;
  made_by = o.made_by;
  knows = o.knows;
}
