-- What a thread has made in another memory: its own record is the same, and each of its regions and tasks is kept.
use Rattle.std.proofs.Common.{◌≡◌, ◌<◌, ℕ, List, sym, subst}
use Rattle.omi_model.specs.State.{State}
use Rattle.omi_layout.specs.Field.{regions, tasks, threads}
use Rattle.omi_layout.specs.Memory.{MadeRecords, Rec}
use Rattle.omi_layout.specs.Table.{per_thread}
use Rattle.omi_rule_words.specs.Owes.{Owed}
use Rattle.omi_rule_words.specs.Threads.{KeepsAssign, KeepsThread}
use Rattle.omi_rule_words.specs.Words.{KeepsMade, KeepsRegionSlot, KeepsTaskSlot}

pub made_kept : (w : List ℕ) (s : State) (owes : ℕ → Owed) (j : ℕ) (a b : MadeRecords)
    → b threads 0 ≡ a threads 0 → KeepsMade w s owes j a
    → ((k : ℕ) → k < per_thread w regions → KeepsRegionSlot w s owes j k (b regions k))
    → ((k : ℕ) → k < per_thread w tasks → KeepsTaskSlot w s owes j k (b tasks k)) → KeepsMade w s owes j b
made_kept w s owes j a b same o of_regions of_tasks = record {
  thread = subst (λ (r : Rec). KeepsThread w j r (s.threads j)) (sym same) o.thread;
  assign = subst (λ (r : Rec). KeepsAssign w s owes j r) (sym same) o.assign;
  regions = of_regions;
  tasks = of_tasks;
  making = o.making;
  objects = o.objects;
}
