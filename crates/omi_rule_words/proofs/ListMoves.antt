-- A to-do list moves on.
use Rattle.std.proofs.Common.{◌≡◌, ◌<◌, ℕ, List, Option, Some, None, refl, sym, subst}
use Rattle.std.specs.Option.{option_map_or}
use Rattle.omi_model.specs.declared.freeable.Freeable.{Freeable}
use Rattle.omi_model.specs.declared.id.Tid.{Tid}
use Rattle.omi_model.specs.declared.item.Item.{Item}
use Rattle.omi_model.specs.declared.task.Task.{Task}
use Rattle.omi_model.specs.Changes.{on_task, on_thread}
use Rattle.omi_model.specs.Put.{on}
use Rattle.omi_model.specs.State.{State}
use Rattle.omi_layout.specs.Field.{tasks}
use Rattle.omi_layout.specs.Memory.{Memory, Rec}
use Rattle.omi_layout.specs.Table.{per_thread}
use Rattle.omi_rule_words.specs.Owes.{Owed}
use Rattle.omi_rule_words.specs.Words.{KeepsTask, KeepsWords, task_in}
use Rattle.omi_rule_words.specs.Kinds.{ListMovesKeep}
use Rattle.omi_rule_words.specs.TaskKinds.{IsSameTask}
use Rattle.omi_rule_words.proofs.Alike.{IsSameRegion, live_before, on_alike, same_region, same_task, slots_same}
use Rattle.omi_rule_words.proofs.OtherStates.{other_states, task_rewritten}
use Rattle.omi_rule_words.proofs.ThreadStores.{thread_changes_keep}
use Rattle.omi_model.specs.Freeing.{freeing}

-- a task with another list, or with something else to be given back in front of it
abbrev Relisted : Task → Task → Type 0
Relisted t u = u ≡ record t { frees = u.frees; list = u.list }

-- its record has the same codes
relisted_kept : (w : List ℕ) (s : State) (owes : ℕ → Owed) (k : Tid) (r : Rec) (t : Task) (frees : Option Freeable)
    (list : List Item) → KeepsTask w s owes k r t
    → KeepsTask w s owes k r (record t { frees = frees; list = list })
relisted_kept w s owes k r t frees list =
    task_rewritten w s owes k r r t (record t { frees = frees; list = list })
    (record { implicit = refl; region = refl; thread = refl; generating = refl; progress = refl; place = refl; group = refl }) refl refl
    (λ _ _. refl)
    (λ e. e) (λ e. e)

module _ (w : List ℕ) (m : Memory) (s : State) (owes : ℕ → Owed) (k : Tid) (g : Task → Task)
    (alike : (t : Task) → Relisted t (g t)) (keeps : KeepsWords w m s owes) where
  same_before : (t : Task) → IsSameTask t (record t { frees = (g t).frees; list = (g t).list })
  same_before t = record { implicit = refl; region = refl; thread = refl; generating = refl; progress = refl; place = refl; group = refl; open_groups = refl }

  each : (i j : ℕ) → i < s.count → j < per_thread w tasks → (u : Task)
      → ((t : Task) × ((s.tasks i j).live ≡ Some t) × Relisted t u)
      → KeepsTask w s owes (task_in i j (s.tasks i j)) (m i tasks j) u
  each i j known within u (t, live, same) =
      subst (λ (x : Task). KeepsTask w s owes (task_in i j (s.tasks i j)) (m i tasks j) x) (sym same)
      (relisted_kept w s owes (task_in i j (s.tasks i j)) (m i tasks j) t u.frees u.list (((keeps.made i known).tasks j within).live t live))

  pub task_list_keeps : KeepsWords w m (on_task s k g) owes
  task_list_keeps =
      other_states w s (on_task s k g) owes refl (slots_same IsSameRegion same_region s.regions)
      (on_alike IsSameTask same_task s.tasks k.0 g (λ t _. subst (IsSameTask t) (sym (alike t)) (same_before t))) m m keeps
      (λ i. refl) (λ i j. refl) (λ i j. refl) (λ i j place. refl)
      keeps.runtime_record
      (λ i known. (keeps.made i known).thread)
      (λ i j known within. ((keeps.made i known).regions j within).live)
      (λ i j known within u is.
      each i j known within u (live_before Relisted (s.tasks i j).live (on s.tasks k.0 g i j).live u (on_alike Relisted (λ x. refl) s.tasks k.0 g (λ x _. alike x) i j).live is))

-- something else may be given back next
pub freeing_keeps : (w : List ℕ) (m : Memory) (s : State) (owes : ℕ → Owed) (free : Option Freeable) (k : Option Tid)
    → KeepsWords w m s owes → KeepsWords w m (record s { tasks = freeing free k s.tasks }) owes
freeing_keeps w m s owes free None keeps = keeps
freeing_keeps w m s owes free (Some k) keeps =
    task_list_keeps w m s owes k (λ t. record t { frees = free }) (λ t. refl) keeps

pub list_moves_keep : ListMovesKeep
list_moves_keep = λ w m s owes i list keeps known. go w m s owes i list keeps known (s.threads i).current
  where
    go : (w : List ℕ) (m : Memory) (s : State) (owes : ℕ → Owed) (i : ℕ) (list : List Item)
        → KeepsWords w m s owes → i < s.count → (o : Option Tid)
        → KeepsWords w m
        (option_map_or (λ k. on_task s k (λ t. record t { frees = None; list = list })) o (on_thread s i (λ h. record h { list = list }))) owes
    go w m s owes i list keeps known (Some k) =
        task_list_keeps w m s owes k (λ t. record t { frees = None; list = list }) (λ t. refl) keeps
    go w m s owes i list keeps known None =
        thread_changes_keep w m s owes i (record (s.threads i) { list = list }) keeps
        (keeps.made i known).thread
