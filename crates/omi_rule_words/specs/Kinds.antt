-- Kinds of steps: what each keeps of the words, whatever thread makes it.
use Rattle.std.specs.Prelude.{◌≡◌, ◌≢◌, ℕ, ◌<◌, true, false, List, [], ◌∷◌, ◌++◌, Some, None}
use Rattle.omi_numbers.specs.Lives.{life_word}
use Rattle.omi_model.specs.declared.id.Rid.{Rid}
use Rattle.omi_model.specs.declared.id.Tid.{Tid}
use Rattle.omi_model.specs.declared.item.Item.{Item}
use Rattle.omi_model.specs.declared.thread.Thread.{Thread}
use Rattle.omi_model.specs.Changes.{with_list}
use Rattle.omi_model.specs.State.{State}
use Rattle.omi_layout.specs.declared.field.Field.{Field}
use Rattle.omi_layout.specs.declared.field.Field.TheVariants.{ThreadAssign, RegionLife, TaskLife}
use Rattle.omi_layout.specs.Field.{threads, regions, tasks}
use Rattle.omi_layout.specs.Memory.{Memory, replace_at, with_word, with_word_in}
use Rattle.omi_layout.specs.Named.{number}
use Rattle.omi_pc.specs.declared.actor.Actor.{Actor}
use Rattle.omi_rep.specs.Records.{task_address}
use Rattle.omi_rule_words.specs.Owes.{Owed, all_owed, owed}
use Rattle.omi_rule_words.specs.Counts.{has_slot}
use Rattle.omi_rule_words.specs.Threads.{KeepsThread, WaitsFor}
use Rattle.omi_rule_words.specs.Words.{IsInTheMaking, KeepsWords}

-- a state in which a thread is another
abbrev pub with_thread : State → ℕ → Thread → State
with_thread s i h = record s { threads = replace_at s.threads i h }

-- A word of a thread's record is stored, and the thread of the state is another, so that the record has its codes: `begin`, `offer`,
-- a state, and the exchange on the claim word of a thread that is asked
abbrev pub ThreadStoresKeep : Type 0
ThreadStoresKeep = (w : List ℕ) (m : Memory) (s : State) (owes : ℕ → Owed) (i : ℕ) (h : Thread)
    (f : Field) (word : ℕ) → KeepsWords w m s owes → number f ≢ number ThreadAssign
    → KeepsThread w i (with_word_in (m i threads 0) (number f) 0 word) h
    → KeepsWords w (with_word m i threads 0 (number f) 0 word) (with_thread s i h) owes

-- No word is stored, and the thread of the state is another with the same codes: what it wants and has asked
abbrev pub ThreadChangesKeep : Type 0
ThreadChangesKeep = (w : List ℕ) (m : Memory) (s : State) (owes : ℕ → Owed) (i : ℕ) (h : Thread)
    → KeepsWords w m s owes → KeepsThread w i (m i threads 0) h
    → KeepsWords w m (with_thread s i h) owes

-- A word of a record in the making, but for its life word: the private stores
abbrev pub RegionFillsKeep : Type 0
RegionFillsKeep = (w : List ℕ) (m : Memory) (s : State) (owes : ℕ → Owed) (i slot : ℕ) (f : Field)
    (at word : ℕ) → KeepsWords w m s owes → (s.regions i slot).live ≡ None
    → number f ≢ number RegionLife
    → KeepsWords w (with_word m i regions slot (number f) at word) s owes

abbrev pub TaskFillsKeep : Type 0
TaskFillsKeep = (w : List ℕ) (m : Memory) (s : State) (owes : ℕ → Owed) (i slot : ℕ) (f : Field)
    (at word : ℕ) → KeepsWords w m s owes → (s.tasks i slot).live ≡ None
    → number f ≢ number TaskLife
    → KeepsWords w (with_word m i tasks slot (number f) at word) s owes

-- An actor goes on and owes the same: private loads, and each other step that leaves words and state
abbrev pub MovesKeep : Type 0
MovesKeep = (w : List ℕ) (m : Memory) (s : State) (actors : ℕ → Actor) (i : ℕ) (a : Actor)
    → KeepsWords w m s (all_owed actors) → owed a ≡ owed (actors i)
    → KeepsWords w m s (all_owed (replace_at actors i a))

-- A record is taken: its life word becomes odd, and the thread owes what the record is made for
abbrev pub RegionTakesKeep : Type 0
RegionTakesKeep = (w : List ℕ) (m : Memory) (s : State) (owes : ℕ → Owed) (i : ℕ) (n : Rid)
    → KeepsWords w m s owes → (owes i).region ≡ None → IsInTheMaking i (s.regions i) n.0
    → KeepsWords w
    (with_word m i regions n.0.slot (number RegionLife) 0 (life_word n.0.generation)) s
    (replace_at owes i (record (owes i) { region = Some n }))

abbrev pub TaskTakesKeep : Type 0
TaskTakesKeep = (w : List ℕ) (m : Memory) (s : State) (owes : ℕ → Owed) (i : ℕ) (k : Tid)
    → KeepsWords w m s owes → IsInTheMaking i (s.tasks i) k.0
    → has_slot k.0.slot (owes i).tasks ≡ false
    → KeepsWords w
    (with_word m i tasks k.0.slot (number TaskLife) 0 (life_word k.0.generation)) s
    (replace_at owes i (record (owes i) { tasks = (owes i).tasks ++ k ∷ [] }))

-- A task that waits for a thread is stored into the thread's assign word, by the thread that owes it. No other task waits for that
-- thread, and no record begins at address 0
abbrev pub AssignStoresKeep : Type 0
AssignStoresKeep = (w : List ℕ) (m : Memory) (s : State) (owes : ℕ → Owed) (i to : ℕ) (k : Tid)
    (rest : List (Tid × ℕ)) → KeepsWords w m s owes → i < s.count → to < s.count
    → (owes i).assigns ≡ (k, to) ∷ rest
    → WaitsFor s to k → ((t : Tid) → WaitsFor s to t → t ≡ k) → task_address w k ≢ 0
    → KeepsWords w (with_word m to threads 0 (number ThreadAssign) 0 (task_address w k)) s
    (replace_at owes i (record (owes i) { assigns = rest }))

-- A thread has read the task in its assign word, and clears it
abbrev pub AssignClearsKeep : Type 0
AssignClearsKeep = (w : List ℕ) (m : Memory) (s : State) (owes : ℕ → Owed) (i : ℕ) (k : Tid)
    → KeepsWords w m s owes → i < s.count
    → m i threads 0 (number ThreadAssign) 0 ≡ task_address w k → (owes i).met ≡ false
    → WaitsFor s i k → ((t : Tid) → WaitsFor s i t → t ≡ k) → task_address w k ≢ 0
    → KeepsWords w (with_word m i threads 0 (number ThreadAssign) 0 0) s
    (replace_at owes i (record (owes i) { met = true }))

-- No word is stored, and a to-do list moves on, as with every event
abbrev pub ListMovesKeep : Type 0
ListMovesKeep = (w : List ℕ) (m : Memory) (s : State) (owes : ℕ → Owed) (i : ℕ) (list : List Item)
    → KeepsWords w m s owes → i < s.count → KeepsWords w m (with_list s i list) owes
