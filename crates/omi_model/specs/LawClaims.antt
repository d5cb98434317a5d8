-- Claims: who may use a thread. Thread 0 is its own and always has a task. A worker that nobody has claimed has no task and waits for a team; one with a task was claimed by another thread; one for which a task waits was claimed by the task's creator; and one that waits though it is claimed was got for a fork in the making, or has such a task.
use Rattle.std.specs.Prelude.{◌≡◌, ◌≢◌, ◌==◌, ◌⊎◌, ◌≤◌, ℕ, zero, suc, Bool, true, false, List, [], ◌∷◌, ◌++◌, map, Some, None, IsSome, Contains, if◌then◌else◌, ⊤}
use Rattle.omi_script.specs.declared.program.Program.{Program}
use Rattle.omi_model.specs.declared.claim.Claim.TheVariants as claim
use Rattle.omi_model.specs.declared.event.Event.{Event}
use Rattle.omi_model.specs.declared.event.Event.TheVariants as event
use Rattle.omi_model.specs.declared.id.Rid.{Rid}
use Rattle.omi_model.specs.declared.id.Tid.{Tid}
use Rattle.omi_model.specs.declared.item.Item.{Item}
use Rattle.omi_model.specs.declared.item.Item.TheVariants as item
use Rattle.omi_model.specs.declared.progress.Progress.TheVariants.{NotBegun}
use Rattle.omi_model.specs.declared.task.Task.{Task}
use Rattle.omi_model.specs.Changes.{IsCurrent}
use Rattle.omi_model.specs.Reached.{Reached}
use Rattle.omi_model.specs.Rules.{Legal}
use Rattle.omi_model.specs.State.{State, task_of}

-- A worker waits for a team: it has no task, and the begin of an implicit task is all that is ahead of it.
pub record WaitsForTeam (s : State) (w : ℕ) : Type 0 where
  pub idle : (s.threads w).current ≡ None
  pub ahead : (s.threads w).list ≡ item.Serve ∷ []

-- a task that has not begun is to run on a thread
pub record IsMeantFor (s : State) (k : Tid) (w : ℕ) : Type 0 where
  pub task : Task
  pub live : task_of s k ≡ Some task
  pub waiting : task.progress ≡ NotBegun
  pub thread : task.thread ≡ w

-- the asks of a fork are what a list has next
abbrev pub asks_next : List Item → Bool
asks_next (item.Asks ∷ xs) = true
asks_next xs = false

-- A thread has a fork in the making, from its want to the fork itself.
pub record IsForking (s : State) (i : ℕ) : Type 0 where
  pub name : Tid
  pub task : Task
  pub current : IsCurrent s i name task
  pub next : asks_next task.list ≡ true

-- a thread joined the team of a fork in the making
pub record IsGot (s : State) (i w : ℕ) : Type 0 where
  pub forking : IsForking s i
  pub joined : Contains (s.threads i).asks (w, true)

-- the claim of a thread
pub record IsClaimKept (s : State) (w : ℕ) : Type 0 where
  pub first : w ≡ 0 → ((s.threads w).claim ≡ claim.Own) × IsSome (s.threads w).current
  pub free : (s.threads w).claim ≡ claim.Free
      → WaitsForTeam s w × ((k : Tid) → IsMeantFor s k w → ⊥)
  pub busy : w ≢ 0 → IsSome (s.threads w).current → (c : ℕ) × ((s.threads w).claim ≡ claim.By c)
  pub other : (c : ℕ) → (s.threads w).claim ≡ claim.By c → c ≢ w
  pub meant : (k : Tid) → IsMeantFor s k w
      → WaitsForTeam s w × ((s.threads w).claim ≡ claim.By k.0.creator)
      × ((n : Tid) → IsMeantFor s n w → n ≡ k)
  pub got : (i : ℕ) → IsGot s i w
      → WaitsForTeam s w × ((s.threads w).claim ≡ claim.By i)
      × ((k : Tid) → IsMeantFor s k w → ⊥)
  pub waits : (c : ℕ) → WaitsForTeam s w → (s.threads w).claim ≡ claim.By c
      → ((k : Tid) × IsMeantFor s k w) ⊎ IsGot s c w

-- in every reached state, of each thread
abbrev pub ClaimsAreKept : Type 0
ClaimsAreKept = (p : Program) (events : List (ℕ × Event)) (s : State) → Reached p events s
    → (w : ℕ) → IsClaimKept s w

-- the threads below a bound in rising order, without one
abbrev pub others_below : ℕ → ℕ → List ℕ
others_below i zero = []
others_below i (suc n) = others_below i n ++ (if n == i then [] else n ∷ [])

-- an ask or a fork
abbrev pub IsOfFork : Event → Type 0
IsOfFork (event.Ask w got) = ⊤
IsOfFork (event.Fork region team) = ⊤
IsOfFork e = ⊥

-- Those that were asked are the first threads in rising order, without the asker. A thread asks, and forks, where its fork is in the making, and does nothing else there.
pub record AreAsksInOrder (p : Program) (s : State) (i : ℕ) : Type 0 where
  pub asked : (n : ℕ) × (n ≤ s.count) × (map (λ a. a.0) (s.threads i).asks ≡ others_below i n)
  pub asks : (w : ℕ) (got : Bool) → Legal p s i (event.Ask w got) → IsForking s i
  pub forks : (region : Rid) (team : List (Tid × ℕ)) → Legal p s i (event.Fork region team)
      → IsForking s i
  pub alone : IsForking s i → (e : Event) → Legal p s i e → IsOfFork e

abbrev pub AsksAreInOrder : Type 0
AsksAreInOrder = (p : Program) (events : List (ℕ × Event)) (s : State) → Reached p events s
    → (i : ℕ) → AreAsksInOrder p s i
