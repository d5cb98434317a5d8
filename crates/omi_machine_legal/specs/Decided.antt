-- Parts of the event rules, which the plain program decides one by one.
use Rattle.std.specs.Prelude.{◌≡◌, ◌≢◌, ◌⊎◌, ◌<◌, ℕ, suc, Bool, true, false, List, length, slice_get, Some}
use Rattle.omi_model.specs.declared.claim.Claim.TheVariants.{Free}
use Rattle.omi_model.specs.declared.group.Group.{Group}
use Rattle.omi_model.specs.declared.id.Rid.{Rid}
use Rattle.omi_model.specs.declared.id.Tid.{Tid}
use Rattle.omi_model.specs.declared.progress.Progress.TheVariants.{Deferred, Finished}
use Rattle.omi_model.specs.declared.region.Region.{Region}
use Rattle.omi_model.specs.declared.slot.Slot.{Slot}
use Rattle.omi_model.specs.declared.task.Task.{Task}
use Rattle.omi_model.specs.declared.thread.Thread.{Thread}
use Rattle.omi_machine_legal.specs.declared.freeing_rules.TasksOf.{TasksOf}
use Rattle.omi_machine_legal.specs.declared.freeing_rules.TasksOf.TheVariants as tasks
use Rattle.omi_model.specs.Put.{Slots}
use Rattle.omi_model.specs.Teams.{WasAsked, got_threads}

-- a fact of the object of a slot, if one lives there, and of the object that lives there
abbrev pub IfLive : {A : Type 0} → (A → Type 0) → Slot A → Type 0
IfLive {A} P slot = (x : A) → slot.live ≡ Some x → P x

abbrev pub HasLive : {A : Type 0} → (A → Type 0) → Slot A → Type 0
HasLive {A} P slot = (x : A) × (slot.live ≡ Some x) × P x

-- a fact of each live object
abbrev pub AreLive : {A : Type 0} → (A → Type 0) → Slots A → Type 0
AreLive P slots = (c k : ℕ) → IfLive P (slots c k)

-- a task is one of the tasks of a region, or of the children of a task
abbrev pub IsOneOf : TasksOf → Task → Type 0
IsOneOf (tasks.Region n) t = t.region ≡ n
IsOneOf (tasks.Parent k) t = t.generating ≡ Some k

-- a task is no unfinished explicit child of a task
abbrev pub IsFinishedOf : Tid → Task → Type 0
IsFinishedOf k t = t.implicit ≡ false → t.generating ≡ Some k → t.progress ≡ Finished

-- a task is no unfinished explicit one of a group
abbrev pub IsFinishedIn : Group → Task → Type 0
IsFinishedIn g t = t.implicit ≡ false → t.group ≡ Some g → t.progress ≡ Finished

-- a task is none of those, or no explicit one of a region
abbrev pub IsNoneOf : TasksOf → Task → Type 0
IsNoneOf which t = IsOneOf which t → ⊥

abbrev pub IsNoExplicitOf : Rid → Task → Type 0
IsNoExplicitOf n t = t.implicit ≡ false → t.region ≡ n → ⊥

-- a region is not enclosed by another one
abbrev pub IsNotWithin : Rid → Region → Type 0
IsNotWithin n r = r.enclosing ≡ Some n → ⊥

-- a deferred task of a region, in a place
pub record IsDeferredIn (region : Rid) (place : ℕ) (t : Task) : Type 0 where
  pub explicit : t.implicit ≡ false
  pub deferred : t.progress ≡ Deferred
  pub same : t.region ≡ region
  pub there : t.place ≡ place

-- a thread is the next that an asker asks: the least other one that was not asked
pub record IsNext (h : Thread) (i w : ℕ) : Type 0 where
  pub other : w ≢ i
  pub new : WasAsked h w → ⊥
  pub least : (v : ℕ) → v < w → v ≢ i → WasAsked h v

-- a thread that is asked joins exactly where anybody may claim it
pub record IsAnswer (h : Thread) (got : Bool) : Type 0 where
  pub joins : got ≡ true → h.claim ≡ Free
  pub busy : got ≡ false → h.claim ≢ Free

-- The asks of one of so many threads are over: the team has the wanted size, or every other thread was asked.
abbrev pub AreAsksOverOf : Thread → ℕ → ℕ → Type 0
AreAsksOverOf h i count = (suc (length (got_threads h.asks)) ≡ h.wanted)
    ⊎ ((w : ℕ) → w < count → w ≢ i → WasAsked h w)

-- the element at a place stands at no earlier one
abbrev pub IsNewAt : {A : Type 0} → List A → ℕ → Type 0
IsNewAt xs at = (j : ℕ) → j < at → slice_get xs j ≢ slice_get xs at
