-- What calls answer where the words that the callbacks tell show a state, about the objects of this state that a tool may be shown.
use Rattle.std.specs.Prelude.{◌≡◌, ◌≢◌, ℕ, List, Option, Some, Result, Ok, Err}
use Rattle.omi_word.specs.Words.{Words}
use Rattle.omi_calls.specs.Told.{Told}
use Rattle.omi_numbers.specs.Lives.{life_word}
use Rattle.omi_handle.specs.declared.handle.Kind.TheVariants as kind
use Rattle.omi_handle.specs.declared.handle.Held.{Held}
use Rattle.omi_handle.specs.Ledger.{Ledger}
use Rattle.omi_layout.specs.Valid.{IsValid}
use Rattle.omi_model.specs.declared.id.Rid.{Rid}
use Rattle.omi_model.specs.declared.id.Tid.{Tid}
use Rattle.omi_model.specs.declared.region.Region.{Region}
use Rattle.omi_model.specs.declared.task.Task.{Task}
use Rattle.omi_model.specs.State.{State}
use Rattle.omi_model.specs.Visible.{IsVisibleRegion, IsVisibleTask}
use Rattle.omi_model.specs.WellFormed.{HasBegun}
use Rattle.omi_rep.specs.Records.{thread_address, region_address, task_address}
use Rattle.omi_rep.specs.Shows.{Shows}
use Rattle.omi_rep.specs.ShownLooks.{AreNames}
use Rattle.omi_session.specs.declared.rc.Rc.{Rc}
use Rattle.omi_session.specs.declared.rc.Rc.TheVariants.{CallbackError}
use Rattle.omi_session.specs.Tells.{Tells}
use Rattle.omi_session.specs.Made.{IsMade}

-- the object of a thread that has begun, of a live region and of a live task: the address of its record, and its life word
abbrev pub held_thread : List ℕ → ℕ → Held
held_thread w i = record { kind = kind.Thread; addr = thread_address w i; life = 1 }

abbrev pub held_region : List ℕ → Rid → Held
held_region w n =
    record { kind = kind.Region; addr = region_address w n; life = life_word n.0.generation }

abbrev pub held_task : List ℕ → Tid → Held
held_task w k =
    record { kind = kind.Task; addr = task_address w k; life = life_word k.0.generation }

-- the callbacks tell words that show the state in this layout, which is valid
pub record ShowsTold (told : Told) (w : List ℕ) (s : State) : Type 0 where
  pub valid : IsValid w
  pub names : AreNames s
  pub memory : Words
  pub tells : Tells told memory
  pub shows : Shows w memory s

-- what is held is a thread of the state that has begun, a visible region, or a visible task
pub record HoldsThread (w : List ℕ) (s : State) (found : Option Held) : Type 0 where
  pub thread : ℕ
  pub begun : HasBegun s thread
  pub is : found ≡ Some (held_thread w thread)

pub record HoldsRegion (w : List ℕ) (s : State) (found : Option Held) : Type 0 where
  pub name : Rid
  pub seen : IsVisibleRegion s name
  pub is : found ≡ Some (held_region w name)

pub record HoldsTask (w : List ℕ) (s : State) (found : Option Held) : Type 0 where
  pub name : Tid
  pub seen : IsVisibleTask s name
  pub is : found ≡ Some (held_task w name)

-- this holds of each state that is shown
abbrev pub OfState : Told → List ℕ → (State → Type 0) → Type 0
OfState told w Holds = (s : State) → ShowsTold told w s → Holds s

-- and of the thread, the region or the task of it that is held
abbrev pub OfThread : Told → List ℕ → Option Held → (State → ℕ → Type 0) → Type 0
OfThread told w found Holds =
    OfState told w (λ s. (t : HoldsThread w s found) → Holds s t.thread)

abbrev pub OfRegion : Told → List ℕ → Option Held → (Region → Type 0) → Type 0
OfRegion told w found Holds =
    OfState told w (λ s. (r : HoldsRegion w s found) → Holds r.seen.region)

abbrev pub OfTask : Told → List ℕ → Option Held → (Task → Type 0) → Type 0
OfTask told w found Holds =
    OfState told w (λ s. (t : HoldsTask w s found) → Holds t.seen.task)

-- the object that an answer names
abbrev pub as_held : {N : Type 0} → (N → Held) → Result N Rc → Result Held Rc
as_held held (Ok n) = Ok (held n)
as_held held (Err rc) = Err rc

-- the handle stands for the thread, the region or the task that is answered, or the call is refused as it is
abbrev pub GivesThread : List ℕ → Ledger → Result (ℕ × ℕ) Rc → Result ℕ Rc → Type 0
GivesThread w new result answer = IsMade new result (as_held (held_thread w) answer)

abbrev pub GivesRegion : List ℕ → Ledger → Result (ℕ × ℕ) Rc → Result Rid Rc → Type 0
GivesRegion w new result answer = IsMade new result (as_held (held_region w) answer)

abbrev pub GivesTask : List ℕ → Ledger → Result (ℕ × ℕ) Rc → Result Tid Rc → Type 0
GivesTask w new result answer = IsMade new result (as_held (held_task w) answer)

-- the result is what is answered, unless a callback failed
abbrev pub IsGiven : {A : Type 0} → Result A Rc → Result A Rc → Type 0
IsGiven result answer = result ≢ Err CallbackError → result ≡ answer
