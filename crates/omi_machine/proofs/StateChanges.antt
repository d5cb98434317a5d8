-- The state of what is kept, with one object or one thread changed.
use Rattle.std.proofs.Common.{◌≡◌, ◌<◌, ◌==◌, ◌+◌, ℕ, Bool, true, false, List, length, Option, Some, if◌then◌else◌, refl, sym, ap, ◌∙◌, set-set, length-set}
use mathlib.Core.Path.{fun_ext}
use Rattle.std.specs.Prelude.{slice_get, slice_set, unwrap_or}
use Rattle.omi_model.specs.declared.id.Id.{Id}
use Rattle.omi_model.specs.declared.id.Rid.{Rid}
use Rattle.omi_model.specs.declared.id.Tid.{Tid}
use Rattle.omi_model.specs.declared.region.Region.{Region}
use Rattle.omi_model.specs.declared.slot.Slot.{Slot}
use Rattle.omi_machine.specs.declared.state.State.{State as Kept}
use Rattle.omi_model.specs.declared.task.Task.{Task}
use Rattle.omi_model.specs.declared.task.Variables.{Variables}
use Rattle.omi_model.specs.declared.thread.Thread.{Thread}
use Rattle.omi_model.specs.Changes.{IsCurrent, by_current, by_region, on_region, on_task, on_thread}
use Rattle.omi_machine.specs.Kept.{slots_of, state_of}
use Rattle.omi_machine.specs.KeptSlots.{IsKept, with_slot}
use Rattle.omi_numbers.specs.declared.variables.TheConstants.{MAX_ACTIVE_LEVELS_VAR}
use Rattle.omi_model.specs.Opening.{waiting_worker}
use Rattle.omi_model.specs.Put.{named, on, put}
use Rattle.omi_model.specs.Settings.{with_set, with_variable}
use Rattle.omi_model.specs.State.{State, region_of, task_of}
use Rattle.omi_machine.proofs.KeptLists.{by_number}
use Rattle.omi_machine.proofs.KeptSlotLemmas.{got, object_changed, slot_twice}

-- an object is taken out, changed and put back
pub slots_changed : {A : Type 0} (slots between after : List (List (Slot A))) (n : Id) (v : Slot A) (f : A → A) (x : A)
    → IsKept slots n → named (slots_of slots) n ≡ Some x → between ≡ with_slot slots n v
    → after ≡ with_slot between n (record { generations = n.generation + 1; live = Some (f x) })
    → slots_of after ≡ on (slots_of slots) n f
slots_changed {A} slots between after n v f x kept live out back =
    let w : Slot A = record { generations = n.generation + 1; live = Some (f x) } in
    ap (slots_of {A = A})
    (back ∙ ap (λ (s : List (List (Slot A))). with_slot s n w) out ∙ slot_twice slots n kept v w)
    ∙ object_changed slots n f x kept live

-- one task changed
module _ (s : Kept) (between after : List (List (Slot Task))) (k : Tid) (v : Slot Task) (f : Task → Task)
    (t : Task) where
  pub task_changed : IsKept s.tasks k.0 → task_of (state_of s) k ≡ Some t → between ≡ with_slot s.tasks k.0 v
      → after ≡ with_slot between k.0 (record { generations = k.0.generation + 1; live = Some (f t) })
      → state_of (record s { tasks = after }) ≡ on_task (state_of s) k f
  task_changed kept live out back =
      ap (λ (m : ℕ → ℕ → Slot Task). record (state_of s) { tasks = m })
      (slots_changed s.tasks between after k.0 v f t kept live out back)

-- one region changed
module _ (s : Kept) (between after : List (List (Slot Region))) (n : Rid) (v : Slot Region)
    (f : Region → Region) (r : Region) where
  pub region_changed : IsKept s.regions n.0 → region_of (state_of s) n ≡ Some r
      → between ≡ with_slot s.regions n.0 v
      → after ≡ with_slot between n.0 (record { generations = n.0.generation + 1; live = Some (f r) })
      → state_of (record s { regions = after }) ≡ on_region (state_of s) n f
  region_changed kept live out back =
      ap (λ (m : ℕ → ℕ → Slot Region). record (state_of s) { regions = m })
      (slots_changed s.regions between after n.0 v f r kept live out back)

-- the current task changed, by what it was
module _ (s : Kept) (between after : List (List (Slot Task))) (i : ℕ) (k : Tid) (v : Slot Task)
    (f : Tid → Task → Task → Task) (t : Task) where
  pub current_changed : ((state_of s).threads i).current ≡ Some k → IsKept s.tasks k.0
      → task_of (state_of s) k ≡ Some t → between ≡ with_slot s.tasks k.0 v
      → after ≡ with_slot between k.0 (record { generations = k.0.generation + 1; live = Some (f k t t) })
      → by_current (state_of s) i (λ k t. on_task (state_of s) k (f k t)) ≡ Some (state_of (record s { tasks = after }))
  current_changed name kept live out back =
      rw name
      (rw live (ap (λ (x : State). Some x) (sym (task_changed s between after k v (f k t) t kept live out back))))

-- one element of a list is one place of the function that it means
pub place_put : {A : Type 0} (xs : List A) (i : ℕ) (x d : A) → i < length xs
    → by_number (slice_set xs i x) d ≡ put (by_number xs d) i x
place_put {A} xs i x d within =
    fun_ext (λ j. ap (λ (o : Option A). unwrap_or o d) (got xs i j x within) ∙ split j (j == i))
  where
    split : (j : ℕ) (b : Bool)
        → unwrap_or (if b then Some x else slice_get xs j) d ≡ (if b then x else unwrap_or (slice_get xs j) d)
    split j true = refl
    split j false = refl

-- one thread changed
module _ (s : Kept) (between after : List Thread) (i : ℕ) (e h : Thread) (f : Thread → Thread) where
  pub thread_changed : i < length s.threads → slice_get s.threads i ≡ Some h
      → between ≡ slice_set s.threads i e → after ≡ slice_set between i (f h)
      → state_of (record s { threads = after }) ≡ on_thread (state_of s) i f
  thread_changed within was out back =
      let whole : after ≡ slice_set s.threads i (f h) =
      back ∙ ap (λ (hs : List Thread). slice_set hs i (f h)) out ∙ set-set s.threads i e (f h) in
      let is : unwrap_or (slice_get s.threads i) waiting_worker ≡ h =
      ap (λ (o : Option Thread). unwrap_or o waiting_worker) was in
      let count : length after ≡ length s.threads = ap length whole ∙ length-set s.threads i (f h) in
      let each =
      ap (λ (hs : List Thread). by_number hs waiting_worker) whole
      ∙ place_put s.threads i (f h) waiting_worker within
      ∙ ap (λ (x : Thread). put (state_of s).threads i (f x)) (sym is) in
      λ j. record (state_of s) { count = count j; threads = each j }

-- what is made by the current task
pub by_current_is : (s : State) (i : ℕ) (k : Tid) (t : Task) (f : Tid → Task → State) → IsCurrent s i k t
    → by_current s i f ≡ Some (f k t)
by_current_is s i k t f is = rw is.name (rw is.live refl)

-- the region of the current task changed, by what the task is
module _ (s : Kept) (between after : List (List (Slot Region))) (i : ℕ) (k : Tid) (t : Task) (v : Slot Region)
    (f : Task → Region → Region) (r x : Region) where
  pub current_region_changed : IsCurrent (state_of s) i k t → IsKept s.regions t.region.0
      → region_of (state_of s) t.region ≡ Some r → between ≡ with_slot s.regions t.region.0 v
      → after ≡ with_slot between t.region.0 (record { generations = t.region.0.generation + 1; live = Some x }) → x ≡ f t r
      → by_current (state_of s) i (λ k t. on_region (state_of s) t.region (f t)) ≡ Some (state_of (record s { regions = after }))
  current_region_changed is kept live out back value =
      let whole =
      back
      ∙ ap
      (λ (y : Region). with_slot between t.region.0 (record { generations = t.region.0.generation + 1; live = Some y })) value in
      by_current_is (state_of s) i k t (λ k t. on_region (state_of s) t.region (f t)) is
      ∙ ap (λ (y : State). Some y)
      (sym (region_changed s between after t.region v (f t) r kept live out whole))

-- the live region of a name is one
pub one_region : (s : State) (n : Rid) (r q : Region) → region_of s n ≡ Some r → region_of s n ≡ Some q
    → r ≡ q
one_region s n r q a b = let same : Some r ≡ Some q = sym a ∙ b in cc same

-- a variable of the current task set
module _ (s : Kept) (between after : List (List (Slot Task))) (i icv value : ℕ) (k : Tid) (v : Slot Task)
    (t u : Task) (variables : Variables) where
  pub variable_set : (icv == MAX_ACTIVE_LEVELS_VAR) ≡ false → IsCurrent (state_of s) i k t
      → with_variable icv value t.variables ≡ Some variables
      → IsKept s.tasks k.0 → task_of (state_of s) k ≡ Some u → between ≡ with_slot s.tasks k.0 v
      → after ≡ with_slot between k.0 (record { generations = k.0.generation + 1; live = Some (record u { variables = variables }) })
      → with_set (state_of s) i icv value ≡ Some (state_of (record s { tasks = after }))
  variable_set other is found kept live out back =
      rw (other, is.name, is.live, found)
      (ap (λ (x : State). Some x) (sym (task_changed s between after k v (λ u. record u { variables = variables }) u kept live out back)))

-- what is made by the current task and its region
pub by_region_is : (s : State) (i : ℕ) (k : Tid) (t : Task) (r : Region) (f : Tid → Task → Region → State)
    → IsCurrent s i k t → region_of s t.region ≡ Some r → by_region s i f ≡ Some (f k t r)
by_region_is s i k t r f is region = rw (is.name, is.live, region) refl

-- a task and then a region changed
module _ (s : Kept) (tasks_between tasks_after : List (List (Slot Task))) (k : Tid) (v : Slot Task)
    (f : Task → Task) (t : Task)
    (between after : List (List (Slot Region))) (n : Rid) (w : Slot Region) (g : Region → Region)
    (r x : Region) where
  pub both_changed : IsKept s.tasks k.0 → task_of (state_of s) k ≡ Some t
      → tasks_between ≡ with_slot s.tasks k.0 v
      → tasks_after ≡ with_slot tasks_between k.0 (record { generations = k.0.generation + 1; live = Some (f t) })
      → IsKept s.regions n.0 → region_of (state_of s) n ≡ Some r → between ≡ with_slot s.regions n.0 w
      → after ≡ with_slot between n.0 (record { generations = n.0.generation + 1; live = Some x }) → x ≡ g r
      → state_of (record s { tasks = tasks_after; regions = after }) ≡ on_region (on_task (state_of s) k f) n g
  both_changed kept live out back region_kept region region_out region_back value =
      let whole =
      region_back
      ∙ ap
      (λ (y : Region). with_slot between n.0 (record { generations = n.0.generation + 1; live = Some y })) value in
      region_changed
      (record s { tasks = tasks_after }) between after n w g r region_kept region region_out whole
      ∙ ap (λ (y : State). on_region y n g)
      (task_changed s tasks_between tasks_after k v f t kept live out back)
