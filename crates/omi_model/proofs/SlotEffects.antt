-- What an effect does to the slots of regions and tasks, once for all events: a law of them is shown by the kinds of changes.
use Rattle.std.proofs.Common.{◌≡◌, ℕ, ◌⊎◌, inl, inr, Bool, true, false, List, Option, Some, None, refl, sym, ap, ◌∙◌, subst}
use Rattle.std.specs.Option.{option_map}
use Rattle.std.specs.Prelude.{IfSome, ⊤}
use Rattle.omi_script.specs.declared.program.Program.{Program}
use Rattle.omi_model.specs.declared.event.Event.{Event}
use Rattle.omi_model.specs.declared.event.Event.TheVariants as event
use Rattle.omi_model.specs.declared.freeable.Freeable.{Freeable}
use Rattle.omi_model.specs.declared.freeable.Freeable.TheVariants as freeable
use Rattle.omi_model.specs.declared.id.Rid.{Rid}
use Rattle.omi_model.specs.declared.id.Tid.{Tid}
use Rattle.omi_model.specs.declared.item.Item.{Item}
use Rattle.omi_model.specs.declared.item.Item.TheVariants as item
use Rattle.omi_model.specs.declared.region.Region.{Region}
use Rattle.omi_model.specs.declared.task.Task.{Task}
use Rattle.omi_model.specs.Barriers.{MayRelease, arrived, released}
use Rattle.omi_model.specs.Changes.{IsCurrent}
use Rattle.omi_model.specs.Freeing.{MayFreeRegion, freed, freeing}
use Rattle.omi_model.specs.Fresh.{IsFresh}
use Rattle.omi_model.specs.Groups.{group_begun, group_ended}
use Rattle.omi_model.specs.Put.{Slots, gone, made, named, on}
use Rattle.omi_model.specs.Rules.{Rule, effect}
use Rattle.omi_model.specs.Settings.{entered, left, with_tool}
use Rattle.omi_model.specs.State.{State, region_of, task_of}
use Rattle.omi_model.specs.Tasking.{deferred, finished, started, started_alone, started_now}
use Rattle.omi_model.specs.Teams.{MayFork, forked, joined, member_task, new_region, task_ended, with_members}
use Rattle.omi_model.proofs.Slots.{on_other, on_same, same_or_not, some_same}
use Rattle.omi_model.proofs.Steps.{of_current, of_current_region, of_region, of_set}

pub same_current : (s : State) (i : ℕ) (k n : Tid) (t u : Task) → IsCurrent s i k t → IsCurrent s i n u
    → t ≡ u
same_current s i k n t u a b =
    let same : k ≡ n = some_same a.name b.name in some_same a.live (ap (task_of s) same ∙ b.live)

-- a law of all tasks that is kept where one is changed is kept where another one may be given back next
pub over_freeing : (P : Slots Task → Type 0)
    → ((slots : Slots Task) (n : Tid) (f : Task → Task) → P slots → P (on slots n.0 f))
    → (next : Option Freeable) (k : Option Tid) (slots : Slots Task) → P slots → P (freeing next k slots)
over_freeing P keeps next None slots h = h
over_freeing P keeps next (Some k) slots h = keeps slots k (λ u. record u { frees = next }) h

-- one region is changed, and what it is by the region that was
pub changed : (slots : Slots Region) (m : Rid) (f : Region → Region) (P : Region → Region → Type 0) (n : Rid) (r : Region)
    → named slots n.0 ≡ Some r → (n ≡ m → P r (f r)) → ((n ≡ m → ⊥) → P r r)
    → (q : Region) × (named (on slots m.0 f) n.0 ≡ Some q) × P r q
changed slots m f P n r e here other = go (same_or_not n.0 m.0)
  where
    go : (n.0 ≡ m.0) ⊎ (n.0 ≡ m.0 → ⊥) → (q : Region) × (named (on slots m.0 f) n.0 ≡ Some q) × P r q
    go (inl same) =
        (f r, ap (named (on slots m.0 f)) same ∙ (on_same slots m.0 f ∙ ap (option_map f) (ap (named slots) (sym same) ∙ e)), here (ap (λ a. record { 0 = a }) same))
    go (inr ne) = (r, on_other slots m.0 f n.0 ne ∙ e, other (λ h. ne (ap (λ (a : Rid). a.0) h)))

-- the same, of the region that it is now
pub changed_now : (slots : Slots Region) (m : Rid) (f : Region → Region) (P : Region → Region → Type 0) (n : Rid) (r : Region)
    → named slots n.0 ≡ Some r → (q : Region) → named (on slots m.0 f) n.0 ≡ Some q
    → (n ≡ m → P r (f r)) → ((n ≡ m → ⊥) → P r r) → P r q
changed_now slots m f P n r e q found here other =
    let (w, found_w, is) = changed slots m f P n r e here other in subst (P r) (some_same found_w found) is

-- the events that change regions
abbrev pub changes_regions : Event → Bool
changes_regions (event.Fork region team) = true
changes_regions event.Arrive = true
changes_regions event.Release = true
changes_regions (event.ImplicitEnd task) = true
changes_regions (event.Join region) = true
changes_regions (event.FreeRegion region) = true
changes_regions e = false

-- what has to be shown of a law of the slots behind an event
pub record OfSlots (p : Program) (s : State) (i : ℕ) (Q : Event → Slots Region → Slots Task → Type 0) : Type 0 where
  pub stays : (e : Event) → changes_regions e ≡ false → Q e s.regions s.tasks
  pub tasks : (e : Event) → changes_regions e ≡ false → (slots : Slots Task) → Q e s.regions slots → (n : Tid)
      (f : Task → Task) → Q e s.regions (on slots n.0 f)
  pub frees : (task : Tid) → Q (event.FreeTask task) s.regions (gone s.tasks task.0)
  pub defers : (task : Tid) (x : Task) → IsFresh s.tasks i task.0
      → Q (event.Defer task) s.regions (made s.tasks task.0 x)
  pub starts_now : (task : Tid) (x : Task) → IsFresh s.tasks i task.0
      → Q (event.StartNow task) s.regions (made s.tasks task.0 x)
  pub forks : (region : Rid) (team : List (Tid × ℕ)) (f : ℕ) (k : Tid) (t : Task) (r : Region)
      → MayFork s i region team
      → Q (event.Fork region team) (made s.regions region.0 (new_region k t r team f))
      (with_members (member_task p region k t r f) 0 team s.tasks)
  pub arrives : (k : Tid) (t : Task) → IsCurrent s i k t → Q event.Arrive (arrived s t).regions s.tasks
  pub releases : (k : Tid) (t : Task) (r : Region) → IsCurrent s i k t → region_of s t.region ≡ Some r
      → MayRelease s t r → Q event.Release (released s t).regions s.tasks
  pub ends : (task k : Tid) (t : Task) → IsCurrent s i k t
      → Q (event.ImplicitEnd task) (task_ended s i k t).regions (task_ended s i k t).tasks
  pub joins : (region : Rid) (k : Tid) (t : Task) (r : Region) → IsCurrent s i k t
      → Q (event.Join region) (joined s i k t r).regions (joined s i k t r).tasks
  pub frees_region : (region n : Rid) (number : ℕ) → MayFreeRegion s region n number
      → Q (event.FreeRegion region) (gone s.regions region.0) s.tasks

module _ (p : Program) (s : State) (i : ℕ) (Q : Event → Slots Region → Slots Task → Type 0)
    (q : OfSlots p s i Q) where
  abbrev Of : Event → State → Type 0
  Of e u = Q e u.regions u.tasks

  -- one task is changed
  task_effect : (e : Event) → changes_regions e ≡ false → (n : Tid) (f : Task → Task)
      → Q e s.regions (on s.tasks n.0 f)
  task_effect e same n f = q.tasks e same s.tasks (q.stays e same) n f

  -- and which task may be given back next
  freeing_effect : (e : Event) → changes_regions e ≡ false → (next : Option Freeable) (n : Tid) (f : Task → Task)
      (k : Option Tid) → Q e s.regions (freeing next k (on s.tasks n.0 f))
  freeing_effect e same next n f None = task_effect e same n f
  freeing_effect e same next n f (Some k) =
      q.tasks e same (on s.tasks n.0 f) (task_effect e same n f) k _

  pub slots_effect : (e : Event) (y : Item) → Rule s i e y
      → IfSome (effect p s i e y) (λ u. Q e u.regions u.tasks)
  slots_effect (event.Ask w true) y rule = q.stays (event.Ask w true) refl
  slots_effect (event.Ask w false) y rule = q.stays (event.Ask w false) refl
  slots_effect (event.Fork region team) (item.Fork f) rule =
      of_region s i (forked p s i region team f) (Of (event.Fork region team))
      (λ k t r. MayFork s i region team) rule (λ k t r is found may. q.forks region team f k t r may)
  slots_effect (event.Fork region team) y rule = tt
  slots_effect (event.ImplicitBegin task) y rule = task_effect (event.ImplicitBegin task) refl task _
  slots_effect event.Enter y rule =
      of_current s i (entered s) (Of event.Enter) (λ k t. ⊤) rule (λ k t is h. task_effect event.Enter refl k _)
  slots_effect event.Leave y rule =
      of_current s i (left s) (Of event.Leave) (λ k t. ⊤) rule (λ k t is h. task_effect event.Leave refl k _)
  slots_effect event.Arrive y rule =
      of_current_region s i (λ k t. arrived s t) (Of event.Arrive) _ rule
      (λ k t r is found h. q.arrives k t is)
  slots_effect event.Release y rule =
      of_current_region s i (λ k t. released s t) (Of event.Release) (λ k t r. MayRelease s t r) rule
      (λ k t r is found may. q.releases k t r is found may)
  slots_effect (event.ImplicitEnd task) y rule =
      of_current_region s i (task_ended s i) (Of (event.ImplicitEnd task)) _ rule
      (λ k t r is found h. q.ends task k t is)
  slots_effect (event.Join region) y rule =
      of_region s i (joined s i) (Of (event.Join region)) _ rule (λ k t r is found h. q.joins region k t r is)
  slots_effect (event.FreeTask task) (item.Frees (freeable.Finished n)) rule =
      of_current s i (freed s task _) (Of (event.FreeTask task)) _ rule
      (λ k t is h. q.tasks (event.FreeTask task) refl (gone s.tasks task.0) (q.frees task) k _)
  slots_effect (event.FreeTask task) (item.Frees (freeable.Joined n number)) rule =
      of_current s i (freed s task _) (Of (event.FreeTask task)) _ rule
      (λ k t is h. q.tasks (event.FreeTask task) refl (gone s.tasks task.0) (q.frees task) k _)
  slots_effect (event.FreeTask task) y rule = tt
  slots_effect (event.FreeRegion region) (item.Frees (freeable.Joined n number)) (k, t, is, may) =
      q.frees_region region n number may
  slots_effect (event.FreeRegion region) y rule = tt
  slots_effect (event.Defer task) (item.Defer seen f final) rule =
      of_current s i (deferred p s task f final seen) (Of (event.Defer task)) _ rule
      (λ k t is fresh. q.defers task _ fresh)
  slots_effect (event.Defer task) y rule = tt
  slots_effect (event.StartNow task) (item.Defer seen f final) rule =
      of_current s i (started_now p s i task f final) (Of (event.StartNow task)) _ rule
      (λ k t is fresh. q.starts_now task _ fresh)
  slots_effect (event.StartNow task) (item.StartNow f final) rule =
      of_current s i (started_now p s i task f final) (Of (event.StartNow task)) _ rule
      (λ k t is fresh. q.starts_now task _ fresh)
  slots_effect (event.StartNow task) y rule = tt
  slots_effect (event.Start task) (item.Tasks state) rule =
      of_current s i (started s i task) (Of (event.Start task)) _ rule
      (λ k t is h. task_effect (event.Start task) refl task _)
  slots_effect (event.Start task) item.OneTask rule =
      of_current s i (started_alone s i task) (Of (event.Start task)) _ rule
      (λ k t is h. task_effect (event.Start task) refl task _)
  slots_effect (event.Start task) y rule = tt
  slots_effect (event.Finish task) y rule =
      of_current s i (finished s i) (Of (event.Finish task)) _ rule
      (λ k t is h. freeing_effect (event.Finish task) refl (Some (freeable.Finished k)) k _ t.scheduling)
  slots_effect event.GroupBegin y rule =
      of_current s i (group_begun s) (Of event.GroupBegin) _ rule
      (λ k t is h. task_effect event.GroupBegin refl k _)
  slots_effect event.GroupEnd y rule =
      of_current s i (group_ended s) (Of event.GroupEnd) _ rule
      (λ k t is h. task_effect event.GroupEnd refl k _)
  slots_effect (event.Set icv value) y rule =
      of_set s i icv value (Of (event.Set icv value)) rule (q.stays (event.Set icv value) refl)
      (λ k t v is e. task_effect (event.Set icv value) refl k _)
  slots_effect (event.SetTool x) y rule =
      of_current s i (λ k t. with_tool s x k) (Of (event.SetTool x)) (λ k t. ⊤) rule
      (λ k t is h. task_effect (event.SetTool x) refl k _)
  slots_effect e y rule = q.stays e refl

-- the same of a law of regions alone
pub record OfRegions (s : State) (i : ℕ) (Q : Event → Slots Region → Type 0) : Type 0 where
  pub stays : (e : Event) → changes_regions e ≡ false → Q e s.regions
  pub forks : (region : Rid) (team : List (Tid × ℕ)) (f : ℕ) (k : Tid) (t : Task) (r : Region)
      → MayFork s i region team
      → Q (event.Fork region team) (made s.regions region.0 (new_region k t r team f))
  pub arrives : (k : Tid) (t : Task) → IsCurrent s i k t → Q event.Arrive (arrived s t).regions
  pub releases : (k : Tid) (t : Task) (r : Region) → IsCurrent s i k t → region_of s t.region ≡ Some r
      → MayRelease s t r → Q event.Release (released s t).regions
  pub ends : (task k : Tid) (t : Task) → IsCurrent s i k t
      → Q (event.ImplicitEnd task) (task_ended s i k t).regions
  pub joins : (region : Rid) (k : Tid) (t : Task) (r : Region) → IsCurrent s i k t
      → Q (event.Join region) (joined s i k t r).regions
  pub frees_region : (region n : Rid) (number : ℕ) → MayFreeRegion s region n number
      → Q (event.FreeRegion region) (gone s.regions region.0)

pub regions_effect : (p : Program) (s : State) (i : ℕ) (Q : Event → Slots Region → Type 0) → OfRegions s i Q
    → (e : Event) (y : Item) → Rule s i e y → IfSome (effect p s i e y) (λ u. Q e u.regions)
regions_effect p s i Q q = slots_effect p s i (λ e regions tasks. Q e regions) (record {
  stays = q.stays;
  tasks = λ e same slots h n f. h;
  frees = λ task. q.stays (event.FreeTask task) refl;
  defers = λ task x fresh. q.stays (event.Defer task) refl;
  starts_now = λ task x fresh. q.stays (event.StartNow task) refl;
  forks = q.forks;
  arrives = q.arrives;
  releases = q.releases;
  ends = q.ends;
  joins = q.joins;
  frees_region = q.frees_region;
})
