-- Each task and each region stays over an event that does not give it back.
use Rattle.std.proofs.Common.{◌≡◌, ◌⊎◌, inl, inr, ℕ, List, Option, Some, refl, sym, ap, ◌∙◌}
use Rattle.omi_script.specs.declared.program.Program.{Program}
use Rattle.omi_model.specs.declared.event.Event.{Event}
use Rattle.omi_model.specs.declared.event.Event.TheVariants as event
use Rattle.omi_model.specs.declared.freeable.Freeable.{Freeable}
use Rattle.omi_model.specs.declared.freeable.Freeable.TheVariants as freeable
use Rattle.omi_model.specs.declared.id.Id.{Id}
use Rattle.omi_model.specs.declared.id.Rid.{Rid}
use Rattle.omi_model.specs.declared.id.Tid.{Tid}
use Rattle.omi_model.specs.declared.item.Item.{Item}
use Rattle.omi_model.specs.declared.item.Item.TheVariants as item
use Rattle.omi_model.specs.declared.progress.Progress.TheVariants.{Finished}
use Rattle.omi_model.specs.declared.region.Region.{Region}
use Rattle.omi_model.specs.declared.task.Task.{Task}
use Rattle.omi_model.specs.Changes.{OfCurrent, encounter}
use Rattle.omi_model.specs.Freeing.{MayFree, MayFreeMember, MayFreeRegion, freed, region_freed}
use Rattle.omi_model.specs.Lists.{stays}
use Rattle.omi_model.specs.Put.{Slots, gone, named, on}
use Rattle.omi_model.specs.Reached.{Step}
use Rattle.omi_model.specs.Rules.{Rule, effect}
use Rattle.omi_model.specs.State.{State, region_of, task_of}
use Rattle.omi_model.specs.Teams.{member_task, new_region}
use Rattle.omi_model.proofs.EachObject.{found_later}
use Rattle.omi_model.proofs.SlotEffects.{OfRegions, OfSlots, over_freeing, regions_effect, slots_effect}
use Rattle.omi_model.proofs.Slots.{each_on, gone_apart, gone_other, later_on, made_stays, some_same}
use Rattle.omi_model.proofs.StaysKept.{fresh_empty, list_keeps, new_team}
use Rattle.omi_model.proofs.Steps.{from_some, is_relisted, move_of, moved_on}

-- an object of this name lives
abbrev IsThere : {A : Type 0} → Slots A → Id → Type 0
IsThere {A = A} slots n = (x : A) × (named slots n ≡ Some x)

there_on : {A : Type 0} (slots : Slots A) (k : Id) (f : A → A) (n : Id) → IsThere slots n → IsThere (on slots k f) n
there_on {A} slots k f n (x, live) =
    let (y, found, is) = later_on (λ (u v : A). Unit {0}) (λ u. tt) slots k f (λ u e. tt) n x live in (y, found)

-- the event gives back neither this task nor this region
abbrev pub SparesTask : Event → Tid → Type 0
SparesTask e k = (task : Tid) → e ≡ event.FreeTask task → k ≡ task → ⊥

abbrev pub SparesRegion : Event → Rid → Type 0
SparesRegion e n = (region : Rid) → e ≡ event.FreeRegion region → n ≡ region → ⊥

module _ (p : Program) (s : State) (i : ℕ) where
  task_left : (k : Tid) (t : Task) → task_of s k ≡ Some t
      → OfSlots p s i (λ e regions tasks. SparesTask e k → IsThere tasks k.0)
  task_left k t live = record {
    stays = λ e same not. (t, live);
    tasks = λ e same slots q n f not. there_on slots n.0 f k.0 (q not);
    frees = λ task not. (t, gone_other s.tasks task.0 k.0 t (λ same. not task refl (ap (λ (a : Id). record { 0 = a }) same)) live);
    defers = λ task x fresh not. (t, made_stays s.tasks task.0 x k.0 t (fresh_empty s.tasks i task.0 fresh) live);
    starts_now = λ task x fresh not. (t, made_stays s.tasks task.0 x k.0 t (fresh_empty s.tasks i task.0 fresh) live);
    forks = λ region team f j u r may not. (
      t,
      found_later (member_task p region j u r f) 0 team s.tasks i k.0 t
          (new_team s.tasks i team may.tasks_new may.distinct) live,
    );
    arrives = λ j u is not. (t, live);
    releases = λ j u r is found may not. (t, live);
    ends = λ task j u is not. there_on s.tasks j.0 (λ v. record v { progress = Finished }) k.0 (t, live);
    joins = λ region j u r is not. over_freeing (λ slots. IsThere slots k.0) (λ slots n f h. there_on slots n.0 f k.0 h) _
        r.encountering (on s.tasks j.0 _) (there_on s.tasks j.0 (λ v. record v { progress = Finished }) k.0 (t, live));
    frees_region = λ region n number may not. (t, live);
  }

  region_left : (n : Rid) (r : Region) → region_of s n ≡ Some r
      → OfRegions s i (λ e regions. SparesRegion e n → IsThere regions n.0)
  region_left n r live = record {
    stays = λ e same not. (r, live);
    forks = λ region team f k t q may not. (
      r,
      made_stays s.regions region.0 (new_region k t q team f) n.0 r (fresh_empty s.regions i region.0 may.region_new) live,
    );
    arrives = λ k t is not. there_on s.regions t.region.0 _ n.0 (r, live);
    releases = λ k t q is found may not. there_on s.regions t.region.0 _ n.0 (r, live);
    ends = λ task k t is not. there_on s.regions t.region.0 _ n.0 (r, live);
    joins = λ region k t q is not. there_on s.regions t.region.0 _ n.0 (r, live);
    frees_region = λ region m number may not. (
      r,
      gone_other s.regions region.0 n.0 r (λ same. not region refl (ap (λ (a : Id). record { 0 = a }) same)) live,
    );
  }

module _ (p : Program) (s : State) (i : ℕ) (e : Event) (next : State) (step : Step p s i e next) where
  pub task_stays : (k : Tid) (t : Task) → task_of s k ≡ Some t → SparesTask e k
      → (v : Task) × (task_of next k ≡ Some v)
  task_stays k t live not =
      let m = move_of p s i e next step in
      let zs : List Item = stays (encounter s i) e m.item m.behind in
      let middle : State = moved_on s i e m.item m.behind in
      let (v, found, same) = list_keeps s i zs k t live in
      from_some (λ (u : State). SparesTask e k → IsThere u.tasks k.0) (effect p middle i e m.item) next m.effect_is
      (slots_effect p middle i (λ g regions tasks. SparesTask g k → IsThere tasks k.0) (task_left p middle i k v found) e m.item m.rule_moved)
      not

  pub region_stays : (n : Rid) (r : Region) → region_of s n ≡ Some r → SparesRegion e n
      → (q : Region) × (region_of next n ≡ Some q)
  region_stays n r live not =
      let m = move_of p s i e next step in
      let zs : List Item = stays (encounter s i) e m.item m.behind in
      let middle : State = moved_on s i e m.item m.behind in
      from_some (λ (u : State). SparesRegion e n → IsThere u.regions n.0) (effect p middle i e m.item) next m.effect_is
      (regions_effect p middle i (λ g regions. SparesRegion g n → IsThere regions n.0)
      (region_left p middle i n r ((is_relisted s i zs).regions n ∙ live)) e m.item m.rule_moved) not

-- ---- rules of events that give back

-- a task is given back: one that finished, or a member's
pub task_rule : (s : State) (i : ℕ) (task : Tid) (y : Item) → Rule s i (event.FreeTask task) y
    → ((n : Tid) × (y ≡ item.Frees (freeable.Finished n)) × OfCurrent s i (λ k t. MayFree s task n))
    ⊎ ((n : Rid) × (number : ℕ) × (y ≡ item.Frees (freeable.Joined n number)) × OfCurrent s i (λ k t. MayFreeMember s task n number))
task_rule s i task (item.Frees (freeable.Finished n)) rule = inl (n, refl, rule)
task_rule s i task (item.Frees (freeable.Joined n number)) rule = inr (n, number, refl, rule)
task_rule s i task y rule = absurd rule

pub region_rule : (s : State) (i : ℕ) (region : Rid) (y : Item) → Rule s i (event.FreeRegion region) y
    → (n : Rid) × (number : ℕ) × (y ≡ item.Frees (freeable.Joined n number))
    × OfCurrent s i (λ k t. MayFreeRegion s region n number)
region_rule s i region (item.Frees (freeable.Joined n number)) rule = (n, number, refl, rule)
region_rule s i region y rule = absurd rule

-- what is given back is gone
pub region_gone : (p : Program) (s : State) (i : ℕ) (region : Rid) (y : Item) (next : State) → Rule s i (event.FreeRegion region) y
    → effect p s i (event.FreeRegion region) y ≡ Some next → (q : Region) → region_of next region ≡ Some q → ⊥
region_gone p s i region (item.Frees (freeable.Joined n number)) next rule made q found =
    let same : region_freed s region ≡ next = some_same refl made in
    gone_apart s.regions region.0 q (ap (λ (u : State). region_of u region) same ∙ found)
region_gone p s i region y next rule made q found = absurd rule

pub task_gone : (s : State) (task : Tid) (x : Option Freeable) (k : Tid) (t v : Task)
    → task_of (freed s task x k t) task ≡ Some v → ⊥
task_gone s task x k t v found =
    each_on (λ n y. n ≡ task.0 → ⊥) (gone s.tasks task.0) k.0 (λ u. record u { frees = x })
    (λ n y e same. gone_apart s.tasks task.0 y (ap (named (gone s.tasks task.0)) (sym same) ∙ e)) (λ y e h. h)
    task.0 v found refl
