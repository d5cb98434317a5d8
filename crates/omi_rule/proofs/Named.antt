-- Each live object has a name: where it lives, the slot has had a generation.
use Rattle.std.proofs.Common.{◌≡◌, ◌≢◌, ◌+◌, ◌-◌, ◌==◌, ◌&&◌, ℕ, Bool, true, false, List, [], ◌∷◌, Option, Some, None, refl, ap, ◌∙◌, arith, eq-eqb, if◌then◌else◌, sym}
use Rattle.std.specs.Option.{option_map}
use Rattle.omi_script.specs.declared.program.Program.{Program}
use Rattle.omi_model.specs.declared.event.Event.{Event}
use Rattle.omi_model.specs.declared.id.Id.{Id}
use Rattle.omi_model.specs.declared.id.Rid.{Rid}
use Rattle.omi_model.specs.declared.id.Tid.{Tid}
use Rattle.omi_model.specs.declared.item.Item.{Item}
use Rattle.omi_model.specs.declared.region.Region.{Region}
use Rattle.omi_model.specs.declared.slot.Slot.{Slot}
use Rattle.omi_model.specs.declared.task.Task.{Task}
use Rattle.omi_model.specs.Changes.{with_list}
use Rattle.omi_model.specs.Opening.{opening, opening_region, opening_task}
use Rattle.omi_model.specs.Put.{Slots, changed, first_alone, made, on, unused, gone}
use Rattle.omi_model.specs.Reached.{Reached, Step}
use Rattle.omi_model.specs.Rules.{effect}
use Rattle.omi_model.specs.State.{State, task_of}
use Rattle.omi_model.specs.Teams.{member_task, with_members}
use Rattle.omi_model.proofs.EachObject.{over_events}
use Rattle.omi_model.proofs.SlotEffects.{OfSlots, over_freeing, slots_effect}
use Rattle.omi_model.proofs.Slots.{each_slot, none_some, gone_generations, gone_live}
use Rattle.omi_model.proofs.Steps.{from_some, list_moves, move_of, moved_on}
use Rattle.omi_rep.specs.Shows.{LiveAreNamed}

-- where an object lives, the slot has had a generation
abbrev pub IsCounted : {A : Type 0} → Slot A → Type 0
IsCounted {A} x = (y : A) → x.live ≡ Some y → x.generations ≢ 0

abbrev pub AreCounted : {A : Type 0} → Slots A → Type 0
AreCounted {A} slots = (c k : ℕ) → IsCounted (slots c k)

counted_on : {A : Type 0} (slots : Slots A) (n : Id) (f : A → A) → AreCounted slots
    → AreCounted (on slots n f)
counted_on {A} slots n f all =
    each_slot slots n (λ c k (x : Slot A). IsCounted x) (changed n.generation f (slots n.creator n.slot))
    (go ((slots n.creator n.slot).generations == n.generation + 1)) (λ c k apart. all c k)
  where
    mapped : (o : Option A) → (slots n.creator n.slot).live ≡ o → (y : A) → option_map f o ≡ Some y
        → (slots n.creator n.slot).generations ≢ 0
    mapped None is y e = absurd (none_some refl e)
    mapped (Some x) is y e = all n.creator n.slot x is

    go : (b : Bool)
        → IsCounted (if b then record { generations = (slots n.creator n.slot).generations; live = option_map f (slots n.creator n.slot).live } else slots n.creator n.slot)
    go true y e = mapped (slots n.creator n.slot).live refl y e
    go false y e = all n.creator n.slot y e

counted_made : {A : Type 0} (slots : Slots A) (n : Id) (x : A) → AreCounted slots
    → AreCounted (made slots n x)
counted_made {A} slots n x all =
    each_slot slots n (λ c k (y : Slot A). IsCounted y)
    (record { generations = n.generation + 1; live = Some x }) (λ y e zero. omega (arith, zero))
    (λ c k apart. all c k)

counted_gone : {A : Type 0} (slots : Slots A) (n : Id) → AreCounted slots → AreCounted (gone slots n)
counted_gone {A} slots n all c k y e zero =
    all c k y (gone_live slots n c k y e) (sym (gone_generations slots n c k) ∙ zero)

counted_members : (task : ℕ → ℕ → Task) (j : ℕ) (team : List (Tid × ℕ)) (slots : Slots Task)
    → AreCounted slots → AreCounted (with_members task j team slots)
counted_members task j [] slots all = all
counted_members task j (m ∷ ms) slots all =
    counted_members task (j + 1) ms (made slots m.0.0 (task j m.1))
    (counted_made slots m.0.0 (task j m.1) all)

-- of regions and of tasks
abbrev pub AllCounted : State → Type 0
AllCounted u = AreCounted u.regions × AreCounted u.tasks

module _ (p : Program) (z : State) (i : ℕ) (all : AllCounted z) where
  by_region : (n : Rid) (f : Region → Region) → AreCounted (on z.regions n.0 f)
  by_region n f = counted_on z.regions n.0 f all.0

  by_task : (k : Tid) (f : Task → Task) → AreCounted (on z.tasks k.0 f)
  by_task k f = counted_on z.tasks k.0 f all.1

  effect_counted : OfSlots p z i (λ e regions tasks. AreCounted regions × AreCounted tasks)
  effect_counted = record {
    stays = λ e same. all;
    tasks = λ e same slots q n f. (all.0, counted_on slots n.0 f q.1);
    frees = λ task. (all.0, counted_gone z.tasks task.0 all.1);
    defers = λ task x fresh. (all.0, counted_made z.tasks task.0 x all.1);
    starts_now = λ task x fresh. (all.0, counted_made z.tasks task.0 x all.1);
    forks = λ region team f k t r may. (counted_made z.regions region.0 _ all.0, counted_members (member_task p region k t r f) 0 team z.tasks all.1);
    arrives = λ k t is. (by_region t.region _, all.1);
    releases = λ k t r is found may. (by_region t.region _, all.1);
    ends = λ task k t is. (by_region t.region _, by_task k _);
    joins = λ region k t r is. (
      by_region t.region _,
      over_freeing AreCounted (λ slots n f h. counted_on slots n.0 f h) _ r.encountering (on z.tasks k.0 _) (by_task k _),
    );
    frees_region = λ region n number may. (counted_gone z.regions region.0 all.0, all.1);
  }

  list_counted : (zs : List Item) → AllCounted (with_list z i zs)
  list_counted zs = list_moves z i zs AllCounted (λ k is. (all.0, by_task k _)) (λ none. all)

counted_step : (p : Program) (s : State) (i : ℕ) (e : Event) (next : State) → Step p s i e next → AllCounted s
    → AllCounted next
counted_step p s i e next step all =
    let m = move_of p s i e next step in
    let middle : State = moved_on s i e m.item m.behind in
    from_some AllCounted (effect p middle i e m.item) next m.effect_is
    (slots_effect p middle i (λ e regions tasks. AreCounted regions × AreCounted tasks) (effect_counted p middle i (list_counted p s i all _)) e m.item m.rule_moved)

counted_first : {A : Type 0} (x : A) → AreCounted (first_alone x)
counted_first {A} x c k = go (c == 0 && k == 0)
  where
    go : (b : Bool) → IsCounted {A = A} (if b then record { generations = 1; live = Some x } else unused)
    go true y e = λ zero. omega (arith, zero)
    go false y e = absurd (none_some refl e)

all_counted : (p : Program) (events : List (ℕ × Event)) (s : State) → Reached p events s → AllCounted s
all_counted p events s reached =
    over_events p AllCounted (λ u i e next step h. counted_step p u i e next step h)
    (opening p) events s reached (counted_first (opening_region p), counted_first (opening_task p))

counted_named : {A : Type 0} (slots : Slots A) → AreCounted slots → LiveAreNamed slots
counted_named {A} slots all c k x live =
    let some : (slots c k).generations == (slots c k).generations - 1 + 1 ≡ true =
    eq-eqb _ _ (one_less (slots c k).generations (all c k x live)) in
    ((slots c k).generations - 1, ap (λ b. if b then (slots c k).live else None) some ∙ live)
  where
    one_less : (n : ℕ) → n ≢ 0 → n ≡ n - 1 + 1
    one_less n ne = omega (arith, ne)

pub all_named : (p : Program) (events : List (ℕ × Event)) (s : State) → Reached p events s
    → LiveAreNamed s.regions × LiveAreNamed s.tasks
all_named p events s reached =
    let (in_regions, in_tasks) = all_counted p events s reached in (counted_named s.regions in_regions, counted_named s.tasks in_tasks)

-- the name of a live task
pub record IsTaskIn (s : State) (c k : ℕ) (t : Task) : Type 0 where
  pub name : Tid
  pub creator : name.0.creator ≡ c
  pub slot : name.0.slot ≡ k
  pub live : task_of s name ≡ Some t

pub task_named : (p : Program) (events : List (ℕ × Event)) (s : State) → Reached p events s
    → (c k : ℕ) (t : Task) → (s.tasks c k).live ≡ Some t → IsTaskIn s c k t
task_named p events s reached c k t live =
    let (g, is) = (all_named p events s reached).1 c k t live in
    record { name = record { 0 = record { creator = c; slot = k; generation = g } }; creator = refl; slot = refl; live = is }
