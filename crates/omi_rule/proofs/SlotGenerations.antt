-- No slot has had more than 2^32 generations, whatever lives in it.
use Rattle.std.proofs.Common.{◌≡◌, ◌≤◌, ◌<◌, ◌+◌, ◌^◌, ◌==◌, ◌&&◌, ℕ, suc, Bool, true, false, List, [], ◌∷◌, slice_get, Some, refl, sym, subst, arith, if◌then◌else◌}
use Rattle.omi_script.specs.declared.program.Program.{Program}
use Rattle.omi_model.specs.declared.event.Event.{Event}
use Rattle.omi_model.specs.declared.event.Event.TheVariants as event
use Rattle.omi_model.specs.declared.id.Id.{Id}
use Rattle.omi_model.specs.declared.id.Rid.{Rid}
use Rattle.omi_model.specs.declared.id.Tid.{Tid}
use Rattle.omi_model.specs.declared.item.Item.{Item}
use Rattle.omi_model.specs.declared.region.Region.{Region}
use Rattle.omi_model.specs.declared.slot.Slot.{Slot}
use Rattle.omi_model.specs.declared.task.Task.{Task}
use Rattle.omi_model.specs.Changes.{with_list}
use Rattle.omi_model.specs.Fresh.{IsFresh}
use Rattle.omi_model.specs.Opening.{opening, opening_region, opening_task}
use Rattle.omi_model.specs.Put.{Slots, first_alone, gone, made, on, unused}
use Rattle.omi_model.specs.Reached.{Reached, Step}
use Rattle.omi_model.specs.Rules.{Rule, effect}
use Rattle.omi_model.specs.State.{State}
use Rattle.omi_model.specs.Teams.{member_task, with_members}
use Rattle.omi_model.proofs.EachObject.{over_events}
use Rattle.omi_model.proofs.SlotEffects.{OfSlots, over_freeing, slots_effect}
use Rattle.omi_model.proofs.Slots.{each_slot, on_generations, gone_generations}
use Rattle.omi_model.proofs.Steps.{from_some, list_moves, move_of, moved_on}
use Rattle.omi_rule_words.proofs.MadeMembers.{all_at}

-- ---- slots

abbrev pub AreFew : {A : Type 0} → Slots A → Type 0
AreFew {A} slots = (c k : ℕ) → (slots c k).generations ≤ 2 ^ 32

few_on : {A : Type 0} (slots : Slots A) (n : Id) (f : A → A) → AreFew slots → AreFew (on slots n f)
few_on {A} slots n f all c k = subst (λ g. g ≤ 2 ^ 32) (sym (on_generations slots n f c k)) (all c k)

few_made : {A : Type 0} (slots : Slots A) (n : Id) (x : A) → n.generation < 2 ^ 32 → AreFew slots
    → AreFew (made slots n x)
few_made {A} slots n x below all =
    each_slot slots n (λ c k (y : Slot A). y.generations ≤ 2 ^ 32)
    (record { generations = n.generation + 1; live = Some x }) (omega (arith, below)) (λ c k apart. all c k)

few_members : (task : ℕ → ℕ → Task) (j : ℕ) (team : List (Tid × ℕ)) (slots : Slots Task)
    → ((n : ℕ) (m : Tid × ℕ) → slice_get team n ≡ Some m → m.0.0.generation < 2 ^ 32) → AreFew slots
    → AreFew (with_members task j team slots)
few_members task j [] slots below all = all
few_members task j (m ∷ ms) slots below all =
    few_members task (j + 1) ms (made slots m.0.0 (task j m.1)) (λ n x at. below (suc n) x at)
    (few_made slots m.0.0 (task j m.1) (below 0 m refl) all)

few_first : {A : Type 0} (x : A) → AreFew (first_alone x)
few_first {A} x c k = go (c == 0 && k == 0)
  where
    go : (b : Bool) → (if b then record { generations = 1; live = Some x } else unused).generations ≤ 2 ^ 32
    go true = omega arith
    go false = omega arith

-- ---- states

abbrev AllFew : State → Type 0
AllFew u = AreFew u.regions × AreFew u.tasks

few_gone : {A : Type 0} (slots : Slots A) (n : Id) → AreFew slots → AreFew (gone slots n)
few_gone {A} slots n all c k = subst (λ g. g ≤ 2 ^ 32) (sym (gone_generations slots n c k)) (all c k)

-- an event that makes a task makes one of a generation that there is
abbrev MakesBelow : Event → Type 0
MakesBelow (event.Defer task) = task.0.generation < 2 ^ 32
MakesBelow (event.StartNow task) = task.0.generation < 2 ^ 32
MakesBelow e = Unit {0}

makes_below : (s : State) (i : ℕ) (e : Event) (y : Item) → Rule s i e y → MakesBelow e
makes_below s i (event.Defer task) y (k, t, current, fresh) = fresh.below
makes_below s i (event.StartNow task) y (k, t, current, fresh) = fresh.below
makes_below s i e y rule = tt

module _ (p : Program) (z : State) (i : ℕ) (all : AllFew z) where
  by_region : (n : Rid) (f : Region → Region) → AreFew (on z.regions n.0 f)
  by_region n f = few_on z.regions n.0 f all.0

  by_task : (k : Tid) (f : Task → Task) → AreFew (on z.tasks k.0 f)
  by_task k f = few_on z.tasks k.0 f all.1

  effect_few : OfSlots p z i (λ e regions tasks. MakesBelow e → AreFew regions × AreFew tasks)
  effect_few = record {
    stays = λ e same below. all;
    tasks = λ e same slots q n f below. (all.0, few_on slots n.0 f (q below).1);
    frees = λ task below. (all.0, few_gone z.tasks task.0 all.1);
    defers = λ task x fresh below. (all.0, few_made z.tasks task.0 x below all.1);
    starts_now = λ task x fresh below. (all.0, few_made z.tasks task.0 x below all.1);
    forks = λ region team f k t r may below. (
      few_made z.regions region.0 _ may.region_new.below all.0,
      few_members (member_task p region k t r f) 0 team z.tasks (λ n m at. (all_at (λ (x : Tid × ℕ). IsFresh z.tasks i x.0.0) team may.tasks_new n m at).below) all.1,
    );
    arrives = λ k t is below. (by_region t.region _, all.1);
    releases = λ k t r is found may below. (by_region t.region _, all.1);
    ends = λ task k t is below. (by_region t.region _, by_task k _);
    joins = λ region k t r is below. (
      by_region t.region _,
      over_freeing AreFew (λ slots n f h. few_on slots n.0 f h) _ r.encountering (on z.tasks k.0 _) (by_task k _),
    );
    frees_region = λ region n number may below. (few_gone z.regions region.0 all.0, all.1);
  }

  list_few : (zs : List Item) → AllFew (with_list z i zs)
  list_few zs = list_moves z i zs AllFew (λ k is. (all.0, by_task k _)) (λ none. all)

few_step : (p : Program) (s : State) (i : ℕ) (e : Event) (next : State) → Step p s i e next → AllFew s
    → AllFew next
few_step p s i e next step all =
    let m = move_of p s i e next step in
    let middle : State = moved_on s i e m.item m.behind in
    from_some (λ (u : State). MakesBelow e → AllFew u) (effect p middle i e m.item) next m.effect_is
    (slots_effect p middle i (λ e regions tasks. MakesBelow e → AreFew regions × AreFew tasks) (effect_few p middle i (list_few p s i all _)) e m.item m.rule_moved)
    (makes_below middle i e m.item m.rule_moved)

pub slots_few : (p : Program) (events : List (ℕ × Event)) (s : State) → Reached p events s
    → AreFew s.regions × AreFew s.tasks
slots_few p events s reached =
    over_events p AllFew (λ u i e next step h. few_step p u i e next step h) (opening p) events s reached
    (few_first (opening_region p), few_first (opening_task p))
