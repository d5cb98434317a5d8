-- What lives in a slot has a name: a slot with a live object has had at least one generation.
use Rattle.std.proofs.Common.{◌≡◌, ◌==◌, ◌+◌, ◌-◌, ◌≤◌, ℕ, Bool, true, false, ◌&&◌, List, [], ◌∷◌, Some, None, if◌then◌else◌, refl, ap, ◌∙◌, arith, eq-eqb}
use Rattle.omi_script.specs.declared.program.Program.{Program}
use Rattle.omi_model.specs.declared.event.Event.{Event}
use Rattle.omi_model.specs.declared.id.Id.{Id}
use Rattle.omi_model.specs.declared.id.Rid.{Rid}
use Rattle.omi_model.specs.declared.id.Tid.{Tid}
use Rattle.omi_model.specs.declared.item.Item.{Item}
use Rattle.omi_model.specs.declared.progress.Progress.TheVariants.{Finished}
use Rattle.omi_model.specs.declared.region.Region.{Region}
use Rattle.omi_model.specs.declared.slot.Slot.{Slot}
use Rattle.omi_model.specs.declared.task.Task.{Task}
use Rattle.omi_model.specs.Changes.{encounter, with_list}
use Rattle.omi_model.specs.Lists.{stays}
use Rattle.omi_model.specs.Opening.{opening, opening_region, opening_task}
use Rattle.omi_model.specs.Put.{Slots, first_alone, gone, made, named, on, unused}
use Rattle.omi_model.specs.Reached.{Reached, Step}
use Rattle.omi_model.specs.Rules.{effect}
use Rattle.omi_model.specs.State.{State, region_of, task_of}
use Rattle.omi_model.specs.Teams.{member_task, new_region, with_members}
use Rattle.omi_model.proofs.EachObject.{over_events}
use Rattle.omi_model.proofs.SlotEffects.{OfSlots, over_freeing, slots_effect}
use Rattle.omi_model.proofs.Slots.{each_slot, gone_generations, gone_live, none_some, on_generations}
use Rattle.omi_model.proofs.Steps.{from_some, list_moves, move_of, on_live, relisted}

abbrev AreNumbered : {A : Type 0} → Slots A → Type 0
AreNumbered {A = A} slots = (c j : ℕ) (x : A) → (slots c j).live ≡ Some x → 1 ≤ (slots c j).generations

numbered_on : {A : Type 0} (slots : Slots A) (k : Id) (f : A → A) → AreNumbered slots → AreNumbered (on slots k f)
numbered_on {A} slots k f all c j x live =
    let same = on_generations slots k f c j in
    let more =
    on_live slots k f (λ y. 1 ≤ (slots c j).generations) (λ y h. h) c j (λ y e. all c j y e) x live in
    omega (arith, same, more)

numbered_made : {A : Type 0} (slots : Slots A) (k : Id) (x : A) → AreNumbered slots → AreNumbered (made slots k x)
numbered_made {A} slots k x all =
    each_slot slots k (λ c j (slot : Slot A). (y : A) → slot.live ≡ Some y → 1 ≤ slot.generations)
    (record { generations = k.generation + 1; live = Some x }) (λ y live. omega arith)
    (λ c j apart y live. all c j y live)

numbered_gone : {A : Type 0} (slots : Slots A) (k : Id) → AreNumbered slots → AreNumbered (gone slots k)
numbered_gone {A} slots k all c j x live =
    let same = gone_generations slots k c j in
    let more = all c j x (gone_live slots k c j x live) in
    omega (arith, same, more)

numbered_members : (task : ℕ → ℕ → Task) (n : ℕ) (team : List (Tid × ℕ)) (slots : Slots Task) → AreNumbered slots
    → AreNumbered (with_members task n team slots)
numbered_members task n [] slots all = all
numbered_members task n (m ∷ ms) slots all =
    numbered_members task (n + 1) ms (made slots m.0.0 (task n m.1)) (numbered_made slots m.0.0 (task n m.1) all)

-- the slots of a state
abbrev AreSlotsNumbered : State → Type 0
AreSlotsNumbered s = AreNumbered s.regions × AreNumbered s.tasks

numbered_effect : (p : Program) (s : State) (i : ℕ) → AreSlotsNumbered s
    → OfSlots p s i (λ e regions tasks. AreNumbered regions × AreNumbered tasks)
numbered_effect p s i all = record {
  stays = λ e same. (all.0, all.1);
  tasks = λ e same slots q n f. (all.0, numbered_on slots n.0 f q.1);
  frees = λ task. (all.0, numbered_gone s.tasks task.0 all.1);
  defers = λ task x fresh. (all.0, numbered_made s.tasks task.0 x all.1);
  starts_now = λ task x fresh. (all.0, numbered_made s.tasks task.0 x all.1);
  forks = λ region team f k t r may. (
    numbered_made s.regions region.0 (new_region k t r team f) all.0,
    numbered_members (member_task p region k t r f) 0 team s.tasks all.1,
  );
  arrives = λ k t is. (numbered_on s.regions t.region.0 _ all.0, all.1);
  releases = λ k t r is found may. (numbered_on s.regions t.region.0 _ all.0, all.1);
  ends = λ task k t is. (numbered_on s.regions t.region.0 _ all.0, numbered_on s.tasks k.0 _ all.1);
  joins = λ region k t r is. (
    numbered_on s.regions t.region.0 _ all.0,
    over_freeing AreNumbered (λ slots n f h. numbered_on slots n.0 f h) _ r.encountering (on s.tasks k.0 _)
        (numbered_on s.tasks k.0 (λ u. record u { progress = Finished }) all.1),
  );
  frees_region = λ region n number may. (numbered_gone s.regions region.0 all.0, all.1);
}

numbered_step : (p : Program) (s : State) (i : ℕ) (e : Event) (next : State) → Step p s i e next
    → AreSlotsNumbered s → AreSlotsNumbered next
numbered_step p s i e next step all =
    let m = move_of p s i e next step in
    let zs : List Item = stays (encounter s i) e m.item m.behind in
    let middle : AreSlotsNumbered (with_list s i zs) =
    list_moves s i zs AreSlotsNumbered (λ k is. (all.0, numbered_on s.tasks k.0 (relisted zs) all.1)) (λ none. all) in
    from_some AreSlotsNumbered (effect p (with_list s i zs) i e m.item) next m.effect_is
    (slots_effect p (with_list s i zs) i (λ g regions tasks. AreNumbered regions × AreNumbered tasks)
    (numbered_effect p (with_list s i zs) i middle) e m.item m.rule_moved)

first_numbered : {A : Type 0} (x : A) → AreNumbered (first_alone x)
first_numbered {A} x c k y live = go (c == 0 && k == 0) live
  where
    go : (b : Bool) → (if b then record { generations = 1; live = Some x } else unused).live ≡ Some y
        → 1 ≤ (if b then record { generations = 1; live = Some x } else unused).generations
    go true e = omega arith
    go false e = absurd (none_some refl e)

numbered : (p : Program) (events : List (ℕ × Event)) (s : State) → Reached p events s → AreSlotsNumbered s
numbered p events s reached =
    over_events p AreSlotsNumbered (λ u i e next step h. numbered_step p u i e next step h) (opening p) events s reached
    (first_numbered (opening_region p), first_numbered (opening_task p))

name_of : {A : Type 0} (slots : Slots A) (c j : ℕ) (x : A) → 1 ≤ (slots c j).generations → (slots c j).live ≡ Some x
    → (n : Id) × (named slots n ≡ Some x)
name_of {A} slots c j x some live =
    let g : ℕ = (slots c j).generations - 1 in
    let same : (slots c j).generations ≡ g + 1 = omega (arith, some) in (
      record { creator = c; slot = j; generation = g },
      ap (λ b. if b then (slots c j).live else None) (eq-eqb (slots c j).generations (g + 1) same) ∙ live,
    )

pub task_named : (p : Program) (events : List (ℕ × Event)) (s : State) → Reached p events s
    → (c j : ℕ) (t : Task) → (s.tasks c j).live ≡ Some t → (k : Tid) × (task_of s k ≡ Some t)
task_named p events s reached c j t live =
    let (n, found) = name_of s.tasks c j t ((numbered p events s reached).1 c j t live) live in
    (record { 0 = n }, found)

pub region_named : (p : Program) (events : List (ℕ × Event)) (s : State) → Reached p events s
    → (c j : ℕ) (r : Region) → (s.regions c j).live ≡ Some r → (n : Rid) × (region_of s n ≡ Some r)
region_named p events s reached c j r live =
    let (n, found) = name_of s.regions c j r ((numbered p events s reached).0 c j r live) live in
    (record { 0 = n }, found)
