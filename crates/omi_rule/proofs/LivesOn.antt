-- What an event leaves in the slots of tasks: an object that lived lives on, or its slot is empty.
use Rattle.std.proofs.Common.{◌≡◌, ◌⊎◌, ◌==◌, ◌+◌, inl, inr, ℕ, Bool, true, false, List, Some, None, if◌then◌else◌, refl, sym, subst}
use Rattle.omi_script.specs.declared.program.Program.{Program}
use Rattle.omi_model.specs.declared.event.Event.{Event}
use Rattle.omi_model.specs.declared.id.Id.{Id}
use Rattle.omi_model.specs.declared.id.Tid.{Tid}
use Rattle.omi_model.specs.declared.item.Item.{Item}
use Rattle.omi_model.specs.declared.slot.Slot.{Slot}
use Rattle.omi_model.specs.declared.task.Task.{Task}
use Rattle.omi_model.specs.Changes.{encounter, with_list}
use Rattle.omi_model.specs.Lists.{stays}
use Rattle.omi_model.specs.Put.{Slots, emptied, gone, made, named, on}
use Rattle.omi_model.specs.Reached.{Step}
use Rattle.omi_model.specs.Rules.{effect}
use Rattle.omi_model.specs.State.{State}
use Rattle.omi_model.specs.Teams.{member_task, with_members}
use Rattle.omi_model.proofs.SlotEffects.{OfSlots, over_freeing, slots_effect}
use Rattle.omi_model.proofs.Slots.{Later, each_slot, gone_other, later_on, made_stays, none_some, on_empty, same_or_not}
use Rattle.omi_model.proofs.StaysKept.{AreNew, fresh_empty, new_team}
use Rattle.omi_model.proofs.Steps.{from_some, list_moves, move_of, relisted}
use Rattle.omi_rule.proofs.Others.{members_stay}

-- an object lives under its name, or nothing lives in its slot
abbrev pub HasOrEmpty : {A : Type 0} → Slots A → Id → Type 0
HasOrEmpty {A} y n = ((w : A) × (named y n ≡ Some w)) ⊎ ((y n.creator n.slot).live ≡ None)

abbrev pub LivesOn : {A : Type 0} → Slots A → Slots A → Type 0
LivesOn {A} x y = (n : Id) (v : A) → named x n ≡ Some v → HasOrEmpty y n

pub lives_same : {A : Type 0} (x : Slots A) → LivesOn x x
lives_same x n v live = inl (v, live)

-- an object is changed
changed_too : {A : Type 0} (y : Slots A) (k : Id) (f : A → A) (n : Id) → HasOrEmpty y n → HasOrEmpty (on y k f) n
changed_too {A} y k f n (inl (w, there)) =
    let (v, later, same) = later_on (λ (a b : A). Unit {0}) (λ a. tt) y k f (λ a e. tt) n w there in inl (v, later)
changed_too y k f n (inr empty) = inr (on_empty y k f n.creator n.slot empty)

lives_on : {A : Type 0} (x y : Slots A) (k : Id) (f : A → A) → LivesOn x y → LivesOn x (on y k f)
lives_on x y k f h n v live = changed_too y k f n (h n v live)

-- one is made in an empty slot, and one is gone
lives_made : {A : Type 0} (x : Slots A) (k : Id) (new : A) → (x k.creator k.slot).live ≡ None
    → LivesOn x (made x k new)
lives_made x k new empty n v live = inl (v, made_stays x k new n v empty live)

gone_empty : {A : Type 0} (x : Slots A) (k : Id) (v : A) → named x k ≡ Some v
    → (gone x k k.creator k.slot).live ≡ None
gone_empty {A} x k v live =
    each_slot x k (λ c j (slot : Slot A). c ≡ k.creator → j ≡ k.slot → slot.live ≡ None)
    (emptied k.generation (x k.creator k.slot)) (λ a b. go ((x k.creator k.slot).generations == k.generation + 1) live)
    (λ c j apart a b. absurd (apart a b)) k.creator k.slot refl refl
  where
    go : (b : Bool) → (if b then (x k.creator k.slot).live else None) ≡ Some v
        → (if b then record { generations = (x k.creator k.slot).generations; live = None } else x k.creator k.slot).live ≡ None
    go true is = refl
    go false is = absurd (none_some refl is)

lives_gone : {A : Type 0} (x : Slots A) (k : Id) → LivesOn x (gone x k)
lives_gone {A} x k n v live = go (same_or_not n k)
  where
    go : (n ≡ k) ⊎ (n ≡ k → ⊥) → HasOrEmpty (gone x k) n
    go (inl same) = inr (subst (λ (d : Id). (gone x k d.creator d.slot).live ≡ None) (sym same) (gone_empty x k v (subst (λ (d : Id). named x d ≡ Some v) same live)))
    go (inr ne) = inl (v, gone_other x k n v ne live)

lives_members : (task : ℕ → ℕ → Task) (number : ℕ) (team : List (Tid × ℕ)) (slots : Slots Task) (i : ℕ)
    → AreNew slots i team → LivesOn slots (with_members task number team slots)
lives_members task number team slots i new n v live = inl (v, members_stay task number team slots i new n v live)

effect_lives : (p : Program) (s : State) (i : ℕ) → OfSlots p s i (λ e regions tasks. LivesOn s.tasks tasks)
effect_lives p s i = record {
  stays = λ e same. lives_same s.tasks;
  tasks = λ e same slots h n f. lives_on s.tasks slots n.0 f h;
  frees = λ task. lives_gone s.tasks task.0;
  defers = λ task x fresh. lives_made s.tasks task.0 x (fresh_empty s.tasks i task.0 fresh);
  starts_now = λ task x fresh. lives_made s.tasks task.0 x (fresh_empty s.tasks i task.0 fresh);
  forks = λ region team f k t r may.
      lives_members (member_task p region k t r f) 0 team s.tasks i (new_team s.tasks i team may.tasks_new may.distinct);
  arrives = λ k t is. lives_same s.tasks;
  releases = λ k t r is found may. lives_same s.tasks;
  ends = λ task k t is. lives_on s.tasks s.tasks k.0 _ (lives_same s.tasks);
  joins = λ region k t r is.
      over_freeing (LivesOn s.tasks) (λ slots n f h. lives_on s.tasks slots n.0 f h) _ r.encountering
      (on s.tasks k.0 _) (lives_on s.tasks s.tasks k.0 _ (lives_same s.tasks));
  frees_region = λ region n number may. lives_same s.tasks;
}

pub tasks_live_on : (p : Program) (s : State) (i : ℕ) (e : Event) (next : State) → Step p s i e next
    → LivesOn s.tasks next.tasks
tasks_live_on p s i e next step =
    let m = move_of p s i e next step in
    let zs : List Item = stays (encounter s i) e m.item m.behind in
    let middle : State = with_list s i zs in
    let first : Later (λ (a b : Task). Unit {0}) s.tasks middle.tasks =
    list_moves s i zs (λ (u : State). Later (λ (a b : Task). Unit {0}) s.tasks u.tasks)
    (λ k is. later_on (λ a b. Unit {0}) (λ a. tt) s.tasks k.0 (relisted zs) (λ a live. tt))
    (λ none n v live. (v, live, tt)) in
    let later : LivesOn middle.tasks next.tasks =
    from_some (λ (u : State). LivesOn middle.tasks u.tasks) (effect p middle i e m.item) next m.effect_is
    (slots_effect p middle i (λ e regions tasks. LivesOn middle.tasks tasks) (effect_lives p middle i) e m.item m.rule_moved) in
    λ n v live. let (w, there, same) = first n v live in later n w there
