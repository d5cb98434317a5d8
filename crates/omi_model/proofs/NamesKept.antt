-- No name is made twice: generations never fall, and what lives under a name that was made lived there before.
use Rattle.std.proofs.Common.{◌≡◌, ◌<◌, ◌≤◌, ◌+◌, ℕ, List, [], ◌∷◌, Some, sym, ap, ◌∙◌, subst, arith}
use Rattle.omi_script.specs.declared.program.Program.{Program}
use Rattle.omi_model.specs.declared.event.Event.{Event}
use Rattle.omi_model.specs.declared.id.Id.{Id}
use Rattle.omi_model.specs.declared.id.Tid.{Tid}
use Rattle.omi_model.specs.declared.item.Item.{Item}
use Rattle.omi_model.specs.declared.slot.Slot.{Slot}
use Rattle.omi_model.specs.declared.task.Task.{Task}
use Rattle.omi_model.specs.Changes.{encounter, with_list}
use Rattle.omi_model.specs.Fresh.{IsFresh}
use Rattle.omi_model.specs.Lists.{stays}
use Rattle.omi_model.specs.Put.{Slots, gone, made, named, on}
use Rattle.omi_model.specs.Reached.{Step}
use Rattle.omi_model.specs.Rules.{effect}
use Rattle.omi_model.specs.State.{State}
use Rattle.omi_model.specs.Teams.{member_task, new_region, with_members}
use Rattle.omi_model.proofs.SlotEffects.{OfSlots, over_freeing, slots_effect}
use Rattle.omi_model.proofs.Slots.{each_on, each_slot, found_generation, gone_generations, gone_was, made_other, on_generations}
use Rattle.omi_model.proofs.StaysKept.{AreNew, new_team}
use Rattle.omi_model.proofs.Steps.{from_some, list_moves, move_of, relisted}

-- generations never fall, and what was made lives only where it lived
pub record AreKept {A : Type 0} (x y : Slots A) : Type 0 where
  pub grow : (c j : ℕ) → (x c j).generations ≤ (y c j).generations
  pub back : (n : Id) (v : A) → n.generation < (x n.creator n.slot).generations → named y n ≡ Some v
      → (t : A) × (named x n ≡ Some t)

pub kept_same : {A : Type 0} (x : Slots A) → AreKept x x
kept_same {A} x = record { grow = λ c j. omega arith; back = λ n v below live. (v, live) }

pub kept_trans : {A : Type 0} (x y z : Slots A) → AreKept x y → AreKept y z → AreKept x z
kept_trans {A} x y z a b = record {
  grow = λ c j. let first = a.grow c j in let later = b.grow c j in omega (arith, first, later);
  back = λ n v below live.
      let more = a.grow n.creator n.slot in
      let (t, there) = b.back n v (omega (arith, below, more)) live in
      a.back n t below there;
}

-- where one object is changed, is gone, or is made under a fresh name
kept_on : {A : Type 0} (x : Slots A) (k : Id) (f : A → A) → AreKept x (on x k f)
kept_on {A} x k f = record {
  grow = λ c j. let same = on_generations x k f c j in omega (arith, same);
  back = λ n v below live. each_on (λ m y. (t : A) × (named x m ≡ Some t)) x k f (λ m y e. (y, e)) (λ y e h. h) n v live;
}

kept_gone : {A : Type 0} (x : Slots A) (k : Id) → AreKept x (gone x k)
kept_gone {A} x k = record {
  grow = λ c j. let same = gone_generations x k c j in omega (arith, same);
  back = λ n v below live. (v, gone_was x k n v live);
}

kept_made : {A : Type 0} (x : Slots A) (i : ℕ) (n : Id) (new : A) → IsFresh x i n → AreKept x (made x n new)
kept_made {A} x i n new fresh = record {
  grow = each_slot x n (λ c j (slot : Slot A). (x c j).generations ≤ slot.generations)
      (record { generations = n.generation + 1; live = Some new }) (let next = next_here in omega (arith, next))
      (λ c j apart. omega arith);
  back = λ k v below live. (
    v,
    made_other x n new k v
        (λ same.
        let next = next_here in
        let older : n.generation < (x n.creator n.slot).generations =
        subst (λ (d : Id). d.generation < (x d.creator d.slot).generations) same below in absurd (omega (arith, next, older)))
        live,
  );
}
  where
    next_here : n.generation ≡ (x n.creator n.slot).generations
    next_here = fresh.next ∙ ap (λ c. (x c n.slot).generations) (sym fresh.creator)

kept_members : (task : ℕ → ℕ → Task) (number : ℕ) (team : List (Tid × ℕ)) (slots : Slots Task) (i : ℕ)
    → AreNew slots i team → AreKept slots (with_members task number team slots)
kept_members task number [] slots i new = kept_same slots
kept_members task number (m ∷ ms) slots i new =
    kept_trans slots (made slots m.0.0 (task number m.1))
    (with_members task (number + 1) ms (made slots m.0.0 (task number m.1)))
    (kept_made slots i m.0.0 (task number m.1) new.0)
    (kept_members task (number + 1) ms (made slots m.0.0 (task number m.1)) i (new.1 (task number m.1)))

-- ---- events

kept_effect : (p : Program) (s : State) (i : ℕ)
    → OfSlots p s i (λ e regions tasks. AreKept s.regions regions × AreKept s.tasks tasks)
kept_effect p s i = record {
  stays = λ e same. (kept_same s.regions, kept_same s.tasks);
  tasks = λ e same slots h n f. (h.0, kept_trans s.tasks slots (on slots n.0 f) h.1 (kept_on slots n.0 f));
  frees = λ task. (kept_same s.regions, kept_gone s.tasks task.0);
  defers = λ task x fresh. (kept_same s.regions, kept_made s.tasks i task.0 x fresh);
  starts_now = λ task x fresh. (kept_same s.regions, kept_made s.tasks i task.0 x fresh);
  forks = λ region team f k t r may. (
    kept_made s.regions i region.0 (new_region k t r team f) may.region_new,
    kept_members (member_task p region k t r f) 0 team s.tasks i (new_team s.tasks i team may.tasks_new may.distinct),
  );
  arrives = λ k t is. (kept_on s.regions t.region.0 _, kept_same s.tasks);
  releases = λ k t r is found may. (kept_on s.regions t.region.0 _, kept_same s.tasks);
  ends = λ task k t is. (kept_on s.regions t.region.0 _, kept_on s.tasks k.0 _);
  joins = λ region k t r is. (
    kept_on s.regions t.region.0 _,
    over_freeing (AreKept s.tasks) (λ slots n f h. kept_trans s.tasks slots (on slots n.0 f) h (kept_on slots n.0 f)) _
        r.encountering (on s.tasks k.0 _) (kept_on s.tasks k.0 _),
  );
  frees_region = λ region n number may. (kept_gone s.regions region.0, kept_same s.tasks);
}

-- the names of a state's regions and of its tasks
abbrev pub NamesKept : State → State → Type 0
NamesKept s u = AreKept s.regions u.regions × AreKept s.tasks u.tasks

pub names_kept : (p : Program) (s : State) (i : ℕ) (e : Event) (next : State) → Step p s i e next
    → NamesKept s next
names_kept p s i e next step =
    let m = move_of p s i e next step in
    let zs : List Item = stays (encounter s i) e m.item m.behind in
    let middle : State = with_list s i zs in
    let first : NamesKept s middle =
    list_moves s i zs (NamesKept s)
    (λ k is. (kept_same s.regions, kept_on s.tasks k.0 (relisted zs))) (λ none. (kept_same s.regions, kept_same s.tasks)) in
    let later : NamesKept middle next =
    from_some (NamesKept middle) (effect p middle i e m.item) next m.effect_is
    (slots_effect p middle i (λ e regions tasks. AreKept middle.regions regions × AreKept middle.tasks tasks)
    (kept_effect p middle i) e m.item m.rule_moved) in (
      kept_trans s.regions middle.regions next.regions first.0 later.0,
      kept_trans s.tasks middle.tasks next.tasks first.1 later.1,
    )

pub tasks_kept : (p : Program) (s : State) (i : ℕ) (e : Event) (next : State) → Step p s i e next
    → AreKept s.tasks next.tasks
tasks_kept p s i e next step = (names_kept p s i e next step).1

-- ---- names that were made

-- an object of this name was made
abbrev pub IsMade : {A : Type 0} → Slots A → Id → Type 0
IsMade x n = n.generation < (x n.creator n.slot).generations

pub made_live : {A : Type 0} (x : Slots A) (n : Id) (v : A) → named x n ≡ Some v → IsMade x n
made_live {A} x n v live =
    let made = found_generation n.generation (x n.creator n.slot) v live in omega (arith, made)

pub made_later : {A : Type 0} (x y : Slots A) → AreKept x y → (n : Id) → IsMade x n → IsMade y n
made_later {A} x y kept n made = let grown = kept.grow n.creator n.slot in omega (arith, made, grown)
