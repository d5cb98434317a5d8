-- The slots in which tasks live: each was made by an event.
use Rattle.std.proofs.Common.{◌≡◌, ℕ, List, [], ◌∷◌, Some, ◌+◌, sym, subst}
use Rattle.std.specs.Prelude.{⊤}
use Rattle.omi_script.specs.declared.program.Program.{Program}
use Rattle.omi_model.specs.declared.event.Event.{Event}
use Rattle.omi_model.specs.declared.event.Event.TheVariants as event
use Rattle.omi_model.specs.declared.id.Id.{Id}
use Rattle.omi_model.specs.declared.id.Tid.{Tid}
use Rattle.omi_model.specs.declared.item.Item.{Item}
use Rattle.omi_model.specs.declared.progress.Progress.TheVariants.{Finished}
use Rattle.omi_model.specs.declared.slot.Slot.{Slot}
use Rattle.omi_model.specs.declared.task.Task.{Task}
use Rattle.omi_model.specs.Changes.{with_list}
use Rattle.omi_model.specs.Put.{Slots, made, on}
use Rattle.omi_model.specs.Reached.{Leads, Step}
use Rattle.omi_model.specs.Rules.{effect}
use Rattle.omi_model.specs.State.{State}
use Rattle.omi_model.specs.Changes.{encounter}
use Rattle.omi_model.specs.Teams.{member_task, with_members}
use Rattle.omi_model.proofs.SlotEffects.{OfSlots, over_freeing, slots_effect}
use Rattle.omi_model.proofs.Slots.{each_slot, gone_live}
use Rattle.omi_model.proofs.Steps.{from_some, list_moves, move_of, on_live, relisted}
use Rattle.omi_model.specs.Lists.{stays}

-- tasks live only in these places
abbrev pub LivesIn : (ℕ → ℕ → Type 0) → Slots Task → Type 0
LivesIn P slots = (c k : ℕ) (t : Task) → (slots c k).live ≡ Some t → P c k

-- an event makes tasks only in these places
abbrev pub TeamIn : (ℕ → ℕ → Type 0) → List (Tid × ℕ) → Type 0
TeamIn P [] = ⊤
TeamIn P (m ∷ ms) = P m.0.0.creator m.0.0.slot × TeamIn P ms

abbrev pub MakesIn : (ℕ → ℕ → Type 0) → Event → Type 0
MakesIn P (event.Fork region team) = TeamIn P team
MakesIn P (event.Defer task) = P task.0.creator task.0.slot
MakesIn P (event.StartNow task) = P task.0.creator task.0.slot
MakesIn P e = ⊤

module _ (P : ℕ → ℕ → Type 0) where
  lives_on : (slots : Slots Task) (k : Id) (f : Task → Task) → LivesIn P slots → LivesIn P (on slots k f)
  lives_on slots k f all c j = on_live slots k f (λ x. P c j) (λ x h. h) c j (λ x live. all c j x live)

  lives_made : (slots : Slots Task) (k : Id) (x : Task) → LivesIn P slots → P k.creator k.slot
      → LivesIn P (made slots k x)
  lives_made slots k x all here =
      each_slot slots k (λ c j (slot : Slot Task). (t : Task) → slot.live ≡ Some t → P c j)
      (record { generations = k.generation + 1; live = Some x }) (λ t live. here)
      (λ c j apart t live. all c j t live)

  lives_members : (task : ℕ → ℕ → Task) (n : ℕ) (team : List (Tid × ℕ)) (slots : Slots Task) → TeamIn P team
      → LivesIn P slots → LivesIn P (with_members task n team slots)
  lives_members task n [] slots here all = all
  lives_members task n (m ∷ ms) slots here all =
      lives_members task (n + 1) ms (made slots m.0.0 (task n m.1)) here.1
      (lives_made slots m.0.0 (task n m.1) all here.0)

  abbrev Lives : State → Type 0
  Lives u = LivesIn P u.tasks

  module _ (p : Program) (s : State) (i : ℕ) (all : LivesIn P s.tasks) where
    lives : OfSlots p s i (λ e regions tasks. MakesIn P e → LivesIn P tasks)
    lives = record {
      stays = λ e same here. all;
      tasks = λ e same slots q n f here. lives_on slots n.0 f (q here);
      frees = λ task here c j t live. all c j t (gone_live s.tasks task.0 c j t live);
      defers = λ task x fresh here. lives_made s.tasks task.0 x all here;
      starts_now = λ task x fresh here. lives_made s.tasks task.0 x all here;
      forks = λ region team f k t r may here. lives_members (member_task p region k t r f) 0 team s.tasks here all;
      arrives = λ k t is here. all;
      releases = λ k t r is found may here. all;
      ends = λ task k t is here. lives_on s.tasks k.0 (λ u. record u { progress = Finished }) all;
      joins = λ region k t r is here. over_freeing (LivesIn P) (λ slots n f h. lives_on slots n.0 f h) _
          r.encountering (on s.tasks k.0 _) (lives_on s.tasks k.0 (λ u. record u { progress = Finished }) all);
      frees_region = λ region n number may here. all;
    }

  lives_step : (p : Program) (s : State) (i : ℕ) (e : Event) (next : State) → Step p s i e next → MakesIn P e
      → LivesIn P s.tasks → LivesIn P next.tasks
  lives_step p s i e after_step step here all =
      let m = move_of p s i e after_step step in
      let zs : List Item = stays (encounter s i) e m.item m.behind in
      let middle : Lives (with_list s i zs) =
      list_moves s i zs Lives (λ k is. lives_on s.tasks k.0 (relisted zs) all) (λ none. all) in
      from_some (λ u. MakesIn P e → Lives u) (effect p (with_list s i zs) i e m.item) after_step m.effect_is
      (slots_effect p (with_list s i zs) i (λ e regions tasks. MakesIn P e → LivesIn P tasks) (lives p (with_list s i zs) i middle) e m.item m.rule_moved) here

  abbrev pub EachMakesIn : List (ℕ × Event) → Type 0
  EachMakesIn [] = ⊤
  EachMakesIn (x ∷ xs) = MakesIn P x.1 × EachMakesIn xs

  pub lives_leads : (p : Program) (s : State) (xs : List (ℕ × Event)) (u : State) → Leads p s xs u
      → EachMakesIn xs → LivesIn P s.tasks → LivesIn P u.tasks
  lives_leads p s [] u same here all = subst Lives (sym same) all
  lives_leads p s (x ∷ xs) u (after_step, step, leads) here all =
      lives_leads p after_step xs u leads here.1 (lives_step p s x.0 x.1 after_step step here.0 all)
