-- Every event but those that make objects leaves the slots: each live object was live, of the same generation.
use Rattle.std.proofs.Common.{◌≡◌, ◌+◌, ◌<◌, ◌==◌, ℕ, Bool, true, false, List, Option, Some, None, refl, sym, ap, ◌∙◌, eq-eqb, if◌then◌else◌}
use Rattle.std.specs.Prelude.{⊤}
use Rattle.omi_script.specs.declared.program.Program.{Program}
use Rattle.omi_model.specs.declared.event.Event.{Event}
use Rattle.omi_model.specs.declared.event.Event.TheVariants as event
use Rattle.omi_model.specs.declared.id.Id.{Id}
use Rattle.omi_model.specs.declared.item.Item.{Item}
use Rattle.omi_model.specs.declared.region.Region.{Region}
use Rattle.omi_model.specs.declared.task.Task.{Task}
use Rattle.omi_model.specs.Changes.{with_list}
use Rattle.omi_model.specs.Put.{Slots, found, on, gone}
use Rattle.omi_model.specs.Reached.{Step}
use Rattle.omi_model.specs.Rules.{effect}
use Rattle.omi_model.specs.State.{State}
use Rattle.omi_model.proofs.SlotEffects.{OfSlots, over_freeing, slots_effect}
use Rattle.omi_model.proofs.Slots.{none_some, on_empty, on_generations, gone_generations, gone_live}
use Rattle.omi_model.proofs.Steps.{from_some, list_moves, move_of, moved_on}
use Rattle.omi_layout.specs.Table.{per_thread, thread_count}
use Rattle.omi_rep.specs.Shows.{AreWithin, LiveAreNamed}
use Rattle.omi_rule_words.proofs.Shown.{found_generations}

-- an event makes objects
abbrev pub Makes : Event → Type 0
Makes (event.Fork region team) = ⊤
Makes (event.Defer task) = ⊤
Makes (event.StartNow task) = ⊤
Makes e = ⊥

-- slots in which nothing new lives
pub record IsNoneNew {A : Type 0} (x y : Slots A) : Type 0 where
  pub generations : (c j : ℕ) → (y c j).generations ≡ (x c j).generations
  pub empty : (c j : ℕ) → (x c j).live ≡ None → (y c j).live ≡ None

pub record NothingNew (s u : State) : Type 0 where
  pub regions : IsNoneNew s.regions u.regions
  pub tasks : IsNoneNew s.tasks u.tasks

none_same : {A : Type 0} (x : Slots A) → IsNoneNew x x
none_same {A} x = record { generations = λ c j. refl; empty = λ c j e. e }

pub none_on : {A : Type 0} (x : Slots A) (k : Id) (f : A → A) → IsNoneNew x (on x k f)
none_on {A} x k f = record { generations = on_generations x k f; empty = on_empty x k f }

none_trans : {A : Type 0} (x y z : Slots A) → IsNoneNew x y → IsNoneNew y z → IsNoneNew x z
none_trans {A} x y z a b = record { generations = λ c j. b.generations c j ∙ a.generations c j; empty = λ c j e. b.empty c j (a.empty c j e) }

none_gone : {A : Type 0} (x : Slots A) (k : Id) → IsNoneNew x (gone x k)
none_gone {A} x k = record {
  generations = gone_generations x k;
  empty = λ c j none. by c j none (gone x k c j).live refl;
}
  where
    by : (c j : ℕ) → (x c j).live ≡ None → (o : Option A) → (gone x k c j).live ≡ o → (gone x k c j).live ≡ None
    by c j none None is = is
    by c j none (Some v) is = absurd (none_some none (gone_live x k c j v is))

nothing_trans : (s t u : State) → NothingNew s t → NothingNew t u → NothingNew s u
nothing_trans s t u a b = record {
  regions = record { generations = λ c j. b.regions.generations c j ∙ a.regions.generations c j; empty = λ c j e. b.regions.empty c j (a.regions.empty c j e) };
  tasks = record { generations = λ c j. b.tasks.generations c j ∙ a.tasks.generations c j; empty = λ c j e. b.tasks.empty c j (a.tasks.empty c j e) };
}

module _ (z : State) (i : ℕ) where
  abbrev of_nothing : State → Type 0
  of_nothing u = NothingNew z u

  -- the slots alone matter
  abbrev NoneNew : Event → Slots Region → Slots Task → Type 0
  NoneNew e regions tasks = (Makes e → ⊥) → IsNoneNew z.regions regions × IsNoneNew z.tasks tasks

  effect_new : (p : Program) → OfSlots p z i NoneNew
  effect_new p = record {
    stays = λ e same not. (none_same z.regions, none_same z.tasks);
    tasks = λ e same slots q n f not. (none_same z.regions, none_trans z.tasks slots (on slots n.0 f) (q not).1 (none_on slots n.0 f));
    frees = λ task not. (none_same z.regions, none_gone z.tasks task.0);
    defers = λ task x fresh not. absurd (not tt);
    starts_now = λ task x fresh not. absurd (not tt);
    forks = λ region team f k t r may not. absurd (not tt);
    arrives = λ k t is not. (none_on z.regions t.region.0 _, none_same z.tasks);
    releases = λ k t r is found may not. (none_on z.regions t.region.0 _, none_same z.tasks);
    ends = λ task k t is not. (none_on z.regions t.region.0 _, none_on z.tasks k.0 _);
    joins = λ region k t r is not. (
      none_on z.regions t.region.0 _,
      over_freeing (IsNoneNew z.tasks) (λ slots n f h. none_trans z.tasks slots (on slots n.0 f) h (none_on slots n.0 f)) _
          r.encountering (on z.tasks k.0 _) (none_on z.tasks k.0 _),
    );
    frees_region = λ region n number may not. (none_gone z.regions region.0, none_same z.tasks);
  }

  pub list_new : (zs : List Item) → NothingNew z (with_list z i zs)
  list_new zs =
      list_moves z i zs of_nothing
      (λ k is. record { regions = none_same z.regions; tasks = none_on z.tasks k.0 _ })
      (λ none. record { regions = none_same z.regions; tasks = none_same z.tasks })

pub nothing_new : (p : Program) (s : State) (i : ℕ) (e : Event) (next : State) → (Makes e → ⊥)
    → Step p s i e next → NothingNew s next
nothing_new p s i e next not step =
    let m = move_of p s i e next step in
    let middle : State = moved_on s i e m.item m.behind in
    let (in_regions, in_tasks) =
    from_some (λ (u : State). NoneNew middle i e u.regions u.tasks)
    (effect p middle i e m.item) next m.effect_is
    (slots_effect p middle i (NoneNew middle i) (effect_new middle i p) e m.item m.rule_moved) not in
    nothing_trans s middle next (list_new s i _) (record { regions = in_regions; tasks = in_tasks })

-- so what was within a layout is
pub within_stays : {A : Type 0} (w : List ℕ) (kind : ℕ) (x y : Slots A) → IsNoneNew x y → AreWithin w kind x
    → AreWithin w kind y
within_stays {A} w kind x y same all creator slot g v is = go (x creator slot).live refl
  where
    go : (o : Option A) → (x creator slot).live ≡ o
        → record { maker : creator < thread_count w; place : slot < per_thread w kind }
    go None e =
        absurd
        (none_some (ap (λ (o : Option A). if (y creator slot).generations == g + 1 then o else None) (same.empty creator slot e) ∙ of_none ((y creator slot).generations == g + 1)) is)
      where
        of_none : (b : Bool) → ◌≡◌ {A = Option A} (if b then None else None) None
        of_none true = refl
        of_none false = refl
    go (Some z) e = all creator slot g z (here ((y creator slot).generations == g + 1) refl is)
      where
        here : (b : Bool) → (y creator slot).generations == g + 1 ≡ b
            → (if b then (y creator slot).live else None) ≡ Some v → found g (x creator slot) ≡ Some z
        here true f h =
            ap (λ (b : Bool). if b then (x creator slot).live else None)
            (ap (λ n. n == g + 1) (sym (same.generations creator slot)) ∙ f)
            ∙ e
        here false f h = absurd (none_some refl h)

-- and what had a name has one
pub named_stays : {A : Type 0} (x y : Slots A) → IsNoneNew x y → LiveAreNamed x → LiveAreNamed y
named_stays {A} x y same all c k v live = go (x c k).live refl
  where
    go : (o : Option A) → (x c k).live ≡ o → (g : ℕ) × (found g (y c k) ≡ Some v)
    go None e = absurd (none_some (same.empty c k e) live)
    go (Some z) e =
        let (g, is) = all c k z e in
        (g, ap (λ b. if b then (y c k).live else None) (eq-eqb (y c k).generations (g + 1) (same.generations c k ∙ found_generations g (x c k) z is)) ∙ live)
