-- The state after a legal event: the list has moved on, and what the event needs is there still.
use Rattle.std.proofs.Common.{◌≡◌, ◌==◌, ◌<◌, ◌+◌, ℕ, Bool, true, false, List, [], ◌∷◌, Option, Some, None, if◌then◌else◌, refl, sym, ap, subst, ◌∙◌}
use Rattle.std.specs.Prelude.{IsSome, is_some}
use Rattle.std.specs.Option.{option_and_then, option_map, option_map_or}
use Rattle.std.proofs.lemmas.Bool.{eqb-true}
use Rattle.std.proofs.lemmas.Option.{none-some, same_Some}
use Rattle.omi_script.specs.declared.program.Program.{Program}
use Rattle.omi_model.specs.declared.encounter.Encounter.{Encounter}
use Rattle.omi_model.specs.declared.event.Event.{Event}
use Rattle.omi_model.specs.declared.event.Event.TheVariants as event
use Rattle.omi_model.specs.declared.freeable.Freeable.TheVariants as freeable
use Rattle.omi_model.specs.declared.id.Id.{Id}
use Rattle.omi_model.specs.declared.id.Rid.{Rid}
use Rattle.omi_model.specs.declared.id.Tid.{Tid}
use Rattle.omi_model.specs.declared.item.Item.{Item}
use Rattle.omi_model.specs.declared.item.Item.TheVariants as item
use Rattle.omi_model.specs.declared.region.Region.{Region}
use Rattle.omi_model.specs.declared.slot.Slot.{Slot}
use Rattle.omi_model.specs.declared.task.Task.{Task}
use Rattle.omi_model.specs.Changes.{IsCurrent, OfCurrent, OfCurrentRegion, ahead_of, encounter, on_task, on_thread, with_list}
use Rattle.omi_model.specs.Freeing.{MayFreeMember}
use Rattle.omi_model.specs.Groups.{MayBeginGroup}
use Rattle.omi_model.specs.Lists.{fits, may_drop, opened, stays, take_item}
use Rattle.omi_model.specs.Put.{Slots, changed, found, named, on, put}
use Rattle.omi_model.specs.Rules.{Legal, Rule, after, effect}
use Rattle.omi_model.specs.State.{State, task_of}
use Rattle.omi_machine.specs.Needs.{HasCurrent, HasMember, HasNextMember, HasRegion, Needs}
use Rattle.omi_machine.proofs.ChangesBack.{named_on}
use Rattle.omi_machine.proofs.TakenItems.{moved}

-- ---- the item that an event takes

module _ (p : Program) (at : Encounter) (e : Event) (t : Item × List Item) where
  -- an event takes an item of its kind
  fits_taken : (list : List Item) → take_item p at e list ≡ Some t → fits e t.0 ≡ true
  fits_taken [] is = absurd (none-some t is)
  fits_taken (x ∷ xs) is = here (fits e (opened p at x xs).0) refl (fits_taken xs) is
    where
      behind : (b : Bool) → (take_item p at e xs ≡ Some t → fits e t.0 ≡ true)
          → (if b then take_item p at e xs else None) ≡ Some t → fits e t.0 ≡ true
      behind true rest taken = rest taken
      behind false rest taken = absurd (none-some t taken)

      here : (b : Bool) → fits e (opened p at x xs).0 ≡ b → (take_item p at e xs ≡ Some t → fits e t.0 ≡ true)
          → (if b then Some (opened p at x xs) else (if may_drop x then take_item p at e xs else None)) ≡ Some t → fits e t.0 ≡ true
      here true fit rest taken =
          ap (λ (u : Item × List Item). fits e u.0) (sym (same_Some (opened p at x xs) t taken)) ∙ fit
      here false fit rest taken = behind (may_drop x) rest taken

-- ---- the list moves on

module _ (p : Program) (s : State) (i : ℕ) (e : Event) (legal : Legal p s i e) (at : Encounter)
    (list : List Item) (m : Option (Item × List Item))
    (at_is : at ≡ encounter s i) (list_is : list ≡ ahead_of s i)
    (moves : m ≡ moved at e (take_item p at e list)) where
  moved_is : m ≡ Some (legal.item, stays (encounter s i) e legal.item legal.behind)
  moved_is =
      moves
      ∙ ap (λ (a : Encounter). moved a e (take_item p a e list)) at_is
      ∙ ap (λ (l : List Item). moved (encounter s i) e (take_item p (encounter s i) e l)) list_is
      ∙ ap (moved (encounter s i) e) legal.taken

  module _ (x : Item) (next : List Item) (is : m ≡ Some (x, next)) where
    same : ◌≡◌ {A = Option (Item × List Item)} (Some (x, next)) (Some (legal.item, stays (encounter s i) e legal.item legal.behind))
    same = sym is ∙ moved_is

    pair_is : ◌≡◌ {A = Item × List Item} (x, next) (legal.item, stays (encounter s i) e legal.item legal.behind)
    pair_is = same_Some (x, next) (legal.item, stays (encounter s i) e legal.item legal.behind) same

    -- the event takes the item that its legality names
    pub item_is : x ≡ legal.item
    item_is = ap (λ (t : Item × List Item). t.0) pair_is

    next_is : next ≡ stays (encounter s i) e legal.item legal.behind
    next_is = ap (λ (t : Item × List Item). t.1) pair_is

    -- the event takes an item of its kind
    pub fits_is : fits e x ≡ true
    fits_is =
        ap (fits e) item_is
        ∙ fits_taken p (encounter s i) e (legal.item, legal.behind) (ahead_of s i) legal.taken

    -- the state after the event is that of its effect
    pub after_is : (after_list : State) → after_list ≡ with_list s i next
        → effect p after_list i e x ≡ after p s i e
    after_is after_list is_moved =
        ap (λ (y : State). effect p y i e x) is_moved
        ∙ ap (λ (y : Item). effect p (with_list s i next) i e y) item_is
        ∙ ap (λ (l : List Item). effect p (with_list s i l) i e legal.item) next_is
        ∙ sym
        (ap (option_and_then (λ (t : Item × List Item). effect p (with_list s i (stays (encounter s i) e t.0 t.1)) i e t.0)) legal.taken)

-- ---- what an event needs

-- an object that is found stays found
same_some : {A : Type 0} (o q : Option A) → is_some o ≡ is_some q → IsSome o → IsSome q
same_some None None is some = some
same_some None (Some y) is some = absurd (cc)
same_some (Some x) None is some = absurd (cc)
same_some (Some x) (Some y) is some = some

still_found : {A : Type 0} (slot : Slot A) (g h : ℕ) (f : A → A)
    → is_some (found g (changed h f slot)) ≡ is_some (found g slot)
still_found {A} slot g h f = go (slot.generations == h + 1)
  where
    mapped : (o : Option A) → is_some (option_map f o) ≡ is_some o
    mapped None = refl
    mapped (Some x) = refl

    inner : (b : Bool)
        → is_some (if b then option_map f slot.live else None) ≡ is_some (if b then slot.live else None)
    inner true = mapped slot.live
    inner false = refl

    go : (b : Bool)
        → is_some (found g (if b then record { generations = slot.generations; live = option_map f slot.live } else slot)) ≡ is_some (found g slot)
    go true = inner (slot.generations == g + 1)
    go false = refl

still_named : {A : Type 0} (slots : Slots A) (n m : Id) (f : A → A)
    → is_some (named (on slots n f) m) ≡ is_some (named slots m)
still_named {A} slots n m f = by_creator (m.creator == n.creator) refl
  where
    v : Slot A
    v = changed n.generation f (slots n.creator n.slot)

    by_slot : m.creator ≡ n.creator → (b : Bool) → (m.slot == n.slot) ≡ b
        → is_some (found m.generation (if b then changed n.generation f (slots n.creator n.slot) else slots n.creator m.slot)) ≡ is_some (found m.generation (slots m.creator m.slot))
    by_slot same true is =
        still_found (slots n.creator n.slot) m.generation n.generation f
        ∙ ap (λ (k : ℕ). is_some (found m.generation (slots n.creator k))) (sym (eqb-true m.slot n.slot is))
        ∙ ap (λ (c : ℕ). is_some (found m.generation (slots c m.slot))) (sym same)
    by_slot same false is = ap (λ (c : ℕ). is_some (found m.generation (slots c m.slot))) (sym same)

    by_creator : (b : Bool) → (m.creator == n.creator) ≡ b
        → is_some (found m.generation ((if◌then◌else◌ {A = ℕ → Slot A} b (put (slots n.creator) n.slot (changed n.generation f (slots n.creator n.slot))) (slots m.creator)) m.slot)) ≡ is_some (found m.generation (slots m.creator m.slot))
    by_creator true is = by_slot (eqb-true m.creator n.creator is) (m.slot == n.slot) refl
    by_creator false is = refl

some_task : (o : Option Task) (t : Task) → o ≡ Some t → IsSome o
some_task o t is = subst (λ (q : Option Task). IsSome q) (sym is) (search)

module _ (s : State) (i : ℕ) (list : List Item) where
  count_same : (with_list s i list).count ≡ s.count
  count_same = go (s.threads i).current
    where
      go : (o : Option Tid)
          → (option_map_or (λ (k : Tid). on_task s k (λ t. record t { frees = None; list = list })) o (on_thread s i (λ h. record h { list = list }))).count ≡ s.count
      go None = refl
      go (Some k) = refl

  in_task : (k : Tid) → (s.threads i).current ≡ Some k
      → with_list s i list ≡ on_task s k (λ t. record t { frees = None; list = list })
  in_task k name =
      ap
      (λ (o : Option Tid). option_map_or (λ (k : Tid). on_task s k (λ t. record t { frees = None; list = list })) o (on_thread s i (λ h. record h { list = list }))) name

  in_thread : (s.threads i).current ≡ None
      → with_list s i list ≡ on_thread s i (λ h. record h { list = list })
  in_thread none =
      ap
      (λ (o : Option Tid). option_map_or (λ (k : Tid). on_task s k (λ t. record t { frees = None; list = list })) o (on_thread s i (λ h. record h { list = list }))) none

  current_now : (k : Tid) (t : Task) → IsCurrent s i k t
      → IsCurrent (on_task s k (λ t. record t { frees = None; list = list })) i k (record t { frees = None; list = list })
  current_now k t is = record { name = is.name; live = named_on s.tasks k.0 (λ t. record t { frees = None; list = list }) t is.live }

  has_current : (P : Tid → Task → Type 0) → OfCurrent s i P → HasCurrent (with_list s i list) i
  has_current P (k, t, is, holds) =
      subst (λ (x : State). HasCurrent x i) (sym (in_task k is.name))
      (k, record t { frees = None; list = list }, current_now k t is, tt)

  has_region : (P : Tid → Task → Region → Type 0) → OfCurrentRegion s i P → HasRegion (with_list s i list) i
  has_region P (k, t, r, is, region, holds) =
      subst (λ (x : State). HasRegion x i) (sym (in_task k is.name))
      (k, record t { frees = None; list = list }, r, current_now k t is, region, tt)

  has_task : (P : Tid → Task → Type 0) (task : Tid) → OfCurrent s i P → IsSome (task_of s task)
      → IsSome (task_of (with_list s i list) task)
  has_task P task (k, t, is, holds) some =
      subst (λ (x : State). IsSome (task_of x task)) (sym (in_task k is.name))
      (same_some (task_of s task) (task_of (on_task s k (λ t. record t { frees = None; list = list })) task) (sym (still_named s.tasks k.0 task.0 (λ t. record t { frees = None; list = list }))) some)

  finished_joined : (next : Tid) (n : Rid) (number : ℕ)
      → item.Frees (freeable.Finished next) ≡ item.Frees (freeable.Joined n number) → ⊥
  finished_joined next n number same = cc

  next_member : (task : Tid) (n : Rid) (number : ℕ) → OfCurrent s i (λ k t. MayFreeMember s task n number)
      → HasNextMember (with_list s i list) (item.Frees (freeable.Joined n number))
  next_member task n number (k, t, is, may) m j same =
      let region : n ≡ m = cc in
      let one : number ≡ j = cc in
      subst (λ (x : State). HasMember x m j) (sym (in_task k is.name))
      (subst (λ (a : Rid). HasMember s a j) region (subst (HasMember s n) one (may.region, may.ended.live, may.known)))

  -- what an event's rule asks of the state gives what its change needs once the list has moved on
  pub needs_moved : (e : Event) (x : Item) → Rule s i e x → Needs (with_list s i list) i e x
  needs_moved (event.Ask w got) x rule = subst (λ (n : ℕ). w < n) (sym count_same) rule.known
  needs_moved (event.Fork region team) x rule = has_region _ rule
  needs_moved (event.ImplicitBegin task) x rule =
      subst (λ (y : State). IsSome (task_of y task)) (sym (in_thread rule.idle))
      (some_task (task_of s task) rule.member rule.live)
  needs_moved event.Enter x rule = has_current _ rule
  needs_moved event.Leave x rule = has_current _ rule
  needs_moved event.Arrive x rule = has_region _ rule
  needs_moved event.Release x rule = has_region _ rule
  needs_moved (event.ImplicitEnd task) x rule = has_region _ rule
  needs_moved (event.Join region) x rule = has_region _ rule
  needs_moved (event.Defer task) x rule = has_current _ rule
  needs_moved (event.StartNow task) x rule = has_current _ rule
  needs_moved (event.Start task) x rule =
      (has_current _ rule, has_task _ task rule (some_task (task_of s task) rule.3.new rule.3.live))
  needs_moved (event.Finish task) x rule = has_current _ rule
  needs_moved (event.FreeTask task) (item.Frees (freeable.Finished next)) rule =
      (has_current _ rule, λ n number same. absurd (finished_joined next n number same))
  needs_moved (event.FreeTask task) (item.Frees (freeable.Joined n number)) rule =
      (has_current _ rule, next_member task n number rule)
  needs_moved (event.FreeTask task) x rule = absurd rule
  needs_moved (event.FreeRegion region) (item.Frees (freeable.Joined n number)) rule = tt
  needs_moved (event.FreeRegion region) x rule = absurd rule
  needs_moved event.GroupBegin x (k, t, is, may) =
      subst (λ (y : State). OfCurrent y i (λ j u. MayBeginGroup u)) (sym (in_task k is.name))
      (k, record t { frees = None; list = list }, current_now k t is, may)
  needs_moved event.GroupEnd x rule = has_current _ rule
  needs_moved (event.Set icv value) x rule = has_current _ rule
  needs_moved (event.SetTool y) x rule = has_current _ rule
  needs_moved e x rule = tt
