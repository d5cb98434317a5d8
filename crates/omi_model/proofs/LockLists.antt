-- Locks in to-do lists: each row gives back what it takes.
use Rattle.std.proofs.Common.{◌≡◌, ◌==◌, ℕ, zero, suc, Bool, true, false, List, [], ◌∷◌, Some, if◌then◌else◌, refl, sym, subst}
use Rattle.omi_script.specs.Bodies.{body_of}
use Rattle.omi_script.specs.declared.program.Program.{Program}
use Rattle.omi_model.specs.declared.encounter.Encounter.{Encounter}
use Rattle.omi_model.specs.declared.event.Event.{Event}
use Rattle.omi_model.specs.declared.event.Event.TheVariants as event
use Rattle.omi_model.specs.declared.item.Item.{Item}
use Rattle.omi_model.specs.declared.item.Item.TheVariants as item
use Rattle.omi_model.specs.LawLocks.{gives_back}
use Rattle.omi_model.specs.Lists.{fits, stays, take_item}
use Rattle.omi_model.specs.Rows.{call_items, main_items, member_items, task_items, working}
use Rattle.omi_model.specs.Shapes.{shape_of}
use Rattle.omi_model.proofs.EachObject.{start_list}
use Rattle.omi_model.proofs.ListLaws.{take_keeps}
use Rattle.omi_model.proofs.RowLaws.{KeepsPlain, KeepsRows, barrier_keeps, critical_keeps, drop_keeps, group_keeps, last_keeps, main_keeps, member_keeps, row_keeps, shown_keeps, start_keeps, task_keeps}
use Rattle.omi_model.proofs.Slots.{false_true}

-- a list gives back lock k so many times more
abbrev pub Gives : ℕ → ℕ → List Item → Type 0
Gives k w xs = gives_back k xs w ≡ true

-- a giving back of another lock
passed : (k l w : ℕ) (rest : List Item) → l == k ≡ false → Gives k w rest → Gives k w (item.Unlock l ∷ rest)
passed k l zero rest e h = subst (λ b. (if b then false else gives_back k rest zero) ≡ true) (sym e) h
passed k l (suc w) rest e h = subst (λ b. gives_back k rest (if b then w else suc w) ≡ true) (sym e) h

plain_back : (k w : ℕ) → KeepsPlain (Gives k w)
plain_back k w (item.Lock l) xs plain h = absurd (false_true plain)
plain_back k w (item.Unlock l) xs plain h = absurd (false_true plain)
plain_back k w x xs plain h = h

module _ (k w : ℕ) (p : Program) where
  -- the row of `critical` takes and gives back
  critical_back : (at : Encounter) (l f : ℕ) (xs : List Item) → Gives k w xs
      → Gives k w (item.Lock l ∷ working at (item.Leave ∷ item.Call f ∷ call_items p f (item.Unlock l ∷ xs)))
  critical_back at l f xs h = go (l == k) refl
    where
      within : (v : ℕ) → Gives k v (item.Unlock l ∷ xs)
          → Gives k v (working at (item.Leave ∷ item.Call f ∷ call_items p f (item.Unlock l ∷ xs)))
      within v = critical_keeps (Gives k v) (plain_back k v) p at f (item.Unlock l ∷ xs)

      go : (b : Bool) → l == k ≡ b
          → gives_back k (working at (item.Leave ∷ item.Call f ∷ call_items p f (item.Unlock l ∷ xs))) (if b then suc w else w) ≡ true
      go true e = within (suc w) (subst (λ b. gives_back k xs (if b then w else suc w) ≡ true) (sym e) h)
      go false e = within w (passed k l w xs e h)

  gives : (at : Encounter) → KeepsRows p at (Gives k w)
  gives at = record {
    plain = plain_back k w;
    fork = λ num f xs h. h;
    taskwait = λ xs h. h;
    barrier = λ state xs other h. h;
    first_barrier = λ state xs first h. h;
    critical = critical_back at;
    taskgroup = λ f xs h. group_keeps (Gives k w) (plain_back k w) p at f xs (λ ys q. q) h;
  }

  pub take_back : (at : Encounter) (e : Event) (xs : List Item) (y : Item) (ys : List Item)
      → take_item p at e xs ≡ Some (y, ys) → Gives k w xs → Gives k w (y ∷ ys)
  take_back at =
      take_keeps p at (Gives k w) (drop_keeps (Gives k w) (λ xs h. h) (λ state xs h. h) (λ xs h. h) (λ n xs h. h))
      (λ s xs h. row_keeps p at (Gives k w) (gives at) (shape_of s) xs h)

module _ (k : ℕ) (p : Program) where
  pub task_back : (f : ℕ) → Gives k 0 (task_items p f)
  task_back f = task_keeps (Gives k 0) (plain_back k 0) p f refl

  pub member_back : (at : Encounter) (f : ℕ) → Gives k 0 (member_items p at f)
  member_back at f =
      member_keeps (Gives k 0) (plain_back k 0) p at f
      (barrier_keeps p at (Gives k 0) (gives k 0 p at) _ _ (last_keeps (Gives k 0) refl refl at.number))

  pub main_back : (at : Encounter) → Gives k 0 (main_items at (body_of p.funcs p.main))
  main_back at =
      main_keeps (Gives k 0) (plain_back k 0) p at
      (barrier_keeps p at (Gives k 0) (gives k 0 p at) _ (item.Done ∷ []) refl)

pub start_back : (k : ℕ) (x : Item) (at : Encounter) (xs : List Item) → Gives k 0 xs
    → Gives k 0 (start_list x at xs)
start_back k x at xs h = start_keeps (Gives k 0) (plain_back k 0) x at xs h

-- ---- the two events of locks, and all others

abbrev pub is_lock_event : Event → Bool
is_lock_event (event.Lock k) = true
is_lock_event (event.Unlock k) = true
is_lock_event e = false

lock_only : (e : Event) (l : ℕ) → fits e (item.Lock l) ≡ true → is_lock_event e ≡ false → ⊥
lock_only (event.Lock k) l fit other = false_true (sym other)
lock_only e l fit other = false_true fit

unlock_only : (e : Event) (l : ℕ) → fits e (item.Unlock l) ≡ true → is_lock_event e ≡ false → ⊥
unlock_only (event.Unlock k) l fit other = false_true (sym other)
unlock_only e l fit other = false_true fit

-- what stands in the place of an item of another event gives back as much
pub stays_back : (k w : ℕ) (at : Encounter) (e : Event) (y : Item) (ys : List Item) → fits e y ≡ true
    → is_lock_event e ≡ false → Gives k w (y ∷ ys) → Gives k w (stays at e y ys)
stays_back k w at e (item.Lock l) ys fit other h = absurd (lock_only e l fit other)
stays_back k w at e (item.Unlock l) ys fit other h = absurd (unlock_only e l fit other)
stays_back k w at e item.Asks ys fit other h = h
stays_back k w at e item.Serve ys fit other h =
    shown_keeps (Gives k w) (plain_back k w) at _ 0 (item.Offer ∷ item.Serve ∷ ys) h
stays_back k w at e (item.Tasks state) ys fit other h =
    shown_keeps (Gives k w) (plain_back k w) at state 0 (item.Tasks state ∷ ys) h
stays_back k w at (event.Seen j) (item.Defer seen f final) ys fit other h = h
stays_back k w at e y ys fit other h = h
