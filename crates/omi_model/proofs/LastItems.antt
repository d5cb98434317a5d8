-- The item that closes a list is the last one, and one of these: the finish of an explicit task, the join of member 0, the end of another member, and the end of the program.
use Rattle.std.proofs.Common.{◌≡◌, ℕ, ◌==◌, Bool, true, false, List, [], ◌∷◌, Some, if◌then◌else◌, refl}
use Rattle.omi_script.specs.Bodies.{body_of}
use Rattle.omi_script.specs.declared.program.Program.{Program}
use Rattle.omi_model.specs.declared.encounter.Encounter.{Encounter}
use Rattle.omi_model.specs.declared.event.Event.{Event}
use Rattle.omi_model.specs.declared.event.Event.TheVariants as event
use Rattle.omi_model.specs.declared.item.Item.{Item}
use Rattle.omi_model.specs.declared.item.Item.TheVariants as item
use Rattle.omi_model.specs.Lists.{stays, take_item}
use Rattle.omi_model.specs.Rows.{last_of_member, main_items, member_items, task_items}
use Rattle.omi_model.specs.Shapes.{shape_of}
use Rattle.omi_model.proofs.EachObject.{start_list}
use Rattle.omi_model.proofs.ListLaws.{take_keeps}
use Rattle.omi_model.proofs.RowLaws.{KeepsPlain, KeepsRows, barrier_keeps, critical_keeps, drop_keeps, group_keeps, main_keeps, member_keeps, row_keeps, shown_keeps, start_keeps, task_keeps}
use Rattle.omi_model.proofs.Slots.{false_true}

-- nothing stands behind a closing item, and it may be this one
abbrev pub Closes : (Item → Type 0) → List Item → Type 0
Closes May [] = Unit {0}
Closes May (item.ImplicitEnd ∷ xs) = May item.ImplicitEnd × (xs ≡ []) × Closes May xs
Closes May (item.Join ∷ xs) = May item.Join × (xs ≡ []) × Closes May xs
Closes May (item.Done ∷ xs) = May item.Done × (xs ≡ []) × Closes May xs
Closes May (item.Finish ∷ xs) = May item.Finish × (xs ≡ []) × Closes May xs
Closes May (x ∷ xs) = Closes May xs

module _ (May : Item → Type 0) where
  plain_closes : KeepsPlain (Closes May)
  plain_closes item.ImplicitEnd xs plain h = absurd (false_true plain)
  plain_closes item.Join xs plain h = absurd (false_true plain)
  plain_closes item.Done xs plain h = absurd (false_true plain)
  plain_closes item.Finish xs plain h = absurd (false_true plain)
  plain_closes x xs plain h = h

  module _ (p : Program) where
    closes : (at : Encounter) → KeepsRows p at (Closes May)
    closes at = record {
      plain = plain_closes;
      fork = λ num f xs h. h;
      taskwait = λ xs h. h;
      barrier = λ state xs other h. h;
      first_barrier = λ state xs first h. h;
      critical = λ k f xs h. critical_keeps (Closes May) plain_closes p at f (item.Unlock k ∷ xs) h;
      taskgroup = λ f xs h. group_keeps (Closes May) plain_closes p at f xs (λ ys q. q) h;
    }

    pub take_closes : (at : Encounter) (e : Event) (xs : List Item) (y : Item) (ys : List Item)
        → take_item p at e xs ≡ Some (y, ys) → Closes May xs → Closes May (y ∷ ys)
    take_closes at =
        take_keeps p at (Closes May) (drop_keeps (Closes May) (λ xs h. h) (λ state xs h. h) (λ xs h. h) (λ n xs h. h))
        (λ s xs h. row_keeps p at (Closes May) (closes at) (shape_of s) xs h)

    pub task_closes : May item.Finish → (f : ℕ) → Closes May (task_items p f)
    task_closes may f = task_keeps (Closes May) plain_closes p f (may, refl, tt)

    last_closes : (n : ℕ) → May (last_of_member n) → Closes May (last_of_member n ∷ [])
    last_closes n = go (n == 0)
      where
        go : (c : Bool) → May (if c then item.Join else item.ImplicitEnd)
            → Closes May ((if c then item.Join else item.ImplicitEnd) ∷ [])
        go true may = (may, refl, tt)
        go false may = (may, refl, tt)

    pub member_closes : (at : Encounter) (f : ℕ) → May (last_of_member at.number)
        → Closes May (member_items p at f)
    member_closes at f may =
        member_keeps (Closes May) plain_closes p at f
        (barrier_keeps p at (Closes May) (closes at) _ _ (last_closes at.number may))

    pub main_closes : May item.Done → (at : Encounter) → Closes May (main_items at (body_of p.funcs p.main))
    main_closes may at =
        main_keeps (Closes May) plain_closes p at
        (barrier_keeps p at (Closes May) (closes at) _ (item.Done ∷ []) (may, refl, tt))

  pub stays_closes : (at : Encounter) (e : Event) (y : Item) (ys : List Item) → Closes May (y ∷ ys)
      → Closes May (stays at e y ys)
  stays_closes at e item.Asks ys h = h
  stays_closes at e item.Serve ys h =
      shown_keeps (Closes May) plain_closes at _ 0 (item.Offer ∷ item.Serve ∷ ys) h
  stays_closes at e (item.Tasks state) ys h =
      shown_keeps (Closes May) plain_closes at state 0 (item.Tasks state ∷ ys) h
  stays_closes at (event.Seen j) (item.Defer seen f final) ys h = h
  stays_closes at e item.ImplicitEnd ys h = h.2
  stays_closes at e item.Join ys h = h.2
  stays_closes at e item.Done ys h = h.2
  stays_closes at e item.Finish ys h = h.2
  stays_closes at e y ys h = h

  pub start_closes : (x : Item) (at : Encounter) (xs : List Item) → Closes May xs
      → Closes May (start_list x at xs)
  start_closes x at xs h = start_keeps (Closes May) plain_closes x at xs h
