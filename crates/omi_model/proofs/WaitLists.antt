-- Where deferred tasks may start by a to-do list: at a taskwait, at the end of a taskgroup, or between an arrival and its pass.
use Rattle.std.proofs.Common.{◌≡◌, ◌⊎◌, inl, inr, ℕ, true, List, [], ◌∷◌, Some, refl}
use Rattle.omi_script.specs.Bodies.{body_of}
use Rattle.omi_script.specs.declared.program.Program.{Program}
use Rattle.omi_model.specs.declared.encounter.Encounter.{Encounter}
use Rattle.omi_model.specs.declared.event.Event.{Event}
use Rattle.omi_model.specs.declared.event.Event.TheVariants as event
use Rattle.omi_model.specs.declared.item.Item.{Item}
use Rattle.omi_model.specs.declared.item.Item.TheVariants as item
use Rattle.omi_model.specs.LawScheduling.{passes_next}
use Rattle.omi_model.specs.Lists.{stays, take_item}
use Rattle.omi_numbers.specs.declared.states.TheConstants.{WAIT_TASKGROUP, WAIT_TASKWAIT}
use Rattle.omi_model.specs.Rows.{main_items, member_items, task_items}
use Rattle.omi_model.specs.Shapes.{shape_of}
use Rattle.omi_model.proofs.EachObject.{start_list}
use Rattle.omi_model.proofs.ListLaws.{take_keeps}
use Rattle.omi_model.proofs.RowLaws.{KeepsPlain, KeepsRows, barrier_keeps, critical_keeps, drop_keeps, group_keeps, last_keeps, main_keeps, member_keeps, row_keeps, shown_keeps, start_keeps, task_keeps}
use Rattle.omi_model.proofs.Slots.{false_true}

-- each wait for tasks is a taskwait or that of a taskgroup, or stands between an arrival and its pass
abbrev pub Waits : List Item → Type 0
Waits [] = Unit {0}
Waits (item.Tasks state ∷ xs) =
    ((state ≡ WAIT_TASKWAIT) ⊎ ((state ≡ WAIT_TASKGROUP) ⊎ (passes_next xs ≡ true))) × Waits xs
Waits (x ∷ xs) = Waits xs

plain_waits : KeepsPlain Waits
plain_waits (item.Tasks state) xs plain h = absurd (false_true plain)
plain_waits x xs plain h = h

module _ (p : Program) where
  waits : (at : Encounter) → KeepsRows p at Waits
  waits at = record {
    plain = plain_waits;
    fork = λ num f xs h. h;
    taskwait = λ xs h. (inl refl, h);
    barrier = λ state xs other h. (inr (inr refl), h);
    first_barrier = λ state xs first h. (inr (inr refl), h);
    critical = λ k f xs h. critical_keeps Waits plain_waits p at f (item.Unlock k ∷ xs) h;
    taskgroup = λ f xs h. group_keeps Waits plain_waits p at f xs (λ ys q. (inr (inl refl), q)) h;
  }

  pub take_waits : (at : Encounter) (e : Event) (xs : List Item) (y : Item) (ys : List Item)
      → take_item p at e xs ≡ Some (y, ys) → Waits xs → Waits (y ∷ ys)
  take_waits at =
      take_keeps p at Waits (drop_keeps Waits (λ xs h. h) (λ state xs h. h.1) (λ xs h. h) (λ n xs h. h))
      (λ s xs h. row_keeps p at Waits (waits at) (shape_of s) xs h)

  pub task_waits : (f : ℕ) → Waits (task_items p f)
  task_waits f = task_keeps Waits plain_waits p f tt

  pub member_waits : (at : Encounter) (f : ℕ) → Waits (member_items p at f)
  member_waits at f =
      member_keeps Waits plain_waits p at f
      (barrier_keeps p at Waits (waits at) _ _ (last_keeps Waits tt tt at.number))

  pub main_waits : (at : Encounter) → Waits (main_items at (body_of p.funcs p.main))
  main_waits at =
      main_keeps Waits plain_waits p at (barrier_keeps p at Waits (waits at) _ (item.Done ∷ []) tt)

pub start_waits : (x : Item) (at : Encounter) (xs : List Item) → Waits xs → Waits (start_list x at xs)
start_waits x at xs h = start_keeps Waits plain_waits x at xs h

pub stays_waits : (at : Encounter) (e : Event) (y : Item) (ys : List Item) → Waits (y ∷ ys)
    → Waits (stays at e y ys)
stays_waits at e item.Asks ys h = h
stays_waits at e item.Serve ys h = shown_keeps Waits plain_waits at _ 0 (item.Offer ∷ item.Serve ∷ ys) h
stays_waits at e (item.Tasks state) ys h = shown_keeps Waits plain_waits at state 0 (item.Tasks state ∷ ys) h
stays_waits at (event.Seen j) (item.Defer seen f final) ys h = h
stays_waits at e y ys h = h
