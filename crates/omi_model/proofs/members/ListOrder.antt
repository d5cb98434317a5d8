-- The order of the items of barriers in each list.
use Rattle.std.proofs.Common.{◌≡◌, ◌+◌, ℕ, Bool, true, false, List, [], ◌∷◌, Some, if◌then◌else◌, refl, sym, ◌∙◌, arith, eqb-true, eq-eqb}
use Rattle.omi_script.specs.Bodies.{body_of}
use Rattle.omi_script.specs.declared.program.Program.{Program}
use Rattle.omi_script.specs.declared.statement.Stmt.{Stmt}
use Rattle.omi_model.specs.declared.encounter.Encounter.{Encounter}
use Rattle.omi_model.specs.declared.event.Event.{Event}
use Rattle.omi_model.specs.declared.event.Event.TheVariants as event
use Rattle.omi_model.specs.declared.id.Tid.{Tid}
use Rattle.omi_model.specs.declared.item.Item.{Item}
use Rattle.omi_model.specs.declared.item.Item.TheVariants as item
use Rattle.omi_model.specs.declared.task.Task.{Task}
use Rattle.omi_model.specs.Changes.{encounter}
use Rattle.omi_model.specs.LawOrder.{Arrived, AreBarriersInOrder, HasNoBarrier, IsInOrder, Outside, Released, Stage, Waiting}
use Rattle.omi_model.specs.LawStays.{Stays}
use Rattle.omi_model.specs.Lists.{may_drop, stays, take_item}
use Rattle.omi_model.specs.Opening.{opening}
use Rattle.omi_model.specs.Reached.{Reached, Step}
use Rattle.omi_model.specs.Rows.{behind, first_of, main_items, member_items, shown}
use Rattle.omi_model.specs.Shapes.{shape_of}
use Rattle.omi_model.specs.State.{State, task_of}
use Rattle.omi_model.proofs.BarrierCounts.{barriers_of}
use Rattle.omi_model.proofs.BarrierLaw.{number_met, placed}
use Rattle.omi_model.proofs.BarrierOrder.{Outside as Clear, left, order, wrong}
use Rattle.omi_model.proofs.EachObject.{EachTask, IsTaskLaw, law_of_lasting, over_events, task_step}
use Rattle.omi_model.proofs.ListLaws.{take_keeps, by_taken}
use Rattle.omi_model.proofs.OpeningObjects.{each_first_task}
use Rattle.omi_model.proofs.RowLaws.{KeepsPlain, KeepsRows, barrier_keeps, critical_keeps, group_keeps, last_keeps, main_keeps, member_keeps, row_keeps, shown_keeps}
use Rattle.omi_model.proofs.Slots.{false_true}
use Rattle.omi_model.proofs.Steps.{IsRelisted}

-- a list that is in order from some stage on
abbrev pub Ordered : ℕ → List Item → Type 0
Ordered n xs = (stage : Stage) × IsInOrder n stage xs

module _ (n : ℕ) where
  plain_order : KeepsPlain (IsInOrder n Outside)
  plain_order item.Arrive xs plain h = absurd (false_true plain)
  plain_order item.Release xs plain h = absurd (false_true plain)
  plain_order item.Pass xs plain h = absurd (false_true plain)
  plain_order x xs plain h = h

  shown_arrived : (at : Encounter) (state wait : ℕ) (xs : List Item) → IsInOrder n Arrived xs
      → IsInOrder n Arrived (shown at state wait xs)
  shown_arrived at state wait xs h = go at.debug
    where
      go : (d : Bool) → IsInOrder n Arrived (if d then item.State state wait ∷ xs else xs)
      go true = h
      go false = h

  module _ (p : Program) where
    in_order : (at : Encounter) → at.number ≡ n → KeepsRows p at (IsInOrder n Outside)
    in_order at own = record {
      plain = plain_order;
      fork = λ num f xs h. h;
      taskwait = λ xs h. h;
      barrier = λ state xs other h. ((λ first. false_true (sym other ∙ eq-eqb at.number 0 (own ∙ first))), h);
      first_barrier = λ state xs first h. (sym own ∙ eqb-true at.number 0 first, h);
      critical = λ k f xs h. critical_keeps (IsInOrder n Outside) plain_order p at f (item.Unlock k ∷ xs) h;
      taskgroup = λ f xs h. group_keeps (IsInOrder n Outside) plain_order p at f xs (λ ys q. q) h;
    }

    rows_ordered : (at : Encounter) → at.number ≡ n → (s : Stmt) (rest : List Item)
        → Ordered n (item.Do s ∷ rest) → Ordered n (first_of at s ∷ behind p at s rest)
    rows_ordered at own s rest (Outside, h) =
        (Outside, row_keeps p at (IsInOrder n Outside) (in_order at own) (shape_of s) rest h)
    rows_ordered at own s rest (Arrived, h) = absurd h
    rows_ordered at own s rest (Waiting, h) = absurd h
    rows_ordered at own s rest (Released, h) = absurd h

    drop_ordered : (x : Item) (xs : List Item) → may_drop x ≡ true → Ordered n (x ∷ xs) → Ordered n xs
    drop_ordered item.Asks xs may (Outside, h) = (Outside, h)
    drop_ordered item.Asks xs may (Arrived, h) = absurd h
    drop_ordered item.Asks xs may (Waiting, h) = absurd h
    drop_ordered item.Asks xs may (Released, h) = absurd h
    drop_ordered (item.Tasks state) xs may (Outside, h) = (Outside, h)
    drop_ordered (item.Tasks state) xs may (Arrived, h) = (Waiting, h)
    drop_ordered (item.Tasks state) xs may (Waiting, h) = absurd h
    drop_ordered (item.Tasks state) xs may (Released, h) = absurd h
    drop_ordered item.OneTask xs may (Outside, h) = (Outside, h)
    drop_ordered item.OneTask xs may (Arrived, h) = absurd h
    drop_ordered item.OneTask xs may (Waiting, h) = absurd h
    drop_ordered item.OneTask xs may (Released, h) = absurd h
    drop_ordered (item.Frees m) xs may (Outside, h) = (Outside, h)
    drop_ordered (item.Frees m) xs may (Arrived, h) = absurd h
    drop_ordered (item.Frees m) xs may (Waiting, h) = absurd h
    drop_ordered (item.Frees m) xs may (Released, h) = absurd h
    drop_ordered x xs may h = absurd (false_true may)

    take_ordered : (at : Encounter) → at.number ≡ n → (e : Event) (xs : List Item) (y : Item) (ys : List Item)
        → take_item p at e xs ≡ Some (y, ys) → Ordered n xs → Ordered n (y ∷ ys)
    take_ordered at own = take_keeps p at (Ordered n) drop_ordered (rows_ordered at own)

    member_order : (at : Encounter) (f : ℕ) → at.number ≡ n → IsInOrder n Outside (member_items p at f)
    member_order at f own =
        member_keeps (IsInOrder n Outside) plain_order p at f
        (barrier_keeps p at (IsInOrder n Outside) (in_order at own) _ _ (last_keeps (IsInOrder n Outside) tt tt at.number))

    main_order : (at : Encounter) → at.number ≡ n
        → IsInOrder n Outside (main_items at (body_of p.funcs p.main))
    main_order at own =
        main_keeps (IsInOrder n Outside) plain_order p at
        (barrier_keeps p at (IsInOrder n Outside) (in_order at own) _ (item.Done ∷ []) tt)

  -- behind an item
  rest_ordered : (y : Item) (ys : List Item) → Ordered n (y ∷ ys) → Ordered n ys
  rest_ordered item.Arrive ys (Outside, h) = (Arrived, h)
  rest_ordered item.Release ys (Outside, h) = absurd h
  rest_ordered item.Pass ys (Outside, h) = absurd h
  rest_ordered y ys (Outside, h) = (Outside, h)
  rest_ordered (item.State state wait) ys (Arrived, h) = (Arrived, h)
  rest_ordered (item.Tasks state) ys (Arrived, h) = (Waiting, h)
  rest_ordered y ys (Arrived, h) = absurd h
  rest_ordered item.Release ys (Waiting, h) = (Released, h.1)
  rest_ordered item.Pass ys (Waiting, h) = (Outside, h.1)
  rest_ordered y ys (Waiting, h) = absurd h
  rest_ordered item.Pass ys (Released, h) = (Outside, h)
  rest_ordered y ys (Released, h) = absurd h

  serve_ordered : (at : Encounter) (ys : List Item) → Ordered n (item.Serve ∷ ys)
      → Ordered n (shown at 0x100 0 (item.Offer ∷ item.Serve ∷ ys))
  serve_ordered at ys (Outside, h) =
      (Outside, shown_keeps (IsInOrder n Outside) plain_order at 0x100 0 (item.Offer ∷ item.Serve ∷ ys) h)
  serve_ordered at ys (Arrived, h) = absurd h
  serve_ordered at ys (Waiting, h) = absurd h
  serve_ordered at ys (Released, h) = absurd h

  tasks_ordered : (at : Encounter) (state : ℕ) (ys : List Item) → Ordered n (item.Tasks state ∷ ys)
      → Ordered n (shown at state 0 (item.Tasks state ∷ ys))
  tasks_ordered at state ys (Outside, h) =
      (Outside, shown_keeps (IsInOrder n Outside) plain_order at state 0 (item.Tasks state ∷ ys) h)
  tasks_ordered at state ys (Arrived, h) = (Arrived, shown_arrived at state 0 (item.Tasks state ∷ ys) h)
  tasks_ordered at state ys (Waiting, h) = absurd h
  tasks_ordered at state ys (Released, h) = absurd h

  seen_ordered : (seen f : ℕ) (final : Bool) (ys : List Item) → Ordered n (item.Defer seen f final ∷ ys)
      → Ordered n (item.Defer (seen + 1) f final ∷ ys)
  seen_ordered seen f final ys (Outside, h) = (Outside, h)
  seen_ordered seen f final ys (Arrived, h) = absurd h
  seen_ordered seen f final ys (Waiting, h) = absurd h
  seen_ordered seen f final ys (Released, h) = absurd h

  stays_ordered : (at : Encounter) (e : Event) (y : Item) (ys : List Item) → Ordered n (y ∷ ys)
      → Ordered n (stays at e y ys)
  stays_ordered at e item.Asks ys h = h
  stays_ordered at e item.Serve ys h = serve_ordered at ys h
  stays_ordered at e (item.Tasks state) ys h = tasks_ordered at state ys h
  stays_ordered at (event.Seen j) (item.Defer seen f final) ys h = seen_ordered seen f final ys h
  stays_ordered at e y ys h = rest_ordered y ys h

-- ---- the list of each member

abbrev IsOrdered : Tid → Task → Type 0
IsOrdered k t = t.implicit ≡ true → Ordered t.number t.list

ordered_step : (p : Program) (s : State) (i : ℕ) (e : Event) (next : State) → Step p s i e next
    → EachTask IsOrdered s → EachTask IsOrdered next
ordered_step p s i e next step all = task_step p IsOrdered s i e next step
    (λ k t y ys is taken h im.
    by_taken p (encounter s i) e t.frees t.list y ys (λ f z zs. Ordered t.number (stays (encounter s i) f z zs)) taken
    (λ from. stays_ordered t.number (encounter s i) e y ys (take_ordered t.number p (encounter s i) (number_met s i k t is) e t.list y ys from (h im))) (λ task n. h im)) law all
  where
    law : (middle : State) (y : Item) → IsRelisted s middle → Stays middle next → EachTask IsOrdered middle
        → IsTaskLaw p middle i e y next IsOrdered
    law middle y before later of_tasks = law_of_lasting p middle i e y next IsOrdered (record {
      starts = λ k u j t x is live ex de may of by q im. absurd (false_true (sym ex ∙ im));
      members = λ region team f k t r is found may new of by j m at im. (Outside, member_order j p (record { debug = p.env.debug; number = j; level = r.levels + 1; is_final = false }) f refl);
      deferred = λ task f final seen k t is of fresh im. absurd (false_true im);
      made = λ task f final k t is of fresh by im. absurd (false_true im);
    })

ordered : (p : Program) (events : List (ℕ × Event)) (s : State) → Reached p events s → EachTask IsOrdered s
ordered p events s reached =
    over_events p (EachTask IsOrdered) (λ u i e next step h. ordered_step p u i e next step h)
    (opening p) events s reached
    (each_first_task p IsOrdered (λ im. (Outside, main_order 0 p (record { debug = p.env.debug; number = 0; level = 0; is_final = false }) refl)))

-- ---- the list of an explicit task

no_barrier : (b : ℕ → ℕ) (n : ℕ) (xs : List Item) → order n Clear xs ≡ true → left b xs ≡ 0 → HasNoBarrier xs
no_barrier b n [] is none = tt
no_barrier b n (item.Arrive ∷ xs) is none = absurd (omega (arith, none))
no_barrier b n (item.Release ∷ xs) is none = absurd (wrong n xs is)
no_barrier b n (item.Pass ∷ xs) is none = absurd (wrong n xs is)
no_barrier b n (x ∷ xs) is none = no_barrier b n xs is (omega (arith, none))

pub barriers_ordered : (p : Program) (events : List (ℕ × Event)) (s : State) → Reached p events s
    → (k : Tid) (t : Task) → task_of s k ≡ Some t → AreBarriersInOrder t
barriers_ordered p events s reached k t live = record {
  member = ordered p events s reached k t live;
  explicit = λ ex. let ready = ((placed p events s reached).places k t live).1 ex in no_barrier (barriers_of p) t.number t.list ready.in_order ready.barriers;
}
