-- No list has what may be given back as an item: it stands in front of the list alone.
use Rattle.std.proofs.Common.{◌≡◌, ℕ, true, false, List, [], ◌∷◌, Option, Some, None, refl, sym, ap, ◌∙◌, subst, ◌+◌}
use Rattle.omi_script.specs.Bodies.{body_of}
use Rattle.omi_script.specs.declared.program.Program.{Program}
use Rattle.omi_model.specs.declared.encounter.Encounter.{Encounter}
use Rattle.omi_model.specs.declared.event.Event.{Event}
use Rattle.omi_model.specs.declared.event.Event.TheVariants as event
use Rattle.omi_model.specs.declared.freeable.Freeable.{Freeable}
use Rattle.omi_model.specs.declared.freeable.Freeable.TheVariants as freeable
use Rattle.omi_model.specs.declared.id.Tid.{Tid}
use Rattle.omi_model.specs.declared.item.Item.{Item}
use Rattle.omi_model.specs.declared.item.Item.TheVariants as item
use Rattle.omi_model.specs.declared.task.Task.{Task}
use Rattle.omi_model.specs.Changes.{encounter, in_front}
use Rattle.omi_model.specs.LawStays.{Stays}
use Rattle.omi_model.specs.Lists.{fits, stays, take_item}
use Rattle.omi_model.specs.Opening.{opening}
use Rattle.omi_model.specs.Reached.{Reached, Step}
use Rattle.omi_model.specs.Rows.{main_items, member_items}
use Rattle.omi_model.specs.Shapes.{shape_of}
use Rattle.omi_model.specs.State.{State}
use Rattle.omi_model.proofs.EachObject.{EachTask, IsTaskLaw, law_of_lasting, over_events, task_step}
use Rattle.omi_model.proofs.ListLaws.{by_taken, may_pass, passes_front, take_fits, take_keeps, takes_joined}
use Rattle.omi_model.proofs.OpeningObjects.{each_first_task}
use Rattle.omi_model.proofs.RowLaws.{KeepsPlain, KeepsRows, barrier_keeps, critical_keeps, drop_keeps, group_keeps, last_keeps, main_keeps, member_keeps, row_keeps, shown_keeps, start_keeps, task_keeps}
use Rattle.omi_model.proofs.Slots.{false_true, some_same}
use Rattle.omi_model.proofs.Steps.{IsRelisted}

abbrev pub HasNoFrees : List Item → Type 0
HasNoFrees [] = Unit {0}
HasNoFrees (item.Frees n ∷ xs) = ⊥
HasNoFrees (x ∷ xs) = HasNoFrees xs

plain_frees : KeepsPlain HasNoFrees
plain_frees (item.Frees n) xs plain h = absurd (false_true plain)
plain_frees x xs plain h = h

module _ (p : Program) where
  rows : (at : Encounter) → KeepsRows p at HasNoFrees
  rows at = record {
    plain = plain_frees;
    fork = λ num f xs h. h;
    taskwait = λ xs h. h;
    barrier = λ state xs other h. h;
    first_barrier = λ state xs first h. h;
    critical = λ k f xs h. critical_keeps HasNoFrees plain_frees p at f (item.Unlock k ∷ xs) h;
    taskgroup = λ f xs h. group_keeps HasNoFrees plain_frees p at f xs (λ ys q. q) h;
  }

  take_frees : (at : Encounter) (e : Event) (xs : List Item) (y : Item) (ys : List Item)
      → take_item p at e xs ≡ Some (y, ys) → HasNoFrees xs → HasNoFrees (y ∷ ys)
  take_frees at =
      take_keeps p at HasNoFrees
      (drop_keeps HasNoFrees (λ xs h. h) (λ state xs h. h) (λ xs h. h) (λ n xs h. absurd h))
      (λ s xs h. row_keeps p at HasNoFrees (rows at) (shape_of s) xs h)

  member_frees : (at : Encounter) (f : ℕ) → HasNoFrees (member_items p at f)
  member_frees at f =
      member_keeps HasNoFrees plain_frees p at f
      (barrier_keeps p at HasNoFrees (rows at) _ _ (last_keeps HasNoFrees tt tt at.number))

  main_frees : (at : Encounter) → HasNoFrees (main_items at (body_of p.funcs p.main))
  main_frees at =
      main_keeps HasNoFrees plain_frees p at
      (barrier_keeps p at HasNoFrees (rows at) _ (item.Done ∷ []) tt)

  -- what an event takes off such a list it takes behind what stands in front of it, too, where this may be passed over
  pub taken_behind : (at : Encounter) (e : Event) (f : Option Freeable) (xs : List Item) (y : Item) (ys : List Item)
      → HasNoFrees xs → may_pass f ≡ true → take_item p at e xs ≡ Some (y, ys)
      → take_item p at e (in_front f xs) ≡ Some (y, ys)
  taken_behind at (event.FreeTask task) f xs y ys none may taken =
      absurd (of_frees y (take_fits p at (event.FreeTask task) xs y ys taken) (take_frees at (event.FreeTask task) xs y ys taken none))
    where
      of_frees : (z : Item) → fits (event.FreeTask task) z ≡ true → HasNoFrees (z ∷ ys) → ⊥
      of_frees (item.Frees n) fit h = h
      of_frees z fit h = false_true fit
  taken_behind at (event.FreeRegion region) f xs y ys none may taken =
      absurd (of_frees y (take_fits p at (event.FreeRegion region) xs y ys taken) (take_frees at (event.FreeRegion region) xs y ys taken none))
    where
      of_frees : (z : Item) → fits (event.FreeRegion region) z ≡ true → HasNoFrees (z ∷ ys) → ⊥
      of_frees (item.Frees n) fit h = h
      of_frees z fit h = false_true fit
  taken_behind at e f xs y ys none may taken =
      subst (λ o. o ≡ Some (y, ys)) (sym (passes_front p at e f xs refl may)) taken

  -- and where what it takes may be given back, this stood in front of the list
  pub front_taken : (at : Encounter) (e : Event) (f : Option Freeable) (xs : List Item) (y : Item) (ys : List Item)
      → HasNoFrees xs → take_item p at e (in_front f xs) ≡ Some (y, ys) → (g : Freeable) → y ≡ item.Frees g → f ≡ Some g
  front_taken at e f xs y ys none taken g of = go f taken
    where
      behind : take_item p at e xs ≡ Some (y, ys) → ⊥
      behind from = subst (λ z. HasNoFrees (z ∷ ys)) of (take_frees at e xs y ys from none)

      same : (h : Freeable) → item.Frees h ≡ y → Some h ≡ Some g
      same h is = let one : item.Frees h ≡ item.Frees g = is ∙ of in cc

      finished : (task : Tid) (d : Event) → take_item p at d xs ≡ take_item p at e xs
          → take_item p at d (item.Frees (freeable.Finished task) ∷ xs) ≡ Some (y, ys)
          → Some (freeable.Finished task) ≡ Some g
      finished task (event.FreeTask of) at_e is =
          same (freeable.Finished task) (ap (λ (o : Item × List Item). o.0) (some_same refl is))
      finished task d at_e is = absurd (behind (sym at_e ∙ is))

      go : (o : Option Freeable) → take_item p at e (in_front o xs) ≡ Some (y, ys) → o ≡ Some g
      go None is = absurd (behind is)
      go (Some (freeable.Finished task)) is = finished task e refl is
      go (Some (freeable.Joined n number)) is =
          same (freeable.Joined n number) (sym (takes_joined p at e n number xs (y, ys) is).1)

stays_frees : (at : Encounter) (e : Event) (y : Item) (ys : List Item) → HasNoFrees (y ∷ ys)
    → HasNoFrees (stays at e y ys)
stays_frees at e item.Asks ys h = h
stays_frees at e item.Serve ys h = shown_keeps HasNoFrees plain_frees at _ 0 (item.Offer ∷ item.Serve ∷ ys) h
stays_frees at e (item.Tasks state) ys h = shown_keeps HasNoFrees plain_frees at state 0 (item.Tasks state ∷ ys) h
stays_frees at (event.Seen j) (item.Defer seen f final) ys h = h
stays_frees at e (item.Frees n) ys h = absurd h
stays_frees at e y ys h = h

abbrev TaskFrees : Tid → Task → Type 0
TaskFrees k t = HasNoFrees t.list

frees_step : (p : Program) (s : State) (i : ℕ) (e : Event) (next : State) → Step p s i e next
    → EachTask TaskFrees s → EachTask TaskFrees next
frees_step p s i e next step all = task_step p TaskFrees s i e next step
    (λ k t y ys is taken h.
    by_taken p (encounter s i) e t.frees t.list y ys (λ f z zs. HasNoFrees (stays (encounter s i) f z zs)) taken
    (λ from. stays_frees (encounter s i) e y ys (take_frees p (encounter s i) e t.list y ys from h)) (λ task n. h)) law all
  where
    law : (middle : State) (y : Item) → IsRelisted s middle → Stays middle next → EachTask TaskFrees middle
        → IsTaskLaw p middle i e y next TaskFrees
    law middle y before later of_tasks = law_of_lasting p middle i e y next TaskFrees (record {
      starts = λ k u j t x is live ex de may of by q. start_keeps HasNoFrees plain_frees x (encounter middle i) u.list q;
      members = λ region team f k t r is found may new of by j m at.
          member_frees p (record { debug = p.env.debug; number = j; level = r.levels + 1; is_final = false }) f;
      deferred = λ task f final seen k t is of fresh. task_keeps HasNoFrees plain_frees p f tt;
      made = λ task f final k t is of fresh by. task_keeps HasNoFrees plain_frees p f tt;
    })

pub no_frees : (p : Program) (events : List (ℕ × Event)) (s : State) → Reached p events s
    → EachTask TaskFrees s
no_frees p events s reached =
    over_events p (EachTask TaskFrees) (λ u i e next step h. frees_step p u i e next step h)
    (opening p) events s reached
    (each_first_task p TaskFrees (main_frees p (record { debug = p.env.debug; number = 0; level = 0; is_final = false })))
