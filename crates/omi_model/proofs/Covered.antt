-- In the list of an implicit task each item that may make a task or a team has a barrier behind it.
use Rattle.std.proofs.Common.{◌≡◌, ◌==◌, ℕ, ◌<◌, Bool, true, false, List, [], ◌∷◌, Some, if◌then◌else◌, arith}
use Rattle.omi_script.specs.Bodies.{body_of}
use Rattle.omi_script.specs.declared.program.Program.{Program}
use Rattle.omi_model.specs.declared.encounter.Encounter.{Encounter}
use Rattle.omi_model.specs.declared.event.Event.{Event}
use Rattle.omi_model.specs.declared.event.Event.TheVariants as event
use Rattle.omi_model.specs.declared.item.Item.{Item}
use Rattle.omi_model.specs.declared.item.Item.TheVariants as item
use Rattle.omi_model.specs.Lists.{stays, take_item}
use Rattle.omi_numbers.specs.declared.states.TheConstants.{WAIT_BARRIER_IMPLICIT_PARALLEL}
use Rattle.omi_model.specs.Rows.{end_of_member, main_items, member_items, shown}
use Rattle.omi_model.specs.LawBarriersLeft.{left}
use Rattle.omi_model.specs.Shapes.{shape_of}
use Rattle.omi_model.proofs.ListLaws.{take_keeps}
use Rattle.omi_model.proofs.RowLaws.{KeepsPlain, KeepsRows, critical_keeps, group_keeps, last_keeps, main_keeps, member_keeps, row_keeps, shown_keeps}
use Rattle.omi_model.proofs.Slots.{false_true}

abbrev pub HasBehind : (ℕ → ℕ) → Item → List Item → Type 0
HasBehind b (item.Do s) rest = 0 < left b rest
HasBehind b (item.Defer seen f final) rest = 0 < left b rest
HasBehind b (item.StartNow f final) rest = 0 < left b rest
HasBehind b (item.Fork f) rest = 0 < left b rest
HasBehind b x rest = Unit {0}

abbrev pub Covers : (ℕ → ℕ) → List Item → Type 0
Covers b [] = Unit {0}
Covers b (x ∷ xs) = HasBehind b x xs × Covers b xs

-- and a barrier is ahead
abbrev Covered : (ℕ → ℕ) → List Item → Type 0
Covered b xs = (0 < left b xs) × Covers b xs

module _ (b : ℕ → ℕ) where
  plain_covered : KeepsPlain (Covered b)
  plain_covered (item.Do s) xs plain h = (omega (arith, h.0), h)
  plain_covered (item.Defer seen f final) xs plain h = (omega (arith, h.0), h)
  plain_covered (item.StartNow f final) xs plain h = (omega (arith, h.0), h)
  plain_covered (item.Fork f) xs plain h = absurd (false_true plain)
  plain_covered x xs plain h = (omega (arith, h.0), (tt, h.1))

  shown_covers : (at : Encounter) (state wait : ℕ) (xs : List Item) → Covers b xs
      → Covers b (shown at state wait xs)
  shown_covers at state wait xs h = go at.debug
    where
      go : (d : Bool) → Covers b (if d then item.State state wait ∷ xs else xs)
      go true = (tt, h)
      go false = h

  module _ (p : Program) where
    covered : (at : Encounter) → KeepsRows p at (Covered b)
    covered at = record {
      plain = plain_covered;
      fork = λ num f xs h. (omega (arith, h.0), (tt, (tt, h)));
      taskwait = λ xs h. (omega (arith, h.0), (tt, h.1));
      barrier = λ state xs other h. (omega arith, (tt, (tt, (tt, h.1))));
      first_barrier = λ state xs first h. (omega arith, (tt, (tt, (tt, (tt, h.1)))));
      critical = λ k f xs h. let inner = critical_keeps (Covered b) plain_covered p at f (item.Unlock k ∷ xs) (omega (arith, h.0), (tt, h.1)) in (omega (arith, inner.0), (tt, inner.1));
      taskgroup = λ f xs h. let inner = group_keeps (Covered b) plain_covered p at f xs (λ ys q. (omega (arith, q.0), (tt, (tt, q.1)))) h in (omega (arith, inner.0), (tt, inner.1));
    }

    pub take_covers : (at : Encounter) (e : Event) (xs : List Item) (y : Item) (ys : List Item)
        → take_item p at e xs ≡ Some (y, ys) → Covers b xs → Covers b (y ∷ ys)
    take_covers at =
        take_keeps p at (Covers b) (λ x xs may h. h.1)
        (λ s xs h. (row_keeps p at (Covered b) (covered at) (shape_of s) xs h).1)

    -- the barrier at the end of a member covers what stands in front of it
    end_covered : (at : Encounter) (xs : List Item) → Covers b xs → Covered b (end_of_member at xs)
    end_covered at xs h =
        shown_keeps (Covered b) plain_covered at WAIT_BARRIER_IMPLICIT_PARALLEL 0
        (item.Arrive ∷ item.Tasks WAIT_BARRIER_IMPLICIT_PARALLEL ∷ (if at.number == 0 then item.Release ∷ item.Pass ∷ xs else item.Pass ∷ xs))
        (go (at.number == 0))
      where
        go : (d : Bool)
            → Covered b (item.Arrive ∷ item.Tasks WAIT_BARRIER_IMPLICIT_PARALLEL ∷ (if d then item.Release ∷ item.Pass ∷ xs else item.Pass ∷ xs))
        go true = (omega arith, (tt, (tt, (tt, (tt, h)))))
        go false = (omega arith, (tt, (tt, (tt, h))))

    pub member_covers : (at : Encounter) (f : ℕ) → Covers b (member_items p at f)
    member_covers at f =
        (member_keeps (Covered b) plain_covered p at f (end_covered at _ (last_keeps (Covers b) (tt, tt) (tt, tt) at.number))).1

    pub main_covers : (at : Encounter) → Covers b (main_items at (body_of p.funcs p.main))
    main_covers at = (main_keeps (Covered b) plain_covered p at (end_covered at (item.Done ∷ []) (tt, tt))).1

  pub stays_covers : (at : Encounter) (e : Event) (y : Item) (ys : List Item) → Covers b (y ∷ ys)
      → Covers b (stays at e y ys)
  stays_covers at e item.Asks ys h = h
  stays_covers at e item.Serve ys h = shown_covers at _ 0 (item.Offer ∷ item.Serve ∷ ys) (tt, h)
  stays_covers at e (item.Tasks state) ys h = shown_covers at state 0 (item.Tasks state ∷ ys) h
  stays_covers at (event.Seen j) (item.Defer seen f final) ys h = h
  stays_covers at e y ys h = h.1
