-- A thread in a wait looks on at the next slot. Behind the last one it waits at a barrier again, or for its children, or its `taskyield` construct ends.
use Rattle.std.proofs.Common.{◌≡◌, ◌≢◌, ◌+◌, ◌%◌, ◌<◌, ◌==◌, nat_lt, ℕ, inl, inr, zero, suc, Bool, true, false, List, refl, sym, subst, arith, ◌∙◌, eq-eqb, eqb-true, ltb-true, if◌then◌else◌}
use Rattle.std.specs.Prelude.{Some, slice_get}
use Rattle.omi_script.specs.declared.program.Program.{Program}
use Rattle.omi_model.specs.declared.encounter.Encounter.{Encounter}
use Rattle.omi_model.specs.declared.event.Event.{Event}
use Rattle.omi_model.specs.declared.item.Item.{Item}
use Rattle.omi_model.specs.State.{State}
use Rattle.omi_layout.specs.Memory.{Memory}
use Rattle.omi_pc.specs.declared.actor.Actor.{Actor}
use Rattle.omi_pc.specs.declared.counter.Counter.{Counter}
use Rattle.omi_pc.specs.declared.counter.Counter.TheVariants as counter
use Rattle.omi_pc.specs.declared.frame.Barrier.{Barrier}
use Rattle.omi_pc.specs.declared.frame.Wait.{Wait}
use Rattle.omi_pc.specs.declared.frame.Wait.TheVariants as wait
use Rattle.omi_numbers.specs.declared.limits.TheConstants.{OWN_SLOTS}
use Rattle.omi_pc.specs.declared.place.Place.{Place}
use Rattle.omi_pc.specs.declared.task_counter.LookCounter.TheVariants as look
use Rattle.omi_pc.specs.declared.team_counter.BarrierCounter.TheVariants as barrier
use Rattle.omi_pc.specs.Fits.{IsBack, LooksAt, slots_of}
use Rattle.omi_rule_words.specs.Owes.{nothing, owed_at}
use Rattle.omi_step_words.specs.Placed.{HasTaskPlace}
use Rattle.omi_task.specs.LookSteps.{behind_look, look_at, member_at, next_look}
use Rattle.omi_rule.specs.Ahead as Ahead
use Rattle.omi_rule.specs.Rows.{HasReleased, IsRowOf, OfRegion}
use Rattle.omi_rule.proofs.Assembly.{Before}
use Rattle.omi_rule.proofs.barrier.AtCounter.{GoesTo, here, sees, sees_number, IsEventful, eventful_member, eventful_passes, front_is}
use Rattle.omi_rule.proofs.barrier.Loads.{other_released}
use Rattle.omi_rule.specs.Chains.{IsPassable}

module _ (p : Program) (w : List ℕ) (m : Memory) (events : List (ℕ × Event)) (s : State) (actors : ℕ → Actor)
    (i : ℕ) (before : Before p w m events s actors i) (standing : Counter)
    (at : (actors i).counter ≡ standing) (eventful : IsEventful standing)
    (idle : owed_at (actors i).context (actors i).gathered.team standing ≡ nothing) (v : Wait) (n : ℕ)
    (row : Place) (fits : LooksAt p (actors i) v n row) (has_row : HasTaskPlace w row)
    (row_of : OfRegion s (actors i) (IsRowOf row n))
    (list_is : (here p w m events s actors i before standing at (eventful_member standing eventful)).task.list ≡ Ahead.waiting p (sees p w m events s actors i before standing at (eventful_member standing eventful)) (actors i).stack v) where
  abbrev a : Actor
  a = actors i

  abbrev At : Encounter
  At = sees p w m events s actors i before standing at (eventful_member standing eventful)

  abbrev list : List Item
  list = (here p w m events s actors i before standing at (eventful_member standing eventful)).task.list

  abbrev Goes : Counter → Type 0
  Goes to = GoesTo p w m events s actors i before standing at (eventful_member standing eventful) to

  passes : IsPassable (here p w m events s actors i before standing at (eventful_member standing eventful)).task.frees
  passes =
      eventful_passes standing eventful (here p w m events s actors i before standing at (eventful_member standing eventful)).task.frees
      (front_is p w m events s actors i before standing at (eventful_member standing eventful))

  -- ---- behind the last slot

  -- a member but member 0 has no release behind it
  no_release : (k : ℕ) → k ≢ 0 → HasReleased s a k
  no_release zero other = absurd (other refl)
  no_release (suc k) other = tt

  waits_again : (b : Barrier) → IsBack p a (Some (wait.Barrier b)) → list ≡ Ahead.arrived p At a.stack b
      → (d : Bool) → a.context.number == 0 ≡ d
      → Goes (counter.Barrier (if d then barrier.LoadArrived b else barrier.LoadReleased b))
  waits_again b waits is true first = record {
    fits = (waits, eqb-true a.context.number 0 first);
    placed = tt;
    ahead = is;
    front = passes;
    owes = sym idle;
    row = tt;
    ended = tt;
  }
  waits_again b waits is false later =
      let other : a.context.number ≢ 0 = λ e. cc (sym later, eq-eqb a.context.number 0 e) in
      let number_is : At.number ≡ a.context.number =
      sees_number p w m events s actors i before standing at (eventful_member standing eventful) in
      record {
        fits = waits;
        placed = tt;
        ahead = is ∙ sym (other_released p At a.stack b (λ e. other (sym number_is ∙ e)));
        front = passes;
        owes = sym idle;
        row = no_release a.context.number other;
        ended = tt;
      }

  behind : (x : Wait) → IsBack p a (Some x) → list ≡ Ahead.waiting p At a.stack x → Goes (behind_look a x)
  behind (wait.Barrier b) waits is = waits_again b waits is (a.context.number == 0) refl
  behind wait.Taskwait waits is = record { fits = waits; placed = tt; ahead = is; front = passes; owes = sym idle; row = tt; ended = tt }
  behind wait.Taskyield waits is = record { fits = (waits, inr refl); placed = tt; ahead = inl is; front = passes; owes = sym idle; row = tt; ended = tt }
  behind wait.Taskgroup waits is = record { fits = waits; placed = tt; ahead = is; front = passes; owes = sym idle; row = tt; ended = tt }

  -- ---- the next slot

  same_member : (n + 1) % OWN_SLOTS ≢ 0 → member_at n ≡ member_at (n + 1)
  same_member inside = omega (arith, inside)

  looks_on : n + 1 < slots_of a → (d : Bool) → (n + 1) % OWN_SLOTS == 0 ≡ d
      → Goes (counter.Look (if d then look.LoadRow v (n + 1) else look.LoadSlot v (n + 1) row))
  looks_on within true first = record {
    fits = ((fits.0.0, within), eqb-true ((n + 1) % OWN_SLOTS) 0 first);
    placed = tt;
    ahead = list_is;
    front = passes;
    owes = sym idle;
    row = tt;
    ended = tt;
  }
  looks_on within false inside =
      let (r, found, (x, there, is)) = row_of in
      let same = same_member (λ e. cc (sym inside, eq-eqb ((n + 1) % OWN_SLOTS) 0 e)) in
      record {
        fits = ((fits.0.0, within), fits.1);
        placed = has_row;
        ahead = list_is;
        front = passes;
        owes = sym idle;
        row = (r, found, (x, subst (λ k. slice_get r.team k ≡ Some x) same there, is));
        ended = tt;
      }

  by_count : (d : Bool) → nat_lt (n + 1) (slots_of a) ≡ d
      → Goes (if d then counter.Look (look_at v (n + 1) row) else behind_look a v)
  by_count true within = looks_on (ltb-true (n + 1) (slots_of a) within) ((n + 1) % OWN_SLOTS == 0) refl
  by_count false past = behind v fits.0.0 list_is

  pub goes_next : Goes (next_look a v (n + 1) row)
  goes_next = by_count (nat_lt (n + 1) (slots_of a)) refl
