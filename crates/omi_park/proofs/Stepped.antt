-- A step of a worker's thread keeps the rule of the table: a worker that steps has not been seen, so no word was copied yet.
use Rattle.std.proofs.Common.{◌≡◌, ◌≢◌, inr, ◌<◌, ◌≤◌, ◌==◌, ◌+◌, ℕ, Bool, true, false, List, [], ◌∷◌, length, slice_get, slice_index, slice_set, Some, refl, sym, ap, ◌∙◌, subst, arith, eqb-true, eq-eqb}
use mathlib.Core.Option.{some}
use lib.ListN.{get_elem?}
use Rattle.atomic_table.specs.Seated.{TableId}
use Rattle.atomic_table.specs.Table.{Act, Allows, State, Step, Valid, carried_after, keeps, stepped as state_after}
use Rattle.omi_word.specs.declared.limits.TheConstants.{FIRST_ADDRESS}
use Rattle.omi_word.specs.declared.op.Op.{Op}
use Rattle.omi_word.specs.Memory.{address_of, left_of, place_of}
use Rattle.omi_script.specs.declared.program.Program.{Program}
use Rattle.omi_layout.specs.declared.layout.Layout.{Layout}
use Rattle.omi_layout.specs.Place.{image_words}
use Rattle.omi_actor.specs.Steps.{next_of}
use Rattle.omi_core.specs.declared.entry.Entry.{Entry}
use Rattle.omi_core.specs.RunSteps.{seats_of}
use Rattle.omi_core.specs.Steps.{steps_of}
use Rattle.omi_core.proofs.History.{other_one_more}
use Rattle.omi_seat.specs.declared.limits.TheConstants.{MOST_BUDGET}
use Rattle.omi_seat.specs.Applied.{MayApply, WasTold}
use Rattle.omi_seat.specs.Behind.{HasRun}
use Rattle.omi_seat.specs.Known.{IsKnown, actor_known, claims_known, entry_known}
use Rattle.omi_seat.specs.Seats.{Seated}
use Rattle.omi_seat.proofs.OneStep.{entry_of}
use Rattle.omi_seat.proofs.Seats.{one_changed}
use Rattle.omi_seat.proofs.Stepped.{entries_are, entries_now, found_here, known_now, known_there, members_known, op_is, run_now}
use Rattle.omi_park.specs.declared.known.Part.{Part}
use Rattle.omi_park.specs.declared.known.Part.TheVariants as part
use Rattle.omi_park.specs.declared.known.WorkerPart.{WorkerPart}
use Rattle.omi_park.specs.Acknowledged.{IsStill}
use Rattle.omi_park.specs.Plays.{makes, stepped}
use Rattle.omi_park.specs.Running.{HasSaid, IsInspector, IsPart, IsSaid, Keeps, number_of, staying, waiting}
use Rattle.omi_park.specs.Work.{MayStep}
use Rattle.omi_park.proofs.Kept.{Now}
use Rattle.omi_list.proofs.Places.{one_value, place_there}
use Rattle.omi_park.proofs.Parts.{worker_is}
use Rattle.omi_park.proofs.Stops.{stops_stand}
use Rattle.omi_park.proofs.Worked.{not_seen, not_still, other_thread, worker}

module _ (p : Program) (l : Layout) (s : State (Unit {0}) (List Part)) (h : Keeps p l s) (id : ℕ)
    (x : WorkerPart) (at : get_elem? s.views id ≡ some (part.Worker x ∷ [])) (may : MayStep x)
    (room : length x.known.found < MOST_BUDGET) where
  known : IsKnown p l h.behind.keeps.entries h.behind.run.actors x.known
  known = (worker p l s h id x at).known

  abbrev e : Entry
  e = entry_of h.behind.run x.known.thread

  abbrev words : List ℕ
  words =
      slice_set s.words (place_of (address_of e.op))
      (left_of e.op (slice_index s.words (place_of (address_of e.op))))

  -- the run behind it
  abbrev next : HasRun p l words (h.epoch ∷ h.acks)
  next = run_now p l s.words (h.epoch ∷ h.acks) h.behind x.known known room

  abbrev entries : List (ℕ × Entry)
  entries = entries_now p l s.words (h.epoch ∷ h.acks) h.behind x.known known

  has : next.keeps.entries ≡ entries
  has = entries_are p l s.words (h.epoch ∷ h.acks) h.behind x.known known room

  -- ---- what is said

  -- the worker's own word says nothing of this epoch
  own_said : (n : ℕ) → slice_get h.acks x.known.thread ≡ Some n → IsSaid entries h.epoch x.known.thread n
  own_said n got =
      let n_is : x.said ≡ n = one_value (slice_get h.acks x.known.thread) x.said n (worker p l s h id x at).said got in
      record {
        steps = λ still. absurd (not_still p l s h id x at may (subst (IsStill h.epoch) (sym n_is) still));
        past = (h.said x.known.thread n got).past;
      }

  other_steps : (k : ℕ) → k ≢ x.known.thread → steps_of k entries ≡ steps_of k h.behind.keeps.entries
  other_steps k other = other_one_more k x.known.thread h.behind.keeps.entries e (λ is. other (sym is))

  other_said : (k n : ℕ) → k ≢ x.known.thread → slice_get h.acks k ≡ Some n → IsSaid entries h.epoch k n
  other_said k n other got =
      let was = h.said k n got in
      record { steps = λ still. was.steps still ∙ ap length (sym (other_steps k other)); past = was.past }

  all_said : (k n : ℕ) → slice_get h.acks k ≡ Some n → IsSaid entries h.epoch k n
  all_said k n got = go (k == x.known.thread) refl
    where
      go : (b : Bool) → k == x.known.thread ≡ b → IsSaid entries h.epoch k n
      go true same =
          let own : k ≡ x.known.thread = eqb-true k x.known.thread same in
          subst (λ i. IsSaid entries h.epoch i n) (sym own) (own_said n (ap (slice_get h.acks) (sym own) ∙ got))
      go false not =
          other_said k n (λ same. let yes : k == x.known.thread ≡ true = eq-eqb k x.known.thread same in cc (not, yes)) got

  -- ---- the inspector has copied nothing

  none_copied : (k n : ℕ) → slice_get h.inspector.copied k ≡ Some n → ⊥
  none_copied k n got =
      let count = h.inspects.all k n got in
      let below = known.thread in
      let there = place_there h.inspector.seen x.known.thread (omega (arith, below, count)) in
      not_seen p l s h id x at may there.0 there.1

  still_inspects : IsInspector p l entries h.epoch next.run.words h.acks h.inspector
  still_inspects = record {
    current = h.inspects.current;
    seen = λ k n got. still_seen k n got (h.inspects.seen k n got);
    all = h.inspects.all;
    held = λ k n got. absurd (none_copied k n got);
    stops = stops_stand p l 0 h.behind.keeps.entries (x.known.thread, e) h.inspector.stops h.inspects.stops;
  }
    where
      still_seen : (k n : ℕ) → slice_get h.inspector.seen k ≡ Some n
          → HasSaid h.behind.keeps.entries h.epoch h.acks k n → HasSaid entries h.epoch h.acks k n
      still_seen k n got (waiting none odd steps) =
          waiting none odd
          (other_steps k (λ is. not_seen p l s h id x at may n (ap (slice_get h.inspector.seen) (sym is) ∙ got)) ∙ steps)
      still_seen k n got (staying here stays) = staying here stays

  -- ---- the parts

  abbrev StepNow : Part → Type 0
  StepNow = IsPart p l next.keeps.entries next.run.actors h.epoch h.acks h.inspector

  part_now : StepNow (part.Worker (makes e.old x))
  part_now = record {
    known = known_now p l s.words (h.epoch ∷ h.acks) h.behind x.known known room;
    said = (worker p l s h id x at).said;
    loaded = λ n is. absurd (grind (arith, is));
    begins = λ none. refl;
    parked = λ parked. absurd (not_still p l s h id x at may (inr (inr parked)));
    waits = λ word n got none is. absurd (grind (arith, is));
  }

  part_there : (z : Part) → number_of z ≢ number_of (part.Worker x) → Now p l s h h.inspector z → StepNow z
  part_there (part.Worker z) other is = record {
    known = known_there p l s.words (h.epoch ∷ h.acks) h.behind x.known known room z.known (other_thread p l s h id x at z other) is.known;
    said = is.said;
    loaded = is.loaded;
    begins = is.begins;
    parked = is.parked;
    waits = is.waits;
  }
  part_there (part.Inspector i) other is = is

  pub keeps_step : Keeps p l (state_after s (place_of (address_of e.op)) (left_of e.op (slice_index s.words (place_of (address_of e.op)))) id [] (part.Worker (makes e.old x) ∷ []) keeps)
  keeps_step = record {
    epoch = h.epoch;
    last = h.last;
    acks = h.acks;
    many = h.many;
    behind = next;
    said = λ k n got. subst (λ es. IsSaid es h.epoch k n) (sym has) (all_said k n got);
    inspector = h.inspector;
    inspects = subst (λ es. IsInspector p l es h.epoch next.run.words h.acks h.inspector) (sym has) still_inspects;
    seats = one_changed number_of (Now p l s h h.inspector) StepNow s.views h.seats id (part.Worker x) at (part.Worker (makes e.old x)) refl part_now part_there;
  }

-- whatever the table is, the operation of a thread keeps the rule, and the worker learns what it found
pub step_allowed : (p : Program) (l : Layout) (slots id : ℕ) (x : WorkerPart) (st : Step (Unit {0})) → MayStep x
    → length x.known.found < MOST_BUDGET
    → (o : Op) → o ≡ next_of x.known.program x.known.layout.table (actor_known x.known)
    → Allows (Keeps p l) slots id (part.Worker x ∷ [], []) (place_of (address_of o)) (left_of o)
    (stepped st (part.Worker x ∷ [], []))
step_allowed p l slots id x st may room o is s h homes at small =
    subst
    (λ (q : Op). (w : List Part) × (a : Act (Unit {0})) × Valid s.homes [] a
    × Keeps p l
    (state_after s (place_of (address_of q)) (left_of q (slice_index s.words (place_of (address_of q)))) id [] w a)
    × stepped st (part.Worker x ∷ [], []) (slice_index s.words (place_of (address_of q))) (w, carried_after [] a))
    (sym (is ∙ op_is p l s.words (h.epoch ∷ h.acks) h.behind x.known known_x)) (
      part.Worker (makes (entry_of h.behind.run x.known.thread).old x) ∷ [],
      keeps,
      tt,
      keeps_step p l s h id x at may room,
      told,
    )
  where
    known_x : IsKnown p l h.behind.keeps.entries h.behind.run.actors x.known
    known_x = (worker p l s h id x at).known

    told : stepped st (part.Worker x ∷ [], []) (slice_index s.words (place_of (address_of (entry_of h.behind.run x.known.thread).op))) (part.Worker (makes (entry_of h.behind.run x.known.thread).old x) ∷ [], [])
    told y same =
        let y_is : x ≡ y = worker_is x y same in
        let found = found_here p l s.words (h.epoch ∷ h.acks) h.behind x.known known_x in (
          (λ k. (part.Worker (makes (sym found k) (y_is k)) ∷ [], [])),
          subst
              (λ (q : WorkerPart). seats_of (entry_known q.known (slice_index s.words (place_of (address_of (entry_of h.behind.run x.known.thread).op)))).outcome ≤ claims_known q.known + 1) y_is
              (members_known p l s.words (h.epoch ∷ h.acks) h.behind x.known known_x (slice_index s.words (place_of (address_of (entry_of h.behind.run x.known.thread).op))) found),
        )

-- ---- by a seat

-- a seat that stands for one worker may make its thread's next operation
pub may_step : (p : Program) (l : Layout) (id : TableId) (seat : ℕ) (x : WorkerPart) (me : Seated Part) (o : Op)
    → me ≡ (part.Worker x ∷ [], []) → o ≡ next_of x.known.program x.known.layout.table (actor_known x.known)
    → MayStep x → length x.known.found < MOST_BUDGET
    → image_words x.known.layout.table ≤ id.words → MayApply (Keeps p l) id seat me o stepped
may_step p l id seat x me o knows is_next may few count = record {
  above = subst (λ (q : Op). FIRST_ADDRESS ≤ address_of q) (sym is_next) may.able.above;
  inside =
      let below = may.able.inside in
      subst (λ (q : Op). place_of (address_of q) < id.words) (sym is_next) (omega (arith, below, count));
  allows = λ st.
      subst (λ (m : Seated Part). Allows (Keeps p l) id.slots seat m (place_of (address_of o)) (left_of o) (stepped st m)) (sym knows)
      (step_allowed p l id.slots seat x st may few o is_next);
}

-- what it has learnt
pub record HasFound (x : WorkerPart) (n : ℕ) (me : Seated Part) : Type 0 where
  pub knows : me ≡ (part.Worker (makes n x) ∷ [], [])
  pub seats : seats_of (entry_known x.known n).outcome ≤ claims_known x.known + 1

pub has_found : (me : Seated Part) (n : ℕ) (after : Seated Part) → WasTold stepped me n after → (x : WorkerPart)
    → me ≡ (part.Worker x ∷ [], []) → HasFound x n after
has_found me n after told x is =
    let here = told.1 x (ap (λ (m : Seated Part). m.0) is) in
    record { knows = here.0; seats = here.1 }
