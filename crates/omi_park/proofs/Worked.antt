-- What a worker's load of the epoch and its acknowledgement keep.
use Rattle.std.proofs.Common.{◌≡◌, ◌≢◌, inl, inr, ◌≤◌, ◌==◌, ◌+◌, ◌/◌, ℕ, Bool, true, false, List, [], ◌∷◌, length, slice_get, slice_index, slice_set, Some, refl, sym, ap, ◌∙◌, subst, arith, eqb-true, eq-eqb}
use mathlib.Core.Option.{some}
use lib.ListN.{get_elem?}
use Rattle.std.proofs.lemmas.List.{length-set}
use Rattle.atomic_table.specs.Table.{Allows, State, Step, keeps, stepped as state_after}
use Rattle.omi_script.specs.declared.program.Program.{Program}
use Rattle.omi_layout.specs.declared.layout.Layout.{Layout}
use Rattle.omi_layout.specs.Place.{image_words}
use Rattle.omi_core.specs.Steps.{steps_of}
use Rattle.omi_seat.specs.declared.limits.TheConstants.{MOST_BUDGET}
use Rattle.omi_seat.specs.Behind.{CanStep}
use Rattle.omi_seat.specs.Known.{actor_known}
use Rattle.omi_seat.proofs.Learnt.{steps_found}
use Rattle.omi_seat.proofs.Seats.{one_changed, own_part}
use Rattle.omi_seat.proofs.Stepped.{can_step}
use Rattle.omi_park.specs.declared.known.Part.{Part}
use Rattle.omi_park.specs.declared.known.Part.TheVariants as part
use Rattle.omi_park.specs.declared.known.WorkerPart.{WorkerPart}
use Rattle.omi_park.specs.declared.limits.TheConstants.{HALF, LAST_EPOCH}
use Rattle.omi_park.specs.Acknowledged.{HasLeft, HasNotBegun, IsOdd, IsParkedIn, IsRunning, IsStill, Stays, steps_said}
use Rattle.omi_park.specs.Plays.{loaded, loads, said, says}
use Rattle.omi_park.specs.Running.{HasSaid, IsInspector, IsPart, IsSaid, IsWorker, Keeps, number_of, staying, waiting}
use Rattle.omi_park.specs.Work.{HasBegun, IsLoose, MaySay, MayStep, leaves, parks, tells}
use Rattle.omi_park.proofs.Kept.{Now, ack_set, epoch_found, image, loaded_on, reseated, run_with}
use Rattle.omi_list.proofs.Places.{one_value, set_here, set_there}
use Rattle.omi_park.proofs.Parts.{worker_is}
use Rattle.omi_park.proofs.Words.{left_now, left_steps, parked_begun, parked_half, parked_steps, runs_begun, runs_free, runs_now, runs_on}

-- a worker that may step is neither parked nor has it left
pub loose_of : (x : WorkerPart) → MayStep x → IsLoose x
loose_of x may = record {
  stays = may.stays;
  runs = λ epoch loaded parked.
      may.even (subst IsOdd (one_value x.loaded epoch may.epoch loaded may.loaded) parked.0);
}

module _ (p : Program) (l : Layout) (s : State (Unit {0}) (List Part)) (h : Keeps p l s) (id : ℕ)
    (x : WorkerPart) (at : get_elem? s.views id ≡ some (part.Worker x ∷ [])) where
  abbrev pub thread : ℕ
  thread = x.known.thread

  pub worker : IsWorker p l h.behind.keeps.entries h.behind.run.actors h.epoch h.acks h.inspector.seen x
  worker = own_part number_of (Now p l s h h.inspector) (Now p l s h h.inspector) s.views h.seats id (part.Worker x) at

  -- a part of another worker, whose number is its thread's and one more
  pub other_thread : (z : WorkerPart) → number_of (part.Worker z) ≢ number_of (part.Worker x) → z.known.thread ≢ thread
  other_thread z other same = other (ap (λ n. n + 1) same)

  -- ---- a worker that may step is not still, and has not been seen

  not_staying : IsLoose x → Stays h.epoch x.said → ⊥
  not_staying loose (inl left) = loose.stays left
  not_staying loose (inr parked) = loose.runs h.epoch (worker.parked parked) parked

  -- what was seen of one that is neither parked nor has left does not stay
  pub none_stays : IsLoose x → (n : ℕ) → slice_get h.acks thread ≡ Some n → Stays h.epoch n → ⊥
  none_stays loose n got stays =
      not_staying loose (subst (Stays h.epoch) (one_value (slice_get h.acks thread) n x.said got worker.said) stays)

  pub not_still : MayStep x → IsStill h.epoch x.said → ⊥
  not_still may (inl none) = may.begun none
  not_still may (inr stays) = not_staying (loose_of x may) stays

  pub not_seen : MayStep x → (n : ℕ) → slice_get h.inspector.seen thread ≡ Some n → ⊥
  not_seen may n got = go (h.inspects.seen thread n got)
    where
      go : HasSaid h.behind.keeps.entries h.epoch h.acks thread n → ⊥
      go (waiting none odd steps) =
          may.even (subst IsOdd (sym (worker.waits n may.epoch got none may.loaded)) odd)
      go (staying here stays) = none_stays (loose_of x may) n here stays

  -- ---- it loads the epoch

  loads_worker : HasBegun x
      → IsWorker p l h.behind.keeps.entries h.behind.run.actors h.epoch h.acks h.inspector.seen (loads h.epoch x)
  loads_worker begun = record {
    known = worker.known;
    said = worker.said;
    loaded = λ n is. let same : h.epoch ≡ n = one_value (Some h.epoch) h.epoch n refl is in omega (arith, same);
    begins = λ none. absurd (begun none);
    parked = λ parked. refl;
    waits = λ word n got none is. sym (one_value (Some h.epoch) h.epoch n refl is);
  }

  load_others : (z : Part) → number_of z ≢ number_of (part.Worker x) → Now p l s h h.inspector z
      → Now p l s h h.inspector z
  load_others z other is = is

  pub keeps_load : HasBegun x
      → Keeps p l (state_after s (image_words l.table) (slice_index s.words (image_words l.table)) id [] (part.Worker (loads h.epoch x) ∷ []) keeps)
  keeps_load begun =
      loaded_on p l s h (image_words l.table) id (part.Worker (loads h.epoch x) ∷ [])
      (reseated p l s h h.inspector (slice_set s.views id (part.Worker (loads h.epoch x) ∷ [])) h.inspects
      (one_changed number_of (Now p l s h h.inspector) (Now p l s h h.inspector) s.views h.seats id (part.Worker x) at
      (part.Worker (loads h.epoch x)) refl (loads_worker begun) load_others))

  -- ---- it stores its acknowledgement

  module _ (word : ℕ) (loose : IsLoose x) where
    abbrev acks : List ℕ
    acks = slice_set h.acks thread word

    said_here : slice_get acks thread ≡ Some word
    said_here = set_here h.acks thread x.said word worker.said

    said_there : (k : ℕ) → k ≢ thread → slice_get acks k ≡ slice_get h.acks k
    said_there k other = set_there h.acks thread k word other

    -- what the others' words say stands
    all_said : IsSaid h.behind.keeps.entries h.epoch thread word → (k n : ℕ) → slice_get acks k ≡ Some n
        → IsSaid h.behind.keeps.entries h.epoch k n
    all_said own k n got = go (k == thread) refl
      where
        go : (b : Bool) → k == thread ≡ b → IsSaid h.behind.keeps.entries h.epoch k n
        go true same =
            let at_own : k ≡ thread = eqb-true k thread same in
            let n_is : word ≡ n = one_value (slice_get acks thread) word n said_here (ap (slice_get acks) (sym at_own) ∙ got) in
            subst (λ (z : ℕ × ℕ). IsSaid h.behind.keeps.entries h.epoch z.0 z.1) (λ j. (sym at_own j, n_is j)) own
        go false not =
            h.said k n
            (sym (said_there k (λ same. let yes : k == thread ≡ true = eq-eqb k thread same in cc (not, yes))) ∙ got)

    still_inspects : IsInspector p l h.behind.keeps.entries h.epoch (image p l s h) acks h.inspector
    still_inspects = record {
      current = h.inspects.current;
      seen = λ k n got. still_seen k n (h.inspects.seen k n got);
      all = h.inspects.all;
      held = h.inspects.held;
      stops = h.inspects.stops;
    }
      where
        still_seen : (k n : ℕ) → HasSaid h.behind.keeps.entries h.epoch h.acks k n
            → HasSaid h.behind.keeps.entries h.epoch acks k n
        still_seen k n (waiting none odd steps) = waiting none odd steps
        still_seen k n (staying here stays) =
            staying (said_there k (λ same. none_stays loose n (ap (slice_get h.acks) (sym same) ∙ here) stays) ∙ here) stays

    abbrev SaidNow : Part → Type 0
    SaidNow = IsPart p l h.behind.keeps.entries h.behind.run.actors h.epoch acks h.inspector

    said_others : (z : Part) → number_of z ≢ number_of (part.Worker x) → Now p l s h h.inspector z → SaidNow z
    said_others (part.Worker z) other is = record {
      known = is.known;
      said = said_there z.known.thread (other_thread z other) ∙ is.said;
      loaded = is.loaded;
      begins = is.begins;
      parked = is.parked;
      waits = is.waits;
    }
    said_others (part.Inspector i) other is = is

    keeps_word : IsSaid h.behind.keeps.entries h.epoch thread word → (IsParkedIn h.epoch word → x.loaded ≡ Some h.epoch)
        → (HasNotBegun word → ⊥)
        → Keeps p l (state_after s (image_words l.table + 1 + thread) word id [] (part.Worker (says word x) ∷ []) keeps)
    keeps_word own parked begun = record {
      epoch = h.epoch;
      last = h.last;
      acks = acks;
      many = length-set h.acks thread word ∙ h.many;
      behind = run_with p l s h _ (h.epoch ∷ acks) (ack_set p l s h thread word);
      said = all_said own;
      inspector = h.inspector;
      inspects = still_inspects;
      seats =
          one_changed number_of (Now p l s h h.inspector) SaidNow s.views h.seats id (part.Worker x) at (part.Worker (says word x)) refl
          record {
            known = worker.known;
            said = said_here;
            loaded = worker.loaded;
            begins = λ none. absurd (begun none);
            parked = parked;
            waits = worker.waits;
          }
          said_others;
    }

    steps_here : length x.known.found ≡ length (steps_of thread h.behind.keeps.entries)
    steps_here = sym (steps_found x.known) ∙ ap length (sym worker.known.steps)

    may_say : length x.known.found ≤ MOST_BUDGET → MaySay word x
        → IsSaid h.behind.keeps.entries h.epoch thread word × (IsParkedIn h.epoch word → x.loaded ≡ Some h.epoch)
        × (HasNotBegun word → ⊥)
    may_say few (tells none word_is) =
        let runs : IsRunning word = subst IsRunning (sym word_is) (runs_now 0 (length x.known.found) few) in (
          record {
            steps = λ still. absurd (runs_on word runs h.epoch h.last still);
            past = inr (inl runs);
          },
          (λ parked. absurd (runs_free word runs h.epoch h.last parked)),
          runs_begun word runs,
        )
    may_say few (parks epoch is odd last word_is) =
        let half : word / HALF ≡ epoch = ap (λ n. n / HALF) word_is ∙ parked_half epoch (length x.known.found) few in
        let before = worker.loaded epoch is in (
          record {
            steps = λ still. ap steps_said word_is ∙ parked_steps epoch (length x.known.found) few ∙ steps_here;
            past = inr (inr (omega (arith, half, before)));
          },
          (λ parked. is ∙ ap (λ (n : ℕ). Some n) (sym half ∙ parked.1)),
          (λ none. parked_begun epoch (length x.known.found) few odd (sym word_is ∙ none)),
        )
    may_say few (leaves none word_is) =
        let left : HasLeft word = subst HasLeft (sym word_is) (left_now 0 (length x.known.found) few) in (
          record {
            steps = λ still. ap steps_said word_is ∙ left_steps 0 (length x.known.found) few ∙ steps_here;
            past = inl left;
          },
          (λ parked. absurd (left_is_not_parked left parked)),
          (λ none. let top = left in omega (arith, top, none)),
        )
      where
        left_is_not_parked : HasLeft word → IsParkedIn h.epoch word → ⊥
        left_is_not_parked left parked =
            let half = parked.1 in
            let last = h.last in
            let top = left in
            omega (arith, half, last, top)

    pub keeps_said : length x.known.found ≤ MOST_BUDGET → MaySay word x
        → Keeps p l (state_after s (image_words l.table + 1 + thread) word id [] (part.Worker (says word x) ∷ []) keeps)
    keeps_said few may = let own = may_say few may in keeps_word own.0 own.1 own.2

-- whatever the table is, a load of the epoch keeps the rule, and the worker learns that its thread may step
pub load_allowed : (p : Program) (l : Layout) (slots id : ℕ) (x : WorkerPart) (st : Step (Unit {0})) → HasBegun x
    → Allows (Keeps p l) slots id (part.Worker x ∷ [], []) (image_words l.table) (λ n. n)
    (loaded st (part.Worker x ∷ [], []))
load_allowed p l slots id x st begun s h homes at small = (
  part.Worker (loads h.epoch x) ∷ [],
  keeps,
  tt,
  keeps_load p l s h id x at begun,
  (λ y same.
      let y_is : x ≡ y = worker_is x y same in
      let found = epoch_found p l s h in
      let was = worker p l s h id x at in (
        (λ k. (part.Worker (loads (sym found k) (y_is k)) ∷ [], [])),
        subst (λ n. n ≤ LAST_EPOCH) (sym found) h.last,
        subst (λ (z : ℕ × WorkerPart). IsParkedIn z.0 z.1.said → z.1.loaded ≡ Some z.0) (λ k. (sym found k, y_is k)) was.parked,
        subst (λ (q : WorkerPart). CanStep q.known.program q.known.layout.table (actor_known q.known)) y_is
            (can_step p l s.words (h.epoch ∷ h.acks) h.behind x.known was.known),
      )),
)

-- a worker that is neither parked nor has left may store its acknowledgement
pub say_allowed : (p : Program) (l : Layout) (slots id : ℕ) (x : WorkerPart) (word : ℕ) (st : Step (Unit {0}))
    → IsLoose x → length x.known.found ≤ MOST_BUDGET → MaySay word x
    → Allows (Keeps p l) slots id (part.Worker x ∷ [], []) (image_words l.table + 1 + x.known.thread) (λ _. word)
    (λ _. said st (part.Worker x ∷ [], []) word)
say_allowed p l slots id x word st loose few may s h homes at small = (
  part.Worker (says word x) ∷ [],
  keeps,
  tt,
  keeps_said p l s h id x at word loose few may,
  (λ y same. λ k. (part.Worker (says word (worker_is x y same k)) ∷ [], [])),
)
