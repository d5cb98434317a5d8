-- What the inspector's operations keep: its calls, its looks at acknowledgements, its copies of words, and the end of its stops.
use Rattle.std.proofs.Common.{◌≡◌, ◌≢◌, ◌⊎◌, inl, inr, ◌<◌, ◌≤◌, ◌+◌, ◌/◌, ◌++◌, ℕ, Bool, true, false, List, [], ◌∷◌, length, map, slice_get, slice_index, slice_set, Some, refl, sym, ap, ◌∙◌, subst, arith, ⊎_elim, if◌then◌else◌}
use mathlib.Core.Option.{some}
use lib.ListN.{get_elem?}
use Rattle.std.proofs.lemmas.List.{ext_get_or, length-map}
use Rattle.std.proofs.lemmas.Option.{get_or_from_slice_get}
use Rattle.atomic_table.specs.Table.{Allows, State, Step, keeps, stepped as state_after}
use Rattle.omi_script.specs.declared.program.Program.{Program}
use Rattle.omi_layout.specs.declared.layout.Layout.{Layout}
use Rattle.omi_layout.specs.Place.{image_words}
use Rattle.omi_core.specs.Steps.{steps_of}
use Rattle.omi_seat.proofs.Behind.{events_reach, has_tables, image_shows, steps_made}
use Rattle.omi_seat.proofs.Lists.{get_more}
use Rattle.omi_seat.proofs.Seats.{one_changed, own_part}
use Rattle.omi_park.specs.declared.known.InspectorPart.{InspectorPart}
use Rattle.omi_park.specs.declared.known.Part.{Part}
use Rattle.omi_park.specs.declared.known.Part.TheVariants as part
use Rattle.omi_park.specs.declared.known.WorkerPart.{WorkerPart}
use Rattle.omi_park.specs.declared.limits.TheConstants.{HALF, LAST_EPOCH}
use Rattle.omi_park.specs.Acknowledged.{HasLeft, HasNotBegun, IsOdd, IsParkedIn, IsRunning, IsStill, is_still, steps_said}
use Rattle.omi_park.specs.Parked.{IsStop}
use Rattle.omi_park.specs.Plays.{called, calls, copied, copies, let_go, lets_go, seen, sees, stop_of}
use Rattle.omi_park.specs.Running.{HasSaid, IsInspector, IsPart, IsSaid, IsWorker, Keeps, number_of, staying, waiting}
use Rattle.omi_park.proofs.Kept.{Now, ack_found, epoch_set, image, loaded_on, long, reseated, run_with, word_found}
use Rattle.omi_list.proofs.Places.{mapped_from, never_some, none_at, one_value, place_there}
use Rattle.omi_park.proofs.Parts.{inspector_is}
use Rattle.omi_park.proofs.Words.{runs_free, still_is}
use Rattle.omi_park.proofs.Stops.{stop_more}

-- a part that is in no empty list
nowhere : {X : Type 0} → (k : ℕ) (x : X) → slice_get [] k ≡ Some x → ⊥
nowhere k x got = none_at [] k x refl got

none_is : {X : Type 0} → (xs : List X) → length xs ≡ 0 → xs ≡ []
none_is [] none = refl
none_is (x ∷ xs) none = absurd (omega (arith, none))

module _ (p : Program) (l : Layout) (s : State (Unit {0}) (List Part)) (h : Keeps p l s) (id : ℕ)
    (i : InspectorPart) (at : get_elem? s.views id ≡ some (part.Inspector i ∷ [])) where
  own : i ≡ h.inspector
  own = own_part number_of (Now p l s h h.inspector) (Now p l s h h.inspector) s.views h.seats id (part.Inspector i) at

  pub inspects : IsInspector p l h.behind.keeps.entries h.epoch (image p l s h) h.acks i
  inspects =
      subst (λ (j : InspectorPart). IsInspector p l h.behind.keeps.entries h.epoch (image p l s h) h.acks j)
      (sym own) h.inspects

  -- ---- a load: the inspector is another one, and the words stay

  abbrev IsWorkerNow : List ℕ → WorkerPart → Type 0
  IsWorkerNow seen = IsWorker p l h.behind.keeps.entries h.behind.run.actors h.epoch h.acks seen

  -- a worker that was seen before it began has loaded no epoch before this one
  abbrev Wait : List ℕ → Type 0
  Wait seen = (z : WorkerPart) → IsWorkerNow h.inspector.seen z → (word n : ℕ)
      → slice_get seen z.known.thread ≡ Some word → HasNotBegun word → z.loaded ≡ Some n → n ≡ h.epoch

  pub wait_still : Wait i.seen
  wait_still z is word n got =
      is.waits word n (ap (λ (j : InspectorPart). slice_get j.seen z.known.thread) (sym own) ∙ got)

  load_others : (j : InspectorPart) → Wait j.seen → (z : Part) → number_of z ≢ 0 → Now p l s h h.inspector z
      → Now p l s h j z
  load_others j wait (part.Worker z) other is = record {
    known = is.known;
    said = is.said;
    loaded = is.loaded;
    begins = is.begins;
    parked = is.parked;
    waits = wait z is;
  }
  load_others j wait (part.Inspector z) other is = absurd (other refl)

  pub keeps_look : (k : ℕ) (j : InspectorPart)
      → IsInspector p l h.behind.keeps.entries h.epoch (image p l s h) h.acks j → Wait j.seen
      → Keeps p l (state_after s k (slice_index s.words k) id [] (part.Inspector j ∷ []) keeps)
  keeps_look k j is wait =
      loaded_on p l s h k id (part.Inspector j ∷ [])
      (reseated p l s h j (slice_set s.views id (part.Inspector j ∷ [])) is
      (one_changed number_of (Now p l s h h.inspector) (Now p l s h j) s.views h.seats id (part.Inspector i) at
      (part.Inspector j) refl refl (load_others j wait)))

  -- ---- a store of the next epoch

  -- no word is of a later epoch
  none_later : (k word : ℕ) → slice_get h.acks k ≡ Some word → (n : ℕ) → n ≡ h.epoch + 1 → n ≤ LAST_EPOCH
      → IsParkedIn n word → ⊥
  none_later k word got n next last parked = go (h.said k word got).past
    where
      go : HasLeft word ⊎ (IsRunning word ⊎ (word / HALF ≤ h.epoch)) → ⊥
      go (inl left) = let half = parked.1 in let top = left in omega (arith, half, top, last)
      go (inr (inl runs)) = runs_free word runs n last parked
      go (inr (inr past)) = let half = parked.1 in omega (arith, half, past, next)

  module _ (n : ℕ) (next : n ≡ h.epoch + 1) (last : n ≤ LAST_EPOCH) where
    still_said : (k word : ℕ) → slice_get h.acks k ≡ Some word → IsSaid h.behind.keeps.entries n k word
    still_said k word got =
        let was = h.said k word got in record { steps = λ still. was.steps (before still); past = later was.past }
      where
        before : IsStill n word → IsStill h.epoch word
        before (inl none) = inl none
        before (inr (inl left)) = inr (inl left)
        before (inr (inr parked)) = absurd (none_later k word got n next last parked)

        later : HasLeft word ⊎ (IsRunning word ⊎ (word / HALF ≤ h.epoch)) → HasLeft word ⊎ (IsRunning word ⊎ (word / HALF ≤ n))
        later (inl left) = inl left
        later (inr (inl runs)) = inr (inl runs)
        later (inr (inr past)) = inr (inr (omega (arith, past, next)))

    epoch_others : (j : InspectorPart) → j.seen ≡ [] → (z : Part) → number_of z ≢ 0 → Now p l s h h.inspector z
        → IsPart p l h.behind.keeps.entries h.behind.run.actors n h.acks j z
    epoch_others j none (part.Worker z) other is = record {
      known = is.known;
      said = is.said;
      loaded = λ e loaded. let before = is.loaded e loaded in omega (arith, before, next);
      begins = is.begins;
      parked = λ parked. absurd (none_later z.known.thread z.said is.said n next last parked);
      waits = λ word e got. absurd (none_at j.seen z.known.thread word none got);
    }
    epoch_others j none (part.Inspector z) other is = absurd (other refl)

    pub keeps_epoch : (j : InspectorPart)
        → IsInspector p l h.behind.keeps.entries n (image p l s h) h.acks j → j.seen ≡ []
        → Keeps p l (state_after s (image_words l.table) n id [] (part.Inspector j ∷ []) keeps)
    keeps_epoch j is none = record {
      epoch = n;
      last = last;
      acks = h.acks;
      many = h.many;
      behind = run_with p l s h _ (n ∷ h.acks) (epoch_set p l s h n);
      said = still_said;
      inspector = j;
      inspects = is;
      seats =
          one_changed number_of (Now p l s h h.inspector)
          (IsPart p l h.behind.keeps.entries h.behind.run.actors n h.acks j) s.views h.seats id
          (part.Inspector i) at (part.Inspector j) refl refl (epoch_others j none);
    }

  -- ---- it calls

  pub calls_on : i.seen ≡ [] → i.copied ≡ []
      → IsInspector p l h.behind.keeps.entries (i.epoch + 1) (image p l s h) h.acks (calls i)
  calls_on none_seen none_copied = record {
    current = refl;
    seen = λ k n got. absurd (none_at i.seen k n none_seen got);
    all = λ k n got. absurd (none_at i.copied k n none_copied got);
    held = λ k n got. absurd (none_at i.copied k n none_copied got);
    stops = inspects.stops;
  }

  -- ---- it sees an acknowledgement

  -- what it says: its worker waits, or the word stays
  said_now : IsOdd h.epoch → (k word : ℕ) → slice_get h.acks k ≡ Some word → IsStill h.epoch word
      → HasSaid h.behind.keeps.entries h.epoch h.acks k word
  said_now odd k word got (inl none) =
      let none_made = (h.said k word got).steps (inl none) in
      waiting none odd
      (none_is (steps_of k h.behind.keeps.entries) (sym none_made ∙ ap steps_said none))
  said_now odd k word got (inr stays) = staying got stays

  seen_more : IsOdd h.epoch → i.copied ≡ [] → (word : ℕ) → slice_get h.acks (length i.seen) ≡ Some word
      → IsStill h.epoch word
      → IsInspector p l h.behind.keeps.entries h.epoch (image p l s h) h.acks (record i { seen = i.seen ++ word ∷ [] })
  seen_more odd none_copied word got still = record {
    current = inspects.current;
    seen = λ k n there. ⊎_elim (inspects.seen k n)
        (λ here. subst (λ (z : ℕ × ℕ). HasSaid h.behind.keeps.entries h.epoch h.acks z.0 z.1)
        (λ j. (sym here.0 j, here.1 j)) (said_now odd (length i.seen) word got still))
        (get_more i.seen word n k there);
    all = λ k n there. absurd (none_at i.copied k n none_copied there);
    held = λ k n there. absurd (none_at i.copied k n none_copied there);
    stops = inspects.stops;
  }

  -- a worker that has not begun has loaded no epoch
  wait_more : (word : ℕ) → slice_get h.acks (length i.seen) ≡ Some word → Wait (i.seen ++ word ∷ [])
  wait_more word got z is last n there none loaded =
      ⊎_elim (λ before. wait_still z is last n before none loaded) (λ here. absurd (begins here))
      (get_more i.seen word last z.known.thread there)
    where
      begins : (z.known.thread ≡ length i.seen) × (word ≡ last) → ⊥
      begins here =
          let said : z.said ≡ word =
          one_value (slice_get h.acks z.known.thread) z.said word is.said (ap (slice_get h.acks) here.0 ∙ got) in
          never_some z.loaded n (is.begins (said ∙ here.1 ∙ none)) loaded

  pub sees_on : IsOdd i.epoch → i.copied ≡ [] → (word : ℕ) → slice_get h.acks (length i.seen) ≡ Some word
      → IsInspector p l h.behind.keeps.entries h.epoch (image p l s h) h.acks (sees word i) × Wait (sees word i).seen
  sees_on odd none_copied word got = go (is_still i.epoch word) refl
    where
      Is : InspectorPart → Type 0
      Is j = IsInspector p l h.behind.keeps.entries h.epoch (image p l s h) h.acks j × Wait j.seen

      more : InspectorPart
      more = record i { seen = i.seen ++ word ∷ [] }

      go : (a : Bool) → is_still i.epoch word ≡ a → Is (if is_still i.epoch word then more else i)
      go true still =
          subst (λ (c : Bool). Is (if c then more else i)) (sym still) (
            seen_more (subst IsOdd inspects.current odd) none_copied word got
                (subst (λ e. IsStill e word) inspects.current (still_is i.epoch word odd still)),
            wait_more word got,
          )
      go false not = subst (λ (c : Bool). Is (if c then more else i)) (sym not) (inspects, wait_still)

  -- ---- it copies a word

  pub copies_on : length i.seen ≡ p.threads → length i.copied < image_words l.table
      → IsInspector p l h.behind.keeps.entries h.epoch (image p l s h) h.acks
      (copies (slice_index s.words (length i.copied)) i)
  copies_on all below = record {
    current = inspects.current;
    seen = inspects.seen;
    all = λ k n there. all;
    held = λ k n there. ⊎_elim (inspects.held k n)
        (λ here. ap (slice_index (image p l s h)) here.0
        ∙ sym (word_found p l s h (length i.copied) below) ∙ here.1)
        (get_more i.copied (slice_index s.words (length i.copied)) n k there);
    stops = inspects.stops;
  }

  -- ---- the stop is over

  copied_is : length i.copied ≡ image_words l.table → i.copied ≡ image p l s h
  copied_is whole =
      ext_get_or 0 i.copied (image p l s h) (whole ∙ sym (long p l s h))
      (λ k below.
      let there = place_there i.copied k below in
      get_or_from_slice_get i.copied k there.0 0 there.1 ∙ sym (inspects.held k there.0 there.1))

  counts_are : (k n : ℕ) → slice_get (map steps_said i.seen) k ≡ Some n
      → n ≡ length (steps_of k h.behind.keeps.entries)
  counts_are k n got =
      let there = mapped_from steps_said i.seen k n got in
      sym there.2 ∙ said_of there.0 (inspects.seen k there.0 there.1)
    where
      said_of : (word : ℕ) → HasSaid h.behind.keeps.entries h.epoch h.acks k word
          → steps_said word ≡ length (steps_of k h.behind.keeps.entries)
      said_of word (waiting none odd steps) = ap steps_said none ∙ sym (ap length steps)
      said_of word (staying here stays) = (h.said k word here).steps (inr stays)

  pub is_stop : length i.seen ≡ p.threads → length i.copied ≡ image_words l.table
      → IsStop p l h.behind.keeps.entries (stop_of i)
  is_stop all whole =
      let same = copied_is whole in
      record {
        state = h.behind.keeps.state;
        steps = steps_made p l s.words (h.epoch ∷ h.acks) h.behind i.copied same;
        reached = events_reach p l s.words (h.epoch ∷ h.acks) h.behind i.copied same;
        tables = has_tables p l s.words (h.epoch ∷ h.acks) h.behind i.copied same;
        shows = image_shows p l s.words (h.epoch ∷ h.acks) h.behind i.copied same;
        threads = length-map i.seen steps_said ∙ all;
        counts = counts_are;
      }

  pub lets_go_on : length i.seen ≡ p.threads → length i.copied ≡ image_words l.table
      → IsInspector p l h.behind.keeps.entries (i.epoch + 1) (image p l s h) h.acks (lets_go i)
  lets_go_on all whole = record {
    current = refl;
    seen = λ k n got. absurd (nowhere k n got);
    all = λ k n got. absurd (nowhere k n got);
    held = λ k n got. absurd (nowhere k n got);
    stops = stop_more p l 0 h.behind.keeps.entries (stop_of i) i.stops (omega arith) (is_stop all whole) inspects.stops;
  }

-- ---- what is allowed

-- whatever the table is, between two stops it may call
pub call_allowed : (p : Program) (l : Layout) (slots id : ℕ) (i : InspectorPart) (st : Step (Unit {0}))
    → i.seen ≡ [] → i.copied ≡ [] → i.epoch < LAST_EPOCH
    → Allows (Keeps p l) slots id (part.Inspector i ∷ [], []) (image_words l.table) (λ _. i.epoch + 1)
    (λ _. called st (part.Inspector i ∷ [], []) (i.epoch + 1))
call_allowed p l slots id i st none_seen none_copied last s h homes at small = (
  part.Inspector (calls i) ∷ [],
  keeps,
  tt,
  keeps_epoch p l s h id i at (i.epoch + 1) (ap (λ n. n + 1) (inspects p l s h id i at).current) (omega (arith, last))
      (calls i) (calls_on p l s h id i at none_seen none_copied) none_seen,
  (λ j same. λ k. (part.Inspector (calls (inspector_is i j same k)) ∷ [], [])),
)

-- it may look at the acknowledgement of the next worker
pub see_allowed : (p : Program) (l : Layout) (slots id : ℕ) (i : InspectorPart) (st : Step (Unit {0}))
    → IsOdd i.epoch → i.copied ≡ [] → length i.seen < p.threads
    → Allows (Keeps p l) slots id (part.Inspector i ∷ [], []) (image_words l.table + 1 + length i.seen) (λ n. n)
    (seen st (part.Inspector i ∷ [], []))
see_allowed p l slots id i st odd none_copied below s h homes at small =
    let many = h.many in
    let there = place_there h.acks (length i.seen) (omega (arith, below, many)) in
    let found = ack_found p l s h (length i.seen) there.0 there.1 in
    let sees_now =
    sees_on p l s h id i at odd none_copied (slice_index s.words (image_words l.table + 1 + length i.seen))
    (there.1 ∙ ap (λ (n : ℕ). Some n) (sym found)) in (
      part.Inspector (sees (slice_index s.words (image_words l.table + 1 + length i.seen)) i) ∷ [],
      keeps,
      tt,
      keeps_look p l s h id i at (image_words l.table + 1 + length i.seen) (sees (slice_index s.words (image_words l.table + 1 + length i.seen)) i)
          sees_now.0 sees_now.1,
      (λ j same. λ k. (part.Inspector (sees (slice_index s.words (image_words l.table + 1 + length i.seen)) (inspector_is i j same k)) ∷ [], [])),
    )

-- once it has seen all, it may copy the next word
pub copy_allowed : (p : Program) (l : Layout) (slots id : ℕ) (i : InspectorPart) (st : Step (Unit {0}))
    → length i.seen ≡ p.threads → length i.copied < image_words l.table
    → Allows (Keeps p l) slots id (part.Inspector i ∷ [], []) (length i.copied) (λ n. n)
    (copied st (part.Inspector i ∷ [], []))
copy_allowed p l slots id i st all below s h homes at small = (
  part.Inspector (copies (slice_index s.words (length i.copied)) i) ∷ [],
  keeps,
  tt,
  keeps_look p l s h id i at (length i.copied) (copies (slice_index s.words (length i.copied)) i)
      (copies_on p l s h id i at all below) (wait_still p l s h id i at),
  (λ j same. λ k. (part.Inspector (copies (slice_index s.words (length i.copied)) (inspector_is i j same k)) ∷ [], [])),
)

-- and once it has copied all, it may let the workers go
pub go_allowed : (p : Program) (l : Layout) (slots id : ℕ) (i : InspectorPart) (st : Step (Unit {0}))
    → length i.seen ≡ p.threads → length i.copied ≡ image_words l.table → i.epoch < LAST_EPOCH
    → Allows (Keeps p l) slots id (part.Inspector i ∷ [], []) (image_words l.table) (λ _. i.epoch + 1)
    (λ _. let_go st (part.Inspector i ∷ [], []) (i.epoch + 1))
go_allowed p l slots id i st all whole last s h homes at small = (
  part.Inspector (lets_go i) ∷ [],
  keeps,
  tt,
  keeps_epoch p l s h id i at (i.epoch + 1) (ap (λ n. n + 1) (inspects p l s h id i at).current) (omega (arith, last))
      (lets_go i) (lets_go_on p l s h id i at all whole) refl,
  (λ j same. λ k. (part.Inspector (lets_go (inspector_is i j same k)) ∷ [], [])),
)
