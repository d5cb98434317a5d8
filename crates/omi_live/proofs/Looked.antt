-- A look at the stop word, and its raising, keep the rule of the table.
use Rattle.std.proofs.Common.{◌≡◌, inl, inr, ◌≤◌, ◌==◌, ◌||◌, ◌++◌, ℕ, zero, suc, Bool, true, false, List, [], ◌∷◌, length, slice_set, slice_index, refl, sym, ap, ◌∙◌, subst, arith, eqb-true, Option}
use mathlib.Core.Option.{some}
use lib.ListN.{get_elem?}
use Rattle.std.proofs.Math.Seq.{get_or-append_seam, set-append_seam}
use Rattle.std.proofs.lemmas.List.{append-nil}
use Rattle.atomic_table.specs.Table.{Allows, State, Step, keeps, stepped as state_after}
use Rattle.omi_word.specs.Memory.{address_at, place_of}
use Rattle.omi_word.proofs.Addresses.{place-address}
use Rattle.omi_script.specs.declared.program.Program.{Program}
use Rattle.omi_layout.specs.declared.layout.Layout.{Layout}
use Rattle.omi_layout.specs.Place.{image_words}
use Rattle.omi_core.specs.declared.stop.Break.{Break}
use Rattle.omi_seat.specs.Behind.{CanStep, HasRun}
use Rattle.omi_seat.specs.Known.{actor_known, steps_known}
use Rattle.omi_seat.proofs.Seats.{head_is, one_changed}
use Rattle.omi_seat.proofs.Stepped.{can_step, image_long}
use Rattle.omi_live.specs.declared.known.Access.{Access}
use Rattle.omi_live.specs.declared.known.Access.TheVariants as access
use Rattle.omi_live.specs.declared.known.Part.{Part}
use Rattle.omi_live.specs.Plays.{looked, looks, raised, raises}
use Rattle.omi_live.specs.Accesses.{stop_word}
use Rattle.omi_seat.specs.Stops.{some_stop}
use Rattle.omi_live.specs.Running.{IsPart, IsStopWord, Keeps, thread_of}
use Rattle.omi_live.proofs.Operated.{one_more_access, other_did, own_did, part}

module _ (p : Program) (l : Layout) (on : Option Break) (s : State (Unit {0}) (List Part))
    (h : Keeps p l on s) (id : ℕ) (x : Part) (at : get_elem? s.views id ≡ some (x ∷ [])) where
  -- where the stop word stands
  stop_at : image_words l.table ≡ length h.behind.run.words
  stop_at = sym (image_long p l s.words (h.stop ∷ []) h.behind)

  pub stop_found : slice_index s.words (image_words l.table) ≡ h.stop
  stop_found =
      ap (λ (ws : List ℕ). slice_index ws (image_words l.table)) h.behind.are
      ∙ ap (λ i. slice_index (h.behind.run.words ++ h.stop ∷ []) i) stop_at
      ∙ get_or-append_seam h.behind.run.words h.stop [] 0

  stop_set : (n : ℕ) → slice_set s.words (image_words l.table) n ≡ h.behind.run.words ++ n ∷ []
  stop_set n =
      ap (λ (ws : List ℕ). slice_set ws (image_words l.table) n) h.behind.are
      ∙ ap (λ i. slice_set (h.behind.run.words ++ h.stop ∷ []) i n) stop_at
      ∙ set-append_seam h.behind.run.words h.stop [] n

  -- the same run, with a stop word behind it
  abbrev run_with : (words : List ℕ) (n : ℕ) → words ≡ h.behind.run.words ++ n ∷ []
      → HasRun p l words (n ∷ [])
  run_with words n is = record {
    run = h.behind.run;
    keeps = h.behind.keeps;
    program = h.behind.program;
    table = h.behind.table;
    are = is;
    few = h.behind.few;
  }

  bit : h.stop ≤ 1
  bit = go h.raised
    where
      go : IsStopWord on h.behind.keeps.entries h.stop → h.stop ≤ 1
      go (inl is) = omega (arith, is)
      go (inr (is, one)) = omega (arith, is)

  abbrev Behind : Access → ℕ → Part → Type 0
  Behind a stop =
      IsPart p l h.behind.keeps.entries (h.accesses ++ (thread_of x, a) ∷ []) h.behind.run.actors stop

  -- the word behind the image is that at its address
  here : (k : ℕ) → k ≡ place_of (address_at k)
  here k = sym (place-address k)

  -- ---- a look

  looked_part : (n : ℕ) → n ≡ h.stop → Behind (access.Look (n == 1)) h.stop (looks (n == 1) x)
  looked_part n is =
      let before = part p l on s h id x at in
      record { known = before.known; told = λ told. go x.told before.told told; did = own_did p l on s h id x at (access.Look (n == 1)) }
    where
      go : (b : Bool) → (b ≡ true → h.stop ≡ 1) → (b || n == 1) ≡ true → h.stop ≡ 1
      go true was told = was refl
      go false was told = sym is ∙ eqb-true n 1 told

  read : (n : ℕ) → n ≤ 1 → n ≡ stop_word (n == 1)
  read zero less = refl
  read (suc zero) less = refl
  read (suc (suc n)) less = absurd (omega (arith, less))

  keeps_look : Keeps p l on (state_after s (image_words l.table) (slice_index s.words (image_words l.table)) id [] (looks (h.stop == 1) x ∷ []) keeps)
  keeps_look =
      let Was = IsPart p l h.behind.keeps.entries h.accesses h.behind.run.actors h.stop in
      let look = access.Look (h.stop == 1) in
      record {
        stop = h.stop;
        behind = run_with _ h.stop (stop_set (slice_index s.words (image_words l.table)) ∙ ap (λ n. h.behind.run.words ++ n ∷ []) stop_found);
        raised = h.raised;
        first = h.first;
        opens = h.opens;
        accesses = h.accesses ++ (thread_of x, look) ∷ [];
        made =
            one_more_access p l on s h id x at look h.behind.keeps.entries _
            (append-nil h.behind.keeps.entries)
            (ap (slice_index s.words) (sym (here (image_words l.table))) ∙ stop_found ∙ read h.stop bit)
            (ap (λ k. slice_set s.words k (slice_index s.words k)) (here (image_words l.table)));
        seats =
            one_changed thread_of Was (Behind look h.stop) s.views h.seats id x at
            (looks (h.stop == 1) x) refl (looked_part h.stop refl)
            (λ z other is. record { known = is.known; told = is.told; did = other_did p l on s h id x at z look other is });
      }

  -- ---- the stop word is raised

  keeps_raised : some_stop on (steps_known x.known) ≡ true
      → Keeps p l on (state_after s (image_words l.table) 1 id [] (raises x ∷ []) keeps)
  keeps_raised stops =
      let before = part p l on s h id x at in
      let Was = IsPart p l h.behind.keeps.entries h.accesses h.behind.run.actors h.stop in
      record {
        stop = 1;
        behind = run_with _ 1 (stop_set 1);
        raised = inr (refl, (thread_of x, ap (some_stop on) before.known.steps ∙ stops));
        first = h.first;
        opens = h.opens;
        accesses = h.accesses ++ (thread_of x, access.Raise) ∷ [];
        made =
            one_more_access p l on s h id x at access.Raise h.behind.keeps.entries _
            (append-nil h.behind.keeps.entries) tt
            (ap (λ k. slice_set s.words k 1) (here (image_words l.table)));
        seats = one_changed thread_of Was (Behind access.Raise 1) s.views h.seats id x at (raises x) refl
            (record { known = before.known; told = λ told. refl; did = own_did p l on s h id x at access.Raise })
            (λ z other is. record { known = is.known; told = λ told. refl; did = other_did p l on s h id x at z access.Raise other is });
      }

-- whatever the table is, a look keeps the rule, and the thread learns that it may step
pub look_allowed : (p : Program) (l : Layout) (on : Option Break) (slots id : ℕ) (x : Part) (st : Step (Unit {0}))
    → Allows (Keeps p l on) slots id (x ∷ [], []) (image_words l.table) (λ n. n) (looked st (x ∷ [], []))
look_allowed p l on slots id x st s h homes at small = (
  looks (h.stop == 1) x ∷ [],
  keeps,
  tt,
  keeps_look p l on s h id x at,
  (λ y same.
      let y_is : x ≡ y = head_is x y same in
      let found = stop_found p l on s h id x at in
      let before = part p l on s h id x at in (
        (λ k. (looks (sym found k == 1) (y_is k) ∷ [], [])),
        subst (λ n. n ≤ 1) (sym found) (bit p l on s h id x at),
        (λ told. found ∙ before.told (ap (λ (q : Part). q.told) y_is ∙ told)),
        subst (λ (q : Part). CanStep q.known.program q.known.layout.table (actor_known q.known)) y_is
            (can_step p l s.words (h.stop ∷ []) h.behind x.known before.known),
      )),
)

-- a thread that committed an event at which the run is to stop may raise it
pub raise_allowed : (p : Program) (l : Layout) (on : Option Break) (slots id : ℕ) (x : Part) (st : Step (Unit {0}))
    → some_stop on (steps_known x.known) ≡ true
    → Allows (Keeps p l on) slots id (x ∷ [], []) (image_words l.table) (λ _. 1)
    (λ _. raised st (x ∷ [], []) 1)
raise_allowed p l on slots id x st stops s h homes at small = (
  raises x ∷ [],
  keeps,
  tt,
  keeps_raised p l on s h id x at stops,
  (λ y same. λ k. (raises (head_is x y same k) ∷ [], [])),
)
