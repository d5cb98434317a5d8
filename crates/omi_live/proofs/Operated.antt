-- An operation of a thread on the table: one access more, and what the seats know behind it.
use Rattle.std.proofs.Common.{◌≡◌, ◌≢◌, inr, inl, ◌<◌, ◌≤◌, ◌==◌, ◌+◌, ◌++◌, ℕ, Bool, true, false, List, [], ◌∷◌, length, slice_set, slice_index, Option, refl, sym, ap, ◌∙◌, subst, arith, eq-eqb, eqb-true}
use mathlib.Core.Option.{some}
use lib.ListN.{get_elem?}
use Rattle.atomic_table.specs.Table.{Act, Allows, State, Step, Valid, carried_after, keeps, stepped as state_after}
use Rattle.omi_word.specs.declared.op.Op.{Op}
use Rattle.omi_word.specs.Memory.{address_at, address_of, words_after, left_of, place_of, word_at}
use Rattle.omi_script.specs.declared.program.Program.{Program}
use Rattle.omi_layout.specs.declared.layout.Layout.{Layout}
use Rattle.omi_layout.specs.Place.{image_words}
use Rattle.omi_actor.specs.Steps.{next_of}
use Rattle.omi_core.specs.declared.entry.Entry.{Entry}
use Rattle.omi_core.specs.declared.stop.Break.{Break}
use Rattle.omi_core.specs.RunSteps.{seats_of}
use Rattle.omi_core.specs.Steps.{steps_of}
use Rattle.omi_core.proofs.History.{other_one_more, own_one_more}
use Rattle.omi_seat.specs.declared.limits.TheConstants.{MOST_BUDGET}
use Rattle.omi_seat.specs.Behind.{HasRun}
use Rattle.omi_seat.specs.Known.{IsKnown, actor_known, claims_known, entry_known}
use Rattle.omi_seat.proofs.OneStep.{entry_of}
use Rattle.omi_seat.proofs.Seats.{head_is, one_changed, own_part}
use Rattle.omi_seat.proofs.Stepped.{entries_are, entries_now, entry_is, found_here, known_now, known_there, members_known, op_is, run_now}
use Rattle.omi_live.specs.declared.known.Access.{Access}
use Rattle.omi_live.specs.declared.known.Access.TheVariants as access
use Rattle.omi_live.specs.declared.known.Part.{Part}
use Rattle.omi_live.specs.Accesses.{AreAccesses, Finds, accesses_of, operation_of, step_in}
use Rattle.omi_live.specs.Plays.{makes, stepped}
use Rattle.omi_live.specs.Running.{IsPart, IsStopWord, Keeps, thread_of}
use Rattle.omi_seat.specs.Stops.{some_stop}
use Rattle.omi_live.proofs.Accesses.{lead_more, other_access, own_access, steps_more}
use Rattle.omi_seat.proofs.StopsLast.{still_stops}

module _ (p : Program) (l : Layout) (on : Option Break) (s : State (Unit {0}) (List Part))
    (h : Keeps p l on s) (id : ℕ) (x : Part) (at : get_elem? s.views id ≡ some (x ∷ [])) where
  abbrev Was : Part → Type 0
  Was = IsPart p l h.behind.keeps.entries h.accesses h.behind.run.actors h.stop

  pub part : Was x
  part = own_part thread_of Was Was s.views h.seats id x at

  abbrev pub behind : HasRun p l s.words (h.stop ∷ [])
  behind = h.behind

  -- ---- one more access of this thread

  pub own_did : (a : Access)
      → accesses_of (thread_of x) (h.accesses ++ (thread_of x, a) ∷ []) ≡ x.accesses ++ a ∷ []
  own_did a = own_access (thread_of x) h.accesses a ∙ ap (λ (ys : List Access). ys ++ a ∷ []) part.did

  pub other_did : (z : Part) (a : Access) → thread_of z ≢ thread_of x → Was z
      → accesses_of (thread_of z) (h.accesses ++ (thread_of x, a) ∷ []) ≡ z.accesses
  other_did z a other is =
      other_access (thread_of z) (thread_of x) h.accesses a (λ same. other (sym same)) ∙ is.did

  pub one_more_access : (a : Access) (entries : List (ℕ × Entry)) (words : List ℕ)
      → h.behind.keeps.entries ++ step_in (thread_of x) a ≡ entries
      → Finds a (word_at s.words (address_of (operation_of (address_at (image_words l.table)) a))) → words ≡ words_after s.words (operation_of (address_at (image_words l.table)) a)
      → AreAccesses p l.table entries (h.accesses ++ (thread_of x, a) ∷ []) h.first words
  one_more_access a entries words is found after = record {
    among = steps_more h.accesses (thread_of x, a) ∙ ap (λ (ys : List (ℕ × Entry)). ys ++ step_in (thread_of x) a) h.made.among ∙ is;
    lead = lead_more (address_at (image_words l.table)) (h.first ++ 0 ∷ []) h.accesses (thread_of x, a) s.words words h.made.lead found after;
    threads = λ i past.
        let below = part.known.thread in
        other_access i (thread_of x) h.accesses a (λ same. omega (arith, past, below, same)) ∙ h.made.threads i past;
  }

  -- ---- a step

  abbrev e : Entry
  e = entry_of h.behind.run (thread_of x)

  abbrev entries : List (ℕ × Entry)
  entries = entries_now p l s.words (h.stop ∷ []) behind x.known part.known

  abbrev accesses : List (ℕ × Access)
  accesses = h.accesses ++ (thread_of x, access.Step e) ∷ []

  abbrev words : List ℕ
  words =
      slice_set s.words (place_of (address_of e.op))
      (left_of e.op (slice_index s.words (place_of (address_of e.op))))

  found : slice_index s.words (place_of (address_of e.op)) ≡ e.old
  found = found_here p l s.words (h.stop ∷ []) behind x.known part.known

  still_raised : IsStopWord on h.behind.keeps.entries h.stop → IsStopWord on entries h.stop
  still_raised (inl not) = inl not
  still_raised (inr (is, one)) = inr (is, (one.0, go (one.0 == thread_of x) refl))
    where
      go : (b : Bool) → one.0 == thread_of x ≡ b → some_stop on (steps_of one.0 entries) ≡ true
      go true same =
          let here : one.0 ≡ thread_of x = eqb-true one.0 (thread_of x) same in
          subst (λ j. some_stop on (steps_of j entries) ≡ true) (sym here)
          (ap (some_stop on) (own_one_more (thread_of x) h.behind.keeps.entries e)
          ∙ still_stops on (steps_of (thread_of x) h.behind.keeps.entries) e (subst (λ j. some_stop on (steps_of j h.behind.keeps.entries) ≡ true) here one.1))
      go false other =
          ap (some_stop on)
          (other_one_more one.0 (thread_of x) h.behind.keeps.entries e (λ same. let yes : one.0 == thread_of x ≡ true = eq-eqb one.0 (thread_of x) (sym same) in cc (other, yes)))
          ∙ one.1

  module _ (room : length x.known.found < MOST_BUDGET) where
    -- the run behind it
    abbrev next : HasRun p l words (h.stop ∷ [])
    next = run_now p l s.words (h.stop ∷ []) behind x.known part.known room

    has : next.keeps.entries ≡ entries
    has = entries_are p l s.words (h.stop ∷ []) behind x.known part.known room

    abbrev Now : Part → Type 0
    Now = IsPart p l next.keeps.entries accesses next.run.actors h.stop

    part_now : Now (makes e.old x)
    part_now = record {
      known = known_now p l s.words (h.stop ∷ []) behind x.known part.known room;
      told = part.told;
      did =
          own_did (access.Step e)
          ∙ ap (λ (f : Entry). x.accesses ++ access.Step f ∷ []) (sym (entry_is p l s.words (h.stop ∷ []) behind x.known part.known e.old));
    }

    part_there : (z : Part) → thread_of z ≢ thread_of x → Was z → Now z
    part_there z other is = record {
      known = known_there p l s.words (h.stop ∷ []) behind x.known part.known room z.known other is.known;
      told = is.told;
      did = other_did z (access.Step e) other is;
    }

    keeps_next : Keeps p l on (state_after s (place_of (address_of e.op)) (left_of e.op (slice_index s.words (place_of (address_of e.op)))) id [] (makes e.old x ∷ []) keeps)
    keeps_next = record {
      stop = h.stop;
      behind = next;
      raised = subst (λ es. IsStopWord on es h.stop) (sym has) (still_raised h.raised);
      first = h.first;
      opens = h.opens;
      accesses = accesses;
      made = subst (λ es. AreAccesses p l.table es accesses h.first words) (sym has) (one_more_access (access.Step e) entries _ refl found refl);
      seats = one_changed thread_of Was Now s.views h.seats id x at (makes e.old x) refl part_now part_there;
    }

-- whatever the table is, the operation of a thread keeps the rule, and the thread learns what it found
pub step_allowed : (p : Program) (l : Layout) (on : Option Break) (slots id : ℕ) (x : Part) (st : Step (Unit {0}))
    → length x.known.found < MOST_BUDGET
    → (o : Op) → o ≡ next_of x.known.program x.known.layout.table (actor_known x.known)
    → Allows (Keeps p l on) slots id (x ∷ [], []) (place_of (address_of o)) (left_of o)
    (stepped st (x ∷ [], []))
step_allowed p l on slots id x st room o is s h homes at small =
    subst
    (λ (q : Op). (w : List Part) × (a : Act (Unit {0})) × Valid s.homes [] a
    × Keeps p l on
    (state_after s (place_of (address_of q)) (left_of q (slice_index s.words (place_of (address_of q)))) id [] w a)
    × stepped st (x ∷ [], []) (slice_index s.words (place_of (address_of q))) (w, carried_after [] a))
    (sym (is ∙ op_is p l s.words (h.stop ∷ []) h.behind x.known known)) (
      makes (entry_of h.behind.run (thread_of x)).old x ∷ [],
      keeps,
      tt,
      keeps_next p l on s h id x at room,
      told,
    )
  where
    known : IsKnown p l h.behind.keeps.entries h.behind.run.actors x.known
    known = (part p l on s h id x at).known

    told : stepped st (x ∷ [], []) (slice_index s.words (place_of (address_of (entry_of h.behind.run (thread_of x)).op))) (makes (entry_of h.behind.run (thread_of x)).old x ∷ [], [])
    told y same =
        let y_is : x ≡ y = head_is x y same in
        let found = found_here p l s.words (h.stop ∷ []) h.behind x.known known in (
          (λ k. (makes (sym found k) (y_is k) ∷ [], [])),
          subst
              (λ (q : Part). seats_of (entry_known q.known (slice_index s.words (place_of (address_of (entry_of h.behind.run (thread_of x)).op)))).outcome ≤ claims_known q.known + 1) y_is
              (members_known p l s.words (h.stop ∷ []) h.behind x.known known (slice_index s.words (place_of (address_of (entry_of h.behind.run (thread_of x)).op))) found),
        )
