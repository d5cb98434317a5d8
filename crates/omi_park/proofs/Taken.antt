-- The events of the first steps of all threads are, of each thread, those that are numbered up to its number of steps.
use Rattle.std.proofs.Common.{◌≡◌, ◌≤◌, ◌==◌, ◌+◌, ◌++◌, ℕ, zero, suc, Bool, true, false, List, [], ◌∷◌, take, slice_get, Some, refl, sym, ap, ◌∙◌, arith, if◌then◌else◌}
use Rattle.std.specs.Prelude.{nat_le}
use Rattle.std.proofs.lemmas.Bool.Decides.{nat_tests}
use Rattle.omi_model.specs.declared.event.Event.{Event}
use Rattle.omi_rep.specs.declared.outcome.Outcome.{Outcome}
use Rattle.omi_rep.specs.declared.outcome.Outcome.TheVariants as outcome
use Rattle.omi_core.specs.declared.entry.Entry.{Entry}
use Rattle.omi_core.specs.declared.thread_run.ThreadRun.{ThreadRun}
use Rattle.omi_core.specs.Runs.{events_in}
use Rattle.omi_core.specs.RunSteps.{event_of}
use Rattle.omi_core.specs.Steps.{events_behind, steps_of}
use Rattle.omi_seat.specs.Known.{own_steps}
use Rattle.omi_park.specs.Parked.{TakesFirst}
use Rattle.omi_park.specs.Shown.{TakesPrinted, events_of, numbered_to}
use Rattle.omi_park.specs.declared.stopped.Stopped.{Stopped}

-- the events that steps commit
abbrev of_outcome : Outcome → List Event
of_outcome (outcome.Event e) = e ∷ []
of_outcome o = []

abbrev of_steps : List Entry → List Event
of_steps [] = []
of_steps (e ∷ es) = of_outcome e.outcome ++ of_steps es

-- ---- the events of one thread among those of all

module _ (i n : ℕ) (x : ℕ × Entry) (rest : List (ℕ × ℕ × Event)) where
  same_else : (b : Bool) → events_of i (events_in rest) ≡ (if b then events_of i (events_in rest) else events_of i (events_in rest))
  same_else true = refl
  same_else false = refl

  by_outcome : (o : Outcome) → events_of i (events_in (event_of n x.0 o ++ rest))
      ≡ (if x.0 == i then of_outcome o ++ events_of i (events_in rest) else events_of i (events_in rest))
  by_outcome (outcome.Event e) = refl
  by_outcome outcome.Quiet = same_else (x.0 == i)
  by_outcome (outcome.NotReady address word) = same_else (x.0 == i)
  by_outcome outcome.Ended = same_else (x.0 == i)

by_thread : (b : Bool) (e : Entry) (events : List Event) (es : List Entry) → events ≡ of_steps es
    → (if b then of_outcome e.outcome ++ events else events) ≡ of_steps (if b then e ∷ es else es)
by_thread true e events es is = ap (λ (l : List Event). of_outcome e.outcome ++ l) is
by_thread false e events es is = is

of_thread : (i n : ℕ) (xs : List (ℕ × Entry)) → events_of i (events_in (events_behind n xs)) ≡ of_steps (steps_of i xs)
of_thread i n [] = refl
of_thread i n (x ∷ xs) =
    by_outcome i (n + 1) x (events_behind (n + 1) xs) x.1.outcome
    ∙ by_thread (x.0 == i) x.1 (events_of i (events_in (events_behind (n + 1) xs))) (steps_of i xs) (of_thread i (n + 1) xs)

-- ---- those of its first steps, by their numbers

later_number : (n k : ℕ) → n ≤ k → nat_le (k + 1) n ≡ false
later_number n k less = grind (arith, nat_tests)

first_number : (d k : ℕ) → nat_le (k + 1) (k + suc d) ≡ true
first_number d k = grind (arith, nat_tests)

none_numbered : (n k i : ℕ) (es : List Entry) → n ≤ k → numbered_to n (events_behind k (own_steps i es)) ≡ []
none_numbered n k i [] less = refl
none_numbered n k i (e ∷ es) less = go e.outcome (none_numbered n (k + 1) i es (omega (arith, less)))
  where
    go : (o : Outcome) → numbered_to n (events_behind (k + 1) (own_steps i es)) ≡ []
        → numbered_to n (event_of (k + 1) i o ++ events_behind (k + 1) (own_steps i es)) ≡ []
    go (outcome.Event x) others =
        ap (λ (b : Bool). if b then x ∷ numbered_to n (events_behind (k + 1) (own_steps i es)) else numbered_to n (events_behind (k + 1) (own_steps i es)))
        (later_number n k less)
        ∙ others
    go outcome.Quiet others = others
    go (outcome.NotReady address word) others = others
    go outcome.Ended others = others

first_numbered : (d k i : ℕ) (es : List Entry)
    → numbered_to (k + d) (events_behind k (own_steps i es)) ≡ of_steps (take d es)
first_numbered zero k i [] = refl
first_numbered zero k i (e ∷ es) = none_numbered (k + 0) k i (e ∷ es) (omega arith)
first_numbered (suc d) k i [] = refl
first_numbered (suc d) k i (e ∷ es) = go e.outcome (others (first_numbered d (k + 1) i es))
  where
    others : numbered_to ((k + 1) + d) (events_behind (k + 1) (own_steps i es)) ≡ of_steps (take d es)
        → numbered_to (k + suc d) (events_behind (k + 1) (own_steps i es)) ≡ of_steps (take d es)
    others later =
        let same : k + suc d ≡ (k + 1) + d = omega arith in
        ap (λ m. numbered_to m (events_behind (k + 1) (own_steps i es))) same ∙ later

    go : (o : Outcome) → numbered_to (k + suc d) (events_behind (k + 1) (own_steps i es)) ≡ of_steps (take d es)
        → numbered_to (k + suc d) (event_of (k + 1) i o ++ events_behind (k + 1) (own_steps i es))
        ≡ of_outcome o ++ of_steps (take d es)
    go (outcome.Event x) later =
        ap (λ (b : Bool). if b then x ∷ numbered_to (k + suc d) (events_behind (k + 1) (own_steps i es)) else numbered_to (k + suc d) (events_behind (k + 1) (own_steps i es)))
        (first_number d k)
        ∙ ap (λ (l : List Event). x ∷ l) later
    go outcome.Quiet later = later
    go (outcome.NotReady address word) later = later
    go outcome.Ended later = later

-- ---- at a stop

pub takes_printed : (entries : List (ℕ × Entry)) (at : ℕ) (stop : Stopped) (runs : List ThreadRun) → TakesFirst entries at stop
    → ((i : ℕ) (r : ThreadRun) → slice_get runs i ≡ Some r → r.events.items ≡ events_behind 0 (own_steps i (steps_of i entries)))
    → TakesPrinted runs stop (events_in (events_behind 0 (take at entries)))
takes_printed entries at stop runs first events i n r made run =
    let none : 0 + n ≡ n = omega arith in
    of_thread i 0 (take at entries)
    ∙ ap of_steps (first i n made)
    ∙ sym (first_numbered n 0 i (steps_of i entries))
    ∙ ap (λ m. numbered_to m (events_behind 0 (own_steps i (steps_of i entries)))) none
    ∙ sym (ap (numbered_to n) (events i r run))
