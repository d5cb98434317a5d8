-- Those that a thread asked are the first threads in rising order, without the thread itself, and each that joined is in the team once.
use Rattle.std.proofs.Common.{◌≡◌, ◌≢◌, ◌==◌, ◌<◌, ◌≤◌, ◌⊎◌, inl, inr, ℕ, zero, suc, Bool, true, false, List, [], ◌∷◌, ◌++◌, length, map, slice_get, Some, if◌then◌else◌, refl, sym, ap, ◌∙◌, subst, arith, eq-eqb, ne_eqb}
use Rattle.std.specs.List.{Contains}
use Rattle.std.proofs.lemmas.Bool.{cases_eq, cases_lt}
use Rattle.std.proofs.lemmas.Option.{get_or_from_slice_get, slice_get-get_or, slice_get_within}
use Rattle.omi_script.specs.declared.program.Program.{Program}
use Rattle.omi_model.specs.declared.event.Event.{Event}
use Rattle.omi_model.specs.declared.thread.Thread.{Thread}
use Rattle.omi_model.specs.LawClaims.{others_below}
use Rattle.omi_model.specs.LawStays.{Stays}
use Rattle.omi_model.specs.Opening.{opening}
use Rattle.omi_model.specs.Reached.{Reached, Step}
use Rattle.omi_model.specs.State.{State}
use Rattle.omi_model.specs.Teams.{got_threads}
use Rattle.omi_model.proofs.AskedTeams.{append_none, got_last}
use Rattle.omi_model.proofs.EachObject.{over_events}
use Rattle.omi_model.proofs.EachThread.{EachThread, IsThreadLaw, thread_step}
use Rattle.omi_model.proofs.OpeningObjects.{each_first_thread}
use Rattle.omi_model.proofs.Slots.{false_true, none_some, some_same}
use Rattle.omi_model.proofs.StaysKept.{stays_step}
use Rattle.omi_model.proofs.Steps.{IsRelisted}

-- ---- places in lists

pub contains_at : {A : Type 0} (xs : List A) (x : A) → Contains xs x → (k : ℕ) × (slice_get xs k ≡ Some x)
contains_at {A} xs x (k, within, e) = (k, slice_get-get_or xs k x within ∙ ap (λ (y : A). Some y) e)

pub at_contains : {A : Type 0} (xs : List A) (x : A) (k : ℕ) → slice_get xs k ≡ Some x → Contains xs x
at_contains xs x k at = (k, slice_get_within xs k x at, get_or_from_slice_get xs k x x at)

-- where an element of a list with one more stands
pub at_last : {A : Type 0} (xs : List A) (x : A) (k : ℕ) (y : A) → slice_get (xs ++ x ∷ []) k ≡ Some y
    → (slice_get xs k ≡ Some y) ⊎ ((k ≡ length xs) × (x ≡ y))
at_last [] x zero y at = inr (refl, some_same refl at)
at_last [] x (suc k) y at = absurd (none_some refl at)
at_last (z ∷ xs) x zero y at = inl at
at_last {A} (z ∷ xs) x (suc k) y at = go (at_last xs x k y at)
  where
    go : (slice_get xs k ≡ Some y) ⊎ ((k ≡ length xs) × (x ≡ y))
        → (slice_get (z ∷ xs) (suc k) ≡ Some y) ⊎ ((suc k ≡ length (z ∷ xs)) × (x ≡ y))
    go (inl h) = inl h
    go (inr (e, same)) = inr (omega (arith, e), same)

pub still_at : {A : Type 0} (xs : List A) (x : A) (k : ℕ) (y : A) → slice_get xs k ≡ Some y
    → slice_get (xs ++ x ∷ []) k ≡ Some y
still_at [] x k y at = absurd (none_some refl at)
still_at (z ∷ xs) x zero y at = at
still_at (z ∷ xs) x (suc k) y at = still_at xs x k y at

pub last_at : {A : Type 0} (xs : List A) (x : A) → (k : ℕ) × (slice_get (xs ++ x ∷ []) k ≡ Some x)
last_at [] x = (0, refl)
last_at (z ∷ xs) x = let (k, at) = last_at xs x in (suc k, at)

pub map_at : {A B : Type 0} (f : A → B) (xs : List A) (k : ℕ) (x : A) → slice_get xs k ≡ Some x
    → slice_get (map f xs) k ≡ Some (f x)
map_at f [] k x at = absurd (none_some refl at)
map_at {A = A} {B = B} f (z ∷ xs) zero x at = ap (λ (y : A). Some (f y)) (some_same refl at)
map_at f (z ∷ xs) (suc k) x at = map_at f xs k x at

pub at_map : {A B : Type 0} (f : A → B) (xs : List A) (k : ℕ) (y : B) → slice_get (map f xs) k ≡ Some y
    → (x : A) × (slice_get xs k ≡ Some x) × (f x ≡ y)
at_map f [] k y at = absurd (none_some refl at)
at_map f (z ∷ xs) zero y at = (z, refl, some_same refl at)
at_map f (z ∷ xs) (suc k) y at = at_map f xs k y at

-- a thread that joined is in the team
pub got_at : (as' : List (ℕ × Bool)) (k w : ℕ) → slice_get as' k ≡ Some (w, true)
    → (j : ℕ) × (slice_get (got_threads as') j ≡ Some w)
got_at [] k w at = absurd (none_some refl at)
got_at ((v, true) ∷ as') zero w at = (0, ap (λ (a : ℕ × Bool). Some a.0) (some_same refl at))
got_at ((v, false) ∷ as') zero w at = absurd (false_true (ap (λ (a : ℕ × Bool). a.1) (some_same refl at)))
got_at ((v, true) ∷ as') (suc k) w at = let (j, h) = got_at as' k w at in (suc j, h)
got_at ((v, false) ∷ as') (suc k) w at = got_at as' k w at

pub at_got : (as' : List (ℕ × Bool)) (j w : ℕ) → slice_get (got_threads as') j ≡ Some w
    → (k : ℕ) × (slice_get as' k ≡ Some (w, true))
at_got [] j w at = absurd (none_some refl at)
at_got ((v, true) ∷ as') zero w at = (0, ap (λ (n : ℕ). Some (n, true)) (some_same refl at))
at_got ((v, true) ∷ as') (suc j) w at = let (k, h) = at_got as' j w at in (suc k, h)
at_got ((v, false) ∷ as') j w at = let (k, h) = at_got as' j w at in (suc k, h)

-- ---- threads below a bound, without one

in_other : (i n v : ℕ) → v < n → v ≢ i → (k : ℕ) × (slice_get (others_below i n) k ≡ Some v)
in_other i zero v less ne = absurd (omega (arith, less))
in_other i (suc n) v less ne = go (λ h. in_other i n v h ne) (cases_eq v n)
  where
    go : (v < n → (k : ℕ) × (slice_get (others_below i n) k ≡ Some v)) → (v ≡ n) ⊎ (v ≢ n)
        → (k : ℕ) × (slice_get (others_below i n ++ (if n == i then [] else n ∷ [])) k ≡ Some v)
    go old (inl same) =
        let (k, at) = last_at (others_below i n) n in
        (k, ap (λ b. slice_get (others_below i n ++ (if b then [] else n ∷ [])) k) (ne_eqb n i (λ h. ne (same ∙ h))) ∙ (at ∙ ap (λ (x : ℕ). Some x) (sym same)))
    go old (inr other) = let (k, at) = old (omega (arith, less)) in (k, of_test (n == i) k at)
      where
        of_test : (b : Bool) (k : ℕ) → slice_get (others_below i n) k ≡ Some v
            → slice_get (others_below i n ++ (if b then [] else n ∷ [])) k ≡ Some v
        of_test true k at = ap (λ xs. slice_get xs k) (append_none (others_below i n)) ∙ at
        of_test false k at = still_at (others_below i n) n k v at

other_in : (i n v k : ℕ) → slice_get (others_below i n) k ≡ Some v → v < n
other_in i zero v k at = absurd (none_some refl at)
other_in i (suc n) v k at = go (λ h. other_in i n v k h) (n == i) at
  where
    go : (slice_get (others_below i n) k ≡ Some v → v < n) → (b : Bool)
        → slice_get (others_below i n ++ (if b then [] else n ∷ [])) k ≡ Some v → v < suc n
    go old true h = omega (arith, old (ap (λ xs. slice_get xs k) (sym (append_none (others_below i n))) ∙ h))
    go old false h = of_last (at_last (others_below i n) n k v h)
      where
        of_last : (slice_get (others_below i n) k ≡ Some v) ⊎ ((k ≡ length (others_below i n)) × (n ≡ v))
            → v < suc n
        of_last (inl there) = omega (arith, old there)
        of_last (inr (e, same)) = omega (arith, same)

map_last : (as' : List (ℕ × Bool)) (a : ℕ × Bool)
    → map (λ x. x.0) (as' ++ a ∷ []) ≡ map (λ x. x.0) as' ++ a.0 ∷ []
map_last [] a = refl
map_last (x ∷ as') a = ap (λ ys. x.0 ∷ ys) (map_last as' a)

-- the next one that is asked
next_other : (i n w : ℕ) (xs : List ℕ) → xs ≡ others_below i n → w ≢ i → (Contains xs w → ⊥)
    → ((v : ℕ) → v < w → v ≢ i → Contains xs v) → xs ++ w ∷ [] ≡ others_below i (suc w)
next_other i n w xs is other new least =
    ap (λ ys. ys ++ w ∷ []) (is ∙ same_list)
    ∙ sym (ap (λ b. others_below i w ++ (if b then [] else w ∷ [])) (ne_eqb w i other))
  where
    least_bound : n ≤ w
    least_bound = go (cases_lt w n)
      where
        go : (w < n) ⊎ (n ≤ w) → n ≤ w
        go (inl less) =
            let (k, at) = in_other i n w less other in absurd (new (subst (λ ys. Contains ys w) (sym is) (at_contains (others_below i n) w k at)))
        go (inr h) = h

    below : (v : ℕ) → v < w → v ≢ i → v < n
    below v less ne =
        let (k, at) = contains_at (others_below i n) v (subst (λ ys. Contains ys v) is (least v less ne)) in other_in i n v k at

    same_list : others_below i n ≡ others_below i w
    same_list = go (cases_eq w n)
      where
        gap : n < w → (n ≡ i) × (w ≡ suc n)
        gap more = of_bound (cases_eq n i)
          where
            of_bound : (n ≡ i) ⊎ (n ≢ i) → (n ≡ i) × (w ≡ suc n)
            of_bound (inr ne) = absurd (let h = below n more ne in omega (arith, h))
            of_bound (inl same) = (same, of_next (cases_eq w (suc n)))
              where
                apart : suc n ≡ i → ⊥
                apart e = omega (arith, e, same)

                of_next : (w ≡ suc n) ⊎ (w ≢ suc n) → w ≡ suc n
                of_next (inl e) = e
                of_next (inr ne) =
                    absurd (let h = below (suc n) (omega (arith, more)) apart in omega (arith, h))

        go : (w ≡ n) ⊎ (w ≢ n) → others_below i n ≡ others_below i w
        go (inl same) = ap (others_below i) (sym same)
        go (inr ne) =
            let (own, next) = gap (omega (arith, least_bound)) in
            sym (append_none (others_below i n))
            ∙
            (sym (ap (λ b. others_below i n ++ (if b then [] else n ∷ [])) (eq-eqb n i own)) ∙ ap (others_below i) (sym next))

-- ---- the asks of each thread

-- each element stands in one place
abbrev pub IsOnceEach : List ℕ → Type 0
IsOnceEach xs = (a b w : ℕ) → slice_get xs a ≡ Some w → slice_get xs b ≡ Some w → a ≡ b

once_last : (xs : List ℕ) (w : ℕ) → ((k : ℕ) → slice_get xs k ≡ Some w → ⊥) → IsOnceEach xs
    → IsOnceEach (xs ++ w ∷ [])
once_last xs w new once a b v at_a at_b = go (at_last xs w a v at_a) (at_last xs w b v at_b)
  where
    go : (slice_get xs a ≡ Some v) ⊎ ((a ≡ length xs) × (w ≡ v))
        → (slice_get xs b ≡ Some v) ⊎ ((b ≡ length xs) × (w ≡ v)) → a ≡ b
    go (inl old) (inl older) = once a b v old older
    go (inl old) (inr (e, same)) = absurd (new a (old ∙ ap (λ (x : ℕ). Some x) (sym same)))
    go (inr (e, same)) (inl old) = absurd (new b (old ∙ ap (λ (x : ℕ). Some x) (sym same)))
    go (inr (e, same)) (inr (f, same')) = e ∙ sym f

pub record AreInOrder (count j : ℕ) (as' : List (ℕ × Bool)) : Type 0 where
  pub bound : ℕ
  pub known : bound ≤ count
  pub first : map (λ a. a.0) as' ≡ others_below j bound
  pub once : IsOnceEach (got_threads as')
  pub others : (k w : ℕ) (got : Bool) → slice_get as' k ≡ Some (w, got) → w ≢ j

none_asked : (count j : ℕ) → AreInOrder count j []
none_asked count j = record { bound = 0; known = omega arith; first = refl; once = λ a b w at. absurd (none_some refl at); others = λ k w got at. absurd (none_some refl at) }

abbrev pub InOrder : State → ℕ → Thread → Type 0
InOrder s j h = AreInOrder s.count j h.asks

one_more : (count i w : ℕ) (got : Bool) (as' : List (ℕ × Bool)) → w < count → w ≢ i
    → (Contains (map (λ a. a.0) as') w → ⊥) → ((v : ℕ) → v < w → v ≢ i → Contains (map (λ a. a.0) as') v)
    → AreInOrder count i as' → AreInOrder count i (as' ++ (w, got) ∷ [])
one_more count i w got as' known other new least q = record {
  bound = suc w;
  known = known;
  first = map_last as' (w, got) ∙ next_other i q.bound w (map (λ a. a.0) as') q.first other new least;
  once = subst IsOnceEach (sym (got_last as' w got)) (of_got got);
  others = λ k v b at. of_last k v b (at_last as' (w, got) k (v, b) at);
}
  where
    of_got : (b : Bool) → IsOnceEach (got_threads as' ++ got_threads ((w, b) ∷ []))
    of_got true =
        once_last (got_threads as') w
        (λ k at. let (j, h) = at_got as' k w at in new (at_contains (map (λ a. a.0) as') w j (map_at (λ (a : ℕ × Bool). a.0) as' j (w, true) h))) q.once
    of_got false = subst IsOnceEach (sym (append_none (got_threads as'))) q.once

    of_last : (k v : ℕ) (b : Bool)
        → (slice_get as' k ≡ Some (v, b)) ⊎ ((k ≡ length as') × (◌≡◌ {A = ℕ × Bool} (w, got) (v, b))) → v ≢ i
    of_last k v b (inl old) = q.others k v b old
    of_last k v b (inr (e, same)) = λ h. other (ap (λ (a : ℕ × Bool). a.0) same ∙ h)

order_step : (p : Program) (s : State) (i : ℕ) (e : Event) (next : State) → Step p s i e next
    → EachThread (InOrder s) s → EachThread (InOrder next) next
order_step p s i e next step all =
    thread_step p (InOrder next) s i e next step (λ y ys none taken q. q) law
    (λ j. subst (λ n. AreInOrder n j (s.threads j).asks) (sym (stays_step p s i e next step).count) (all j))
  where
    law : (middle : State) → IsRelisted s middle → Stays middle next → EachThread (InOrder next) middle
        → IsThreadLaw p middle i e next (InOrder next)
    law middle before later of_threads = record {
      begins = λ may q. q;
      offers = λ may of q. q;
      wants = λ n num may of q. none_asked next.count i;
      asks = λ w got may of q. one_more next.count i w got (middle.threads i).asks (subst (λ n. w < n) (sym later.count) may.known) may.other may.new may.least q;
      claims = λ w may of q. q;
      shows = λ state wait of q. q;
      forks = λ region team f k t r is found may new q. q;
      joins_team = λ task may of q. q;
      ends = λ k t r is found im other over q. q;
      joins = λ k t r is found may of q. q;
      makes = λ task f final k t is new q. q;
      starts = λ task x k t is may new q. q;
      finishes = λ k t is ex over q. q;
    }

pub in_order : (p : Program) (events : List (ℕ × Event)) (s : State) → Reached p events s
    → EachThread (InOrder s) s
in_order p events s reached =
    over_events p (λ u. EachThread (InOrder u) u) (λ u i e next step h. order_step p u i e next step h)
    (opening p) events s reached
    (each_first_thread p (InOrder (opening p)) (none_asked (opening p).count 0) (λ j. none_asked (opening p).count j))
