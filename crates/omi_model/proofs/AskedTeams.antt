-- The asks of each thread: those that were asked are the first threads, and those that joined have begun.
use Rattle.std.proofs.Common.{◌≡◌, ◌≢◌, ◌<◌, ◌≤◌, ◌+◌, ◌⊎◌, inl, inr, ℕ, zero, suc, max, Bool, true, false, List, [], ◌∷◌, ◌++◌, length, map, get_or, refl, sym, ap, ◌∙◌, subst, arith}
use Rattle.std.specs.List.{All, Contains}
use Rattle.std.proofs.lemmas.Bool.{cases_eq, cases_lt}
use Rattle.std.proofs.lemmas.List.{length-map}
use Rattle.omi_script.specs.declared.program.Program.{Program}
use Rattle.omi_model.specs.declared.claim.Claim.TheVariants as claim
use Rattle.omi_model.specs.declared.event.Event.{Event}
use Rattle.omi_model.specs.declared.event.Event.TheVariants as event
use Rattle.omi_model.specs.declared.id.Rid.{Rid}
use Rattle.omi_model.specs.declared.id.Tid.{Tid}
use Rattle.omi_model.specs.declared.thread.Thread.{Thread}
use Rattle.omi_model.specs.LawAsks.{HasAskedTeam}
use Rattle.omi_model.specs.LawStays.{Stays}
use Rattle.omi_model.specs.Opening.{opening}
use Rattle.omi_model.specs.Reached.{Reached, Step}
use Rattle.omi_model.specs.Rules.{Legal}
use Rattle.omi_model.specs.State.{State}
use Rattle.omi_model.specs.Teams.{MayAsk, got_threads}
use Rattle.omi_model.specs.WellFormed.{HasBegun}
use Rattle.omi_model.proofs.BegunThreads.{HasBegunOrNot, begun_or_not, begun_step, by_begun}
use Rattle.omi_model.proofs.EachObject.{over_events}
use Rattle.omi_model.proofs.EachThread.{EachThread, IsThreadLaw, thread_step}
use Rattle.omi_model.proofs.OpeningObjects.{each_first_thread}
use Rattle.omi_model.proofs.StaysKept.{stays_step}
use Rattle.omi_model.proofs.Steps.{IsRelisted}

-- ---- lists of asks, told from their front

-- a thread is one of those that were asked
abbrev pub IsAsked : List (ℕ × Bool) → ℕ → Type 0
IsAsked [] w = ⊥
IsAsked (a ∷ as') w = (w ≡ a.0) ⊎ IsAsked as' w

asked_contains : (as' : List (ℕ × Bool)) (w : ℕ) → IsAsked as' w → Contains (map (λ a. a.0) as') w
asked_contains [] w is = absurd is
asked_contains (a ∷ as') w (inl same) = (0, omega arith, sym same)
asked_contains (a ∷ as') w (inr is) = let (k, within, e) = asked_contains as' w is in (suc k, omega arith, e)

contains_asked : (as' : List (ℕ × Bool)) (w : ℕ) → Contains (map (λ a. a.0) as') w → IsAsked as' w
contains_asked [] w (k, within, e) = omega (arith, within)
contains_asked (a ∷ as') w (zero, within, e) = inl (sym e)
contains_asked (a ∷ as') w (suc k, within, e) = inr (contains_asked as' w (k, omega arith, e))

asked_more : (as' : List (ℕ × Bool)) (b : ℕ × Bool) (w : ℕ) → IsAsked as' w → IsAsked (as' ++ b ∷ []) w
asked_more [] b w is = absurd is
asked_more (a ∷ as') b w (inl same) = inl same
asked_more (a ∷ as') b w (inr is) = inr (asked_more as' b w is)

asked_last : (as' : List (ℕ × Bool)) (b : ℕ × Bool) → IsAsked (as' ++ b ∷ []) b.0
asked_last [] b = inl refl
asked_last (a ∷ as') b = inr (asked_last as' b)

asked_of : (as' : List (ℕ × Bool)) (b : ℕ × Bool) (w : ℕ) → IsAsked (as' ++ b ∷ []) w
    → IsAsked as' w ⊎ (w ≡ b.0)
asked_of [] b w (inl same) = inr same
asked_of [] b w (inr is) = absurd is
asked_of (a ∷ as') b w (inl same) = inl (inl same)
asked_of (a ∷ as') b w (inr is) = go (asked_of as' b w is)
  where
    go : IsAsked as' w ⊎ (w ≡ b.0) → IsAsked (a ∷ as') w ⊎ (w ≡ b.0)
    go (inl h) = inl (inr h)
    go (inr h) = inr h

pub got_last : (as' : List (ℕ × Bool)) (w : ℕ) (got : Bool)
    → got_threads (as' ++ (w, got) ∷ []) ≡ got_threads as' ++ got_threads ((w, got) ∷ [])
got_last [] w got = refl
got_last ((v, true) ∷ as') w got = ap (λ xs. v ∷ xs) (got_last as' w got)
got_last ((v, false) ∷ as') w got = got_last as' w got

got_most : (as' : List (ℕ × Bool)) → length (got_threads as') ≤ length as'
got_most [] = omega arith
got_most ((v, true) ∷ as') = omega (arith, got_most as')
got_most ((v, false) ∷ as') = omega (arith, got_most as')

asks_last : (as' : List (ℕ × Bool)) (b : ℕ × Bool) → length (as' ++ b ∷ []) ≡ length as' + 1
asks_last [] b = refl
asks_last (a ∷ as') b = omega (arith, asks_last as' b)

all_last : (P : ℕ → Type 0) (xs : List ℕ) (w : ℕ) → All P xs → P w → All P (xs ++ w ∷ [])
all_last P [] w all here zero d within = here
all_last P [] w all here (suc k) d within = absurd (omega (arith, within))
all_last P (x ∷ xs) w all here zero d within = all 0 d (omega arith)
all_last P (x ∷ xs) w all here (suc k) d within =
    all_last P xs w (λ j e h. all (suc j) e (omega arith)) here k d (omega arith)

-- a thread that was asked joined, or was found busy
got_or_busy : (as' : List (ℕ × Bool)) (w : ℕ) → IsAsked as' w
    → Contains (got_threads as') w ⊎ Contains as' (w, false)
got_or_busy [] w is = absurd is
got_or_busy ((v, true) ∷ as') w (inl same) = inl (0, omega arith, sym same)
got_or_busy ((v, false) ∷ as') w (inl same) = inr (0, omega arith, ap (λ x. (x, false)) (sym same))
got_or_busy ((v, true) ∷ as') w (inr is) = go (got_or_busy as' w is)
  where
    go : Contains (got_threads as') w ⊎ Contains as' (w, false)
        → Contains (v ∷ got_threads as') w ⊎ Contains ((v, true) ∷ as') (w, false)
    go (inl (k, within, e)) = inl (suc k, omega arith, e)
    go (inr (k, within, e)) = inr (suc k, omega arith, e)
got_or_busy ((v, false) ∷ as') w (inr is) = go (got_or_busy as' w is)
  where
    go : Contains (got_threads as') w ⊎ Contains as' (w, false)
        → Contains (got_threads as') w ⊎ Contains ((v, false) ∷ as') (w, false)
    go (inl h) = inl h
    go (inr (k, within, e)) = inr (suc k, omega arith, e)

-- ---- the first threads were asked

-- 1 for the asker's own number, where it lies below a bound
abbrev IsOwn : ℕ → ℕ → ℕ → Type 0
IsOwn i bound own = ((own ≡ 1) × (i < bound)) ⊎ ((own ≡ 0) × (bound ≤ i))

-- those that were asked are the threads below a bound, but for the asker
pub record AreFirst (i count : ℕ) (as' : List (ℕ × Bool)) : Type 0 where
  pub bound : ℕ
  pub known : bound ≤ count
  pub below : (w : ℕ) → IsAsked as' w → w < bound
  pub each : (w : ℕ) → w < bound → w ≢ i → IsAsked as' w
  pub own : ℕ
  pub is_own : IsOwn i bound own
  pub size : length as' + own ≤ bound

suc_not : (n : ℕ) → suc n ≡ n → ⊥
suc_not n e = omega (arith, e)

next_first : (i count : ℕ) (as' : List (ℕ × Bool)) (w : ℕ) (got : Bool) → AreFirst i count as' → w < count
    → w ≢ i → (IsAsked as' w → ⊥) → ((v : ℕ) → v < w → v ≢ i → IsAsked as' v)
    → AreFirst i count (as' ++ (w, got) ∷ [])
next_first i count as' w got is known other new least = go (cases_eq w is.bound) (cases_lt w is.bound)
  where
    size_more : length (as' ++ (w, got) ∷ []) ≡ length as' + 1
    size_more = asks_last as' (w, got)

    below_more : (v : ℕ) → is.bound ≤ w → IsAsked (as' ++ (w, got) ∷ []) v → v < suc w
    below_more v least_bound h = of_last (asked_of as' (w, got) v h)
      where
        of_last : IsAsked as' v ⊎ (v ≡ w) → v < suc w
        of_last (inl old) = omega (arith, is.below v old, least_bound)
        of_last (inr same) = omega (arith, same)

    each_more : (v : ℕ) → v < suc w → v ≢ i → IsAsked (as' ++ (w, got) ∷ []) v
    each_more v h ne = of_test (cases_eq v w)
      where
        of_test : (v ≡ w) ⊎ (v ≢ w) → IsAsked (as' ++ (w, got) ∷ []) v
        of_test (inl same) = subst (IsAsked (as' ++ (w, got) ∷ [])) (sym same) (asked_last as' (w, got))
        of_test (inr apart) = asked_more as' (w, got) v (least v (omega (arith, h)) ne)

    -- the asker's number alone may lie between
    gap : is.bound < w → (is.bound ≡ i) × (w ≡ suc is.bound)
    gap more = of_bound (cases_eq is.bound i)
      where
        of_bound : (is.bound ≡ i) ⊎ (is.bound ≢ i) → (is.bound ≡ i) × (w ≡ suc is.bound)
        of_bound (inr ne) = absurd (let h = is.below is.bound (least is.bound more ne) in omega arith)
        of_bound (inl same) = (same, of_next (cases_eq w (suc is.bound)))
          where
            of_next : (w ≡ suc is.bound) ⊎ (w ≢ suc is.bound) → w ≡ suc is.bound
            of_next (inl e) = e
            of_next (inr ne) =
                absurd
                (let h = is.below (suc is.bound) (least (suc is.bound) (omega arith) (λ e. suc_not is.bound (e ∙ sym same))) in omega arith)

    go : (w ≡ is.bound) ⊎ (w ≢ is.bound) → (w < is.bound) ⊎ (is.bound ≤ w)
        → AreFirst i count (as' ++ (w, got) ∷ [])
    go at (inl less) = absurd (new (is.each w less other))
    go (inl same) (inr most) = of_own is.is_own
      where
        of_own : IsOwn i is.bound is.own → AreFirst i count (as' ++ (w, got) ∷ [])
        of_own (inl (one, inside)) = record { bound = suc w; known = known; below = λ v h. below_more v most h; each = each_more; own = 1; is_own = inl (refl, omega arith); size = omega (arith, size_more, is.size) }
        of_own (inr (none, outside)) = record { bound = suc w; known = known; below = λ v h. below_more v most h; each = each_more; own = 0; is_own = inr (refl, omega arith); size = omega (arith, size_more, is.size) }
    go (inr apart) (inr most) =
        let (at_own, next) = gap (omega arith) in
        record { bound = suc w; known = known; below = λ v h. below_more v most h; each = each_more; own = 1; is_own = inl (refl, omega arith); size = of_own at_own next is.is_own }
      where
        of_own : is.bound ≡ i → w ≡ suc is.bound → IsOwn i is.bound is.own
            → length (as' ++ (w, got) ∷ []) + 1 ≤ suc w
        of_own at_own next (inl (one, inside)) = absurd (omega arith)
        of_own at_own next (inr (none, outside)) = omega (arith, size_more, is.size)

-- so a team is no larger than the number of threads
pub team_fits : (i count : ℕ) (as' : List (ℕ × Bool)) → i < count → AreFirst i count as'
    → suc (length (got_threads as')) ≤ count
team_fits i count as' known is = go is.is_own
  where
    go : IsOwn i is.bound is.own → suc (length (got_threads as')) ≤ count
    go (inl (one, inside)) = omega (arith, got_most as', is.size, is.known)
    go (inr (none, outside)) = omega (arith, got_most as', is.size, is.known)

no_asks : (i count : ℕ) → AreFirst i count []
no_asks i count = record { bound = 0; known = omega arith; below = λ w h. absurd h; each = λ w h ne. absurd (omega (arith, h)); own = 0; is_own = inr (refl, omega arith); size = omega arith }

-- ---- the asks of each thread

pub record AreAsksRight (s : State) (j : ℕ) (as' : List (ℕ × Bool)) (wanted : ℕ) : Type 0 where
  pub first : AreFirst j s.count as'
  pub begun : All (HasBegun s) (got_threads as')
  pub most : suc (length (got_threads as')) ≤ max 1 wanted

abbrev pub AsksOf : State → ℕ → Thread → Type 0
AsksOf s j h = AreAsksRight s j h.asks h.wanted

pub begun_later : (s u : State) → Stays s u → (w : ℕ) → HasBegun s w → HasBegun u w
begun_later s u stay w is = record { known = subst (λ n. w < n) (sym stay.count) is.known; begun = stay.begun w is.begun }

asks_later : (s u : State) → Stays s u → (j : ℕ) (as' : List (ℕ × Bool)) (wanted : ℕ)
    → AreAsksRight s j as' wanted → AreAsksRight u j as' wanted
asks_later s u stay j as' wanted is = record {
  first = subst (λ n. AreFirst j n as') (sym stay.count) is.first;
  begun = λ k d within. begun_later s u stay (get_or (got_threads as') k d) (is.begun k d within);
  most = is.most;
}

not_begin : event.Offer ≡ event.Begin → ⊥
not_begin e = cc

pub append_none : (xs : List ℕ) → xs ++ [] ≡ xs
append_none [] = refl
append_none (x ∷ xs) = ap (λ ys. x ∷ ys) (append_none xs)

last_long : (xs : List ℕ) (w : ℕ) → length (xs ++ w ∷ []) ≡ length xs + 1
last_long [] w = refl
last_long (x ∷ xs) w = omega (arith, last_long xs w)

none_got : (s : State) → All (HasBegun s) []
none_got s k d within = absurd (omega (arith, within))

module _ (p : Program) (s : State) (i : ℕ) (e : Event) (next : State) (step : Step p s i e next)
    (begun : EachThread HasBegunOrNot s) (all : EachThread (AsksOf s) s) where
  stay : Stays s next
  stay = stays_step p s i e next step

  -- the asks are right, and a thread that may be claimed has begun
  abbrev Asking : ℕ → Thread → Type 0
  Asking j h = AsksOf next j h × (h.claim ≡ claim.Free → (next.threads j).begun ≡ true)

  free_begun : (j : ℕ) → (s.threads j).claim ≡ claim.Free → (next.threads j).begun ≡ true
  free_begun j free = go (begun j)
    where
      go : HasBegunOrNot j (s.threads j) → (next.threads j).begun ≡ true
      go (inl b) = stay.begun j b
      go (inr un) = absurd (un.held free)

  claimed_other : (w : ℕ) → claim.By w ≡ claim.Free → ⊥
  claimed_other w h = cc

  asking : EachThread Asking next
  asking =
      thread_step p Asking s i e next step (λ y ys none taken q. q) law
      (λ j. (asks_later s next stay j (s.threads j).asks (s.threads j).wanted (all j), free_begun j))
    where
      law : (middle : State) → IsRelisted s middle → Stays middle next → EachThread Asking middle
          → IsThreadLaw p middle i e next Asking
      law middle before later of_threads = record {
        begins = λ may q. q;
        offers = λ may of q. (q.0, λ free. stay.begun i (by_begun p s i e next step begun (λ h. not_begin (sym of ∙ h))));
        wants = λ n num may of q. (record { first = no_asks i next.count; begun = none_got next; most = omega arith }, q.1);
        asks = λ w got may of q. (asked_right w got may q.0, q.1);
        claims = λ w may of q. (q.0, λ free. absurd (claimed_other i free));
        shows = λ state wait of q. q;
        forks = λ region team f k t r is found may new q. q;
        joins_team = λ task may of q. q;
        ends = λ k t r is found im other over q. q;
        joins = λ k t r is found may of q. q;
        makes = λ task f final k t is new q. q;
        starts = λ task x k t is may new q. q;
        finishes = λ k t is ex over q. q;
      }
        where
          asked_right : (w : ℕ) (got : Bool) → MayAsk middle i w got
              → AreAsksRight next i (middle.threads i).asks (middle.threads i).wanted
              → AreAsksRight next i ((middle.threads i).asks ++ (w, got) ∷ []) (middle.threads i).wanted
          asked_right w got may q = record {
            first =
                next_first i next.count (middle.threads i).asks w got q.first
                (subst (λ n. w < n) (sym later.count) may.known) may.other
                (λ h. may.new (asked_contains (middle.threads i).asks w h)) (λ v below ne. contains_asked (middle.threads i).asks v (may.least v below ne));
            begun = subst (All (HasBegun next)) (sym (got_last (middle.threads i).asks w got)) (of_got got may.joins);
            most = omega (arith, ap (λ (xs : List ℕ). length xs) (got_last (middle.threads i).asks w got), one_more got, may.smaller);
          }
            where
              of_got : (b : Bool) → (b ≡ true → (middle.threads w).claim ≡ claim.Free)
                  → All (HasBegun next) (got_threads (middle.threads i).asks ++ got_threads ((w, b) ∷ []))
              of_got true free =
                  all_last (HasBegun next) (got_threads (middle.threads i).asks) w q.begun
                  (record { known = subst (λ n. w < n) (sym later.count) may.known; begun = (of_threads w).1 (free refl) })
              of_got false free =
                  subst (All (HasBegun next))
                  (sym (append_none (got_threads (middle.threads i).asks))) q.begun

              one_more : (b : Bool)
                  → length (got_threads (middle.threads i).asks ++ got_threads ((w, b) ∷ [])) ≤ length (got_threads (middle.threads i).asks) + 1
              one_more true = omega (arith, last_long (got_threads (middle.threads i).asks) w)
              one_more false =
                  omega
                  (arith, ap (λ (xs : List ℕ). length xs) (append_none (got_threads (middle.threads i).asks)))

  pub asks_step : EachThread (AsksOf next) next
  asks_step j = (asking j).0

-- ---- every reached state

pub record AreAsked (s : State) : Type 0 where
  pub begun : EachThread HasBegunOrNot s
  pub asks : EachThread (AsksOf s) s

pub asked_reached : (p : Program) (events : List (ℕ × Event)) (s : State) → Reached p events s → AreAsked s
asked_reached p events s reached = over_events p AreAsked
    (λ u i e next step h. record { begun = begun_step p u i e next step h.begun; asks = asks_step p u i e next step h.begun h.asks })
    (opening p) events s reached
    (record {
      begun = begun_or_not p [] (opening p) refl;
      asks = each_first_thread p (AsksOf (opening p)) (none_asked 0) (λ j. none_asked j);
    })
  where
    none_asked : (j : ℕ) → AreAsksRight (opening p) j [] 0
    none_asked j = record { first = no_asks j (opening p).count; begun = none_got (opening p); most = omega arith }

-- the team of a legal fork
pub teams_asked : (p : Program) (events : List (ℕ × Event)) (s : State) → Reached p events s
    → (i : ℕ) (region : Rid) (team : List (Tid × ℕ)) → Legal p s i (event.Fork region team)
    → HasAskedTeam s i team
teams_asked p events s reached i region team legal =
    let (k, t, r, is, found, may) = legal.rule in
    let asks = (asked_reached p events s reached).asks i in
    let size : length team ≡ suc (length (got_threads (s.threads i).asks)) =
    sym (length-map team (λ (m : Tid × ℕ). m.1)) ∙ ap (λ (xs : List ℕ). length xs) may.threads in
    record {
      threads = may.threads;
      most = omega (arith, size, asks.most);
      few = omega (arith, size, team_fits i s.count (s.threads i).asks legal.known asks.first);
      others = go size may.threads may.over;
    }
  where
    go : length team ≡ suc (length (got_threads (s.threads i).asks))
        → map (λ m. m.1) team ≡ i ∷ got_threads (s.threads i).asks
        → (suc (length (got_threads (s.threads i).asks)) ≡ (s.threads i).wanted) ⊎ ((w : ℕ) → w < s.count → w ≢ i → Contains (map (λ a. a.0) (s.threads i).asks) w)
        → (length team ≡ (s.threads i).wanted) ⊎ ((w : ℕ) → w < s.count → w ≢ i → Contains (map (λ m. m.1) team) w ⊎ Contains (s.threads i).asks (w, false))
    go size threads (inl wanted) = inl (size ∙ wanted)
    go size threads (inr all) =
        inr
        (λ w known other. of_asked w (got_or_busy (s.threads i).asks w (contains_asked (s.threads i).asks w (all w known other))))
      where
        of_asked : (w : ℕ)
            → Contains (got_threads (s.threads i).asks) w ⊎ Contains (s.threads i).asks (w, false)
            → Contains (map (λ m. m.1) team) w ⊎ Contains (s.threads i).asks (w, false)
        of_asked w (inl (j, within, e)) =
            inl (subst (λ (xs : List ℕ). Contains xs w) (sym threads) (suc j, omega arith, e))
        of_asked w (inr busy) = inr busy
