-- A fork's team has at most one member more than its thread has claims: asks that were got and whose fork has not come.
use Rattle.std.proofs.Common.{◌≡◌, ◌≢◌, ◌⊎◌, inl, inr, ◌≤◌, ◌==◌, ◌+◌, ◌-◌, ◌++◌, ℕ, Bool, true, false, List, [], ◌∷◌, length, min, refl, sym, ap, ◌∙◌, subst, arith, eqb-true, eq-eqb, if◌then◌else◌}
use Rattle.std.specs.Prelude.{IfSome}
use Rattle.std.proofs.lemmas.Bool.{cases_eq}
use Rattle.std.proofs.lemmas.List.{append_assoc, append-nil, length-append, length-map}
use Rattle.omi_script.specs.declared.program.Program.{Program}
use Rattle.omi_model.specs.declared.claim.Claim.TheVariants as claim
use Rattle.omi_model.specs.declared.event.Event.{Event}
use Rattle.omi_model.specs.declared.event.Event.TheVariants as event
use Rattle.omi_model.specs.declared.id.Rid.{Rid}
use Rattle.omi_model.specs.declared.id.Tid.{Tid}
use Rattle.omi_model.specs.declared.item.Item.{Item}
use Rattle.omi_model.specs.declared.item.Item.TheVariants as item
use Rattle.omi_model.specs.declared.thread.Thread.{Thread}
use Rattle.omi_model.specs.Changes.{encounter, ahead_of, on_thread}
use Rattle.omi_model.specs.LawClaims.{IsForking}
use Rattle.omi_model.specs.LawStays.{Stays}
use Rattle.omi_model.specs.Lists.{fits, stays}
use Rattle.omi_model.specs.Opening.{opening}
use Rattle.omi_model.specs.Reached.{Leads, Reached, Step}
use Rattle.omi_model.specs.Rules.{Legal, Rule, effect}
use Rattle.omi_model.specs.State.{State}
use Rattle.omi_model.specs.Teams.{got_threads}
use Rattle.omi_model.proofs.AskedTeams.{got_last, teams_asked}
use Rattle.omi_model.proofs.claims.AsksCurrent.{HasAsks, forking_before, forking_by, forking_now, have_asks}
use Rattle.omi_model.proofs.claims.AsksPlaced.{is_asking, is_forking}
use Rattle.omi_model.proofs.claims.ClaimLaws.{asks_in_order}
use Rattle.omi_model.proofs.EachObject.{EachTask}
use Rattle.omi_model.proofs.EachThread.{EachThread, IsThreadLaw, thread_step}
use Rattle.omi_model.proofs.ListLaws.{take_fits}
use Rattle.omi_model.proofs.OpeningObjects.{each_first_thread}
use Rattle.omi_model.proofs.ReachedStates.{leads_on}
use Rattle.omi_model.proofs.Slots.{each_put, false_true, put_same}
use Rattle.omi_model.proofs.Steps.{IsMove, IsRelisted, from_some, is_relisted, move_of, moved_on}
use Rattle.omi_run_lists.specs.Events.{team_in}
use Rattle.omi_run_lists.specs.StepRoom.{claims_after}
use Rattle.omi_run_lists.proofs.StepRooms.{free_seats}
use Rattle.omi_rep.specs.declared.outcome.Outcome.{Outcome}
use Rattle.omi_rep.specs.declared.outcome.Outcome.TheVariants as outcome
use Rattle.omi_core.specs.declared.entry.Entry.{Entry}
use Rattle.omi_core.specs.Runs.{events_in}
use Rattle.omi_core.specs.RunSteps.{event_of, seats_of}
use Rattle.omi_core.specs.Steps.{events_behind, steps_of}
use Rattle.omi_seat.specs.Claims.{claims_at, claims_from}

-- ---- the claims of a thread among the events of all

abbrev pub claims_by : ℕ → ℕ → List (ℕ × Event) → ℕ
claims_by i claims [] = claims
claims_by i claims (x ∷ xs) = claims_by i (if x.0 == i then claims_after claims x.1 else claims) xs

by_more : (i claims : ℕ) (xs : List (ℕ × Event)) (x : ℕ × Event)
    → claims_by i claims (xs ++ x ∷ []) ≡ (if x.0 == i then claims_after (claims_by i claims xs) x.1 else claims_by i claims xs)
by_more i claims [] x = refl
by_more i claims (y ∷ ys) x = by_more i (if y.0 == i then claims_after claims y.1 else claims) ys x

by_own : (i : ℕ) (xs : List (ℕ × Event)) (e : Event)
    → claims_by i 0 (xs ++ (i, e) ∷ []) ≡ claims_after (claims_by i 0 xs) e
by_own i xs e =
    by_more i 0 xs (i, e)
    ∙ ap (λ (b : Bool). if b then claims_after (claims_by i 0 xs) e else claims_by i 0 xs) (eq-eqb i i refl)

by_other : (i j : ℕ) (xs : List (ℕ × Event)) (e : Event) → i ≢ j
    → claims_by i 0 (xs ++ (j, e) ∷ []) ≡ claims_by i 0 xs
by_other i j xs e other = by_more i 0 xs (j, e) ∙ go (j == i) refl
  where
    go : (b : Bool) → j == i ≡ b
        → (if b then claims_after (claims_by i 0 xs) e else claims_by i 0 xs) ≡ claims_by i 0 xs
    go true is = absurd (other (sym (eqb-true j i is)))
    go false is = refl

no_claim : (i claims : ℕ) (xs : List (ℕ × Event)) (b : Bool)
    → claims_by i claims xs ≡ claims_by i (if b then claims else claims) xs
no_claim i claims xs true = refl
no_claim i claims xs false = refl

-- by its own steps
module _ (i n claims : ℕ) (x : ℕ × Entry) (rest : List (ℕ × ℕ × Event)) (ys : List Entry) where
  of_event : (o : Outcome)
      → claims_by i claims (events_in (event_of n x.0 o ++ rest)) ≡ claims_by i (if x.0 == i then claims_at claims o else claims) (events_in rest)
  of_event (outcome.Event e) = refl
  of_event outcome.Quiet = no_claim i claims (events_in rest) (x.0 == i)
  of_event (outcome.NotReady address word) = no_claim i claims (events_in rest) (x.0 == i)
  of_event outcome.Ended = no_claim i claims (events_in rest) (x.0 == i)

  of_step : (b : Bool)
      → claims_from (if b then claims_at claims x.1.outcome else claims) ys ≡ claims_from claims (if b then x.1 ∷ ys else ys)
  of_step true = refl
  of_step false = refl

pub by_steps : (i n claims : ℕ) (xs : List (ℕ × Entry))
    → claims_by i claims (events_in (events_behind n xs)) ≡ claims_from claims (steps_of i xs)
by_steps i n claims [] = refl
by_steps i n claims (x ∷ xs) =
    of_event i (n + 1) claims x (events_behind (n + 1) xs) (steps_of i xs) x.1.outcome
    ∙ by_steps i (n + 1) (if x.0 == i then claims_at claims x.1.outcome else claims) xs
    ∙ of_step i (n + 1) claims x (events_behind (n + 1) xs) (steps_of i xs) (x.0 == i)

-- ---- the asks of a thread

abbrev asks_after : List (ℕ × Bool) → Event → List (ℕ × Bool)
asks_after asks (event.Ask w got) = asks ++ (w, got) ∷ []
asks_after asks e = []

-- a want leaves none, and an ask adds one
asks_left : (p : Program) (u : State) (i : ℕ) (e : Event) (y : Item) → fits e y ≡ true → is_asking y ≡ true
    → Rule u i e y → IfSome (effect p u i e y) (λ v. (v.threads i).asks ≡ asks_after (u.threads i).asks e)
asks_left p u i (event.Want n) (item.Want num) fit is rule =
    ap (λ (h : Thread). h.asks) (put_same u.threads i (record (u.threads i) { wanted = n; asks = [] }))
asks_left p u i (event.Ask w true) item.Asks fit is rule =
    let listed : State = on_thread u i (λ h. record h { asks = h.asks ++ (w, true) ∷ [] }) in
    each_put (λ j (h : Thread). j ≡ i → h.asks ≡ (u.threads i).asks ++ (w, true) ∷ []) listed.threads w
    (record (listed.threads w) { claim = claim.By i })
    (λ same. absurd (rule.other same)) i
    (λ ne same. ap (λ (h : Thread). h.asks) (put_same u.threads i (record (u.threads i) { asks = (u.threads i).asks ++ (w, true) ∷ [] }))) refl
asks_left p u i (event.Ask w false) item.Asks fit is rule =
    ap (λ (h : Thread). h.asks)
    (put_same u.threads i (record (u.threads i) { asks = (u.threads i).asks ++ (w, false) ∷ [] }))
asks_left p u i e (item.Want num) fit is rule = absurd (false_true fit)
asks_left p u i e item.Asks fit is rule = absurd (false_true fit)
asks_left p u i e y fit is rule = absurd (false_true is)

-- the asks of another thread stay
abbrev KeepsTheirs : State → ℕ → ℕ → Thread → Type 0
KeepsTheirs s i j h = j ≢ i → h.asks ≡ (s.threads j).asks

theirs_kept : (p : Program) (s : State) (i : ℕ) (e : Event) (next : State) → Step p s i e next
    → EachThread (KeepsTheirs s i) next
theirs_kept p s i e next step =
    thread_step p (KeepsTheirs s i) s i e next step (λ y ys none taken q. q) law (λ j ne. refl)
  where
    law : (middle : State) → IsRelisted s middle → Stays middle next → EachThread (KeepsTheirs s i) middle
        → IsThreadLaw p middle i e next (KeepsTheirs s i)
    law middle before stay all = record {
      begins = λ may q. q;
      offers = λ may of q. q;
      wants = λ n num may of q ne. absurd (ne refl);
      asks = λ w got may of q ne. absurd (ne refl);
      claims = λ w may of q. q;
      shows = λ state wait of q. q;
      forks = λ region team f k t r is found may new q. q;
      joins_team = λ task may of q. q;
      ends = λ k t r is found implicit other of q. q;
      joins = λ k t r is found may of q. q;
      makes = λ task f is_final k t is new q. q;
      starts = λ task x k t is may new q. q;
      finishes = λ k t is explicit of q. q;
    }

-- ---- claims cover the asks that were got

-- where a thread has a fork in the making, each ask that it got is a claim
abbrev AreClaimed : List (ℕ × Event) → State → Type 0
AreClaimed events s = (c : ℕ) → IsForking s c → length (got_threads (s.threads c).asks) ≤ claims_by c 0 events

got_more : (asks : List (ℕ × Bool)) (claims w : ℕ) (got : Bool) → length (got_threads asks) ≤ claims
    → length (got_threads (asks ++ (w, got) ∷ [])) ≤ claims_after claims (event.Ask w got)
got_more asks claims w true most =
    let more : length (got_threads (asks ++ (w, true) ∷ [])) ≡ length (got_threads asks) + 1 =
    ap length (got_last asks w true) ∙ length-append (got_threads asks) (w ∷ []) in
    omega (arith, most, more)
got_more asks claims w false most =
    let more : length (got_threads (asks ++ (w, false) ∷ [])) ≡ length (got_threads asks) =
    ap length (got_last asks w false ∙ append-nil (got_threads asks)) in
    omega (arith, most, more)

ask_forks : (w : ℕ) (got : Bool) (y : Item) → fits (event.Ask w got) y ≡ true → is_forking y ≡ true
ask_forks w got item.Asks fit = refl
ask_forks w got y fit = absurd (false_true fit)

covered : (asks : List (ℕ × Bool)) (claims : ℕ) (y : Item) (e : Event) → fits e y ≡ true
    → (is_forking y ≡ true → length (got_threads asks) ≤ claims)
    → length (got_threads (asks_after asks e)) ≤ claims_after claims e
covered asks claims y (event.Ask w got) fit most = got_more asks claims w got (most (ask_forks w got y fit))
covered asks claims y e fit most = omega arith

module _ (p : Program) (events : List (ℕ × Event)) (s : State) (reached : Reached p events s) (i : ℕ)
    (e : Event) (next : State) (step : Step p s i e next) (claimed : AreClaimed events s)
    (after : Reached p (events ++ (i, e) ∷ []) next) where
  abbrev move : IsMove p s i e next
  move = move_of p s i e next step

  abbrev middle : State
  middle = moved_on s i e move.item move.behind

  item_fits : fits e move.item ≡ true
  item_fits = take_fits p (encounter s i) e (ahead_of s i) move.item move.behind move.taken

  own_asks : is_asking move.item ≡ true → (next.threads i).asks ≡ asks_after (s.threads i).asks e
  own_asks asking =
      from_some (λ (v : State). (v.threads i).asks ≡ asks_after (middle.threads i).asks e)
      (effect p middle i e move.item) next move.effect_is
      (asks_left p middle i e move.item item_fits asking move.rule_moved)
      ∙ ap (λ ys. asks_after ys e) ((is_relisted s i (stays (encounter s i) e move.item move.behind)).asks i)

  all : EachTask (HasAsks s) s
  all = have_asks p events s reached

  of_own : IsForking next i
      → length (got_threads (next.threads i).asks) ≤ claims_by i 0 (events ++ (i, e) ∷ [])
  of_own f =
      let asks = own_asks (forking_now p events s reached i e next step all after f) in
      let most =
      covered (s.threads i).asks (claims_by i 0 events) move.item e item_fits
      (λ forks. claimed i (forking_by p events s reached i e next step all forks)) in
      subst (λ ys. length (got_threads ys) ≤ claims_by i 0 (events ++ (i, e) ∷ [])) (sym asks)
      (subst (λ n. length (got_threads (asks_after (s.threads i).asks e)) ≤ n) (sym (by_own i events e)) most)

  of_other : (c : ℕ) → c ≢ i → IsForking next c
      → length (got_threads (next.threads c).asks) ≤ claims_by c 0 (events ++ (i, e) ∷ [])
  of_other c other f =
      subst (λ ys. length (got_threads ys) ≤ claims_by c 0 (events ++ (i, e) ∷ []))
      (sym (theirs_kept p s i e next step c other))
      (subst (λ n. length (got_threads (s.threads c).asks) ≤ n) (sym (by_other c i events e other)) (claimed c (forking_before p events s reached i e next step all c other f)))

  still : AreClaimed (events ++ (i, e) ∷ []) next
  still c f = go (cases_eq c i)
    where
      go : (c ≡ i) ⊎ (c ≢ i)
          → length (got_threads (next.threads c).asks) ≤ claims_by c 0 (events ++ (i, e) ∷ [])
      go (inl same) =
          subst (λ j. length (got_threads (next.threads j).asks) ≤ claims_by j 0 (events ++ (i, e) ∷ []))
          (sym same) (of_own (subst (IsForking next) same f))
      go (inr other) = of_other c other f

over : (p : Program) (first : List (ℕ × Event)) (s : State) → Reached p first s
    → (events : List (ℕ × Event)) (u : State) → Leads p s events u → AreClaimed first s
    → AreClaimed (first ++ events) u
over p first s reached [] u same claimed =
    subst (λ (z : State). AreClaimed (first ++ []) z) (sym same)
    (subst (λ es. AreClaimed es s) (sym (append-nil first)) claimed)
over p first s reached (x ∷ xs) u (next, step, leads) claimed =
    let after = leads_on p (opening p) first s x next reached step in
    subst (λ es. AreClaimed es u) (append_assoc first (x ∷ []) xs)
    (over p (first ++ x ∷ []) next after xs u leads (still p first s reached x.0 x.1 next step claimed after))

at_opening : (p : Program) → AreClaimed [] (opening p)
at_opening p c f =
    each_first_thread p (λ j (h : Thread). length (got_threads h.asks) ≤ 0) (omega arith) (λ j. omega arith) c

-- ---- a fork

pub few_in_team : (p : Program) (events : List (ℕ × Event)) (s : State) (reached : Reached p events s) (i : ℕ) (region : Rid) (team : List (Tid × ℕ))
    → Legal p s i (event.Fork region team) → length team ≤ claims_by i 0 events + 1
few_in_team p events s reached i region team legal =
    let asked = teams_asked p events s reached i region team legal in
    let claimed =
    over p [] (opening p) refl events s reached (at_opening p) i
    ((asks_in_order p events s reached i).forks region team legal) in
    let count : length team ≡ length (got_threads (s.threads i).asks) + 1 =
    sym (length-map team (λ (m : Tid × ℕ). m.1)) ∙ ap length asked.threads ∙ omega arith in
    omega (arith, claimed, count)

-- ---- room for steps

pub claims_more : (claims : ℕ) (es : List Entry) (e : Entry)
    → claims_from claims (es ++ e ∷ []) ≡ claims_at (claims_from claims es) e.outcome
claims_more claims [] e = refl
claims_more claims (f ∷ es) e = claims_more (claims_at claims f.outcome) es e

-- a step takes the room of one step at most
pub room_less : (n spare seats claims spare_after seats_after : ℕ) (o : Outcome) → seats_of o ≤ claims + 1
    → spare ≤ spare_after + 1 → seats ≤ seats_after + seats_of o
    → n + 1 ≤ min spare (seats - claims) → n ≤ min spare_after (seats_after - claims_at claims o)
room_less n spare seats claims spare_after seats_after (outcome.Event e) fits less left room =
    let free = free_seats (seats_after + length (team_in e)) seats_after claims e fits refl in
    omega (arith, free, less, left, room)
room_less n spare seats claims spare_after seats_after outcome.Quiet fits less left room =
    omega (arith, less, left, room)
room_less n spare seats claims spare_after seats_after (outcome.NotReady address word) fits less left room =
    omega (arith, less, left, room)
room_less n spare seats claims spare_after seats_after outcome.Ended fits less left room =
    omega (arith, less, left, room)
