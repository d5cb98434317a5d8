-- The claim of each thread is kept by every event.
use Rattle.std.proofs.Common.{◌≡◌, ◌≢◌, ◌⊎◌, inl, inr, ℕ, suc, Bool, true, List, [], ◌∷◌, ◌++◌, length, slice_get, Option, Some, None, is_some, refl, sym, ap, ◌∙◌, subst}
use Rattle.std.specs.Prelude.{IsSome}
use Rattle.std.specs.List.{Contains}
use Rattle.std.specs.Option.{option_and_then, option_map_or}
use Rattle.std.proofs.lemmas.Bool.{cases_eq}
use Rattle.omi_script.specs.declared.program.Program.{Program}
use Rattle.omi_model.specs.declared.claim.Claim.{Claim}
use Rattle.omi_model.specs.declared.claim.Claim.TheVariants as claim
use Rattle.omi_model.specs.declared.event.Event.{Event}
use Rattle.omi_model.specs.declared.event.Event.TheVariants as event
use Rattle.omi_model.specs.declared.id.Rid.{Rid}
use Rattle.omi_model.specs.declared.id.Tid.{Tid}
use Rattle.omi_model.specs.declared.item.Item.{Item}
use Rattle.omi_model.specs.declared.item.Item.TheVariants as item
use Rattle.omi_model.specs.declared.progress.Progress.TheVariants.{Begun, NotBegun}
use Rattle.omi_model.specs.declared.task.Task.{Task}
use Rattle.omi_model.specs.Changes.{encounter, ahead_of, in_front}
use Rattle.omi_model.specs.LawClaims.{IsClaimKept, IsForking, IsGot, IsMeantFor, WaitsForTeam}
use Rattle.omi_model.specs.Lists.{fits, take_item}
use Rattle.omi_model.specs.Opening.{opening}
use Rattle.omi_model.specs.Reached.{Reached, Step}
use Rattle.omi_model.specs.Rules.{Rule}
use Rattle.omi_model.specs.State.{State, task_of}
use Rattle.omi_model.specs.Teams.{MayAsk, MayBeginTask, got_threads}
use Rattle.omi_model.proofs.claims.AsksCurrent.{forking_after, forking_asked, forking_before, forking_by, forking_item, forking_now, have_asks}
use Rattle.omi_model.proofs.claims.AsksPlaced.{is_asking, is_forking}
use Rattle.omi_model.proofs.claims.AsksOrder.{at_contains, at_got, at_last, at_map, contains_at, got_at, in_order, last_at, map_at, still_at}
use Rattle.omi_model.proofs.ChainsKept.{current_begun, current_kept}
use Rattle.omi_model.proofs.claims.ClaimSteps.{ClaimIs, IsNewFor, ask_adds, ask_claims, asking_item, asks_after, begin_names, by_ask, by_claimed, by_fork, by_serve, by_want, claim_after, fork_item, forking_item_of, had_task, item_fits, list_kept, meant_after, meant_before, new_meant, want_empties}
use Rattle.omi_model.proofs.EachObject.{EachTask}
use Rattle.omi_model.proofs.claims.FirstThread.{RunsElsewhere}
use Rattle.omi_model.proofs.ReachedStates.{leads_on}
use Rattle.omi_model.proofs.Slots.{false_true, none_some, some_same}
use Rattle.omi_model.proofs.Steps.{IsMove, move_of}
use Rattle.omi_model.proofs.claims.WorkerLists.{have_places, offer_waits, serves_only, taken_at}

-- ---- events

offer_begin : (task : Tid) → event.Offer ≡ event.ImplicitBegin task → ⊥
offer_begin task e = cc

ask_fork : (w : ℕ) (got : Bool) (region : Rid) (team : List (Tid × ℕ))
    → event.Ask w got ≡ event.Fork region team → ⊥
ask_fork w got region team e = cc

pub own_free : claim.Own ≡ claim.Free → ⊥
own_free e = cc

pub own_by : (c : ℕ) → claim.Own ≡ claim.By c → ⊥
own_by c e = cc

pub same_by : (c d : ℕ) → claim.By c ≡ claim.By d → c ≡ d
same_by c d e = cc

begun_waits : Begun ≡ NotBegun → ⊥
begun_waits e = cc

-- the team of a fork
abbrev team_of : Event → List (Tid × ℕ)
team_of (event.Fork region team) = team
team_of e = []

pub record AreClaimsKept (s : State) : Type 0 where
  pub claims : (w : ℕ) → IsClaimKept s w
  pub elsewhere : EachTask RunsElsewhere s

module _ (p : Program) (events : List (ℕ × Event)) (s : State) (reached : Reached p events s) (i : ℕ)
    (e : Event) (next : State) (step : Step p s i e next) (all : AreClaimsKept s) where
  abbrev m : IsMove p s i e next
  m = move_of p s i e next step

  after_reached : Reached p (events ++ (i, e) ∷ []) next
  after_reached = leads_on p (opening p) events s (i, e) next reached step

  item_of : (of : Event) → e ≡ of → fits of m.item ≡ true
  item_of of same = subst (λ (x : Event). fits x m.item ≡ true) same (item_fits p s i e next step)

  rule_of : (of : Event) → e ≡ of → Rule s i of m.item
  rule_of of same = subst (λ (x : Event). Rule s i x m.item) same m.rule

  -- ---- who waits for a team

  -- the only event of a thread that waits is the begin of a task that was made for it
  begins_meant : WaitsForTeam s i → (task : Tid) × (e ≡ event.ImplicitBegin task) × IsMeantFor s task i
  begins_meant waits =
      let place = have_places p events s reached i in
      let list : ahead_of s i ≡ (s.threads i).list = idle_list in
      let t =
      taken_at p (encounter s i) e m.item m.behind place.place
      (ap (take_item p (encounter s i) e) (sym (list ∙ place.list)) ∙ m.taken) in
      let serve = t.begin (serves_only place.place (sym place.list ∙ waits.ahead)) in
      let (task, of) =
      by_serve e (subst (λ (y : Item). fits e y ≡ true) serve (item_fits p s i e next step)) in
      let may : MayBeginTask s i task = rule_of (event.ImplicitBegin task) of in
      (task, of, record { task = may.member; live = may.live; waiting = may.waiting; thread = may.mine })
    where
      idle_list : ahead_of s i ≡ (s.threads i).list
      idle_list =
          ap
          (λ (o : Option Tid). option_map_or (λ (u : Task). in_front u.frees u.list) (option_and_then (task_of s) o) (s.threads i).list) waits.idle

  waits_still : (w : ℕ) → w ≢ i → WaitsForTeam s w → WaitsForTeam next w
  waits_still w ne is = record { idle = current_kept p s i e next step w ne ∙ is.idle; ahead = list_kept p s i e next step w ne ∙ is.ahead }

  waits_before : (w : ℕ) → w ≢ i → WaitsForTeam next w → WaitsForTeam s w
  waits_before w ne is = record { idle = sym (current_kept p s i e next step w ne) ∙ is.idle; ahead = sym (list_kept p s i e next step w ne) ∙ is.ahead }

  -- ---- who was got

  got_still : (c w : ℕ) → IsForking next c → (next.threads c).asks ≡ (s.threads c).asks → IsGot s c w
      → IsGot next c w
  got_still c w forking same is = record { forking = forking; joined = subst (λ (xs : List (ℕ × Bool)). Contains xs (w, true)) (sym same) is.joined }

  asks_kept : (c : ℕ) → c ≢ i → (next.threads c).asks ≡ (s.threads c).asks
  asks_kept c ne = go (asks_after p s i e next step c)
    where
      go : ((next.threads c).asks ≡ (s.threads c).asks) ⊎ ((c ≡ i) × (is_asking m.item ≡ true))
          → (next.threads c).asks ≡ (s.threads c).asks
      go (inl same) = same
      go (inr (own, asking)) = absurd (ne own)

  got_before : (c w : ℕ) → c ≢ i → IsGot next c w → IsGot s c w
  got_before c w ne is = record {
    forking = forking_before p events s reached i e next step (have_asks p events s reached) c ne is.forking;
    joined = subst (λ (xs : List (ℕ × Bool)). Contains xs (w, true)) (asks_kept c ne) is.joined;
  }

  -- the thread of a new member was got
  new_got : (k : Tid) (w : ℕ) → IsNewFor p s i e next step k w → IsGot s i w
  new_got k w new =
      let here : slice_get (i ∷ got_threads (s.threads i).asks) (suc new.place) ≡ Some w =
      ap (λ xs. slice_get xs (suc new.place)) (sym new.threads)
      ∙ map_at (λ (a : Tid × ℕ). a.1) new.team (suc new.place) (k, w) new.at in
      let (at, found) = at_got (s.threads i).asks new.place w here in
      record {
        forking = forking_by p events s reached i e next step (have_asks p events s reached) (fork_item new.region new.team m.item (item_of (event.Fork new.region new.team) new.of));
        joined = at_contains (s.threads i).asks (w, true) at found;
      }

  -- a thread that an ask got
  abbrev GotNow : ℕ → Type 0
  GotNow w = IsGot s i w ⊎ (e ≡ event.Ask w true)

  got_now : (w : ℕ) → IsGot next i w → GotNow w
  got_now w is =
      of_item
      (asking_item m.item (forking_now p events s reached i e next step (have_asks p events s reached) after_reached is.forking))
    where
      fits_item : (y : Item) → m.item ≡ y → fits e y ≡ true
      fits_item y of = subst (λ (x : Item). fits e x ≡ true) of (item_fits p s i e next step)

      none : (n : ℕ) → e ≡ event.Want n → GotNow w
      none n of =
          let (k, at) = contains_at (next.threads i).asks (w, true) is.joined in absurd (none_some refl (ap (λ (xs : List (ℕ × Bool)). slice_get xs k) (sym (want_empties p s i e next step n of)) ∙ at))

      of_last : (v : ℕ) (got : Bool) → m.item ≡ item.Asks → e ≡ event.Ask v got → (k : ℕ)
          → (slice_get (s.threads i).asks k ≡ Some (w, true)) ⊎ ((k ≡ length (s.threads i).asks) × (◌≡◌ {A = ℕ × Bool} (v, got) (w, true)))
          → GotNow w
      of_last v got asks of k (inl old) = inl (record {
        forking = forking_by p events s reached i e next step (have_asks p events s reached) (ap is_forking asks);
        joined = at_contains (s.threads i).asks (w, true) k old;
      })
      of_last v got asks of k (inr (place, same)) = inr (of ∙ (ap (λ (a : ℕ × Bool). event.Ask a.0 a.1) same))

      of_item : (m.item ≡ item.Asks) ⊎ ((num : Option ℕ) × (m.item ≡ item.Want num)) → GotNow w
      of_item (inr (num, want)) = let (n, of) = by_want e num (fits_item (item.Want num) want) in none n of
      of_item (inl asks) =
          let (v, got, of) = by_ask e (fits_item item.Asks asks) in
          let may : MayAsk s i v got = rule_of (event.Ask v got) of in
          let (k, at) = contains_at (next.threads i).asks (w, true) is.joined in
          of_last v got asks of k
          (at_last (s.threads i).asks (v, got) k (w, true) (ap (λ (xs : List (ℕ × Bool)). slice_get xs k) (sym (ask_adds p s i e next step v got of may.other)) ∙ at))

  -- ---- the thread of the event

  pub own_unmeant : (k : Tid) → IsMeantFor next k i → ⊥
  own_unmeant k is = go (meant_before p s i e next step k i is)
    where
      go : IsMeantFor s k i ⊎ IsNewFor p s i e next step k i → ⊥
      go (inr new) = let got = (all.claims i).got i (new_got k i new) in (all.claims i).other i got.1 refl
      go (inl old) =
          let meant = (all.claims i).meant k old in
          let (task, of, mine) = begins_meant meant.0 in
          let same : task ≡ k = meant.2 task mine in
          let runs =
          current_begun p (events ++ (i, e) ∷ []) next after_reached i task is.task
          (begin_names p s i e next step task of) (ap (task_of next) same ∙ is.live) in
          begun_waits (sym runs.0 ∙ is.waiting)

  pub own_not_got : (c : ℕ) → IsGot next c i → ⊥
  own_not_got c is = go (cases_eq c i)
    where
      go : (c ≡ i) ⊎ (c ≢ i) → ⊥
      go (inl same) =
          let (k, at) = contains_at (next.threads c).asks (i, true) is.joined in
          (in_order p (events ++ (i, e) ∷ []) next after_reached c).others k i true at (sym same)
      go (inr ne) =
          let got = (all.claims i).got c (got_before c i ne is) in
          let (task, of, mine) = begins_meant got.0 in
          got.2 task mine

  pub own_free_kept : (next.threads i).claim ≡ claim.Free → WaitsForTeam next i
  own_free_kept free = go (claim_after p s i e next step i)
    where
      go : ClaimIs p s i e next step i (next.threads i) → WaitsForTeam next i
      go (inl same) =
          let was = (all.claims i).free (sym same ∙ free) in
          let (task, of, mine) = begins_meant was.0 in
          absurd (was.1 task mine)
      go (inr (inl offer)) = offer_waits p s i e next step (have_places p events s reached) offer.of
      go (inr (inr claimed)) = absurd (claimed.other refl)

  pub own_busy : i ≢ 0 → IsSome (next.threads i).current → (c : ℕ) × ((next.threads i).claim ≡ claim.By c)
  own_busy other some = of_task (had_task p s i e next step i some)
    where
      idle_some : (o : Option Tid) → o ≡ None → IsSome o → ⊥
      idle_some o none is = false_true (ap is_some (sym none) ∙ is)

      of_claim : (c : ℕ) → (s.threads i).claim ≡ claim.By c → (c : ℕ) × ((next.threads i).claim ≡ claim.By c)
      of_claim c by = go (claim_after p s i e next step i)
        where
          go : ClaimIs p s i e next step i (next.threads i) → (c : ℕ) × ((next.threads i).claim ≡ claim.By c)
          go (inl same) = (c, same ∙ by)
          go (inr (inl offer)) =
              absurd
              (idle_some (next.threads i).current (offer_waits p s i e next step (have_places p events s reached) offer.of).idle some)
          go (inr (inr claimed)) = absurd (claimed.other refl)

      of_task : IsSome (s.threads i).current ⊎ ((i ≡ i) × (task : Tid) × (e ≡ event.ImplicitBegin task))
          → (c : ℕ) × ((next.threads i).claim ≡ claim.By c)
      of_task (inl was) = let (c, by) = (all.claims i).busy other was in of_claim c by
      of_task (inr (own, task, of)) =
          let may : MayBeginTask s i task = rule_of (event.ImplicitBegin task) of in
          let meant =
          (all.claims i).meant task
          (record { task = may.member; live = may.live; waiting = may.waiting; thread = may.mine }) in
          of_claim task.0.creator meant.1

  -- ---- any other thread

  module _ (w : ℕ) (ne : w ≢ i) where
    -- a claim of a thread that is not free stays
    claim_stays : (c : Claim) → (c ≡ claim.Free → ⊥) → (s.threads w).claim ≡ c → (next.threads w).claim ≡ c
    claim_stays c held is = go (claim_after p s i e next step w)
      where
        go : ClaimIs p s i e next step w (next.threads w) → (next.threads w).claim ≡ c
        go (inl same) = same ∙ is
        go (inr (inl offer)) = absurd (ne offer.own)
        go (inr (inr claimed)) = absurd (held (sym is ∙ claimed.free))

    pub other_free : (next.threads w).claim ≡ claim.Free → WaitsForTeam next w
    other_free free = go (claim_after p s i e next step w)
      where
        go : ClaimIs p s i e next step w (next.threads w) → WaitsForTeam next w
        go (inl same) = waits_still w ne ((all.claims w).free (sym same ∙ free)).0
        go (inr (inl offer)) = absurd (ne offer.own)
        go (inr (inr claimed)) = absurd (by_claimed i (sym claimed.by ∙ free))

    pub other_busy : w ≢ 0 → IsSome (next.threads w).current → (c : ℕ) × ((next.threads w).claim ≡ claim.By c)
    other_busy other some =
        let (c, by) =
        (all.claims w).busy other (ap is_some (sym (current_kept p s i e next step w ne)) ∙ some) in
        (c, claim_stays (claim.By c) (by_claimed c) by)

    abbrev MeantNext : Tid → Type 0
    MeantNext k =
        WaitsForTeam next w × ((next.threads w).claim ≡ claim.By k.0.creator) × ((n : Tid) → IsMeantFor next n w → n ≡ k)

    pub other_meant : (k : Tid) → IsMeantFor next k w → MeantNext k
    other_meant k is = go (meant_before p s i e next step k w is)
      where
        go : IsMeantFor s k w ⊎ IsNewFor p s i e next step k w → MeantNext k
        go (inl old) =
            let meant = (all.claims w).meant k old in
            (waits_still w ne meant.0, claim_stays (claim.By k.0.creator) (by_claimed k.0.creator) meant.1, λ n its. alone n (meant_before p s i e next step n w its))
          where
            alone : (n : Tid) → IsMeantFor s n w ⊎ IsNewFor p s i e next step n w → n ≡ k
            alone n (inl older) = ((all.claims w).meant k old).2 n older
            alone n (inr new) = absurd (((all.claims w).got i (new_got n w new)).2 k old)
        go (inr new) =
            let got = (all.claims w).got i (new_got k w new) in
            (waits_still w ne got.0, claim_stays (claim.By i) (by_claimed i) got.1 ∙ ap (λ (c : ℕ). claim.By c) (sym new.creator), λ n its. alone n (meant_before p s i e next step n w its))
          where
            place_in : (x : Tid) (at : IsNewFor p s i e next step x w)
                → slice_get (got_threads (s.threads i).asks) at.place ≡ Some w
            place_in x at =
                ap (λ xs. slice_get xs (suc at.place)) (sym at.threads)
                ∙ map_at (λ (a : Tid × ℕ). a.1) at.team (suc at.place) (x, w) at.at

            alone : (n : Tid) → IsMeantFor s n w ⊎ IsNewFor p s i e next step n w → n ≡ k
            alone n (inl older) = absurd (((all.claims w).got i (new_got k w new)).2 n older)
            alone n (inr at) =
                let team : at.team ≡ new.team = ap team_of (sym at.of ∙ new.of) in
                let place : at.place ≡ new.place =
                (in_order p events s reached i).once at.place new.place w (place_in n at) (place_in k new) in
                let here : slice_get new.team (suc new.place) ≡ Some (n, w) =
                ap (λ (xs : List (Tid × ℕ)). slice_get xs (suc new.place)) (sym team)
                ∙ (ap (λ j. slice_get at.team (suc j)) (sym place) ∙ at.at) in
                ap (λ (a : Tid × ℕ). a.0) (some_same here new.at)

    abbrev GotNext : ℕ → Type 0
    GotNext c =
        WaitsForTeam next w × ((next.threads w).claim ≡ claim.By c) × ((k : Tid) → IsMeantFor next k w → ⊥)

    -- no task is made for a thread that was got, but by its asker
    unmeant : (c : ℕ) → (s.threads w).claim ≡ claim.By c → c ≢ i → ((k : Tid) → IsMeantFor s k w → ⊥)
        → (k : Tid) → IsMeantFor next k w → ⊥
    unmeant c by other none k is = go (meant_before p s i e next step k w is)
      where
        go : IsMeantFor s k w ⊎ IsNewFor p s i e next step k w → ⊥
        go (inl old) = none k old
        go (inr new) = other (same_by c i (sym by ∙ ((all.claims w).got i (new_got k w new)).1))

    unmeant_ask : (v : ℕ) (got : Bool) → e ≡ event.Ask v got → ((k : Tid) → IsMeantFor s k w → ⊥) → (k : Tid)
        → IsMeantFor next k w → ⊥
    unmeant_ask v got of none k is = go (meant_before p s i e next step k w is)
      where
        go : IsMeantFor s k w ⊎ IsNewFor p s i e next step k w → ⊥
        go (inl old) = none k old
        go (inr new) = ask_fork v got new.region new.team (sym of ∙ new.of)

    pub other_got : (c : ℕ) → IsGot next c w → GotNext c
    other_got c is = go (cases_eq c i)
      where
        go : (c ≡ i) ⊎ (c ≢ i) → GotNext c
        go (inr other) =
            let got = (all.claims w).got c (got_before c w other is) in
            (waits_still w ne got.0, claim_stays (claim.By c) (by_claimed c) got.1, unmeant c got.1 other got.2)
        go (inl same) = subst GotNext (sym same) (of_now (got_now w own))
          where
            own : IsGot next i w
            own = subst (λ j. IsGot next j w) same is

            an_ask : (v : ℕ) × (got : Bool) × (e ≡ event.Ask v got)
            an_ask =
                of_item
                (asking_item m.item (forking_now p events s reached i e next step (have_asks p events s reached) after_reached own.forking))
              where
                fits_item : (y : Item) → m.item ≡ y → fits e y ≡ true
                fits_item y of = subst (λ (x : Item). fits e x ≡ true) of (item_fits p s i e next step)

                of_item : (m.item ≡ item.Asks) ⊎ ((num : Option ℕ) × (m.item ≡ item.Want num))
                    → (v : ℕ) × (got : Bool) × (e ≡ event.Ask v got)
                of_item (inl asks) = by_ask e (fits_item item.Asks asks)
                of_item (inr (num, want)) =
                    let (n, of) = by_want e num (fits_item (item.Want num) want) in
                    let (k, at) = contains_at (next.threads i).asks (w, true) own.joined in
                    absurd
                    (none_some refl (ap (λ (xs : List (ℕ × Bool)). slice_get xs k) (sym (want_empties p s i e next step n of)) ∙ at))

            of_now : GotNow w → GotNext i
            of_now (inl old) =
                let got = (all.claims w).got i old in
                let (v, b, of) = an_ask in
                (waits_still w ne got.0, claim_stays (claim.By i) (by_claimed i) got.1, unmeant_ask v b of got.2)
            of_now (inr of) =
                let may : MayAsk s i w true = rule_of (event.Ask w true) of in
                let was = (all.claims w).free (may.joins refl) in
                (waits_still w ne was.0, ask_claims p s i e next step w of, unmeant_ask w true of was.1)

    abbrev WaitsNext : ℕ → Type 0
    WaitsNext c = ((k : Tid) × IsMeantFor next k w) ⊎ IsGot next c w

    -- a fork makes a task for each thread that was got
    forked_meant : (region : Rid) (team : List (Tid × ℕ)) → e ≡ event.Fork region team → IsGot s i w
        → (k : Tid) × IsMeantFor next k w
    forked_meant region team of is =
        let (k, t, r, cur, found, may) = rule_of (event.Fork region team) of in
        let (at, here) = contains_at (s.threads i).asks (w, true) is.joined in
        let (place, got) = got_at (s.threads i).asks at w here in
        let (n, there, same) =
        at_map (λ (a : Tid × ℕ). a.1) team (suc place) w
        (ap (λ xs. slice_get xs (suc place)) may.threads ∙ got) in
        (n.0, subst (IsMeantFor next n.0) same (new_meant p s i e next step region team of place n there))

    got_waits : (c : ℕ) → IsGot s c w → WaitsNext c
    got_waits c is = go (cases_eq c i)
      where
        go : (c ≡ i) ⊎ (c ≢ i) → WaitsNext c
        go (inr other) =
            inr
            (got_still c w (forking_after p events s reached i e next step (have_asks p events s reached) after_reached c other is.forking) (asks_kept c other) is)
        go (inl same) =
            subst WaitsNext (sym same)
            (of_item (forking_item_of m.item (forking_item p events s reached i e next step (have_asks p events s reached) own.forking)))
          where
            own : IsGot s i w
            own = subst (λ j. IsGot s j w) same is

            fits_item : (y : Item) → m.item ≡ y → fits e y ≡ true
            fits_item y of = subst (λ (x : Item). fits e x ≡ true) of (item_fits p s i e next step)

            of_item : (m.item ≡ item.Asks) ⊎ ((f : ℕ) × (m.item ≡ item.Fork f)) → WaitsNext i
            of_item (inr (f, forks)) =
                let (region, team, of) = by_fork e f (fits_item (item.Fork f) forks) in inl (forked_meant region team of own)
            of_item (inl asks) =
                let (v, got, of) = by_ask e (fits_item item.Asks asks) in
                let may : MayAsk s i v got = rule_of (event.Ask v got) of in
                let (k, at) = contains_at (s.threads i).asks (w, true) own.joined in
                inr (record {
                  forking = forking_asked p events s reached i e next step (have_asks p events s reached) v got of;
                  joined = at_contains (next.threads i).asks (w, true) k (ap (λ (xs : List (ℕ × Bool)). slice_get xs k) (ask_adds p s i e next step v got of may.other) ∙ still_at (s.threads i).asks (v, got) k (w, true) at);
                })

    pub other_waits : (c : ℕ) → WaitsForTeam next w → (next.threads w).claim ≡ claim.By c → WaitsNext c
    other_waits c waits by = go (claim_after p s i e next step w)
      where
        of_was : ((k : Tid) × IsMeantFor s k w) ⊎ IsGot s c w → WaitsNext c
        of_was (inl (k, meant)) = inl (k, meant_after p events s reached i e next step k w ne meant)
        of_was (inr got) = got_waits c got

        go : ClaimIs p s i e next step w (next.threads w) → WaitsNext c
        go (inl same) = of_was ((all.claims w).waits c (waits_before w ne waits) (sym same ∙ by))
        go (inr (inl offer)) = absurd (ne offer.own)
        go (inr (inr claimed)) =
            let may : MayAsk s i w true = rule_of (event.Ask w true) claimed.of in
            let (k, at) = last_at (s.threads i).asks (w, true) in
            subst WaitsNext (same_by i c (sym claimed.by ∙ by)) (inr (record {
              forking = forking_asked p events s reached i e next step (have_asks p events s reached) w true claimed.of;
              joined = at_contains (next.threads i).asks (w, true) k (ap (λ (xs : List (ℕ × Bool)). slice_get xs k) (ask_adds p s i e next step w true claimed.of may.other) ∙ at);
            }))
