-- What one event does to claims, asks and tasks that have not begun.
use Rattle.std.proofs.Common.{◌≡◌, ◌≢◌, ◌==◌, ◌⊎◌, inl, inr, ℕ, zero, suc, Bool, true, false, List, [], ◌∷◌, ◌++◌, map, slice_get, Option, Some, is_some, if◌then◌else◌, refl, sym, ap, ◌∙◌, subst, arith, ne_eqb}
use Rattle.std.specs.Prelude.{IfSome, IsSome}
use Rattle.std.proofs.lemmas.Option.{get_or_from_slice_get, slice_get_within}
use Rattle.omi_script.specs.declared.program.Program.{Program}
use Rattle.omi_model.specs.declared.claim.Claim.TheVariants as claim
use Rattle.omi_model.specs.declared.event.Event.{Event}
use Rattle.omi_model.specs.declared.event.Event.TheVariants as event
use Rattle.omi_model.specs.declared.id.Rid.{Rid}
use Rattle.omi_model.specs.declared.id.Tid.{Tid}
use Rattle.omi_model.specs.declared.item.Item.{Item}
use Rattle.omi_model.specs.declared.item.Item.TheVariants as item
use Rattle.omi_model.specs.declared.progress.Progress.TheVariants.{Begun, Deferred, Finished, NotBegun}
use Rattle.omi_model.specs.declared.task.Task.{Task}
use Rattle.omi_model.specs.declared.thread.Thread.{Thread}
use Rattle.omi_model.specs.Changes.{IsCurrent, encounter, ahead_of, on_thread}
use Rattle.omi_model.specs.Fresh.{IsFresh}
use Rattle.omi_model.specs.LawClaims.{IsMeantFor}
use Rattle.omi_model.specs.LawStays.{Stays}
use Rattle.omi_model.specs.Lists.{fits, stays}
use Rattle.omi_model.specs.Reached.{Reached, Step}
use Rattle.omi_model.specs.Rules.{Rule, effect}
use Rattle.omi_model.specs.State.{State, task_of}
use Rattle.omi_model.specs.Teams.{MayFork, asked, forked, got_threads, member_task, offered, task_begun, wanting}
use Rattle.omi_model.proofs.claims.AsksCurrent.{new_name}
use Rattle.omi_model.proofs.claims.AsksPlaced.{is_asking, is_forking}
use Rattle.omi_model.proofs.ChainsKept.{current_begun}
use Rattle.omi_model.proofs.EachObject.{EachTask, IsTaskLaw, members_found, task_step, task_step_from}
use Rattle.omi_model.proofs.EachThread.{EachThread, IsThreadLaw, law_of_current, of_lists, thread_step}
use Rattle.omi_model.proofs.ListLaws.{take_fits}
use Rattle.omi_model.proofs.Slots.{false_true, put_other, put_same, some_same}
use Rattle.omi_model.proofs.StaysKept.{needed_waiting, new_team, stays_step}
use Rattle.omi_model.proofs.Steps.{IsMove, IsRelisted, from_some, is_relisted, move_of, moved_on, of_region}

-- ---- events by their items

pub ask_item : (w : ℕ) (got : Bool) (y : Item) → fits (event.Ask w got) y ≡ true → y ≡ item.Asks
ask_item w got item.Asks fit = refl
ask_item w got y fit = absurd (false_true fit)

pub fork_item : (region : Rid) (team : List (Tid × ℕ)) (y : Item) → fits (event.Fork region team) y ≡ true
    → is_forking y ≡ true
fork_item region team (item.Fork f) fit = refl
fork_item region team y fit = absurd (false_true fit)

pub by_ask : (e : Event) → fits e item.Asks ≡ true → (w : ℕ) × (got : Bool) × (e ≡ event.Ask w got)
by_ask (event.Ask w got) fit = (w, got, refl)
by_ask e fit = absurd (false_true fit)

pub by_want : (e : Event) (num : Option ℕ) → fits e (item.Want num) ≡ true → (n : ℕ) × (e ≡ event.Want n)
by_want (event.Want n) num fit = (n, refl)
by_want e num fit = absurd (false_true fit)

pub by_fork : (e : Event) (f : ℕ) → fits e (item.Fork f) ≡ true
    → (region : Rid) × (team : List (Tid × ℕ)) × (e ≡ event.Fork region team)
by_fork (event.Fork region team) f fit = (region, team, refl)
by_fork e f fit = absurd (false_true fit)

pub by_serve : (e : Event) → fits e item.Serve ≡ true → (task : Tid) × (e ≡ event.ImplicitBegin task)
by_serve (event.ImplicitBegin task) fit = (task, refl)
by_serve e fit = absurd (false_true fit)

pub asking_item : (y : Item) → is_asking y ≡ true → (y ≡ item.Asks) ⊎ ((num : Option ℕ) × (y ≡ item.Want num))
asking_item item.Asks is = inl refl
asking_item (item.Want num) is = inr (num, refl)
asking_item y is = absurd (false_true is)

pub forking_item_of : (y : Item) → is_forking y ≡ true → (y ≡ item.Asks) ⊎ ((f : ℕ) × (y ≡ item.Fork f))
forking_item_of item.Asks is = inl refl
forking_item_of (item.Fork f) is = inr (f, refl)
forking_item_of y is = absurd (false_true is)

want_asks : (n : ℕ) (y : Item) → fits (event.Want n) y ≡ true → is_asking y ≡ true
want_asks n (item.Want num) fit = refl
want_asks n y fit = absurd (false_true fit)

suc_zero : (n : ℕ) → suc n ≡ 0 → ⊥
suc_zero n e = omega (arith, e)

pub by_claimed : (c : ℕ) → claim.By c ≡ claim.Free → ⊥
by_claimed c e = cc

module _ (p : Program) (s : State) (i : ℕ) (e : Event) (next : State) (step : Step p s i e next) where
  abbrev m : IsMove p s i e next
  m = move_of p s i e next step

  abbrev middle : State
  middle = moved_on s i e m.item m.behind

  before : IsRelisted s middle
  before = is_relisted s i (stays (encounter s i) e m.item m.behind)

  pub item_fits : fits e m.item ≡ true
  item_fits = take_fits p (encounter s i) e (ahead_of s i) m.item m.behind m.taken

  -- what is made by the event
  made_by : (of : Event) (u : State) → effect p middle i of m.item ≡ Some u → e ≡ of → u ≡ next
  made_by of u is same =
      some_same is (subst (λ (x : Event). effect p middle i x m.item ≡ Some next) same m.effect_is)

  -- ---- threads

  -- a claim is as it was, or the thread offered itself, or it was free and got
  pub record IsOffered (j : ℕ) (h : Thread) : Type 0 where
    pub of : e ≡ event.Offer
    pub own : j ≡ i

  pub record IsClaimed (j : ℕ) (h : Thread) : Type 0 where
    pub of : e ≡ event.Ask j true
    pub other : j ≢ i
    pub free : (s.threads j).claim ≡ claim.Free
    pub by : h.claim ≡ claim.By i

  abbrev pub ClaimIs : ℕ → Thread → Type 0
  ClaimIs j h = (h.claim ≡ (s.threads j).claim) ⊎ (IsOffered j h ⊎ IsClaimed j h)

  another : (j : ℕ) (h g : Thread) → g.claim ≡ h.claim → ClaimIs j h → ClaimIs j g
  another j h g same (inl is) = inl (same ∙ is)
  another j h g same (inr (inl is)) = inr (inl (record { of = is.of; own = is.own }))
  another j h g same (inr (inr is)) =
      inr (inr (record { of = is.of; other = is.other; free = is.free; by = same ∙ is.by }))

  pub claim_after : EachThread ClaimIs next
  claim_after =
      thread_step p ClaimIs s i e next step
      (λ y ys none taken q. another i (s.threads i) (record (s.threads i) { list = stays (encounter s i) e y ys }) refl q) law
      (λ j. inl refl)
    where
      law : (u : State) → IsRelisted s u → Stays u next → EachThread ClaimIs u
          → IsThreadLaw p u i e next ClaimIs
      law u relists later all = record {
        begins = λ may q. another i (u.threads i) (record (u.threads i) { begun = true }) refl q;
        offers = λ may of q. inr (inl (record { of = of; own = refl }));
        wants = λ n num may of q. another i (u.threads i) (record (u.threads i) { wanted = n; asks = [] }) refl q;
        asks = λ w got may of q. another i (u.threads i) (record (u.threads i) { asks = (u.threads i).asks ++ (w, got) ∷ [] }) refl q;
        claims = λ w may of q. inr (inr (record { of = of; other = may.other; free = was_free w (may.joins refl) of q; by = refl }));
        shows = λ state wait of q. another i (u.threads i) (record (u.threads i) { state = state; wait = wait }) refl q;
        forks = λ region team f k t r is found may new q. another i (u.threads i) _ refl q;
        joins_team = λ task may of q. another i (u.threads i) _ refl q;
        ends = λ k t r is found im other over q. another i (u.threads i) _ refl q;
        joins = λ k t r is found may of q. another i (u.threads i) _ refl q;
        makes = λ task f final k t is new q. another i (u.threads i) _ refl q;
        starts = λ task x k t is may new q. another i (u.threads i) _ refl q;
        finishes = λ k t is ex over q. another i (u.threads i) _ refl q;
      }
        where
          offer_ask : (w : ℕ) → event.Offer ≡ event.Ask w true → ⊥
          offer_ask w h = cc

          was_free : (w : ℕ) → (u.threads w).claim ≡ claim.Free → e ≡ event.Ask w true
              → ClaimIs w (u.threads w) → (s.threads w).claim ≡ claim.Free
          was_free w free of (inl same) = sym same ∙ free
          was_free w free of (inr (inl is)) = absurd (offer_ask w (sym is.of ∙ of))
          was_free w free of (inr (inr is)) = is.free

  -- the asks stay but for a want and an ask
  abbrev AsksStay : ℕ → Thread → Type 0
  AsksStay j h = (h.asks ≡ (s.threads j).asks) ⊎ ((j ≡ i) × (is_asking m.item ≡ true))

  pub asks_after : EachThread AsksStay next
  asks_after = thread_step p AsksStay s i e next step (λ y ys none taken q. q) law (λ j. inl refl)
    where
      law : (u : State) → IsRelisted s u → Stays u next → EachThread AsksStay u
          → IsThreadLaw p u i e next AsksStay
      law u relists later all = record {
        begins = λ may q. q;
        offers = λ may of q. q;
        wants = λ n num may of q. inr (refl, want_asks n m.item (subst (λ (x : Event). fits x m.item ≡ true) of item_fits));
        asks = λ w got may of q. inr (refl, ap is_asking (ask_item w got m.item (subst (λ (x : Event). fits x m.item ≡ true) of item_fits)));
        claims = λ w may of q. q;
        shows = λ state wait of q. q;
        forks = λ region team f k t r is found may new q. q;
        joins_team = λ task may of q. q;
        ends = λ k t r is found im other over q. q;
        joins = λ k t r is found may of q. q;
        makes = λ task f final k t is new q. q;
        starts = λ task x k t is may new q. q;
        finishes = λ k t is ex over q. q;
      }

  pub want_empties : (n : ℕ) → e ≡ event.Want n → (next.threads i).asks ≡ []
  want_empties n of =
      ap (λ (u : State). (u.threads i).asks) (sym (made_by (event.Want n) (wanting middle i n) refl of))
      ∙ ap (λ (h : Thread). h.asks)
      (put_same middle.threads i (record (middle.threads i) { wanted = n; asks = [] }))

  pub ask_adds : (w : ℕ) (got : Bool) → e ≡ event.Ask w got → w ≢ i
      → (next.threads i).asks ≡ (s.threads i).asks ++ (w, got) ∷ []
  ask_adds w got of other =
      ap (λ (u : State). (u.threads i).asks) (sym (made_by (event.Ask w got) (asked middle i w got) refl of))
      ∙ (of_asked got ∙ ap (λ (xs : List (ℕ × Bool)). xs ++ (w, got) ∷ []) (before.asks i))
    where
      of_asked : (b : Bool) → ((asked middle i w b).threads i).asks ≡ (middle.threads i).asks ++ (w, b) ∷ []
      of_asked true =
          let listed : State = on_thread middle i (λ h. record h { asks = h.asks ++ (w, true) ∷ [] }) in
          ap (λ (h : Thread). h.asks)
          (put_other listed.threads w i (record (listed.threads w) { claim = claim.By i }) (λ same. other (sym same)))
          ∙ ap (λ (h : Thread). h.asks)
          (put_same middle.threads i (record (middle.threads i) { asks = (middle.threads i).asks ++ (w, true) ∷ [] }))
      of_asked false =
          ap (λ (h : Thread). h.asks)
          (put_same middle.threads i (record (middle.threads i) { asks = (middle.threads i).asks ++ (w, false) ∷ [] }))

  pub ask_claims : (w : ℕ) → e ≡ event.Ask w true → (next.threads w).claim ≡ claim.By i
  ask_claims w of =
      let listed : State = on_thread middle i (λ h. record h { asks = h.asks ++ (w, true) ∷ [] }) in
      ap (λ (u : State). (u.threads w).claim)
      (sym (made_by (event.Ask w true) (asked middle i w true) refl of))
      ∙ ap (λ (h : Thread). h.claim)
      (put_same listed.threads w (record (listed.threads w) { claim = claim.By i }))

  pub offer_frees : e ≡ event.Offer → (next.threads i).claim ≡ claim.Free
  offer_frees of =
      ap (λ (u : State). (u.threads i).claim) (sym (made_by event.Offer (offered middle i) refl of))
      ∙ ap (λ (h : Thread). h.claim)
      (put_same middle.threads i (record (middle.threads i) { claim = claim.Free }))

  pub begin_names : (task : Tid) → e ≡ event.ImplicitBegin task → (next.threads i).current ≡ Some task
  begin_names task of =
      ap (λ (u : State). (u.threads i).current)
      (sym (made_by (event.ImplicitBegin task) (task_begun middle i task) refl of))
      ∙ ap (λ (h : Thread). h.current)
      (put_same middle.threads i (record (middle.threads i) { current = Some task }))

  -- other threads keep their lists
  pub list_kept : EachThread (λ j h. j ≢ i → h.list ≡ (s.threads j).list) next
  list_kept =
      thread_step p (λ j h. j ≢ i → h.list ≡ (s.threads j).list) s i e next step
      (λ y ys none taken q ne. absurd (ne refl))
      (λ u relists later all. of_lists p u i e next (λ j xs. j ≢ i → xs ≡ (s.threads j).list)) (λ j ne. refl)

  -- a thread that has a task had one, or begins a task that was made for it
  abbrev HadTask : ℕ → Thread → Type 0
  HadTask j h =
      IsSome h.current → IsSome (s.threads j).current ⊎ ((j ≡ i) × (task : Tid) × (e ≡ event.ImplicitBegin task))

  pub had_task : EachThread HadTask next
  had_task = thread_step p HadTask s i e next step (λ y ys none taken q. q) law (λ j some. inl some)
    where
      law : (u : State) → IsRelisted s u → Stays u next → EachThread HadTask u
          → IsThreadLaw p u i e next HadTask
      law u relists later all = law_of_current p u i e next HadTask (record {
        forks = λ region team f k t r is found may new q some. had k t is;
        joins_team = λ task may of q some. inr (refl, task, of);
        ends = λ k t r is found im other over q some. had k t is;
        joins = λ k t r is found may of q some. had k t is;
        makes = λ task f final k t is new q some. had k t is;
        starts = λ task x k t is may new q some. had k t is;
        finishes = λ k t is ex over q some. had k t is;
      })
        where
          had : (k : Tid) (t : Task) → IsCurrent u i k t
              → IsSome (s.threads i).current ⊎ ((i ≡ i) × (task : Tid) × (e ≡ event.ImplicitBegin task))
          had k t is = inl (ap is_some (sym (relists.currents i) ∙ is.name))

  -- ---- tasks that have not begun

  -- a member of a team that is forked
  pub record IsNewFor (k : Tid) (w : ℕ) : Type 0 where
    pub region : Rid
    pub team : List (Tid × ℕ)
    pub of : e ≡ event.Fork region team
    pub place : ℕ
    pub at : slice_get team (suc place) ≡ Some (k, w)
    pub threads : map (λ m. m.1) team ≡ i ∷ got_threads (s.threads i).asks
    pub creator : k.0.creator ≡ i

  abbrev MeantBy : Tid → Task → Type 0
  MeantBy k t = t.progress ≡ NotBegun → IsMeantFor s k t.thread ⊎ IsNewFor k t.thread

  meant_by : EachTask MeantBy next
  meant_by =
      task_step p MeantBy s i e next step (λ k t y ys is taken q. q) law
      (λ k t live waits. inl (record { task = t; live = live; waiting = waits; thread = refl }))
    where
      begun_waits : Begun ≡ NotBegun → ⊥
      begun_waits h = cc

      finished_waits : Finished ≡ NotBegun → ⊥
      finished_waits h = cc

      deferred_waits : Deferred ≡ NotBegun → ⊥
      deferred_waits h = cc

      law : (u : State) (y : Item) → IsRelisted s u → Stays u next → EachTask MeantBy u
          → IsTaskLaw p u i e y next MeantBy
      law u y relists later all = record {
        frees = λ k t free how q. q;
        shows = λ k t x q. q;
        tools = λ k t x q. q;
        groups = λ k t count is how q. q;
        sets = λ k t icv value v f at_set q. q;
        begins = λ k t waits mine by q w. absurd (begun_waits w);
        finishes = λ k t is over q w. absurd (finished_waits w);
        starts = λ k v j t x is live ex de may of by q w. absurd (begun_waits w);
        members = λ region team f k t r is found may new of by j n at w. of_number region team may by j n at w;
        deferred = λ task f final seen k t is of fresh w. absurd (deferred_waits w);
        made = λ task f final k t is of fresh by w. absurd (begun_waits w);
      }
        where
          of_number : (region : Rid) (team : List (Tid × ℕ)) → MayFork u i region team
              → e ≡ event.Fork region team → (j : ℕ) (n : Tid × ℕ) → slice_get team j ≡ Some n
              → (if j == 0 then Begun else NotBegun) ≡ NotBegun → IsMeantFor s n.0 n.1 ⊎ IsNewFor n.0 n.1
          of_number region team may by zero n at w = absurd (begun_waits w)
          of_number region team may by (suc j) n at w = inr (record {
            region = region;
            team = team;
            of = by;
            place = j;
            at = at;
            threads = may.threads ∙ ap (λ as'. i ∷ got_threads as') (relists.asks i);
            creator = ap (λ (b : Tid × ℕ). b.0.0.creator) (sym (get_or_from_slice_get team (suc j) n n at)) ∙ (may.tasks_new (suc j) n (slice_get_within team (suc j) n at)).creator;
          })

  pub meant_before : (k : Tid) (w : ℕ) → IsMeantFor next k w → IsMeantFor s k w ⊎ IsNewFor k w
  meant_before k w is =
      subst (λ j. IsMeantFor s k j ⊎ IsNewFor k j) is.thread (meant_by k is.task is.live is.waiting)

  -- a new member other than member 0 has not begun
  pub new_meant : (region : Rid) (team : List (Tid × ℕ)) → e ≡ event.Fork region team
      → (place : ℕ) (n : Tid × ℕ) → slice_get team (suc place) ≡ Some n → IsMeantFor next n.0 n.1
  new_meant region team of place n at =
      from_some New (effect p middle i (event.Fork region team) m.item) next
      (subst (λ (x : Event). effect p middle i x m.item ≡ Some next) of m.effect_is)
      (of_item m.item (subst (λ (x : Event). Rule middle i x m.item) of m.rule_moved)) place n at
    where
      New : State → Type 0
      New v = (j : ℕ) (a : Tid × ℕ) → slice_get team (suc j) ≡ Some a → IsMeantFor v a.0 a.1

      of_item : (y : Item) → Rule middle i (event.Fork region team) y
          → IfSome (effect p middle i (event.Fork region team) y) New
      of_item (item.Fork f) rule =
          of_region middle i (forked p middle i region team f) New
          (λ k t r. MayFork middle i region team) rule
          (λ k t r is found may j a at'. record {
            task = member_task p region k t r f (suc j) a.1;
            live = members_found (member_task p region k t r f) team middle.tasks i (new_team middle.tasks i team may.tasks_new may.distinct) (suc j) a at';
            waiting = ap (λ b. if b then Begun else NotBegun) (ne_eqb (suc j) 0 (suc_zero j));
            thread = refl;
          })
      of_item y rule = tt

-- a task that another thread is to run has not begun still
module _ (p : Program) (events : List (ℕ × Event)) (s : State) (reached : Reached p events s) (i : ℕ)
    (e : Event) (next : State) (step : Step p s i e next) where
  abbrev own : IsMove p s i e next
  own = move_of p s i e next step

  abbrev StillMeant : Tid → Task → Type 0
  StillMeant k t =
      (v : Task) → task_of s k ≡ Some v → v.progress ≡ NotBegun → v.thread ≢ i → (t.progress ≡ NotBegun) × (t.thread ≡ v.thread)

  still_meant : EachTask StillMeant next
  still_meant =
      task_step_from p (λ k t. Unit {0}) StillMeant s i e next own (λ k t is taken q. kept k t is.live)
      (λ k t ne live q. kept k t live) law (λ k t live. tt)
    where
      begun_waits : Begun ≡ NotBegun → ⊥
      begun_waits h = cc

      deferred_waits : Deferred ≡ NotBegun → ⊥
      deferred_waits h = cc

      kept : (k : Tid) (t : Task) → task_of s k ≡ Some t → (v : Task) → task_of s k ≡ Some v
          → v.progress ≡ NotBegun → v.thread ≢ i → (t.progress ≡ NotBegun) × (t.thread ≡ v.thread)
      kept k t live v found waits ne =
          (ap (λ (x : Task). x.progress) (some_same live found) ∙ waits, ap (λ (x : Task). x.thread) (some_same live found))

      relists : IsRelisted s (moved_on s i e own.item own.behind)
      relists = is_relisted s i (stays (encounter s i) e own.item own.behind)

      law : EachTask StillMeant (moved_on s i e own.item own.behind)
          → IsTaskLaw p (moved_on s i e own.item own.behind) i e own.item next StillMeant
      law all = record {
        frees = λ k t free how q. q;
        shows = λ k t x q. q;
        tools = λ k t x q. q;
        groups = λ k t count is how q. q;
        sets = λ k t icv value v f at_set q. q;
        begins = λ k t waits mine by q v found was ne. absurd (ne (sym (q v found was ne).1 ∙ mine));
        finishes = λ k t is over q v found was ne. absurd (begun_waits (sym (current_begun p events s reached i k v (sym (relists.currents i) ∙ is.name) found).0 ∙ was));
        starts = λ k t j o x is live ex de may of by q v found was ne. absurd (deferred_waits (sym de ∙ (q v found was ne).0));
        members = λ region team f k t r is found may new of by j n at v was waits ne.
            absurd (new_name s i (stays (encounter s i) e own.item own.behind) n.0 v (subst (λ (b : Tid × ℕ). IsFresh (moved_on s i e own.item own.behind).tasks i b.0.0) (get_or_from_slice_get team j n n at) (may.tasks_new j n (slice_get_within team j n at))) was);
        deferred = λ task f final seen k t is of fresh v was waits ne. absurd (new_name s i (stays (encounter s i) e own.item own.behind) task v fresh was);
        made = λ task f final k t is of fresh by v was waits ne. absurd (new_name s i (stays (encounter s i) e own.item own.behind) task v fresh was);
      }

  pub meant_after : (k : Tid) (w : ℕ) → w ≢ i → IsMeantFor s k w → IsMeantFor next k w
  meant_after k w ne is =
      let (t, live, same) = (stays_step p s i e next step).tasks k is.task is.live (needed_waiting s k is.task is.waiting) in
      let (waits, thread) = still_meant k t live is.task is.live is.waiting (λ h. ne (sym is.thread ∙ h)) in
      record { task = t; live = live; waiting = waits; thread = thread ∙ is.thread }
