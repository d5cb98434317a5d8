-- Who made regions and tasks, and on which threads.
use Rattle.std.proofs.Common.{◌≡◌, ◌==◌, ◌⊎◌, inl, inr, ℕ, zero, suc, Bool, true, false, List, [], ◌∷◌, slice_get, Some, None, refl, sym, ap, ◌∙◌, subst}
use Rattle.std.specs.Prelude.{MatchBool}
use Rattle.std.proofs.lemmas.Option.{get_or_from_slice_get, slice_get_within}
use Rattle.omi_script.specs.declared.program.Program.{Program}
use Rattle.omi_model.specs.declared.event.Event.{Event}
use Rattle.omi_model.specs.declared.id.Rid.{Rid}
use Rattle.omi_model.specs.declared.id.Tid.{Tid}
use Rattle.omi_model.specs.declared.item.Item.{Item}
use Rattle.omi_model.specs.declared.item.Item.TheVariants as item
use Rattle.omi_model.specs.declared.progress.Progress.TheVariants.{Begun, Deferred, NotBegun}
use Rattle.omi_model.specs.declared.region.Region.{Region}
use Rattle.omi_model.specs.declared.task.Task.{Task}
use Rattle.omi_model.specs.Changes.{IsCurrent}
use Rattle.omi_model.specs.LawEncounters.{IsNamedByFirst, IsThreadOf}
use Rattle.omi_model.specs.LawLineage.{IsLineage}
use Rattle.omi_model.specs.LawStays.{IsNeededRegion, Stays}
use Rattle.omi_numbers.specs.declared.states.TheConstants.{WAIT_TASKGROUP, WAIT_TASKWAIT}
use Rattle.omi_model.specs.Opening.{initial_region, opening, opening_region}
use Rattle.omi_model.specs.Reached.{Reached, Step}
use Rattle.omi_model.specs.State.{State, task_of}
use Rattle.omi_model.specs.Groups.{IsInInnermost}
use Rattle.omi_model.specs.Tasking.{MayStartAt}
use Rattle.omi_model.specs.Teams.{got_threads}
use Rattle.omi_model.proofs.claims.AsksOrder.{map_at}
use Rattle.omi_model.proofs.ChainsKept.{current_begun}
use Rattle.omi_model.proofs.EachObject.{EachRegion, EachTask, IsRegionLaw, IsTaskLaw, region_step, task_step}
use Rattle.omi_model.proofs.GeneratingChains.{have_line, on_lineage, was}
use Rattle.omi_model.proofs.Innermost.{innermost_own}
use Rattle.omi_model.proofs.MembersKnown.{members_known}
use Rattle.omi_model.proofs.NamesKept.{names_kept}
use Rattle.omi_model.proofs.OpeningObjects.{each_first_region, each_first_task}
use Rattle.omi_model.proofs.ReachedStates.{over_reached}
use Rattle.omi_model.proofs.Slots.{false_true, none_some, some_same}
use Rattle.omi_model.proofs.StaysKept.{needed_region, stays_step}
use Rattle.omi_model.proofs.Steps.{IsRelisted}
use Rattle.omi_model.proofs.TeamsMade.{names_made}

-- the encountering task of a region, where it lives
abbrev pub IsMetBy : State → Rid → Region → Type 0
IsMetBy s n r = (k : Tid) → r.encountering ≡ Some k → (t : Task) → task_of s k ≡ Some t
    → (t.progress ≡ Deferred → ⊥) × (t.thread ≡ n.0.creator) × (r.enclosing ≡ Some t.region)

abbrev pub IsFirstAlone : Rid → Region → Type 0
IsFirstAlone n r = (r.encountering ≡ None → n ≡ initial_region) × (r.enclosing ≡ None → n ≡ initial_region)

-- the threads of an explicit task
abbrev pub IsOnMembers : State → Tid → Task → Type 0
IsOnMembers s k t =
    t.implicit ≡ false → ((j : ℕ) × IsThreadOf s t.region j k.0.creator) × ((t.progress ≡ Deferred → ⊥) → IsThreadOf s t.region t.number t.thread)

pub record AreMade (s : State) : Type 0 where
  pub named : EachRegion (λ n r. IsNamedByFirst n r.team) s
  pub met : EachRegion (IsMetBy s) s
  pub initial : EachRegion IsFirstAlone s
  pub members : EachTask (IsOnMembers s) s

thread_later : (s u : State) → Stays s u → (n : Rid) (j w : ℕ) → ((r : Region) → IsNeededRegion s n r)
    → IsThreadOf s n j w → IsThreadOf u n j w
thread_later s u stay n j w need (r, m, found, at, same) =
    let (q, found_q, kept) = stay.regions n r found (need r) in
    (q, m, found_q, ap (λ xs. slice_get xs j) kept.team ∙ at, same)

begun_deferred : Begun ≡ Deferred → ⊥
begun_deferred e = cc

waits_not : (t : Task) → t.progress ≡ NotBegun → t.progress ≡ Deferred → ⊥
waits_not t a d = cc

-- an explicit task is of the region of its generating task
pub child_region : (s : State) (u v : Task) (k : Tid) (gs : List Tid)
    → IsLineage s u.implicit u.region u.generating gs → u.implicit ≡ false → u.generating ≡ Some k
    → task_of s k ≡ Some v → v.region ≡ u.region
child_region s u v k [] im ex by found = absurd (false_true (sym ex ∙ im))
child_region s u v k (g ∷ gs) (explicit, w, met, live, here, started, rest) ex by found =
    let same : g ≡ k = some_same met by in
    let one : w ≡ v = some_same live (ap (task_of s) same ∙ found) in
    ap (λ (x : Task). x.region) (sym one) ∙ here

-- a task starts in its own region
start_region : (x : Item) (k : Tid) (t u : Task) → MayStartAt x k t u
    → (u.generating ≡ Some k) ⊎ (IsInInnermost k t u ⊎ (u.region ≡ t.region))
start_region (item.Tasks state) k t u may = go (state == WAIT_TASKWAIT) (state == WAIT_TASKGROUP) may
  where
    go : (b c : Bool) → MatchBool b (u.generating ≡ Some k) (MatchBool c (IsInInnermost k t u) (u.region ≡ t.region))
        → (u.generating ≡ Some k) ⊎ (IsInInnermost k t u ⊎ (u.region ≡ t.region))
    go true c h = inl h
    go false true h = inr (inl h)
    go false false h = inr (inr h)
start_region item.OneTask k t u may = inl may
start_region x k t u may = absurd may

module _ (p : Program) (events : List (ℕ × Event)) (s : State) (reached : Reached p events s) (i : ℕ)
    (e : Event) (next : State) (step : Step p s i e next) (all : AreMade s) where
  stay : Stays s next
  stay = stays_step p s i e next step

  named_step : EachRegion (λ n r. IsNamedByFirst n r.team) next
  named_step = region_step p (λ n r. IsNamedByFirst n r.team) s i e next step law all.named
    where
      law : (middle : State) → IsRelisted s middle → Stays middle next
          → IsRegionLaw p middle i next (λ n r. IsNamedByFirst n r.team)
      law middle relists later = record {
        arrives = λ k t r is found q. q;
        releases = λ k t r is found may q. q;
        ends = λ k t r is found im other q. q;
        joins = λ k t r is found may q. q;
        forks = λ region team f k t r is found may new. record {
          first = λ m at.
              let own : i ≡ m.1 =
              some_same {o = slice_get (i ∷ got_threads (middle.threads i).asks) 0} refl
              (ap (λ xs. slice_get xs 0) (sym may.threads) ∙ map_at (λ (a : Tid × ℕ). a.1) team 0 m at) in
              sym own ∙ sym may.region_new.creator;
          tasks = λ j m at.
              ap (λ (b : Tid × ℕ). b.0.0.creator) (sym (get_or_from_slice_get team j m m at)) ∙ ((may.tasks_new j m (slice_get_within team j m at)).creator ∙ sym may.region_new.creator);
        };
      }

  met_step : EachRegion (IsMetBy next) next
  met_step = region_step p (IsMetBy next) s i e next step law
      (λ n r live k met v found_v.
      let made = (names_made p events s reached n r live).encountering k met in
      let (t, found) = (names_kept p s i e next step).1.back k.0 v made found_v in
      let (un, thread, enclosing) = all.met n r live k met t found in
      let kept = stay.alike k t v found found_v in
      (kept.started un, kept.thread un ∙ thread, enclosing ∙ ap (λ (x : Rid). Some x) (sym kept.region)))
    where
      law : (middle : State) → IsRelisted s middle → Stays middle next
          → IsRegionLaw p middle i next (IsMetBy next)
      law middle before later = record {
        arrives = λ k t r is found q. q;
        releases = λ k t r is found may q. q;
        ends = λ k t r is found im other q. q;
        joins = λ k t r is found may q. q;
        forks = λ region team f k t r is found may new n met u found_u.
            let (v, xs, cur, same) = was p events s reached i e next step middle before k t is in
            let one : k ≡ n = some_same refl met in
            let kept = stay.alike k v u cur.live (ap (task_of next) one ∙ found_u) in
            let runs = current_begun p events s reached i k v cur.name cur.live in
            let un : v.progress ≡ Deferred → ⊥ = λ d. begun_deferred (sym runs.0 ∙ d) in (
              kept.started un,
              kept.thread un ∙ (runs.1 ∙ sym may.region_new.creator),
              ap (λ (x : Rid). Some x) (ap (λ (x : Task). x.region) same ∙ sym kept.region),
            );
      }

  initial_step : EachRegion IsFirstAlone next
  initial_step = region_step p IsFirstAlone s i e next step law all.initial
    where
      law : (middle : State) → IsRelisted s middle → Stays middle next
          → IsRegionLaw p middle i next IsFirstAlone
      law middle before later = record {
        arrives = λ k t r is found q. q;
        releases = λ k t r is found may q. q;
        ends = λ k t r is found im other q. q;
        joins = λ k t r is found may q. q;
        forks = λ region team f k t r is found may new. (λ none. absurd (none_some none refl), λ none. absurd (none_some none refl));
      }

  -- the thread of the event is a member's, of the region of its current task
  current_member : (middle : State) → IsRelisted s middle → (k : Tid) (t : Task) → IsCurrent middle i k t
      → IsThreadOf next t.region t.number i
  current_member middle before k t is =
      let (v, xs, cur, same) = was p events s reached i e next step middle before k t is in
      let runs = current_begun p events s reached i k v cur.name cur.live in
      subst (λ (x : Task). IsThreadOf next x.region x.number i) (sym same)
      (thread_later s next stay v.region v.number i (needed_region s k v cur.live) (go v cur.live runs.0 runs.1 v.implicit refl))
    where
      go : (v : Task) → task_of s k ≡ Some v → v.progress ≡ Begun → v.thread ≡ i → (b : Bool) → v.implicit ≡ b
          → IsThreadOf s v.region v.number i
      go v live begun mine true im =
          let (r, found, at) = (members_known p events s reached).tasks k v live im in (r, (k, v.thread), found, at, mine)
      go v live begun mine false ex =
          subst (IsThreadOf s v.region v.number) mine
          ((all.members k v live ex).1 (λ d. begun_deferred (sym begun ∙ d)))

  members_step : EachTask (IsOnMembers next) next
  members_step = task_step p (IsOnMembers next) s i e next step (λ k t y ys is taken q. q) law
      (λ k t live ex.
      let h = all.members k t live ex in
      let (j, at) = h.0 in
      let need = needed_region s k t live in
      ((j, thread_later s next stay t.region j k.0.creator need at), λ un. thread_later s next stay t.region t.number t.thread need (h.1 un)))
    where
      law : (middle : State) (y : Item) → IsRelisted s middle → Stays middle next
          → EachTask (IsOnMembers next) middle → IsTaskLaw p middle i e y next (IsOnMembers next)
      law middle y before later of_tasks = record {
        frees = λ k t free how q. q;
        shows = λ k t x q. q;
        tools = λ k t x q. q;
        groups = λ k t count is how q. q;
        sets = λ k t icv value v f at_set q. q;
        begins = λ k t waits mine by q ex. let h = q ex in (h.0, λ un. h.1 (waits_not t waits));
        finishes = λ k t is over q ex. let h = q ex in (h.0, λ un. h.1 (current_undeferred k t is));
        starts = λ k u j t x is live ex de may of by q ex'. ((q ex).0, λ un. start_member k u j t x is live ex may);
        members = λ region team f k t r is found may new of by j n at ex. absurd (false_true (sym ex));
        deferred = λ task f final seen k t is of fresh ex. (made_by task k t is fresh.creator, λ un. absurd (un refl));
        made = λ task f final k t is of fresh by ex. (made_by task k t is fresh.creator, λ un. current_member middle before k t is);
      }
        where
          current_undeferred : (k : Tid) (t : Task) → IsCurrent middle i k t → t.progress ≡ Deferred → ⊥
          current_undeferred k t is d =
              let (v, xs, cur, same) = was p events s reached i e next step middle before k t is in
              begun_deferred
              (sym (current_begun p events s reached i k v cur.name cur.live).0 ∙ (ap (λ (x : Task). x.progress) (sym same) ∙ d))

          made_by : (task k : Tid) (t : Task) → IsCurrent middle i k t → task.0.creator ≡ i
              → (j : ℕ) × IsThreadOf next t.region j task.0.creator
          made_by task k t is own =
              (t.number, subst (IsThreadOf next t.region t.number) (sym own) (current_member middle before k t is))

          start_member : (k : Tid) (u : Task) (j : Tid) (t : Task) (x : Item) → IsCurrent middle i j t
              → task_of middle k ≡ Some u → u.implicit ≡ false → MayStartAt x j t u
              → IsThreadOf next u.region t.number i
          start_member k u j t x is live ex may =
              subst (λ n. IsThreadOf next n t.number i) (sym (go (start_region x j t u may)))
              (current_member middle before j t is)
            where
              go : (u.generating ≡ Some j) ⊎ (IsInInnermost j t u ⊎ (u.region ≡ t.region)) → u.region ≡ t.region
              go (inr (inr same)) = same
              go (inr (inl (g, innermost_is, member))) =
                  let (v, xs, live_v, same) = before.tasks k u live in
                  let (w, ys, cur, same_w) = was p events s reached i e next step middle before j t is in
                  let (gs, chain, owners) = have_line p events s reached k v live_v in
                  let own : g.owner ≡ j = (innermost_own j t g innermost_is).0 in
                  let (o, found, region, begun) =
                  on_lineage s v.implicit v.region v.generating gs chain g.owner (owners g (ap (λ (x : Task). x.group) (sym same) ∙ member)) in
                  let one : o ≡ w = some_same found (ap (task_of s) own ∙ cur.live) in
                  ap (λ (x : Task). x.region) same
                  ∙ (sym region ∙ (ap (λ (x : Task). x.region) one ∙ ap (λ (x : Task). x.region) (sym same_w)))
              go (inl child) =
                  let (v, xs, live_v, same) = before.tasks k u live in
                  let (w, ys, cur, same_w) = was p events s reached i e next step middle before j t is in
                  let (gs, chain, owners) = have_line p events s reached k v live_v in
                  ap (λ (x : Task). x.region) same
                  ∙
                  (sym (child_region s v w j gs chain (ap (λ (x : Task). x.implicit) (sym same) ∙ ex) (ap (λ (x : Task). x.generating) (sym same) ∙ child) cur.live) ∙ ap (λ (x : Task). x.region) (sym same_w))

  pub made_step : AreMade next
  made_step = record { named = named_step; met = met_step; initial = initial_step; members = members_step }

pub are_made : (p : Program) (events : List (ℕ × Event)) (s : State) → Reached p events s → AreMade s
are_made p events s reached =
    over_reached p AreMade
    (λ first u first_reached i e next step h. made_step p first u first_reached i e next step h) []
    (opening p) refl events s reached
    (record {
      named = each_first_region p (λ n r. IsNamedByFirst n r.team) (record { first = λ m at. ap (λ (a : Tid × ℕ). a.1) (sym (some_same refl at)); tasks = λ j m at. first_task j m at });
      met = each_first_region p (IsMetBy (opening p)) (λ k met t live. absurd (none_some refl met));
      initial = each_first_region p IsFirstAlone (λ none. refl, λ none. refl);
      members = each_first_task p (IsOnMembers (opening p)) (λ ex. absurd (false_true (sym ex)));
    })
  where
    first_task : (j : ℕ) (m : Tid × ℕ) → slice_get (opening_region p).team j ≡ Some m → m.0.0.creator ≡ 0
    first_task zero m at = ap (λ (a : Tid × ℕ). a.0.0.creator) (sym (some_same refl at))
    first_task (suc j) m at = absurd (none_some refl at)
