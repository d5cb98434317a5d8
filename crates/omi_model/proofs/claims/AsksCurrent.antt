-- A task whose list has asks next is the current task of its thread, which then makes only asks and the fork.
use Rattle.std.proofs.Common.{◌≡◌, ◌≢◌, ◌+◌, ◌⊎◌, inl, inr, ℕ, Bool, true, false, List, [], ◌∷◌, ◌++◌, Option, Some, None, refl, sym, ap, ◌∙◌, subst}
use Rattle.std.specs.Prelude.{IfSome}
use Rattle.std.specs.Option.{option_and_then, option_map_or}
use Rattle.std.proofs.lemmas.Bool.{cases_eq}
use Rattle.std.proofs.lemmas.Option.{get_or_from_slice_get, slice_get_within}
use Rattle.omi_script.specs.declared.program.Program.{Program}
use Rattle.omi_model.specs.declared.claim.Claim.TheVariants as claim
use Rattle.omi_model.specs.declared.event.Event.{Event}
use Rattle.omi_model.specs.declared.event.Event.TheVariants as event
use Rattle.omi_model.specs.declared.freeable.Freeable.{Freeable}
use Rattle.omi_model.specs.declared.id.Tid.{Tid}
use Rattle.omi_model.specs.declared.item.Item.{Item}
use Rattle.omi_model.specs.declared.item.Item.TheVariants as item
use Rattle.omi_model.specs.declared.progress.Progress.TheVariants.{Begun, Deferred, Finished}
use Rattle.omi_model.specs.declared.task.Task.{Task}
use Rattle.omi_model.specs.declared.thread.Thread.{Thread}
use Rattle.omi_model.specs.Changes.{IsCurrent, encounter, ahead_of, in_front, on_thread, with_list}
use Rattle.omi_model.specs.Fresh.{IsFresh}
use Rattle.omi_model.specs.LawClaims.{IsForking, asks_next}
use Rattle.omi_model.specs.Lists.{fits, stays, take_item}
use Rattle.omi_model.specs.Opening.{opening}
use Rattle.omi_model.specs.Reached.{Reached, Step}
use Rattle.omi_model.specs.Rules.{Rule, effect}
use Rattle.omi_model.specs.State.{State, task_of}
use Rattle.omi_model.specs.Teams.{asked}
use Rattle.omi_model.proofs.claims.AsksPlaced.{StartsPlaced, asks_at_head, asks_taken, is_asking, is_forking, main_plain, member_plain, start_plain, stays_asking, stays_placed, take_placed, task_plain, Placed}
use Rattle.omi_model.proofs.BarrierSteps.{current_after}
use Rattle.omi_model.proofs.ChainsKept.{current_begun, current_kept, have_chains}
use Rattle.omi_model.proofs.EachObject.{EachTask, IsFreeing, IsGoingOn, IsTaskLaw, ahead_of_current, law_of_lasting, task_step_from}
use Rattle.omi_model.proofs.MembersKnown.{first_scheduled, members_known}
use Rattle.omi_model.proofs.ListLaws.{take_fits, by_taken, is_frees, taken_plain}
use Rattle.omi_model.proofs.OpenNames.{open_names}
use Rattle.omi_model.proofs.OpeningObjects.{each_first_task}
use Rattle.omi_model.proofs.ReachedStates.{over_reached}
use Rattle.omi_model.proofs.Slots.{each_put, false_true, found_live, none_some, put_same, some_same}
use Rattle.omi_model.proofs.StaysKept.{fresh_empty, list_keeps}
use Rattle.omi_model.proofs.Steps.{IsMove, IsRelisted, from_some, is_relisted, move_of, moved_on, relisted}
use Rattle.omi_model.proofs.claims.WorkerLists.{have_places, taken_at}
use Rattle.omi_model.specs.LawChains.{IsApart}
use Rattle.omi_model.proofs.Chains.{top_of}

-- the asks stand in their places; where they are next, the task is current, and runs
pub record HasAsks (s : State) (k : Tid) (t : Task) : Type 0 where
  pub placed : StartsPlaced t.list
  pub first : t.progress ≡ Deferred → asks_next t.list ≡ false
  pub top : asks_next t.list ≡ true → (s.threads t.thread).current ≡ Some k
  pub alone : asks_next t.list ≡ true → t.frees ≡ None

-- the same after an event of thread i that takes an item, by the state before
pub record AreNext (s : State) (i : ℕ) (y : Item) (k : Tid) (t : Task) : Type 0 where
  pub before : (s.threads t.thread).current ≡ Some k
  pub asking : (s.threads i).current ≡ Some k → is_asking y ≡ true
  pub was : ((s.threads i).current ≡ Some k → ⊥)
      → (v : Task) × (task_of s k ≡ Some v) × (asks_next v.list ≡ true)

pub record HadAsks (s : State) (i : ℕ) (y : Item) (k : Tid) (t : Task) : Type 0 where
  pub placed : StartsPlaced t.list
  pub first : t.progress ≡ Deferred → asks_next t.list ≡ false
  pub top : asks_next t.list ≡ true → AreNext s i y k t
  pub alone : asks_next t.list ≡ true → t.frees ≡ None

-- a task that was there, and that this thread does not run, has its asks next still
abbrev pub KeepsAsks : State → ℕ → Tid → Task → Type 0
KeepsAsks s i k t =
    (v : Task) → task_of s k ≡ Some v → asks_next v.list ≡ true → ((s.threads i).current ≡ Some k → ⊥) → asks_next t.list ≡ true

begun_deferred : Begun ≡ Deferred → ⊥
begun_deferred e = cc

finished_deferred : Finished ≡ Deferred → ⊥
finished_deferred e = cc

-- a want and an ask leave the current task of the thread
asking_current : (p : Program) (u : State) (i : ℕ) (e : Event) (y : Item) → fits e y ≡ true
    → is_asking y ≡ true → Rule u i e y
    → IfSome (effect p u i e y) (λ v. (v.threads i).current ≡ (u.threads i).current)
asking_current p u i (event.Want n) (item.Want num) fit is rule =
    ap (λ (h : Thread). h.current) (put_same u.threads i (record (u.threads i) { wanted = n; asks = [] }))
asking_current p u i (event.Ask w true) item.Asks fit is rule =
    let listed : State = on_thread u i (λ h. record h { asks = h.asks ++ (w, true) ∷ [] }) in
    each_put (λ j (h : Thread). j ≡ i → h.current ≡ (u.threads i).current) listed.threads w
    (record (listed.threads w) { claim = claim.By i })
    (λ same. absurd (rule.other same)) i
    (λ ne same. ap (λ (h : Thread). h.current) (put_same u.threads i (record (u.threads i) { asks = (u.threads i).asks ++ (w, true) ∷ [] }))) refl
asking_current p u i (event.Ask w false) item.Asks fit is rule =
    ap (λ (h : Thread). h.current)
    (put_same u.threads i (record (u.threads i) { asks = (u.threads i).asks ++ (w, false) ∷ [] }))
asking_current p u i e (item.Want num) fit is rule = absurd (false_true fit)
asking_current p u i e item.Asks fit is rule = absurd (false_true fit)
asking_current p u i e y fit is rule = absurd (false_true is)

asks_only : (w : ℕ) (got : Bool) (y : Item) → fits (event.Ask w got) y ≡ true → y ≡ item.Asks
asks_only w got item.Asks fit = refl
asks_only w got y fit = absurd (false_true fit)

-- a new name was none
pub new_name : (s : State) (i : ℕ) (zs : List Item) (n : Tid) (v : Task)
    → IsFresh (with_list s i zs).tasks i n.0 → task_of s n ≡ Some v → ⊥
new_name s i zs n v fresh found =
    let next : State = with_list s i zs in
    let (w, found_w, same) = list_keeps s i zs n v found in
    none_some (fresh_empty next.tasks i n.0 fresh)
    (found_live n.0.generation (next.tasks n.0.creator n.0.slot) w found_w)

forking_plain : (y : Item) → is_forking y ≡ true → is_frees y ≡ false
forking_plain (item.Frees n) forks = absurd (false_true forks)
forking_plain y forks = refl

-- an ask or a fork is taken where a fork is in the making
pub forking_taken : (p : Program) (events : List (ℕ × Event)) (s : State) → Reached p events s
    → (i : ℕ) (e : Event) → EachTask (HasAsks s) s → (y : Item) (ys : List Item)
    → take_item p (encounter s i) e (ahead_of s i) ≡ Some (y, ys) → is_forking y ≡ true → IsForking s i
forking_taken p events s reached i e all y ys is_taken forks = of_current (s.threads i).current refl
  where
    of_current : (o : Option Tid) → (s.threads i).current ≡ o → IsForking s i
    of_current None none =
        let place = have_places p events s reached i in
        let list : ahead_of s i ≡ (s.threads i).list =
        ap
        (λ (o : Option Tid). option_map_or (λ (u : Task). in_front u.frees u.list) (option_and_then (task_of s) o) (s.threads i).list) none in
        let t =
        taken_at p (encounter s i) e y ys place.place
        (ap (take_item p (encounter s i) e) (sym (list ∙ place.list)) ∙ is_taken) in
        absurd (false_true (sym t.plain ∙ forks))
    of_current (Some k) name =
        let (t, live, un) = (open_names p events s reached).currents i k name in
        let is : IsCurrent s i k t = record { name = name; live = live } in
        let taken =
        taken_plain p (encounter s i) e t.frees t.list y ys (forking_plain y forks)
        (ap (take_item p (encounter s i) e) (sym (ahead_of_current s i k t is)) ∙ is_taken) in
        record { name = k; task = t; current = is; next = asks_at_head p (encounter s i) e y ys t.list (all k t live).placed taken forks }

module _ (p : Program) (events : List (ℕ × Event)) (s : State) (reached : Reached p events s) (i : ℕ)
    (e : Event) (next : State) (step : Step p s i e next) (all : EachTask (HasAsks s) s) where
  abbrev m : IsMove p s i e next
  m = move_of p s i e next step

  abbrev middle : State
  middle = moved_on s i e m.item m.behind

  before : IsRelisted s middle
  before = is_relisted s i (stays (encounter s i) e m.item m.behind)

  item_fits : fits e m.item ≡ true
  item_fits = take_fits p (encounter s i) e (ahead_of s i) m.item m.behind m.taken

  current_undeferred : (k : Tid) (t : Task) → IsCurrent s i k t → t.progress ≡ Deferred → ⊥
  current_undeferred k t is d =
      begun_deferred (sym (current_begun p events s reached i k t is.name is.live).0 ∙ d)

  -- each task of the next state, by the state before
  had_asks : EachTask (HadAsks s i m.item) next
  had_asks = task_step_from p (HasAsks s) (HadAsks s i m.item) s i e next m moves others law all
    where
      moves : (k : Tid) (t : Task) → IsCurrent s i k t
          → take_item p (encounter s i) e (in_front t.frees t.list) ≡ Some (m.item, m.behind) → HasAsks s k t
          → HadAsks s i m.item k (relisted (stays (encounter s i) e m.item m.behind) t)
      moves k t is taken q =
          let placed = front_placed (asks_next t.list) refl in
          record {
            placed = stays_placed (encounter s i) e m.item m.behind placed;
            first = λ d. absurd (current_undeferred k t is d);
            top = λ asks. record {
              before = ap (λ j. (s.threads j).current) (current_begun p events s reached i k t is.name is.live).1 ∙ is.name;
              asking = λ name. stays_asking (encounter s i) e m.item m.behind placed asks;
              was = λ other. absurd (other is.name);
            };
            alone = λ asks. refl;
          }
        where
          front_placed : (b : Bool) → asks_next t.list ≡ b → Placed (m.item ∷ m.behind)
          front_placed true asks =
              take_placed p (encounter s i) e t.list m.item m.behind
              (subst (λ f. take_item p (encounter s i) e (in_front f t.list) ≡ Some (m.item, m.behind)) (q.alone asks) taken) q.placed.0
          front_placed false asks =
              by_taken p (encounter s i) e t.frees t.list m.item m.behind (λ f y ys. Placed (y ∷ ys)) taken
              (λ from. take_placed p (encounter s i) e t.list m.item m.behind from q.placed.0)
              (λ task n. ((asks, q.placed.1), q.placed.0))

      others : (k : Tid) (t : Task) → ((s.threads i).current ≡ Some k → ⊥) → task_of s k ≡ Some t
          → HasAsks s k t → HadAsks s i m.item k t
      others k t ne live q = record {
        placed = q.placed;
        first = q.first;
        top = λ asks. record { before = q.top asks; asking = λ name. absurd (ne name); was = λ other. (t, live, asks) };
        alone = q.alone;
      }

      -- a list that begins with neither
      plain : (k : Tid) (t : Task) → StartsPlaced t.list → asks_next t.list ≡ false → HadAsks s i m.item k t
      plain k t placed none = record { placed = placed; first = λ d. none; top = λ asks. absurd (false_true (sym none ∙ asks)); alone = λ asks. absurd (false_true (sym none ∙ asks)) }

      -- the task that goes on where this one ends is the one that this one was scheduled from
      goes_on : (j : Tid) (u : Task) → IsCurrent middle i j u → (k : Tid) → IsGoingOn middle u k → u.scheduling ≡ Some k
      goes_on j u is k (inl from) = from
      goes_on j u is k (inr (r, found, im, first, from)) =
          first_scheduled s middle (members_known p events s reached) before j u r is.live im first found ∙ from

      -- a task that asks for threads is current, and no task in front of what it has ahead may be given back
      no_asks : (k : Tid) (t : Task) (free : Option Freeable) → IsFreeing middle i e m.item k free → AreNext s i m.item k t
          → ⊥
      no_asks k t free (inr (n, task, of, frees, name, behind)) h =
          false_true (sym (ap is_asking of) ∙ h.asking (sym (before.currents i) ∙ name))
      no_asks k t free (inl (j, u, is, over, from, next_is)) h =
          let (v, xs, live, same) = before.tasks j u is.live in
          let name : (s.threads i).current ≡ Some j = sym (before.currents i) ∙ is.name in
          let (ks, chain) = have_chains p events s reached i in
          let (ns, v', list, apart, live', mine, begun, rest) = top_of s i (s.threads i).current ks j name chain in
          let below : v'.scheduling ≡ Some k =
          ap (λ (x : Task). x.scheduling) (some_same live' live) ∙ (ap (λ (x : Task). x.scheduling) (sym same) ∙ goes_on j u is k from) in
          let (ms, w, list_k, apart_k, live_k, mine_k, begun_k, rest_k) = top_of s i v'.scheduling ns k below rest in
          let here : t.thread ≡ i =
          sym (current_begun p events s reached t.thread k w h.before live_k).1 ∙ mine_k in
          let one : j ≡ k = some_same name (ap (λ c. (s.threads c).current) (sym here) ∙ h.before) in
          (subst (IsApart j) list_k apart).0 one

      law : EachTask (HadAsks s i m.item) middle → IsTaskLaw p middle i e m.item next (HadAsks s i m.item)
      law of_tasks = record {
        frees = λ k t free how q. record {
          placed = q.placed;
          first = q.first;
          top = λ asks. let h = q.top asks in record { before = h.before; asking = h.asking; was = h.was };
          alone = λ asks. absurd (no_asks k t free how (q.top asks));
        };
        shows = λ k t x q. record { placed = q.placed; first = q.first; top = λ asks. let h = q.top asks in record { before = h.before; asking = h.asking; was = h.was }; alone = q.alone };
        tools = λ k t x q. record { placed = q.placed; first = q.first; top = λ asks. let h = q.top asks in record { before = h.before; asking = h.asking; was = h.was }; alone = q.alone };
        groups = λ k t count is how q. record { placed = q.placed; first = q.first; top = λ asks. let h = q.top asks in record { before = h.before; asking = h.asking; was = h.was }; alone = q.alone };
        sets = λ k t icv value v f at_set q. record {
          placed = q.placed;
          first = q.first;
          top = λ asks. let h = q.top asks in record { before = h.before; asking = h.asking; was = h.was };
          alone = q.alone;
        };
        begins = λ k t waits mine by q. record {
          placed = q.placed;
          first = λ d. absurd (begun_deferred d);
          top = λ asks. let h = q.top asks in record { before = h.before; asking = h.asking; was = h.was };
          alone = q.alone;
        };
        finishes = λ k t is over q. record {
          placed = q.placed;
          first = λ d. absurd (finished_deferred d);
          top = λ asks. let h = q.top asks in record { before = h.before; asking = h.asking; was = h.was };
          alone = q.alone;
        };
        starts = λ k u j t x is live ex de may of by q. let h = start_plain x (encounter middle i) u.list ((q.first de, q.placed.1), q.placed.0) in plain k _ (h.1, h.0.1) h.0.0;
        members = λ region team f k t r is found may new of by j n at. let h = member_plain p
            (record { debug = p.env.debug; number = j; level = r.levels + 1; is_final = false }) f in plain
            n.0 _ (h.1, h.0.1) h.0.0;
        deferred = λ task f final seen k t is of fresh. let h = task_plain p f in plain task _ (h.1, h.0.1) h.0.0;
        made = λ task f final k t is of fresh by. let h = task_plain p f in plain task _ (h.1, h.0.1) h.0.0;
      }

  pub asks_step : EachTask (HasAsks next) next
  asks_step k t live =
      let h = had_asks k t live in
      record { placed = h.placed; first = h.first; top = λ asks. go asks (h.top asks) (cases_eq t.thread i); alone = h.alone }
    where
      go : asks_next t.list ≡ true → AreNext s i m.item k t → (t.thread ≡ i) ⊎ (t.thread ≢ i)
          → (next.threads t.thread).current ≡ Some k
      go asks h (inl same) =
          let name : (s.threads i).current ≡ Some k = ap (λ j. (s.threads j).current) (sym same) ∙ h.before in
          ap (λ j. (next.threads j).current) same
          ∙ (from_some (λ (v : State). (v.threads i).current ≡ (middle.threads i).current)
          (effect p middle i e m.item) next m.effect_is
          (asking_current p middle i e m.item item_fits (h.asking name) m.rule_moved)
          ∙ (before.currents i ∙ name))
      go asks h (inr other) = current_kept p s i e next step t.thread other ∙ h.before

  keeps_asks : EachTask (KeepsAsks s i) next
  keeps_asks =
      task_step_from p (HasAsks s) (KeepsAsks s i) s i e next m
      (λ k t is taken q v found asks ne. absurd (ne is.name))
      (λ k t ne live q v found asks other. ap (λ (x : Task). asks_next x.list) (some_same live found) ∙ asks) law all
    where
      was_deferred : (k : Tid) (u : Task) → task_of middle k ≡ Some u → u.progress ≡ Deferred → (v : Task)
          → task_of s k ≡ Some v → asks_next v.list ≡ true → ⊥
      was_deferred k u live de v found asks =
          let (w, xs, found_w, same) = before.tasks k u live in
          let d : v.progress ≡ Deferred =
          ap (λ (x : Task). x.progress) (some_same found found_w)
          ∙ (ap (λ (x : Task). x.progress) (sym same) ∙ de) in
          false_true (sym ((all k v found).first d) ∙ asks)

      law : EachTask (KeepsAsks s i) middle → IsTaskLaw p middle i e m.item next (KeepsAsks s i)
      law of_tasks = law_of_lasting p middle i e m.item next (KeepsAsks s i) (record {
        starts = λ k u j t x is live ex de may of by q v found asks ne. absurd (was_deferred k u live de v found asks);
        members = λ region team f k t r is found may new of by j n at v was asks ne.
            absurd (new_name s i (stays (encounter s i) e m.item m.behind) n.0 v
            (subst (λ (b : Tid × ℕ). IsFresh middle.tasks i b.0.0) (get_or_from_slice_get team j n n at)
            (may.tasks_new j n (slice_get_within team j n at))) was);
        deferred = λ task f final seen k t is of fresh v was asks ne. absurd (new_name s i (stays (encounter s i) e m.item m.behind) task v fresh was);
        made = λ task f final k t is of fresh by v was asks ne. absurd (new_name s i (stays (encounter s i) e m.item m.behind) task v fresh was);
      })

  -- ---- forks in the making

  -- an ask or a fork comes where a fork is in the making
  pub forking_by : is_forking m.item ≡ true → IsForking s i
  forking_by forks = forking_taken p events s reached i e all m.item m.behind m.taken forks

  -- and then nothing else comes
  pub forking_item : IsForking s i → is_forking m.item ≡ true
  forking_item f =
      let taken =
      subst (λ x. take_item p (encounter s i) e (in_front x f.task.list) ≡ Some (m.item, m.behind))
      ((all f.name f.task f.current.live).alone f.next)
      (ap (take_item p (encounter s i) e) (sym (ahead_of_current s i f.name f.task f.current)) ∙ m.taken) in
      asks_taken p (encounter s i) e m.item m.behind f.task.list
      (all f.name f.task f.current.live).placed.0 f.next taken

  other_name : (c : ℕ) → c ≢ i → (k : Tid) (t : Task) → IsCurrent s c k t → (s.threads i).current ≡ Some k → ⊥
  other_name c ne k t is name =
      ne
      (sym (current_begun p events s reached c k t is.name is.live).1 ∙ (current_begun p events s reached i k t name is.live).1)

  pub forking_before : (c : ℕ) → c ≢ i → IsForking next c → IsForking s c
  forking_before c ne f =
      let name : (s.threads c).current ≡ Some f.name =
      sym (current_kept p s i e next step c ne) ∙ f.current.name in
      let (t, live, un) = (open_names p events s reached).currents c f.name name in
      let is : IsCurrent s c f.name t = record { name = name; live = live } in
      let (v, found, asks) =
      ((had_asks f.name f.task f.current.live).top f.next).was (other_name c ne f.name t is) in
      record { name = f.name; task = v; current = record { name = name; live = found }; next = asks }

  pub forking_after : (after_reached : Reached p (events ++ (i, e) ∷ []) next) (c : ℕ) → c ≢ i → IsForking s c
      → IsForking next c
  forking_after after_reached c ne f =
      let name : (next.threads c).current ≡ Some f.name =
      current_kept p s i e next step c ne ∙ f.current.name in
      let (t, live, un) = (open_names p (events ++ (i, e) ∷ []) next after_reached).currents c f.name name in
      record {
        name = f.name;
        task = t;
        current = record { name = name; live = live };
        next = keeps_asks f.name t live f.task f.current.live f.next (other_name c ne f.name f.task f.current);
      }

  -- a want or an ask came where this thread's fork is in the making
  pub forking_now : (after_reached : Reached p (events ++ (i, e) ∷ []) next) → IsForking next i
      → is_asking m.item ≡ true
  forking_now after_reached f =
      let h = (had_asks f.name f.task f.current.live).top f.next in
      let mine =
      (current_begun p (events ++ (i, e) ∷ []) next after_reached i f.name f.task f.current.name f.current.live).1 in
      h.asking (ap (λ j. (s.threads j).current) (sym mine) ∙ h.before)

  pub forking_asked : (w : ℕ) (got : Bool) → e ≡ event.Ask w got → IsForking next i
  forking_asked w got of =
      let asks : m.item ≡ item.Asks =
      asks_only w got m.item (subst (λ (x : Event). fits x m.item ≡ true) of item_fits) in
      let f = forking_by (ap is_forking asks) in
      let zs : List Item = stays (encounter s i) e m.item m.behind in
      let is : IsCurrent middle i f.name (relisted zs f.task) =
      current_after s i zs f.name f.task f.current in
      let made : Some (asked middle i w got) ≡ Some next =
      subst (λ (x : Event). effect p middle i x m.item ≡ Some next) of m.effect_is in
      let same : asked middle i w got ≡ next = some_same refl made in
      let kept : (next.threads i).current ≡ (middle.threads i).current =
      from_some (λ (v : State). (v.threads i).current ≡ (middle.threads i).current)
      (effect p middle i e m.item) next m.effect_is
      (asking_current p middle i e m.item item_fits (ap is_asking asks) m.rule_moved) in
      record {
        name = f.name;
        task = relisted zs f.task;
        current = record {
          name = kept ∙ is.name;
          live = ap (λ (u : State). task_of u f.name) (sym same) ∙ (of_asked got f.name ∙ is.live);
        };
        next = ap (λ (y : Item). asks_next (stays (encounter s i) e y m.behind)) asks;
      }
    where
      of_asked : (b : Bool) (k : Tid) → task_of (asked middle i w b) k ≡ task_of middle k
      of_asked true k = refl
      of_asked false k = refl

pub have_asks : (p : Program) (events : List (ℕ × Event)) (s : State) → Reached p events s
    → EachTask (HasAsks s) s
have_asks p events s reached =
    over_reached p (λ u. EachTask (HasAsks u) u)
    (λ first u first_reached i e next step h. asks_step p first u first_reached i e next step h) []
    (opening p) refl events s reached
    (each_first_task p (HasAsks (opening p))
    (let h = main_plain p (record { debug = p.env.debug; number = 0; level = 0; is_final = false }) in
    record { placed = (h.1, h.0.1); first = λ d. h.0.0; top = λ asks. absurd (false_true (sym h.0.0 ∙ asks)); alone = λ asks. refl }))
