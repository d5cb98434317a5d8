-- Two states that the same words show have the same report.
use Rattle.std.proofs.Common.{◌≡◌, ℕ, zero, suc, ◌-◌, ◌<◌, ◌&&◌, Bool, true, false, cond, List, [], ◌∷◌, map, Option, Some, None, refl, sym, ap, ap₂, subst, ◌∙◌, arith, nat_lt, ltb-true}
use Rattle.std.specs.Prelude.{nat_le, Contains}
use Rattle.std.specs.Option.{option_map, option_and_then}
use Rattle.std.specs.List.{filter_map, cons_option}
use Rattle.omi_numbers.specs.declared.words.TheConstants.{FIRST_NATIVE, OPENMP_VERSION, WAIT_PLACE}
use Rattle.omi_model.specs.declared.id.Rid.{Rid}
use Rattle.omi_model.specs.declared.id.Tid.{Tid}
use Rattle.omi_model.specs.declared.region.Region.{Region}
use Rattle.omi_model.specs.declared.task.Task.{Task}
use Rattle.omi_model.specs.declared.view.View.{View}
use Rattle.omi_model.specs.declared.view.ThreadPart.{ThreadPart}
use Rattle.omi_model.specs.declared.view.RegionRow.{RegionRow}
use Rattle.omi_model.specs.declared.view.TaskRow.{TaskRow}
use Rattle.omi_numbers.specs.Words.{flag, state_word}
use Rattle.omi_numbers.specs.States.{state_numbers}
use Rattle.omi_model.specs.State.{State, task_of, current_task, enclosing_of}
use Rattle.omi_model.specs.Views.{IsViewOf, AreRegions, AreChains, IsChain, IsReported, head_row, thread_row, thread_part, thread_with, region_row, task_row}
use Rattle.omi_model.specs.Visible.{IsVisibleRegion, IsVisibleTask}
use Rattle.omi_model.specs.WellFormed.{HasBegun, along}
use Rattle.omi_model.proofs.OneView.{view_unique}
use Rattle.omi_layout.specs.declared.field.Field.TheVariants.{RuntimeProcs, RuntimeDebug, RuntimeMaxActive, ThreadLife, ThreadCurrent, ThreadState}
use Rattle.omi_layout.specs.Field.{runtime, threads}
use Rattle.omi_layout.specs.Valid.{IsValid}
use Rattle.omi_word.specs.Words.{Words}
use Rattle.omi_rep.specs.Records.{records_of}
use Rattle.omi_rep.specs.Shows.{Shows}
use Rattle.omi_rep.specs.Unique.{FixTheReport}
use Rattle.omi_rep.proofs.Same.{one_word, same_flag, same_tasks}
use Rattle.omi_rep.proofs.SameRows.{same_region_of, same_scheduling, same_number, same_enclosing, same_task_row, same_region_row}

-- what a list of what is there has is told by an element
from_list : {A B : Type 0} (h : A → Option B) (xs : List A) (y : B) → Contains (filter_map h xs) y
    → (x : A) × (h x ≡ Some y)
from_list h [] y (k, within, is) = absurd (omega (arith, within))
from_list {A} {B} h (x ∷ xs) y is = go (h x) refl (from_list h xs y) is
  where
    go : (o : Option B) → h x ≡ o → (Contains (filter_map h xs) y → (z : A) × (h z ≡ Some y))
        → Contains (cons_option o (filter_map h xs)) y → (z : A) × (h z ≡ Some y)
    go None e more c = more c
    go (Some z) e more (zero, within, same) = (x, e ∙ ap Some same)
    go (Some z) e more (suc k, within, same) = more (k, omega (arith, within), same)

-- a thread that is found has begun
found_begun : (s : State) (native i : ℕ) → thread_with s native ≡ Some i → HasBegun s i
found_begun s native i is =
    go (nat_le FIRST_NATIVE native) (nat_lt (native - FIRST_NATIVE) s.count) refl
    ((s.threads (native - FIRST_NATIVE)).begun) refl is
  where
    at : native - FIRST_NATIVE ≡ i → nat_lt (native - FIRST_NATIVE) s.count ≡ true
        → (s.threads (native - FIRST_NATIVE)).begun ≡ true → HasBegun s i
    at same low begun = record {
      known = ltb-true i s.count (ap (λ j. nat_lt j s.count) (sym same) ∙ low);
      begun = ap (λ j. (s.threads j).begun) (sym same) ∙ begun;
    }

    go : (x y : Bool) → nat_lt (native - FIRST_NATIVE) s.count ≡ y → (z : Bool)
        → (s.threads (native - FIRST_NATIVE)).begun ≡ z
        → cond ((x && y) && z) (Some (native - FIRST_NATIVE)) None ≡ Some i → HasBegun s i
    go true true e true f g = let same : native - FIRST_NATIVE ≡ i = cc in at same e f
    go true true e false f g = absurd (cc)
    go true false e z f g = absurd (cc)
    go false y e z f g = absurd (cc)

-- the states of threads are below the place of the wait id
pub small_state : (x : ℕ) → Contains state_numbers x → x < WAIT_PLACE
small_state x (zero, within, is) = omega (arith, is)
small_state x (suc zero, within, is) = omega (arith, is)
small_state x (suc (suc zero), within, is) = omega (arith, is)
small_state x (suc (suc (suc zero)), within, is) = omega (arith, is)
small_state x (suc (suc (suc (suc zero))), within, is) = omega (arith, is)
small_state x (suc (suc (suc (suc (suc zero)))), within, is) = omega (arith, is)
small_state x (suc (suc (suc (suc (suc (suc zero))))), within, is) = omega (arith, is)
small_state x (suc (suc (suc (suc (suc (suc (suc zero)))))), within, is) = omega (arith, is)
small_state x (suc (suc (suc (suc (suc (suc (suc (suc zero))))))), within, is) = omega (arith, is)
small_state x (suc (suc (suc (suc (suc (suc (suc (suc (suc k)))))))), within, is) = absurd (omega arith)

-- a state and a wait id are told by their word
told_state : (x y u z : ℕ) → x < WAIT_PLACE → y < WAIT_PLACE → state_word x u ≡ state_word y z
    → (x ≡ y) × (u ≡ z)
told_state x y u z small low e = (omega (arith, e), omega (arith, e))

with_same : (x y p q : Bool) → (y ≡ true → p ≡ q) → (x && y) && p ≡ (x && y) && q
with_same true true p q f = f refl
with_same true false p q f = refl
with_same false y p q f = refl

module _ (w : List ℕ) (words : Words) (v : IsValid w) (s t : State) (a : Shows w words s)
    (b : Shows w words t) where
  count : s.count ≡ t.count
  count = a.within.count ∙ sym b.within.count

  debug : s.environment.debug ≡ t.environment.debug
  debug = same_flag s.environment.debug t.environment.debug
      (one_word (records_of w words 0 runtime 0) RuntimeDebug 0 _ _ (a.records.globals RuntimeDebug 0 _ refl refl) (b.records.globals RuntimeDebug 0 _ refl refl))

  same_head : head_row s ≡ head_row t
  same_head =
      let globals = a.records.globals in
      let others = b.records.globals in
      let procs =
      one_word (records_of w words 0 runtime 0) RuntimeProcs 0 _ _ (globals RuntimeProcs 0 _ refl refl)
      (others RuntimeProcs 0 _ refl refl) in
      let max_active =
      one_word (records_of w words 0 runtime 0) RuntimeMaxActive 0 _ _
      (globals RuntimeMaxActive 0 _ refl refl) (others RuntimeMaxActive 0 _ refl refl) in
      λ p. record { version = OPENMP_VERSION; threads = count p; debug = flag (debug p); procs = procs p; max_active = max_active p }

  same_begun : (i : ℕ) → i < s.count → (s.threads i).begun ≡ (t.threads i).begun
  same_begun i known =
      same_flag (s.threads i).begun (t.threads i).begun
      (one_word (records_of w words i threads 0) ThreadLife 0 _ _ (a.records.lives i known ThreadLife 0 _ refl refl) (b.records.lives i (subst (λ n. i < n) count known) ThreadLife 0 _ refl refl))

  begun_too : (i : ℕ) → HasBegun s i → HasBegun t i
  begun_too i is = record { known = subst (λ n. i < n) count is.known; begun = sym (same_begun i is.known) ∙ is.begun }

  -- the current task of a thread that has begun
  same_current : (i : ℕ) → HasBegun s i → (s.threads i).current ≡ (t.threads i).current
  same_current i is =
      let too = begun_too i is in
      same_tasks w words v s t a b (s.threads i).current (t.threads i).current
      (λ k e. a.within.well_formed.currents i k is.known e)
      (λ k e. b.within.well_formed.currents i k too.known e)
      (one_word (records_of w words i threads 0) ThreadCurrent 0 _ _ (a.records.threads i is.known is.begun ThreadCurrent 0 _ refl refl) (b.records.threads i too.known too.begun ThreadCurrent 0 _ refl refl))

  -- a task that both states show
  record Shared (k : Tid) : Type 0 where
    pub here : IsVisibleTask s k
    pub there : IsVisibleTask t k

  record SharedRegion (n : Rid) : Type 0 where
    pub here : IsVisibleRegion s n
    pub there : IsVisibleRegion t n

  shared_current : (i : ℕ) → HasBegun s i → (k : Tid) → (s.threads i).current ≡ Some k → Shared k
  shared_current i is k e = record {
    here = a.within.well_formed.currents i k is.known e;
    there = b.within.well_formed.currents i k (begun_too i is).known (sym (same_current i is) ∙ e);
  }

  shared_next : (k : Tid) (x : Shared k) (h : Tid) → x.here.task.scheduling ≡ Some h → Shared h
  shared_next k x h e = record {
    here = (a.within.well_formed.tasks k x.here).scheduling h e;
    there = (b.within.well_formed.tasks k x.there).scheduling h (sym (same_scheduling w words v s t a b k x.here x.there) ∙ e);
  }

  shared_region : (k : Tid) (x : Shared k) → SharedRegion x.here.task.region
  shared_region k x = record {
    here = (a.within.well_formed.tasks k x.here).region;
    there = subst (IsVisibleRegion t) (sym (same_region_of w words v s t a b k x.here x.there)) (b.within.well_formed.tasks k x.there).region;
  }

  shared_enclosing : (n : Rid) (x : SharedRegion n) (r : Rid) → x.here.region.enclosing ≡ Some r
      → SharedRegion r
  shared_enclosing n x r e = record {
    here = (a.within.well_formed.regions n x.here).enclosing r e;
    there = (b.within.well_formed.regions n x.there).enclosing r (sym (same_enclosing w words v s t a b n x.here x.there) ∙ e);
  }

  -- a thread's part of the report
  same_part : (i : ℕ) → HasBegun s i → thread_part s i ≡ thread_part t i
  same_part i is =
      let too = begun_too i is in
      let mine = a.records.threads i is.known is.begun in
      let theirs = b.records.threads i too.known too.begun in
      let words_same =
      one_word (records_of w words i threads 0) ThreadState 0 _ _ (mine ThreadState 0 _ refl refl)
      (theirs ThreadState 0 _ refl refl) in
      let both = told_state (s.threads i).state (t.threads i).state (s.threads i).wait (t.threads i).wait
      (small_state _ (a.within.well_formed.states i is.known))
      (small_state _ (b.within.well_formed.states i too.known)) words_same in
      let current = same_current i is in
      λ p. record {
        thread = i;
        state = cond (debug p) (Some (both.0 p, both.1 p)) None;
        number = numbers i is p;
        current = current p;
      }
    where
      number_of : (o : Option Tid) → ((k : Tid) → o ≡ Some k → Shared k)
          → option_map (λ (x : Task). x.number) (option_and_then (task_of s) o) ≡ option_map (λ (x : Task). x.number) (option_and_then (task_of t) o)
      number_of None f = refl
      number_of (Some k) f =
          let x = f k refl in
          ap (option_map (λ (y : Task). y.number)) x.here.live
          ∙ ap (λ (n : ℕ). Some n) (same_number w words v s t a b k x.here x.there)
          ∙ sym (ap (option_map (λ (y : Task). y.number)) x.there.live)

      numbers : (i : ℕ) → HasBegun s i
          → option_map (λ (x : Task). x.number) (current_task s i) ≡ option_map (λ (x : Task). x.number) (current_task t i)
      numbers i is =
          number_of (s.threads i).current (shared_current i is)
          ∙ ap (λ (o : Option Tid). option_map (λ (x : Task). x.number) (option_and_then (task_of t) o))
          (same_current i is)

  same_with : (native : ℕ) → thread_with s native ≡ thread_with t native
  same_with native =
      let i = native - FIRST_NATIVE in
      ap (λ (x : Bool). cond x (Some i) None)
      (with_same (nat_le FIRST_NATIVE native) (nat_lt i s.count) (s.threads i).begun (t.threads i).begun (λ low. same_begun i (ltb-true i s.count low))
      ∙ ap (λ n. (nat_le FIRST_NATIVE native && nat_lt i n) && (t.threads i).begun) count)

  same_thread_row : (native : ℕ) → thread_row s native ≡ thread_row t native
  same_thread_row native = λ p. record { native = native; found = found (thread_with s native) refl p }
    where
      found : (o : Option ℕ) → thread_with s native ≡ o
          → option_map (thread_part s) (thread_with s native) ≡ option_map (thread_part t) (thread_with t native)
      found None e =
          ap (option_map (thread_part s)) e
          ∙ sym (ap (option_map (thread_part t)) (sym (same_with native) ∙ e))
      found (Some i) e =
          ap (option_map (thread_part s)) e
          ∙ ap (λ (x : ThreadPart). Some x) (same_part i (found_begun s native i e))
          ∙ sym (ap (option_map (thread_part t)) (sym (same_with native) ∙ e))

  same_thread_rows : (contexts : List ℕ) → map (thread_row s) contexts ≡ map (thread_row t) contexts
  same_thread_rows [] = refl
  same_thread_rows (native ∷ contexts) =
      let rest = same_thread_rows contexts in λ p. same_thread_row native p ∷ rest p

  same_threads : (contexts : List ℕ)
      → filter_map (thread_with s) contexts ≡ filter_map (thread_with t) contexts
  same_threads [] = refl
  same_threads (native ∷ contexts) =
      ap₂ (λ (o : Option ℕ) (rest : List ℕ). cons_option o rest) (same_with native) (same_threads contexts)

  -- the regions that enclose one
  same_enclosing_of : (n : Rid) (x : SharedRegion n) → enclosing_of s n ≡ enclosing_of t n
  same_enclosing_of n x =
      ap (option_and_then (λ (r : Region). r.enclosing)) x.here.live
      ∙ same_enclosing w words v s t a b n x.here x.there
      ∙ sym (ap (option_and_then (λ (r : Region). r.enclosing)) x.there.live)

  -- where so many steps lead, and that it is shown by both
  record Led (steps : ℕ) (from : Option Rid) : Type 0 where
    pub same : along (enclosing_of s) steps from ≡ along (enclosing_of t) steps from
    pub shared : (n : Rid) → along (enclosing_of s) steps from ≡ Some n → SharedRegion n

  none_along : {A : Type 0} (next : A → Option A) (steps : ℕ) → along next steps None ≡ None
  none_along next zero = refl
  none_along next (suc n) = none_along next n

  led : (steps : ℕ) (from : Option Rid) → ((n : Rid) → from ≡ Some n → SharedRegion n) → Led steps from
  led zero from f = record { same = refl; shared = f }
  led (suc steps) None f = record {
    same = none_along (enclosing_of s) steps ∙ sym (none_along (enclosing_of t) steps);
    shared = λ n e. let clash : None ≡ Some n = sym (none_along (enclosing_of s) steps) ∙ e in absurd (cc clash);
  }
  led (suc steps) (Some n) f =
      let x = f n refl in
      let more =
      led steps (enclosing_of s n)
      (λ r e. shared_enclosing n x r (sym (ap (option_and_then (λ (q : Region). q.enclosing)) x.here.live) ∙ e)) in
      record { same = more.same ∙ ap (along (enclosing_of t) steps) (same_enclosing_of n x); shared = more.shared }

  innermost : (i : ℕ) → HasBegun s i
      → option_map (λ (x : Task). x.region) (current_task s i) ≡ option_map (λ (x : Task). x.region) (current_task t i)
  innermost i is =
      of_current (s.threads i).current (shared_current i is)
      ∙ ap (λ (o : Option Tid). option_map (λ (x : Task). x.region) (option_and_then (task_of t) o))
      (same_current i is)
    where
      of_current : (o : Option Tid) → ((k : Tid) → o ≡ Some k → Shared k)
          → option_map (λ (x : Task). x.region) (option_and_then (task_of s) o) ≡ option_map (λ (x : Task). x.region) (option_and_then (task_of t) o)
      of_current None f = refl
      of_current (Some k) f =
          let x = f k refl in
          ap (option_map (λ (y : Task). y.region)) x.here.live
          ∙ ap (λ (n : Rid). Some n) (same_region_of w words v s t a b k x.here x.there)
          ∙ sym (ap (option_map (λ (y : Task). y.region)) x.there.live)

  innermost_shared : (i : ℕ) → HasBegun s i → (n : Rid)
      → option_map (λ (x : Task). x.region) (current_task s i) ≡ Some n → SharedRegion n
  innermost_shared i is n e = of_current (s.threads i).current (shared_current i is) e
    where
      of_current : (o : Option Tid) → ((k : Tid) → o ≡ Some k → Shared k)
          → option_map (λ (x : Task). x.region) (option_and_then (task_of s) o) ≡ Some n → SharedRegion n
      of_current None f g = absurd (cc)
      of_current (Some k) f g =
          let x = f k refl in
          let regions : Some x.here.task.region ≡ Some n =
          sym (ap (option_map (λ (y : Task). y.region)) x.here.live) ∙ g in
          let same : x.here.task.region ≡ n = cc regions in
          subst SharedRegion same (shared_region k x)

  led_from : (i steps : ℕ) → HasBegun s i → Led steps (option_map (λ (x : Task). x.region) (current_task s i))
  led_from i steps is =
      led steps (option_map (λ (x : Task). x.region) (current_task s i)) (innermost_shared i is)

  -- what is reported of one state is shown by both, and reported of the other
  reported_too : (all : List ℕ) → ((i : ℕ) → Contains all i → HasBegun s i) → (n : Rid) → IsReported s all n
      → SharedRegion n × IsReported t all n
  reported_too all begun n (i, steps, among, is) =
      let way = led_from i steps (begun i among) in
      (way.shared n is, (i, steps, among, ap (along (enclosing_of t) steps) (sym (innermost i (begun i among))) ∙ sym way.same ∙ is))

  reported_back : (all : List ℕ) → ((i : ℕ) → Contains all i → HasBegun s i) → (n : Rid) → IsReported t all n
      → IsReported s all n
  reported_back all begun n (i, steps, among, is) =
      let way = led_from i steps (begun i among) in
      (i, steps, among, way.same ∙ ap (along (enclosing_of t) steps) (innermost i (begun i among)) ∙ is)

  same_region_rows : (all : List ℕ) (rows : List RegionRow) → ((i : ℕ) → Contains all i → HasBegun s i)
      → AreRegions s all rows → AreRegions t all rows
  same_region_rows all rows begun is = record {
    in_order = is.in_order;
    each = λ row among.
        let (reported, r, live, made) = is.each row among in
        let (shared, too) = reported_too all begun row.region reported in
        let one : Some r ≡ Some shared.here.region = sym live ∙ shared.here.live in
        let region : r ≡ shared.here.region = cc one in (
          too,
          shared.there.region,
          shared.there.live,
          made ∙ ap (region_row row.region) region ∙ same_region_row w words v s t a b row.region shared.here shared.there,
        );
    all = λ n reported. is.all n (reported_back all begun n reported);
  }

  -- a chain of one state is that of the other
  same_chain : (i : ℕ) (from : Option Tid) (rows : List TaskRow) → ((k : Tid) → from ≡ Some k → Shared k)
      → IsChain s i from rows → IsChain t i from rows
  same_chain i None [] f is = is
  same_chain i None (row ∷ rows) f is = is
  same_chain i (Some k) [] f is = is
  same_chain i (Some k) (row ∷ rows) f (task, live, made, rest) =
      let x = f k refl in
      let one : Some task ≡ Some x.here.task = sym live ∙ x.here.live in
      let same : task ≡ x.here.task = cc one in
      let next : IsChain s i x.here.task.scheduling rows =
      subst (λ (y : Task). IsChain s i y.scheduling rows) same rest in
      let more = same_chain i x.here.task.scheduling rows (shared_next k x) next in (
        x.there.task,
        x.there.live,
        made ∙ ap (task_row i k) same ∙ same_task_row w words v s t a b k x.here x.there i,
        subst (λ (o : Option Tid). IsChain t i o rows) (same_scheduling w words v s t a b k x.here x.there) more,
      )

  same_chains : (all : List ℕ) (rows : List TaskRow) → ((i : ℕ) → Contains all i → HasBegun s i)
      → AreChains s all rows → AreChains t all rows
  same_chains [] rows begun is = is
  same_chains (i ∷ all) rows begun (chain, rest, joined, is, more) =
      let here = begun i (0, omega arith, refl) in (
        chain,
        rest,
        joined,
        subst (λ (o : Option Tid). IsChain t i o chain) (same_current i here) (same_chain i (s.threads i).current chain (shared_current i here) is),
        same_chains all rest (λ j (k, within, at). begun j (suc k, omega (arith, within), at)) more,
      )

  same_view : (contexts : List ℕ) (view : View) → IsViewOf s contexts view → IsViewOf t contexts view
  same_view contexts view is = record {
    head = is.head ∙ same_head;
    threads = is.threads ∙ same_thread_rows contexts;
    regions = subst (λ (all : List ℕ). AreRegions t all view.regions) (same_threads contexts) (same_region_rows (filter_map (thread_with s) contexts) view.regions begun is.regions);
    tasks = subst (λ (all : List ℕ). AreChains t all view.tasks) (same_threads contexts) (same_chains (filter_map (thread_with s) contexts) view.tasks begun is.tasks);
  }
    where
      begun : (i : ℕ) → Contains (filter_map (thread_with s) contexts) i → HasBegun s i
      begun i among = let (native, e) = from_list (thread_with s) contexts i among in found_begun s native i e

pub report_fixed : FixTheReport
report_fixed = λ w words s t contexts view other valid a b mine theirs.
    view_unique t contexts view other (same_view w words valid s t a b contexts view mine) theirs
