-- Over words that show a state, the header and the rows of contexts are those of the state.
use Rattle.std.proofs.Common.{◌≡◌, ◌==◌, ◌&&◌, ◌⊎◌, inl, inr, ℕ, ◌-◌, ◌/◌, ◌%◌, ◌<◌, ◌≤◌, Bool, true, false, cond, List, [], ◌∷◌, map, Option, Some, None, refl, sym, ap, ap₂, subst, ◌∙◌, arith, nat_lt, eqb-true, eq-eqb, leb-true, ltb-true}
use Rattle.std.specs.Prelude.{Ok, Contains, nat_le}
use Rattle.std.specs.Option.{option_map, option_and_then}
use Rattle.std.specs.List.{filter_map, cons_option, range_with_len}
use Rattle.std.proofs.lemmas.Bool.Decides.{nat_tests}
use Rattle.omi_numbers.specs.declared.words.TheConstants.{FIRST_NATIVE, OPENMP_VERSION, WAIT_PLACE}
use Rattle.omi_layout.specs.declared.field.Field.TheVariants.{RuntimeVersion, RuntimeProcs, RuntimeDebug, RuntimeMaxActive, ThreadLife, ThreadNative, ThreadCurrent, ThreadState, TaskNumber}
use Rattle.omi_layout.specs.Field.{tasks}
use Rattle.omi_layout.specs.Table.{thread_count}
use Rattle.omi_layout.specs.Valid.{IsValid}
use Rattle.omi_word.specs.Words.{Words}
use Rattle.omi_numbers.specs.Words.{state_word, flag, native_id}
use Rattle.omi_model.specs.declared.id.Id.{Id}
use Rattle.omi_model.specs.declared.id.Tid.{Tid}
use Rattle.omi_model.specs.declared.task.Task.{Task}
use Rattle.omi_model.specs.declared.view.ThreadPart.{ThreadPart}
use Rattle.omi_model.specs.declared.view.ThreadRow.{ThreadRow}
use Rattle.omi_model.specs.State.{State, task_of, current_task}
use Rattle.omi_model.specs.Views.{head_row, thread_part, thread_with, thread_row}
use Rattle.omi_model.specs.Visible.{IsVisibleTask}
use Rattle.omi_model.specs.WellFormed.{HasBegun}
use Rattle.omi_rep.specs.Records.{runtime_address, thread_address}
use Rattle.omi_rep.specs.Look.{Look, and_then, mapped, each, optional, id_address, look_word}
use Rattle.omi_rep.specs.LookView.{look_head, look_for, look_state, look_current, look_part, look_thread, found_threads}
use Rattle.omi_rep.specs.Shows.{Shows}
use Rattle.omi_rep.proofs.Looks.{step}
use Rattle.omi_rep.proofs.SameReport.{small_state}
use Rattle.omi_rep.specs.ShownLooks.{AreNames}
use Rattle.omi_rep.proofs.Lists.{here, later, nowhere, either, in_range, from_range, given_back}
use Rattle.omi_rep.proofs.shown.ReadWords.{images_looked, word_looked, optional_looked, task_live, task_somewhere}

-- ---- the thread with a native id

-- the tests by which a thread is the one with an id
abbrev chosen : Bool → Bool → Bool → ℕ → Option ℕ
chosen x y z i = cond ((x && y) && z) (Some i) None

-- where it is there, it has begun
pub with_native : (s : State) (native i : ℕ) → thread_with s native ≡ Some i
    → (native_id i ≡ native) × HasBegun s i
with_native s native i is =
    go (nat_le FIRST_NATIVE native) refl (nat_lt (native - FIRST_NATIVE) s.count) refl
    ((s.threads (native - FIRST_NATIVE)).begun) refl is
  where
    go : (x : Bool) → nat_le FIRST_NATIVE native ≡ x → (y : Bool) → nat_lt (native - FIRST_NATIVE) s.count ≡ y
        → (z : Bool) → (s.threads (native - FIRST_NATIVE)).begun ≡ z
        → chosen x y z (native - FIRST_NATIVE) ≡ Some i → (native_id i ≡ native) × HasBegun s i
    go true a true b true c e =
        let at : native - FIRST_NATIVE ≡ i = cc e in
        let from : FIRST_NATIVE ≤ native = leb-true FIRST_NATIVE native a in (
          omega (arith, at, from),
          record {
            known = subst (λ (j : ℕ). j < s.count) at (ltb-true (native - FIRST_NATIVE) s.count b);
            begun = ap (λ (j : ℕ). (s.threads j).begun) (sym at) ∙ c;
          },
        )
    go true a true b false c e = absurd (cc e)
    go true a false b z c e = absurd (cc e)
    go false a y b z c e = absurd (cc e)

-- where it isn't there, none that has begun has the id
with_none : (s : State) (native i : ℕ) → thread_with s native ≡ None → HasBegun s i → native_id i ≡ native → ⊥
with_none s native i none has same =
    let at : native - FIRST_NATIVE ≡ i = omega (arith, same) in
    let known : i < s.count = has.known in
    let from : nat_le FIRST_NATIVE native ≡ true = grind (arith, nat_tests) in
    let low : nat_lt (native - FIRST_NATIVE) s.count ≡ true = grind (arith, nat_tests) in
    let begun : (s.threads (native - FIRST_NATIVE)).begun ≡ true =
    ap (λ (j : ℕ). (s.threads j).begun) at ∙ has.begun in
    let there : thread_with s native ≡ Some (native - FIRST_NATIVE) =
    λ k. chosen (from k) (low k) (begun k) (native - FIRST_NATIVE) in
    let clash : Some (native - FIRST_NATIVE) ≡ None = sym there ∙ none in
    cc clash

-- the state and the wait id of a state word
state_part : (state wait : ℕ) → state < WAIT_PLACE → state_word state wait % WAIT_PLACE ≡ state
state_part state wait small = omega (arith, small)

wait_part : (state wait : ℕ) → state < WAIT_PLACE → state_word state wait / WAIT_PLACE ≡ wait
wait_part state wait small = omega (arith, small)

module _ (w : List ℕ) (words : Words) (s : State) (valid : IsValid w) (names : AreNames s)
    (shown : Shows w words s) where
  -- the header
  pub head_looked : look_head w words ≡ Ok (head_row s)
  head_looked =
      let globals = shown.records.globals in
      step _ _ _ _
      (word_looked w words (runtime_address w) RuntimeVersion 0 _ (globals RuntimeVersion 0 _ refl refl))
      (step _ _ _ _ (word_looked w words (runtime_address w) RuntimeDebug 0 _ (globals RuntimeDebug 0 _ refl refl))
      (step _ _ _ _ (word_looked w words (runtime_address w) RuntimeProcs 0 _ (globals RuntimeProcs 0 _ refl refl))
      (step _ _ _ _ (word_looked w words (runtime_address w) RuntimeMaxActive 0 _ (globals RuntimeMaxActive 0 _ refl refl))
      (ap (λ (n : ℕ). Ok (record {
        version = OPENMP_VERSION;
        threads = n;
        debug = flag s.environment.debug;
        procs = s.environment.procs;
        max_active = s.max_active;
      })) (sym shown.within.count)))))

  -- a thread that isn't the one is passed over, and the one is found
  abbrev tried : ℕ → ℕ → Look (Option ℕ) → Bool → Look (Option ℕ)
  tried native i more b =
      cond (flag b == 1)
      (and_then (look_word w words (thread_address w i) ThreadNative 0) (λ id. cond (id == native) (Ok (Some i)) more)) more

  for_tried : (native i : ℕ) (is : List ℕ) → i < s.count
      → look_for w words native (i ∷ is) ≡ tried native i (look_for w words native is) (s.threads i).begun
  for_tried native i is known =
      step _ _ (flag (s.threads i).begun) _
      (word_looked w words (thread_address w i) ThreadLife 0 _ (shown.records.lives i known ThreadLife 0 _ refl refl)) refl

  named_tried : (native i : ℕ) (more : Look (Option ℕ)) → i < s.count
      → tried native i more true ≡ cond (native_id i == native) (Ok (Some i)) more
  named_tried native i more known =
      step _ _ (native_id i) _
      (word_looked w words (thread_address w i) ThreadNative 0 _ (shown.records.lives i known ThreadNative 0 _ refl refl)) refl

  passed : (native i : ℕ) (more : Look (Option ℕ)) → i < s.count → (HasBegun s i → native_id i ≡ native → ⊥)
      → (b : Bool) → (s.threads i).begun ≡ b → tried native i more b ≡ more
  passed native i more known other true e =
      let no : native_id i == native ≡ false =
      (let differs = other (record { known = known; begun = e }) in grind (arith, nat_tests)) in
      named_tried native i more known ∙ ap (λ (b : Bool). cond b (Ok (Some i)) more) no
  passed native i more known other false e = refl

  none_looked : (native : ℕ) (is : List ℕ) → ((i : ℕ) → Contains is i → i < s.count)
      → ((i : ℕ) → HasBegun s i → native_id i ≡ native → ⊥) → look_for w words native is ≡ Ok None
  none_looked native [] known other = refl
  none_looked native (i ∷ is) known other =
      for_tried native i is (known i (here i is))
      ∙ passed native i (look_for w words native is) (known i (here i is)) (other i) (s.threads i).begun refl
      ∙ none_looked native is (λ j inside. known j (later i j is inside)) other

  one_looked : (native n : ℕ) (is : List ℕ) → ((i : ℕ) → Contains is i → i < s.count) → HasBegun s n
      → native_id n ≡ native → Contains is n → look_for w words native is ≡ Ok (Some n)
  one_looked native n [] known has same inside = absurd (nowhere n inside)
  one_looked native n (i ∷ is) known has same inside =
      for_tried native i is (known i (here i is))
      ∙ go (i == n) refl (either i n is inside)
      (one_looked native n is (λ j behind. known j (later i j is behind)) has same)
    where
      go : (b : Bool) → i == n ≡ b → (i ≡ n) ⊎ Contains is n
          → (Contains is n → look_for w words native is ≡ Ok (Some n))
          → tried native i (look_for w words native is) (s.threads i).begun ≡ Ok (Some n)
      go true e at more =
          let is_it : i ≡ n = eqb-true i n e in
          let begun : (s.threads i).begun ≡ true = ap (λ (j : ℕ). (s.threads j).begun) is_it ∙ has.begun in
          let test : native_id i == native ≡ true =
          eq-eqb (native_id i) native (ap (λ (j : ℕ). native_id j) is_it ∙ same) in
          ap (tried native i (look_for w words native is)) begun
          ∙ named_tried native i (look_for w words native is) (known i (here i is))
          ∙ ap (λ (b : Bool). cond b (Ok (Some i)) (look_for w words native is)) test
          ∙ ap (λ (j : ℕ). Ok (Some j)) is_it
      go false e (inl at) more = absurd (let clash : true ≡ false = sym (eq-eqb i n at) ∙ e in cc clash)
      go false e (inr behind) more =
          passed native i (look_for w words native is) (known i (here i is))
          (λ has_i id. (let clash : true ≡ false = sym (eq-eqb i n (omega (arith, id, same))) ∙ e in cc clash))
          (s.threads i).begun refl
          ∙ more behind

  -- the thread with a native id is looked up
  for_looked : (native : ℕ)
      → look_for w words native (range_with_len 0 (thread_count w)) ≡ Ok (thread_with s native)
  for_looked native = go (thread_with s native) refl
    where
      all_known : (i : ℕ) → Contains (range_with_len 0 (thread_count w)) i → i < s.count
      all_known i inside =
          let low = from_range 0 (thread_count w) i inside in omega (arith, low.1, shown.within.count)

      go : (o : Option ℕ) → thread_with s native ≡ o
          → look_for w words native (range_with_len 0 (thread_count w)) ≡ Ok o
      go None e =
          none_looked native (range_with_len 0 (thread_count w)) all_known
          (λ i has same. with_none s native i e has same)
      go (Some n) e =
          let (same, has) = with_native s native n e in
          one_looked native n (range_with_len 0 (thread_count w)) all_known has same
          (in_range 0 (thread_count w) n (omega arith) (omega (arith, has.known, shown.within.count)))

  -- ---- a thread that has begun
  module _ (i : ℕ) (has : HasBegun s i) where
    state_looked : look_state w words i ≡ Ok (thread_part s i).state
    state_looked =
        step _ _ (flag s.environment.debug) _
        (word_looked w words (runtime_address w) RuntimeDebug 0 _ (shown.records.globals RuntimeDebug 0 _ refl refl))
        (go s.environment.debug)
      where
        small : (s.threads i).state < WAIT_PLACE
        small = small_state (s.threads i).state (shown.within.well_formed.states i has.known)

        go : (b : Bool)
            → cond {A = Look (Option (ℕ × ℕ))} (flag b == 0) (Ok None) (mapped {B = Option (ℕ × ℕ)} (λ (word : ℕ). Some (word % WAIT_PLACE, word / WAIT_PLACE)) (look_word w words (thread_address w i) ThreadState 0))
            ≡ Ok (cond {A = Option (ℕ × ℕ)} b (Some ((s.threads i).state, (s.threads i).wait)) None)
        go true =
            step _ _ (state_word (s.threads i).state (s.threads i).wait) _
            (word_looked w words (thread_address w i) ThreadState 0 _ (shown.records.threads i has.known has.begun ThreadState 0 _ refl refl))
            (ap₂ {C = Look (Option (ℕ × ℕ))} (λ (x y : ℕ). Ok (Some (x, y))) (state_part (s.threads i).state (s.threads i).wait small) (wait_part (s.threads i).state (s.threads i).wait small))
        go false = refl

    pub current_seen : (k : Tid) → (s.threads i).current ≡ Some k → IsVisibleTask s k
    current_seen k is = shown.within.well_formed.currents i k has.known is

    pub current_looked : look_current w words i ≡ Ok (option_map (λ k. k.0) (s.threads i).current)
    current_looked =
        optional_looked w words tasks (thread_address w i) ThreadCurrent (λ (k : Tid). k.0)
        (s.threads i).current (task_somewhere w words s valid names shown)
        (λ k is. task_live w words s valid names shown k (current_seen k is))
        (shown.records.threads i has.known has.begun ThreadCurrent 0 _ refl refl)

    part_looked : look_part w words i ≡ Ok (thread_part s i)
    part_looked =
        step _ _ _ _ state_looked
        (step _ _ _ _ current_looked
        (step _ _ _ _ (number_looked (s.threads i).current current_seen)
        (ap (λ (k : Option Tid). Ok (record {
          thread = i;
          state = (thread_part s i).state;
          number = option_map (λ t. t.number) (current_task s i);
          current = k;
        })) (given_back (λ (q : Tid). q.0) (λ (n : Id). record {
          0 =
              n;
        }) (λ q. refl) (s.threads i).current))))
      where
        number_looked : (o : Option Tid) → ((k : Tid) → o ≡ Some k → IsVisibleTask s k)
            → optional (λ (k : Id). look_word w words (id_address w tasks k) TaskNumber 0) (option_map (λ (k : Tid). k.0) o) ≡ Ok (option_map (λ (t : Task). t.number) (option_and_then (task_of s) o))
        number_looked None seen = refl
        number_looked (Some k) seen =
            let is = seen k refl in
            step _ _ is.task.number _
            (word_looked w words (id_address w tasks k.0) TaskNumber 0 _ (shown.records.tasks k is TaskNumber 0 _ refl refl))
            (ap (λ (t : Option Task). Ok (option_map (λ (u : Task). u.number) t)) (sym is.live))

  -- the row of a context, and those of all
  thread_looked : (native : ℕ) → look_thread w words native ≡ Ok (thread_row s native)
  thread_looked native =
      step _ _ (thread_with s native) _ (for_looked native)
      (go (thread_with s native) (λ i is. (with_native s native i is).1))
    where
      go : (o : Option ℕ) → ((i : ℕ) → o ≡ Some i → HasBegun s i)
          → mapped {B = ThreadRow} (λ (part : Option ThreadPart). record { native = native; found = part }) (optional (look_part w words) o)
          ≡ Ok (record { native = native; found = option_map (thread_part s) o })
      go None begun = step _ _ None _ refl refl
      go (Some i) begun =
          step _ _ (Some (thread_part s i)) _
          (step _ _ (thread_part s i) _ (part_looked i (begun i refl)) refl) refl

  pub threads_looked : (contexts : List ℕ)
      → each (look_thread w words) contexts ≡ Ok (map (thread_row s) contexts)
  threads_looked contexts =
      images_looked (look_thread w words) (thread_row s) contexts (λ native _. thread_looked native)

  -- the threads that are found
  pub threads_found : (contexts : List ℕ)
      → found_threads w words (map (thread_row s) contexts) ≡ filter_map (thread_with s) contexts
  threads_found [] = refl
  threads_found (native ∷ contexts) =
      ap₂ (λ (o : Option ℕ) (is : List ℕ). cons_option o is) (back (thread_with s native))
      (threads_found contexts)
    where
      back : (o : Option ℕ)
          → option_map (λ (part : ThreadPart). part.thread) (option_map (thread_part s) o) ≡ o
      back None = refl
      back (Some i) = refl
