-- A run by a schedule, step by step: what the steps made so far add, and how the run ends.
use Rattle.std.proofs.Common.{◌≡◌, ◌≢◌, ◌<◌, ◌≤◌, ◌+◌, ◌*◌, ◌/◌, ◌%◌, ◌^◌, ◌==◌, ◌&&◌, ◌++◌, ℕ, suc, Bool, true, false, List, [], ◌∷◌, length, map, Option, Some, None, refl, sym, ap, ◌∙◌, subst, arith, if◌then◌else◌, nat_lt, ltb-true, ltb-false}
use Rattle.std.specs.Prelude.{IfSome, MatchOption, Ok, Err}
use Rattle.std.specs.List.{AllByRecursion}
use Rattle.std.specs.declared.alloc.AllocError.{AllocError}
use Rattle.std.proofs.lemmas.List.{append_assoc, append-nil}
use Rattle.std.proofs.lemmas.List.Elements.{All-get_or}
use Rattle.std.proofs.lemmas.List.Sums.{sum_by-append, sum_by-cons}
use Rattle.std.proofs.lemmas.Bool.Decides.{nat_tests}
use Rattle.std.proofs.lemmas.Nat.{mod-mul-add, mod_below}
use Rattle.std.proofs.Math.Nat.{suc-mod}
use Rattle.omi_script.proofs.RuleLemmas.{Rules-from_accepted}
use Rattle.omi_model.proofs.Slots.{none_some, some_same}
use Rattle.omi_model.specs.declared.event.Event.{Event}
use Rattle.omi_model.specs.declared.event.Event.TheVariants as event
use Rattle.omi_run_lists.specs.declared.made.Made.{Made}
use Rattle.omi_rep.specs.declared.outcome.Outcome.{Outcome}
use Rattle.omi_rep.specs.declared.outcome.Outcome.TheVariants as outcome
use Rattle.omi_core.specs.declared.entry.Entry.{Entry}
use Rattle.omi_core.specs.declared.schedule.Schedule.{Schedule}
use Rattle.omi_core.specs.declared.schedule.Schedule.TheVariants as schedule
use Rattle.omi_core.specs.declared.stop.Break.{Break}
use Rattle.omi_core.specs.declared.stop.End.{End}
use Rattle.omi_core.specs.declared.stop.End.TheVariants as end
use Rattle.omi_core.specs.declared.stop.Stop.{Stop}
use Rattle.omi_core.specs.Ends.{EndsAt, GoesOn, IsBelow, IsEnded, count_of, end_at, end_of_kind, is_done, is_of_kind, met_at, met_by}
use Rattle.omi_core.specs.RunSteps.{IsStep, event_of, made_of}
use Rattle.omi_core.specs.Runs.{Run}
use Rattle.omi_core.specs.ScheduledRuns.{Adds, IsRunBy}
use Rattle.omi_core.specs.Schedules.{IsDrawn, IsListed, drawn_at, first_draw, next_draw, next_number, thread_at, threads_by}

-- ---- lists

snoc_length : (ms : List Made) (m : Made) → suc (length ms) ≡ length (ms ++ m ∷ [])
snoc_length [] m = refl
snoc_length (x ∷ xs) m = ap suc (snoc_length xs m)

snoc_threads : (ms : List Made) (m : Made)
    → map (λ (x : Made). x.thread) (ms ++ m ∷ []) ≡ map (λ (x : Made). x.thread) ms ++ m.thread ∷ []
snoc_threads [] m = refl
snoc_threads (x ∷ xs) m = ap (λ ns. x.thread ∷ ns) (snoc_threads xs m)

snoc_all : (P : ℕ × ℕ × Event → Type 0) (es : List (ℕ × ℕ × Event)) (e : ℕ × ℕ × Event) → AllByRecursion P es
    → P e → AllByRecursion P (es ++ e ∷ [])
snoc_all P [] e all here = (here, tt)
snoc_all P (x ∷ xs) e (one, rest) here = (one, snoc_all P xs e rest here)

snoc_counts : (k : Break) (es : List (ℕ × ℕ × Event)) (e : ℕ × ℕ × Event)
    → count_of k (es ++ e ∷ []) ≡ count_of k es + (if is_of_kind k e.2 then 1 else 0)
snoc_counts k es e =
    let f : ℕ × ℕ × Event → ℕ = λ x. if is_of_kind k x.2 then 1 else 0 in
    let both = sum_by-append f es (e ∷ []) in
    let one = sum_by-cons f e [] in
    omega (arith, both, one)

-- ---- ends

done_is : (x : Event) → is_done x ≡ true → x ≡ event.Done
done_is event.Done h = refl
done_is x h = absurd (grind (arith, nat_tests))

not_done : (x : Event) → is_done x ≡ false → x ≡ event.Done → ⊥
not_done x h e = let same : is_done x ≡ true = ap is_done e in grind (arith, nat_tests)

-- behind an event that does not end the run
abbrev GoesOnBehind : Option (Break × ℕ) → ℕ → List (ℕ × ℕ × Event) → ℕ × ℕ × Event → Type 0
GoesOnBehind on met es e =
    IfSome on (λ o. count_of o.0 (es ++ e ∷ []) < o.1) × IfSome on (λ o. count_of o.0 (es ++ e ∷ []) ≡ met_by on met e.2)

of_kind_on : (on : Option (Break × ℕ)) (met : ℕ) (es : List (ℕ × ℕ × Event)) (e : ℕ × ℕ × Event)
    → IfSome on (λ o. count_of o.0 es < o.1) → IfSome on (λ o. count_of o.0 es ≡ met)
    → end_of_kind on met e.2 ≡ None → GoesOnBehind on met es e
of_kind_on None met es e few are goes = (tt, tt)
of_kind_on (Some o) met es e few are goes = go (is_of_kind o.0 e.2) (met + 1 == o.1) refl refl goes
  where
    go : (b c : Bool) → is_of_kind o.0 e.2 ≡ b → met + 1 == o.1 ≡ c
        → ◌≡◌ {A = Option End} (if b && c then Some end.Break else None) None
        → (count_of o.0 (es ++ e ∷ []) < o.1) × (count_of o.0 (es ++ e ∷ []) ≡ (if b then met + 1 else met))
    go true true f g h = absurd (none_some h refl)
    go true false f g h =
        let more : count_of o.0 (es ++ e ∷ []) ≡ count_of o.0 es + 1 =
        snoc_counts o.0 es e ∙ ap (λ (b : Bool). count_of o.0 es + (if b then 1 else 0)) f in
        let apart : met + 1 ≢ o.1 = grind (arith, nat_tests) in
        (omega (arith, more, few, are, apart), omega (arith, more, are))
    go false c f g h =
        let more : count_of o.0 (es ++ e ∷ []) ≡ count_of o.0 es + 0 =
        snoc_counts o.0 es e ∙ ap (λ (b : Bool). count_of o.0 es + (if b then 1 else 0)) f in
        (omega (arith, more, few), omega (arith, more, are))

-- ---- threads in turn

-- a number below another one is its own rest
rest_below : (threads n : ℕ) → n < threads → n % threads ≡ n
rest_below threads n below =
    let same : 0 * threads + n ≡ n = omega arith in
    ap (λ k. k % threads) (sym same) ∙ mod-mul-add 0 threads n below

-- behind a thread comes the next one, and behind the last one thread 0
next_in_turn : (threads n draw : ℕ) → 0 < threads → draw ≡ n % threads
    → (if nat_lt (draw + 1) threads then draw + 1 else 0) ≡ (n + 1) % threads
next_in_turn threads n draw some is =
    let one_more : suc n ≡ n + 1 = omega arith in
    let below = mod_below n threads some in
    let step : (n + 1) % threads ≡ (draw + 1) % threads =
    ap (λ k. k % threads) (sym one_more)
    ∙ suc-mod n threads
    ∙ ap (λ k. suc k % threads) (sym is)
    ∙ ap (λ k. k % threads) (let one : suc draw ≡ draw + 1 = omega arith in one) in
    go (nat_lt (draw + 1) threads) refl below step
  where
    go : (b : Bool) → nat_lt (draw + 1) threads ≡ b → n % threads < threads → (n + 1) % threads ≡ (draw + 1) % threads
        → (if b then draw + 1 else 0) ≡ (n + 1) % threads
    go true less below step = sym (step ∙ rest_below threads (draw + 1) (ltb-true (draw + 1) threads less))
    go false not_less below step =
        let past : threads ≤ draw + 1 = ltb-false (draw + 1) threads not_less in
        let all : draw + 1 ≡ 1 * threads + 0 = omega (arith, past, below, is) in
        sym (step ∙ ap (λ k. k % threads) all ∙ mod-mul-add 1 threads 0 some)

-- the thread that makes a step is one of the program's
pub thread_known : (how : Schedule) (threads step steps : ℕ) → 0 < threads → IsListed how threads steps
    → step < steps → thread_at how threads step < threads
thread_known schedule.RoundRobin threads step steps some listed below = mod_below step threads some
thread_known (schedule.Seed seed) threads step steps some listed below = mod_below (drawn_at seed step / 2 ^ 33) threads some
thread_known (schedule.List list) threads step steps some listed below =
    let long = listed.1 in
    All-get_or (λ i. i < threads) list step 0 (omega (arith, below, long)) listed.0

-- ---- steps

module _ (old : Run) (how : Schedule) (stop : Stop) where
  -- so many steps were made, and the run goes on
  pub record SoFar (n met draw : ℕ) (new : Run) : Type 0 where
    pub added : Adds old how stop new
    pub count : length added.made ≡ n
    pub goes_on : GoesOn stop added.events
    pub met_are : IfSome stop.on (λ on. count_of on.0 added.events ≡ met)
    pub drawn : IsDrawn how old.program.threads n draw

  some_thread : 0 < old.program.threads
  some_thread = (Rules-from_accepted old.program).threads.0

  -- before the first step
  pub first_drawn : (h : Schedule) → IsDrawn h old.program.threads 0 (first_draw h)
  first_drawn schedule.RoundRobin = sym (rest_below old.program.threads 0 some_thread)
  first_drawn (schedule.Seed seed) = refl
  first_drawn (schedule.List list) = tt

  none_met : (on : Option (Break × ℕ)) → IfSome on (λ o. count_of o.0 [] ≡ 0)
  none_met None = tt
  none_met (Some o) = refl

  some_wanted : (on : Option (Break × ℕ)) → IfSome on (λ o. 1 ≤ o.1) → IfSome on (λ o. count_of o.0 [] < o.1)
  some_wanted None some = tt
  some_wanted (Some o) some = let least = some in omega (arith, least)

  pub begins : IfSome stop.on (λ on. 1 ≤ on.1) → SoFar 0 0 (first_draw how) old
  begins some = record {
    added = record {
      program = refl;
      table = refl;
      made = [];
      made_are = sym (append-nil old.made.items);
      threads = refl;
      within = omega arith;
      events = [];
      events_are = sym (append-nil old.events.items);
    };
    count = refl;
    goes_on = record { not_done = tt; too_few = some_wanted stop.on some };
    met_are = none_met stop.on;
    drawn = first_drawn how;
  }

  -- ---- one step more

  threads_more : (ms : List Made) (m : Made) (threads : ℕ)
      → map (λ (x : Made). x.thread) ms ≡ threads_by how threads (length ms)
      → m.thread ≡ thread_at how threads (length ms)
      → map (λ (x : Made). x.thread) (ms ++ m ∷ []) ≡ threads_by how threads (length (ms ++ m ∷ []))
  threads_more ms m threads all here =
      snoc_threads ms m
      ∙ ap (λ ns. ns ++ m.thread ∷ []) all
      ∙ ap (λ j. threads_by how threads (length ms) ++ j ∷ []) here
      ∙ ap (threads_by how threads) (snoc_length ms m)

  adds_one : (a b : Run) (i : ℕ) (e : Entry) (added : Adds old how stop a) → length added.made < stop.steps
      → IsStep a i e b → i ≡ thread_at how old.program.threads (length added.made) → Adds old how stop b
  adds_one a b i e added below step thread = record {
    program = step.program ∙ added.program;
    table = step.table ∙ added.table;
    made = added.made ++ made_of i e ∷ [];
    made_are = step.made ∙ ap (λ (ms : List Made). ms ++ made_of i e ∷ []) added.made_are ∙ append_assoc old.made.items added.made (made_of i e ∷ []);
    threads = threads_more added.made (made_of i e) old.program.threads added.threads thread;
    within = subst (λ k. k ≤ stop.steps) (snoc_length added.made (made_of i e)) (omega (arith, below));
    events = added.events ++ event_of (length a.made.items + 1) i e.outcome;
    events_are = step.events ∙ ap (λ (es : List (ℕ × ℕ × Event)). es ++ event_of (length a.made.items + 1) i e.outcome) added.events_are ∙ append_assoc old.events.items added.events (event_of (length a.made.items + 1) i e.outcome);
  }

  -- what a step that does not end the run adds
  abbrev GoesOnWith : ℕ → Outcome → List (ℕ × ℕ × Event) → Type 0
  GoesOnWith met o es = GoesOn stop es × IfSome stop.on (λ on. count_of on.0 es ≡ met_at stop.on met o)

  goes_on_with : (o : Outcome) (step i met : ℕ) (es : List (ℕ × ℕ × Event)) → GoesOn stop es
      → IfSome stop.on (λ on. count_of on.0 es ≡ met) → end_at stop.on met o ≡ None
      → GoesOnWith met o (es ++ event_of step i o)
  goes_on_with outcome.Quiet step i met es goes are none =
      subst (GoesOnWith met outcome.Quiet) (sym (append-nil es)) (goes, are)
  goes_on_with (outcome.NotReady address word) step i met es goes are none =
      subst (GoesOnWith met (outcome.NotReady address word)) (sym (append-nil es)) (goes, are)
  goes_on_with outcome.Ended step i met es goes are none =
      subst (GoesOnWith met outcome.Ended) (sym (append-nil es)) (goes, are)
  goes_on_with (outcome.Event x) step i met es goes are none = go (is_done x) refl none
    where
      go : (b : Bool) → is_done x ≡ b
          → ◌≡◌ {A = Option End} (if b then Some end.Done else end_of_kind stop.on met x) None
          → GoesOnWith met (outcome.Event x) (es ++ (step, i, x) ∷ [])
      go true f h = absurd (none_some h refl)
      go false f h =
          let behind = of_kind_on stop.on met es (step, i, x) goes.too_few are h in
          (record { not_done = snoc_all (λ (y : ℕ × ℕ × Event). y.2 ≢ event.Done) es (step, i, x) goes.not_done (not_done x f); too_few = behind.0 }, behind.1)

  pub next_drawn : (h : Schedule) (n draw : ℕ) → IsDrawn h old.program.threads n draw
      → IsDrawn h old.program.threads (n + 1) (next_draw h old.program.threads draw)
  next_drawn schedule.RoundRobin n draw drawn = next_in_turn old.program.threads n draw some_thread drawn
  next_drawn (schedule.Seed seed) n draw drawn =
      let one_more : suc n ≡ n + 1 = omega arith in ap next_number drawn ∙ ap (drawn_at seed) one_more
  next_drawn (schedule.List list) n draw drawn = tt

  pub one_more : (n met draw : ℕ) (a b : Run) (i : ℕ) (e : Entry) → SoFar n met draw a → n < stop.steps
      → IsStep a i e b → i ≡ thread_at how old.program.threads n → end_at stop.on met e.outcome ≡ None
      → SoFar (n + 1) (met_at stop.on met e.outcome) (next_draw how old.program.threads draw) b
  unfolding adds_one
  one_more n met draw a b i e so below step thread none =
      let behind =
      goes_on_with e.outcome (length a.made.items + 1) i met so.added.events so.goes_on so.met_are none in
      record {
        added = adds_one a b i e so.added (subst (λ k. k < stop.steps) (sym so.count) below) step (thread ∙ ap (thread_at how old.program.threads) (sym so.count));
        count = sym (snoc_length so.added.made (made_of i e)) ∙ ap suc so.count ∙ (let one : suc n ≡ n + 1 = omega arith in one);
        goes_on = behind.0;
        met_are = behind.1;
        drawn = next_drawn how n draw so.drawn;
      }

  -- ---- ends

  ends_with : (o : Outcome) (steps step i met : ℕ) (es : List (ℕ × ℕ × Event)) (why : End) → GoesOn stop es
      → IfSome stop.on (λ on. count_of on.0 es ≡ met) → end_at stop.on met o ≡ Some why
      → IsEnded stop steps step (es ++ event_of step i o) why
  ends_with outcome.Quiet steps step i met es why goes are is = absurd (none_some refl is)
  ends_with (outcome.NotReady address word) steps step i met es why goes are is = absurd (none_some refl is)
  ends_with outcome.Ended steps step i met es why goes are is = absurd (none_some refl is)
  ends_with (outcome.Event x) steps step i met es why goes are is = go (is_done x) refl is
    where
      at : EndsAt stop step (es ++ (step, i, x) ∷ [])
      at = record { before = es; goes_on = goes; thread = i; last = x; are = refl }

      of_kind : (on : Option (Break × ℕ)) → stop.on ≡ on → IfSome on (λ o. count_of o.0 es ≡ met)
          → end_of_kind on met x ≡ Some why → IsEnded stop steps step (es ++ (step, i, x) ∷ []) why
      of_kind None f are h = absurd (none_some refl h)
      of_kind (Some o) f are h = by (is_of_kind o.0 x) (met + 1 == o.1) refl refl h
        where
          by : (b c : Bool) → is_of_kind o.0 x ≡ b → met + 1 == o.1 ≡ c
              → ◌≡◌ {A = Option End} (if b && c then Some end.Break else None) (Some why)
              → IsEnded stop steps step (es ++ (step, i, x) ∷ []) why
          by true true g q h =
              let more : count_of o.0 (es ++ (step, i, x) ∷ []) ≡ count_of o.0 es + 1 =
              snoc_counts o.0 es (step, i, x) ∙ ap (λ (b : Bool). count_of o.0 es + (if b then 1 else 0)) g in
              let last : count_of o.0 (es ++ (step, i, x) ∷ []) ≡ o.1 = grind (arith, nat_tests) in
              subst (IsEnded stop steps step (es ++ (step, i, x) ∷ [])) (some_same refl h)
              (at, subst (λ (on : Option (Break × ℕ)). MatchOption on ⊥ (λ o. (is_of_kind o.0 x ≡ true) × (count_of o.0 (es ++ (step, i, x) ∷ []) ≡ o.1))) (sym f) (g, last))
          by true false g q h = absurd (none_some refl h)
          by false c g q h = absurd (none_some refl h)

      go : (b : Bool) → is_done x ≡ b
          → ◌≡◌ {A = Option End} (if b then Some end.Done else end_of_kind stop.on met x) (Some why)
          → IsEnded stop steps step (es ++ (step, i, x) ∷ []) why
      go true f h =
          subst (IsEnded stop steps step (es ++ (step, i, x) ∷ [])) (some_same refl h) (at, done_is x f)
      go false f h = of_kind stop.on refl are h

  pub ended : (n met draw : ℕ) (a b : Run) (i : ℕ) (e : Entry) (why : End) → SoFar n met draw a
      → n < stop.steps → IsStep a i e b → i ≡ thread_at how old.program.threads n
      → end_at stop.on met e.outcome ≡ Some why → IsRunBy old how stop (Ok why) b
  unfolding adds_one
  ended n met draw a b i e why so below step thread is =
      let number : length a.made.items + 1 ≡ length b.made.items =
      (let one : length a.made.items + 1 ≡ suc (length a.made.items) = omega arith in one)
      ∙ snoc_length a.made.items (made_of i e)
      ∙ ap length (sym step.made) in
      let added =
      adds_one a b i e so.added (subst (λ k. k < stop.steps) (sym so.count) below) step
      (thread ∙ ap (thread_at how old.program.threads) (sym so.count)) in
      (added, subst (λ k. IsEnded stop (length added.made) k added.events why) number (ends_with e.outcome (length added.made) (length a.made.items + 1) i met so.added.events why so.goes_on so.met_are is))

  pub all_made : (n met draw : ℕ) (a : Run) → SoFar n met draw a → n ≡ stop.steps
      → IsRunBy old how stop (Ok end.Steps) a
  all_made n met draw a so all = (so.added, (so.goes_on, so.count ∙ all))

  pub refused : (n met draw : ℕ) (a : Run) (why : AllocError) → SoFar n met draw a
      → IsRunBy old how stop (Err why) a
  refused n met draw a why so = (so.added, so.goes_on)

  -- there are fewer of the kind than the number
  pub fewer : (n met draw : ℕ) (a : Run) → SoFar n met draw a → IsBelow stop.on met
  fewer n met draw a so = go stop.on so.goes_on.too_few so.met_are
    where
      go : (on : Option (Break × ℕ)) → IfSome on (λ o. count_of o.0 so.added.events < o.1)
          → IfSome on (λ o. count_of o.0 so.added.events ≡ met) → IsBelow on met
      go None few are = tt
      go (Some o) few are = subst (λ k. k < o.1) are few
