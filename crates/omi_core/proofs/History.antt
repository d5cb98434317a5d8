-- A step more at the end of a list of steps, and what the list makes then.
use Rattle.std.proofs.Common.{◌≡◌, ◌≢◌, ◌+◌, ◌==◌, ◌++◌, ℕ, suc, Bool, true, false, List, [], ◌∷◌, length, refl, sym, ap, ◌∙◌, subst, arith, eqb-true, eq-eqb, if◌then◌else◌}
use Rattle.std.proofs.lemmas.List.{append_assoc, append-nil}
use Rattle.omi_word.specs.Memory.{words_after}
use Rattle.omi_script.specs.declared.program.Program.{Program}
use Rattle.omi_model.specs.declared.event.Event.{Event}
use Rattle.omi_model.specs.State.{State}
use Rattle.omi_run_lists.specs.declared.made.Made.{Made}
use Rattle.omi_layout.specs.Memory.{replace_at}
use Rattle.omi_pc.specs.declared.actor.Actor.{Actor}
use Rattle.omi_pc.specs.declared.counter.Counter.{Counter}
use Rattle.omi_pc.specs.declared.counter.Counter.TheVariants as counter
use Rattle.omi_pc.specs.declared.team_counter.WorkerCounter.TheVariants as worker
use Rattle.omi_rep.specs.declared.outcome.Outcome.{Outcome}
use Rattle.omi_rep.specs.declared.outcome.Outcome.TheVariants as outcome
use Rattle.omi_actor.specs.Steps.{resumed_at}
use Rattle.omi_rule.specs.Steps.{committed}
use Rattle.omi_rule_watch.specs.Watch.{Watch}
use Rattle.omi_core.specs.declared.entry.Entry.{Entry}
use Rattle.omi_core.specs.Runs.{events_in}
use Rattle.omi_core.specs.RunSteps.{event_of, made_of}
use Rattle.omi_core.specs.Steps.{IsStepFrom, IsWatched, StartsAsWorker, Steps, Watches, events_behind, made_of_steps, steps_of}
use Rattle.omi_core.specs.Kept.{IsUnderWay}

-- ---- events

-- the events of a list of numbered ones
pub events_append : (xs ys : List (ℕ × ℕ × Event)) → events_in (xs ++ ys) ≡ events_in xs ++ events_in ys
events_append [] ys = refl
events_append (x ∷ xs) ys = ap (λ (zs : List (ℕ × Event)). (x.1, x.2) ∷ zs) (events_append xs ys)

pub event_committed : (step i : ℕ) (o : Outcome) → events_in (event_of step i o) ≡ committed i o
event_committed step i outcome.Quiet = refl
event_committed step i (outcome.Event e) = refl
event_committed step i (outcome.NotReady address word) = refl
event_committed step i outcome.Ended = refl

-- the events that steps commit
abbrev pub commits_of : List (ℕ × Entry) → List (ℕ × Event)
commits_of [] = []
commits_of (x ∷ xs) = committed x.0 x.1.outcome ++ commits_of xs

pub commits_behind : (n : ℕ) (xs : List (ℕ × Entry)) → events_in (events_behind n xs) ≡ commits_of xs
commits_behind n [] = refl
commits_behind n (x ∷ xs) =
    events_append (event_of (n + 1) x.0 x.1.outcome) (events_behind (n + 1) xs)
    ∙ ap (λ ys. ys ++ events_in (events_behind (n + 1) xs)) (event_committed (n + 1) x.0 x.1.outcome)
    ∙ ap (λ ys. committed x.0 x.1.outcome ++ ys) (commits_behind (n + 1) xs)

-- ---- one step more

pub events_one_more : (n : ℕ) (xs : List (ℕ × Entry)) (i : ℕ) (e : Entry)
    → events_behind n (xs ++ (i, e) ∷ []) ≡ events_behind n xs ++ event_of (n + length xs + 1) i e.outcome
events_one_more n [] i e =
    append-nil (event_of (n + 1) i e.outcome) ∙ ap (λ k. event_of k i e.outcome) (omega arith)
events_one_more n (x ∷ xs) i e =
    ap (λ ys. event_of (n + 1) x.0 x.1.outcome ++ ys)
    (events_one_more (n + 1) xs i e ∙ ap (λ k. events_behind (n + 1) xs ++ event_of k i e.outcome) (omega arith))
    ∙ sym
    (append_assoc (event_of (n + 1) x.0 x.1.outcome) (events_behind (n + 1) xs) (event_of (n + length (x ∷ xs) + 1) i e.outcome))

pub made_one_more : (xs : List (ℕ × Entry)) (i : ℕ) (e : Entry)
    → made_of_steps (xs ++ (i, e) ∷ []) ≡ made_of_steps xs ++ made_of i e ∷ []
made_one_more [] i e = refl
made_one_more (x ∷ xs) i e = ap (λ (ys : List Made). made_of x.0 x.1 ∷ ys) (made_one_more xs i e)

pub made_length : (xs : List (ℕ × Entry)) → length (made_of_steps xs) ≡ length xs
made_length [] = refl
made_length (x ∷ xs) = ap suc (made_length xs)

pub steps_one_more : (p : Program) (w words : List ℕ) (past : List (ℕ × Event)) (s : State) (watches : Watches) (xs : List (ℕ × Entry)) (last : List ℕ) (t : State) (later : Watches) (i : ℕ) (e : Entry) (next : State) (watch : Watch)
    → Steps p w words past s watches xs last t later → IsStepFrom p w last (past ++ commits_of xs) t i e next → IsWatched p w last t i e (later i) watch
    → Steps p w words past s watches (xs ++ (i, e) ∷ []) (words_after last e.op) next
    (replace_at later i watch)
steps_one_more p w words past s watches [] last t later i e next watch (same, is, kept) step seen = (
  next,
  watch,
  subst (λ (z : State). IsStepFrom p w words past z i e next) is (subst (λ ws. IsStepFrom p w ws past t i e next) same (subst (λ es. IsStepFrom p w last es t i e next) (append-nil past) step)),
  subst (λ (z : State). IsWatched p w words z i e (watches i) watch) is (subst (λ ws. IsWatched p w ws t i e (watches i) watch) same (subst (λ (h : Watches). IsWatched p w last t i e (h i) watch) kept seen)),
  (ap (λ ws. words_after ws e.op) same, refl, ap (λ (h : Watches). replace_at h i watch) kept),
)
steps_one_more p w words past s watches (x ∷ xs) last t later i e next watch (n, h, one, first, rest) step seen = (
  n,
  h,
  one,
  first,
  steps_one_more p w (words_after words x.1.op) (past ++ committed x.0 x.1.outcome) n
      (replace_at watches x.0 h) xs last t later i e next watch rest
      (subst (λ es. IsStepFrom p w last es t i e next) (sym (append_assoc past (committed x.0 x.1.outcome) (commits_of xs))) step) seen,
)

-- ---- the steps of one thread

-- what a list has under one number, when one more is added at its end
module _ {A : Type 0} (under : List (ℕ × A) → List A) (j : ℕ) (none : under [] ≡ [])
    (some : (x : ℕ × A) (xs : List (ℕ × A)) → under (x ∷ xs) ≡ (if x.0 == j then x.1 ∷ under xs else under xs)) where
  -- under this number
  pub own_more : (xs : List (ℕ × A)) (a : A) → under (xs ++ (j, a) ∷ []) ≡ under xs ++ a ∷ []
  own_more [] a =
      some (j, a) []
      ∙ ap (λ b. if b then a ∷ under [] else under []) (eq-eqb j j refl)
      ∙ ap (λ (ys : List A). a ∷ ys) none
      ∙ ap (λ (ys : List A). ys ++ a ∷ []) (sym none)
  own_more (x ∷ xs) a =
      some x (xs ++ (j, a) ∷ [])
      ∙ by (own_more xs a) (x.0 == j)
      ∙ ap (λ (ys : List A). ys ++ a ∷ []) (sym (some x xs))
    where
      by : under (xs ++ (j, a) ∷ []) ≡ under xs ++ a ∷ [] → (b : Bool)
          → (if b then x.1 ∷ under (xs ++ (j, a) ∷ []) else under (xs ++ (j, a) ∷ [])) ≡ (if b then x.1 ∷ under xs else under xs) ++ a ∷ []
      by rest true = ap (λ (ys : List A). x.1 ∷ ys) rest
      by rest false = rest

  -- and under another one
  pub other_more : (i : ℕ) (xs : List (ℕ × A)) (a : A) → i ≢ j → under (xs ++ (i, a) ∷ []) ≡ under xs
  other_more i [] a other = some (i, a) [] ∙ by (i == j) refl
    where
      by : (b : Bool) → i == j ≡ b → (if b then a ∷ under [] else under []) ≡ under []
      by true is = absurd (other (eqb-true i j is))
      by false is = refl
  other_more i (x ∷ xs) a other =
      some x (xs ++ (i, a) ∷ [])
      ∙ ap (λ (ys : List A). if x.0 == j then x.1 ∷ ys else ys) (other_more i xs a other)
      ∙ sym (some x xs)

pub own_one_more : (j : ℕ) (xs : List (ℕ × Entry)) (e : Entry)
    → steps_of j (xs ++ (j, e) ∷ []) ≡ steps_of j xs ++ e ∷ []
own_one_more j = own_more (steps_of j) j refl (λ x xs. refl)

pub other_one_more : (j i : ℕ) (xs : List (ℕ × Entry)) (e : Entry) → i ≢ j
    → steps_of j (xs ++ (i, e) ∷ []) ≡ steps_of j xs
other_one_more j = other_more (steps_of j) j refl (λ x xs. refl)

-- a worker makes its next step
pub goes_under_way : (p : Program) (w : List ℕ) (a : Actor) (es : List Entry) (e : Entry)
    → IsUnderWay es a.counter → e.outcome ≡ (resumed_at p w a a.counter e.old).1
    → IsUnderWay (es ++ e ∷ []) (resumed_at p w a a.counter e.old).0.counter
goes_under_way p w a [] e at out =
    subst
    (λ (c : Counter). e.outcome ≡ (resumed_at p w a c e.old).1 → StartsAsWorker (e ∷ []) × ((resumed_at p w a c e.old).0.counter ≡ counter.Worker worker.Offer))
    (sym at) (λ is. (is, refl)) out
goes_under_way p w a (f ∷ []) e (first, at) out =
    subst (λ (c : Counter). e.outcome ≡ (resumed_at p w a c e.old).1 → StartsAsWorker (f ∷ e ∷ [])) (sym at)
    (λ is. (first, is)) out
goes_under_way p w a (f ∷ g ∷ es) e starts out = starts

pub starts_right : (es : List Entry) (c : Counter) → IsUnderWay es c → StartsAsWorker es
starts_right [] c at = tt
starts_right (e ∷ []) c (starts, at) = starts
starts_right (e ∷ f ∷ es) c starts = starts
