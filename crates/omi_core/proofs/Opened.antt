-- A run before its first step keeps the rule.
use Rattle.std.proofs.Common.{◌≡◌, ◌<◌, ◌≤◌, ◌+◌, ◌++◌, ◌⊎◌, inl, inr, ℕ, zero, suc, List, [], ◌∷◌, length, slice_index_or, refl, sym, ap, ◌∙◌, subst, arith}
use mathlib.Core.Path.{fun_ext}
use Rattle.std.proofs.lemmas.Bool.{cases_lt}
use Rattle.std.proofs.Math.ListN.{get_or-eq_default}
use Rattle.omi_script.specs.declared.program.Program.{Program}
use Rattle.omi_script.proofs.RuleLemmas.{Rules-from_accepted}
use Rattle.omi_model.specs.Opening.{opening}
use Rattle.omi_layout.specs.Memory.{memory_of}
use Rattle.omi_layout.specs.OpeningWords.{AreOpening}
use Rattle.omi_layout.specs.Valid.{IsValid}
use Rattle.omi_pc.specs.declared.actor.Actor.{Actor}
use Rattle.omi_pc.specs.Opening.{opening_actor, waiting_actor}
use Rattle.omi_rep.specs.Suits.{Suits}
use Rattle.omi_rule.specs.Rule.{Rule}
use Rattle.omi_rule.proofs.OpenedRule.{opening_keeps}
use Rattle.omi_rule_watch.specs.Given.{IsGiven}
use Rattle.omi_rule_watch.specs.Watch.{opening_watch}
use Rattle.omi_rule_watch.proofs.Kept.{openings_given}
use Rattle.omi_core.specs.Kept.{IsUnderWay, KeepsRun}
use Rattle.omi_core.specs.Steps.{opening_watches}
use Rattle.omi_core.specs.Runs.{AreOpeningActors, Run, actors_in, events_in}

-- an actor is added at the end
actor_before : (xs : List Actor) (x : Actor) (j : ℕ) (d : Actor) → j < length xs
    → slice_index_or (xs ++ x ∷ []) j d ≡ slice_index_or xs j d
actor_before [] x j d below = absurd (omega (arith, below))
actor_before (y ∷ ys) x zero d below = refl
actor_before (y ∷ ys) x (suc j) d below = actor_before ys x j d (omega (arith, below))

actor_last : (xs : List Actor) (x : Actor) (j : ℕ) (d : Actor) → j ≡ length xs
    → slice_index_or (xs ++ x ∷ []) j d ≡ x
actor_last [] x zero d is = refl
actor_last [] x (suc j) d is = absurd (omega (arith, is))
actor_last (y ∷ ys) x zero d is = absurd (omega (arith, is))
actor_last (y ∷ ys) x (suc j) d is = actor_last ys x j d (omega (arith, is))

below_or_last : (j n : ℕ) → j < n + 1 → (j < n) ⊎ (j ≡ n)
below_or_last j n below = go (cases_lt j n)
  where
    go : (j < n) ⊎ (n ≤ j) → (j < n) ⊎ (j ≡ n)
    go (inl less) = inl less
    go (inr more) = inr (omega (arith, below, more))

pub one_more_actor : (f : ℕ → Actor) (xs ys : List Actor) (x : Actor) (n : ℕ) → ys ≡ xs ++ x ∷ [] → x ≡ f n
    → length xs ≡ n → ((j : ℕ) → j < n → actors_in xs j ≡ f j) → (j : ℕ) → j < n + 1 → actors_in ys j ≡ f j
one_more_actor f xs ys x n added is count each j below =
    ap (λ zs. actors_in zs j) added ∙ go (below_or_last j n below)
  where
    go : (j < n) ⊎ (j ≡ n) → actors_in (xs ++ x ∷ []) j ≡ f j
    go (inl less) = actor_before xs x j (waiting_actor j) (subst (λ k. j < k) (sym count) less) ∙ each j less
    go (inr same) = actor_last xs x j (waiting_actor j) (same ∙ sym count) ∙ is ∙ ap f (sym same)

-- the actors of a list, whatever thread is asked for
actors_open : (p : Program) (actors : List Actor) → AreOpeningActors p actors
    → actors_in actors ≡ opening_actor p
actors_open p actors are = fun_ext (λ j. go j (cases_lt j p.threads))
  where
    beyond : (j : ℕ) → p.threads ≤ j → waiting_actor j ≡ opening_actor p j
    beyond zero past = absurd (let some = (Rules-from_accepted p).threads.0 in omega (arith, past, some))
    beyond (suc i) past = refl

    go : (j : ℕ) → (j < p.threads) ⊎ (p.threads ≤ j) → actors_in actors j ≡ opening_actor p j
    go j (inl known) = are.each j known
    go j (inr past) =
        get_or-eq_default actors (waiting_actor j) (subst (λ n. n ≤ j) (sym are.count) past) ∙ beyond j past

pub opened_run : (a : Run) → IsValid a.table → Suits a.program a.table → AreOpening a.program a.table a.words
    → AreOpeningActors a.program a.actors → a.events.items ≡ [] → a.made.items ≡ [] → KeepsRun a
opened_run a valid suits words actors none no_step = record {
  state = opening a.program;
  valid = valid;
  suits = suits;
  count = words.count;
  tables = words.tables;
  actors = actors.count;
  few = let no_event : length a.events.items ≡ 0 = ap length none in omega (arith, no_event);
  rule =
      subst
      (λ es. Rule a.program a.table (memory_of a.table a.words) es (opening a.program) (actors_in a.actors))
      (sym (ap events_in none))
      (subst (λ (xs : ℕ → Actor). Rule a.program a.table (memory_of a.table a.words) [] (opening a.program) xs) (sym (actors_open a.program a.actors actors)) (opening_keeps a.program a.table a.words valid suits words));
  entries = [];
  made_by = record {
    steps = record { first = a.words; opens = words; watches = opening_watches; steps = (refl, refl, refl); workers = λ i worker. tt };
    events = none;
    made = no_step;
  };
  behind = λ i. record { follow = refl; actor = ap (λ (xs : ℕ → Actor). xs i) (actors_open a.program a.actors actors) };
  workers = at_begin;
  watched = λ i. subst (λ (b : Actor). IsGiven a.program b opening_watch) (sym (ap (λ (xs : ℕ → Actor). xs i) (actors_open a.program a.actors actors))) (openings_given a.program i);
}
  where
    at_begin : (i : ℕ) → 0 < i → IsUnderWay [] (actors_in a.actors i).counter
    at_begin zero worker = absurd (omega (arith, worker))
    at_begin (suc i) worker =
        ap (λ (xs : ℕ → Actor). (xs (suc i)).counter) (actors_open a.program a.actors actors)
