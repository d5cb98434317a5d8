-- One step of a thread of a run, for which no room need be there.
use Rattle.std.proofs.Common.{◌≡◌, ◌<◌, ◌≤◌, ◌+◌, ◌*◌, ◌/◌, ◌++◌, ℕ, [], ◌∷◌, length, slice_set, refl, ap, ◌∙◌, subst, arith}
use Rattle.std.proofs.Math.Nat.{div_self}
use Rattle.omi_word.specs.Memory.{IsWordOf, address_of, words_after, word_at}
use Rattle.omi_script.proofs.RuleLemmas.{Rules-from_accepted}
use Rattle.omi_model.specs.declared.event.Event.{Event}
use Rattle.omi_model.specs.declared.event.Event.TheVariants as event
use Rattle.omi_model.specs.Reached.{Step}
use Rattle.omi_rep.specs.declared.outcome.Outcome.{Outcome}
use Rattle.omi_rep.specs.declared.outcome.Outcome.TheVariants as outcome
use Rattle.omi_actor.specs.Steps.{next_of}
use Rattle.omi_run_lists.specs.Events.{team_in}
use Rattle.omi_rule.specs.Steps.{LeadsOn}
use Rattle.omi_core.specs.declared.entry.Entry.{Entry}
use Rattle.omi_core.specs.Found.{actor_after, entry_at}
use Rattle.omi_core.specs.Kept.{KeepsRun}
use Rattle.omi_core.specs.Runs.{Run, actors_in, spare_in, events_in}
use Rattle.omi_core.specs.RunSteps.{event_of, made_of, seats_of}
use Rattle.omi_core.specs.Steps.{steps_of}
use Rattle.omi_core.proofs.History.{made_length}
use Rattle.omi_core.proofs.Stepping.{entries_behind, inside, keeps_behind, other_room, same_entries, rule_after}
use Rattle.omi_seat.specs.declared.limits.TheConstants.{MOST_BUDGET}
use Rattle.omi_seat.specs.Claims.{claims_from}
use Rattle.omi_seat.proofs.Claims.{by_steps, claims_by, few_in_team}
use Rattle.omi_seat.proofs.Count.{are_of, few_in_all}

-- ---- room

-- the same run, with room for one step
abbrev roomy : Run → Run
roomy a = record {
  program = a.program;
  table = a.table;
  words = a.words;
  actors = a.actors;
  events = record { items = a.events.items; spare = 1; seats = a.program.threads };
  made = record { items = a.made.items; spare = 1 };
}

keeps_roomy : (a : Run) → KeepsRun a → KeepsRun (roomy a)
keeps_roomy a k = other_room a k (roomy a).events (roomy a).made refl refl

-- the number of a thread is a byte
few_made : (a : Run) (k : KeepsRun a) → ((i : ℕ) → length (steps_of i k.entries) ≤ MOST_BUDGET)
    → length a.made.items ≤ 256 * MOST_BUDGET
few_made a k few =
    let steps = k.made_by.steps in
    let each =
    are_of a.program a.table steps.first [] _ _ k.entries a.words k.state steps.watches steps.steps in
    let all = few_in_all a.program.threads MOST_BUDGET k.entries each few in
    let count : length a.made.items ≡ length k.entries =
    ap length k.made_by.made ∙ made_length k.entries in
    let most = (Rules-from_accepted a.program).threads.1 in
    omega (arith, all, count, most)

some_room : (a : Run) (k : KeepsRun a) → ((i : ℕ) → length (steps_of i k.entries) ≤ MOST_BUDGET)
    → 1 ≤ spare_in (roomy a)
some_room a k few =
    let made = few_made a k few in
    let some : 0 < a.program.threads = (Rules-from_accepted a.program).threads.0 in
    let one : a.program.threads / a.program.threads ≡ 1 = div_self some in
    grind (arith, made, one)

-- ---- the step

-- what it is, and the run behind it
abbrev pub entry_of : Run → ℕ → Entry
entry_of a i =
    let actor = actors_in a.actors i in
    entry_at a.program a.table actor (word_at a.words (address_of (next_of a.program a.table actor)))

abbrev pub run_behind : (a : Run) → ℕ → Run
run_behind a i =
    let e = entry_of a i in
    record {
      program = a.program;
      table = a.table;
      words = words_after a.words e.op;
      actors = slice_set a.actors i (actor_after a.program a.table (actors_in a.actors i) e.old);
      events = record { items = a.events.items ++ event_of (length a.made.items + 1) i e.outcome; spare = 0; seats = 0 };
      made = record { items = a.made.items ++ made_of i e ∷ []; spare = 0 };
    }

module _ (a : Run) (k : KeepsRun a) (few : (i : ℕ) → length (steps_of i k.entries) ≤ MOST_BUDGET) (i : ℕ)
    (thread : i < a.program.threads) where
  room : 1 ≤ spare_in (roomy a)
  room = some_room a k few

  whole : KeepsRun (roomy a)
  whole = keeps_roomy a k

  pub next_run : KeepsRun (run_behind a i)
  next_run =
      keeps_behind (roomy a) whole i thread room (entry_of a i) refl refl refl
      (run_behind a i).events (run_behind a i).made refl refl

  pub next_entries : next_run.entries ≡ k.entries ++ (i, entry_of a i) ∷ []
  unfolding next_run whole keeps_roomy
  next_entries =
      entries_behind (roomy a) whole i thread room (entry_of a i) refl refl refl
      (run_behind a i).events (run_behind a i).made refl refl
      ∙ ap (λ es. es ++ (i, entry_of a i) ∷ []) (same_entries a k (roomy a).events (roomy a).made refl refl)

  pub on_word : IsWordOf a.words (address_of (entry_of a i).op)
  on_word = inside (roomy a) whole i thread room

  -- the claims of the thread before it
  abbrev claims : ℕ
  claims = claims_by i 0 (events_in a.events.items)

  -- a team that it forks has at most one member more than the thread has claims
  pub few_members : seats_of (entry_of a i).outcome ≤ claims_from 0 (steps_of i k.entries) + 1
  few_members =
      subst (λ n. seats_of (entry_of a i).outcome ≤ n + 1)
      (ap (λ es. claims_by i 0 (events_in es)) k.made_by.events ∙ by_steps i 0 0 k.entries)
      (go (entry_of a i).outcome (rule_after (roomy a) whole i thread room).leads)
    where
      go : (o : Outcome)
          → LeadsOn a.program a.table (events_in a.events.items) whole.state i o (rule_after (roomy a) whole i thread room).next
          → seats_of o ≤ claims + 1
      go outcome.Quiet leads = omega arith
      go (outcome.NotReady address word) leads = omega arith
      go outcome.Ended leads = omega arith
      go (outcome.Event e) leads = by e leads
        where
          by : (e : Event)
              → Step a.program whole.state i e (rule_after (roomy a) whole i thread room).next
              → length (team_in e) ≤ claims + 1
          by (event.Fork region team) step =
              few_in_team a.program
              (events_in a.events.items) whole.state whole.rule.reached i region team step.legal
          by e step = omega arith
