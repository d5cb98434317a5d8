-- A step of a thread of a run: what its calls ask for, and that the run behind it keeps what a run keeps.
use Rattle.std.proofs.Common.{◌≡◌, ◌<◌, ◌≤◌, ◌+◌, ◌++◌, [], ◌∷◌, ℕ, length, slice_index_or, slice_set, refl, sym, ap, ◌∙◌, subst, arith}
use Rattle.omi_word.specs.declared.op.Op.{Op}
use Rattle.omi_word.specs.Memory.{IsWordOf, address_of, word_at}
use Rattle.omi_pc.specs.declared.actor.Actor.{Actor}
use Rattle.omi_pc.specs.Fits.{Fits}
use Rattle.omi_rep.specs.declared.outcome.Outcome.{Outcome}
use Rattle.omi_step_words.specs.Outcomes.{outcome_of}
use Rattle.omi_step_words.specs.Placed.{IsPlaced}
use Rattle.omi_actor.specs.Steps.{next_of, resumed_at}
use Rattle.omi_core.specs.Runs.{Run, actors_in, spare_in}
use Rattle.omi_core.specs.declared.entry.Entry.{Entry}
use Rattle.omi_core.specs.RunSteps.{IsRight, IsStep, event_of, seats_of, turn_of}
use Rattle.omi_run_lists.specs.declared.made.Turn.{Turn}
use Rattle.std.proofs.lemmas.List.{length-append}
use Rattle.omi_core.specs.Kept.{KeepsRun}
use Rattle.omi_core.proofs.Stepping.{actor_is, few_seats, inside, own, right, run_after, seats_for, spare_after}
use Rattle.omi_core.proofs.run.Core.step.Goals as goal

-- the actor of a thread, as it is read from the list of a run that is seen as this one
module _ (a seen : Run) (view : a ≡ seen) (keeps : KeepsRun a) (i : ℕ) (known : i < seen.program.threads) (b : Actor)
    (read : b ≡ slice_index_or a.actors i b) where
  thread : i < a.program.threads
  thread = subst (λ (z : Run). i < z.program.threads) (sym view) known

  read_is : b ≡ actors_in a.actors i
  read_is = read ∙ actor_is a.actors i b (subst (λ n. i < n) (sym keeps.actors) thread)

  fits_read : Fits a.program b
  fits_read = subst (λ (x : Actor). Fits a.program x) (sym read_is) (own a keeps i thread).fits

  placed_read : IsPlaced a.table b
  placed_read = subst (λ (x : Actor). IsPlaced a.table x) (sym read_is) (own a keeps i thread).placed

pub next-op-requires-clause-fits : goal.next-op-requires-clause-fits
next-op-requires-clause-fits c =
    fits_read _ _ c.self.view_is c.self.invariant c.args.i c.requires.thread c.index-actor.result.now c.index-actor.ensures

pub next-op-requires-clause-placed : goal.next-op-requires-clause-placed
next-op-requires-clause-placed c =
    placed_read _ _ c.self.view_is c.self.invariant c.args.i c.requires.thread c.index-actor.result.now c.index-actor.ensures

pub next-op-requires-clause-groups : goal.next-op-requires-clause-groups
next-op-requires-clause-groups c = c.self.invariant.suits.groups

pub apply-found-requires : goal.apply-found-requires
apply-found-requires c =
    let thread = subst (λ (z : Run). c.args.i < z.program.threads) (sym c.self.view_is) c.requires.thread in
    let spare = subst (λ (z : Run). 1 ≤ spare_in z) (sym c.self.view_is) c.requires.spare in
    let here = read_is _ _ c.self.view_is c.self.invariant c.args.i c.requires.thread c.index-actor.result.now c.index-actor.ensures in
    subst (λ (o : Op). IsWordOf c.self.inside.image (address_of o))
    (sym (c.next-op.ensures ∙ ap (λ (b : Actor). next_of c.self.inside.program c.self.inside.layout.table b) here))
    (inside _ c.self.invariant c.args.i thread spare)

pub outcome-came-requires-clause-fits : goal.outcome-came-requires-clause-fits
outcome-came-requires-clause-fits c =
    fits_read _ _ c.self.view_is c.self.invariant c.args.i c.requires.thread c.index-actor.result.now c.index-actor.ensures

pub outcome-came-requires-clause-placed : goal.outcome-came-requires-clause-placed
outcome-came-requires-clause-placed c =
    placed_read _ _ c.self.view_is c.self.invariant c.args.i c.requires.thread c.index-actor.result.now c.index-actor.ensures

pub outcome-came-requires-clause-groups : goal.outcome-came-requires-clause-groups
outcome-came-requires-clause-groups c = c.self.invariant.suits.groups

pub advance-requires-clause-fits : goal.advance-requires-clause-fits
advance-requires-clause-fits c =
    fits_read _ _ c.self.view_is c.self.invariant c.args.i c.requires.thread c.index_mut.result.now c.index_mut.ensures.value

pub advance-requires-clause-placed : goal.advance-requires-clause-placed
advance-requires-clause-placed c =
    placed_read _ _ c.self.view_is c.self.invariant c.args.i c.requires.thread c.index_mut.result.now c.index_mut.ensures.value

pub list_event-requires-clause-seats : goal.list_event-requires-clause-seats
list_event-requires-clause-seats c =
    let thread = subst (λ (z : Run). c.args.i < z.program.threads) (sym c.self.view_is) c.requires.thread in
    let spare = subst (λ (z : Run). 1 ≤ spare_in z) (sym c.self.view_is) c.requires.spare in
    let within = subst (λ n. c.args.i < n) (sym c.self.invariant.actors) thread in
    let found =
    c.apply-found.ensures.old
    ∙ ap (λ (o : Op). word_at c.self.inside.image (address_of o))
    (c.next-op.ensures
    ∙ ap (λ (b : Actor). next_of c.self.inside.program c.self.inside.layout.table b)
    (c.index-actor.ensures ∙ actor_is c.self.inside.actors.items c.args.i c.index-actor.result.now within)) in
    seats_for _ c.self.invariant c.args.i thread spare (outcome_of c.index-actor.result.now c.outcome-came.result)
    (c.outcome-came.ensures
    ∙ ap
    (λ (b : Actor). (resumed_at c.self.inside.program c.self.inside.layout.table b b.counter c.apply-found.result.old).1)
    (c.index-actor.ensures ∙ actor_is c.self.inside.actors.items c.args.i c.index-actor.result.now within)
    ∙ ap (λ n. (resumed_at c.self.inside.program c.self.inside.layout.table (actors_in c.self.inside.actors.items c.args.i) (actors_in c.self.inside.actors.items c.args.i).counter n).1) found)

-- ---- behind the step

threads_known : (c : goal.After-self-1) → c.args.i < c.self.inside.program.threads
threads_known c = subst (λ (z : Run). c.args.i < z.program.threads) (sym c.self.view_is) c.requires.thread

some_spare : (c : goal.After-self-1)
    → 1 ≤ spare_in (record { program = c.self.inside.program; table = c.self.inside.layout.table; words = c.self.inside.image; actors = c.self.inside.actors.items; events = c.self.inside.events; made = c.self.inside.made })
some_spare c = subst (λ (z : Run). 1 ≤ spare_in z) (sym c.self.view_is) c.requires.spare

in_list : (c : goal.After-self-1) → c.args.i < length c.self.inside.actors.items
in_list c = subst (λ n. c.args.i < n) (sym c.self.invariant.actors) (threads_known c)

-- the operation, and the word that it found
op_is : (c : goal.After-self-1)
    → c.next-op.result ≡ next_of c.self.inside.program c.self.inside.layout.table (actors_in c.self.inside.actors.items c.args.i)
op_is c =
    c.next-op.ensures
    ∙ ap (λ (b : Actor). next_of c.self.inside.program c.self.inside.layout.table b)
    (c.index-actor.ensures ∙ actor_is c.self.inside.actors.items c.args.i c.index-actor.result.now (in_list c))

found_is : (c : goal.After-self-1)
    → c.apply-found.result.old ≡ word_at c.self.inside.image (address_of (next_of c.self.inside.program c.self.inside.layout.table (actors_in c.self.inside.actors.items c.args.i)))
found_is c = c.apply-found.ensures.old ∙ ap (λ (o : Op). word_at c.self.inside.image (address_of o)) (op_is c)

-- the actor behind it, and the outcome
actor_now : (c : goal.After-self-1)
    → c.index_mut.result.now ≡ actors_in c.self.inside.actors.items c.args.i
actor_now c =
    c.index_mut.ensures.value
    ∙ actor_is c.self.inside.actors.items c.args.i c.index_mut.result.now (in_list c)

moved_is : (c : goal.After-self-1)
    → c.advance.new.a ≡ (resumed_at c.self.inside.program c.self.inside.layout.table (actors_in c.self.inside.actors.items c.args.i) (actors_in c.self.inside.actors.items c.args.i).counter c.apply-found.result.old).0
moved_is c =
    c.advance.ensures
    ∙ ap
    (λ (b : Actor). (resumed_at c.self.inside.program c.self.inside.layout.table b b.counter c.apply-found.result.old).0)
    (actor_now c)

outcome_is : (c : goal.After-self-1)
    → c.with_team-outcome.result ≡ (resumed_at c.self.inside.program c.self.inside.layout.table (actors_in c.self.inside.actors.items c.args.i) (actors_in c.self.inside.actors.items c.args.i).counter c.apply-found.result.old).1
outcome_is c =
    c.with_team-outcome.ensures
    ∙ c.outcome-came.ensures
    ∙ ap
    (λ (b : Actor). (resumed_at c.self.inside.program c.self.inside.layout.table b b.counter c.apply-found.result.old).1)
    (c.index-actor.ensures ∙ actor_is c.self.inside.actors.items c.args.i c.index-actor.result.now (in_list c))

-- the run before and behind the step, and what it answers
abbrev run_before : goal.After-self-1 → Run
run_before c = record { program = c.self.inside.program; table = c.self.inside.layout.table; words = c.self.inside.image; actors = c.self.inside.actors.items; events = c.self.inside.events; made = c.self.inside.made }

abbrev run_now : goal.After-self-1 → Run
run_now c = record {
  program = c.self.inside.program;
  table = c.self.inside.layout.table;
  words = c.apply-found.new.self;
  actors = slice_set c.self.inside.actors.items c.args.i c.advance.new.a;
  events = c.list_event.new.events;
  made = c.push_reserved.new.self;
}

abbrev entry_of : goal.After-self-1 → Entry
entry_of c = record { op = c.next-op.result; old = c.apply-found.result.old; outcome = c.with_team-outcome.result }

is_step : (c : goal.After-self-1) → IsStep (run_before c) c.args.i (entry_of c) (run_now c)
is_step c = record {
  op = op_is c;
  found = c.apply-found.ensures.old;
  outcome = outcome_is c;
  actors = ap (λ (b : Actor). slice_set c.self.inside.actors.items c.args.i b) (moved_is c);
  words = c.apply-found.ensures.after;
  made =
      c.push_reserved.ensures.added
      ∙ ap
      (λ (x : Turn). c.self.inside.made.items ++ record { op = c.next-op.result; old = c.apply-found.result.old; thread = c.args.i; turn = x } ∷ [])
      (c.turn_of.ensures c.index-actor.result.now.gathered.team ∙ ap turn_of (sym c.with_team-outcome.ensures));
  events =
      c.list_event.ensures.items
      ∙ (λ k. c.self.inside.events.items ++ event_of (c.len.ensures k + 1) c.args.i (sym c.with_team-outcome.ensures k));
  program = refl;
  table = refl;
}

outcome_found : (c : goal.After-self-1)
    → c.with_team-outcome.result ≡ (resumed_at c.self.inside.program c.self.inside.layout.table (actors_in c.self.inside.actors.items c.args.i) (actors_in c.self.inside.actors.items c.args.i).counter
    (word_at c.self.inside.image (address_of (next_of c.self.inside.program c.self.inside.layout.table (actors_in c.self.inside.actors.items c.args.i))))).1
outcome_found c =
    outcome_is c
    ∙ ap
    (λ n. (resumed_at c.self.inside.program c.self.inside.layout.table (actors_in c.self.inside.actors.items c.args.i) (actors_in c.self.inside.actors.items c.args.i).counter n).1)
    (found_is c)

-- the actors behind the step, by the word that it found
actors_are : (c : goal.After-self-1)
    → (run_now c).actors ≡ slice_set (run_before c).actors c.args.i (resumed_at c.self.inside.program c.self.inside.layout.table (actors_in c.self.inside.actors.items c.args.i) (actors_in c.self.inside.actors.items c.args.i).counter
    (word_at c.self.inside.image (address_of (next_of c.self.inside.program c.self.inside.layout.table (actors_in c.self.inside.actors.items c.args.i))))).0
actors_are c =
    (is_step c).actors
    ∙ ap
    (λ n. slice_set c.self.inside.actors.items c.args.i (resumed_at c.self.inside.program c.self.inside.layout.table (actors_in c.self.inside.actors.items c.args.i) (actors_in c.self.inside.actors.items c.args.i).counter n).0)
    (found_is c)

keeps_run : (c : goal.After-self-1) → KeepsRun (run_now c)
keeps_run c =
    let step = is_step c in
    run_after (run_before c) c.self.invariant c.args.i (threads_known c) (some_spare c) _
    (entry_of c) (op_is c) (found_is c) (outcome_found c) refl refl step.words
    (actors_are c) step.made step.events

pub invariant_of-self : goal.invariant_of-self
invariant_of-self c = keeps_run c

pub returns-clause-entry : goal.returns-clause-entry
returns-clause-entry c =
    subst (λ (z : Run). IsStep z c.args.i (entry_of c) (run_now c)) c.self.view_is (is_step c)

pub returns-clause-right : goal.returns-clause-right
returns-clause-right c =
    subst
    (λ (z : Run). IsRight z c.args.i (record { op = c.next-op.result; old = c.apply-found.result.old; outcome = c.with_team-outcome.result })) c.self.view_is
    (right (record { program = c.self.inside.program; table = c.self.inside.layout.table; words = c.self.inside.image; actors = c.self.inside.actors.items; events = c.self.inside.events; made = c.self.inside.made })
    c.self.invariant c.args.i (threads_known c) (some_spare c) _ (op_is c) (found_is c) (outcome_found c))

pub returns-clause-rule : goal.returns-clause-rule
returns-clause-rule c = let run = keeps_run c in (run.state, run.rule)

pub returns-clause-spare : goal.returns-clause-spare
returns-clause-spare c =
    let teams : seats_of (outcome_of c.index-actor.result.now c.outcome-came.result) ≤ c.self.inside.program.threads =
    subst (λ (o : Outcome). seats_of o ≤ c.self.inside.program.threads)
    (sym (sym c.with_team-outcome.ensures ∙ outcome_found c))
    (few_seats (run_before c) c.self.invariant c.args.i (threads_known c) (some_spare c)) in
    let room = c.list_event.ensures.seats in
    subst (λ (z : Run). spare_in z ≤ spare_in (run_now c) + 1) c.self.view_is
    (spare_after (run_before c) (run_now c) refl (let known = threads_known c in omega (arith, known)) c.push_reserved.ensures.spare c.list_event.ensures.spare (omega (arith, room, teams))
    (ap length c.push_reserved.ensures.added ∙ length-append c.self.inside.made.items _) (some_spare c))
