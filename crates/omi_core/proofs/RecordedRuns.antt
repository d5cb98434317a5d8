-- A run of which steps and events are not kept, step by step: it is a run, whose lists stand in the proof alone.
use Rattle.std.proofs.Common.{◌≡◌, ◌<◌, ◌≤◌, ◌+◌, ◌/◌, ◌++◌, ℕ, List, [], ◌∷◌, length, slice_index_or, slice_set, refl, sym, ap, ◌∙◌, subst, arith}
use Rattle.std.specs.Prelude.{Ok}
use Rattle.std.proofs.lemmas.Nat.{le-div}
use Rattle.std.proofs.lemmas.List.{length-append}
use Rattle.omi_model.specs.declared.id.Tid.{Tid}
use Rattle.omi_model.specs.declared.event.Event.{Event}
use Rattle.omi_word.specs.declared.op.Op.{Op}
use Rattle.omi_word.specs.Memory.{IsWordOf, address_of, words_after, word_at}
use Rattle.omi_script.specs.declared.program.Program.{Program}
use Rattle.omi_layout.specs.Memory.{memory_of}
use Rattle.omi_layout.specs.OpeningWords.{AreOpening}
use Rattle.omi_layout.specs.Valid.{IsValid}
use Rattle.omi_pc.specs.declared.actor.Actor.{Actor}
use Rattle.omi_pc.specs.Fits.{Fits}
use Rattle.omi_rep.specs.declared.outcome.Outcome.{Outcome}
use Rattle.omi_rep.specs.Suits.{Suits}
use Rattle.omi_run_lists.specs.Events.{Events}
use Rattle.omi_run_lists.specs.Steps.{Steps}
use Rattle.omi_step_words.specs.declared.outcomes.CompactOutcome.{CompactOutcome}
use Rattle.omi_step_words.specs.Outcomes.{outcome_with}
use Rattle.omi_step_words.specs.Placed.{HasGroupWords, IsPlaced}
use Rattle.omi_actor.specs.Steps.{next_of, resumed_at}
use Rattle.omi_rule.specs.Rule.{KeepsThread}
use Rattle.omi_core.specs.declared.entry.Entry.{Entry}
use Rattle.omi_core.specs.declared.limits.TheConstants.{MOST_STEPS}
use Rattle.omi_core.specs.declared.machine.Machine.{Machine}
use Rattle.omi_core.specs.declared.schedule.Schedule.{Schedule}
use Rattle.omi_core.specs.declared.stop.End.{End}
use Rattle.omi_core.specs.declared.stop.Stop.{Stop}
use Rattle.omi_core.specs.Kept.{KeepsRun}
use Rattle.omi_core.specs.Recorded.{IsRecorded}
use Rattle.omi_core.specs.RecordedSteps.{IsAt, IsOpened, IsStepOn, run_with}
use Rattle.omi_core.specs.RunSteps.{event_of, made_of}
use Rattle.omi_core.specs.Runs.{AreOpeningActors, IsOpening, Run, actors_in, events_in, spare_in}
use Rattle.omi_core.specs.StepsOf.{IsRunOn}
use Rattle.omi_core.proofs.Histories.{history}
use Rattle.omi_core.proofs.Opened.{opened_run}
use Rattle.omi_core.proofs.Stepping.{actor_is, inside, other_room, own, run_after}

-- ---- room, which only the proof asks for

-- the same run with room for a step
abbrev with_room : Run → Run
with_room a = record {
  program = a.program;
  table = a.table;
  words = a.words;
  actors = a.actors;
  events = record { items = a.events.items; spare = 1; seats = a.program.threads };
  made = record { items = a.made.items; spare = 1 };
}

room_there : (a : Run) → 0 < a.program.threads → length a.made.items < MOST_STEPS → 1 ≤ spare_in (with_room a)
room_there a some below =
    let one : 1 ≤ a.program.threads / a.program.threads =
    le-div 1 a.program.threads a.program.threads some (omega arith) in
    grind (arith, one, below)

-- ---- a step

module _ (m : Machine) (es : Events) (made : Steps) (k : KeepsRun (run_with m es made)) (i : ℕ)
    (thread : i < m.program.threads) (below : length made.items < MOST_STEPS) where
  abbrev before : Run
  before = run_with m es made

  abbrev op : Op
  op = next_of m.program m.layout.table (actors_in m.actors.items i)

  abbrev found : ℕ
  found = word_at m.image (address_of op)

  abbrev behind : Actor × Outcome
  behind =
      resumed_at m.program m.layout.table (actors_in m.actors.items i)
      (actors_in m.actors.items i).counter found

  abbrev entry : Entry
  entry = record { op = op; old = found; outcome = behind.1 }

  spare : 1 ≤ spare_in (with_room before)
  spare = room_there before (omega (arith, thread)) below

  roomy : KeepsRun (with_room before)
  roomy = other_room before k _ _ refl refl

  pub own_part : KeepsThread m.program m.layout.table (memory_of m.layout.table m.image) (events_in es.items) k.state i (actors_in m.actors.items i)
  own_part = own before k i thread

  pub word_there : IsWordOf m.image (address_of op)
  word_there = inside (with_room before) roomy i thread spare

  keeps_next : (b : Run) → b.program ≡ m.program → b.table ≡ m.layout.table → b.words ≡ words_after m.image op
      → b.actors ≡ slice_set m.actors.items i behind.0
      → b.made.items ≡ made.items ++ made_of i entry ∷ [] → b.events.items ≡ es.items ++ event_of (length made.items + 1) i behind.1 → KeepsRun b
  keeps_next b program table words actors steps events =
      run_after (with_room before) roomy i thread spare b entry refl refl refl program table words actors steps events

  pub stepped : (n : Machine) (tells : List (ℕ × ℕ × Event) → Type 0) (outcome : CompactOutcome) (team : List (Tid × ℕ))
      → n.program ≡ m.program → n.layout.table ≡ m.layout.table → n.image ≡ words_after m.image op
      → n.actors.items ≡ slice_set m.actors.items i behind.0 → outcome_with team outcome ≡ behind.1 → tells (es.items ++ event_of (length made.items + 1) i (outcome_with team outcome))
      → IsStepOn before i (length made.items) n tells outcome
  stepped n tells outcome team program table words actors came told =
      let events : Events = record { items = es.items ++ event_of (length made.items + 1) i behind.1; spare = 0; seats = 0 } in
      let steps : Steps = record { items = made.items ++ made_of i entry ∷ []; spare = 0 } in
      record {
        entry = entry;
        next = run_with n events steps;
        step = record {
          op = refl;
          found = refl;
          outcome = refl;
          actors = actors;
          words = words;
          made = refl;
          events = refl;
          program = program;
          table = table;
        };
        team = team;
        outcome_is = sym came;
        at = record {
          parts = refl;
          keeps = keeps_next (run_with n events steps) program table words actors refl refl;
          count = length-append made.items (made_of i entry ∷ []);
        };
        told = subst (λ (o : Outcome). tells (es.items ++ event_of (length made.items + 1) i o)) came told;
      }

-- ---- a step of a machine, whose actor, operation and word stand in values of their own

-- the parts of a run keep what it keeps
keeps_parts : (m : Machine) (steps : ℕ) (a : Run) → IsAt m steps a → KeepsRun (run_with m a.events a.made)
keeps_parts m steps a at = subst KeepsRun (sym at.parts) at.keeps

-- a thread has its actor, whatever is answered for threads that don't exist
pub actor_there : (m : Machine) (steps : ℕ) (a : Run) → IsAt m steps a → (i : ℕ) → i < m.program.threads
    → (other : Actor) → slice_index_or m.actors.items i other ≡ actors_in m.actors.items i
actor_there m steps a at i thread other =
    let listed = subst (λ n. i < n) (sym (keeps_parts m steps a at).actors) thread in
    actor_is m.actors.items i other listed

module _ (m : Machine) (steps : ℕ) (a : Run) (at : IsAt m steps a) (i : ℕ) (thread : i < m.program.threads)
    (below : steps < MOST_STEPS) (b : Actor) (b_is : b ≡ actors_in m.actors.items i) where
  keeps : KeepsRun (run_with m a.events a.made)
  keeps = keeps_parts m steps a at

  under : length a.made.items < MOST_STEPS
  under = subst (λ n. n < MOST_STEPS) (sym at.count) below

  owned : KeepsThread m.program m.layout.table (memory_of m.layout.table m.image) (events_in a.events.items) keeps.state i (actors_in m.actors.items i)
  owned = own_part m a.events a.made keeps i thread under

  pub fits_now : Fits m.program b
  fits_now = subst (λ (x : Actor). Fits m.program x) (sym b_is) owned.fits

  pub placed_now : IsPlaced m.layout.table b
  placed_now = subst (λ (x : Actor). IsPlaced m.layout.table x) (sym b_is) owned.placed

  pub groups_now : HasGroupWords m.layout.table
  groups_now = keeps.suits.groups

  module _ (op : Op) (op_is : op ≡ next_of m.program m.layout.table b) where
    next_is : op ≡ next_of m.program m.layout.table (actors_in m.actors.items i)
    next_is = op_is ∙ ap (λ (x : Actor). next_of m.program m.layout.table x) b_is

    pub word_found : IsWordOf m.image (address_of op)
    word_found =
        subst (λ (o : Op). IsWordOf m.image (address_of o)) (sym next_is)
        (word_there m a.events a.made keeps i thread under)

    module _ (found : ℕ) (found_is : found ≡ word_at m.image (address_of op)) where
      behind_is : resumed_at m.program m.layout.table b b.counter found ≡ behind m a.events a.made keeps i thread under
      behind_is =
          let old = actors_in m.actors.items i in
          let word = found_is ∙ ap (λ (o : Op). word_at m.image (address_of o)) next_is in
          ap (λ (x : Actor). resumed_at m.program m.layout.table x x.counter found) b_is
          ∙ ap (λ n. resumed_at m.program m.layout.table old old.counter n) word

      pub stepped_on : (moved : Actor) → moved ≡ (resumed_at m.program m.layout.table b b.counter found).0
          → (outcome : CompactOutcome)
          → outcome_with b.gathered.team outcome ≡ (resumed_at m.program m.layout.table b b.counter found).1
          → (n : Machine) → n.program ≡ m.program → n.layout.table ≡ m.layout.table → n.image ≡ words_after m.image op
          → n.actors.items ≡ slice_set m.actors.items i moved → (tells : List (ℕ × ℕ × Event) → Type 0)
          → tells (a.events.items ++ event_of (steps + 1) i (outcome_with b.gathered.team outcome))
          → IsStepOn a i steps n tells outcome
      stepped_on moved moved_is outcome came n program table words actors tells told =
          let words_are = words ∙ ap (λ (o : Op). words_after m.image o) next_is in
          let actors_are =
          actors
          ∙ ap (λ (x : Actor). slice_set m.actors.items i x)
          (moved_is ∙ ap (λ (z : Actor × Outcome). z.0) behind_is) in
          let outcome_is = came ∙ ap (λ (z : Actor × Outcome). z.1) behind_is in
          let told_now =
          subst
          (λ k. tells (a.events.items ++ event_of (k + 1) i (outcome_with b.gathered.team outcome)))
          (sym at.count) told in
          subst (λ k. IsStepOn a i k n tells outcome) at.count
          (subst (λ (z : Run). IsStepOn z i (length a.made.items) n tells outcome) at.parts
          (stepped m a.events a.made keeps i thread under n tells outcome b.gathered.team program table words_are
          actors_are outcome_is told_now))

-- ---- the opening

pub opened_machine : (m : Machine) → IsValid m.layout.table → Suits m.program m.layout.table
    → AreOpening m.program m.layout.table m.image → AreOpeningActors m.program m.actors.items → IsOpened m
opened_machine m valid suits words actors =
    let none : Events = record { items = []; spare = 0; seats = 0 } in
    let no_step : Steps = record { items = []; spare = 0 } in
    let first : Run = run_with m none no_step in
    record {
      first = first;
      opens = record {
        program = refl;
        table = refl;
        words = words;
        actors = actors;
        events = refl;
        made = refl;
      };
      at = record {
        parts = refl;
        keeps = opened_run first valid suits words actors refl refl;
        count = refl;
      };
    }

-- ---- the end of a run

-- what a run from the opening of a machine leads to
pub recorded : (p : Program) (w : List ℕ) (how : Schedule) (stop : Stop) (tells : List (ℕ × ℕ × Event) → Type 0) (why : End)
    (left : Run → Type 0) (m : Machine) (steps : ℕ) (first : Run) → IsOpening p w first
    → IsRunOn first how stop (Ok why) (λ b. IsAt m steps b × tells b.events.items) left → (held : List ℕ) → held ≡ m.image
    → IsRecorded p w how stop tells held steps why
recorded p w how stop tells why left m steps first opens on held same = record {
  first = first;
  last = on.new;
  opens = opens;
  run = on.run;
  history = history on.new on.behind.0.keeps;
  words_are = same ∙ ap (λ (z : Run). z.words) on.behind.0.parts;
  steps_are = sym on.behind.0.count;
  told = on.behind.1;
}
