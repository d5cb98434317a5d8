-- The run behind the words of a table that is opened, in which no thread has made a step.
use Rattle.std.proofs.Common.{◌≡◌, ◌<◌, ◌≤◌, ◌+◌, ◌++◌, ℕ, zero, suc, List, [], ◌∷◌, length, slice_index_or, zero-add, refl, sym, ap, ◌∙◌, subst, arith}
use Rattle.omi_script.specs.declared.program.Program.{Program}
use Rattle.omi_layout.specs.declared.layout.Layout.{Layout}
use Rattle.omi_layout.specs.OpeningWords.{AreOpening}
use Rattle.omi_layout.specs.Place.{image_words}
use Rattle.omi_pc.specs.declared.actor.Actor.{Actor}
use Rattle.omi_pc.specs.Opening.{opening_actor, waiting_actor}
use Rattle.omi_rep.specs.Suits.{Suits}
use Rattle.omi_core.specs.declared.entry.Entry.{Entry}
use Rattle.omi_core.specs.Kept.{KeepsRun}
use Rattle.omi_core.specs.Runs.{AreOpeningActors, Run}
use Rattle.omi_core.specs.Steps.{made_of_steps, steps_of}
use Rattle.omi_core.proofs.Opened.{opened_run}
use Rattle.omi_seat.specs.declared.limits.TheConstants.{MOST_BUDGET}
use Rattle.omi_seat.specs.Behind.{HasRun}
use Rattle.omi_seat.specs.Known.{IsKnown, untouched}

-- the actors with which the threads start
abbrev actors_from : Program → ℕ → ℕ → List Actor
actors_from p thread zero = []
actors_from p thread (suc n) = opening_actor p thread ∷ actors_from p (thread + 1) n

as_many_actors : (p : Program) (thread n : ℕ) → length (actors_from p thread n) ≡ n
as_many_actors p thread zero = refl
as_many_actors p thread (suc n) = ap suc (as_many_actors p (thread + 1) n)

actor_there : (p : Program) (thread n i : ℕ) (d : Actor) → i < n
    → slice_index_or (actors_from p thread n) i d ≡ opening_actor p (thread + i)
actor_there p thread zero i d below = absurd (omega (arith, below))
actor_there p thread (suc n) zero d below = ap (opening_actor p) (omega arith)
actor_there p thread (suc n) (suc i) d below =
    actor_there p (thread + 1) n i d (omega (arith, below)) ∙ ap (opening_actor p) (omega arith)

are_opening : (p : Program) → AreOpeningActors p (actors_from p 0 p.threads)
are_opening p = record {
  count = as_many_actors p 0 p.threads;
  each = λ i below. actor_there p 0 p.threads i (waiting_actor i) below ∙ ap (opening_actor p) (zero-add i);
}

none_made : (xs : List (ℕ × Entry)) → [] ≡ made_of_steps xs → xs ≡ []
none_made [] is = refl
none_made (x ∷ xs) is =
    absurd (let count : 0 ≡ length (made_of_steps (x ∷ xs)) = ap length is in omega (arith, count))

module _ (p : Program) (l : Layout) (words others : List ℕ) (suits : Suits p l.table)
    (opens : AreOpening p l.table words) where
  abbrev first_run : Run
  first_run = record {
    program = p;
    table = l.table;
    words = words;
    actors = actors_from p 0 p.threads;
    events = record { items = []; spare = 0; seats = 0 };
    made = record { items = []; spare = 0 };
  }

  first_kept : KeepsRun first_run
  first_kept = opened_run first_run l.valid suits opens (are_opening p) refl refl

  no_entry : first_kept.entries ≡ []
  no_entry = none_made first_kept.entries first_kept.made_by.made

  no_step : (i : ℕ) → steps_of i first_kept.entries ≡ []
  no_step i = ap (steps_of i) no_entry

  pub opened : HasRun p l (words ++ others) others
  opened = record {
    run = first_run;
    keeps = first_kept;
    program = refl;
    table = refl;
    are = refl;
    few = λ i. subst (λ (es : List Entry). length es ≤ MOST_BUDGET) (sym (no_step i)) (omega arith);
  }

  pub opening_long : length words ≡ image_words l.table
  opening_long = first_kept.count

  pub none_yet : opened.keeps.entries ≡ []
  unfolding opened
  none_yet = no_entry

  pub untouched_known : (i : ℕ) → i < p.threads
      → IsKnown p l opened.keeps.entries opened.run.actors (untouched p l i)
  unfolding opened
  untouched_known i below = record {
    program = refl;
    layout = refl;
    thread = below;
    steps = no_step i;
    actor = (are_opening p).each i below;
  }
