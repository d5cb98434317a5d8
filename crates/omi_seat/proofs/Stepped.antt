-- A step of a known thread at a table whose words have a run behind them.
use Rattle.std.proofs.Common.{◌≡◌, ◌≢◌, ◌<◌, ◌≤◌, ◌==◌, ◌+◌, ◌++◌, ℕ, Bool, true, false, List, [], ◌∷◌, length, slice_set, slice_index, refl, sym, ap, ◌∙◌, subst, arith, eq-eqb, eqb-true}
use Rattle.std.proofs.lemmas.List.{get_or-set_other, get_or-set_same, get_or_append_left, length-append, set-append_left}
use Rattle.omi_word.specs.declared.limits.TheConstants.{FIRST_ADDRESS}
use Rattle.omi_word.specs.Memory.{IsWordOf, address_of, left_of, place_of}
use Rattle.omi_script.specs.declared.program.Program.{Program}
use Rattle.omi_layout.specs.declared.layout.Layout.{Layout}
use Rattle.omi_layout.specs.Place.{image_words}
use Rattle.omi_pc.specs.declared.actor.Actor.{Actor}
use Rattle.omi_pc.specs.Fits.{Fits}
use Rattle.omi_pc.specs.Opening.{waiting_actor}
use Rattle.omi_step_words.specs.Placed.{HasGroupWords, IsPlaced}
use Rattle.omi_actor.specs.Steps.{next_of}
use Rattle.omi_core.specs.declared.entry.Entry.{Entry}
use Rattle.omi_core.specs.Found.{actor_after, entry_at}
use Rattle.omi_core.specs.Kept.{KeepsRun}
use Rattle.omi_core.specs.Runs.{actors_in}
use Rattle.omi_core.specs.RunSteps.{seats_of}
use Rattle.omi_core.specs.Steps.{steps_of}
use Rattle.omi_core.proofs.History.{other_one_more, own_one_more}
use Rattle.omi_core.proofs.Stepping.{own}
use Rattle.omi_seat.specs.declared.known.Known.{Known}
use Rattle.omi_seat.specs.declared.limits.TheConstants.{MOST_BUDGET}
use Rattle.omi_seat.specs.Behind.{CanStep, HasRun}
use Rattle.omi_seat.specs.Claims.{claims_from}
use Rattle.omi_seat.specs.Known.{IsKnown, actor_known, claims_known, entry_known, finds, steps_known}
use Rattle.omi_seat.proofs.Learnt.{actor_one_more, steps_found, steps_one_more}
use Rattle.omi_seat.proofs.OneStep.{entry_of, few_members, next_run, next_entries, on_word, run_behind}

module _ (p : Program) (l : Layout) (words others : List ℕ) (h : HasRun p l words others) where
  -- where the others begin
  pub image_long : length h.run.words ≡ image_words l.table
  image_long = h.keeps.count ∙ ap image_words h.table

  module _ (x : Known) (is : IsKnown p l h.keeps.entries h.run.actors x) where
    pub thread : x.thread < h.run.program.threads
    thread = subst (λ (q : Program). x.thread < q.threads) (sym h.program) is.thread

    -- the step, which is that of the run's thread
    abbrev pub step : Entry
    step = entry_of h.run x.thread

    program_is : x.program ≡ h.run.program
    program_is = is.program ∙ sym h.program

    table_is : x.layout.table ≡ h.run.table
    table_is = ap (λ (z : Layout). z.table) is.layout ∙ sym h.table

    actor_is : actor_known x ≡ actors_in h.run.actors x.thread
    actor_is = sym is.actor

    pub op_is : next_of x.program x.layout.table (actor_known x) ≡ step.op
    op_is = λ k. next_of (program_is k) (table_is k) (actor_is k)

    pub entry_is : (n : ℕ)
        → entry_known x n ≡ entry_at h.run.program h.run.table (actors_in h.run.actors x.thread) n
    entry_is n = λ k. entry_at (program_is k) (table_is k) (actor_is k) n

    on_word_here : IsWordOf h.run.words (address_of step.op)
    on_word_here = on_word h.run h.keeps h.few x.thread thread

    abbrev pub place : ℕ
    place = place_of (address_of step.op)

    pub found_here : slice_index words place ≡ step.old
    found_here =
        ap (λ (ws : List ℕ). slice_index ws place) h.are
        ∙ get_or_append_left h.run.words others 0 place on_word_here.below

    -- the words behind it
    pub words_now : slice_set words place (left_of step.op (slice_index words place)) ≡ (run_behind h.run x.thread).words ++ others
    words_now =
        ap (λ n. slice_set words place (left_of step.op n)) found_here
        ∙ ap (λ (ws : List ℕ). slice_set ws place (left_of step.op step.old)) h.are
        ∙ set-append_left h.run.words others place (left_of step.op step.old) on_word_here.below

    -- what it asks for
    pub can_step : CanStep x.program x.layout.table (actor_known x)
    can_step =
        let here = own h.run h.keeps x.thread thread in
        let count : length h.run.words ≡ image_words x.layout.table =
        h.keeps.count ∙ ap image_words (sym table_is) in
        record {
          fits = subst (λ (z : Program × Actor). Fits z.0 z.1) (λ k. (sym program_is k, sym actor_is k)) here.fits;
          placed = subst (λ (z : List ℕ × Actor). IsPlaced z.0 z.1) (λ k. (sym table_is k, sym actor_is k)) here.placed;
          groups = subst HasGroupWords (sym table_is) h.keeps.suits.groups;
          above = subst (λ o. FIRST_ADDRESS ≤ address_of o) (sym op_is) on_word_here.above;
          inside =
              subst (λ o. place_of (address_of o) < image_words x.layout.table) (sym op_is)
              (subst (λ n. place < n) count on_word_here.below);
        }

    -- a team that it forks has at most one member more than the thread has claims
    pub members_known : (n : ℕ) → n ≡ step.old → seats_of (entry_known x n).outcome ≤ claims_known x + 1
    members_known n found =
        subst (λ n. seats_of (entry_known x n).outcome ≤ claims_known x + 1) (sym found)
        (subst (λ (f : Entry). seats_of f.outcome ≤ claims_known x + 1) (sym (entry_is step.old))
        (subst (λ (es : List Entry). seats_of step.outcome ≤ claims_from 0 es + 1) is.steps
        (few_members h.run h.keeps h.few x.thread thread)))

    -- ---- the run behind it

    abbrev pub entries_now : List (ℕ × Entry)
    entries_now = h.keeps.entries ++ (x.thread, step) ∷ []

    steps_here : steps_of x.thread entries_now ≡ steps_known (finds step.old x)
    steps_here =
        own_one_more x.thread h.keeps.entries step
        ∙ ap (λ (es : List Entry). es ++ step ∷ []) is.steps
        ∙ ap (λ (f : Entry). steps_known x ++ f ∷ []) (sym (entry_is step.old))
        ∙ sym (steps_one_more x step.old)

    steps_there : (j : ℕ) → j ≢ x.thread → steps_of j entries_now ≡ steps_of j h.keeps.entries
    steps_there j other = other_one_more j x.thread h.keeps.entries step (λ same. other (sym same))

    few_after : (j : ℕ) → length x.found < MOST_BUDGET → length (steps_of j entries_now) ≤ MOST_BUDGET
    few_after j room = go (j == x.thread) refl
      where
        go : (b : Bool) → j == x.thread ≡ b → length (steps_of j entries_now) ≤ MOST_BUDGET
        go true same =
            let count : length (steps_known (finds step.old x)) ≡ length x.found + 1 =
            steps_found (finds step.old x) ∙ length-append x.found (step.old ∷ []) in
            subst (λ i. length (steps_of i entries_now) ≤ MOST_BUDGET) (sym (eqb-true j x.thread same))
            (subst (λ (es : List Entry). length es ≤ MOST_BUDGET) (sym steps_here) (omega (arith, count, room)))
        go false not =
            subst (λ (es : List Entry). length es ≤ MOST_BUDGET)
            (sym (steps_there j (λ same. let yes : j == x.thread ≡ true = eq-eqb j x.thread same in cc (not, yes))))
            (h.few j)

    next : KeepsRun (run_behind h.run x.thread)
    next = next_run h.run h.keeps h.few x.thread thread

    next_has : next.entries ≡ entries_now
    unfolding next
    next_has = next_entries h.run h.keeps h.few x.thread thread

    pub run_now : length x.found < MOST_BUDGET
        → HasRun p l (slice_set words place (left_of step.op (slice_index words place))) others
    run_now room = record {
      run = run_behind h.run x.thread;
      keeps = next;
      program = h.program;
      table = h.table;
      are = words_now;
      few = λ j. subst (λ es. length (steps_of j es) ≤ MOST_BUDGET) (sym next_has) (few_after j room);
    }

    pub entries_are : (room : length x.found < MOST_BUDGET) → (run_now room).keeps.entries ≡ entries_now
    unfolding run_now
    entries_are room = next_has

    -- ---- what is known behind it, of its thread and of the others

    known_here : IsKnown p l entries_now (run_behind h.run x.thread).actors (finds step.old x)
    known_here = record {
      program = is.program;
      layout = is.layout;
      thread = is.thread;
      steps = steps_here;
      actor =
          get_or-set_same h.run.actors x.thread
          (actor_after h.run.program h.run.table (actors_in h.run.actors x.thread) step.old)
          (waiting_actor x.thread)
          (subst (λ n. x.thread < n) (sym h.keeps.actors) thread)
          ∙ sym (λ k. actor_after (program_is k) (table_is k) (actor_is k) step.old)
          ∙ sym (actor_one_more x step.old);
    }

    known_beside : (z : Known) → z.thread ≢ x.thread → IsKnown p l h.keeps.entries h.run.actors z
        → IsKnown p l entries_now (run_behind h.run x.thread).actors z
    known_beside z other was = record {
      program = was.program;
      layout = was.layout;
      thread = was.thread;
      steps = steps_there z.thread other ∙ was.steps;
      actor =
          get_or-set_other h.run.actors x.thread z.thread
          (actor_after h.run.program h.run.table (actors_in h.run.actors x.thread) step.old)
          (waiting_actor z.thread) other
          ∙ was.actor;
    }

    pub known_now : (room : length x.found < MOST_BUDGET)
        → IsKnown p l (run_now room).keeps.entries (run_now room).run.actors (finds step.old x)
    unfolding run_now
    known_now room =
        subst (λ es. IsKnown p l es (run_behind h.run x.thread).actors (finds step.old x))
        (sym next_has) known_here

    pub known_there : (room : length x.found < MOST_BUDGET) (z : Known) → z.thread ≢ x.thread
        → IsKnown p l h.keeps.entries h.run.actors z
        → IsKnown p l (run_now room).keeps.entries (run_now room).run.actors z
    unfolding run_now
    known_there room z other was =
        subst (λ es. IsKnown p l es (run_behind h.run x.thread).actors z) (sym next_has)
        (known_beside z other was)
