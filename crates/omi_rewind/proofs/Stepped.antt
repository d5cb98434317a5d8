-- A rewind with one step more keeps what it kept.
use Rattle.std.proofs.Common.{◌≡◌, ◌≤◌, ◌<◌, ◌+◌, ◌*◌, ◌++◌, ◌⊎◌, inl, inr, ℕ, suc, Bool, true, false, cond, List, [], ◌∷◌, length, map, Option, Some, None, refl, sym, ap, ◌∙◌, subst, arith}
use Rattle.std.specs.Prelude.{IfSome, find}
use Rattle.std.specs.List.{AllByRecursion}
use Rattle.std.specs.Option.{option_map, option_or}
use Rattle.std.proofs.lemmas.Bool.{cases_lt}
use Rattle.std.proofs.lemmas.List.{length-append, map_push}
use Rattle.std.proofs.lemmas.List.Folds.{find-append}
use Rattle.omi_model.proofs.Slots.{none_some}
use Rattle.omi_model.specs.declared.event.Event.{Event}
use Rattle.omi_model.specs.Reached.{Reached}
use Rattle.omi_script.specs.declared.program.Program.{Program}
use Rattle.omi_script.proofs.RuleLemmas.{Rules-from_accepted}
use Rattle.omi_run_lists.specs.declared.made.Made.{Made}
use Rattle.omi_word.specs.Memory.{words_after}
use Rattle.omi_word.specs.Words.{words_of}
use Rattle.omi_layout.specs.OpeningWords.{AreOpening}
use Rattle.omi_rep.specs.declared.outcome.Outcome.{Outcome}
use Rattle.omi_rep.specs.declared.outcome.Outcome.TheVariants as outcome
use Rattle.omi_rep.specs.Shows.{Shows}
use Rattle.omi_core.specs.declared.entry.Entry.{Entry}
use Rattle.omi_core.specs.declared.schedule.Schedule.{Schedule}
use Rattle.omi_core.specs.Ends.{is_done}
use Rattle.omi_core.specs.Histories.{HasHistory}
use Rattle.omi_core.specs.RunSteps.{IsStep, event_of, made_of}
use Rattle.omi_core.specs.Runs.{Run, events_in}
use Rattle.omi_core.specs.Schedules.{IsDrawn, IsListed, next_draw, thread_at, threads_by}
use Rattle.omi_core.proofs.ScheduledSteps.{next_drawn, thread_known}
use Rattle.omi_rewind.specs.declared.limits.TheConstants.{COPY_EVERY, LAST_STEP}
use Rattle.omi_rewind.specs.Keeps.{IsCopied, KeepsRewind, commits_done}
use Rattle.omi_rewind.specs.Rewound.{IsLater, Rewound, ShowsReached, done_in, events_until, steps_in, words_at, words_behind}
use Rattle.omi_rewind.proofs.Fronts.{all_two, all_weaker, behind_two, until_stay, words_stay}
use Rattle.omi_rewind.proofs.Stays.{shown_furthest}

abbrev Numbered : Type 0
Numbered = ℕ × ℕ × Event

-- ---- the event of a step

-- it has the number of the step
numbered_so : (step thread : ℕ) (o : Outcome) (P : ℕ → Type 0) → P step
    → AllByRecursion (λ (e : Numbered). P e.0) (event_of step thread o)
numbered_so step thread outcome.Quiet P here = tt
numbered_so step thread (outcome.Event e) P here = (here, tt)
numbered_so step thread (outcome.NotReady address word) P here = tt
numbered_so step thread outcome.Ended P here = tt

-- the step of `done`, if this is it
abbrev pub done_at : ℕ → Outcome → Option ℕ
done_at step o = cond (commits_done o) (Some step) None

done_by : (step thread : ℕ) (e : Event) (b : Bool) → is_done e ≡ b
    → option_map (λ (x : Numbered). x.0) (cond b (Some (step, thread, e)) None) ≡ cond b (Some step) None
done_by step thread e true is = refl
done_by step thread e false is = refl

done_of : (step thread : ℕ) (o : Outcome) → done_in (event_of step thread o) ≡ done_at step o
done_of step thread outcome.Quiet = refl
done_of step thread (outcome.Event e) = done_by step thread e (is_done e) refl
done_of step thread (outcome.NotReady address word) = refl
done_of step thread outcome.Ended = refl

found_none : (o : Option Numbered) → option_map (λ (x : Numbered). x.0) o ≡ None → o ≡ None
found_none None is = refl
found_none (Some x) is = absurd (none_some is refl)

-- where `done` wasn't committed before, it is committed by the step or not at all
pub done_next : (es : List Numbered) (step thread : ℕ) (o : Outcome) → done_in es ≡ None
    → done_in (es ++ event_of step thread o) ≡ done_at step o
done_next es step thread o none =
    let none_found = found_none (find (λ (e : Numbered). is_done e.2) es) none in
    ap (option_map (λ (x : Numbered). x.0))
    (find-append (λ (e : Numbered). is_done e.2) es (event_of step thread o)
    ∙ ap (λ (f : Option Numbered). option_or f (find (λ (e : Numbered). is_done e.2) (event_of step thread o))) none_found)
    ∙ done_of step thread o

last_is : (step n : ℕ) (o : Outcome) → step ≡ n → IfSome (done_at step o) (λ d. d ≡ n)
last_is step n o is = by (commits_done o)
  where
    by : (b : Bool) → IfSome (cond b (Some step) None) (λ d. d ≡ n)
    by true = is
    by false = tt

-- ---- one step more

module _ (a : Rewound) (copies : List (List ℕ)) (image : List ℕ) (draw : ℕ) (done : Option ℕ)
    (keeps : KeepsRewind a copies image draw done) (run : Run) (i : ℕ) (e : Entry)
    (step : IsStep a.run i e run) (history : HasHistory run)
    (going : done_in a.run.events.items ≡ None) (below : steps_in a < LAST_STEP)
    (copied : steps_in a < length copies * COPY_EVERY)
    (thread : i ≡ thread_at a.how a.run.program.threads (steps_in a)) where
  -- the rewind behind the step
  abbrev pub next : Rewound
  next = record { run = run; how = a.how; first = a.first; at = a.at; copies = a.copies }

  pub count_next : steps_in next ≡ steps_in a + 1
  count_next = ap (λ (ms : List Made). length ms) step.made ∙ length-append a.run.made.items (made_of i e ∷ [])

  stays : (n : ℕ) → n ≤ steps_in a → words_at next n ≡ words_at a n
  stays = words_stay a next refl (made_of i e ∷ []) step.made

  later_events : (n : ℕ) → n ≤ steps_in a
      → AllByRecursion (λ (x : Numbered). n < x.0) (event_of (steps_in a + 1) i e.outcome)
  later_events n within =
      numbered_so (steps_in a + 1) i e.outcome (λ k. n < k) (omega (arith, within))

  numbered_next : AllByRecursion (λ (x : Numbered). x.0 ≤ steps_in next) run.events.items
  numbered_next =
      let count = count_next in
      subst (AllByRecursion (λ (x : Numbered). x.0 ≤ steps_in next)) (sym step.events)
      (all_two (λ (x : Numbered). x.0 ≤ steps_in next) a.run.events.items (event_of (steps_in a + 1) i e.outcome)
      (all_weaker (λ (x : Numbered). x.0 ≤ steps_in a) (λ (x : Numbered). x.0 ≤ steps_in next) (λ x low. omega (arith, low, count)) a.run.events.items keeps.numbered)
      (numbered_so (steps_in a + 1) i e.outcome (λ k. k ≤ steps_in next) (omega (arith, count))))

  -- the words behind all steps are the run's
  words_next_all : run.words ≡ words_behind a.first run.made.items
  words_next_all =
      step.words
      ∙ ap (λ ws. words_after ws e.op) keeps.words
      ∙ sym (behind_two a.first a.run.made.items (made_of i e ∷ []))
      ∙ sym (ap (words_behind a.first) step.made)

  -- what was shown before is shown
  shown_before : (n : ℕ) → n ≤ steps_in a → ShowsReached next n
  shown_before n within =
      let old = keeps.shown n within in
      let events : events_until n run.events.items ≡ events_until n a.run.events.items =
      ap (events_until n) step.events ∙ until_stay n a.run.events.items (event_of (steps_in a + 1) i e.outcome) (later_events n within) in
      record {
        state = old.state;
        reached = subst (λ (p : Program). Reached p (events_in (events_until n run.events.items)) old.state) (sym step.program)
            (subst (λ es. Reached a.run.program (events_in es) old.state) (sym events) old.reached);
        shows = subst (λ w. Shows w (words_of (words_at next n)) old.state) (sym step.table)
            (subst (λ ws. Shows a.run.table (words_of ws) old.state) (sym (stays n within)) old.shows);
      }

  shown_next : (n : ℕ) → n ≤ steps_in next → ShowsReached next n
  shown_next n within = go (cases_lt (steps_in a) n)
    where
      go : (steps_in a < n) ⊎ (n ≤ steps_in a) → ShowsReached next n
      go (inl more) = let count = count_next in shown_furthest next words_next_all numbered_next history n (omega (arith, within, count, more))
      go (inr before) = shown_before n before

  copied_next : (k : ℕ) → k < length copies → IsCopied next copies k
  copied_next k within =
      let old = keeps.copied k within in
      let low = old.made in
      let count = count_next in
      record {
        made = omega (arith, low, count);
        copy = old.copy ∙ sym (stays (k * COPY_EVERY) low);
      }

  threads_next : map (λ (m : Made). m.thread) run.made.items ≡ threads_by a.how run.program.threads (steps_in next)
  threads_next =
      let one : steps_in next ≡ suc (steps_in a) = let count = count_next in omega (arith, count) in
      ap (map (λ (m : Made). m.thread)) step.made
      ∙ map_push (λ (m : Made). m.thread) a.run.made.items (made_of i e)
      ∙ ap (λ ts. ts ++ i ∷ []) keeps.threads
      ∙ ap (λ t. threads_by a.how a.run.program.threads (steps_in a) ++ t ∷ []) thread
      ∙ ap (λ (p : Program). threads_by a.how p.threads (suc (steps_in a))) (sym step.program)
      ∙ ap (threads_by a.how run.program.threads) (sym one)

  drawn_next : (k : ℕ) → k ≡ next_draw a.how a.run.program.threads draw → IsDrawn a.how run.program.threads (steps_in next) k
  drawn_next k is =
      subst (λ (p : Program). IsDrawn a.how p.threads (steps_in next) k) (sym step.program)
      (subst (λ n. IsDrawn a.how a.run.program.threads n k) (sym count_next)
      (subst (IsDrawn a.how a.run.program.threads (steps_in a + 1)) (sym is)
      (next_drawn a.run a.how (record { steps = 0; on = None }) a.how (steps_in a) draw keeps.drawn)))

  pub stepped : (k : ℕ) (new_done : Option ℕ) → k ≡ next_draw a.how a.run.program.threads draw
      → new_done ≡ done_at (steps_in next) e.outcome → KeepsRewind next copies image k new_done
  stepped k new_done drawn is_done =
      let count = count_next in
      record {
        opens = subst (λ (p : Program). AreOpening p run.table a.first) (sym step.program)
            (subst (λ w. AreOpening a.run.program w a.first) (sym step.table) keeps.opens);
        words = words_next_all;
        threads = threads_next;
        few = omega (arith, count, below);
        numbered = numbered_next;
        shown = shown_next;
        count = keeps.count;
        some = keeps.some;
        copied = copied_next;
        enough = omega (arith, count, copied);
        within = let low = keeps.within in omega (arith, count, low);
        image_is = keeps.image_is ∙ sym (stays a.at keeps.within);
        drawn = drawn_next k drawn;
        done_is =
            is_done
            ∙ sym (ap done_in step.events ∙ done_next a.run.events.items (steps_in a + 1) i e.outcome going
            ∙ ap (λ n. done_at n e.outcome) (sym count_next));
        last = subst (λ (d : Option ℕ). IfSome d (λ n. n ≡ steps_in next)) (sym is_done) (last_is (steps_in next) (steps_in next) e.outcome refl);
      }

  pub is_later : IsLater a next
  is_later = record {
    program = step.program;
    table = step.table;
    how = refl;
    first = refl;
    made = made_of i e ∷ [];
    made_are = step.made;
    events = event_of (steps_in a + 1) i e.outcome;
    events_are = step.events;
  }

  -- where the step commits `done`
  pub stepped_done : (k : ℕ) → k ≡ next_draw a.how a.run.program.threads draw → (n : ℕ) → n ≡ steps_in next → commits_done e.outcome ≡ true
      → KeepsRewind next copies image k (Some n)
  stepped_done k drawn n last so =
      stepped k (Some n) drawn (ap Some last ∙ sym (ap (λ b. cond b (Some (steps_in next)) None) so))

  -- and where it does not
  pub stepped_on : (k : ℕ) → k ≡ next_draw a.how a.run.program.threads draw → commits_done e.outcome ≡ false
      → KeepsRewind next copies image k done
  stepped_on k drawn so =
      stepped k done drawn (keeps.done_is ∙ going ∙ sym (ap (λ b. cond b (Some (steps_in next)) None) so))

-- the thread of a step is one of the program's
pub thread_below : (how : Schedule) (p : Program) (thread threads n : ℕ) → threads ≡ p.threads → (steps : ℕ) → n ≡ steps
    → IsListed how p.threads (steps + 1) → thread ≡ thread_at how threads n → thread < p.threads
thread_below how p thread threads n count steps made listed is =
    subst (λ t. t < p.threads)
    (sym (is ∙ ap (λ t. thread_at how t n) count ∙ ap (thread_at how p.threads) made))
    (thread_known how p.threads steps (steps + 1) (Rules-from_accepted p).threads.0 listed (omega arith))
