-- A rewind before its first step keeps what a rewind keeps.
use Rattle.std.proofs.Common.{◌≡◌, ◌≤◌, ◌*◌, ℕ, List, [], ◌∷◌, length, map, None, refl, sym, ap, ◌∙◌, subst, arith}
use Rattle.std.specs.Prelude.{slice_index_or}
use Rattle.std.specs.List.{AllByRecursion}
use Rattle.omi_model.specs.declared.event.Event.{Event}
use Rattle.omi_script.specs.declared.program.Program.{Program}
use Rattle.omi_run_lists.specs.declared.made.Made.{Made}
use Rattle.omi_layout.specs.OpeningWords.{AreOpening}
use Rattle.omi_core.specs.declared.schedule.Schedule.{Schedule}
use Rattle.omi_core.specs.Histories.{HasHistory}
use Rattle.omi_core.specs.Runs.{IsOpening, Run}
use Rattle.omi_core.specs.Schedules.{IsDrawn, first_draw, threads_by}
use Rattle.omi_core.proofs.ScheduledSteps.{first_drawn}
use Rattle.omi_rewind.specs.declared.limits.TheConstants.{COPY_EVERY}
use Rattle.omi_rewind.specs.Keeps.{KeepsRewind}
use Rattle.omi_rewind.specs.Rewound.{IsOpened, Rewound, done_in, steps_in, words_at, words_behind}
use Rattle.omi_rewind.proofs.Stays.{shown_furthest}

module _ (p : Program) (w : List ℕ) (run : Run) (opens : IsOpening p w run) (history : HasHistory run) (how : Schedule)
    (copies : List (List ℕ)) (copies_are : copies ≡ run.words ∷ []) where
  -- the rewind
  abbrev pub first : Rewound
  first = record {
    run = run;
    how = how;
    first = slice_index_or copies 0 [];
    at = 0;
    copies = length copies;
  }

  words_first : first.first ≡ run.words
  words_first = ap (λ (l : List (List ℕ)). slice_index_or l 0 []) copies_are

  none_made : steps_in first ≡ 0
  none_made = ap (λ (ms : List Made). length ms) opens.made

  one_copy : length copies ≡ 1
  one_copy = ap (λ (l : List (List ℕ)). length l) copies_are

  words_all : run.words ≡ words_behind first.first run.made.items
  words_all = sym (ap (words_behind first.first) opens.made ∙ words_first)

  numbered_first : AllByRecursion (λ (e : ℕ × ℕ × Event). e.0 ≤ steps_in first) run.events.items
  numbered_first = subst (AllByRecursion (λ (e : ℕ × ℕ × Event). e.0 ≤ steps_in first)) (sym opens.events) tt

  words_none : (n : ℕ) → n ≡ 0 → words_at first n ≡ run.words
  words_none n is = ap (words_at first) is ∙ words_first

  pub opened : (image : List ℕ) (draw : ℕ) → image ≡ run.words → draw ≡ first_draw how
      → KeepsRewind first copies image draw None
  opened image draw is drawn =
      let none = none_made in
      let one = one_copy in
      record {
        opens = subst (λ ws. AreOpening run.program run.table ws) (sym words_first)
            (subst (λ (q : Program). AreOpening q run.table run.words) (sym opens.program)
            (subst (λ t. AreOpening p t run.words) (sym opens.table) opens.words));
        words = words_all;
        threads = ap (map (λ (m : Made). m.thread)) opens.made ∙ sym (ap (threads_by how run.program.threads) none);
        few = omega (arith, none);
        numbered = numbered_first;
        shown = λ n low. shown_furthest first words_all numbered_first history n (omega (arith, low, none));
        count = refl;
        some = omega (arith, one);
        copied = λ k below.
            let zero_is : k ≡ 0 = omega (arith, below, one) in
            let nothing : k * COPY_EVERY ≡ 0 = omega (arith, zero_is) in
            record {
              made = omega (arith, nothing);
              copy =
                  ap (λ j. slice_index_or copies j []) zero_is
                  ∙ words_first
                  ∙ sym (words_none (k * COPY_EVERY) nothing);
            };
        enough = omega (arith, none);
        within = omega arith;
        image_is = is ∙ sym words_first;
        drawn = subst (λ n. IsDrawn how run.program.threads n draw) (sym none)
            (subst (IsDrawn how run.program.threads 0) (sym drawn) (first_drawn run how (record { steps = 0; on = None }) how));
        done_is = sym (ap done_in opens.events);
        last = tt;
      }

  pub is_opened : IsOpened p w how first
  is_opened = record { opens = opens; how_is = refl; first = words_first; at = refl }
