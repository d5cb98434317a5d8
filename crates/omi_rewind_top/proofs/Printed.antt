-- What was printed for steps stays while the run goes on, and is the reports of the states that its events reach.
use Rattle.std.proofs.Common.{◌≡◌, ◌≤◌, ◌<◌, ◌+◌, ◌++◌, inl, inr, ℕ, Bool, true, false, cond, List, [], ◌∷◌, length, take, Option, Some, None, Ok, refl, sym, ap, ◌∙◌, subst, arith}
use Rattle.std.specs.Prelude.{IfSome, find, nat_lt, slice_index_or}
use Rattle.std.specs.Option.{option_map, option_or}
use Rattle.std.proofs.lemmas.Bool.Decides.{nat_tests}
use Rattle.std.proofs.lemmas.List.{append_assoc, append-nil, take_all, take_more}
use Rattle.std.proofs.lemmas.List.Folds.{find-append}
use Rattle.omi_core.specs.Ends.{is_done}
use Rattle.omi_core.specs.Runs.{events_in}
use Rattle.omi_layout.specs.Valid.{IsValid}
use Rattle.omi_model.proofs.Slots.{none_some, some_same}
use Rattle.omi_model.specs.Reached.{Reached}
use Rattle.omi_model.specs.Views.{IsViewOf}
use Rattle.omi_model.specs.declared.event.Event.{Event}
use Rattle.omi_model.specs.declared.view.View.{View}
use Rattle.omi_rep.proofs.shown.ShownViews.{shown_looked}
use Rattle.omi_rep.specs.Look.{Look}
use Rattle.omi_rep.specs.LookView.{look_view}
use Rattle.omi_rep.specs.Shows.{Shows}
use Rattle.omi_rewind.proofs.Fronts.{all_weaker, until_all, whole_front}
use Rattle.omi_rewind.proofs.Stays.{later_more, later_words}
use Rattle.omi_rewind.specs.Answers.{IsReached}
use Rattle.omi_rewind.specs.Rewound.{IsLater, IsRewound, Rewound, ShowsReached, done_in, events_until, image_of, steps_in, words_at, words_behind}
use Rattle.omi_rewind.specs.declared.rewind.At.{At}
use Rattle.omi_rewind.specs.declared.rewind.At.TheVariants.{Here, Done}
use Rattle.omi_script.specs.declared.program.Program.{Program}
use Rattle.omi_session.proofs.NamesReached.{reached_are_names}
use Rattle.omi_text.specs.Report.{report}
use Rattle.omi_commands.specs.Cores.{thread_ids}
use Rattle.omi_word.specs.Words.{words_of}
use Rattle.omi_rewind_top.specs.Lines.{place_line, step_line}
use Rattle.omi_rewind_top.specs.Looked.{AreStepsLooked, IsInTurn, IsStepLooked, StandsAt}
use Rattle.omi_rewind_top.specs.Turns.{AreStepsShown, IsStepShown}

abbrev Numbered : Type 0
Numbered = ℕ × ℕ × Event

-- ---- a run that goes on

found_more : (f g : Option Numbered) (d : ℕ) → option_map (λ (e : Numbered). e.0) f ≡ Some d
    → option_map (λ (e : Numbered). e.0) (option_or f g) ≡ Some d
found_more None g d is = absurd (none_some refl is)
found_more (Some e) g d is = is

-- the step that committed `done` stays
pub done_later : (a b : Rewound) → IsLater a b → (d : ℕ) → done_in a.run.events.items ≡ Some d
    → done_in b.run.events.items ≡ Some d
done_later a b later d is =
    ap done_in later.events_are
    ∙ ap (option_map (λ (e : Numbered). e.0)) (find-append (λ (e : Numbered). is_done e.2) a.run.events.items later.events)
    ∙ found_more (find (λ (e : Numbered). is_done e.2) a.run.events.items) (find (λ (e : Numbered). is_done e.2) later.events) d is

stands_later : (a b : Rewound) → IsLater a b → (n : ℕ) (at : At) (place : ℕ) → StandsAt a n at place
    → StandsAt b n at place
stands_later a b later n Here place stands = stands
stands_later a b later n (Done d) place (is, before, there) = (done_later a b later d is, before, there)

look_later : (a b : Rewound) → IsLater a b → (place : ℕ) (v : View) → place ≤ steps_in a
    → look_view a.run.table (words_of (words_at a place)) (thread_ids a.run.program.threads) ≡ Ok v
    → look_view b.run.table (words_of (words_at b place)) (thread_ids b.run.program.threads) ≡ Ok v
look_later a b later place v within is =
    subst (λ (p : Program). look_view b.run.table (words_of (words_at b place)) (thread_ids p.threads) ≡ Ok v) (sym later.program)
    (subst (λ (ws : List ℕ). look_view b.run.table (words_of ws) (thread_ids a.run.program.threads) ≡ Ok v) (sym (later_words a b later place within))
    (subst (λ (w : List ℕ). look_view w (words_of (words_at a place)) (thread_ids a.run.program.threads) ≡ Ok v) (sym later.table) is))

looked_later : (a b : Rewound) → IsLater a b → (n : ℕ) (text : List ℕ) → IsStepLooked a n text
    → IsStepLooked b n text
looked_later a b later n text s =
    let low = s.within in
    let more = later_more a b later in
    record {
      place = s.place;
      within = omega (arith, low, more);
      at = s.at;
      stands = stands_later a b later n s.at s.place s.stands;
      view = s.view;
      look = look_later a b later s.place s.view s.within s.look;
      is = s.is;
    }

pub steps_later : (a b : Rewound) → IsLater a b → (ns text : List ℕ) → AreStepsLooked a ns text
    → AreStepsLooked b ns text
steps_later a b later [] text are = are
steps_later a b later (n ∷ ns) text (first, rest, is, here, others) =
    (first, rest, is, looked_later a b later n first here, steps_later a b later ns rest others)

-- one step more
pub one_step_more : (a : Rewound) (ns : List ℕ) (n : ℕ) (text part : List ℕ) → AreStepsLooked a ns text
    → IsStepLooked a n part → AreStepsLooked a (ns ++ n ∷ []) (text ++ part)
one_step_more a [] n text part none here =
    (part, [], ap (λ (t : List ℕ). t ++ part) none ∙ sym (append-nil part), here, refl)
one_step_more a (m ∷ ns) n text part (first, rest, is, shown, others) here =
    (first, rest ++ part, ap (λ (t : List ℕ). t ++ part) is ∙ append_assoc first rest part, shown, one_step_more a ns n rest part others here)

-- what is printed for a step to which the image went
stands_at : (a : Rewound) (n : ℕ) (at : At) → IsReached a n at → StandsAt a n at a.at
stands_at a n Here reached = reached.0
stands_at a n (Done d) reached = reached

pub step_looked : (a : Rewound) (ids : List ℕ) → IsInTurn a ids → IsRewound a → (n : ℕ) (at : At) → IsReached a n at → (text : List ℕ)
    → (v : View) × (look_view a.run.table (words_of (image_of a)) ids ≡ Ok v) × (text ≡ report v)
    → IsStepLooked a n (place_line n at ++ text)
step_looked a ids t r n at reached text (v, look, is) = record {
  place = a.at;
  within = r.within;
  at = at;
  stands = stands_at a n at reached;
  view = v;
  look = subst (λ (l : List ℕ). look_view a.run.table (words_of (image_of a)) l ≡ Ok v) t.ids_are look;
  is = ap (λ (l : List ℕ). place_line n at ++ l) is;
}

-- and with it what was printed so far
pub looked_more : (a b : Rewound) → IsLater a b → (ns : List ℕ) (i d : ℕ) (text new : List ℕ) → i < length ns
    → AreStepsLooked a (take i ns) text
    → (part : List ℕ) × (new ≡ text ++ part) × IsStepLooked b (slice_index_or ns i d) part
    → AreStepsLooked b (take (i + 1) ns) new
looked_more a b later ns i d text new below so_far (part, is, shown) =
    let n : ℕ = slice_index_or ns i d in
    let more : take i ns ++ n ∷ [] ≡ take (i + 1) ns = sym (take_more ns i d below) in
    subst (λ (l : List ℕ). AreStepsLooked b l new) more
    (subst (λ (t : List ℕ). AreStepsLooked b (take i ns ++ n ∷ []) t) (sym is)
    (one_step_more b (take i ns) n text part (steps_later a b later (take i ns) text so_far) shown))

-- ---- the state that is shown

same_view : (u v : View) (look : Look View) → look ≡ Ok u → look ≡ Ok v → u ≡ v
same_view u v look one other = cc

-- a look at the words behind some steps is the view of the state that is shown there
view_shown : (a : Rewound) → IsValid a.run.table → (n : ℕ) (k : ShowsReached a n) (ids : List ℕ) (v : View)
    → look_view a.run.table (words_of (words_at a n)) ids ≡ Ok v → IsViewOf k.state ids v
view_shown a valid n k ids v is =
    let (u, looked, view) =
    shown_looked a.run.table (words_of (words_at a n)) k.state ids valid
    (reached_are_names a.run.program (events_in (events_until n a.run.events.items)) k.state k.reached) k.shows in
    subst (λ (x : View). IsViewOf k.state ids x)
    (same_view u v (look_view a.run.table (words_of (words_at a n)) ids) looked is) view

-- behind the last step nothing changes
words_past : (a : Rewound) (n : ℕ) → steps_in a ≤ n → words_at a n ≡ words_at a (steps_in a)
words_past a n past =
    ap (words_behind a.first) (take_all n a.run.made.items past ∙ sym (whole_front a.run.made.items))

shown_past : (a : Rewound) → IsRewound a → (n : ℕ) → steps_in a ≤ n → ShowsReached a n
shown_past a r n past =
    let k = r.shown (steps_in a) (omega arith) in
    let all : events_until n a.run.events.items ≡ events_until (steps_in a) a.run.events.items =
    until_all n a.run.events.items
    (all_weaker (λ (e : Numbered). e.0 ≤ steps_in a) (λ (e : Numbered). e.0 ≤ n) (λ e low. (let m : ℕ = e.0 in omega (arith, low, past))) a.run.events.items r.numbered)
    ∙ sym (until_all (steps_in a) a.run.events.items r.numbered) in
    record {
      state = k.state;
      reached = subst (λ (es : List Numbered). Reached a.run.program (events_in es) k.state) (sym all) k.reached;
      shows = subst (λ (ws : List ℕ). Shows a.run.table (words_of ws) k.state) (sym (words_past a n past)) k.shows;
    }

-- ---- the line of a step

not_below : (d n : ℕ) → n ≤ d → nat_lt d n ≡ false
not_below d n low = grind (arith, nat_tests)

is_below : (d n : ℕ) → d < n → nat_lt d n ≡ true
is_below d n low = grind (arith, nat_tests)

line_here : (done : Option ℕ) (steps n : ℕ) → IfSome done (λ d. d ≡ steps) → n ≤ steps
    → place_line n Here ≡ step_line n done
line_here None steps n last low = refl
line_here (Some d) steps n last low =
    ap (λ (b : Bool). place_line n (cond b (Done d) Here)) (sym (not_below d n (omega (arith, last, low))))

line_done : (done : Option ℕ) (d n : ℕ) → done ≡ Some d → d < n → place_line n (Done d) ≡ step_line n done
line_done last d n is low =
    ap (λ (b : Bool). place_line n (cond b (Done d) Here)) (sym (is_below d n low))
    ∙ ap (step_line n) (sym is)

-- ---- what is shown

done_number : (done : Option ℕ) (d steps : ℕ) → done ≡ Some d → IfSome done (λ k. k ≡ steps) → d ≡ steps
done_number None d steps is last = absurd (none_some refl is)
done_number (Some k) d steps is last = sym (some_same refl is) ∙ last

shown_step : (a : Rewound) → IsRewound a → IsValid a.run.table → (n : ℕ) (text : List ℕ)
    → IsStepLooked a n text → IsStepShown a n text
shown_step a r valid n text s = go s.at s.stands s.is
  where
    go : (at : At) → StandsAt a n at s.place → text ≡ place_line n at ++ report s.view → IsStepShown a n text
    go Here same is =
        let within = s.within in
        let low : n ≤ steps_in a = omega (arith, within, same) in
        let k = r.shown n low in
        record {
          made = inl low;
          shown = k;
          view = s.view;
          of_state = view_shown a valid n k (thread_ids a.run.program.threads) s.view
              (subst (λ m. look_view a.run.table (words_of (words_at a m)) (thread_ids a.run.program.threads) ≡ Ok s.view) same s.look);
          is = is ∙ ap (λ (l : List ℕ). l ++ report s.view) (line_here (done_in a.run.events.items) (steps_in a) n r.last low);
        }
    go (Done d) (done, before, same) is =
        let last : d ≡ steps_in a = done_number (done_in a.run.events.items) d (steps_in a) done r.last in
        let past : steps_in a ≤ n = omega (arith, before, last) in
        let k = shown_past a r n past in
        record {
          made = inr (done ∙ ap Some last);
          shown = k;
          view = s.view;
          of_state = view_shown a valid n k (thread_ids a.run.program.threads) s.view
              (subst (λ (ws : List ℕ). look_view a.run.table (words_of ws) (thread_ids a.run.program.threads) ≡ Ok s.view)
              (ap (words_at a) (same ∙ last) ∙ sym (words_past a n past)) s.look);
          is = is ∙ ap (λ (l : List ℕ). l ++ report s.view) (line_done (done_in a.run.events.items) d n done before);
        }

pub shown_steps : (a : Rewound) → IsRewound a → IsValid a.run.table → (ns text : List ℕ)
    → AreStepsLooked a ns text → AreStepsShown a ns text
shown_steps a r valid [] text are = are
shown_steps a r valid (n ∷ ns) text (first, rest, is, here, others) =
    (first, rest, is, shown_step a r valid n first here, shown_steps a r valid ns rest others)
