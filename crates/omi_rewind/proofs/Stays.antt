-- What a rewind keeps says what holds of each rewind, and stays where only room, copies or the place of the image change.
use Rattle.std.proofs.Common.{◌≡◌, ◌≤◌, ◌<◌, ◌+◌, ◌-◌, ◌*◌, ◌++◌, ◌⊎◌, inl, inr, ℕ, zero, suc, List, [], ◌∷◌, length, map, take, Option, Some, refl, sym, ap, ◌∙◌, subst, arith}
use Rattle.std.specs.Prelude.{IfSome, OnErr, Result, Ok, Err, slice_get, slice_index_or}
use Rattle.std.specs.List.{AllByRecursion}
use Rattle.std.proofs.lemmas.Bool.{cases_lt}
use Rattle.std.proofs.lemmas.List.{append_assoc, append-nil, length-append, length-set}
use Rattle.omi_model.proofs.Slots.{none_some, some_same}
use Rattle.omi_model.specs.declared.event.Event.{Event}
use Rattle.omi_model.specs.Reached.{Reached}
use Rattle.omi_model.specs.State.{State}
use Rattle.omi_script.specs.declared.program.Program.{Program}
use Rattle.omi_run_lists.specs.declared.made.Made.{Made}
use Rattle.omi_word.specs.Memory.{IsWordOf, address_of, left_of, place_of, word_at, words_after}
use Rattle.omi_word.specs.Words.{words_of}
use Rattle.omi_layout.specs.OpeningWords.{AreOpening}
use Rattle.omi_layout.specs.Memory.{replace_at}
use Rattle.omi_rep.specs.Shows.{Shows}
use Rattle.omi_rule.specs.Steps.{committed}
use Rattle.omi_core.specs.declared.entry.Entry.{Entry}
use Rattle.omi_core.specs.declared.schedule.Schedule.{Schedule}
use Rattle.omi_core.specs.Histories.{HasHistory}
use Rattle.omi_core.specs.Runs.{IsSameRun, Run, events_in}
use Rattle.omi_core.specs.Schedules.{IsDrawn, threads_by}
use Rattle.omi_core.specs.Steps.{Steps, Watches, made_of_steps}
use Rattle.omi_rewind.specs.declared.limits.TheConstants.{COPY_EVERY, LAST_STEP}
use Rattle.omi_rewind.specs.Keeps.{IsCopied, KeepsRewind}
use Rattle.omi_rewind.specs.Rewound.{IsLater, IsRewound, IsSame, Rewound, ShowsReached, done_in, events_until, image_of, steps_in, words_at, words_behind}
use Rattle.omi_rewind.proofs.Fronts.{count_behind, until_all, whole_front, word_there, words_stay}

-- what holds of each rewind
pub rewound : (a : Rewound) (copies : List (List ℕ)) (image : List ℕ) (draw : ℕ) (done : Option ℕ)
    → KeepsRewind a copies image draw done → HasHistory a.run → IsRewound a
rewound a copies image draw last k history = record {
  opens = k.opens;
  history = history;
  threads = k.threads;
  within = k.within;
  shown = k.shown;
  numbered = k.numbered;
  last = subst (λ o. IfSome o (λ d. d ≡ steps_in a)) k.done_is k.last;
}

-- what all steps leave is shown
pub shown_furthest : (a : Rewound) → a.run.words ≡ words_behind a.first a.run.made.items
    → AllByRecursion (λ (e : ℕ × ℕ × Event). e.0 ≤ steps_in a) a.run.events.items → HasHistory a.run
    → (n : ℕ) → n ≡ steps_in a → ShowsReached a n
shown_furthest a are numbered (entries, state, made) n is =
    let events : events_until n a.run.events.items ≡ a.run.events.items =
    ap (λ k. events_until k a.run.events.items) is ∙ until_all (steps_in a) a.run.events.items numbered in
    let words : words_at a n ≡ a.run.words =
    ap (words_at a) is ∙ ap (words_behind a.first) (whole_front a.run.made.items) ∙ sym are in
    record {
      state = state;
      reached = subst (λ es. Reached a.run.program (events_in es) state) (sym events) made.reached;
      shows = subst (λ ws. Shows a.run.table (words_of ws) state) (sym words) made.shows;
    }

-- ---- later

pub later_same : (a b : Rewound) → IsSame a b → IsLater a b
later_same a b same = record {
  program = same.run.program;
  table = same.run.table;
  how = same.how;
  first = same.first;
  made = [];
  made_are = same.run.made ∙ sym (append-nil a.run.made.items);
  events = [];
  events_are = same.run.events ∙ sym (append-nil a.run.events.items);
}

pub later_self : (a : Rewound) → IsLater a a
later_self a =
    let same : IsSameRun a.run a.run = record {
      program = refl;
      table = refl;
      words = refl;
      actors = refl;
      events = refl;
      made = refl;
    } in
    later_same a a (record { run = same; how = refl; first = refl; at = refl })

pub later_two : (a b c : Rewound) → IsLater a b → IsLater b c → IsLater a c
later_two a b c x y = record {
  program = y.program ∙ x.program;
  table = y.table ∙ x.table;
  how = y.how ∙ x.how;
  first = y.first ∙ x.first;
  made = x.made ++ y.made;
  made_are = y.made_are ∙ ap (λ (ms : List Made). ms ++ y.made) x.made_are ∙ append_assoc a.run.made.items x.made y.made;
  events = x.events ++ y.events;
  events_are = y.events_are ∙ ap (λ (es : List (ℕ × ℕ × Event)). es ++ y.events) x.events_are ∙ append_assoc a.run.events.items x.events y.events;
}

pub later_words : (a b : Rewound) → IsLater a b → (n : ℕ) → n ≤ steps_in a → words_at b n ≡ words_at a n
later_words a b later n within = words_stay a b later.first later.made later.made_are n within

-- and so the image stays where its step does
pub image_kept : (a b : Rewound) → IsLater a b → b.at ≡ a.at → a.at ≤ steps_in a → image_of b ≡ image_of a
image_kept a b later at within = ap (words_at b) at ∙ later_words a b later a.at within

pub later_more : (a b : Rewound) → IsLater a b → steps_in a ≤ steps_in b
later_more a b later =
    let all : steps_in b ≡ steps_in a + length later.made =
    ap (λ (ms : List Made). length ms) later.made_are ∙ length-append a.run.made.items later.made in
    omega (arith, all)

-- ---- the same run with other room, more copies, or another image

-- a rewind with these parts
pub same_parts : (a b : Rewound) → IsSameRun a.run b.run → b.how ≡ a.how → b.first ≡ a.first → (n : ℕ) → words_at b n ≡ words_at a n
same_parts a b run how first n =
    ap (λ ws. words_behind ws (take n b.run.made.items)) first
    ∙ ap (λ (ms : List Made). words_behind a.first (take n ms)) run.made

pub other_parts : (a b : Rewound) (copies more : List (List ℕ)) (image other : List ℕ) (draw : ℕ) (done : Option ℕ)
    → KeepsRewind a copies image draw done → IsSameRun a.run b.run → b.how ≡ a.how → b.first ≡ a.first → b.copies ≡ length more
    → length copies ≤ length more
    → ((k : ℕ) → k < length more → IsCopied b more k)
    → b.at ≤ steps_in a → other ≡ words_at a b.at
    → KeepsRewind b more other draw done
other_parts a b copies more image other draw done k run how first count longer copied within is =
    let words = same_parts a b run how first in
    let steps : steps_in b ≡ steps_in a = ap (λ (ms : List Made). length ms) run.made in
    let some = k.some in
    let few = k.few in
    let enough = k.enough in
    record {
      opens = subst (λ ws. AreOpening b.run.program b.run.table ws) (sym first)
          (subst (λ (p : Program). AreOpening p b.run.table a.first) (sym run.program)
          (subst (λ w. AreOpening a.run.program w a.first) (sym run.table) k.opens));
      words = run.words ∙ k.words ∙ sym (ap (λ ws. words_behind ws b.run.made.items) first ∙ ap (words_behind a.first) run.made);
      threads =
          ap (map (λ (m : Made). m.thread)) run.made
          ∙ k.threads
          ∙ sym (ap (λ (h : Schedule). threads_by h b.run.program.threads (steps_in b)) how
          ∙ ap (λ (p : Program). threads_by a.how p.threads (steps_in b)) run.program
          ∙ ap (threads_by a.how a.run.program.threads) steps);
      few = omega (arith, few, steps);
      numbered = subst (λ n. AllByRecursion (λ (e : ℕ × ℕ × Event). e.0 ≤ n) b.run.events.items) (sym steps)
          (subst (AllByRecursion (λ (e : ℕ × ℕ × Event). e.0 ≤ steps_in a)) (sym run.events) k.numbered);
      shown = λ n low.
          let old = k.shown n (omega (arith, low, steps)) in
          record {
            state = old.state;
            reached = subst (λ (p : Program). Reached p (events_in (events_until n b.run.events.items)) old.state) (sym run.program)
                (subst (λ es. Reached a.run.program (events_in (events_until n es)) old.state) (sym run.events) old.reached);
            shows = subst (λ w. Shows w (words_of (words_at b n)) old.state) (sym run.table)
                (subst (λ ws. Shows a.run.table (words_of ws) old.state) (sym (words n)) old.shows);
          };
      count = count;
      some = omega (arith, some, longer);
      copied = copied;
      enough = more_copies (steps_in b) (steps_in a) (length copies) (length more) steps enough longer;
      within = omega (arith, within, steps);
      image_is = is ∙ sym (words b.at);
      drawn = subst (λ (h : Schedule). IsDrawn h b.run.program.threads (steps_in b) draw) (sym how)
          (subst (λ (p : Program). IsDrawn a.how p.threads (steps_in b) draw) (sym run.program)
          (subst (λ n. IsDrawn a.how a.run.program.threads n draw) (sym steps) k.drawn));
      done_is = k.done_is ∙ sym (ap done_in run.events);
      last = subst (λ n. IfSome done (λ d. d ≡ n)) (sym steps) k.last;
    }
  where
    more_copies : (n m c d : ℕ) → n ≡ m → m ≤ c * COPY_EVERY → c ≤ d → n ≤ d * COPY_EVERY
    more_copies n m c d same low less = omega (arith, same, low, less)

-- a copy stays a copy
pub copied_same : (a b : Rewound) → IsSameRun a.run b.run → b.how ≡ a.how → b.first ≡ a.first
    → (copies more : List (List ℕ)) (k : ℕ) → slice_index_or more k [] ≡ slice_index_or copies k []
    → IsCopied a copies k → IsCopied b more k
copied_same a b run how first copies more k same is =
    let low = is.made in
    let steps : steps_in b ≡ steps_in a = ap (λ (ms : List Made). length ms) run.made in
    record {
      made = omega (arith, low, steps);
      copy = same ∙ is.copy ∙ sym (same_parts a b run how first (k * COPY_EVERY));
    }

-- ---- copies

copy_before : (xs : List (List ℕ)) (x : List ℕ) (k : ℕ) → k < length xs
    → slice_index_or (xs ++ x ∷ []) k [] ≡ slice_index_or xs k []
copy_before [] x k below = absurd (omega (arith, below))
copy_before (y ∷ ys) x zero below = refl
copy_before (y ∷ ys) x (suc k) below = copy_before ys x k (omega (arith, below))

copy_last : (xs : List (List ℕ)) (x : List ℕ) → slice_index_or (xs ++ x ∷ []) (length xs) [] ≡ x
copy_last [] x = refl
copy_last (y ∷ ys) x = copy_last ys x

-- a copy of the furthest words is added
pub one_more_copy : (a b : Rewound) (copies more : List (List ℕ)) (image : List ℕ) (draw : ℕ) (done : Option ℕ)
    → KeepsRewind a copies image draw done → b.run ≡ a.run → b.how ≡ a.how → b.at ≡ a.at → b.first ≡ slice_index_or more 0 [] → b.copies ≡ length more
    → a.first ≡ slice_index_or copies 0 []
    → (copy : List ℕ) → more ≡ copies ++ copy ∷ [] → copy ≡ a.run.words → steps_in a ≡ COPY_EVERY * length copies
    → KeepsRewind b more image draw done × IsSame a b × (steps_in b < b.copies * COPY_EVERY)
one_more_copy a b copies more image draw done k run how at first count from copy are is full =
    let longer : length more ≡ length copies + 1 = ap (λ (l : List (List ℕ)). length l) are ∙ length-append copies (copy ∷ []) in
    let some = k.some in
    let first_same : b.first ≡ a.first =
    first ∙ ap (λ (l : List (List ℕ)). slice_index_or l 0 []) are ∙ copy_before copies copy 0 some ∙ sym from in
    let runs : IsSameRun a.run b.run = record {
      program = ap (λ (r : Run). r.program) run;
      table = ap (λ (r : Run). r.table) run;
      words = ap (λ (r : Run). r.words) run;
      actors = ap (λ (r : Run). r.actors) run;
      events = ap (λ (r : Run). r.events.items) run;
      made = ap (λ (r : Run). r.made.items) run;
    } in
    let steps : steps_in b ≡ steps_in a = ap (λ (ms : List Made). length ms) runs.made in
    let words = same_parts a b runs how first_same in
    let last : words_at a (length copies * COPY_EVERY) ≡ a.run.words =
    (let all : length copies * COPY_EVERY ≡ steps_in a = omega (arith, full) in ap (words_at a) all) ∙ ap (words_behind a.first) (whole_front a.run.made.items) ∙ sym k.words in
    let copied : (j : ℕ) → j < length more → IsCopied b more j = λ j below. go runs first_same longer words last steps j below (cases_lt j (length copies)) in (
      other_parts a b copies more image image draw done k runs how first_same count (omega (arith, longer)) copied (let low = k.within in omega (arith, low, at)) (k.image_is ∙ sym (ap (words_at a) at)),
      record { run = runs; how = how; first = first_same; at = at },
      omega (arith, steps, full, longer, count),
    )
  where
    go : IsSameRun a.run b.run → b.first ≡ a.first → length more ≡ length copies + 1 → ((n : ℕ) → words_at b n ≡ words_at a n)
        → words_at a (length copies * COPY_EVERY) ≡ a.run.words → steps_in b ≡ steps_in a
        → (j : ℕ) → j < length more → (j < length copies) ⊎ (length copies ≤ j) → IsCopied b more j
    go runs first_same longer words last steps j below (inl before) =
        copied_same a b runs how first_same copies more j (ap (λ (l : List (List ℕ)). slice_index_or l j []) are ∙ copy_before copies copy j before) (k.copied j before)
    go runs first_same longer words last steps j below (inr past) =
        let here : j ≡ length copies = omega (arith, below, past, longer) in
        record {
          made = omega (arith, here, steps, full);
          copy =
              ap (λ (l : List (List ℕ)). slice_index_or l j []) are
              ∙ ap (λ i. slice_index_or (copies ++ copy ∷ []) i []) here
              ∙ copy_last copies copy
              ∙ is
              ∙ sym last
              ∙ sym (words (length copies * COPY_EVERY))
              ∙ ap (λ i. words_at b (i * COPY_EVERY)) (sym here);
        }

-- ---- operations

-- each operation of steps is on a word of those with which they begin
ops_inside : (p : Program) (w words : List ℕ) (past : List (ℕ × Event)) (s : State) (watches : Watches) (xs : List (ℕ × Entry)) (last : List ℕ) (t : State) (later : Watches)
    → Steps p w words past s watches xs last t later → (n : ℕ) (m : Made) → slice_get (made_of_steps xs) n ≡ Some m
    → IsWordOf words (address_of m.op)
ops_inside p w words past s watches [] last t later steps n m is = absurd (none_some refl is)
ops_inside p w words past s watches ((i, e) ∷ xs) last t later (next, watch, one, seen, rest) zero m is =
    subst (λ (x : Made). IsWordOf words (address_of x.op)) (some_same refl is) one.inside
ops_inside p w words past s watches ((i, e) ∷ xs) last t later (next, watch, one, seen, rest) (suc n) m is =
    word_there (words_after words e.op) words (address_of m.op)
    (sym (length-set words (place_of (address_of e.op)) (left_of e.op (word_at words (address_of e.op)))))
    (ops_inside p w (words_after words e.op) (past ++ committed i e.outcome) next (replace_at watches i watch) xs last t later rest n m is)

-- and so of a word of the words behind any number of steps of a rewind
pub op_inside : (a : Rewound) → AreOpening a.run.program a.run.table a.first → HasHistory a.run → (n : ℕ) (m : Made)
    → slice_get a.run.made.items n ≡ Some m → (j : ℕ) → IsWordOf (words_at a j) (address_of m.op)
op_inside a opens (xs, s, is) n m here j =
    word_there is.made_by.steps.first (words_at a j) (address_of m.op)
    (count_behind a.first (take j a.run.made.items) ∙ opens.count ∙ sym is.made_by.steps.opens.count)
    (ops_inside a.run.program a.run.table is.made_by.steps.first [] _ _ xs a.run.words s is.made_by.steps.watches is.made_by.steps.steps n m
    (subst (λ (ms : List Made). slice_get ms n ≡ Some m) is.made_by.made here))

-- ---- the parts of a rewind

-- the same rewind with other room
pub roomier : (a : Rewound) (run : Run) (copies : List (List ℕ)) (image : List ℕ) (draw : ℕ) (done : Option ℕ)
    → KeepsRewind a copies image draw done → IsSameRun a.run run
    → KeepsRewind (record { run = run; how = a.how; first = a.first; at = a.at; copies = a.copies }) copies image draw done
roomier a run copies image draw done k same =
    let b : Rewound = record { run = run; how = a.how; first = a.first; at = a.at; copies = a.copies } in
    other_parts a b copies copies image image draw done k same refl refl k.count (omega arith)
    (λ j below. copied_same a b same refl refl copies copies j refl (k.copied j below)) k.within k.image_is

-- the same rewind with another image
pub other_image : (a : Rewound) (at : ℕ) (copies : List (List ℕ)) (image other : List ℕ) (draw : ℕ) (done : Option ℕ)
    → KeepsRewind a copies image draw done → at ≤ steps_in a → other ≡ words_at a at
    → KeepsRewind (record { run = a.run; how = a.how; first = a.first; at = at; copies = a.copies }) copies other draw done
other_image a at copies image other draw done k within is =
    let b : Rewound = record { run = a.run; how = a.how; first = a.first; at = at; copies = a.copies } in
    let same : IsSameRun a.run a.run = record {
      program = refl;
      table = refl;
      words = refl;
      actors = refl;
      events = refl;
      made = refl;
    } in
    other_parts a b copies copies image other draw done k same refl refl k.count (omega arith)
    (λ j below. copied_same a b same refl refl copies copies j refl (k.copied j below)) within is

-- there are few copies
pub few_copies : (a : Rewound) (copies : List (List ℕ)) (image : List ℕ) (draw : ℕ) (done : Option ℕ)
    → KeepsRewind a copies image draw done → length copies * COPY_EVERY ≤ LAST_STEP + COPY_EVERY
few_copies a copies image draw when_done k =
    let some = k.some in
    let few = k.few in
    let below : length copies - 1 < length copies = omega (arith, some) in
    let last = (k.copied (length copies - 1) below).made in
    omega (arith, some, few, last)

-- ---- answers

-- a fact that holds anyway holds where memory is wanting
pub on_err_any : {A E : Type 0} (r : Result A E) (P : Type 0) → P → OnErr r P
on_err_any (Ok v) P p = tt
on_err_any (Err e) P p = p
