-- What is printed of stops in turn, one more each time, is the reports of the states of these stops.
use Rattle.std.proofs.Common.{◌≡◌, ◌+◌, ◌++◌, ℕ, zero, suc, List, [], ◌∷◌, length, take, slice_get, Some, Ok, refl, sym, ap, subst, ◌∙◌, arith}
use Rattle.std.proofs.lemmas.List.{append_assoc, append-nil, length-take-le, take_more}
use Rattle.std.proofs.lemmas.Option.{get_or_from_slice_get, slice_get_within}
use Rattle.omi_script.specs.declared.program.Program.{Program}
use Rattle.omi_model.specs.Views.{IsViewOf}
use Rattle.omi_model.specs.declared.id.Tid.{Tid}
use Rattle.omi_model.specs.declared.view.View.{View}
use Rattle.omi_layout.specs.Place.{image_words}
use Rattle.omi_layout.specs.declared.layout.Layout.{Layout}
use Rattle.omi_word.specs.Words.{Words, words_of}
use Rattle.omi_rep.proofs.shown.ShownViews.{shown_looked}
use Rattle.omi_rep.specs.Look.{Look, and_then}
use Rattle.omi_rep.specs.LookView.{look_view}
use Rattle.omi_core.specs.declared.entry.Entry.{Entry}
use Rattle.omi_core.specs.Runs.{events_in}
use Rattle.omi_core.specs.Steps.{events_behind, steps_of}
use Rattle.omi_core.specs.declared.thread_run.ThreadRun.{ThreadRun}
use Rattle.omi_seat.specs.Known.{own_steps}
use Rattle.omi_session.proofs.NamesReached.{reached_are_names}
use Rattle.omi_commands.proofs.Lengths.{steps_long}
use Rattle.omi_commands.specs.Cores.{thread_ids}
use Rattle.omi_commands.specs.Fates.{look_fates}
use Rattle.omi_walk.specs.Kept.{task_names}
use Rattle.omi_commands.specs.declared.kept_tasks.KeptTasks.{KeptTasks}
use Rattle.omi_park.specs.Kept.{AreCopies, AreStopsLooked, HoldsTasks, IsCopy, IsStopLooked, IsStopPushed}
use Rattle.omi_park.specs.Lines.{stop_text}
use Rattle.omi_park.specs.Parked.{AreStops, IsStop}
use Rattle.omi_park.specs.Shown.{AreStopsShown}
use Rattle.omi_park.specs.declared.stopped.Stopped.{Stopped}
use Rattle.omi_list.proofs.Places.{none_at, one_value}
use Rattle.omi_park.proofs.Taken.{takes_printed}

-- no task has no line
pub no_fates : (w : List ℕ) (words : Words) (names : List Tid) → names ≡ [] → (text : List ℕ) → text ≡ []
    → look_fates w words names ≡ Ok text
unfolding and_then
no_fates w words names none text empty =
    ap (look_fates w words) none ∙ ap (λ (t : List ℕ). Ok t) (sym empty)

-- three parts behind a text
pub added : (old a b c : List ℕ) → ((old ++ a) ++ b) ++ c ≡ old ++ (a ++ (b ++ c))
added old a b c =
    append_assoc (old ++ a) b c ∙ append_assoc old a (b ++ c)

-- ---- one stop more

pub one_stop_more : (w ids : List ℕ) (number : ℕ) (names last : List Tid) (stops : List Stopped) (n : ℕ) (stop : Stopped)
    (text part : List ℕ) → n ≡ number + length stops → AreStopsLooked w ids number names stops text last
    → (here : IsStopLooked w ids n last stop part)
    → AreStopsLooked w ids number names (stops ++ stop ∷ []) (text ++ part) (task_names here.view)
one_stop_more w ids number names last [] n stop text part count (none, same) here =
    let first : n ≡ number = omega (arith, count) in (
      part,
      [],
      ap (λ (t : List ℕ). t ++ part) none ∙ sym (append-nil part),
      record {
        view = here.view;
        look = here.look;
        fates = here.fates;
        asked = subst (λ (ks : List Tid). look_fates w (words_of stop.image) ks ≡ Ok here.fates) same here.asked;
        is = here.is ∙ ap (λ k. stop_text k stop.steps here.view here.fates) first;
      },
      (refl, refl),
    )
one_stop_more w ids number names last (s ∷ stops) n stop text part count (first, rest, is, shown, others) here = (
  first,
  rest ++ part,
  ap (λ (t : List ℕ). t ++ part) is ∙ append_assoc first rest part,
  shown,
  one_stop_more w ids (number + 1) (task_names shown.view) last stops n stop rest part
      (let many : ℕ = length stops in omega (arith, count)) others here,
)

-- what was printed so far, and one stop more that was pushed
pub pushed_more : (w ids : List ℕ) (last : List Tid) (stops : List Stopped) (at : ℕ) (stop : Stopped) → slice_get stops at ≡ Some stop
    → (old new : List ℕ) (kept : KeptTasks) → AreStopsLooked w ids 1 [] (take at stops) old last
    → IsStopPushed w ids (at + 1) last stop old new kept
    → (names : List Tid) × AreStopsLooked w ids 1 [] (take (at + 1) stops) new names × HoldsTasks w names kept
pushed_more w ids last stops at stop got old new kept looked pushed =
    let below = slice_get_within stops at stop got in
    let count : length (take at stops) ≡ at = length-take-le at stops (omega (arith, below)) in
    let more : take at stops ++ stop ∷ [] ≡ take (at + 1) stops =
    ap (λ (s : Stopped). take at stops ++ s ∷ []) (sym (get_or_from_slice_get stops at stop stop got)) ∙ sym (take_more stops at stop below) in (
      task_names pushed.looked.view,
      subst (λ (t : List ℕ). AreStopsLooked w ids 1 [] (take (at + 1) stops) t (task_names pushed.looked.view)) (sym pushed.added)
          (subst (λ (ss : List Stopped). AreStopsLooked w ids 1 [] ss (old ++ pushed.part) (task_names pushed.looked.view)) more
          (one_stop_more w ids 1 [] last (take at stops) (at + 1) stop old pushed.part (omega (arith, count)) looked pushed.looked)),
      pushed.keeps,
    )

-- ---- the states

same_view : (u v : View) (look : Look View) → look ≡ Ok u → look ≡ Ok v → u ≡ v
same_view u v look one other = cc

module _ (p : Program) (l : Layout) where
  -- a look at the words of a stop is the view of its state
  view_shown : (entries : List (ℕ × Entry)) (stop : Stopped) (is : IsStop p l entries stop) (ids : List ℕ) (v : View)
      → look_view l.table (words_of stop.image) ids ≡ Ok v → IsViewOf is.state ids v
  view_shown entries stop is ids v looked =
      let (u, other, view) =
      shown_looked l.table (words_of stop.image) is.state ids l.valid
      (reached_are_names p (events_in (events_behind 0 entries)) is.state is.reached) is.shows in
      subst (λ (x : View). IsViewOf is.state ids x)
      (same_view u v (look_view l.table (words_of stop.image) ids) other looked) view

  pub stops_shown : (entries : List (ℕ × Entry)) (runs : List ThreadRun)
      → ((i : ℕ) (r : ThreadRun) → slice_get runs i ≡ Some r → r.events.items ≡ events_behind 0 (own_steps i (steps_of i entries)))
      → (from number : ℕ) (names last : List Tid) (stops : List Stopped)
      (text : List ℕ) → AreStops p l from entries stops
      → AreStopsLooked l.table (thread_ids p.threads) number names stops text last
      → AreStopsShown p l entries runs from number names stops text
  stops_shown entries runs events from number names last [] text are (none, same) = none
  stops_shown entries runs events from number names last (stop ∷ stops) text (at, behind, within, stands, first, are) (part, rest, is, looked, more) = (
    part,
    rest,
    is,
    record {
      at = at;
      behind = behind;
      within = within;
      stands = stands;
      first = first;
      takes = takes_printed entries at stop runs first events;
      view = looked.view;
      of_state = view_shown (take at entries) stop stands (thread_ids p.threads) looked.view looked.look;
      fates = looked.fates;
      asked = looked.asked;
      is = looked.is;
    },
    stops_shown entries runs events at (number + 1) (task_names looked.view) last stops rest are more,
  )

  -- the words of each stop are a copy
  is_copy : (entries : List (ℕ × Entry)) (stop : Stopped) → IsStop p l entries stop → IsCopy l.table stop.image
  is_copy entries stop is =
      let long = is.tables.long in
      let whole : length stop.image ≡ image_words l.table = steps_long p l.table entries stop.image is.state is.steps in
      record {
        valid = l.valid;
        gives = is.shows.layout;
        long = omega (arith, whole);
        shown = record {
          some = omega (arith, long);
          w = l.table;
          valid = l.valid;
          state = is.state;
          names = reached_are_names p (events_in (events_behind 0 entries)) is.state is.reached;
          shows = is.shows;
        };
      }

  pub are_copies : (entries : List (ℕ × Entry)) (from : ℕ) (stops : List Stopped) → AreStops p l from entries stops
      → AreCopies l.table stops
  are_copies entries from [] are k stop got = absurd (none_at [] k stop refl got)
  are_copies entries from (first ∷ stops) (at, behind, within, stands, own, are) zero stop got =
      subst (λ (s : Stopped). IsCopy l.table s.image) (one_value (Some first) first stop refl got)
      (is_copy (take at entries) first stands)
  are_copies entries from (first ∷ stops) (at, behind, within, stands, own, are) (suc k) stop got =
      are_copies entries at stops are k stop got
