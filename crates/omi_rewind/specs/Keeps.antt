-- What a rewind keeps between two calls.
use Rattle.std.specs.Prelude.{◌≡◌, ◌≤◌, ◌<◌, ◌*◌, ℕ, List, [], length, Option, IfSome, map, slice_index_or, Bool, false}
use Rattle.std.specs.List.{AllByRecursion}
use Rattle.omi_model.specs.declared.event.Event.{Event}
use Rattle.omi_layout.specs.OpeningWords.{AreOpening}
use Rattle.omi_rep.specs.declared.outcome.Outcome.{Outcome}
use Rattle.omi_rep.specs.declared.outcome.Outcome.TheVariants as outcome
use Rattle.omi_core.specs.Ends.{is_done}
use Rattle.omi_core.specs.Schedules.{IsDrawn, threads_by}
use Rattle.omi_rewind.specs.declared.limits.TheConstants.{COPY_EVERY, LAST_STEP}
use Rattle.omi_rewind.specs.Rewound.{Rewound, ShowsReached, done_in, image_of, steps_in, words_at, words_behind}

-- the copy with this number is of the words behind so many times as many steps as lie between two copies
pub record IsCopied (a : Rewound) (copies : List (List ℕ)) (k : ℕ) : Type 0 where
  pub made : k * COPY_EVERY ≤ steps_in a
  pub copy : slice_index_or copies k [] ≡ words_at a (k * COPY_EVERY)

-- The steps are the schedule's, and their words and events are shown; the copies are of the words behind every so many steps, from the
-- opening words on, and no more steps than these were made behind the last one; the image is that of its step; the number that is drawn is
-- for the next step; and `done` is the last step, where it was committed
pub record KeepsRewind (a : Rewound) (copies : List (List ℕ)) (image : List ℕ) (draw : ℕ)
    (done : Option ℕ) : Type 0 where
  pub opens : AreOpening a.run.program a.run.table a.first
  pub words : a.run.words ≡ words_behind a.first a.run.made.items
  pub threads : map (λ m. m.thread) a.run.made.items
      ≡ threads_by a.how a.run.program.threads (steps_in a)
  pub few : steps_in a ≤ LAST_STEP
  pub numbered : AllByRecursion (λ (e : ℕ × ℕ × Event). e.0 ≤ steps_in a) a.run.events.items
  pub shown : (n : ℕ) → n ≤ steps_in a → ShowsReached a n
  pub count : a.copies ≡ length copies
  pub some : 0 < length copies
  pub copied : (k : ℕ) → k < length copies → IsCopied a copies k
  pub enough : steps_in a ≤ length copies * COPY_EVERY
  pub within : a.at ≤ steps_in a
  pub image_is : image ≡ image_of a
  pub drawn : IsDrawn a.how a.run.program.threads (steps_in a) draw
  pub done_is : done ≡ done_in a.run.events.items
  pub last : IfSome done (λ d. d ≡ steps_in a)

-- whether an outcome is `done`
abbrev pub commits_done : Outcome → Bool
commits_done (outcome.Event e) = is_done e
commits_done o = false
