-- What private functions of the commands stand on: words that show a state, and what was printed so far, by a look at the words.
use Rattle.std.specs.Prelude.{◌≡◌, ◌≤◌, ◌<◌, ℕ, List, [], ◌∷◌, ◌++◌, Ok, Some}
use Rattle.omi_core.specs.declared.schedule.Schedule.TheVariants.{RoundRobin}
use Rattle.omi_layout.specs.Valid.{IsValid}
use Rattle.omi_model.specs.declared.view.View.{View}
use Rattle.omi_rep.specs.LookView.{look_view}
use Rattle.omi_rewind.specs.Rewound.{Rewound, done_in, steps_in, words_at}
use Rattle.omi_rewind.specs.declared.rewind.At.{At}
use Rattle.omi_rewind.specs.declared.rewind.At.TheVariants.{Here, Done}
use Rattle.omi_text.specs.Report.{report}
use Rattle.omi_commands.specs.Cores.{thread_ids}
use Rattle.omi_word.specs.Words.{words_of}
use Rattle.omi_rewind_top.specs.Lines.{place_line}

-- the threads of a rewind step in turn, its layout is valid, and these are the ids of its threads, which are few
pub record IsInTurn (a : Rewound) (ids : List ℕ) : Type 0 where
  pub how : a.how ≡ RoundRobin
  pub valid : IsValid a.run.table
  pub few : a.run.program.threads ≤ 64
  pub ids_are : ids ≡ thread_ids a.run.program.threads

-- for a step the image stood behind this many steps
abbrev pub StandsAt : Rewound → ℕ → At → ℕ → Type 0
StandsAt a n Here place = place ≡ n
StandsAt a n (Done d) place = (done_in a.run.events.items ≡ Some d) × (d < n) × (place ≡ d)

-- what was printed for a step: its line, and the report of a look at the words where the image stood
pub record IsStepLooked (a : Rewound) (n : ℕ) (text : List ℕ) : Type 0 where
  pub place : ℕ
  pub within : place ≤ steps_in a
  pub at : At
  pub stands : StandsAt a n at place
  pub view : View
  pub look : look_view a.run.table (words_of (words_at a place)) (thread_ids a.run.program.threads)
      ≡ Ok view
  pub is : text ≡ place_line n at ++ report view

-- and for steps in their order
abbrev pub AreStepsLooked : Rewound → List ℕ → List ℕ → Type 0
AreStepsLooked a [] text = text ≡ []
AreStepsLooked a (n ∷ ns) text = (first : List ℕ) × (rest : List ℕ) × (text ≡ first ++ rest)
    × IsStepLooked a n first × AreStepsLooked a ns rest
