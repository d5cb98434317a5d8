-- What is printed of a run whose threads step in turn: for each step that is gone to its line and the report of the state that the events up
-- to there reach, or the first step at which a thread is in a state.
use Rattle.std.specs.Prelude.{◌≡◌, ℕ, List, [], ◌∷◌, ◌++◌, Option}
use Rattle.omi_core.specs.declared.schedule.Schedule.TheVariants.{RoundRobin}
use Rattle.omi_layout.specs.Family.{IsFamily}
use Rattle.omi_layout.specs.Valid.{IsValid}
use Rattle.omi_model.specs.Views.{IsViewOf}
use Rattle.omi_model.specs.declared.view.View.{View}
use Rattle.omi_rewind.specs.Answers.{IsFirst, IsSearched}
use Rattle.omi_rewind.specs.Rewound.{IsRewound, Rewound, ShowsReached, done_in}
use Rattle.omi_rewind.specs.declared.test.Test.{Test}
use Rattle.omi_script.specs.declared.program.Program.{Program}
use Rattle.omi_text.specs.Report.{report}
use Rattle.omi_commands.specs.Cores.{thread_ids}
use Rattle.omi_rewind_top.specs.Lines.{first_line, step_line}

-- a rewind of the program in the layout of family 0, whose threads step in turn, from thread 0 on
pub record IsTurned (p : Program) (a : Rewound) : Type 0 where
  pub program : a.run.program ≡ p
  pub family : IsFamily 0 p.threads a.run.table
  pub valid : IsValid a.run.table
  pub how : a.how ≡ RoundRobin

-- What is printed for a step. The run has so many steps, or ended before; the words behind the first n of them show the state that their
-- events reach, those with a step number of at most n; and the text is the line of the step and the report of this state, for the contexts
-- of all threads
pub record IsStepShown (a : Rewound) (n : ℕ) (text : List ℕ) : Type 0 where
  pub made : IsSearched a n
  pub shown : ShowsReached a n
  pub view : View
  pub of_state : IsViewOf shown.state (thread_ids a.run.program.threads) view
  pub is : text ≡ step_line n (done_in a.run.events.items) ++ report view

-- what is printed for steps, in their order
abbrev pub AreStepsShown : Rewound → List ℕ → List ℕ → Type 0
AreStepsShown a [] text = text ≡ []
AreStepsShown a (n ∷ ns) text = (first : List ℕ) × (rest : List ℕ) × (text ≡ first ++ rest)
    × IsStepShown a n first × AreStepsShown a ns rest

-- what `at` prints of a program
pub record IsAtText (p : Program) (ns text : List ℕ) : Type 0 where
  pub rewind : Rewound
  pub turned : IsTurned p rewind
  pub rewound : IsRewound rewind
  pub steps : AreStepsShown rewind ns text

-- what `when` prints of a program
pub record IsWhenText (p : Program) (test : Test) (last : ℕ) (text : List ℕ) : Type 0 where
  pub rewind : Rewound
  pub turned : IsTurned p rewind
  pub rewound : IsRewound rewind
  pub first : Option ℕ
  pub is_first : IsFirst rewind test rewind.run.table last first
  pub is : text ≡ first_line first
