-- What the calls of a rewind answer.
use Rattle.std.specs.Prelude.{◌≡◌, ◌≤◌, ◌<◌, ◌⊎◌, ℕ, ◌+◌, List, Option, Some, None, true, false}
use Rattle.omi_rewind.specs.Rewound.{Rewound, done_in, steps_in, words_at}
use Rattle.omi_rewind.specs.Tests.{holds}
use Rattle.omi_rewind.specs.declared.rewind.At.{At}
use Rattle.omi_rewind.specs.declared.rewind.At.TheVariants.{Here, Done}
use Rattle.omi_rewind.specs.declared.test.Test.{Test}

-- Where the image stands when it was to stand behind so many steps: there, where `done` wasn't committed by an earlier step; else behind
-- the step that committed it
abbrev pub IsReached : Rewound → ℕ → At → Type 0
IsReached a step Here = (a.at ≡ step) × ((d : ℕ) → done_in a.run.events.items ≡ Some d → step ≤ d)
IsReached a step (Done d) = (done_in a.run.events.items ≡ Some d) × (d < step) × (a.at ≡ d)

-- no step behind a last one was made, but those that were made before
abbrev pub IsWithin : Rewound → Rewound → ℕ → Type 0
IsWithin old new last = (steps_in new ≤ last) ⊎ (new.run.made.items ≡ old.run.made.items)

-- all steps up to a last one were made, or all up to the one that committed `done`
abbrev pub IsSearched : Rewound → ℕ → Type 0
IsSearched a last = (last ≤ steps_in a) ⊎ (done_in a.run.events.items ≡ Some (steps_in a))

-- the test holds behind none of the first steps below a number
abbrev pub HoldsNowhere : Rewound → Test → List ℕ → ℕ → Type 0
HoldsNowhere a test w n = (m : ℕ) → m < n → m ≤ steps_in a → holds test w (words_at a m) ≡ false

-- The first step, 0 to a last one, behind which the test holds. None where there is none up to the last one, or up to `done`
abbrev pub IsFirst : Rewound → Test → List ℕ → ℕ → Option ℕ → Type 0
IsFirst a test w last (Some n) = (n ≤ last) × (n ≤ steps_in a)
    × (holds test w (words_at a n) ≡ true) × HoldsNowhere a test w n
IsFirst a test w last None = IsSearched a last × HoldsNowhere a test w (last + 1)
