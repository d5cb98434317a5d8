-- What private functions of the printing stand on: the words of a stop that show a state, the tasks that are kept of their report, and what was
-- printed so far, by a look at the words.
use Rattle.std.specs.Prelude.{◌≡◌, ◌≤◌, ℕ, ◌+◌, List, [], ◌∷◌, ◌++◌, All, length, map, Ok, Option, Some, None, slice_get}
use Rattle.omi_layout.specs.Field.{tasks}
use Rattle.omi_layout.specs.Given.{GivesLayout}
use Rattle.omi_layout.specs.Place.{IsSlot, image_words}
use Rattle.omi_layout.specs.Valid.{IsValid}
use Rattle.omi_model.specs.declared.id.Tid.{Tid}
use Rattle.omi_model.specs.declared.view.View.{View}
use Rattle.omi_rep.specs.LookView.{look_view}
use Rattle.omi_commands.specs.Fates.{HoldsEach, look_fates}
use Rattle.omi_commands.specs.Imaged.{ShowsSome}
use Rattle.omi_commands.specs.declared.kept_tasks.KeptTasks.{KeptTasks}
use Rattle.omi_walk.specs.Kept.{task_names}
use Rattle.omi_word.specs.Words.{words_of}
use Rattle.omi_park.specs.Lines.{stop_text}
use Rattle.omi_park.specs.declared.stopped.Stopped.{Stopped}

-- words of an image in a layout, which show a state
pub record IsCopy (w words : List ℕ) : Type 0 where
  pub valid : IsValid w
  pub gives : GivesLayout (words_of words) w
  pub long : image_words w ≤ length words
  pub shown : ShowsSome words

-- each stop has such words
abbrev pub AreCopies : List ℕ → List Stopped → Type 0
AreCopies w stops = (k : ℕ) (stop : Stopped) → slice_get stops k ≡ Some stop → IsCopy w stop.image

-- a handle of each of these tasks is kept, in this layout, and each has a slot there
pub record HoldsTasks (w : List ℕ) (names : List Tid) (kept : KeptTasks) : Type 0 where
  pub layout : kept.parted.layout ≡ w
  pub are : map (λ k. k.0) kept.tasks ≡ names
  pub held : HoldsEach w kept.parted.handles kept.tasks
  pub slots : All (λ k. IsSlot w tasks k.0.creator k.0.slot) names

-- none before the first stop
abbrev pub HoldsBefore : List ℕ → List Tid → Option KeptTasks → Type 0
HoldsBefore w names None = names ≡ []
HoldsBefore w names (Some kept) = HoldsTasks w names kept

-- what was printed of a stop behind tasks that were kept: the view of a look at its words, and a look at these tasks there
pub record IsStopLooked (w ids : List ℕ) (number : ℕ) (names : List Tid) (stop : Stopped) (text : List ℕ)
    : Type 0 where
  pub view : View
  pub look : look_view w (words_of stop.image) ids ≡ Ok view
  pub fates : List ℕ
  pub asked : look_fates w (words_of stop.image) names ≡ Ok fates
  pub is : text ≡ stop_text number stop.steps view fates

-- what was added to a text for a stop, and the tasks that are kept of it
pub record IsStopPushed (w ids : List ℕ) (number : ℕ) (names : List Tid) (stop : Stopped) (old new : List ℕ)
    (kept : KeptTasks) : Type 0 where
  pub part : List ℕ
  pub added : new ≡ old ++ part
  pub looked : IsStopLooked w ids number names stop part
  pub keeps : HoldsTasks w (task_names looked.view) kept

-- and of stops in turn, from one of a number on, with the tasks of the last one's report
abbrev pub AreStopsLooked : List ℕ → List ℕ → ℕ → List Tid → List Stopped → List ℕ → List Tid → Type 0
AreStopsLooked w ids number names [] text last = (text ≡ []) × (last ≡ names)
AreStopsLooked w ids number names (stop ∷ stops) text last =
    (first : List ℕ) × (rest : List ℕ) × (text ≡ first ++ rest)
    × (here : IsStopLooked w ids number names stop first)
    × AreStopsLooked w ids (number + 1) (task_names here.view) stops rest last
