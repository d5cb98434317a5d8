-- What a core file is to `show`: its words, a look at them through the layout that they give, and why there is none.
use Rattle.std.specs.Prelude.{◌≡◌, ◌⊎◌, ℕ, List, Err, ⊤}
use Rattle.omi_calls.specs.Told.{aligned_word_at}
use Rattle.omi_calls.specs.CoreWords.{words_of_segments as segment_words}
use Rattle.omi_corefile.specs.declared.core_image.CoreImage.{CoreImage}
use Rattle.omi_layout.specs.Given.{GivesLayout}
use Rattle.omi_layout.specs.NoLayout.{GivesNone}
use Rattle.omi_word.specs.Words.{Words}
use Rattle.omi_layout.specs.Valid.{IsValid}
use Rattle.omi_layout.specs.declared.fault.LayoutFault.TheVariants.{Version}
use Rattle.omi_layout.specs.declared.reading.LayoutError.{LayoutError}
use Rattle.omi_layout.specs.declared.reading.LayoutError.TheVariants as error
use Rattle.omi_model.specs.Reached.{Reached}
use Rattle.omi_model.specs.State.{State}
use Rattle.omi_model.specs.declared.event.Event.{Event}
use Rattle.omi_model.specs.declared.view.View.{View}
use Rattle.omi_rep.specs.Look.{Look}
use Rattle.omi_rep.specs.LookView.{look_view}
use Rattle.omi_rep.specs.Shows.{Shows}
use Rattle.omi_rep.specs.declared.fault.LookFault.{LookFault}
use Rattle.omi_script.specs.declared.program.Program.{Program}
use Rattle.omi_rep.specs.ShownLooks.{AreNames}
use Rattle.omi_page.specs.CoreFiles.{IsFileOf}

-- the words of a core by their addresses: those of its segments, none at an unaligned address
abbrev pub words_of_core : CoreImage → Words
words_of_core core = aligned_word_at (segment_words core.segments)

-- a look at the words of a core through the valid layout that they give, for the core's contexts, gives this view, or this fault
pub record IsLooked (core : CoreImage) (look : Look View) : Type 0 where
  pub w : List ℕ
  pub valid : IsValid w
  pub layout : GivesLayout (words_of_core core) w
  pub is : look_view w (words_of_core core) core.contexts ≡ look

-- the words of a core show a state in a valid layout, where what is visible has generations of 32 bits, as names do
pub record ShowsState (core : CoreImage) (s : State) : Type 0 where
  pub w : List ℕ
  pub valid : IsValid w
  pub names : AreNames s
  pub shows : Shows w (words_of_core core) s

-- the words of a core show a state that events of a program reach, in a valid layout
pub record ShowsReached (core : CoreImage) : Type 0 where
  pub w : List ℕ
  pub valid : IsValid w
  pub program : Program
  pub events : List (ℕ × Event)
  pub state : State
  pub reached : Reached program events state
  pub shows : Shows w (words_of_core core) state

-- there is no layout table, or one of another version
abbrev pub LacksTable : LayoutError → Type 0
LacksTable error.NoSymbol = ⊤
LacksTable (error.Refused addr (Version v)) = ⊤
LacksTable other = ⊥

-- a word of the table isn't mapped, or the table of this version is wrong
abbrev pub IsWrongTable : LayoutError → Type 0
IsWrongTable error.NoSymbol = ⊥
IsWrongTable (error.Refused addr (Version v)) = ⊥
IsWrongTable other = ⊤

-- the words of a core have no layout table of this version
abbrev pub IsIncompatible : CoreImage → Type 0
IsIncompatible core = (cause : LayoutError) × GivesNone (words_of_core core) cause × LacksTable cause

-- the layout table in the words of a core is wrong
abbrev pub HasWrongTable : CoreImage → Type 0
HasWrongTable core = (cause : LayoutError) × GivesNone (words_of_core core) cause × IsWrongTable cause

-- this, or the look at them has a fault
abbrev pub IsDamaged : CoreImage → Type 0
IsDamaged core = HasWrongTable core ⊎ ((fault : LookFault) × IsLooked core (Err fault))

-- the words of a core give a layout
abbrev pub HasLayout : CoreImage → Type 0
HasLayout core = (w : List ℕ) × IsValid w × GivesLayout (words_of_core core) w

-- a file stands for a core of which this holds
abbrev pub Spells : List ℕ → (CoreImage → Type 0) → Type 0
Spells bytes holds = (core : CoreImage) × IsFileOf bytes core × holds core

-- two files stand for cores with the same contexts and the same words, in whatever format and order
pub record AreAlike (bytes other : List ℕ) : Type 0 where
  pub core : CoreImage
  pub is : IsFileOf bytes core
  pub second : CoreImage
  pub also : IsFileOf other second
  pub contexts : second.contexts ≡ core.contexts
  pub words : words_of_core second ≡ words_of_core core
