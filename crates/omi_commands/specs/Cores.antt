-- The core that a run leaves.
use Rattle.std.specs.Prelude.{ℕ, List, map}
use Rattle.std.specs.List.{range_with_len}
use Rattle.omi_corefile.specs.Spelling.{Core, HoldsImage}
use Rattle.omi_corefile.specs.declared.core_image.CoreImage.{CoreImage}
use Rattle.omi_word.specs.Words.{words_of}
use Rattle.omi_numbers.specs.Words.{native_id}
use Rattle.omi_layout.specs.Valid.{IsValid}
use Rattle.omi_model.specs.Reached.{Reached}
use Rattle.omi_model.specs.State.{State}
use Rattle.omi_model.specs.declared.event.Event.{Event}
use Rattle.omi_rep.specs.Shows.{Shows}
use Rattle.omi_script.specs.declared.program.Program.{Program}

-- the native ids of so many threads
abbrev pub thread_ids : ℕ → List ℕ
thread_ids threads = map native_id (range_with_len 0 threads)

-- a file is a core of threads with these native ids, and these words are its image: byte order 0, the ids as contexts, and one segment,
-- from the first address on
pub record IsCoreOf (ids bytes words : List ℕ) : Type 0 where
  pub core : CoreImage
  pub spelled : Core bytes core
  pub image : HoldsImage ids words core

-- a file is the core of threads with these native ids, and its words show a state that events of the program reach, in a valid layout
pub record IsReachedCore (p : Program) (ids bytes : List ℕ) (s : State) : Type 0 where
  pub w : List ℕ
  pub valid : IsValid w
  pub words : List ℕ
  pub core_of : IsCoreOf ids bytes words
  pub events : List (ℕ × Event)
  pub reached : Reached p events s
  pub shows : Shows w (words_of words) s
