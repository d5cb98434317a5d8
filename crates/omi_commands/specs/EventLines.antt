-- The lines of events.
use Rattle.std.specs.Prelude.{◌≡◌, ℕ, List, [], ◌∷◌, ◌++◌, length}
use Rattle.omi_model.specs.declared.event.Event.{Event}
use Rattle.omi_text.specs.Events.{event_line}

-- the lines of events, each with the number of its step and its thread
abbrev pub event_lines : List (ℕ × ℕ × Event) → List ℕ
event_lines [] = []
event_lines (x ∷ xs) = event_line x.0 x.1 x.2 ++ event_lines xs

-- a text is the lines of these events, of which there are so many
pub record AreLinesOf (text : List ℕ) (count : ℕ) (items : List (ℕ × ℕ × Event)) : Type 0 where
  pub text_is : text ≡ event_lines items
  pub count_is : count ≡ length items
