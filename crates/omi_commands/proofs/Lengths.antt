-- The steps of a run leave as many words as there were.
use Rattle.std.proofs.Common.{◌≡◌, ℕ, List, [], ◌∷◌, length, ap, ◌∙◌}
use Rattle.std.proofs.lemmas.List.{length-set}
use Rattle.omi_core.specs.declared.entry.Entry.{Entry}
use Rattle.omi_core.specs.Steps.{AreStepsOf, Steps, Watches, opening_watches}
use Rattle.omi_layout.specs.Place.{image_words}
use Rattle.omi_model.specs.Opening.{opening}
use Rattle.omi_model.specs.State.{State}
use Rattle.omi_model.specs.declared.event.Event.{Event}
use Rattle.omi_script.specs.declared.program.Program.{Program}
use Rattle.omi_word.specs.Memory.{words_after}

-- steps leave as many words as there were
steps_leave : (p : Program) (w words : List ℕ) (past : List (ℕ × Event)) (s : State) (watches : Watches) (xs : List (ℕ × Entry))
    (last : List ℕ) (t : State) (later : Watches) → Steps p w words past s watches xs last t later → length last ≡ length words
steps_leave p w words past s watches [] last t later (is, same, still) = ap length is
steps_leave p w words past s watches (x ∷ xs) last t later (next, watch, from, watched, rest) =
    steps_leave p w (words_after words x.1.op) _ next _ xs last t later rest ∙ length-set words _ _

-- a run's words are as many as its layout has
pub steps_long : (p : Program) (w : List ℕ) (xs : List (ℕ × Entry)) (words : List ℕ) (s : State)
    → AreStepsOf p w xs words s → length words ≡ image_words w
steps_long p w xs words s x =
    steps_leave p w x.first [] (opening p) opening_watches xs words s x.watches x.steps ∙ x.opens.count
