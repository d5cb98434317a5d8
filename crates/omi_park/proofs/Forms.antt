-- The words are a command exactly where they have its form.
use Rattle.std.proofs.Common.{◌≡◌, ◌∙◌, ◌&&◌, ℕ, Bool, true, false, refl, ap, List, [], ◌∷◌, Option, Some, None, is_some}
use Rattle.std.specs.Prelude.{option_and_then, option_map}
use Rattle.omi_line.specs.Number.{number_between}
use Rattle.omi_line.specs.declared.line.Line.{Line}
use Rattle.omi_seat.specs.declared.limits.TheConstants.{MOST_BUDGET}
use Rattle.omi_usage.specs.Form.{fits_form, is_command, words_fit}
use Rattle.omi_commands.specs.Options.{has_option}
use Rattle.omi_commands.proofs.Forms.{no_options, unless_has}
use Rattle.omi_park.specs.Command.{park_command_by, park_command_of, park_command_with, park_plan_with}
use Rattle.omi_park.specs.Forms.{park_form}
use Rattle.omi_park.specs.declared.limits.TheConstants.{MOST_STOPS}

and_false : (a : Bool) → (a && false) ≡ false
and_false true = refl
and_false false = refl

words_park : (words : List (List ℕ)) → words_fit park_form.words words ≡ is_some (park_command_of words)
words_park [] = refl
words_park (budget ∷ []) = and_false _
words_park (budget ∷ stops ∷ []) = ap (λ (b : Bool). is_some (number_between budget 0 MOST_BUDGET) && b) (and_false _) ∙ and_false _
words_park (budget ∷ stops ∷ script ∷ []) = go (number_between budget 0 MOST_BUDGET) (number_between stops 0 MOST_STOPS)
  where
    go : (b s : Option ℕ) → (is_some b && (is_some s && true)) ≡ is_some (option_map (park_command_with script) (option_and_then (λ n. option_map (park_plan_with n) s) b))
    go None s = refl
    go (Some b) None = refl
    go (Some b) (Some s) = refl
words_park (budget ∷ stops ∷ script ∷ more ∷ words) = ap (λ (b : Bool). is_some (number_between budget 0 MOST_BUDGET) && b) (and_false _) ∙ and_false _

fits_park : (line : Line) → fits_form park_form line ≡ is_some (park_command_by line)
fits_park line =
    ap (λ (b : Bool). words_fit park_form.words line.words && b) (no_options park_form.words line)
    ∙ unless_has (has_option line) (words_fit park_form.words line.words) (park_command_of line.words) (words_park line.words)

pub silent_park : (line : Option Line) → is_command park_form line ≡ is_some (option_and_then park_command_by line)
silent_park None = refl
silent_park (Some line) = fits_park line
