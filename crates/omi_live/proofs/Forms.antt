-- The words are a command exactly where they have its form.
use Rattle.std.proofs.Common.{◌≡◌, ◌∙◌, ◌&&◌, ◌||◌, ℕ, Bool, true, false, cond, refl, ap, List, [], ◌∷◌, Option, Some, None, is_some}
use Rattle.std.specs.Prelude.{option_and_then, option_map}
use Rattle.omi_core.specs.declared.stop.Break.{Break}
use Rattle.omi_line.specs.Number.{number_between}
use Rattle.omi_line.specs.declared.line.Line.{Line}
use Rattle.omi_seat.specs.declared.limits.TheConstants.{MOST_BUDGET}
use Rattle.omi_usage.specs.Form.{fits_form, is_command, options_fit, value_fits}
use Rattle.omi_commands.specs.Options.{break_named, layout_of}
use Rattle.omi_commands.specs.Forms.{a_breakpoint, a_layout}
use Rattle.omi_commands.proofs.Forms.{breakpoint_fits, layout_fits}
use Rattle.omi_live.specs.Command.{live_break_of, live_command_by, live_command_of, live_command_with, live_plan_of, live_plan_with}
use Rattle.omi_live.specs.Forms.{live_form}

break_fits : (on : Option (List ℕ)) → value_fits (Some a_breakpoint) on ≡ is_some (live_break_of on)
break_fits None = refl
break_fits (Some name) = breakpoint_fits name ∙ go (break_named name)
  where
    go : (o : Option Break) → is_some o ≡ is_some (option_map Some o)
    go None = refl
    go (Some k) = refl

and_false : (a : Bool) → (a && false) ≡ false
and_false true = refl
and_false false = refl

-- the three parts of a plan, none of which is refused
planned : (l : Option ℕ) (n : Option ℕ) (b : Option (Option Break)) (script core : List ℕ)
    → ((is_some n && true) && (is_some b && (is_some l && true))) ≡ is_some (option_map (live_command_with script core) (option_and_then (λ layout. option_and_then (λ budget. option_map (live_plan_with layout budget) b) n) l))
planned None None b script core = refl
planned None (Some n) None script core = refl
planned None (Some n) (Some b) script core = refl
planned (Some l) None b script core = refl
planned (Some l) (Some n) None script core = refl
planned (Some l) (Some n) (Some b) script core = refl

three : (budget script core : List ℕ) (line : Line)
    → ((is_some (number_between budget 0 MOST_BUDGET) && true) && options_fit live_form line) ≡ is_some (live_command_of (budget ∷ script ∷ core ∷ []) line)
three budget script core line = go line.seed line.count
  where
    none : ((is_some (number_between budget 0 MOST_BUDGET) && true) && (value_fits (Some a_breakpoint) line.on && (value_fits (Some a_layout) line.layout && true))) ≡ is_some (option_map (live_command_with script core) (live_plan_of budget line))
    none =
        ap (λ (b : Bool). (is_some (number_between budget 0 MOST_BUDGET) && true) && (b && (value_fits (Some a_layout) line.layout && true))) (break_fits line.on)
        ∙ ap (λ (b : Bool). (is_some (number_between budget 0 MOST_BUDGET) && true) && (is_some (live_break_of line.on) && (b && true))) (layout_fits line.layout)
        ∙ planned (layout_of line.layout) (number_between budget 0 MOST_BUDGET) (live_break_of line.on) script core

    go : (seed count : Option (List ℕ))
        → ((is_some (number_between budget 0 MOST_BUDGET) && true) && (value_fits None seed && (value_fits (Some a_breakpoint) line.on && (value_fits None count && (value_fits (Some a_layout) line.layout && true))))) ≡ is_some (cond (is_some seed || is_some count) None (option_map (live_command_with script core) (live_plan_of budget line)))
    go (Some seed) count = and_false _
    go None (Some count) =
        ap (λ (b : Bool). (is_some (number_between budget 0 MOST_BUDGET) && true) && b) (and_false _) ∙ and_false _
    go None None = none

pub fits_live : (line : Line) → fits_form live_form line ≡ is_some (live_command_by line)
fits_live line = go line.words
  where
    few : (a : Bool) → ((a && false) && options_fit live_form line) ≡ false
    few true = refl
    few false = refl

    go : (words : List (List ℕ)) → fits_form live_form (record line { words = words }) ≡ is_some (live_command_of words line)
    go [] = refl
    go (budget ∷ []) = few _
    go (budget ∷ script ∷ []) = few _
    go (budget ∷ script ∷ core ∷ []) = three budget script core line
    go (budget ∷ script ∷ core ∷ more ∷ words) = few _

pub silent_live : (line : Option Line) → is_command live_form line ≡ is_some (option_and_then live_command_by line)
silent_live None = refl
silent_live (Some line) = fits_live line
