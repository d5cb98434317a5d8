-- The words are a command exactly where they have its form.
use Rattle.std.proofs.Common.{◌≡◌, ◌∙◌, ◌==◌, ◌&&◌, ◌||◌, ℕ, Bool, true, false, cond, not, refl, sym, ap, List, [], ◌∷◌, Option, Some, None, is_some, length, codes, map}
use Rattle.std.specs.Prelude.{nat_le, option_and_then, option_map}
use Rattle.std.specs.List.{slice_split}
use Rattle.std.specs.Str.{bytes_eq}
use Rattle.omi_line.specs.Number.{number_between}
use Rattle.omi_line.specs.declared.line.Line.{Line}
use Rattle.omi_numbers.specs.Names.{number_in}
use Rattle.omi_numbers.specs.States.{states}
use Rattle.omi_rewind.specs.declared.limits.TheConstants.{LAST_STEP}
use Rattle.omi_usage.specs.Form.{Want, File, Number, Numbers, OneOf, are_numbers, bare_form, fits, fits_form, fits_one, is_command_of, is_comma, is_one_of, no_form, options_fit, words_fit}
use Rattle.omi_commands.specs.Options.{has_option}
use Rattle.omi_commands.proofs.Forms.{no_options, unless_has}
use Rattle.omi_rewind_top.specs.Command.{FindState, GoTo, RewindCommand, at_of, command_by, numbers_in, steps_of, verb_of, when_of}
use Rattle.omi_rewind_top.specs.Forms.{at_form, rewind_forms, when_form}
use Rattle.omi_rewind_top.specs.declared.limits.TheConstants.{MOST_JUMPS, MOST_NUMBER}

and_false : (a : Bool) → (a && false) ≡ false
and_false true = refl
and_false false = refl

name_is : (rows : List (ℕ × List ℕ)) (word : List ℕ) → is_one_of word (map (λ row. row.1) rows) ≡ is_some (number_in rows word)
name_is [] word = refl
name_is (row ∷ rows) word = go (bytes_eq word row.1) (name_is rows word)
  where
    go : (b : Bool) → is_one_of word (map (λ row. row.1) rows) ≡ is_some (number_in rows word)
        → (b || is_one_of word (map (λ row. row.1) rows)) ≡ is_some (cond b (Some row.0) (number_in rows word))
    go true next = refl
    go false next = next

numbers_are : (parts : List (List ℕ)) → are_numbers LAST_STEP parts ≡ is_some (numbers_in parts)
numbers_are [] = refl
numbers_are (part ∷ parts) =
    ap (λ (b : Bool). is_some (number_between part 0 LAST_STEP) && b) (numbers_are parts)
    ∙ go (number_between part 0 LAST_STEP) (numbers_in parts)
  where
    go : (o : Option ℕ) (p : Option (List ℕ)) → (is_some o && is_some p) ≡ is_some (option_and_then (λ n. option_map (λ ns. n ∷ ns) p) o)
    go None p = refl
    go (Some n) None = refl
    go (Some n) (Some ns) = refl

steps_are : (text : List ℕ) → fits (Numbers MOST_JUMPS LAST_STEP) text ≡ is_some (steps_of text)
steps_are text =
    ap (λ (b : Bool). nat_le (length (slice_split is_comma text)) MOST_JUMPS && b) (numbers_are (slice_split is_comma text))
    ∙ go (nat_le (length (slice_split is_comma text)) MOST_JUMPS) (numbers_in (slice_split is_comma text))
  where
    go : (b : Bool) (p : Option (List ℕ)) → (b && is_some p) ≡ is_some (cond b p None)
    go true p = refl
    go false p = refl

at_words : (names : List (List ℕ)) → words_fit (Numbers MOST_JUMPS LAST_STEP ∷ File ∷ []) names ≡ is_some (at_of names)
at_words [] = refl
at_words (steps ∷ []) = and_false _
at_words (steps ∷ script ∷ []) = ap (λ (b : Bool). b && true) (steps_are steps) ∙ go (steps_of steps)
  where
    go : (o : Option (List ℕ)) → (is_some o && true) ≡ is_some (option_map (λ ns. GoTo ns script) o)
    go None = refl
    go (Some ns) = refl
at_words (steps ∷ script ∷ more ∷ names) = and_false _

when_words : (names : List (List ℕ)) → words_fit (Number 0 MOST_NUMBER ∷ OneOf (map (λ row. row.1) states) ∷ Number 0 LAST_STEP ∷ File ∷ []) names ≡ is_some (when_of names)
when_words [] = refl
when_words (i ∷ []) = and_false _
when_words (i ∷ state ∷ []) = ap (λ (b : Bool). is_some (number_between i 0 MOST_NUMBER) && b) (and_false _) ∙ and_false _
when_words (i ∷ state ∷ last ∷ []) =
    ap (λ (b : Bool). is_some (number_between i 0 MOST_NUMBER) && (is_one_of state (map (λ row. row.1) states) && b)) (and_false _)
    ∙ ap (λ (b : Bool). is_some (number_between i 0 MOST_NUMBER) && b) (and_false _) ∙ and_false _
when_words (i ∷ state ∷ last ∷ script ∷ []) =
    ap (λ (b : Bool). is_some (number_between i 0 MOST_NUMBER) && (b && (is_some (number_between last 0 LAST_STEP) && true))) (name_is states state)
    ∙ go (number_between i 0 MOST_NUMBER) (number_in states state) (number_between last 0 LAST_STEP)
  where
    go : (a b d : Option ℕ) → (is_some a && (is_some b && (is_some d && true))) ≡ is_some (option_and_then (λ i. option_and_then (λ s. option_map (λ n. FindState i s n script) d) b) a)
    go None b d = refl
    go (Some a) None d = refl
    go (Some a) (Some b) None = refl
    go (Some a) (Some b) (Some d) = refl
when_words (i ∷ state ∷ last ∷ script ∷ more ∷ names) =
    ap (λ (b : Bool). is_some (number_between i 0 MOST_NUMBER) && (is_one_of state (map (λ row. row.1) states) && b)) (and_false _)
    ∙ ap (λ (b : Bool). is_some (number_between i 0 MOST_NUMBER) && b) (and_false _) ∙ and_false _

fits_rewind : (line : Line) → fits_one rewind_forms line.words line ≡ is_some (command_by line)
fits_rewind line = go line.words
  where
    bare : (words : List Want) (w : Bool) {C : Type 0} (o : Option C) → w ≡ is_some o
        → (w && options_fit (bare_form words) line) ≡ is_some (cond (has_option line) None o)
    bare words w o is = ap (λ (b : Bool). w && b) (no_options words line) ∙ unless_has (has_option line) w o is

    pick : (verb : List ℕ) (names : List (List ℕ)) (a w : Bool) → bytes_eq verb (codes "at") ≡ a → bytes_eq verb (codes "when") ≡ w
        → fits_form (cond a at_form (cond w when_form no_form)) (record line { words = verb ∷ names }) ≡ is_some (cond (has_option line) None (cond a (at_of names) (cond w (when_of names) None)))
    pick verb names true w isa isw =
        ap (λ (b : Bool). (b && words_fit (Numbers MOST_JUMPS LAST_STEP ∷ File ∷ []) names) && options_fit at_form line) isa
        ∙ bare at_form.words _ (at_of names) (at_words names)
    pick verb names false true isa isw =
        ap (λ (b : Bool). (b && words_fit (Number 0 MOST_NUMBER ∷ OneOf (map (λ row. row.1) states) ∷ Number 0 LAST_STEP ∷ File ∷ []) names) && options_fit when_form line) isw
        ∙ bare when_form.words _ (when_of names) (when_words names)
    pick verb names false false isa isw = unless_has {C = RewindCommand} (has_option line) false None refl

    none : (has : Bool) → false ≡ is_some (cond has None (verb_of []))
    none true = refl
    none false = refl

    go : (words : List (List ℕ)) → fits_one rewind_forms words (record line { words = words }) ≡ is_some (cond (has_option line) None (verb_of words))
    go [] = none (has_option line)
    go (verb ∷ names) = pick verb names (bytes_eq verb (codes "at")) (bytes_eq verb (codes "when")) refl refl

pub silent_rewind : (line : Option Line) → is_command_of rewind_forms line ≡ is_some (option_and_then command_by line)
silent_rewind None = refl
silent_rewind (Some line) = fits_rewind line
