-- The words are a command exactly where they have the form of one.
use Rattle.std.proofs.Common.{◌≡◌, ◌∙◌, ◌&&◌, ◌||◌, ℕ, Bool, true, false, cond, not, refl, sym, ap, List, [], ◌∷◌, Option, Some, None, is_some, codes}
use Rattle.std.specs.Prelude.{option_and_then, option_map}
use Rattle.std.specs.Option.{option_map_or}
use Rattle.std.specs.Str.{bytes_eq}
use Rattle.omi_core.specs.declared.stop.Break.{Break}
use Rattle.omi_line.specs.Number.{number_between}
use Rattle.omi_line.specs.declared.line.Line.{Line}
use Rattle.omi_usage.specs.Form.{CommandForm, File, Number, Want, bare_form, fits_form, fits_one, is_command_of, no_form, options_fit, stand_together, value_fits, words_fit}
use Rattle.omi_commands.specs.Options.{break_named, layout_of}
use Rattle.omi_commands.specs.Forms.{a_breakpoint, a_layout}
use Rattle.omi_commands.proofs.Forms.{breakpoint_fits, layout_fits, no_options}
use Rattle.omi_top.specs.Command.{Audit, Command, Elf, Faulty, Follow, Make, Recode, Run, Show, Stop, and_shown, audit_by, command_by, elf_by, follow_by, has_option, make_by, recode_by, run_by, show_by, stop_by, verb_by}
use Rattle.omi_top.specs.Plan.{break_of, plan_of, plan_with, seed_of}
use Rattle.omi_top.specs.Forms.{audit_form, elf_form, follow_form, is_asked, make_form, recode_form, run_form, run_forms, show_form, stop_form, with_options}
use Rattle.omi_top.specs.declared.limits.TheConstants.{MOST_COUNT, MOST_NODES, MOST_SEED, MOST_STEPS}
use Rattle.omi_top.specs.declared.plan.Plan.{Plan}

and_false : (a : Bool) → (a && false) ≡ false
and_false true = refl
and_false false = refl

and_true : (a : Bool) → (a && true) ≡ a
and_true true = refl
and_true false = refl

-- ---- the options of a run

seed_fits : (seed : Option (List ℕ)) → value_fits (Some (Number 0 MOST_SEED)) seed ≡ is_some (seed_of seed)
seed_fits None = refl
seed_fits (Some text) = go (number_between text 0 MOST_SEED)
  where
    go : (o : Option ℕ) → is_some o ≡ is_some (option_map Some o)
    go None = refl
    go (Some n) = refl

-- a kind of event, and which of them
abbrev pair : Break → ℕ → Break × ℕ
pair kind count = (kind, count)

break_fits : (on count : Option (List ℕ))
    → (value_fits (Some a_breakpoint) on && (value_fits (Some (Number 1 MOST_COUNT)) count && stand_together (Some a_breakpoint) (Some (Number 1 MOST_COUNT)) (is_some on) (is_some count))) ≡ is_some (break_of on count)
break_fits None None = refl
break_fits None (Some count) = and_false _
break_fits (Some name) None = and_false _
break_fits (Some name) (Some count) =
    ap (λ (b : Bool). b && (is_some (number_between count 1 MOST_COUNT) && true)) (breakpoint_fits name)
    ∙ go (break_named name) (number_between count 1 MOST_COUNT)
  where
    go : (k : Option Break) (n : Option ℕ) → (is_some k && (is_some n && true)) ≡ is_some (option_and_then (λ kind. option_map (λ count. Some (pair kind count)) n) k)
    go None n = refl
    go (Some k) None = refl
    go (Some k) (Some n) = refl

sorted : (s o c l t : Bool) → (s && (o && (c && (l && t)))) ≡ (s && (l && (o && (c && t))))
sorted false o c l t = refl
sorted true false c false t = refl
sorted true false c true t = refl
sorted true true false false t = refl
sorted true true false true t = refl
sorted true true true false t = refl
sorted true true true true t = refl

options_run : (words : List Want) (line : Line) → options_fit (with_options words) line ≡ (is_some (seed_of line.seed) && (is_some (layout_of line.layout) && is_some (break_of line.on line.count)))
options_run words line =
    sorted (value_fits (Some (Number 0 MOST_SEED)) line.seed) (value_fits (Some a_breakpoint) line.on) (value_fits (Some (Number 1 MOST_COUNT)) line.count) (value_fits (Some a_layout) line.layout) _
    ∙ ap (λ (b : Bool). b && (value_fits (Some a_layout) line.layout && (value_fits (Some a_breakpoint) line.on && (value_fits (Some (Number 1 MOST_COUNT)) line.count && stand_together (Some a_breakpoint) (Some (Number 1 MOST_COUNT)) (is_some line.on) (is_some line.count))))) (seed_fits line.seed)
    ∙ ap (λ (b : Bool). is_some (seed_of line.seed) && (b && (value_fits (Some a_breakpoint) line.on && (value_fits (Some (Number 1 MOST_COUNT)) line.count && stand_together (Some a_breakpoint) (Some (Number 1 MOST_COUNT)) (is_some line.on) (is_some line.count))))) (layout_fits line.layout)
    ∙ ap (λ (b : Bool). is_some (seed_of line.seed) && (is_some (layout_of line.layout) && b)) (break_fits line.on line.count)

run_plan : (steps : List ℕ) (line : Line) (words : List Want)
    → (is_some (number_between steps 0 MOST_STEPS) && options_fit (with_options words) line) ≡ is_some (plan_of steps line)
run_plan steps line words =
    ap (λ (b : Bool). is_some (number_between steps 0 MOST_STEPS) && b) (options_run words line)
    ∙ go (layout_of line.layout) (seed_of line.seed) (number_between steps 0 MOST_STEPS) (break_of line.on line.count)
  where
    go : (l : Option ℕ) (s : Option (Option ℕ)) (n : Option ℕ) (b : Option (Option (Break × ℕ)))
        → (is_some n && (is_some s && (is_some l && is_some b))) ≡ is_some (option_and_then (λ layout. option_and_then (λ seed. option_and_then (λ n. option_map (plan_with layout seed n) b) n) s) l)
    go None None None b = refl
    go None None (Some n) b = refl
    go None (Some s) None b = refl
    go None (Some s) (Some n) b = refl
    go (Some l) None None b = refl
    go (Some l) None (Some n) b = refl
    go (Some l) (Some s) None b = refl
    go (Some l) (Some s) (Some n) None = refl
    go (Some l) (Some s) (Some n) (Some b) = refl

-- the words behind the verb of a run
run_words : (words : List Want) (names : List (List ℕ)) (line : Line)
    → (words_fit (Number 0 MOST_STEPS ∷ File ∷ File ∷ []) names && options_fit (with_options words) line) ≡ is_asked (stop_by names line)
run_words words [] line = refl
run_words words (steps ∷ []) line = ap (λ (b : Bool). b && options_fit (with_options words) line) (and_false _)
run_words words (steps ∷ script ∷ []) line = ap (λ (b : Bool). b && options_fit (with_options words) line) (and_false _)
run_words words (steps ∷ script ∷ core ∷ []) line =
    ap (λ (b : Bool). b && options_fit (with_options words) line) (and_true _)
    ∙ run_plan steps line words ∙ go (plan_of steps line)
  where
    go : (o : Option Plan) → is_some o ≡ is_asked (option_map_or (λ plan. Stop plan script core) o Faulty)
    go None = refl
    go (Some plan) = refl
run_words words (steps ∷ script ∷ core ∷ more ∷ names) line = ap (λ (b : Bool). b && options_fit (with_options words) line) (and_false _)

shown : (command : Command) → is_asked command ≡ is_asked (and_shown command)
shown (Stop plan script core) = refl
shown (Make n script) = refl
shown (Show core) = refl
shown (Run plan script core) = refl
shown (Recode order core copy) = refl
shown (Elf core copy) = refl
shown (Audit core) = refl
shown (Follow core later) = refl
shown Faulty = refl

-- ---- commands without options

-- what is asked for where the line has no option
unless_option : (has words : Bool) (command : Command) → words ≡ is_asked command
    → (words && not has) ≡ is_asked (cond has Faulty command)
unless_option true words command is = and_false words
unless_option false words command is = and_true words ∙ is

bare : (words : List Want) (line : Line) (fit : Bool) (command : Command) → fit ≡ is_asked command
    → (fit && options_fit (bare_form words) line) ≡ is_asked (cond (has_option line) Faulty command)
bare words line fit command is =
    ap (λ (b : Bool). fit && b) (no_options words line) ∙ unless_option (has_option line) fit command is

asked_of : (o : Option ℕ) (command : ℕ → Command) → ((n : ℕ) → is_asked (command n) ≡ true)
    → is_some o ≡ is_asked (option_map_or command o Faulty)
asked_of None command is = refl
asked_of (Some n) command is = sym (is n)

never : (fit : Bool) → fit ≡ false → (options : Bool) → (fit && options) ≡ false
never fit is options = ap (λ (b : Bool). b && options) is

one_name : (words : List Want) (command : List ℕ → Command) (by : List (List ℕ) → Command) (line : Line)
    → by [] ≡ Faulty → ((core : List ℕ) → by (core ∷ []) ≡ cond (has_option line) Faulty (command core))
    → ((core more : List ℕ) (names : List (List ℕ)) → by (core ∷ more ∷ names) ≡ Faulty) → ((core : List ℕ) → is_asked (command core) ≡ true)
    → (names : List (List ℕ)) → (words_fit (File ∷ []) names && options_fit (bare_form words) line) ≡ is_asked (by names)
one_name words command by line none one more asks [] = ap is_asked (sym none)
one_name words command by line none one more asks (core ∷ []) =
    bare words line true (command core) (sym (asks core)) ∙ ap is_asked (sym (one core))
one_name words command by line none one more asks (core ∷ next ∷ names) = ap is_asked (sym (more core next names))

two_names : (words : List Want) (command : List ℕ → List ℕ → Command) (by : List (List ℕ) → Command) (line : Line)
    → by [] ≡ Faulty → ((core : List ℕ) → by (core ∷ []) ≡ Faulty)
    → ((core copy : List ℕ) → by (core ∷ copy ∷ []) ≡ cond (has_option line) Faulty (command core copy))
    → ((core copy more : List ℕ) (names : List (List ℕ)) → by (core ∷ copy ∷ more ∷ names) ≡ Faulty)
    → ((core copy : List ℕ) → is_asked (command core copy) ≡ true)
    → (names : List (List ℕ)) → (words_fit (File ∷ File ∷ []) names && options_fit (bare_form words) line) ≡ is_asked (by names)
two_names words command by line none one two more asks [] = ap is_asked (sym none)
two_names words command by line none one two more asks (core ∷ []) = ap is_asked (sym (one core))
two_names words command by line none one two more asks (core ∷ copy ∷ []) =
    bare words line true (command core copy) (sym (asks core copy)) ∙ ap is_asked (sym (two core copy))
two_names words command by line none one two more asks (core ∷ copy ∷ next ∷ names) = ap is_asked (sym (more core copy next names))

make_words : (names : List (List ℕ)) (line : Line)
    → (words_fit (Number 1 MOST_NODES ∷ File ∷ []) names && options_fit make_form line) ≡ is_asked (make_by names line)
make_words [] line = refl
make_words (n ∷ []) line = never _ (and_false _) _
make_words (n ∷ script ∷ []) line =
    bare make_form.words line _ _ (and_true _ ∙ asked_of (number_between n 1 MOST_NODES) (λ nodes. Make nodes script) (λ n. refl))
make_words (n ∷ script ∷ more ∷ names) line = never _ (and_false _) _

recode_words : (names : List (List ℕ)) (line : Line)
    → (words_fit (Number 0 1 ∷ File ∷ File ∷ []) names && options_fit recode_form line) ≡ is_asked (recode_by names line)
recode_words [] line = refl
recode_words (o ∷ []) line = never _ (and_false _) _
recode_words (o ∷ core ∷ []) line = never _ (and_false _) _
recode_words (o ∷ core ∷ copy ∷ []) line =
    bare recode_form.words line _ _ (and_true _ ∙ asked_of (number_between o 0 1) (λ order. Recode order core copy) (λ n. refl))
recode_words (o ∷ core ∷ copy ∷ more ∷ names) line = never _ (and_false _) _

-- ---- by the verb

-- the first word is the verb, so that the rest decides
verb_is : (b rest options : Bool) → b ≡ true → ((b && rest) && options) ≡ (rest && options)
verb_is b rest options is = ap (λ (x : Bool). (x && rest) && options) is

fits_run : (words : List (List ℕ)) (line : Line) → fits_one run_forms words (record line { words = words }) ≡ is_asked (verb_by words line)
fits_run [] line = refl
fits_run (verb ∷ names) line =
    go (bytes_eq verb (codes "stop")) (bytes_eq verb (codes "make")) (bytes_eq verb (codes "show")) (bytes_eq verb (codes "run"))
    (bytes_eq verb (codes "recode")) (bytes_eq verb (codes "elf")) (bytes_eq verb (codes "audit")) (bytes_eq verb (codes "follow"))
    refl refl refl refl refl refl refl refl
  where
    go : (a b d e f g h i : Bool) → bytes_eq verb (codes "stop") ≡ a → bytes_eq verb (codes "make") ≡ b
        → bytes_eq verb (codes "show") ≡ d → bytes_eq verb (codes "run") ≡ e → bytes_eq verb (codes "recode") ≡ f
        → bytes_eq verb (codes "elf") ≡ g → bytes_eq verb (codes "audit") ≡ h → bytes_eq verb (codes "follow") ≡ i
        → fits_form (cond a stop_form (cond b make_form (cond d show_form (cond e run_form (cond f recode_form (cond g elf_form (cond h audit_form (cond i follow_form no_form)))))))) (record line { words = verb ∷ names }) ≡ is_asked (cond a (stop_by names line) (cond b (make_by names line) (cond d (show_by names line) (cond e (run_by names line) (cond f (recode_by names line) (cond g (elf_by names line) (cond h (audit_by names line) (cond i (follow_by names line) Faulty))))))))
    go true b d e f g h i p1 p2 p3 p4 p5 p6 p7 p8 = verb_is _ _ _ p1 ∙ run_words stop_form.words names line
    go false true d e f g h i p1 p2 p3 p4 p5 p6 p7 p8 = verb_is _ _ _ p2 ∙ make_words names line
    go false false true e f g h i p1 p2 p3 p4 p5 p6 p7 p8 =
        verb_is _ _ _ p3 ∙ one_name show_form.words Show (λ n. show_by n line) line refl (λ core. refl) (λ core more n. refl) (λ core. refl) names
    go false false false true f g h i p1 p2 p3 p4 p5 p6 p7 p8 =
        verb_is _ _ _ p4 ∙ run_words run_form.words names line ∙ shown (stop_by names line)
    go false false false false true g h i p1 p2 p3 p4 p5 p6 p7 p8 = verb_is _ _ _ p5 ∙ recode_words names line
    go false false false false false true h i p1 p2 p3 p4 p5 p6 p7 p8 =
        verb_is _ _ _ p6 ∙ two_names elf_form.words Elf (λ n. elf_by n line) line refl (λ core. refl) (λ core copy. refl) (λ core copy more n. refl) (λ core copy. refl) names
    go false false false false false false true i p1 p2 p3 p4 p5 p6 p7 p8 =
        verb_is _ _ _ p7 ∙ one_name audit_form.words Audit (λ n. audit_by n line) line refl (λ core. refl) (λ core more n. refl) (λ core. refl) names
    go false false false false false false false true p1 p2 p3 p4 p5 p6 p7 p8 =
        verb_is _ _ _ p8 ∙ two_names follow_form.words Follow (λ n. follow_by n line) line refl (λ core. refl) (λ core copy. refl) (λ core copy more n. refl) (λ core copy. refl) names
    go false false false false false false false false p1 p2 p3 p4 p5 p6 p7 p8 = refl

pub silent_run : (line : Option Line) → is_command_of run_forms line ≡ is_asked (command_by line)
silent_run None = refl
silent_run (Some line) = fits_run line.words line
