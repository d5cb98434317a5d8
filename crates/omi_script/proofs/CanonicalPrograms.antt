-- The canonical text of a program is the program.
use Rattle.std.proofs.Common.{◌≡◌, ℕ, ◌≤◌, Bool, true, false, not, cond, List, [], ◌∷◌, ◌++◌, length, map, Some, None, refl, sym, ap, ◌∙◌, if◌then◌else◌}
use Rattle.std.specs.Prelude.{codes, flat_map, sum_by, position, slice_get, bytes_eq}
use Rattle.std.specs.List.{list_any}
use Rattle.std.proofs.lemmas.Bool.{le-leb, leb-true}
use Rattle.std.proofs.lemmas.List.{append-nil}
use Rattle.std.proofs.lemmas.List.Concat.{flat_map-append}
use Rattle.std.proofs.lemmas.List.Folds.{list_any_at}
use Rattle.std.proofs.lemmas.Option.{slice_get_within, get_or_from_slice_get}
use Rattle.omi_script.specs.declared.fault.Why.TheVariants.{OverLimit, NoMain}
use Rattle.omi_script.specs.Canonical.{canonical, function_text, head_words, line_text, statement_text, statement_words}
use Rattle.omi_script.specs.Grammar.{Grammar}
use Rattle.omi_script.specs.LineFaults.{has_end_fault, least}
use Rattle.omi_script.specs.Lines.{lines}
use Rattle.omi_script.specs.Names.{text_of}
use Rattle.omi_script.specs.ParserState.{first_state, is_called}
use Rattle.omi_script.specs.Verdict.{Accepts, Refuses, judge, verdict}
use Rattle.omi_script.specs.declared.function.Func.{Func}
use Rattle.omi_script.specs.declared.limits.TheConstants.{MAX_BYTES, MAX_FUNCTIONS, MAX_STATEMENTS}
use Rattle.omi_script.specs.declared.parser.ParserState.{ParserState}
use Rattle.omi_script.specs.declared.program.Program.{Program}
use Rattle.omi_script.specs.declared.statement.Stmt.{Stmt}
use Rattle.omi_script.proofs.RuleLemmas.{Tests, tests_of, main_at}
use Rattle.omi_script.proofs.CanonicalLines.{joined, ended, lines-ended}
use Rattle.omi_script.proofs.CanonicalSteps.{LinesLead, leads_through, judged_accepted, printed_from_leads}
use Rattle.omi_script.proofs.CanonicalNames.{position_of}
use Rattle.omi_script.proofs.CanonicalStatements.{statement_line, between}
use Rattle.omi_script.proofs.CanonicalFunctions.{function_lines, AreSound, functions_lead}
use Rattle.omi_script.proofs.CanonicalHeads.{head_of, head_lines_lead}

-- the lines of the canonical text
abbrev pub canonical_lines : Program → List (List ℕ)
canonical_lines p = map joined (head_words p.threads p.env) ++ flat_map (function_lines p.funcs) p.funcs

head-ended : (wss : List (List (List ℕ))) → flat_map line_text wss ≡ ended (map joined wss)
unfolding line_text
head-ended [] = refl
head-ended (ws ∷ wss) = ap (λ bs. (joined ws ++ 10 ∷ []) ++ bs) (head-ended wss)

body-ended : (funcs : List Func) (body : List Stmt)
    → flat_map (statement_text funcs) body ≡ ended (map (statement_line funcs) body)
unfolding line_text
body-ended funcs [] = refl
body-ended funcs (s ∷ body) =
    ap (λ bs. (32 ∷ 32 ∷ (joined (statement_words funcs s) ++ 10 ∷ [])) ++ bs) (body-ended funcs body)

function-ended : (funcs : List Func) (f : Func) → function_text funcs f ≡ ended (function_lines funcs f)
unfolding line_text
function-ended funcs f =
    ap (λ bs. (joined (codes "func" ∷ text_of f.name ∷ []) ++ 10 ∷ []) ++ bs)
    (ap (λ bs. bs ++ codes "end\n") (body-ended funcs f.body) ∙ sym (flat_map-append (λ (l : List ℕ). l ++ 10 ∷ []) (map (statement_line funcs) f.body) (codes "end" ∷ [])))

functions-ended : (funcs fs : List Func)
    → flat_map (function_text funcs) fs ≡ ended (flat_map (function_lines funcs) fs)
functions-ended funcs [] = refl
functions-ended funcs (f ∷ fs) =
    ap (λ bs. function_text funcs f ++ bs) (functions-ended funcs fs)
    ∙ ap (λ bs. bs ++ ended (flat_map (function_lines funcs) fs)) (function-ended funcs f)
    ∙ sym
    (flat_map-append (λ (l : List ℕ). l ++ 10 ∷ []) (function_lines funcs f) (flat_map (function_lines funcs) fs))

-- the canonical text is its lines, each with its line feed
canonical-ended : (p : Program) → canonical p ≡ ended (canonical_lines p)
canonical-ended p =
    ap (λ bs. bs ++ flat_map (function_text p.funcs) p.funcs) (head-ended (head_words p.threads p.env))
    ∙ ap (λ bs. ended (map joined (head_words p.threads p.env)) ++ bs) (functions-ended p.funcs p.funcs)
    ∙ sym
    (flat_map-append (λ (l : List ℕ). l ++ 10 ∷ []) (map joined (head_words p.threads p.env)) (flat_map (function_lines p.funcs) p.funcs))

-- a function of the list passes where one that is found does
any_of_get : (p : Func → Bool) (fs : List Func) (k : ℕ) (f : Func) → slice_get fs k ≡ Some f → p f ≡ true
    → list_any p fs ≡ true
any_of_get p fs k f e h =
    list_any_at p fs k f (slice_get_within fs k f e) (ap p (get_or_from_slice_get fs k f f e) ∙ h)

-- the canonical text of a program is the program, where it is no longer than a text may be
pub canonical_again : (p : Program) → length (canonical p) ≤ MAX_BYTES → Grammar (canonical p) p
canonical_again p short =
    let tests : Tests p = tests_of p in
    let sound : AreSound [] p.funcs = record {
      count = leb-true (length p.funcs) MAX_FUNCTIONS tests.few;
      statements = leb-true (sum_by (λ f. length f.body) p.funcs) MAX_STATEMENTS tests.short;
      named = tests.names;
      distinct = tests.distinct;
      allowed = tests.allowed;
    } in
    let last : ParserState = between (head_of p.threads p.env) p.funcs in
    let all : LinesLead first_state (canonical_lines p) last =
    leads_through first_state (between (head_of p.threads p.env) []) last
    (map joined (head_words p.threads p.env)) (flat_map (function_lines p.funcs) p.funcs)
    (head_lines_lead p.threads p.env tests.threads tests.env)
    (functions_lead (head_of p.threads p.env) [] p.funcs sound) in
    let f = main_at p.funcs p.main tests.main in
    let found : position (is_called (codes "main")) p.funcs ≡ Some p.main =
    sym (ap (λ w. position (is_called w) p.funcs) f.2) ∙ position_of p.funcs p.main f.0 tests.distinct f.1 in
    let called : is_called (codes "main") f.0 ≡ true = ap (λ w. bytes_eq w (codes "main")) f.2 in
    let has_main : not (list_any (is_called (codes "main")) (p.funcs ++ [])) ≡ false =
    ap (λ fs. not (list_any (is_called (codes "main")) fs)) (append-nil p.funcs)
    ∙ ap not (any_of_get (is_called (codes "main")) p.funcs p.main f.0 f.1 called) in
    let end : least (has_end_fault last) ≡ None = ap (λ b. cond b (Some NoMain) None) has_main in
    let cut : lines (canonical p) ≡ canonical_lines p =
    ap lines (canonical-ended p)
    ∙ lines-ended (canonical_lines p) (printed_from_leads first_state last (canonical_lines p) all) in
    let judged : judge 1 first_state (lines (canonical p)) ≡ Accepts last =
    ap (judge 1 first_state) cut ∙ judged_accepted 1 first_state last (canonical_lines p) all end in
    let says : verdict (canonical p) ≡ Accepts last =
    ap
    (λ b. if b then judge 1 first_state (lines (canonical p)) else Refuses (record { line = 1; why = OverLimit }))
    (le-leb (length (canonical p)) MAX_BYTES short)
    ∙ judged in
    record { state = last; says = says; program = record { threads = refl; env = refl; funcs = refl; main = sym found } }
