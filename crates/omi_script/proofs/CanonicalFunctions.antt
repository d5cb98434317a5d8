-- The lines of functions, each after those above it.
use Rattle.std.proofs.Common.{◌≡◌, ℕ, ◌≤◌, ◌+◌, true, not, List, [], ◌∷◌, ◌++◌, length, map, refl, sym, ap, ◌∙◌, subst, arith}
use Rattle.std.specs.Prelude.{codes, flat_map}
use Rattle.std.specs.List.{list_all}
use Rattle.std.proofs.lemmas.Bool.{lt-leb}
use Rattle.std.proofs.lemmas.List.{append-nil, append_assoc, length-append}
use Rattle.std.proofs.lemmas.List.Folds.{list_all-append}
use Rattle.std.proofs.lemmas.List.Sums.{sum_by-append, sum_by-cons}
use Rattle.omi_script.specs.Names.{are_distinct, is_name, is_name_text, text_of}
use Rattle.omi_script.specs.Reach.{Reach, are_allowed, is_allowed, reach_of, reaches}
use Rattle.omi_script.specs.declared.function.Func.{Func}
use Rattle.omi_script.specs.declared.head.Head.{Head}
use Rattle.omi_script.specs.declared.limits.TheConstants.{MAX_FUNCTIONS, MAX_STATEMENTS}
use Rattle.omi_script.specs.declared.name.Name.{Name}
use Rattle.omi_script.specs.declared.parser.ParserState.{ParserState}
use Rattle.omi_script.specs.declared.statement.Stmt.{Stmt}
use Rattle.omi_script.specs.declared.line.SourceLine.TheVariants as line
use Rattle.omi_script.proofs.Conjunctions.{and_left, and_right, and_true}
use Rattle.omi_script.proofs.StateLemmas.{reaches_more}
use Rattle.omi_script.proofs.CanonicalLines.{is_plain, joined, line_of_words}
use Rattle.omi_script.proofs.CanonicalWords.{plain_name}
use Rattle.omi_script.proofs.CanonicalSteps.{IsFaultless, LineLeads, LinesLead, line_leads, leads_on, leads_through}
use Rattle.omi_script.proofs.CanonicalNames.{names_of, new_name, distinct_first, name_text, name_of-text_of}
use Rattle.omi_script.proofs.CanonicalStatements.{statement_line, between, inside, statements_of, body_leads}

-- the lines of a function, without their line feeds
abbrev pub function_lines : List Func → Func → List (List ℕ)
function_lines funcs f =
    joined (codes "func" ∷ text_of f.name ∷ []) ∷ (map (statement_line funcs) f.body ++ joined (codes "end" ∷ []) ∷ [])

-- what the rules of a program say of its functions: of the first ones, which are closed, and of
-- those that are left
pub record AreSound (closed left : List Func) : Type 0 where
  pub count : length (closed ++ left) ≤ MAX_FUNCTIONS
  pub statements : statements_of (closed ++ left) ≤ MAX_STATEMENTS
  pub named : list_all (λ (f : Func). is_name f.name) (closed ++ left) ≡ true
  pub distinct : are_distinct (names_of (closed ++ left)) ≡ true
  pub allowed : are_allowed (reaches [] closed) (map (λ (f : Func). f.body) left) ≡ true

named_closed : (closed left : List Func) → AreSound closed left
    → list_all (λ (f : Func). is_name f.name) closed ≡ true
named_closed closed left s =
    and_left (list_all (λ (f : Func). is_name f.name) closed) (list_all (λ (f : Func). is_name f.name) left)
    (sym (list_all-append (λ (f : Func). is_name f.name) closed left) ∙ s.named)

named_left : (closed left : List Func) → AreSound closed left
    → list_all (λ (f : Func). is_name f.name) left ≡ true
named_left closed left s =
    and_right (list_all (λ (f : Func). is_name f.name) closed) (list_all (λ (f : Func). is_name f.name) left)
    (sym (list_all-append (λ (f : Func). is_name f.name) closed left) ∙ s.named)

-- the rules after one more function
sound_more : (closed : List Func) (f : Func) (left : List Func) → AreSound closed (f ∷ left)
    → AreSound (closed ++ f ∷ []) left
sound_more closed f left s =
    let same : closed ++ f ∷ left ≡ (closed ++ f ∷ []) ++ left = sym (append_assoc closed (f ∷ []) left) in
    let above : List Reach = reaches [] closed in
    record {
      count = subst (λ (fs : List Func). length fs ≤ MAX_FUNCTIONS) same s.count;
      statements = subst (λ (fs : List Func). statements_of fs ≤ MAX_STATEMENTS) same s.statements;
      named = ap (list_all (λ (g : Func). is_name g.name)) (sym same) ∙ s.named;
      distinct = ap (λ fs. are_distinct (names_of fs)) (sym same) ∙ s.distinct;
      allowed = ap (λ rs. are_allowed rs (map (λ (g : Func). g.body) left)) (reaches_more [] closed f) ∙ and_right (list_all (is_allowed above) f.body) (are_allowed (above ++ reach_of above f.body ∷ []) (map (λ (g : Func). g.body) left)) s.allowed;
    }

-- the line of a function leads inside of it
func_leads : (head : Head) (closed : List Func) (f : Func) (left : List Func) → AreSound closed (f ∷ left)
    → LineLeads (between head closed) (joined (codes "func" ∷ text_of f.name ∷ [])) (inside head closed f.name [])
func_leads head closed f left s =
    let state : ParserState = between head closed in
    let named : is_name f.name ≡ true =
    and_left (is_name f.name) (list_all (λ (g : Func). is_name g.name) left) (named_left closed (f ∷ left) s) in
    let text : is_name_text (text_of f.name) ≡ true = name_text f.name named in
    let words : List (List ℕ) = codes "func" ∷ text_of f.name ∷ [] in
    let plain : list_all is_plain words ≡ true =
    and_true (is_plain (text_of f.name)) true (plain_name (text_of f.name) text) refl in
    let more : length (closed ++ f ∷ left) ≡ length closed + length (f ∷ left) =
    length-append closed (f ∷ left) in
    let faultless : IsFaultless state (line.Function (text_of f.name)) = record {
      stands = refl;
      number = refl;
      name = ap not text;
      new = new_name closed f left s.distinct;
      no_task = refl;
      no_nest = refl;
      limit = lt-leb MAX_FUNCTIONS (length closed) (omega (arith, s.count));
    } in
    let step =
    line_leads state words (joined words) (line.Function (text_of f.name))
    (line_of_words words plain) refl faultless in
    (step.0, step.1, step.2 ∙ ap (λ (n : Name). inside head closed n []) (name_of-text_of f.name named))

-- the line `end` leads after a function
end_leads : (head : Head) (closed : List Func) (f : Func)
    → LineLeads (inside head closed f.name f.body) (joined (codes "end" ∷ [])) (between head (closed ++ f ∷ []))
end_leads head closed f =
    line_leads (inside head closed f.name f.body) (codes "end" ∷ []) (joined (codes "end" ∷ [])) line.End
    (line_of_words (codes "end" ∷ []) refl) refl
    (record { stands = refl; number = refl; name = refl; new = refl; no_task = refl; no_nest = refl; limit = refl })

-- the lines of a function lead after it
function_leads : (head : Head) (closed : List Func) (f : Func) (left : List Func) → AreSound closed (f ∷ left)
    → LinesLead (between head closed) (function_lines (closed ++ f ∷ left) f) (between head (closed ++ f ∷ []))
function_leads head closed f left s =
    let funcs : List Func = closed ++ f ∷ left in
    let above : List Reach = reaches [] closed in
    let allowed : list_all (is_allowed above) f.body ≡ true =
    and_left (list_all (is_allowed above) f.body)
    (are_allowed (above ++ reach_of above f.body ∷ []) (map (λ (g : Func). g.body) left)) s.allowed in
    let all : statements_of (closed ++ f ∷ left) ≡ statements_of closed + statements_of (f ∷ left) =
    sum_by-append (λ (g : Func). length g.body) closed (f ∷ left) in
    let first : statements_of (f ∷ left) ≡ length f.body + statements_of left =
    sum_by-cons (λ (g : Func). length g.body) f left in
    let none : length {A = Stmt} [] ≡ 0 = refl in
    let body =
    body_leads head closed (f ∷ left) f.name [] f.body (named_closed closed (f ∷ left) s)
    (distinct_first closed (f ∷ left) s.distinct) allowed (omega (arith, s.statements)) in
    let end : LinesLead (inside head closed f.name f.body) (joined (codes "end" ∷ []) ∷ []) (between head (closed ++ f ∷ [])) =
    end_leads head closed f in
    leads_on (between head closed) (inside head closed f.name []) (between head (closed ++ f ∷ []))
    (joined (codes "func" ∷ text_of f.name ∷ []))
    (map (statement_line funcs) f.body ++ joined (codes "end" ∷ []) ∷ [])
    (func_leads head closed f left s)
    (leads_through (inside head closed f.name []) (inside head closed f.name f.body) (between head (closed ++ f ∷ [])) (map (statement_line funcs) f.body) (joined (codes "end" ∷ []) ∷ []) body end)

-- the lines of functions lead after the last
pub functions_lead : (head : Head) (closed left : List Func) → AreSound closed left
    → LinesLead (between head closed) (flat_map (function_lines (closed ++ left)) left) (between head (closed ++ left))
functions_lead head closed [] s = ap (between head) (sym (append-nil closed))
functions_lead head closed (f ∷ left) s =
    let To : List Func → Type 0 =
    λ fs. LinesLead (between head (closed ++ f ∷ [])) (flat_map (function_lines fs) left) (between head fs) in
    let rest = functions_lead head (closed ++ f ∷ []) left (sound_more closed f left s) in
    leads_through (between head closed) (between head (closed ++ f ∷ [])) (between head (closed ++ f ∷ left))
    (function_lines (closed ++ f ∷ left) f) (flat_map (function_lines (closed ++ f ∷ left)) left)
    (function_leads head closed f left s) (subst To (append_assoc closed (f ∷ []) left) rest)
