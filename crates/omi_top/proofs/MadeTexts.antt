-- The texts of `make`: what stands around the number, and that each is a program.
use Rattle.std.proofs.Common.{◌≡◌, ◌≤◌, ◌+◌, ◌++◌, ◌∷◌, [], ℕ, true, false, List, length, Some, refl, subst, sym, ap, ◌∙◌, arith, append_assoc, codes, if◌then◌else◌}
use Rattle.std.specs.Prelude.{flat_map, nat_le}
use Rattle.std.specs.Fmt.{decimal, digits}
use Rattle.std.proofs.lemmas.Bool.{le-leb}
use Rattle.std.proofs.lemmas.Fmt.{length-decimal-le}
use Rattle.std.proofs.lemmas.List.{length-append}
use Rattle.omi_script.specs.Grammar.{Refused}
use Rattle.omi_script.specs.Lines.{lines}
use Rattle.omi_script.specs.Names.{name_of}
use Rattle.omi_script.specs.ParserState.{first_state, no_head}
use Rattle.omi_script.specs.Verdict.{Accepts, Refuses, judge, verdict}
use Rattle.omi_script.specs.declared.fault.ScriptFault.{ScriptFault}
use Rattle.omi_script.specs.declared.fault.Why.TheVariants.{OverLimit}
use Rattle.omi_script.specs.declared.function.Func.{Func}
use Rattle.omi_script.specs.declared.head.Head.{Head}
use Rattle.omi_script.specs.declared.limits.TheConstants.{MAX_BYTES, MAX_REPEATS}
use Rattle.omi_script.specs.declared.parser.ParserState.{ParserState}
use Rattle.omi_script.specs.declared.statement.Stmt.{Stmt}
use Rattle.omi_script.specs.declared.statement.Stmt.TheVariants.{Parallel, Repeat, Task, Taskwait, Work}
use Rattle.omi_script.proofs.CanonicalFunctions.{AreSound, function_lines, functions_lead}
use Rattle.omi_script.proofs.CanonicalLines.{lines-ended}
use Rattle.omi_script.proofs.CanonicalStatements.{between}
use Rattle.omi_script.proofs.CanonicalSteps.{LinesLead, judged_accepted, leads_on, printed_from_leads}
use Rattle.omi_top.specs.Asked.{IsMadeText, IsNodes}
use Rattle.omi_top.specs.Make.{make_lines, make_text}

-- ---- around the number

-- with a line feed
abbrev ended : List (List ℕ) → List ℕ
ended lines = flat_map (λ line. line ++ 10 ∷ []) lines

abbrev pub front : List ℕ
front =
    ended
    (codes "threads 4"
    ∷ codes "func leaf"
    ∷ codes "  work"
    ∷ codes "end"
    ∷ codes "func node"
    ∷ codes "  task leaf"
    ∷ codes "  task leaf"
    ∷ codes "  taskwait"
    ∷ codes "end"
    ∷ codes "func team"
    ∷ [])
    ++ codes "  repeat "

abbrev pub back : List ℕ
back =
    codes " node" ++ 10 ∷ ended (codes "end" ∷ codes "func main" ∷ codes "  parallel team num 4" ∷ codes "end" ∷ [])

pub around : (n : ℕ) → make_text n ≡ front ++ (decimal n ++ back)
around n =
    ap (λ xs. front ++ xs)
    (ap (λ xs. xs ++ ended (codes "end" ∷ codes "func main" ∷ codes "  parallel team num 4" ∷ codes "end" ∷ [])) (append_assoc (decimal n) (codes " node") (10 ∷ [])) ∙ append_assoc (decimal n) (codes " node" ++ 10 ∷ []) (ended (codes "end" ∷ codes "func main" ∷ codes "  parallel team num 4" ∷ codes "end" ∷ [])))

-- ---- programs

-- the functions of the text
abbrev made_func : List ℕ → List Stmt → Func
made_func name body = record { name = name_of name; body = body }

abbrev functions : ℕ → List Func
functions n =
    made_func (codes "leaf") (Work ∷ [])
    ∷ made_func (codes "node") (Task 0 false false ∷ Task 0 false false ∷ Taskwait ∷ [])
    ∷ made_func (codes "team") (Repeat n 1 ∷ [])
    ∷ made_func (codes "main") (Parallel 2 (Some 4) ∷ [])
    ∷ []

abbrev made_head : Head
made_head = record no_head { threads = Some 4 }

-- the text is a line on threads, and the lines of these functions
lines_are : (n : ℕ) → make_lines n ≡ codes "threads 4" ∷ flat_map (function_lines (functions n)) (functions n)
unfolding digits
lines_are n = refl

sound : (n : ℕ) → IsNodes n → AreSound [] (functions n)
sound n range =
    let within : nat_le n MAX_REPEATS ≡ true = le-leb n MAX_REPEATS (omega (arith, range.most)) in
    record {
      count = omega arith;
      statements = omega arith;
      named = refl;
      distinct = refl;
      allowed = rw within refl;
    }

abbrev last : ℕ → ParserState
last n = between made_head (functions n)

leads : (n : ℕ) → IsNodes n → LinesLead first_state (make_lines n) (last n)
leads n range =
    subst (λ (ls : List (List ℕ)). LinesLead first_state ls (last n)) (sym (lines_are n))
    (leads_on first_state (between made_head []) (last n) (codes "threads 4")
    (flat_map (function_lines (functions n)) (functions n)) (refl, refl, refl)
    (functions_lead made_head [] (functions n) (sound n range)))

-- it isn't too long
short : (n : ℕ) → IsNodes n → length (make_text n) ≤ MAX_BYTES
short n range =
    let few : length (decimal n) ≤ 4 = length-decimal-le 4 n (omega arith) (omega (arith, range.most)) (omega (arith, range.most)) in
    let parts : length (make_text n) ≡ length front + (length (decimal n) + length back) =
    ap length (around n) ∙ length-append front (decimal n ++ back)
    ∙ ap (λ k. length front + k) (length-append (decimal n) back) in
    omega (arith, few, parts)

accepted : (n : ℕ) → IsNodes n → verdict (make_text n) ≡ Accepts (last n)
accepted n range =
    let cut : lines (make_text n) ≡ make_lines n =
    lines-ended (make_lines n) (printed_from_leads first_state (last n) (make_lines n) (leads n range)) in
    ap (λ b. if b then judge 1 first_state (lines (make_text n)) else Refuses (record { line = 1; why = OverLimit }))
    (le-leb (length (make_text n)) MAX_BYTES (short n range))
    ∙ ap (judge 1 first_state) cut
    ∙ judged_accepted 1 first_state (last n) (make_lines n) (leads n range) refl

pub never_refused : (text : List ℕ) → IsMadeText text → (fault : ScriptFault) → Refused text fault → ⊥
never_refused text (n, range, is) fault refused =
    let both : Accepts (last n) ≡ Refuses fault = sym (accepted n range) ∙ ap verdict (sym is) ∙ refused.says in
    cc
