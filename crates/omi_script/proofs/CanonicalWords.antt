-- What the words of a canonical line say.
use Rattle.std.proofs.Common.{◌≡◌, ℕ, suc, true, false, ◌&&◌, ◌||◌, List, [], ◌∷◌, length, Option, Some, None, refl, sym, ap, ◌∙◌, arith, IfSome}
use Rattle.std.specs.Prelude.{nat_le, nat_lt}
use Rattle.std.specs.Fmt.{decimal}
use Rattle.std.specs.List.{list_all}
use Rattle.std.specs.Option.{option_map, option_map_or}
use Rattle.std.proofs.lemmas.Bool.{le-leb}
use Rattle.std.proofs.lemmas.Bool.Decides.{nat_tests}
use Rattle.omi_script.specs.declared.line.SourceLine.TheVariants as line
use Rattle.omi_script.specs.declared.statement.Construct.TheVariants as construct
use Rattle.omi_script.specs.declared.statement.Stmt.TheVariants.{Parallel, Task, Critical, Call, Only, Repeat, Taskgroup, SetNumThreads, SetDynamic, SetMaxActive, SetSchedule, SetDevice, Tool}
use Rattle.omi_script.specs.Bodies.{name_at, named_by}
use Rattle.omi_script.specs.Canonical.{kind_text, statement_words}
use Rattle.omi_script.specs.Constructs.{over}
use Rattle.omi_script.specs.Line.{line_of}
use Rattle.omi_script.specs.Names.{begins_name, continues_name, is_digit, is_name_text}
use Rattle.omi_script.specs.Numbers.{number_of}
use Rattle.omi_script.specs.Ranges.{is_in_range}
use Rattle.omi_script.specs.declared.function.Func.{Func}
use Rattle.omi_script.specs.declared.limits.TheConstants.{MAX_CHUNK, MAX_DEVICE, MAX_LEVELS, MAX_LOCK, MAX_MEMBER, MAX_NAME, MAX_REPEATS, MAX_SIZE}
use Rattle.omi_script.specs.declared.line.SourceLine.{SourceLine}
use Rattle.omi_script.specs.declared.statement.Construct.{Construct}
use Rattle.omi_script.specs.declared.statement.Stmt.{Stmt}
use Rattle.omi_script.proofs.Conjunctions.{and_left, and_right, and_true}
use Rattle.omi_script.proofs.CanonicalLines.{is_ink, is_plain, all_weaker}
use Rattle.omi_script.proofs.CanonicalNumbers.{below_word, size_small, plain-decimal, number_of-decimal, number_up_to-decimal, kind_of-kind_text, plain-kind_text, kind_within, chunk_within, chunk_small}

-- the construct of a statement that names a function
abbrev pub construct_of : Stmt → Option Construct
construct_of (Parallel f num) = Some (construct.Parallel num)
construct_of (Task f undeferred is_final) = Some (construct.Task undeferred is_final)
construct_of (Critical k f) = Some (construct.Critical k)
construct_of (Taskgroup f) = Some construct.Taskgroup
construct_of (Call f) = Some construct.Call
construct_of (Only m f) = Some (construct.Only m)
construct_of (Repeat n f) = Some (construct.Repeat n)
construct_of _ = None

-- the line of a statement: its construct over the name of its function, or the statement alone
abbrev pub line_of_statement : List Func → Stmt → SourceLine
line_of_statement funcs s =
    option_map_or (λ f. line.Construct (name_at funcs f) (construct_of s)) (named_by s)
    (line.StandAlone (Some s))

-- a statement that names a function is its construct over that function
pub over_again : (s : Stmt) (f : ℕ) → named_by s ≡ Some f
    → (c : Construct) × (construct_of s ≡ Some c) × (over c f ≡ s)
over_again (Parallel g num) f e =
    let same : g ≡ f = cc e in (construct.Parallel num, refl, ap (λ h. Parallel h num) (sym same))
over_again (Task g undeferred is_final) f e =
    let same : g ≡ f = cc e in (construct.Task undeferred is_final, refl, ap (λ h. Task h undeferred is_final) (sym same))
over_again (Critical k g) f e =
    let same : g ≡ f = cc e in (construct.Critical k, refl, ap (Critical k) (sym same))
over_again (Taskgroup g) f e = let same : g ≡ f = cc e in (construct.Taskgroup, refl, ap Taskgroup (sym same))
over_again (Call g) f e = let same : g ≡ f = cc e in (construct.Call, refl, ap Call (sym same))
over_again (Only m g) f e = let same : g ≡ f = cc e in (construct.Only m, refl, ap (Only m) (sym same))
over_again (Repeat n g) f e = let same : g ≡ f = cc e in (construct.Repeat n, refl, ap (Repeat n) (sym same))
over_again s f e = absurd (cc e)

-- the words of a statement say its line
pub said : (funcs : List Func) (s : Stmt) → is_in_range s ≡ true
    → line_of (statement_words funcs s) ≡ Some (line_of_statement funcs s)
said funcs (Parallel f None) h = refl
said funcs (Parallel f (Some n)) h =
    ap (λ o. Some (line.Construct (name_at funcs f) (option_map (λ m. construct.Parallel (Some m)) o)))
    (number_of-decimal 1 MAX_SIZE n (size_small n h) h)
said funcs (Task f false false) h = refl
said funcs (Task f true false) h = refl
said funcs (Task f false true) h = refl
said funcs (Task f true true) h = refl
said funcs (Critical n f) h =
    ap (λ o. Some (line.Construct (name_at funcs f) (option_map construct.Critical o)))
    (number_up_to-decimal MAX_LOCK n (omega arith) h)
said funcs (Taskgroup f) h = refl
said funcs (Call f) h = refl
said funcs (Only n f) h =
    ap (λ o. Some (line.Construct (name_at funcs f) (option_map construct.Only o)))
    (number_up_to-decimal MAX_MEMBER n (omega arith) h)
said funcs (Repeat n f) h =
    ap (λ o. Some (line.Construct (name_at funcs f) (option_map construct.Repeat o)))
    (number_up_to-decimal MAX_REPEATS n (omega arith) h)
said funcs (SetNumThreads n) h =
    ap (λ o. Some (line.StandAlone (option_map SetNumThreads o)))
    (number_of-decimal 1 MAX_SIZE n (size_small n h) h)
said funcs (SetDynamic false) h = refl
said funcs (SetDynamic true) h = refl
said funcs (SetMaxActive n) h =
    ap (λ o. Some (line.StandAlone (option_map SetMaxActive o)))
    (number_up_to-decimal MAX_LEVELS n (omega arith) h)
said funcs (SetSchedule s) h =
    ap
    (λ o. option_map (λ kind. line.StandAlone (option_map (λ n. SetSchedule (record { kind = kind; chunk = n })) (number_of 0 MAX_CHUNK (decimal s.chunk)))) o)
    (kind_of-kind_text s.kind (kind_within s h))
    ∙ ap (λ o. Some (line.StandAlone (option_map (λ n. SetSchedule (record { kind = s.kind; chunk = n })) o)))
    (number_up_to-decimal MAX_CHUNK s.chunk (omega arith) (chunk_within s h))
said funcs (SetDevice n) h =
    ap (λ o. Some (line.StandAlone (option_map SetDevice o)))
    (number_up_to-decimal MAX_DEVICE n (omega arith) h)
said funcs (Tool x) h =
    ap (λ o. Some (line.StandAlone (option_map Tool o)))
    (number_up_to-decimal 18446744073709551615 x (omega arith) h)
said funcs s h = refl

-- one word more
pub one_word : (a : List ℕ) → is_plain a ≡ true → list_all is_plain (a ∷ []) ≡ true
one_word a h = and_true (is_plain a) true h refl

two_words : (a b : List ℕ) → is_plain a ≡ true → is_plain b ≡ true → list_all is_plain (a ∷ b ∷ []) ≡ true
two_words a b h k = and_true (is_plain a) (list_all is_plain (b ∷ [])) h (one_word b k)

-- the words of a statement are words, where the name of its function is one
pub plain_words : (funcs : List Func) (s : Stmt) → is_in_range s ≡ true
    → IfSome (named_by s) (λ f. is_plain (name_at funcs f) ≡ true)
    → list_all is_plain (statement_words funcs s) ≡ true
plain_words funcs (Parallel f None) h e = one_word (name_at funcs f) e
plain_words funcs (Parallel f (Some n)) h e =
    and_true (is_plain (name_at funcs f)) (list_all is_plain (decimal n ∷ [])) e
    (one_word (decimal n) (plain-decimal n (size_small n h)))
plain_words funcs (Task f false false) h e = one_word (name_at funcs f) e
plain_words funcs (Task f true false) h e = one_word (name_at funcs f) e
plain_words funcs (Task f false true) h e = one_word (name_at funcs f) e
plain_words funcs (Task f true true) h e = one_word (name_at funcs f) e
plain_words funcs (Critical n f) h e =
    two_words (decimal n) (name_at funcs f) (plain-decimal n (below_word MAX_LOCK n (omega arith) h)) e
plain_words funcs (Taskgroup f) h e = one_word (name_at funcs f) e
plain_words funcs (Call f) h e = one_word (name_at funcs f) e
plain_words funcs (Only n f) h e =
    two_words (decimal n) (name_at funcs f) (plain-decimal n (below_word MAX_MEMBER n (omega arith) h)) e
plain_words funcs (Repeat n f) h e =
    two_words (decimal n) (name_at funcs f) (plain-decimal n (below_word MAX_REPEATS n (omega arith) h)) e
plain_words funcs (SetNumThreads n) h e = one_word (decimal n) (plain-decimal n (size_small n h))
plain_words funcs (SetDynamic false) h e = refl
plain_words funcs (SetDynamic true) h e = refl
plain_words funcs (SetMaxActive n) h e =
    one_word (decimal n) (plain-decimal n (below_word MAX_LEVELS n (omega arith) h))
plain_words funcs (SetSchedule s) h e =
    two_words (kind_text s.kind) (decimal s.chunk) (plain-kind_text s.kind (kind_within s h))
    (plain-decimal s.chunk (chunk_small s h))
plain_words funcs (SetDevice n) h e =
    one_word (decimal n) (plain-decimal n (below_word MAX_DEVICE n (omega arith) h))
plain_words funcs (Tool x) h e =
    one_word (decimal x) (plain-decimal x (below_word 18446744073709551615 x (omega arith) h))
plain_words funcs s h e = refl

begins_continues : (b : ℕ) → begins_name b ≡ true → continues_name b ≡ true
begins_continues b h = ap (λ t. t || is_digit b) h

continues_ink : (b : ℕ) → continues_name b ≡ true → is_ink b ≡ true
continues_ink b h = grind (arith, nat_tests)

-- a name is a word
pub plain_name : (w : List ℕ) → is_name_text w ≡ true → is_plain w ≡ true
plain_name [] h = absurd (cc)
plain_name (b ∷ bs) h =
    let all : (begins_name b && list_all continues_name bs) ≡ true =
    and_left (begins_name b && list_all continues_name bs) (nat_lt (length bs) MAX_NAME) h in
    and_true (nat_le 1 (suc (length bs))) (list_all is_ink (b ∷ bs))
    (le-leb 1 (suc (length bs)) (omega arith))
    (all_weaker continues_name is_ink continues_ink (b ∷ bs)
    (and_true (continues_name b) (list_all continues_name bs) (begins_continues b (and_left (begins_name b) (list_all continues_name bs) all)) (and_right (begins_name b) (list_all continues_name bs) all)))
