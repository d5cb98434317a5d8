-- A line without a fault leads from a state that keeps the rules to one that does.
use Rattle.std.proofs.Common.{◌≡◌, ℕ, ◌<◌, ◌≤◌, ◌+◌, ◌-◌, zero, suc, Bool, true, false, not, ◌&&◌, ◌||◌, ◌==◌, List, [], ◌∷◌, ◌++◌, length, replicate, drop, Option, Some, None, refl, sym, ap, ◌∙◌, arith, subst}
use Rattle.std.specs.Prelude.{nat_le, nat_lt, is_some, sum_by, position}
use Rattle.std.specs.List.{list_all, list_any}
use Rattle.std.specs.Option.{option_map_or, option_map, option_and_then, option_to_list}
use Rattle.std.proofs.lemmas.Bool.{leb-false, leb-true, ltb-true, le-leb, eq-eqb}
use Rattle.std.proofs.lemmas.List.{length-append, length-replicate}
use Rattle.std.proofs.Math.Seq.{take-append_seam, drop-append_seam}
use Rattle.omi_script.specs.Bodies.{named_by}
use Rattle.omi_script.specs.Constructs.{over}
use Rattle.omi_script.specs.LineFaults.{has_bad_number, has_unknown_name, is_over_limit, is_repeated, is_task_with_barrier, is_too_deep, nests_barrier, says_such}
use Rattle.omi_script.specs.Names.{begins_name, continues_name, is_name, is_name_text, name_of, text_of}
use Rattle.omi_script.specs.ParserState.{after_line, after_statement, is_called, may_stand, statement_of_line, statements_above, with_statement}
use Rattle.omi_script.specs.Ranges.{is_in_range}
use Rattle.omi_script.specs.Reach.{Reach, is_allowed, names_rightly, reaches}
use Rattle.omi_script.specs.declared.function.Func.{Func}
use Rattle.omi_script.specs.declared.limits.TheConstants.{MAX_FUNCTIONS, MAX_NAME, MAX_STATEMENTS}
use Rattle.omi_script.specs.declared.line.SourceLine.{SourceLine}
use Rattle.omi_script.specs.declared.parser.ParserState.{ParserState}
use Rattle.omi_script.specs.declared.statement.Construct.{Construct}
use Rattle.omi_script.specs.declared.statement.Stmt.{Stmt}
use Rattle.omi_script.proofs.Conjunctions.{and_left, and_right, and_true}
use Rattle.omi_script.specs.declared.line.SourceLine.TheVariants as line
use Rattle.omi_script.proofs.RangeLemmas.{passes}
use Rattle.omi_script.proofs.LineRanges.{is_line_in_range, is_construct_in_range, is_alone_in_range, range_over, named_over}
use Rattle.omi_script.proofs.StateLemmas.{length-reaches}
use Rattle.omi_script.proofs.NamingLemmas.{IsBelow, position_within, rightly_named}
use Rattle.omi_script.proofs.SoundStates.{IsSoundState, IsSoundOpen, head_sound, statement_sound, end_sound}

zeros : (n : ℕ) → list_all (λ b. b == 0) (replicate n 0) ≡ true
zeros zero = refl
zeros (suc n) = zeros n

-- a name of its bytes
text_name_of : (w : List ℕ) → text_of (name_of w) ≡ w
text_name_of w = take-append_seam w (replicate (MAX_NAME - length w) 0)

pub short : (w : List ℕ) → is_name_text w ≡ true → nat_le (length w) MAX_NAME ≡ true
short [] h = refl
short (b ∷ bs) h =
    let l : length bs < MAX_NAME = ltb-true (length bs) MAX_NAME (and_right (begins_name b && list_all continues_name bs) (nat_lt (length bs) MAX_NAME) h) in le-leb (suc (length bs)) MAX_NAME (omega arith)

is_name_of : (w : List ℕ) → is_name_text w ≡ true → is_name (name_of w) ≡ true
is_name_of w h =
    let bytes : List ℕ = w ++ replicate (MAX_NAME - length w) 0 in
    let few : length w ≤ MAX_NAME = leb-true (length w) MAX_NAME (short w h) in
    let width : length bytes ≡ MAX_NAME =
    omega
    (arith, length-append w (replicate (MAX_NAME - length w) 0), length-replicate {A = ℕ} (MAX_NAME - length w) 0) in
    and_true
    (is_name_text (text_of (name_of w)) && nat_le (length w) MAX_NAME && list_all (λ b. b == 0) (drop (length w) bytes))
    (length bytes == MAX_NAME)
    (and_true (is_name_text (text_of (name_of w)) && nat_le (length w) MAX_NAME) (list_all (λ b. b == 0) (drop (length w) bytes))
    (and_true (is_name_text (text_of (name_of w))) (nat_le (length w) MAX_NAME) (ap is_name_text (text_name_of w) ∙ h) (short w h))
    (ap (list_all (λ b. b == 0)) (drop-append_seam w (replicate (MAX_NAME - length w) 0)) ∙ zeros (MAX_NAME - length w)))
    (eq-eqb (length bytes) MAX_NAME width)

pub some_of : {A : Type 0} (o : Option A) → is_some o ≡ true → (x : A) × (o ≡ Some x)
some_of None h = absurd (cc)
some_of (Some x) h = (x, refl)

pub none_of : {A : Type 0} (o : Option A) → not (is_some o) ≡ true → o ≡ None
none_of None h = refl
none_of (Some x) h = absurd (cc)

pub yes : (b : Bool) → not b ≡ false → b ≡ true
yes true h = refl
yes false h = absurd (cc)

-- neither part passes
pub left_false : (a b : Bool) → (a || b) ≡ false → a ≡ false
left_false true b e = absurd (cc)
left_false false b e = refl

pub right_false : (a b : Bool) → (a || b) ≡ false → b ≡ false
right_false true b e = absurd (cc)
right_false false b e = e

-- after the line of a function
function_sound : (state : ParserState) (name : List ℕ) → IsSoundState state → state.opened ≡ None → is_name_text name ≡ true → list_any (is_called name) state.closed ≡ false → nat_le MAX_FUNCTIONS (length state.closed) ≡ false → IsSoundState (record state { opened = Some (record { name = name_of name; body = [] }) })
function_sound state name s is named new few =
    let above : statements_above state ≡ sum_by (λ (g : Func). length g.body) state.closed + 0 =
    ap
    (λ o. sum_by (λ (g : Func). length g.body) state.closed + option_map_or (λ (g : Func). length g.body) o 0) is in
    record {
      head = s.head;
      count = s.count;
      names = s.names;
      distinct = s.distinct;
      allowed = s.allowed;
      statements = omega (arith, above, s.statements);
      open_function = (leb-false MAX_FUNCTIONS (length state.closed) few, is_name_of name named, ap (λ n. list_any (is_called n) state.closed) (text_name_of name) ∙ new, refl);
    }

-- after a statement's line
statement_line_sound : (state : ParserState) (l : SourceLine) (t : Stmt) → IsSoundState state
    → is_some state.opened ≡ true → statement_of_line state l ≡ Some t → is_in_range t ≡ true
    → IsBelow (length state.closed) (named_by t)
    → says_such is_task_with_barrier state l ≡ false → says_such nests_barrier state l ≡ false → (nat_le MAX_STATEMENTS (statements_above state) || says_such is_too_deep state l) ≡ false → IsSoundState (after_statement state (statement_of_line state l))
statement_line_sound state l t sound opened at range named task nested over_limit =
    let above : List Reach = reaches [] state.closed in
    let f = some_of state.opened opened in
    let size : length above ≡ length state.closed = let n : length (reaches [] state.closed) ≡ 0 + length state.closed = length-reaches [] state.closed in omega arith in
    let Below : ℕ → Type 0 = λ k. IsBelow k (named_by t) in
    let within : IsBelow (length above) (named_by t) = subst Below (sym size) named in
    let no_task : is_task_with_barrier above t ≡ false =
    sym (ap (λ o. option_map_or (is_task_with_barrier above) o false) at) ∙ task in
    let no_nest : nests_barrier above t ≡ false =
    sym (ap (λ o. option_map_or (nests_barrier above) o false) at) ∙ nested in
    let not_deep : is_too_deep above t ≡ false =
    sym (ap (λ o. option_map_or (is_too_deep above) o false) at)
    ∙ right_false (nat_le MAX_STATEMENTS (statements_above state)) _ over_limit in
    let allowed : is_allowed above t ≡ true =
    and_true (is_in_range t) (names_rightly above t) range
    (rightly_named above t within no_task no_nest not_deep) in
    let room : statements_above state < MAX_STATEMENTS =
    leb-false MAX_STATEMENTS (statements_above state)
    (left_false (nat_le MAX_STATEMENTS (statements_above state)) _ over_limit) in
    let Open : Option Func → Type 0 = λ o. IsSoundOpen state.closed o in
    let open_now : IsSoundOpen state.closed (Some f.0) = subst Open f.1 sound.open_function in
    let made : option_and_then (λ g. option_map (with_statement g) (statement_of_line state l)) state.opened ≡ Some (with_statement f.0 t) =
    ap (λ o. option_and_then (λ g. option_map (with_statement g) (statement_of_line state l)) o) f.1
    ∙ ap (option_map (with_statement f.0)) at in
    let Sound : Option Func → Type 0 = λ o. IsSoundState (record state { opened = o }) in
    subst Sound (sym made) (statement_sound state f.0 t f.1 room sound open_now allowed)

-- the construct and the function of a line without BadNumber and UnknownName
construct_sound : (state : ParserState) (name : List ℕ) (c : Option Construct) → IsSoundState state
    → is_line_in_range (line.Construct name c) ≡ true → is_some state.opened ≡ true → is_some c ≡ true
    → is_some (position (is_called name) state.closed) ≡ true
    → says_such is_task_with_barrier state (line.Construct name c) ≡ false → says_such nests_barrier state (line.Construct name c) ≡ false → is_over_limit state (line.Construct name c) ≡ false → IsSoundState (after_line state (line.Construct name c))
construct_sound state name c sound good opened said known task nested over_limit =
    let d = some_of c said in
    let n = some_of (position (is_called name) state.closed) known in
    let at : statement_of_line state (line.Construct name c) ≡ Some (over d.0 n.0) =
    ap (λ o. option_and_then (λ e. option_map (over e) (position (is_called name) state.closed)) o) d.1
    ∙ ap (option_map (over d.0)) n.1 in
    let range : is_in_range (over d.0 n.0) ≡ true =
    range_over d.0 n.0 ∙ sym (ap (passes is_construct_in_range) d.1) ∙ good in
    let Below : Option ℕ → Type 0 = λ o. IsBelow (length state.closed) o in
    let named : IsBelow (length state.closed) (named_by (over d.0 n.0)) =
    subst Below (sym (named_over d.0 n.0)) (position_within (is_called name) state.closed n.0 n.1) in
    statement_line_sound state (line.Construct name c)
    (over d.0 n.0) sound opened at range named task nested over_limit

alone_sound : (state : ParserState) (s : Option Stmt) → IsSoundState state
    → is_line_in_range (line.StandAlone s) ≡ true → is_some state.opened ≡ true → is_some s ≡ true
    → says_such is_task_with_barrier state (line.StandAlone s) ≡ false → says_such nests_barrier state (line.StandAlone s) ≡ false → is_over_limit state (line.StandAlone s) ≡ false → IsSoundState (after_line state (line.StandAlone s))
alone_sound state s sound good opened said task nested over_limit =
    let t = some_of s said in
    let tests : is_alone_in_range t.0 ≡ true = sym (ap (passes is_alone_in_range) t.1) ∙ good in
    let none : named_by t.0 ≡ None =
    none_of (named_by t.0) (and_right (is_in_range t.0) (not (is_some (named_by t.0))) tests) in
    let Below : Option ℕ → Type 0 = λ o. IsBelow (length state.closed) o in
    statement_line_sound state (line.StandAlone s) t.0 sound opened t.1
    (and_left (is_in_range t.0) (not (is_some (named_by t.0))) tests)
    (subst Below (sym none) tt) task nested over_limit

-- after what a line says
pub said_sound : (state : ParserState) (l : SourceLine) → IsSoundState state → is_line_in_range l ≡ true
    → may_stand state l ≡ true → has_bad_number l ≡ false → has_unknown_name state l ≡ false
    → is_repeated state l ≡ false
    → says_such is_task_with_barrier state l ≡ false → says_such nests_barrier state l ≡ false → is_over_limit state l ≡ false → IsSoundState (after_line state l)
said_sound state line.Blank sound good stands number name repeated task nested over_limit = sound
said_sound state (line.Head h) sound good stands number name repeated task nested over_limit =
    head_sound state h good sound
said_sound state (line.Function n) sound good stands number name repeated task nested over_limit =
    function_sound state n sound (none_of state.opened stands) (yes (is_name_text n) name) repeated over_limit
said_sound state (line.Construct n c) sound good stands number name repeated task nested over_limit =
    construct_sound state n c sound good stands (yes (is_some c) number)
    (yes (is_some (position (is_called n) state.closed)) name) task nested over_limit
said_sound state (line.StandAlone s) sound good stands number name repeated task nested over_limit =
    alone_sound state s sound good stands (yes (is_some s) number) task nested over_limit
said_sound state line.End sound good stands number name repeated task nested over_limit =
    let f = some_of state.opened stands in
    let Open : Option Func → Type 0 = λ o. IsSoundOpen state.closed o in
    let Sound : List Func → Type 0 =
    λ fs. IsSoundState (record state { closed = state.closed ++ fs; opened = None }) in
    subst Sound (sym (ap option_to_list f.1))
    (end_sound state f.0 f.1 sound (subst Open f.1 sound.open_function))
