-- The lines of a function's statements, after the functions that they name.
use Rattle.std.proofs.Common.{◌≡◌, ℕ, ◌<◌, ◌≤◌, ◌+◌, Bool, true, false, not, ◌||◌, List, [], ◌∷◌, ◌++◌, length, map, Option, Some, None, refl, sym, ap, ◌∙◌, subst, arith, IfSome}
use Rattle.std.specs.Prelude.{nat_le, is_some, sum_by, position}
use Rattle.std.specs.List.{list_all}
use Rattle.std.specs.Option.{option_map, option_map_or}
use Rattle.std.proofs.lemmas.Bool.{lt-leb}
use Rattle.std.proofs.lemmas.List.{append-nil, append_assoc, length_push}
use Rattle.omi_script.specs.Bodies.{name_at, named_by}
use Rattle.omi_script.specs.Canonical.{statement_words}
use Rattle.omi_script.specs.Constructs.{over}
use Rattle.omi_script.specs.Line.{line_of}
use Rattle.omi_script.specs.LineFaults.{has_bad_number, has_unknown_name, is_over_limit, is_repeated, is_task_with_barrier, is_too_deep, nests_barrier, says_such}
use Rattle.omi_script.specs.Names.{are_distinct, is_name, text_of}
use Rattle.omi_script.specs.ParserState.{after_line, after_statement, is_called, may_stand, statement_of_line, statements_above}
use Rattle.omi_script.specs.Ranges.{is_in_range}
use Rattle.omi_script.specs.Reach.{Reach, is_allowed, names_rightly, reaches}
use Rattle.omi_script.specs.declared.function.Func.{Func}
use Rattle.omi_script.specs.declared.head.Head.{Head}
use Rattle.omi_script.specs.declared.limits.TheConstants.{MAX_STATEMENTS}
use Rattle.omi_script.specs.declared.line.SourceLine.{SourceLine}
use Rattle.omi_script.specs.declared.name.Name.{Name}
use Rattle.omi_script.specs.declared.parser.ParserState.{ParserState}
use Rattle.omi_script.specs.declared.statement.Stmt.{Stmt}
use Rattle.omi_script.specs.declared.line.SourceLine.TheVariants as line
use Rattle.omi_script.proofs.Conjunctions.{and_left, and_right}
use Rattle.omi_script.proofs.StateLemmas.{length-reaches}
use Rattle.omi_script.proofs.NamingLemmas.{IsBelow, named_above, rightly_no_task, rightly_no_nest, rightly_not_deep}
use Rattle.omi_script.proofs.CanonicalLines.{is_plain, joined, IsLineOf, line_indented}
use Rattle.omi_script.proofs.CanonicalWords.{construct_of, over_again, said, plain_words, plain_name}
use Rattle.omi_script.proofs.CanonicalSteps.{IsFaultless, LineLeads, LinesLead, line_leads, leads_on}
use Rattle.omi_script.proofs.CanonicalNames.{names_of, position_of, get_of_first, get_named}

-- a statement's line, without its line feed
abbrev pub statement_line : List Func → Stmt → List ℕ
statement_line funcs s = 32 ∷ 32 ∷ joined (statement_words funcs s)

-- between two functions
abbrev pub between : Head → List Func → ParserState
between head closed = record { head = head; closed = closed; opened = None }

-- inside a function, after its first statements
abbrev pub inside : Head → List Func → Name → List Stmt → ParserState
inside head closed name done = record { head = head; closed = closed; opened = Some (record { name = name; body = done }) }

-- how many statements the functions have
abbrev pub statements_of : List Func → ℕ
statements_of fs = sum_by (λ (f : Func). length f.body) fs

-- the name of a function among the first is a word, and finds its number
named_first : (closed more : List Func) (k : ℕ) → list_all (λ (f : Func). is_name f.name) closed ≡ true
    → are_distinct (names_of closed) ≡ true → k < length closed
    → (is_plain (name_at (closed ++ more) k) ≡ true) × (position (is_called (name_at (closed ++ more) k)) closed ≡ Some k)
named_first closed more k named distinct l =
    let f = get_named closed k l named in
    let name : name_at (closed ++ more) k ≡ text_of (f.0).name =
    ap (λ o. option_map_or (λ (g : Func). text_of g.name) o []) (get_of_first closed more k f.0 f.1) in
    (ap is_plain name ∙ plain_name (text_of (f.0).name) f.2, ap (λ w. position (is_called w) closed) name ∙ position_of closed k f.0 distinct f.1)

-- a line that says a statement which may stand there leads after it
says_leads : (state : ParserState) (ws : List (List ℕ)) (bytes : List ℕ) (l : SourceLine) (s : Stmt)
    → IsLineOf ws bytes → line_of ws ≡ Some l
    → may_stand state l ≡ true → has_bad_number l ≡ false → has_unknown_name state l ≡ false → is_repeated state l ≡ false → statement_of_line state l ≡ Some s
    → is_over_limit state l ≡ (nat_le MAX_STATEMENTS (statements_above state) || says_such is_too_deep state l) → after_line state l ≡ after_statement state (statement_of_line state l)
    → statements_above state < MAX_STATEMENTS → names_rightly (reaches [] state.closed) s ≡ true → LineLeads state bytes (after_statement state (Some s))
says_leads state ws bytes l s is_line says stands number name new at over_limit to room rightly =
    let above : List Reach = reaches [] state.closed in
    let such : (test : List Reach → Stmt → Bool) → test above s ≡ false → says_such test state l ≡ false =
    λ test h. ap (λ o. option_map_or (test above) o false) at ∙ h in
    let faultless : IsFaultless state l = record {
      stands = stands;
      number = number;
      name = name;
      new = new;
      no_task = such is_task_with_barrier (rightly_no_task above s rightly);
      no_nest = such nests_barrier (rightly_no_nest above s rightly);
      limit = over_limit ∙ ap (λ b. b || says_such is_too_deep state l) (lt-leb MAX_STATEMENTS (statements_above state) room) ∙ such is_too_deep (rightly_not_deep above s rightly);
    } in
    let step = line_leads state ws bytes l is_line says faultless in
    (step.0, step.1, step.2 ∙ to ∙ ap (after_statement state) at)

-- the line of a statement leads after it
statement_leads : (head : Head) (closed more : List Func) (name : Name) (done : List Stmt) (s : Stmt)
    → list_all (λ (f : Func). is_name f.name) closed ≡ true → are_distinct (names_of closed) ≡ true
    → is_allowed (reaches [] closed) s ≡ true → statements_of closed + length done < MAX_STATEMENTS
    → LineLeads (inside head closed name done) (statement_line (closed ++ more) s)
    (inside head closed name (done ++ s ∷ []))
statement_leads head closed more name done s named distinct allowed room = by_name (named_by s) refl
  where
    by_name : (o : Option ℕ) → named_by s ≡ o
        → LineLeads (inside head closed name done) (statement_line (closed ++ more) s) (inside head closed name (done ++ s ∷ []))
    by_name None none =
        let Plain : Option ℕ → Type 0 = λ o. IfSome o (λ f. is_plain (name_at (closed ++ more) f) ≡ true) in
        let says : line_of (statement_words (closed ++ more) s) ≡ Some (line.StandAlone (Some s)) =
        said (closed ++ more) s (and_left (is_in_range s) (names_rightly (reaches [] closed) s) allowed)
        ∙ ap
        (λ o. Some (option_map_or (λ f. line.Construct (name_at (closed ++ more) f) (construct_of s)) o (line.StandAlone (Some s)))) none in
        says_leads (inside head closed name done) (statement_words (closed ++ more) s)
        (statement_line (closed ++ more) s) (line.StandAlone (Some s)) s
        (line_indented (statement_words (closed ++ more) s) (plain_words (closed ++ more) s (and_left (is_in_range s) (names_rightly (reaches [] closed) s) allowed) (subst Plain (sym none) tt))) says
        refl refl refl refl refl refl refl room
        (and_right (is_in_range s) (names_rightly (reaches [] closed) s) allowed)
    by_name (Some f) is =
        let size : length (reaches [] closed) ≡ length closed = let l : length (reaches [] closed) ≡ 0 + length closed = length-reaches [] closed in omega arith in
        let Below : Option ℕ → Type 0 = λ o. IsBelow (length (reaches [] closed)) o in
        let below : f < length (reaches [] closed) =
        subst Below is
        (named_above (reaches [] closed) s (and_right (is_in_range s) (names_rightly (reaches [] closed) s) allowed)) in
        let found = named_first closed more f named distinct (omega arith) in
        let again = over_again s f is in
        let Plain : Option ℕ → Type 0 = λ o. IfSome o (λ g. is_plain (name_at (closed ++ more) g) ≡ true) in
        let l : SourceLine = line.Construct (name_at (closed ++ more) f) (Some again.0) in
        let says : line_of (statement_words (closed ++ more) s) ≡ Some (line.Construct (name_at (closed ++ more) f) (Some again.0)) =
        said (closed ++ more) s (and_left (is_in_range s) (names_rightly (reaches [] closed) s) allowed)
        ∙ ap
        (λ o. Some (option_map_or (λ g. line.Construct (name_at (closed ++ more) g) (construct_of s)) o (line.StandAlone (Some s)))) is
        ∙ ap (λ c. Some (line.Construct (name_at (closed ++ more) f) c)) again.1 in
        says_leads (inside head closed name done) (statement_words (closed ++ more) s)
        (statement_line (closed ++ more) s) (line.Construct (name_at (closed ++ more) f) (Some again.0)) s
        (line_indented (statement_words (closed ++ more) s) (plain_words (closed ++ more) s (and_left (is_in_range s) (names_rightly (reaches [] closed) s) allowed) (subst Plain (sym is) found.0))) says
        refl refl (ap (λ o. not (is_some o)) found.1) refl
        (ap (option_map (over again.0)) found.1 ∙ ap Some again.2) refl refl room
        (and_right (is_in_range s) (names_rightly (reaches [] closed) s) allowed)

-- the lines of statements lead after the last
pub body_leads : (head : Head) (closed more : List Func) (name : Name) (done left : List Stmt)
    → list_all (λ (f : Func). is_name f.name) closed ≡ true → are_distinct (names_of closed) ≡ true
    → list_all (is_allowed (reaches [] closed)) left ≡ true → statements_of closed + length done + length left ≤ MAX_STATEMENTS
    → LinesLead (inside head closed name done) (map (statement_line (closed ++ more)) left)
    (inside head closed name (done ++ left))
body_leads head closed more name done [] named distinct allowed room =
    ap (inside head closed name) (sym (append-nil done))
body_leads head closed more name done (s ∷ left) named distinct allowed room =
    let above : List Reach = reaches [] closed in
    let longer : length (done ++ s ∷ []) ≡ length done + 1 = length_push done s in
    let first =
    statement_leads head closed more name done s named distinct
    (and_left (is_allowed above s) (list_all (is_allowed above) left) allowed) (omega arith) in
    let rest =
    body_leads head closed more name (done ++ s ∷ []) left named distinct
    (and_right (is_allowed above s) (list_all (is_allowed above) left) allowed) (omega arith) in
    let To : List Stmt → Type 0 =
    λ b. LinesLead (inside head closed name (done ++ s ∷ [])) (map (statement_line (closed ++ more)) left) (inside head closed name b) in
    leads_on (inside head closed name done) (inside head closed name (done ++ s ∷ []))
    (inside head closed name (done ++ s ∷ left)) (statement_line (closed ++ more) s)
    (map (statement_line (closed ++ more)) left) first (subst To (append_assoc done (s ∷ []) left) rest)
