-- The rules of a program hold after lines without faults.
use Rattle.std.proofs.Common.{◌≡◌, ℕ, ◌<◌, ◌≤◌, ◌+◌, Bool, true, false, ◌||◌, List, [], ◌∷◌, ◌++◌, length, map, Option, Some, None, refl, ap, ◌∙◌, arith}
use Rattle.std.specs.Prelude.{sum_by, fold, bytes_eq}
use Rattle.std.specs.List.{list_all, list_any}
use Rattle.std.specs.Option.{option_map_or}
use Rattle.omi_script.specs.HeadLines.{head_after}
use Rattle.omi_script.specs.Names.{are_distinct, is_name, text_of}
use Rattle.omi_script.specs.ParserState.{is_called, statements_above, with_statement}
use Rattle.omi_script.specs.Reach.{are_allowed, is_allowed, reaches}
use Rattle.omi_script.specs.declared.function.Func.{Func}
use Rattle.omi_script.specs.declared.limits.TheConstants.{MAX_FUNCTIONS, MAX_STATEMENTS}
use Rattle.omi_script.specs.declared.line.HeadLine.{HeadLine}
use Rattle.omi_script.specs.declared.parser.ParserState.{ParserState}
use Rattle.omi_script.specs.declared.statement.Stmt.{Stmt}
use Rattle.omi_script.proofs.Conjunctions.{and_left, and_right, and_true}
use Rattle.omi_script.proofs.LineRanges.{AreInRange, is_head_in_range, head_kept}
use Rattle.omi_script.proofs.StateLemmas.{allowed_more, distinct_more}

-- an open function keeps the rules over those that are closed
abbrev pub IsSoundOpen : List Func → Option Func → Type 0
IsSoundOpen closed None = Unit {0}
IsSoundOpen closed (Some f) =
    (length closed < MAX_FUNCTIONS) × (is_name f.name ≡ true) × (list_any (is_called (text_of f.name)) closed ≡ false) × (list_all (is_allowed (reaches [] closed)) f.body ≡ true)

-- the rules that hold after lines without faults
pub record IsSoundState (state : ParserState) : Type 0 where
  pub head : AreInRange state.head
  pub count : length state.closed ≤ MAX_FUNCTIONS
  pub names : list_all (λ (f : Func). is_name f.name) state.closed ≡ true
  pub distinct : are_distinct (map (λ (f : Func). text_of f.name) state.closed) ≡ true
  pub allowed : are_allowed [] (map (λ (f : Func). f.body) state.closed) ≡ true
  pub statements : statements_above state ≤ MAX_STATEMENTS
  pub open_function : IsSoundOpen state.closed state.opened

-- after a head line
pub head_sound : (state : ParserState) (l : HeadLine) → is_head_in_range l ≡ true → IsSoundState state
    → IsSoundState (record state { head = head_after state.head l })
head_sound state l e s = record { head = head_kept state.head l e s.head; count = s.count; names = s.names; distinct = s.distinct; allowed = s.allowed; statements = s.statements; open_function = s.open_function }

all_more : {A : Type 0} (p : A → Bool) (xs : List A) (x : A) → list_all p xs ≡ true → p x ≡ true
    → list_all p (xs ++ x ∷ []) ≡ true
all_more p [] x h k = and_true (p x) true k refl
all_more p (y ∷ xs) x h k = and_true (p y) _ (and_left (p y) _ h) (all_more p xs x (and_right (p y) _ h) k)

length_more : {A : Type 0} (xs : List A) (x : A) → length (xs ++ x ∷ []) ≡ length xs + 1
length_more [] x = refl
length_more (y ∷ xs) x = omega (arith, length_more xs x)

sum_from : (n : ℕ) (fs : List Func) (f : Func)
    → fold (λ a (g : Func). a + length g.body) n (fs ++ f ∷ []) ≡ fold (λ a (g : Func). a + length g.body) n fs + length f.body
sum_from n [] f = refl
sum_from n (g ∷ fs) f = sum_from (n + length g.body) fs f

sum_more : (fs : List Func) (f : Func)
    → sum_by (λ (g : Func). length g.body) (fs ++ f ∷ []) ≡ sum_by (λ (g : Func). length g.body) fs + length f.body
sum_more fs f = sum_from 0 fs f

names_more : (fs : List Func) (f : Func)
    → map (λ (g : Func). text_of g.name) (fs ++ f ∷ []) ≡ map (λ (g : Func). text_of g.name) fs ++ text_of f.name ∷ []
names_more [] f = refl
names_more (g ∷ fs) f = ap (λ ns. text_of g.name ∷ ns) (names_more fs f)

any_called : (fs : List Func) (n : List ℕ)
    → list_any (λ m. bytes_eq m n) (map (λ (g : Func). text_of g.name) fs) ≡ list_any (is_called n) fs
any_called [] n = refl
any_called (g ∷ fs) n = ap (λ b. bytes_eq (text_of g.name) n || b) (any_called fs n)

-- after an `end`
pub end_sound : (state : ParserState) (f : Func) → state.opened ≡ Some f → IsSoundState state
    → IsSoundOpen state.closed (Some f)
    → IsSoundState (record state { closed = state.closed ++ f ∷ []; opened = None })
end_sound state f is s (few, named, new, allowed) =
    let above : statements_above state ≡ sum_by (λ (g : Func). length g.body) state.closed + length f.body =
    ap
    (λ o. sum_by (λ (g : Func). length g.body) state.closed + option_map_or (λ (g : Func). length g.body) o 0) is in
    let all : sum_by (λ (g : Func). length g.body) (state.closed ++ f ∷ []) ≡ sum_by (λ (g : Func). length g.body) state.closed + length f.body =
    sum_more state.closed f in
    let limit : statements_above state ≤ MAX_STATEMENTS = s.statements in
    let longer : length (state.closed ++ f ∷ []) ≡ length state.closed + 1 = length_more state.closed f in
    record {
      head = s.head;
      count = omega arith;
      names = all_more (λ (g : Func). is_name g.name) state.closed f s.names named;
      distinct = ap are_distinct (names_more state.closed f) ∙ distinct_more (map (λ (g : Func). text_of g.name) state.closed) (text_of f.name) s.distinct (any_called state.closed (text_of f.name) ∙ new);
      allowed = allowed_more [] state.closed f s.allowed allowed;
      statements = omega arith;
      open_function = tt;
    }

-- after a statement
pub statement_sound : (state : ParserState) (f : Func) (t : Stmt) → state.opened ≡ Some f
    → statements_above state < MAX_STATEMENTS → IsSoundState state → IsSoundOpen state.closed (Some f)
    → is_allowed (reaches [] state.closed) t ≡ true
    → IsSoundState (record state { opened = Some (with_statement f t) })
statement_sound state f t is below s (few, named, new, allowed) good =
    let above : statements_above state ≡ sum_by (λ (g : Func). length g.body) state.closed + length f.body =
    ap
    (λ o. sum_by (λ (g : Func). length g.body) state.closed + option_map_or (λ (g : Func). length g.body) o 0) is in
    let longer : length (f.body ++ t ∷ []) ≡ length f.body + 1 = length_more f.body t in
    record {
      head = s.head;
      count = s.count;
      names = s.names;
      distinct = s.distinct;
      allowed = s.allowed;
      statements = omega arith;
      open_function = (few, named, new, all_more (is_allowed (reaches [] state.closed)) f.body t allowed good);
    }
