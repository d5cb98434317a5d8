-- What `clap` makes of the words of a line is what the line's definition makes of them.
use Rattle.std.proofs.Common.{◌≡◌, ◌∙◌, inl, inr, ◌||◌, Bool, true, false, cond, refl, sym, ap, ap₂, subst, List, [], ◌∷◌, Option, Some, None, is_some, append_assoc, arith}
use Rattle.std.specs.Prelude.{fold, option_and_then}
use Rattle.std.specs.List.{All, list_any, after_first, before_first}
use Rattle.std.specs.Str.{IsUtf8}
use Rattle.std.proofs.lemmas.List.{append-nil}
use Rattle.std.proofs.lemmas.List.Elements.{All-drop}
use Rattle.clap.specs.Kinds.{Kinds, or_else}
use Rattle.clap.specs.Faults.{settle_fault, turn_fault, walk_fault}
use Rattle.clap.specs.Walk.{Held, Row, Text, Waiting, Walk, idle, option, positional, settled, walked}
use Rattle.clap.specs.declared.error.kind.ErrorKind.TheVariants as kind
use borrow.Author.Tests.{both_ways}
use Rattle.omi_line.specs.declared.line.Line.{Line}
use Rattle.omi_line.specs.Word.{OptionName, Kind, Positional, Rest, Given, Named, RefusedWord, begins_with_hyphen, hyphen_kind, is_equals, is_hyphen, word_kind, long_kind, option_kind, option_named}
use Rattle.omi_line.specs.Line.{set_value, split_from, split_word, value_in, with_value, with_words}
use Rattle.omi_line.specs.Hyphen.{gives_hyphen, hyphen_word, is_lone_hyphen}
use Rattle.omi_line.proofs.Sees.{Sees, sees}
use Rattle.omi_line.proofs.Shown.{Shows, has_row-shown, id_of, shows_value, shows_word, words_id}
use Rattle.omi_line.proofs.Steps.{Steps, walk_at, rest_steps}
use Rattle.omi_line.proofs.Rules.{IsFree, after_word, given_step, line_rules, line_shape, name_pending, named_step, pending_fault, repeated, rows_after_value, rows_with, rows_with_value, short_step, trailing_step, unknown_step, value_fault-repeated, value_pending, value_step, word_step}

-- ---- the whole walk

abbrev pub end_of : Walk → List Text → Held
end_of w words = (fold (walked line_rules []) w words).held

-- the first fault of the walk over the words, and of what is pending at its end
abbrev pub fault_from : Walk → List Text → Kinds
fault_from w words =
    or_else (walk_fault line_shape [] w words) (settle_fault line_rules false (end_of w words))

abbrev pub rows_from : Walk → List Text → List Row
rows_from w words = (settled line_rules (end_of w words)).rows

-- there is no fault and the rows show the line, or there is a fault and no line
abbrev pub Reads : Kinds → List Row → Option Line → Type 0
Reads kinds rows None = kinds ≡ [] → ⊥
Reads kinds rows (Some line) = (kinds ≡ []) × Shows rows line

or_else_assoc : (a b c : Kinds) → or_else (or_else a b) c ≡ or_else a (or_else b c)
or_else_assoc [] b c = refl
or_else_assoc (k ∷ ks) b c = refl

pub both_none : (a b : Kinds) → or_else a b ≡ [] → (a ≡ []) × (b ≡ [])
both_none [] b is = (refl, is)
both_none (k ∷ ks) b is = absurd (cc)

fault_more : (w : Walk) (word : Text) (rest : List Text) (kinds : Kinds) (after : Walk)
    → Steps line_shape w word kinds after
    → fault_from w (word ∷ rest) ≡ or_else kinds (fault_from after rest)
unfolding walk_fault
fault_more w word rest kinds after steps =
    or_else_assoc (turn_fault line_shape [] w word) _ _
    ∙ ap₂ (λ (k : Kinds) (n : Walk). or_else k (fault_from n rest)) steps.fault steps.after

rows_more : (w : Walk) (word : Text) (rest : List Text) (kinds : Kinds) (after : Walk)
    → Steps line_shape w word kinds after
    → rows_from w (word ∷ rest) ≡ rows_from after rest
rows_more w word rest kinds after steps = ap (λ (n : Walk). rows_from n rest) steps.after

pub reads_as : (a b : Kinds) (r q : List Row) (line : Option Line) → a ≡ b → r ≡ q → Reads b q line
    → Reads a r line
reads_as a b r q None kinds rows reads = λ none. reads (sym kinds ∙ none)
reads_as a b r q (Some line) kinds rows reads =
    (kinds ∙ reads.0, subst (λ (rows : List Row). Shows rows line) (sym rows) reads.1)

-- a step without a fault
reads_more : (w : Walk) (word : Text) (rest : List Text) (kinds : Kinds) (after : Walk) (line : Option Line)
    → Steps line_shape w word kinds after → kinds ≡ []
    → Reads (fault_from after rest) (rows_from after rest) line → Reads (fault_from w (word ∷ rest)) (rows_from w (word ∷ rest)) line
reads_more w word rest kinds after line steps none reads =
    reads_as _ _ _ _ line
    (fault_more w word rest kinds after steps ∙ ap (λ (k : Kinds). or_else k (fault_from after rest)) none)
    (rows_more w word rest kinds after steps) reads

-- where there is no fault at all, there is none in a step or after it
no_fault : (w : Walk) (word : Text) (rest : List Text) (kinds : Kinds) (after : Walk)
    → Steps line_shape w word kinds after
    → fault_from w (word ∷ rest) ≡ [] → (kinds ≡ []) × (fault_from after rest ≡ [])
no_fault w word rest kinds after steps is =
    both_none kinds (fault_from after rest) (sym (fault_more w word rest kinds after steps) ∙ is)

-- a word that is refused
refuses : (w : Walk) (word : Text) (rest : List Text)
    → turn_fault line_shape [] w word ≡ kind.UnknownArgument ∷ [] → fault_from w (word ∷ rest) ≡ [] → ⊥
unfolding walk_fault
refuses w word rest fault is =
    let turn = both_none (turn_fault line_shape [] w word) _ (both_none _ _ is).0 in
    let clash : kind.UnknownArgument ∷ [] ≡ [] = sym fault ∙ turn.0 in
    cc

-- ---- what is pending has no fault where the walk has none

clean_trailing : (words : List Text) (rows : List Row) (pending : Option (Text × List Text)) (waiting : Waiting)
    → fault_from (walk_at rows pending waiting true) words ≡ [] → pending_fault rows pending ≡ []
unfolding walk_fault
clean_trailing [] rows pending waiting is = is
clean_trailing (word ∷ rest) rows pending waiting is =
    (no_fault (walk_at rows pending waiting true) word rest _ _ (trailing_step rows pending waiting word) is).0

clean : (words : List Text) (rows : List Row) (pending : Option (Text × List Text)) (waiting : Waiting)
    → IsFree waiting → All IsUtf8 words
    → fault_from (walk_at rows pending waiting false) words ≡ [] → pending_fault rows pending ≡ []
unfolding walk_fault
clean [] rows pending waiting free utf8 is = is
clean (word ∷ rest) rows pending waiting free utf8 is =
    go (word_kind word) (sees word (utf8 0 word (omega arith)))
  where
    go : (k : Kind) → Sees word k → pending_fault rows pending ≡ []
    go Positional plain =
        (no_fault (walk_at rows pending waiting false) word rest _ _ (word_step rows pending waiting word free plain) is).0
    go Rest rests =
        clean_trailing rest rows pending waiting
        (no_fault (walk_at rows pending waiting false) word rest _ _ (rest_steps line_shape rows pending waiting word rests) is).1
    go (Given name given) seen =
        (both_none _ _ (no_fault (walk_at rows pending waiting false) word rest _ _ (given_step rows pending waiting word seen.0 name given seen.1 seen.2) is).0).0
    go (Named name) seen =
        (no_fault (walk_at rows pending waiting false) word rest _ _ (named_step rows pending waiting word seen.0 name seen.1 seen.2) is).0
    go RefusedWord (inl seen) =
        absurd
        (refuses (walk_at rows pending waiting false) word rest (unknown_step rows pending waiting word seen.0 seen.1 seen.2 seen.3) is)
    go RefusedWord (inr seen) =
        absurd
        (refuses (walk_at rows pending waiting false) word rest (short_step rows pending waiting word seen) is)

-- ---- after `--`

with_words-nil : (line : Line) → with_words [] line ≡ line
with_words-nil line =
    ap (λ (words : List Text). let l : Line = record line { words = words } in l) (append-nil line.words)

with_words-cons : (word : Text) (rest : List Text) (line : Line)
    → with_words rest (with_words (word ∷ []) line) ≡ with_words (word ∷ rest) line
with_words-cons word rest line =
    ap (λ (words : List Text). let l : Line = record line { words = words } in l)
    (append_assoc line.words (word ∷ []) rest)

reads_trailing : (words : List Text) (rows : List Row) (pending : Option (Text × List Text)) (waiting : Waiting) (line : Line)
    → pending_fault rows pending ≡ [] → Shows (rows_with rows pending) line
    → Reads (fault_from (walk_at rows pending waiting true) words)
    (rows_from (walk_at rows pending waiting true) words) (Some (with_words words line))
unfolding walk_fault
reads_trailing [] rows pending waiting line none shown =
    (none, subst (Shows (rows_with rows pending)) (sym (with_words-nil line)) shown)
reads_trailing (word ∷ rest) rows pending waiting line none shown =
    reads_more (walk_at rows pending waiting true) word rest _ _ (Some (with_words (word ∷ rest) line))
    (trailing_step rows pending waiting word) none
    (subst (λ (l : Line). Reads (fault_from (after_word rows pending word true) rest) (rows_from (after_word rows pending word true) rest) (Some l)) (with_words-cons word rest line)
    (reads_trailing rest (rows_with rows pending) (Some (words_id, word ∷ [])) positional (with_words (word ∷ []) line) refl
    (shows_word _ word (rows_with rows pending) line shown)))

-- ---- options

-- an option that the line has already is repeated
repeated_there : (name : OptionName) (old : Text) (rows : List Row) (line : Line)
    → value_in name line ≡ Some old → Shows rows line → repeated name rows ≡ kind.ArgumentConflict ∷ []
repeated_there name old rows line is shown =
    ap (λ (has : Bool). cond has (kind.ArgumentConflict ∷ []) [])
    (has_row-shown name rows line shown ∙ ap (λ (v : Option Text). is_some v) is)

repeated_not : (name : OptionName) (rows : List Row) (line : Line) → value_in name line ≡ None
    → Shows rows line → repeated name rows ≡ []
repeated_not name rows line is shown =
    ap (λ (has : Bool). cond has (kind.ArgumentConflict ∷ []) [])
    (has_row-shown name rows line shown ∙ ap (λ (v : Option Text). is_some v) is)

with_value-there : (name : OptionName) (given old : Text) (line : Line) → value_in name line ≡ Some old
    → with_value name given line ≡ None
with_value-there name given old line is =
    ap (λ (v : Option Text). cond (is_some v) None (Some (set_value name given line))) is

with_value-new : (name : OptionName) (given : Text) (line : Line) → value_in name line ≡ None
    → with_value name given line ≡ Some (set_value name given line)
with_value-new name given line is =
    ap (λ (v : Option Text). cond (is_some v) None (Some (set_value name given line))) is

-- ---- hyphens

-- a word that begins with no hyphen is positional
pub plain_kind : (word : Text) → begins_with_hyphen word ≡ false → word_kind word ≡ Positional
plain_kind [] is = refl
plain_kind (byte ∷ text) is = rw is refl

option_never : (named : Option OptionName) (text : Text) → option_kind named text ≡ Positional → ⊥
option_never None text is = cc
option_never (Some name) text is = go (list_any is_equals text) is
  where
    go : (has : Bool) → cond has (Given name (after_first is_equals text)) (Named name) ≡ Positional → ⊥
    go true is = cc
    go false is = cc

long_never : (text : Text) → long_kind text ≡ Positional → ⊥
long_never [] is = cc
long_never (byte ∷ text) is =
    option_never (option_named (before_first is_equals (byte ∷ text))) (byte ∷ text) is

hyphen_never : (b : Bool) (text : Text) → cond b (long_kind text) RefusedWord ≡ Positional → ⊥
hyphen_never true text is = long_never text is
hyphen_never false text is = cc

-- and `-` is the one positional word that begins with one
lone_hyphen : (word : Text) → word_kind word ≡ Positional → begins_with_hyphen word ≡ true
    → is_lone_hyphen word ≡ true
lone_hyphen [] is hyphen = absurd (both_ways false refl hyphen)
lone_hyphen (byte ∷ text) is hyphen =
    go text (ap (λ (b : Bool). cond b (hyphen_kind text) Positional) (sym hyphen) ∙ is)
  where
    go : (rest : Text) → hyphen_kind rest ≡ Positional → is_lone_hyphen (byte ∷ rest) ≡ true
    go [] plain = rw hyphen refl
    go (second ∷ rest) plain = absurd (hyphen_never (is_hyphen second) rest plain)

-- ---- the words of a line

-- the walk over these words reads what the definition makes of them
pub record ReadsWords (words : List Text) : Type 0 where
  pub free : (rows : List Row) (pending : Option (Text × List Text)) (waiting : Waiting) (line : Line)
      → IsFree waiting
      → pending_fault rows pending ≡ [] → Shows (rows_with rows pending) line → gives_hyphen words false ≡ false
      → Reads (fault_from (walk_at rows pending waiting false) words)
      (rows_from (walk_at rows pending waiting false) words) (split_from words None line)
  pub waits : (rows : List Row) (name : OptionName) (line : Line) → Shows rows line
      → gives_hyphen words true ≡ false
      → Reads (fault_from (walk_at rows (Some (id_of name, [])) (option (id_of name)) false) words)
      (rows_from (walk_at rows (Some (id_of name, [])) (option (id_of name)) false) words)
      (split_from words (Some name) line)

abbrev ReadsAt : Walk → Text → List Text → Option Line → Type 0
ReadsAt w word rest line = Reads (fault_from w (word ∷ rest)) (rows_from w (word ∷ rest)) line

-- an option and its value, where the walk goes on
module _ (word : Text) (rest : List Text) (next : ReadsWords rest) (name : OptionName) (given : Text)
    (rows : List Row) (line : Line) (shown : Shows rows line)
    (hyphen : gives_hyphen rest false ≡ false) where
  -- the value is attached
  given_reads : (w : Walk) (kinds : Kinds)
      → Steps line_shape w word (or_else kinds (repeated name rows)) (walk_at (rows_after_value name given rows) None idle false)
      → kinds ≡ []
      → ReadsAt w word rest (option_and_then (split_from rest None) (with_value name given line))
  given_reads w kinds steps none = go (value_in name line) refl
    where
      go : (old : Option Text) → value_in name line ≡ old
          → ReadsAt w word rest (option_and_then (split_from rest None) (with_value name given line))
      go (Some old) is =
          subst (λ (l : Option Line). ReadsAt w word rest (option_and_then (split_from rest None) l))
          (sym (with_value-there name given old line is))
          (λ clear. let conflict : kind.ArgumentConflict ∷ [] ≡ [] = sym (repeated_there name old rows line is shown) ∙ (both_none kinds (repeated name rows) (no_fault w word rest _ _ steps clear).0).1 in cc)
      go None is =
          subst (λ (l : Option Line). ReadsAt w word rest (option_and_then (split_from rest None) l))
          (sym (with_value-new name given line is))
          (reads_more w word rest _ _ (split_from rest None (set_value name given line)) steps (ap₂ or_else none (repeated_not name rows line is shown))
          (next.free (rows_after_value name given rows) None idle (set_value name given line) tt refl (shows_value _ name given rows line is shown) hyphen))

  -- the value is a word of its own
  value_reads : All IsUtf8 rest → (w : Walk)
      → Steps line_shape w word [] (walk_at rows (Some (id_of name, given ∷ [])) idle false)
      → ReadsAt w word rest (option_and_then (split_from rest None) (with_value name given line))
  value_reads utf8 w steps = go (value_in name line) refl
    where
      fault_is : pending_fault rows (Some (id_of name, given ∷ [])) ≡ repeated name rows
      fault_is = value_pending name given rows ∙ value_fault-repeated name given rows

      go : (old : Option Text) → value_in name line ≡ old
          → ReadsAt w word rest (option_and_then (split_from rest None) (with_value name given line))
      go (Some old) is =
          subst (λ (l : Option Line). ReadsAt w word rest (option_and_then (split_from rest None) l))
          (sym (with_value-there name given old line is))
          (λ clear.
          let later =
          clean rest rows (Some (id_of name, given ∷ [])) idle tt utf8
          (no_fault w word rest _ _ steps clear).1 in
          let conflict : kind.ArgumentConflict ∷ [] ≡ [] = sym (fault_is ∙ repeated_there name old rows line is shown) ∙ later in cc)
      go None is =
          subst (λ (l : Option Line). ReadsAt w word rest (option_and_then (split_from rest None) l))
          (sym (with_value-new name given line is))
          (reads_more w word rest _ _ (split_from rest None (set_value name given line)) steps refl
          (next.free rows (Some (id_of name, given ∷ [])) idle (set_value name given line) tt (fault_is ∙ repeated_not name rows line is shown)
          (subst (λ (r : List Row). Shows r (set_value name given line)) (sym (rows_with_value name given rows)) (shows_value _ name given rows line is shown)) hyphen))

or_right : (a b : Bool) → (a || b) ≡ false → b ≡ false
or_right true b is = absurd (both_ways true is refl)
or_right false b is = is

or_left : (a b : Bool) → (a || b) ≡ false → a ≡ false
or_left true b is = is
or_left false b is = refl

-- a word that begins with a hyphen is no value of an option that waits for one
module _ (word : Text) (rest : List Text) (rows : List Row) (name : OptionName)
    (seen : Sees word (word_kind word)) (begins : begins_with_hyphen word ≡ true)
    (hyphen : hyphen_word (word_kind word) (is_lone_hyphen word) (gives_hyphen rest) ≡ false) where
  abbrev waiting_walk : Walk
  waiting_walk = walk_at rows (Some (id_of name, [])) (option (id_of name)) false

  no_value : pending_fault rows (Some (id_of name, [])) ≡ [] → ⊥
  no_value none = let clash : kind.InvalidValue ∷ [] ≡ [] = sym (name_pending name rows) ∙ none in cc

  refuses_hyphen : fault_from waiting_walk (word ∷ rest) ≡ [] → ⊥
  refuses_hyphen clear = go (word_kind word) refl seen hyphen
    where
      go : (k : Kind) → word_kind word ≡ k → Sees word k
          → hyphen_word k (is_lone_hyphen word) (gives_hyphen rest) ≡ false → ⊥
      go Positional is plain hyphen =
          both_ways (is_lone_hyphen word) (or_left (is_lone_hyphen word) (gives_hyphen rest false) hyphen)
          (lone_hyphen word is begins)
      go Rest is rests hyphen =
          no_value (clean_trailing rest rows (Some (id_of name, [])) (option (id_of name))
          (no_fault waiting_walk word rest _ _ (rest_steps line_shape rows (Some (id_of name, [])) (option (id_of name)) word rests) clear).1)
      go (Given other given) is seen hyphen = no_value (both_none _ _
          (no_fault waiting_walk word rest _ _ (given_step rows (Some (id_of name, [])) (option (id_of name)) word seen.0 other given seen.1 seen.2) clear).0).0
      go (Named other) is seen hyphen = no_value
          (no_fault waiting_walk word rest _ _ (named_step rows (Some (id_of name, [])) (option (id_of name)) word seen.0 other seen.1 seen.2) clear).0
      go RefusedWord is (inl seen) hyphen =
          refuses waiting_walk word rest
          (unknown_step rows (Some (id_of name, [])) (option (id_of name)) word seen.0 seen.1 seen.2 seen.3) clear
      go RefusedWord is (inr seen) hyphen =
          refuses waiting_walk word rest
          (short_step rows (Some (id_of name, [])) (option (id_of name)) word seen) clear

reads_none : ReadsWords []
unfolding walk_fault split_from gives_hyphen
reads_none = record {
  free = λ rows pending waiting line free none shown hyphen. (none, shown);
  waits = λ rows name line shown hyphen. λ clear. let clash : kind.InvalidValue ∷ [] ≡ [] = sym (name_pending name rows) ∙ clear in cc;
}

reads_word : (word : Text) (rest : List Text) → All IsUtf8 (word ∷ rest) → ReadsWords rest
    → ReadsWords (word ∷ rest)
unfolding walk_fault split_from gives_hyphen
reads_word word rest utf8 next = record {
  free = λ rows pending waiting line free none shown hyphen. free_word rows pending waiting line free none shown (word_kind word) seen hyphen;
  waits = λ rows name line shown hyphen. waiting_word rows name line shown hyphen (begins_with_hyphen word) refl;
}
  where
    utf8_rest : All IsUtf8 rest
    utf8_rest = All-drop IsUtf8 1 (word ∷ rest) utf8

    seen : Sees word (word_kind word)
    seen = sees word (utf8 0 word (omega arith))

    free_word : (rows : List Row) (pending : Option (Text × List Text)) (waiting : Waiting) (line : Line)
        → IsFree waiting
        → pending_fault rows pending ≡ [] → Shows (rows_with rows pending) line → (k : Kind) → Sees word k → hyphen_word k false (gives_hyphen rest) ≡ false
        → ReadsAt (walk_at rows pending waiting false) word rest
        (split_word k word rest (split_from rest) line)
    free_word rows pending waiting line free none shown Positional plain hyphen =
        reads_more (walk_at rows pending waiting false) word rest _ _
        (split_from rest None (with_words (word ∷ []) line))
        (word_step rows pending waiting word free plain) none
        (next.free (rows_with rows pending) (Some (words_id, word ∷ [])) positional (with_words (word ∷ []) line) tt refl (shows_word _ word (rows_with rows pending) line shown) hyphen)
    free_word rows pending waiting line free none shown Rest rests hyphen =
        reads_more (walk_at rows pending waiting false) word rest _ _ (Some (with_words rest line))
        (rest_steps line_shape rows pending waiting word rests) refl
        (reads_trailing rest rows pending waiting line none shown)
    free_word rows pending waiting line free none shown (Given name given) seen hyphen =
        given_reads word rest next name given (rows_with rows pending) line shown hyphen
        (walk_at rows pending waiting false) (pending_fault rows pending)
        (given_step rows pending waiting word seen.0 name given seen.1 seen.2) none
    free_word rows pending waiting line free none shown (Named name) seen hyphen =
        reads_more (walk_at rows pending waiting false) word rest _ _ (split_from rest (Some name) line)
        (named_step rows pending waiting word seen.0 name seen.1 seen.2) none
        (next.waits (rows_with rows pending) name line shown hyphen)
    free_word rows pending waiting line free none shown RefusedWord (inl seen) hyphen =
        refuses (walk_at rows pending waiting false) word rest
        (unknown_step rows pending waiting word seen.0 seen.1 seen.2 seen.3)
    free_word rows pending waiting line free none shown RefusedWord (inr seen) hyphen =
        refuses (walk_at rows pending waiting false) word rest (short_step rows pending waiting word seen)

    waiting_word : (rows : List Row) (name : OptionName) (line : Line) → Shows rows line
        → hyphen_word (word_kind word) (is_lone_hyphen word) (gives_hyphen rest) ≡ false
        → (begins : Bool) → begins_with_hyphen word ≡ begins
        → ReadsAt (walk_at rows (Some (id_of name, [])) (option (id_of name)) false) word rest
        (cond (begins_with_hyphen word) None (option_and_then (split_from rest None) (with_value name word line)))
    waiting_word rows name line shown hyphen true is =
        subst
        (λ (b : Bool). ReadsAt (walk_at rows (Some (id_of name, [])) (option (id_of name)) false) word rest (cond b None (option_and_then (split_from rest None) (with_value name word line))))
        (sym is)
        (refuses_hyphen word rest rows name seen is hyphen)
    waiting_word rows name line shown hyphen false is =
        let plain = plain_kind word is in
        let later : gives_hyphen rest false ≡ false =
        or_right (is_lone_hyphen word) _
        (subst (λ (k : Kind). hyphen_word k (is_lone_hyphen word) (gives_hyphen rest) ≡ false) plain hyphen) in
        subst
        (λ (b : Bool). ReadsAt (walk_at rows (Some (id_of name, [])) (option (id_of name)) false) word rest (cond b None (option_and_then (split_from rest None) (with_value name word line))))
        (sym is)
        (value_reads word rest next name word rows line shown later utf8_rest _ (value_step rows name word (subst (Sees word) plain seen)))

pub reads_words : (words : List Text) → All IsUtf8 words → ReadsWords words
reads_words [] utf8 = reads_none
reads_words (word ∷ rest) utf8 =
    reads_word word rest utf8 (reads_words rest (All-drop IsUtf8 1 (word ∷ rest) utf8))
