-- The steps of `clap`'s walk by the command of a line.
use Rattle.std.proofs.Common.{◌≡◌, ◌∙◌, ◌<◌, ◌&&◌, ◌||◌, ℕ, Bool, zero, suc, true, false, cond, refl, ap, ap₂, List, [], ◌∷◌, Option, Some, None, length, arith, codes}
use Rattle.std.specs.Prelude.{option_map, slice_get}
use Rattle.std.specs.Str.{bytes_eq, chars}
use Rattle.clap.specs.Kinds.{Kinds, or_else}
use Rattle.clap.specs.Simple.{Shape, built, filled, with_index}
use Rattle.clap.specs.Faults.{bundle_step_fault, flags_fault, settle_fault, step_fault, turn_fault, use_fault}
use Rattle.clap.specs.Walk.{Held, Row, Rule, Text, Waiting, Walk, idle, option, positional, value, after_flag, after_step, is_pending, long_met, pushed, settled, arg_by_long, has_row, reading_by, settled_rows, walked, with_values, without}
use Rattle.clap.specs.declared.error.kind.ErrorKind.TheVariants as kind
use Rattle.clap.specs.declared.parser.matches.ValueSource.TheVariants.{CommandLine}
use Rattle.omi_line.specs.Command.{line_app, option_rule, words_rule}
use Rattle.omi_line.specs.Word.{OptionName, Seed, Break, Count, Layout, option_named}
use Rattle.omi_line.proofs.Sees.{IsLongWord, IsPlainWord, IsShortWord}
use Rattle.omi_line.proofs.Shown.{id_of, words_id}
use Rattle.omi_line.proofs.Steps.{Steps, held_at, walk_at, plain_steps, long_steps, short_steps}

-- the command, and its arguments, as they are built
abbrev pub line_shape : Shape
line_shape = (built line_app).top

abbrev pub line_rules : List Rule
line_rules = line_shape.rules

abbrev pub rule_for : OptionName → Rule
rule_for name = filled (option_rule (id_of name))

abbrev pub words_built : Rule
words_built = with_index 1 (filled words_rule)

pub by_long : (text : Text) → arg_by_long line_rules text ≡ option_map rule_for (option_named text)
by_long text =
    go (bytes_eq (codes "seed") text) (bytes_eq (codes "break") text) (bytes_eq (codes "count") text)
    (bytes_eq (codes "layout") text)
  where
    go : (seed break_ count layout : Bool)
        → cond (seed || false) (Some (rule_for Seed))
        (cond (break_ || false) (Some (rule_for Break)) (cond (count || false) (Some (rule_for Count)) (cond (layout || false) (Some (rule_for Layout)) None)))
        ≡ option_map rule_for
        (cond seed (Some Seed) (cond break_ (Some Break) (cond count (Some Count) (cond layout (Some Layout) None))))
    go true break_ count layout = refl
    go false true count layout = refl
    go false false true layout = refl
    go false false false true = refl
    go false false false false = refl

-- ---- what is pending

-- the fault of what is pending, and the rows with it
abbrev pub pending_fault : List Row → Option (Text × List Text) → Kinds
pending_fault rows pending = settle_fault line_rules false (held_at rows pending)

abbrev pub rows_with : List Row → Option (Text × List Text) → List Row
rows_with rows pending = settled_rows line_rules pending rows

-- the rows after an option's value, and after a positional word
abbrev pub rows_after_value : OptionName → Text → List Row → List Row
rows_after_value name given rows =
    with_values (id_of name) (reading_by (rule_for name)) CommandLine (given ∷ []) (without (id_of name) rows)

abbrev pub repeated : OptionName → List Row → Kinds
repeated name rows = cond (has_row (id_of name) rows) (kind.ArgumentConflict ∷ []) []

abbrev pub value_fault : OptionName → Text → List Row → Kinds
value_fault name given rows = use_fault false (rule_for name) (given ∷ []) rows

pub value_fault-repeated : (name : OptionName) (given : Text) (rows : List Row)
    → value_fault name given rows ≡ repeated name rows
value_fault-repeated name given rows = go (has_row (id_of name) rows)
  where
    go : (has : Bool)
        → or_else (cond (has && true) (kind.ArgumentConflict ∷ []) []) [] ≡ cond has (kind.ArgumentConflict ∷ []) []
    go true = refl
    go false = refl

pub name_pending : (name : OptionName) (rows : List Row)
    → pending_fault rows (Some (id_of name, [])) ≡ kind.InvalidValue ∷ []
name_pending Seed rows = refl
name_pending Break rows = refl
name_pending Count rows = refl
name_pending Layout rows = refl

pub value_pending : (name : OptionName) (given : Text) (rows : List Row)
    → pending_fault rows (Some (id_of name, given ∷ [])) ≡ value_fault name given rows
value_pending Seed given rows = refl
value_pending Break given rows = refl
value_pending Count given rows = refl
value_pending Layout given rows = refl

pub rows_with_value : (name : OptionName) (given : Text) (rows : List Row)
    → rows_with rows (Some (id_of name, given ∷ [])) ≡ rows_after_value name given rows
rows_with_value Seed given rows = refl
rows_with_value Break given rows = refl
rows_with_value Count given rows = refl
rows_with_value Layout given rows = refl

-- ---- the steps

-- no option waits for its value
abbrev pub IsFree : Waiting → Type 0
IsFree (option id) = ⊥
IsFree _ = Unit {0}

never_both : {T : Type 0} (b : Bool) (x y : T) → cond (b && false) x y ≡ y
never_both true x y = refl
never_both false x y = refl

-- where a positional word leads
abbrev pub after_word : List Row → Option (Text × List Text) → Text → Bool → Walk
after_word rows pending word is_trailing =
    walk_at (rows_with rows pending) (Some (words_id, word ∷ [])) positional is_trailing

abbrev is_words : Option (Text × List Text) → Bool
is_words pending = is_pending words_built pending

abbrev LineSteps : Walk → Text → Kinds → Walk → Type 0
LineSteps = Steps line_shape

to_words_fault : (rows : List Row) (pending : Option (Text × List Text))
    → step_fault line_shape 1 (held_at rows pending) value ≡ pending_fault rows pending
to_words_fault rows pending = never_both (is_words pending) [] (pending_fault rows pending)

to_words_after : (rows : List Row) (pending : Option (Text × List Text)) (waiting : Waiting) (word : Text) (is_trailing kept : Bool)
    → (is_trailing || false) ≡ kept
    → after_step line_rules word (walk_at rows pending waiting is_trailing) (held_at rows pending) value ≡ after_word rows pending word kept
to_words_after rows pending waiting word is_trailing kept is =
    ap₂ (λ (h : Held) (t : Bool). let w : Walk = record { held = pushed words_id word h; waiting = positional; position = 1; is_trailing = t; stopped = None } in w)
    (never_both (is_words pending) (held_at rows pending) (settled line_rules (held_at rows pending))) is

-- a positional word before `--`
pub word_step : (rows : List Row) (pending : Option (Text × List Text)) (waiting : Waiting) (word : Text)
    → IsFree waiting → IsPlainWord word
    → LineSteps (walk_at rows pending waiting false) word (pending_fault rows pending)
    (after_word rows pending word false)
word_step rows pending idle word free plain =
    let steps = plain_steps line_shape rows pending idle word plain in
    record { fault = steps.fault ∙ to_words_fault rows pending; after = steps.after ∙ to_words_after rows pending idle word false false refl }
word_step rows pending positional word free plain =
    let steps = plain_steps line_shape rows pending positional word plain in
    record { fault = steps.fault ∙ to_words_fault rows pending; after = steps.after ∙ to_words_after rows pending positional word false false refl }
word_step rows pending (option id) word free plain = absurd free

-- a word after `--`
pub trailing_step : (rows : List Row) (pending : Option (Text × List Text)) (waiting : Waiting) (word : Text)
    → LineSteps (walk_at rows pending waiting true) word (pending_fault rows pending)
    (after_word rows pending word true)
unfolding walked
trailing_step rows pending waiting word = record {
  fault = to_words_fault rows pending;
  after = to_words_after rows pending waiting word true true refl;
}

pub or_else-nil : (kinds : Kinds) → or_else kinds [] ≡ kinds
or_else-nil [] = refl
or_else-nil (k ∷ ks) = refl

-- an option with its value
pub given_step : (rows : List Row) (pending : Option (Text × List Text)) (waiting : Waiting) (word text : Text) (name : OptionName) (given : Text)
    → IsLongWord word text (Some given) → option_named text ≡ Some name
    → LineSteps (walk_at rows pending waiting false) word
    (or_else (pending_fault rows pending) (repeated name (rows_with rows pending)))
    (walk_at (rows_after_value name given (rows_with rows pending)) None idle false)
given_step rows pending waiting word text name given is named =
    let found : arg_by_long line_rules text ≡ Some (rule_for name) =
    by_long text ∙ ap (option_map rule_for) named in
    let h = held_at rows pending in
    let steps = long_steps line_shape rows pending waiting word text (Some given) (Some (rule_for name)) _ is found
    (ap (λ (o : Option Rule). after_flag line_rules waiting word (long_met line_rules o (Some given) h).0 (long_met line_rules o (Some given) h).1) found) in
    record {
      fault = steps.fault ∙ or_else-nil _ ∙ ap (or_else (pending_fault rows pending)) (value_fault-repeated name given (rows_with rows pending));
      after = steps.after;
    }

-- an option whose value is the next word
pub named_step : (rows : List Row) (pending : Option (Text × List Text)) (waiting : Waiting) (word text : Text) (name : OptionName)
    → IsLongWord word text None → option_named text ≡ Some name
    → LineSteps (walk_at rows pending waiting false) word (pending_fault rows pending)
    (walk_at (rows_with rows pending) (Some (id_of name, [])) (option (id_of name)) false)
named_step rows pending waiting word text name is named =
    let found : arg_by_long line_rules text ≡ Some (rule_for name) =
    by_long text ∙ ap (option_map rule_for) named in
    let h = held_at rows pending in
    let steps = long_steps line_shape rows pending waiting word text None (Some (rule_for name)) _ is found
    (ap (λ (o : Option Rule). after_flag line_rules waiting word (long_met line_rules o None h).0 (long_met line_rules o None h).1) found) in
    record {
      fault = steps.fault ∙ or_else-nil _;
      after = steps.after;
    }

-- the value of the option that waits for it
pub value_step : (rows : List Row) (name : OptionName) (word : Text) → IsPlainWord word
    → LineSteps (walk_at rows (Some (id_of name, [])) (option (id_of name)) false) word []
    (walk_at rows (Some (id_of name, word ∷ [])) idle false)
value_step rows Seed word plain =
    plain_steps line_shape rows (Some (codes "seed", [])) (option (codes "seed")) word plain
value_step rows Break word plain =
    plain_steps line_shape rows (Some (codes "break", [])) (option (codes "break")) word plain
value_step rows Count word plain =
    plain_steps line_shape rows (Some (codes "count", [])) (option (codes "count")) word plain
value_step rows Layout word plain =
    plain_steps line_shape rows (Some (codes "layout", [])) (option (codes "layout")) word plain

-- an unknown option is a fault
pub unknown_step : (rows : List Row) (pending : Option (Text × List Text)) (waiting : Waiting) (word text : Text) (given : Option Text)
    → IsLongWord word text given → option_named text ≡ None
    → turn_fault line_shape [] (walk_at rows pending waiting false) word ≡ kind.UnknownArgument ∷ []
unknown_step rows pending waiting word text given is named =
    (long_steps line_shape rows pending waiting word text given None _ is (by_long text ∙ ap (option_map rule_for) named) refl).fault

flags_unknown : (flags : Text) (first : ℕ) (h : Held) (n : ℕ) → 0 < n → slice_get (chars flags) 0 ≡ Some first
    → flags_fault line_rules false n flags 0 h ≡ kind.UnknownArgument ∷ []
unfolding flags_fault
flags_unknown flags first h zero some character = absurd (omega arith)
flags_unknown flags first h (suc n) some character =
    ap
    (λ (o : Option ℕ). bundle_step_fault line_rules false o flags 0 h (flags_fault line_rules false n)) character

first_fault : (a b : Kinds) → a ≡ kind.UnknownArgument ∷ [] → or_else a b ≡ kind.UnknownArgument ∷ []
first_fault a b is = ap (λ (k : Kinds). or_else k b) is

-- and so is a word of one hyphen and more
pub short_step : (rows : List Row) (pending : Option (Text × List Text)) (waiting : Waiting) (word : Text)
    → IsShortWord word
    → turn_fault line_shape [] (walk_at rows pending waiting false) word ≡ kind.UnknownArgument ∷ []
short_step rows pending waiting word is =
    (short_steps line_shape rows pending waiting word is).fault
    ∙ first_fault _ _
    (flags_unknown is.flags is.first (held_at rows pending) (length is.flags) is.some is.character)
