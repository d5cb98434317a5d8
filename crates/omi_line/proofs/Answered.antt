-- From the answer of `clap` to the answer of a split.
use Rattle.std.proofs.Common.{◌≡◌, ◌∙◌, zero, suc, false, refl, sym, ap, subst, List, [], ◌∷◌, map, Option, Some, None, Result, Ok, Err, IsErrAnd, IsErrOf, arith, codes}
use Rattle.std.specs.Prelude.{option_and_then, option_map, slice_get, unwrap_or, string_bytes, String}
use Rattle.std.specs.List.{All}
use Rattle.std.specs.Str.{IsUtf8}
use Rattle.std.specs.declared.alloc.Global.{Global}
use Rattle.std.proofs.lemmas.Str.{IsUtf8-string_bytes}
use Rattle.clap.specs.Faults.{fault_of}
use Rattle.clap.specs.Kinds.{Kinds, IsAmong}
use Rattle.clap.specs.Simple.{matches_of}
use Rattle.clap.specs.Walk.{Row, Text, all_of, first_of}
use Rattle.clap.specs.Words.{first_value, matched_of, raw_values}
use Rattle.clap.specs.Walk.{rows_of}
use Rattle.clap.specs.declared.error.kind.ErrorKind.{ErrorKind}
use Rattle.clap.specs.declared.error.kind.ErrorKind.TheVariants as kind
use Rattle.clap.specs.declared.parser.matches.Found.{Found}
use Rattle.clap.proofs.WalkLemmas.{first_value-rows, raw_values-rows}
use Rattle.omi_line.specs.declared.line.Line.{Line}
use Rattle.omi_line.specs.declared.line.LineError.{LineError}
use Rattle.omi_line.specs.declared.line.LineError.TheVariants as error
use Rattle.omi_line.specs.LineError.{line_error_of}
use Rattle.omi_line.specs.Command.{line_app}
use Rattle.omi_line.specs.Hyphen.{gives_hyphen}
use Rattle.omi_line.specs.Line.{split_of, value_in}
use Rattle.omi_line.specs.Word.{OptionName, Seed, Break, Count, Layout}
use Rattle.omi_line.proofs.Matches.{reads_line}
use Rattle.omi_line.proofs.Rows.{first_of-all_of}
use Rattle.omi_line.proofs.Shown.{Shows, id_of, words_id}
use Rattle.omi_line.proofs.Splits.{Reads}

-- the words of a list of strings are text
pub all_text : (words : List (String Global)) → All IsUtf8 (map string_bytes words)
all_text [] k d below = absurd (omega arith)
all_text (word ∷ words) zero d below = IsUtf8-string_bytes word
all_text (word ∷ words) (suc k) d below = all_text words k d (omega arith)

-- the line has what the rows have
pub record HasRows (line : Line) (rows : List Row) : Type 0 where
  pub words : line.words ≡ unwrap_or (all_of words_id rows) []
  pub seed : line.seed ≡ first_of (codes "seed") rows
  pub on : line.on ≡ first_of (codes "break") rows
  pub count : line.count ≡ first_of (codes "count") rows
  pub layout : line.layout ≡ first_of (codes "layout") rows

first_shown : (name : OptionName) (rows : List Row) (line : Line) → Shows rows line
    → first_of (id_of name) rows ≡ value_in name line
first_shown name rows line shown = first_of-all_of (id_of name) rows
    ∙ ap (option_and_then (λ (values : List Text). slice_get values 0)) (shown.values name)
    ∙ go (value_in name line)
  where
    go : (value : Option Text)
        → option_and_then (λ (values : List Text). slice_get values 0) (option_map (λ (v : Text). v ∷ []) value) ≡ value
    go None = refl
    go (Some value) = refl

-- the rows show one line alone
shown_line : (rows : List Row) (shown line : Line) → Shows rows shown → HasRows line rows → shown ≡ line
shown_line rows shown line shows has =
    let words : shown.words ≡ line.words = sym shows.words ∙ sym has.words in
    let seed : shown.seed ≡ line.seed = sym (first_shown Seed rows shown shows) ∙ sym has.seed in
    let on : shown.on ≡ line.on = sym (first_shown Break rows shown shows) ∙ sym has.on in
    let count : shown.count ≡ line.count = sym (first_shown Count rows shown shows) ∙ sym has.count in
    let layout : shown.layout ≡ line.layout = sym (first_shown Layout rows shown shows) ∙ sym has.layout in
    λ i. record { words = words i; seed = seed i; on = on i; count = count i; layout = layout i }

pub line_read : (texts : List Text) (line : Line) → All IsUtf8 texts → gives_hyphen texts false ≡ false
    → fault_of line_app texts ≡ []
    → HasRows line (matches_of line_app texts) → split_of texts ≡ Some line
line_read texts line utf8 hyphen clear has = go (split_of texts) (reads_line texts utf8 hyphen)
  where
    go : (answer : Option Line) → Reads (fault_of line_app texts) (matches_of line_app texts) answer
        → answer ≡ Some line
    go None reads = absurd (reads clear)
    go (Some shown) reads =
        ap (λ (l : Line). Some l) (shown_line (matches_of line_app texts) shown line reads.1 has)

pub line_refused : (texts : List Text) → All IsUtf8 texts → gives_hyphen texts false ≡ false
    → (fault_of line_app texts ≡ [] → ⊥) → split_of texts ≡ None
line_refused texts utf8 hyphen fault = go (split_of texts) (reads_line texts utf8 hyphen)
  where
    go : (answer : Option Line) → Reads (fault_of line_app texts) (matches_of line_app texts) answer
        → answer ≡ None
    go None reads = refl
    go (Some shown) reads = absurd (fault reads.0)

-- what the getters of the matches read, by the rows
pub has_rows : (found : Found) (rows : List Row) (line : Line) → rows_of found ≡ rows
    → line.words ≡ unwrap_or (option_map raw_values (matched_of found words_id)) []
    → line.seed ≡ first_value found (codes "seed") → line.on ≡ first_value found (codes "break")
    → line.count ≡ first_value found (codes "count") → line.layout ≡ first_value found (codes "layout") → HasRows line rows
has_rows found rows line are words seed on count layout = record {
  words = words ∙ ap (λ (o : Option (List Text)). unwrap_or o []) (raw_values-rows found words_id ∙ ap (all_of words_id) are);
  seed = seed ∙ first_value-rows found (codes "seed") ∙ ap (first_of (codes "seed")) are;
  on = on ∙ first_value-rows found (codes "break") ∙ ap (first_of (codes "break")) are;
  count = count ∙ first_value-rows found (codes "count") ∙ ap (first_of (codes "count")) are;
  layout = layout ∙ first_value-rows found (codes "layout") ∙ ap (first_of (codes "layout")) are;
}

-- Usage isn't answered for want of memory
pub usage_kind : {T : Type 0} (r : Result T LineError) (k : ErrorKind) → IsErrAnd r (λ e. e ≡ line_error_of k)
    → IsErrOf r error.Usage → k ≡ kind.OutOfMemory → ⊥
usage_kind (Ok x) k gives is memory = gives
usage_kind (Err e) k gives is memory =
    let usage : e ≡ error.Usage = cc in
    let clash : error.Usage ≡ error.OutOfMemory = sym usage ∙ gives ∙ ap line_error_of memory in
    cc

-- a list with an element isn't empty
pub among_some : (k : ErrorKind) (kinds : Kinds) → IsAmong k kinds → kinds ≡ [] → ⊥
among_some k kinds among none = subst (IsAmong k) none among
