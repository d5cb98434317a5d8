-- The whole parse of a line: its fault and its rows.
use Rattle.std.proofs.Common.{◌≡◌, ◌∙◌, ◌||◌, Bool, true, false, cond, refl, ap, ap₂, List, [], ◌∷◌, None, length, arith}
use borrow.Author.Tests.{eqb-true}
use Rattle.std.specs.Prelude.{fold}
use Rattle.std.specs.List.{All, list_all}
use Rattle.std.specs.Str.{IsUtf8}
use Rattle.clap.specs.Kinds.{Kinds, or_else}
use Rattle.clap.specs.Faults.{check_fault, default_fault, defaults_fault, fault_of, settle_fault, walk_fault}
use Rattle.clap.specs.Simple.{built, matches_of}
use Rattle.clap.specs.Walk.{Row, Rule, Text, finished, has_row, idle, is_empty, nothing_held, with_default}
use Rattle.clap.proofs.FaultLemmas.{leaf_fault}
use Rattle.clap.proofs.WalkLemmas.{both}
use Rattle.omi_line.specs.Command.{line_app}
use Rattle.omi_line.specs.Line.{empty_line, split_of}
use Rattle.omi_line.specs.Hyphen.{gives_hyphen}
use Rattle.omi_line.proofs.Shown.{shows_empty}
use Rattle.omi_line.proofs.Steps.{walk_at}
use Rattle.omi_line.proofs.Rules.{line_rules, line_shape, or_else-nil}
use Rattle.omi_line.proofs.Splits.{Reads, end_of, fault_from, reads_as, reads_words, rows_from}

-- no argument has a default value

no_items : {X : Type 0} (xs : List X) → is_empty xs ≡ true → xs ≡ []
no_items [] is = refl
no_items (x ∷ xs) is = absurd (omega (arith, eqb-true (length (x ∷ xs)) 0 is))

no_default_fault : (a : Rule) (rows : List Row) → is_empty a.defaults ≡ true → default_fault rows a ≡ []
no_default_fault a rows is = rw is (go (has_row a.id rows) _)
  where
    go : (has : Bool) (kinds : Kinds) → cond (has || true) [] kinds ≡ []
    go true kinds = refl
    go false kinds = refl

no_default : (a : Rule) (rows : List Row) → is_empty a.defaults ≡ true → with_default rows a ≡ rows
no_default a rows is = rw (no_items a.defaults is) (go (has_row a.id rows))
  where
    go : (has : Bool) → cond has rows rows ≡ rows
    go true = refl
    go false = refl

no_defaults_fault : (rules : List Rule) (rows : List Row) → list_all (λ a. is_empty a.defaults) rules ≡ true
    → defaults_fault rows rules ≡ []
unfolding defaults_fault
no_defaults_fault [] rows is = refl
no_defaults_fault (a ∷ rules) rows is =
    let parts = both (is_empty a.defaults) _ is in
    ap₂ or_else (no_default_fault a rows parts.0) (no_defaults_fault rules (with_default rows a) parts.1)

no_defaults : (rules : List Rule) (rows : List Row) → list_all (λ a. is_empty a.defaults) rules ≡ true
    → fold with_default rows rules ≡ rows
no_defaults [] rows is = refl
no_defaults (a ∷ rules) rows is =
    let parts = both (is_empty a.defaults) _ is in
    ap (λ (r : List Row). fold with_default r rules) (no_default a rows parts.0)
    ∙ no_defaults rules rows parts.1

-- the parse has the fault of the walk, and its rows

parse_fault : (words : List Text) → fault_of line_app words ≡ fault_from (walk_at [] None idle false) words
parse_fault words =
    let start = walk_at [] None idle false in
    let walked = walk_fault line_shape [] start words in
    let at_end = settle_fault line_rules false (end_of start words) in
    let last : or_else (defaults_fault (rows_from start words) line_rules) (check_fault line_shape (finished line_rules (end_of start words)) false) ≡ [] =
    ap₂ or_else (no_defaults_fault line_rules (rows_from start words) refl) refl in
    leaf_fault (built line_app) nothing_held words refl
    ∙ ap (λ (kinds : Kinds). or_else walked (or_else at_end kinds)) last
    ∙ ap (or_else walked) (or_else-nil at_end)

parse_rows : (words : List Text) → matches_of line_app words ≡ rows_from (walk_at [] None idle false) words
parse_rows words = no_defaults line_rules _ refl

pub reads_line : (words : List Text) → All IsUtf8 words → gives_hyphen words false ≡ false
    → Reads (fault_of line_app words) (matches_of line_app words) (split_of words)
reads_line words utf8 hyphen = reads_as _ _ _ _ (split_of words) (parse_fault words) (parse_rows words)
    ((reads_words words utf8).free [] None idle empty_line tt refl shows_empty hyphen)
