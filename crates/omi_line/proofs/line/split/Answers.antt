use Rattle.std.proofs.Common.{◌≡◌, ◌∙◌, inl, inr, ap, ap₂, sym, false, true, [], List, map, string_bytes, String}
use Rattle.std.specs.declared.alloc.Global.{Global}
use Rattle.clap.specs.Kinds.{IsAmong}
use Rattle.clap.specs.Walk.{rows_of}
use Rattle.clap.specs.Words.{app_of, fault_of, found_of, is_simple, is_simple_and_free, kind_of, matches_of}
use Rattle.omi_line.specs.Command.{line_app}
use Rattle.omi_line.specs.Hyphen.{gives_hyphen}
use Rattle.omi_line.proofs.Answered.{all_text, among_some, has_rows, line_read, line_refused, usage_kind}
use Rattle.omi_line.proofs.Textual.{line_text}
use Rattle.omi_line.proofs.Hyphens.{refuses_line}
use Rattle.omi_line.proofs.line.split.Goals as goal

pub returns-then-has_hyphen_value-clause-usage : goal.returns-then-has_hyphen_value-clause-usage
returns-then-has_hyphen_value-clause-usage c = λ usage.
    let hyphen : gives_hyphen (map string_bytes c.args.words.now.items) false ≡ true =
    ap (λ (words : List (String Global)). gives_hyphen (map string_bytes words) false)
    (sym c.deref.ensures.value)
    ∙ sym c.if-has_hyphen_value.ensures in
    refuses_line (map string_bytes c.args.words.now.items) hyphen

pub returns-in_err-matches-clause-usage : goal.returns-in_err-matches-clause-usage
returns-in_err-matches-clause-usage c = λ usage.
    let texts = map string_bytes c.args.words.now.items in
    let app : app_of c.in_ok-command.field-0 ≡ line_app = c.in_ok-command.ensures in
    let same : map string_bytes c.as_slice.result.now ≡ texts =
    ap (map string_bytes) c.as_slice.ensures.value in
    let hyphen : gives_hyphen texts false ≡ false =
    ap (λ (words : List (String Global)). gives_hyphen (map string_bytes words) false)
    (sym c.deref.ensures.value)
    ∙ sym c.if-has_hyphen_value.ensures in
    let among : IsAmong (kind_of c.in_err-matches.field-0.0) (fault_of (app_of c.in_ok-command.field-0) (map string_bytes c.as_slice.result.now)) =
    elim (c.in_err-matches.ensures.kinds (ap is_simple_and_free app)) [
      | inl memory ↦ absurd (usage_kind c.from_residual-in_err-matches.result (kind_of c.in_err-matches.field-0.0) c.from_residual-in_err-matches.ensures.1 usage memory)
      | inr one ↦ one
    ] in
    line_refused texts (all_text c.args.words.now.items) hyphen
    (λ clear. among_some _ _ among (ap₂ fault_of app same ∙ clear))

pub returns-clause-line : goal.returns-clause-line
returns-clause-line c =
    let texts = map string_bytes c.args.words.now.items in
    let app : app_of c.in_ok-command.field-0 ≡ line_app = c.in_ok-command.ensures in
    let same : map string_bytes c.as_slice.result.now ≡ texts =
    ap (map string_bytes) c.as_slice.ensures.value in
    let hyphen : gives_hyphen texts false ≡ false =
    ap (λ (words : List (String Global)). gives_hyphen (map string_bytes words) false)
    (sym c.deref.ensures.value)
    ∙ sym c.if-has_hyphen_value.ensures in
    let clear : fault_of line_app texts ≡ [] =
    ap₂ fault_of (sym app) (sym same) ∙ c.in_ok-matches.ensures.kinds (ap is_simple_and_free app) in
    let rows : rows_of (found_of c.in_ok-matches.matches) ≡ matches_of line_app texts =
    (c.in_ok-matches.ensures.matches (ap is_simple app)).0 ∙ ap₂ matches_of app same in
    line_read texts _ (all_text c.args.words.now.items) hyphen clear
    (has_rows (found_of c.in_ok-matches.matches) (matches_of line_app texts) _ rows c.in_ok-words_of.ensures c.in_ok-value_of.ensures c.in_ok-value_of-2.ensures c.in_ok-value_of-3.ensures c.in_ok-value_of-4.ensures)

pub returns-clause-text : goal.returns-clause-text
returns-clause-text c =
    line_text (map string_bytes c.args.words.now.items) _ (all_text c.args.words.now.items)
    (returns-clause-line c)
