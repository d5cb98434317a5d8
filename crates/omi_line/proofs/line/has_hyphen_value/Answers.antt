use Rattle.std.proofs.Common.{◌≡◌, ◌∙◌, ◌&&◌, ap, sym, rules, string_bytes, true, false, Bool, refl, List, ℕ, ◌+◌, drop, map}
use Rattle.omi_line.specs.Hyphen.{gives_hyphen, is_lone_hyphen, is_named}
use Rattle.omi_line.specs.Word.{word_kind}
use Rattle.omi_line.proofs.Sees.{is_rest}
use Rattle.omi_line.proofs.Hyphens.{hyphen_end, hyphen_found, hyphen_more, hyphen_rest}
use Rattle.omi_line.proofs.line.has_hyphen_value.Goals as goal
use Rattle.omi_line.proofs.line.has_hyphen_value.Goals.{else-is_waiting-via-then-is_waiting+else-eq-2, else-is_waiting-via-else-is_waiting}

passed : (a b : Bool) → b ≡ false → (a && b) ≡ false
passed true b is = is
passed false b is = refl

pub returns-then-eq : goal.returns-then-eq
returns-then-eq c =
    let is : is_rest (string_bytes c.word-item.result) ≡ true =
    ap is_rest (sym c.as_str-word.ensures.value) ∙ sym c.if-eq.ensures in
    sym
    (hyphen_rest c.args.words.now c.loop-word.word-index c.word-item.result c.loop-word.is_waiting (search rules) c.word-item.is is)
    ∙ c.loop-word.invariant

pub returns-then-eq-2 : goal.returns-then-eq-2
returns-then-eq-2 c =
    let is : is_lone_hyphen (string_bytes c.word-item.result) ≡ true =
    ap is_lone_hyphen (sym c.as_str-word.ensures.value) ∙ sym c.if-eq-2.ensures in
    sym
    (hyphen_found c.args.words.now c.loop-word.word-index c.word-item.result c.loop-word.is_waiting (search rules) c.word-item.is c.if-is_waiting.true is)
    ∙ c.loop-word.invariant

pub loop-word-preserved : goal.loop-word-preserved
loop-word-preserved c =
    let text = c.as_str-word.result.now in
    let is : is_rest (string_bytes c.word-item.result) ≡ false =
    ap is_rest (sym c.as_str-word.ensures.value) ∙ sym c.if-eq.ensures in
    let lone : (c.loop-word.is_waiting && is_lone_hyphen (string_bytes c.word-item.result)) ≡ false =
    elim c.else-is_waiting.branch [
      | else-is_waiting-via-then-is_waiting+else-eq-2 w ↦ passed c.loop-word.is_waiting _ (ap is_lone_hyphen (sym c.as_str-word.ensures.value) ∙ sym w.if-eq-2.ensures)
      | else-is_waiting-via-else-is_waiting w ↦ ap (λ (b : Bool). b && is_lone_hyphen (string_bytes c.word-item.result)) w.if-is_waiting.false
    ] in
    let named : c.is_option-is_waiting.result ≡ is_named (word_kind (string_bytes c.word-item.result)) =
    c.is_option-is_waiting.ensures
    ∙ ap (λ (t : List ℕ). is_named (word_kind t)) c.as_str-word.ensures.value in
    ap (gives_hyphen (drop (c.loop-word.word-index + 1) (map string_bytes c.args.words.now))) named
    ∙ hyphen_more c.args.words.now c.loop-word.word-index c.word-item.result c.loop-word.is_waiting
    (search rules) c.word-item.is is lone
    ∙ c.loop-word.invariant

pub returns : goal.returns
returns c =
    sym (hyphen_end c.args.words.now c.loop-word.word-index c.loop-word.is_waiting (search rules))
    ∙ c.loop-word.invariant
