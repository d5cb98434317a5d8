-- The lines of the events from one on.
use Rattle.std.proofs.Common.{◌≡◌, ◌+◌, ◌++◌, ℕ, suc, List, [], ◌∷◌, drop, refl, sym, ap, ◌∙◌, arith}
use Rattle.std.specs.Prelude.{Some, slice_get}
use Rattle.std.proofs.Math.Seq.{drop-cons}
use Rattle.std.proofs.lemmas.List.{append_assoc, append-nil, length-append}
use Rattle.std.proofs.lemmas.Option.{get_or_from_slice_get, slice_get_within}
use Rattle.omi_model.specs.declared.event.Event.{Event}
use Rattle.omi_text.specs.Events.{event_line}
use Rattle.omi_commands.specs.EventLines.{AreLinesOf, event_lines}

lines_from : (es : List (ℕ × ℕ × Event)) (i : ℕ) (x : ℕ × ℕ × Event) → slice_get es i ≡ Some x
    → event_lines (drop i es) ≡ event_line x.0 x.1 x.2 ++ event_lines (drop (i + 1) es)
lines_from es i x is =
    let one : suc i ≡ i + 1 = omega arith in
    ap event_lines (drop-cons es i x (slice_get_within es i x is))
    ∙ ap (λ (y : ℕ × ℕ × Event). event_line y.0 y.1 y.2 ++ event_lines (drop (suc i) es))
    (get_or_from_slice_get es i x x is)
    ∙ ap (λ j. event_line x.0 x.1 x.2 ++ event_lines (drop j es)) one

-- the line of an event is added
pub one_line_more : (text now all : List ℕ) (es : List (ℕ × ℕ × Event)) (i : ℕ) (x : ℕ × ℕ × Event)
    → slice_get es i ≡ Some x → now ≡ text ++ event_line x.0 x.1 x.2 → text ++ event_lines (drop i es) ≡ all
    → now ++ event_lines (drop (i + 1) es) ≡ all
one_line_more text now all es i x is added so_far =
    ap (λ t. t ++ event_lines (drop (i + 1) es)) added
    ∙ append_assoc text (event_line x.0 x.1 x.2) (event_lines (drop (i + 1) es))
    ∙ ap (λ t. text ++ t) (sym (lines_from es i x is))
    ∙ so_far

lines_of_both : (es fs : List (ℕ × ℕ × Event)) → event_lines (es ++ fs) ≡ event_lines es ++ event_lines fs
lines_of_both [] fs = refl
lines_of_both (e ∷ es) fs =
    ap (λ t. event_line e.0 e.1 e.2 ++ t) (lines_of_both es fs)
    ∙ sym (append_assoc (event_line e.0 e.1 e.2) (event_lines es) (event_lines fs))

-- an event is recorded
pub one_recorded : (text now : List ℕ) (count more : ℕ) (items : List (ℕ × ℕ × Event)) (x : ℕ × ℕ × Event)
    → AreLinesOf text count items → now ≡ text ++ event_line x.0 x.1 x.2 → more ≡ count + 1
    → AreLinesOf now more (items ++ x ∷ [])
one_recorded text now count more items x are added one =
    let line = event_line x.0 x.1 x.2 in
    record {
      text_is =
          added
          ∙ ap (λ t. t ++ line) are.text_is
          ∙ ap (λ t. event_lines items ++ t) (sym (append-nil line))
          ∙ sym (lines_of_both items (x ∷ []));
      count_is = one ∙ ap (λ n. n + 1) are.count_is ∙ sym (length-append items (x ∷ []));
    }
