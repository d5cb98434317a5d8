-- The word at a place, and the words behind it.
use Rattle.std.proofs.Common.{◌≡◌, ◌∙◌, ◌<◌, ◌≤◌, ◌+◌, ℕ, zero, suc, refl, sym, ap, List, [], ◌∷◌, drop, length, map, arith}
use Rattle.std.specs.Prelude.{Option, Some, None, Result, Ok, Err, slice_index_or, string_bytes, String}
use Rattle.std.specs.declared.alloc.Global.{Global}
use Rattle.omi_usage.specs.Form.{CommandForm}
use Rattle.omi_usage.specs.Reading.{State, complaint_from, end_of, first_from, mode_after, step_of, step_then, word_or}
use Rattle.omi_usage.specs.declared.complaint.Complaint.{Complaint}
use Rattle.omi_usage.specs.declared.reading.Mode.{Mode}

pub word_at : (words : List (String Global)) (i : ℕ) (word : String Global) → i < length words
    → word ≡ slice_index_or words i word
    → drop i (map string_bytes words) ≡ string_bytes word ∷ drop (i + 1) (map string_bytes words)
word_at [] i word below here = absurd (omega arith)
word_at (x ∷ words) zero word below here = ap (λ (w : String Global). string_bytes w ∷ map string_bytes words) (sym here)
word_at (x ∷ words) (suc i) word below here =
    let step : suc i + 1 ≡ suc (i + 1) = omega arith in
    word_at words i word (omega arith) here
    ∙ ap (λ (n : ℕ). string_bytes word ∷ drop n (string_bytes x ∷ map string_bytes words)) (sym step)

pub none_behind : (words : List (String Global)) (i : ℕ) → length words ≤ i → drop i (map string_bytes words) ≡ []
none_behind [] zero past = refl
none_behind [] (suc i) past = refl
none_behind (word ∷ words) zero past = absurd (omega arith)
none_behind (word ∷ words) (suc i) past = none_behind words i (omega arith)

module _ (words : List (String Global)) (i : ℕ) (word : String Global)
    (below : i < length words) (here : word ≡ slice_index_or words i word) where
  -- the word is refused
  pub stopped : (form : CommandForm) (state : State) (found : Complaint) → step_of form state i (string_bytes word) ≡ Err found
      → complaint_from form (drop i (map string_bytes words)) state i ≡ Some found
  unfolding complaint_from
  stopped form state found is =
      ap (λ (l : List (List ℕ)). complaint_from form l state i) (word_at words i word below here)
      ∙ ap (λ (r : Result State Complaint). step_then r (λ next. complaint_from form (drop (i + 1) (map string_bytes words)) next (i + 1))) is

  -- the words behind it are read
  pub continued : (form : CommandForm) (state next : State) → step_of form state i (string_bytes word) ≡ Ok next
      → complaint_from form (drop i (map string_bytes words)) state i ≡ complaint_from form (drop (i + 1) (map string_bytes words)) next (i + 1)
  unfolding complaint_from
  continued form state next is =
      ap (λ (l : List (List ℕ)). complaint_from form l state i) (word_at words i word below here)
      ∙ ap (λ (r : Result State Complaint). step_then r (λ next. complaint_from form (drop (i + 1) (map string_bytes words)) next (i + 1))) is

  -- it is the first positional word
  pub first_here : (m : Mode) → mode_after m (string_bytes word) ≡ None
      → first_from (drop i (map string_bytes words)) m ≡ Some (string_bytes word)
  unfolding first_from
  first_here m is =
      ap (λ (l : List (List ℕ)). first_from l m) (word_at words i word below here)
      ∙ ap (λ (o : Option Mode). word_or (string_bytes word) o (first_from (drop (i + 1) (map string_bytes words)))) is

  pub first_later : (m next : Mode) → mode_after m (string_bytes word) ≡ Some next
      → first_from (drop i (map string_bytes words)) m ≡ first_from (drop (i + 1) (map string_bytes words)) next
  unfolding first_from
  first_later m next is =
      ap (λ (l : List (List ℕ)). first_from l m) (word_at words i word below here)
      ∙ ap (λ (o : Option Mode). word_or (string_bytes word) o (first_from (drop (i + 1) (map string_bytes words)))) is

pub ended : (words : List (String Global)) (i : ℕ) (form : CommandForm) (state : State) → length words ≤ i
    → complaint_from form (drop i (map string_bytes words)) state i ≡ end_of form state i
unfolding complaint_from
ended words i form state past = ap (λ (l : List (List ℕ)). complaint_from form l state i) (none_behind words i past)

pub first_none : (words : List (String Global)) (i : ℕ) (m : Mode) → length words ≤ i
    → first_from (drop i (map string_bytes words)) m ≡ None
unfolding first_from
first_none words i m past = ap (λ (l : List (List ℕ)). first_from l m) (none_behind words i past)
