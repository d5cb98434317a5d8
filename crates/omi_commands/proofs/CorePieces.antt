-- What is told of a file while the core of an image is written to it in pieces.
use Rattle.std.proofs.Common.{◌≡◌, ℕ, ◌+◌, ◌*◌, ◌-◌, ◌/◌, ◌%◌, ◌<◌, ◌≤◌, List, [], ◌++◌, length, min, take, drop, inr, refl, sym, ap, ◌∙◌, append_assoc, take-add, length-append, take_all, arith}
use Rattle.std.proofs.lemmas.Grind.{flat_map-append}
use Rattle.std.proofs.lemmas.List.{append-nil, length-drop, length-take, take-append-drop}
use Rattle.std.proofs.Math.Seq.{take-append_seam}
use Rattle.omi_outside.specs.Outside.{Told, holding, extended, IsCut}
use Rattle.omi_outside.specs.declared.limits.TheConstants.{PIECE}
use Rattle.omi_outside.proofs.Pieces.{extended-holding}
use Rattle.omi_script.specs.declared.limits.TheConstants.{MAX_THREADS}
use Rattle.omi_word.specs.declared.limits.TheConstants.{FIRST_ADDRESS}
use Rattle.omi_corefile.specs.ByteOrder.{word_bytes}
use Rattle.omi_corefile.specs.Spelling.{header, numbers, eight_bytes, words_in, core_bytes}
use Rattle.omi_corefile.proofs.Lengths.{length-words_in, length-numbers}

-- what stands before the words
abbrev pub front : List ℕ → List ℕ → List ℕ
front ids words = header 0 (length ids) 1 ++ numbers ids ++ eight_bytes FIRST_ADDRESS ++ eight_bytes (length words)

whole : (ids words : List ℕ) → core_bytes ids words ≡ front ids words ++ words_in 0 words
whole ids words = refl

length-front : (ids words : List ℕ) → length (front ids words) ≡ 32 + 8 * length ids
length-front ids words =
    let fields : List ℕ = header 0 (length ids) 1 in
    let ns : List ℕ = numbers ids in
    let start : List ℕ = eight_bytes FIRST_ADDRESS in
    let count : List ℕ = eight_bytes (length words) in
    omega
    (arith, length-append (fields ++ ns ++ start) count, length-append (fields ++ ns) start, length-append fields ns, length-numbers ids)

-- so many words were taken up: the bytes that were written are whole pieces as long as words are left, and the rest stands in the piece
pub record IsUnderWay (ids words : List ℕ) (old now : Told) (piece : List ℕ) (at : ℕ) : Type 0 where
  pub done : List ℕ
  pub count : ℕ
  pub held : now ≡ holding old done
  pub so_far : done ++ piece ≡ front ids words ++ words_in 0 (take at words)
  pub pieces : at < length words → length done ≡ count * PIECE
  pub within : at ≤ length words
  pub small : length piece ≤ 32 + 8 * MAX_THREADS
  pub aligned : length piece % 8 ≡ 0
  pub emptied : 0 < at → piece ≡ []

module _ (ids words : List ℕ) (old : Told) where
  -- before the first word
  pub begins : (now : Told) (piece : List ℕ) → length ids ≤ MAX_THREADS → now ≡ holding old [] → piece ≡ front ids words
      → IsUnderWay ids words old now piece 0
  begins now piece few created is =
      let len : length piece ≡ 32 + 8 * length ids = ap (λ (l : List ℕ). length l) is ∙ length-front ids words in
      record {
        done = [];
        count = 0;
        held = created;
        so_far = is ∙ sym (append-nil (front ids words));
        pieces = λ some. refl;
        within = omega arith;
        small = omega (arith, len, few);
        aligned = omega (arith, len);
        emptied = λ less. absurd (omega (arith, less));
      }

  module _ (now : Told) (piece full : List ℕ) (at end : ℕ) (way : IsUnderWay ids words old now piece at) (left : at < length words)
      (is_end : end ≡ at + min ((PIECE - length piece) / 8) (length words - at))
      (is_full : full ≡ piece ++ words_in 0 (take (end - at) (drop at words))) where
    added : words_in 0 (take at words) ++ words_in 0 (take (end - at) (drop at words)) ≡ words_in 0 (take end words)
    added =
        let place : at + (end - at) ≡ end = omega (arith, is_end) in
        sym (flat_map-append (word_bytes 0) (take at words) (take (end - at) (drop at words)))
        ∙ ap (λ (ws : List ℕ). words_in 0 ws) (sym (take-add at (end - at) words) ∙ ap (λ (n : ℕ). take n words) place)

    so_far : way.done ++ full ≡ front ids words ++ words_in 0 (take end words)
    so_far =
        ap (λ (l : List ℕ). way.done ++ l) is_full
        ∙ sym (append_assoc way.done piece (words_in 0 (take (end - at) (drop at words))))
        ∙ ap (λ (l : List ℕ). l ++ words_in 0 (take (end - at) (drop at words))) way.so_far
        ∙ append_assoc (front ids words) (words_in 0 (take at words)) (words_in 0 (take (end - at) (drop at words)))
        ∙ ap (λ (l : List ℕ). front ids words ++ l) added

    long : length full ≡ length piece + 8 * (end - at)
    long =
        ap (λ (l : List ℕ). length l) is_full
        ∙ length-append piece (words_in 0 (take (end - at) (drop at words)))
        ∙ ap (λ (n : ℕ). length piece + n)
        (length-words_in 0 (take (end - at) (drop at words))
        ∙ ap (λ (n : ℕ). 8 * n) (length-take (end - at) (drop at words) ∙ omega (arith, length-drop at words, is_end)))

    -- one piece more
    pub goes_on : (after : Told) → after ≡ extended now full → IsUnderWay ids words old after [] end
    goes_on after appended = record {
      done = way.done ++ full;
      count = way.count + 1;
      held = appended ∙ ap (λ (t : Told). extended t full) way.held ∙ extended-holding old way.done full;
      so_far = append-nil (way.done ++ full) ∙ so_far;
      pieces = λ more. omega (arith, length-append way.done full, way.pieces left, long, is_end, more, way.small, way.aligned);
      within = omega (arith, is_end, left);
      small = omega arith;
      aligned = refl;
      emptied = λ less. refl;
    }

  -- a call is refused while words are left
  pub cut : (now : Told) (piece : List ℕ) (at : ℕ) → IsUnderWay ids words old now piece at → at < length words
      → IsCut old now (core_bytes ids words)
  cut now piece at way left =
      let rest : List ℕ = piece ++ words_in 0 (drop at words) in
      let all : core_bytes ids words ≡ way.done ++ rest =
      whole ids words
      ∙ ap (λ (ws : List ℕ). front ids words ++ words_in 0 ws) (sym (take-append-drop at words))
      ∙ ap (λ (l : List ℕ). front ids words ++ l) (flat_map-append (word_bytes 0) (take at words) (drop at words))
      ∙ sym (append_assoc (front ids words) (words_in 0 (take at words)) (words_in 0 (drop at words)))
      ∙ ap (λ (l : List ℕ). l ++ words_in 0 (drop at words)) (sym way.so_far)
      ∙ append_assoc way.done piece (words_in 0 (drop at words)) in
      let more : 0 < length rest = omega (arith, length-append piece (words_in 0 (drop at words)), length-words_in 0 (drop at words), length-drop at words, left) in
      let long : length (core_bytes ids words) ≡ length way.done + length rest = ap (λ (l : List ℕ). length l) all ∙ length-append way.done rest in
      inr (
        way.count,
        omega (arith, way.pieces left, long, more),
        way.held
            ∙ ap (holding old)
            (sym
            (ap (λ (l : List ℕ). take (way.count * PIECE) l) all
            ∙ ap (λ (n : ℕ). take n (way.done ++ rest)) (sym (way.pieces left))
            ∙ take-append_seam way.done rest)),
      )

  -- all words were taken up
  pub ends : (now : Told) (piece : List ℕ) (at : ℕ) → IsUnderWay ids words old now piece at → 0 < length words → length words ≤ at
      → now ≡ holding old (core_bytes ids words)
  ends now piece at way some all =
      let empty : piece ≡ [] = way.emptied (omega (arith, some, all)) in
      way.held
      ∙ ap (holding old)
      (sym (append-nil way.done) ∙ ap (λ (l : List ℕ). way.done ++ l) (sym empty) ∙ way.so_far
      ∙ ap (λ (ws : List ℕ). front ids words ++ words_in 0 ws) (take_all at words all) ∙ sym (whole ids words))
