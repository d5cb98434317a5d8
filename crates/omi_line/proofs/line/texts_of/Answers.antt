use Rattle.std.proofs.Common.{◌≡◌, ◌∙◌, ◌<◌, ◌+◌, ℕ, List, [], ◌∷◌, ◌++◌, length, map, take, ap, ap₂, sym, rules, Bor, suc, arith}
use Rattle.std.specs.Prelude.{slice_index_or}
use Rattle.std.proofs.lemmas.List.{map_push}
use Rattle.std.proofs.Math.Seq.{take-suc}
use Rattle.omi_line.proofs.line.texts_of.Goals as goal

abbrev text_of : Bor (List ℕ) → List ℕ
text_of word = word.now

-- one more text
text_more : (words : List (Bor (List ℕ))) (i : ℕ) (none : Bor (List ℕ)) (texts after : List (List ℕ)) (text : List ℕ)
    → i < length words
    → texts ≡ map text_of (take i words) → text ≡ (slice_index_or words i none).now → after ≡ texts ++ text ∷ [] → after ≡ map text_of (take (i + 1) words)
text_more words i none texts after text below so_far is added =
    let next : suc i ≡ i + 1 = omega arith in
    added
    ∙ ap₂ (λ (xs : List (List ℕ)) (x : List ℕ). xs ++ x ∷ []) so_far is
    ∙ sym (map_push text_of (take i words) (slice_index_or words i none))
    ∙ ap (map text_of) (sym (take-suc words i none below)) ∙ ap (λ (n : ℕ). map text_of (take n words)) next

pub loop-word-preserved : goal.loop-word-preserved
loop-word-preserved c =
    text_more c.args.words.now c.loop-word.word-index _ c.loop-word.texts _ c.in_ok-of.field-0
    (search rules) c.loop-word.invariant c.in_ok-of.ensures c.in_ok-push.ensures.added
