-- The words of members in a row.
use Rattle.std.proofs.Common.{◌≡◌, ℕ, List, [], ◌∷◌, ◌++◌, map, refl, sym, ap, ◌∙◌, append_assoc}
use Rattle.std.specs.List.{flat_map}
use Rattle.omi_model.specs.declared.id.Tid.{Tid}
use Rattle.omi_text.specs.Events.{member_word}
use Rattle.omi_text.specs.Lines.{line}

-- a word and then the members, each behind a space
pub line_of_team : (word : List ℕ) (team : List (Tid × ℕ))
    → line (word ∷ map member_word team) ≡ word ++ (flat_map (λ m. 32 ∷ member_word m) team ++ 10 ∷ [])
line_of_team word [] = refl
line_of_team word (m ∷ ms) =
    ap (λ (rest : List ℕ). word ++ 32 ∷ rest)
    (line_of_team (member_word m) ms ∙ sym (append_assoc (member_word m) (flat_map (λ n. 32 ∷ member_word n) ms) (10 ∷ [])))

-- a text that got the word, and then the members
pub with_word : (old mid new word : List ℕ) (team : List (Tid × ℕ)) → mid ≡ old ++ word
    → new ≡ mid ++ (flat_map (λ m. 32 ∷ member_word m) team ++ 10 ∷ [])
    → new ≡ old ++ line (word ∷ map member_word team)
with_word old mid new word team first then =
    let members : List ℕ = flat_map (λ m. 32 ∷ member_word m) team ++ 10 ∷ [] in
    then
    ∙ ap (λ (t : List ℕ). t ++ members) first
    ∙ append_assoc old word members
    ∙ ap (λ (t : List ℕ). old ++ t) (sym (line_of_team word team))
