-- Lines of words with one space between them: what they are cut into again.
use Rattle.std.proofs.Common.{◌≡◌, ℕ, Bool, true, false, not, cond, ◌&&◌, ◌==◌, List, [], ◌∷◌, ◌++◌, length, filter, refl, ap, ◌∙◌, arith}
use Rattle.std.specs.Prelude.{nat_le, flat_map}
use Rattle.std.specs.List.{All, list_all, join_with_byte, slice_split}
use Rattle.std.proofs.lemmas.Bool.Decides.{nat_tests}
use Rattle.std.proofs.lemmas.List.{append_assoc}
use Rattle.std.proofs.lemmas.List.Folds.{list_all-append}
use Rattle.std.proofs.lemmas.List.Splits.{slice_split_none, slice_split_at}
use Rattle.std.proofs.lemmas.List.Sums.{AllPass-from_list_all}
use Rattle.omi_script.specs.Lines.{is_blank, is_line_feed, is_text, lines, without_last_empty, words}
use Rattle.omi_script.specs.Names.{is_within}
use Rattle.omi_script.proofs.Conjunctions.{and_left, and_right, and_true}

-- a byte of a word
abbrev pub is_ink : ℕ → Bool
is_ink b = is_within 33 126 b

-- a word: some bytes, none of which separates words
abbrev pub is_plain : List ℕ → Bool
is_plain w = nat_le 1 (length w) && list_all is_ink w

-- a byte of a word or a space
abbrev pub is_printed : ℕ → Bool
is_printed b = is_within 32 126 b

-- words with one space between them
abbrev pub joined : List (List ℕ) → List ℕ
joined ws = join_with_byte 32 ws

-- the line is printed, and has these words
pub record IsLineOf (ws : List (List ℕ)) (line : List ℕ) : Type 0 where
  pub printed : list_all is_printed line ≡ true
  pub words : words line ≡ ws

-- what holds of each element by one test holds by a weaker one
pub all_weaker : (p q : ℕ → Bool) → ((b : ℕ) → p b ≡ true → q b ≡ true) → (bs : List ℕ) → list_all p bs ≡ true
    → list_all q bs ≡ true
all_weaker p q h [] e = refl
all_weaker p q h (b ∷ bs) e =
    and_true (q b) (list_all q bs) (h b (and_left (p b) (list_all p bs) e))
    (all_weaker p q h bs (and_right (p b) (list_all p bs) e))

-- where each element passes one test, none passes another that excludes it
pub none_passes : (p q : ℕ → Bool) → ((b : ℕ) → p b ≡ true → q b ≡ false) → (bs : List ℕ)
    → list_all p bs ≡ true → All (λ b. q b ≡ false) bs
none_passes p q h bs e = λ k d l. h _ (AllPass-from_list_all p bs e k d l)

ink_no_blank : (b : ℕ) → is_ink b ≡ true → is_blank b ≡ false
ink_no_blank b h = grind (arith, nat_tests)

ink_printed : (b : ℕ) → is_ink b ≡ true → is_printed b ≡ true
ink_printed b h = grind (arith, nat_tests)

printed_no_line_feed : (b : ℕ) → is_printed b ≡ true → is_line_feed b ≡ false
printed_no_line_feed b h = grind (arith, nat_tests)

printed_text : (b : ℕ) → is_printed b ≡ true → is_text b ≡ true
printed_text b h = grind (arith, nat_tests)

-- a printed line is text
pub text_from_printed : (line : List ℕ) → list_all is_printed line ≡ true → list_all is_text line ≡ true
text_from_printed line h = all_weaker is_printed is_text printed_text line h

not_zero : (n : ℕ) → nat_le 1 n ≡ true → (n == 0) ≡ false
not_zero n h = grind (arith, nat_tests)

-- a word is not empty
pub plain_not_empty : (w : List ℕ) → is_plain w ≡ true → (length w == 0) ≡ false
plain_not_empty w h = not_zero (length w) (and_left (nat_le 1 (length w)) (list_all is_ink w) h)

-- a word is kept before the words after it
kept : (w : List ℕ) (pieces : List (List ℕ)) → is_plain w ≡ true
    → filter (λ (piece : List ℕ). not (length piece == 0)) (w ∷ pieces) ≡ w ∷ filter (λ (piece : List ℕ). not (length piece == 0)) pieces
kept w pieces h =
    ap
    (λ b. cond b (w ∷ filter (λ (piece : List ℕ). not (length piece == 0)) pieces) (filter (λ (piece : List ℕ). not (length piece == 0)) pieces))
    (ap not (plain_not_empty w h))

no_blank : (w : List ℕ) → is_plain w ≡ true → All (λ b. is_blank b ≡ false) w
no_blank w h =
    none_passes is_ink is_blank ink_no_blank w (and_right (nat_le 1 (length w)) (list_all is_ink w) h)

-- words that are joined are cut into themselves
words-joined : (ws : List (List ℕ)) → list_all is_plain ws ≡ true → words (joined ws) ≡ ws
words-joined [] h = refl
words-joined (w ∷ []) h =
    let plain : is_plain w ≡ true = and_left (is_plain w) true h in
    ap (filter (λ (piece : List ℕ). not (length piece == 0))) (slice_split_none is_blank w (no_blank w plain))
    ∙ kept w [] plain
words-joined (w ∷ v ∷ ws) h =
    let plain : is_plain w ≡ true = and_left (is_plain w) (list_all is_plain (v ∷ ws)) h in
    ap (filter (λ (piece : List ℕ). not (length piece == 0)))
    (slice_split_at is_blank w 32 (joined (v ∷ ws)) (no_blank w plain) refl)
    ∙ kept w (slice_split is_blank (joined (v ∷ ws))) plain
    ∙ ap (λ ps. w ∷ ps) (words-joined (v ∷ ws) (and_right (is_plain w) (list_all is_plain (v ∷ ws)) h))

word_printed : (w : List ℕ) → is_plain w ≡ true → list_all is_printed w ≡ true
word_printed w h =
    all_weaker is_ink is_printed ink_printed w (and_right (nat_le 1 (length w)) (list_all is_ink w) h)

joined_printed : (ws : List (List ℕ)) → list_all is_plain ws ≡ true → list_all is_printed (joined ws) ≡ true
joined_printed [] h = refl
joined_printed (w ∷ []) h = word_printed w (and_left (is_plain w) true h)
joined_printed (w ∷ v ∷ ws) h =
    list_all-append is_printed w (32 ∷ joined (v ∷ ws))
    ∙ and_true (list_all is_printed w) (list_all is_printed (joined (v ∷ ws)))
    (word_printed w (and_left (is_plain w) (list_all is_plain (v ∷ ws)) h))
    (joined_printed (v ∷ ws) (and_right (is_plain w) (list_all is_plain (v ∷ ws)) h))

-- a line of words
pub line_of_words : (ws : List (List ℕ)) → list_all is_plain ws ≡ true → IsLineOf ws (joined ws)
line_of_words ws h = record { printed = joined_printed ws h; words = words-joined ws h }

-- a line that two spaces stand before
pub line_indented : (ws : List (List ℕ)) → list_all is_plain ws ≡ true → IsLineOf ws (32 ∷ 32 ∷ joined ws)
line_indented ws h = record { printed = joined_printed ws h; words = words-joined ws h }

-- lines, each with its line feed
abbrev pub ended : List (List ℕ) → List ℕ
ended ls = flat_map (λ (l : List ℕ). l ++ 10 ∷ []) ls

pieces-ended : (ls : List (List ℕ)) → list_all (list_all is_printed) ls ≡ true
    → slice_split is_line_feed (ended ls) ≡ ls ++ [] ∷ []
pieces-ended [] h = refl
pieces-ended (l ∷ ls) h =
    ap (slice_split is_line_feed) (append_assoc l (10 ∷ []) (ended ls))
    ∙ slice_split_at is_line_feed l 10 (ended ls)
    (none_passes is_printed is_line_feed printed_no_line_feed l (and_left (list_all is_printed l) (list_all (list_all is_printed) ls) h)) refl
    ∙ ap (λ ps. l ∷ ps)
    (pieces-ended ls (and_right (list_all is_printed l) (list_all (list_all is_printed) ls) h))

last_dropped : (ls : List (List ℕ)) → without_last_empty (ls ++ [] ∷ []) ≡ ls
last_dropped [] = refl
last_dropped (l ∷ []) = refl
last_dropped (l ∷ m ∷ ls) = ap (λ ps. l ∷ ps) (last_dropped (m ∷ ls))

-- lines, each with its line feed, are cut into themselves
pub lines-ended : (ls : List (List ℕ)) → list_all (list_all is_printed) ls ≡ true → lines (ended ls) ≡ ls
lines-ended ls h = ap without_last_empty (pieces-ended ls h) ∙ last_dropped ls
