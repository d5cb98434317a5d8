-- Numbers, lists of numbers and schedules that are written are read again.
use Rattle.std.proofs.Common.{◌≡◌, ℕ, zero, suc, ◌<◌, ◌≤◌, ◌^◌, Bool, true, false, ◌&&◌, ◌||◌, ◌==◌, List, [], ◌∷◌, ◌++◌, length, map, Option, Some, None, IfSome, IfNone, refl, sym, ap, ◌∙◌, arith, if◌then◌else◌}
use Rattle.std.specs.Prelude.{nat_le, codes}
use Rattle.std.specs.Fmt.{decimal}
use Rattle.std.specs.List.{All, list_all, list_any, slice_split}
use Rattle.std.specs.Option.{option_and_then, option_map}
use Rattle.std.proofs.lemmas.Bool.{leb-true, le-leb}
use Rattle.std.proofs.lemmas.Bool.Decides.{nat_tests}
use Rattle.std.proofs.lemmas.Fmt.{digits_value-decimal}
use Rattle.std.proofs.lemmas.List.{append-nil, length-append}
use Rattle.std.proofs.lemmas.List.Folds.{list_all-append}
use Rattle.std.proofs.lemmas.List.Splits.{slice_split_none, slice_split_at}
use Rattle.omi_script.specs.Canonical.{kind_text, list_text, listed_behind, schedule_text}
use Rattle.omi_script.specs.HeadLines.{has_empty_piece}
use Rattle.omi_script.specs.LineFaults.{least}
use Rattle.omi_script.specs.Names.{is_digit, is_within}
use Rattle.omi_script.specs.Numbers.{each_of, is_comma, is_decimal, number_of, numbers_of, sizes_of, value_of}
use Rattle.omi_script.specs.Ranges.{are_sizes, is_schedule, is_size}
use Rattle.omi_numbers.specs.Schedules.{schedule_kind_of}
use Rattle.omi_script.specs.declared.limits.TheConstants.{MAX_CHUNK, MAX_SIZE, MAX_SIZES}
use Rattle.omi_script.specs.declared.statement.Sched.{Sched}
use Rattle.omi_script.proofs.Conjunctions.{and_left, and_right, and_true}
use Rattle.omi_script.proofs.DigitLemmas.{digits-decimal, some_digit, is_decimal-decimal, written}
use Rattle.omi_script.proofs.NumberLemmas.{numerals}
use Rattle.omi_script.proofs.CanonicalLines.{is_ink, is_plain, plain_not_empty, all_weaker, none_passes}

digit_ink : (b : ℕ) → is_digit b ≡ true → is_ink b ≡ true
digit_ink b h = grind (arith, nat_tests)

digit_no_comma : (b : ℕ) → is_digit b ≡ true → is_comma b ≡ false
digit_no_comma b h = grind (arith, nat_tests)

-- a number is a word
pub plain-decimal : (n : ℕ) → n < 2 ^ 64 → is_plain (decimal n) ≡ true
plain-decimal n h =
    and_true (nat_le 1 (length (decimal n))) (list_all is_ink (decimal n)) (some_digit n h)
    (all_weaker is_digit is_ink digit_ink (decimal n) (digits-decimal n h))

guarded : (least most n v : ℕ) (d : Bool) → d ≡ true → v ≡ n → is_within least most n ≡ true
    → (if d && is_within least most v then Some v else None) ≡ Some n
guarded least most n v d e f h =
    ap (λ b. if b && is_within least most v then Some v else None) e
    ∙ ap (λ m. if is_within least most m then Some m else None) f
    ∙ ap (λ b. if b then Some n else None) h

-- a number in its range is read again
pub number_of-decimal : (least most n : ℕ) → n < 2 ^ 64 → is_within least most n ≡ true
    → number_of least most (decimal n) ≡ Some n
number_of-decimal least most n h within =
    guarded least most n (value_of (decimal n)) (is_decimal (decimal n)) (is_decimal-decimal n h)
    (digits_value-decimal numerals n h) within

-- a word that is a number is how std writes it
word_of_number : (least most : ℕ) (word : List ℕ) (n : ℕ) → most < 2 ^ 64 → number_of least most word ≡ Some n
    → word ≡ decimal n
word_of_number least most word n small e =
    by_test (is_decimal word && is_within least most (value_of word)) refl
  where
    by_test : (b : Bool) → (is_decimal word && is_within least most (value_of word)) ≡ b → word ≡ decimal n
    by_test true h =
        let range : is_within least most (value_of word) ≡ true =
        and_right (is_decimal word) (is_within least most (value_of word)) h in
        let few : value_of word ≤ most =
        leb-true (value_of word) most
        (and_right (nat_le least (value_of word)) (nat_le (value_of word) most) range) in
        let found : Some (value_of word) ≡ Some n =
        sym (ap (λ b. if b then Some (value_of word) else None) h) ∙ e in
        let same : value_of word ≡ n = cc found in
        sym (written word (omega arith) (and_left (is_decimal word) (is_within least most (value_of word)) h))
        ∙ ap decimal same
    by_test false h =
        let found : None ≡ Some n = sym (ap (λ b. if b then Some (value_of word) else None) h) ∙ e in absurd (cc found)

-- what a number that was read says of the word: it is how std writes it, or how std writes no
-- number of the range
pub number_written : (least most : ℕ) (word : List ℕ) (o : Option ℕ) → most < 2 ^ 64
    → o ≡ number_of least most word → IfSome o (λ n. word ≡ decimal n)
number_written least most word None small e = tt
number_written least most word (Some n) small e = word_of_number least most word n small (sym e)

pub number_none : (least most : ℕ) (word : List ℕ) (o : Option ℕ) → most < 2 ^ 64
    → o ≡ number_of least most word → IfNone o ((n : ℕ) → least ≤ n → n ≤ most → word ≡ decimal n → ⊥)
number_none least most word (Some n) small e = tt
number_none least most word None small e = λ n l m is.
    let within : is_within least most n ≡ true =
    and_true (nat_le least n) (nat_le n most) (le-leb least n l) (le-leb n most m) in
    let found : None ≡ Some n =
    e ∙ ap (number_of least most) is ∙ number_of-decimal least most n (omega arith) within in
    absurd (cc found)

pub up_to : (most n : ℕ) → nat_le n most ≡ true → is_within 0 most n ≡ true
up_to most n h = and_true (nat_le 0 n) (nat_le n most) (le-leb 0 n (omega arith)) h

-- a number of at most so much is read again
pub number_up_to-decimal : (most n : ℕ) → most < 2 ^ 64 → nat_le n most ≡ true
    → number_of 0 most (decimal n) ≡ Some n
number_up_to-decimal most n h within =
    let l : n ≤ most = leb-true n most within in
    number_of-decimal 0 most n (omega arith) (up_to most n within)

no_comma : (n : ℕ) → n < 2 ^ 64 → All (λ b. is_comma b ≡ false) (decimal n)
no_comma n h = none_passes is_digit is_comma digit_no_comma (decimal n) (digits-decimal n h)

-- what is at most a word's number is below 2 ^ 64
pub below_word : (most n : ℕ) → most < 2 ^ 64 → nat_le n most ≡ true → n < 2 ^ 64
below_word most n h e = let l : n ≤ most = leb-true n most e in omega arith

pub size_small : (n : ℕ) → is_size n ≡ true → n < 2 ^ 64
size_small n h = below_word MAX_SIZE n (omega arith) (and_right (nat_le 1 n) (nat_le n MAX_SIZE) h)

-- a list of sizes is cut into its numbers
pieces-list_text : (n : ℕ) (ns : List ℕ) → list_all is_size (n ∷ ns) ≡ true
    → slice_split is_comma (decimal n ++ listed_behind ns) ≡ map decimal (n ∷ ns)
pieces-list_text n [] h =
    ap (slice_split is_comma) (append-nil (decimal n))
    ∙ slice_split_none is_comma (decimal n) (no_comma n (size_small n (and_left (is_size n) true h)))
pieces-list_text n (m ∷ ns) h =
    slice_split_at is_comma (decimal n) 44 (decimal m ++ listed_behind ns)
    (no_comma n (size_small n (and_left (is_size n) (list_all is_size (m ∷ ns)) h))) refl
    ∙ ap (λ ps. decimal n ∷ ps) (pieces-list_text m ns (and_right (is_size n) (list_all is_size (m ∷ ns)) h))

pieces_of_sizes : (ns : List ℕ) → are_sizes ns ≡ true → slice_split is_comma (list_text ns) ≡ map decimal ns
pieces_of_sizes [] h = absurd (cc)
pieces_of_sizes (n ∷ ns) h =
    pieces-list_text n ns (and_right (is_within 1 MAX_SIZES (length (n ∷ ns))) (list_all is_size (n ∷ ns)) h)

each-decimal : (ns : List ℕ) → list_all is_size ns ≡ true
    → each_of (map (number_of 1 MAX_SIZE) (map decimal ns)) ≡ Some ns
each-decimal [] h = refl
each-decimal (n ∷ ns) h =
    let size : is_size n ≡ true = and_left (is_size n) (list_all is_size ns) h in
    ap
    (λ o. option_and_then (λ m. option_map (λ ms. m ∷ ms) (each_of (map (number_of 1 MAX_SIZE) (map decimal ns)))) o)
    (number_of-decimal 1 MAX_SIZE n (size_small n size) size)
    ∙ ap (option_map (λ ms. n ∷ ms)) (each-decimal ns (and_right (is_size n) (list_all is_size ns) h))

-- a list of sizes is read again
pub sizes_of-list_text : (ns : List ℕ) → are_sizes ns ≡ true → sizes_of (list_text ns) ≡ Some ns
sizes_of-list_text ns h =
    let sizes : list_all is_size ns ≡ true =
    and_right (is_within 1 MAX_SIZES (length ns)) (list_all is_size ns) h in
    let few : nat_le (length ns) MAX_SIZES ≡ true =
    and_right (nat_le 1 (length ns)) (nat_le (length ns) MAX_SIZES)
    (and_left (is_within 1 MAX_SIZES (length ns)) (list_all is_size ns) h) in
    let read : numbers_of 1 MAX_SIZE (list_text ns) ≡ Some ns =
    ap (λ ps. each_of (map (number_of 1 MAX_SIZE) ps)) (pieces_of_sizes ns h) ∙ each-decimal ns sizes in
    ap (option_and_then (λ ms. if nat_le (length ms) MAX_SIZES then Some ms else None)) read
    ∙ ap (λ b. if b then Some ns else None) few

none_empty : (ns : List ℕ) → list_all is_size ns ≡ true
    → list_any (λ (piece : List ℕ). length piece == 0) (map decimal ns) ≡ false
none_empty [] h = refl
none_empty (n ∷ ns) h =
    ap (λ b. b || list_any (λ (piece : List ℕ). length piece == 0) (map decimal ns))
    (plain_not_empty (decimal n) (plain-decimal n (size_small n (and_left (is_size n) (list_all is_size ns) h))))
    ∙ none_empty ns (and_right (is_size n) (list_all is_size ns) h)

-- no piece of a list of sizes is empty
pub no_gap-list_text : (ns : List ℕ) → are_sizes ns ≡ true → has_empty_piece (list_text ns) ≡ false
no_gap-list_text ns h =
    ap (list_any (λ (piece : List ℕ). length piece == 0)) (pieces_of_sizes ns h)
    ∙ none_empty ns (and_right (is_within 1 MAX_SIZES (length ns)) (list_all is_size ns) h)

-- a fact of each kind of a schedule
by_kind : (P : ℕ → Type 0) → P 1 → P 2 → P 3 → P 4 → (k : ℕ) → is_within 1 4 k ≡ true → P k
by_kind P a b c d zero h = absurd (cc)
by_kind P a b c d (suc zero) h = a
by_kind P a b c d (suc (suc zero)) h = b
by_kind P a b c d (suc (suc (suc zero))) h = c
by_kind P a b c d (suc (suc (suc (suc zero)))) h = d
by_kind P a b c d (suc (suc (suc (suc (suc k))))) h =
    let l : suc (suc (suc (suc (suc k)))) ≤ 4 = leb-true (suc (suc (suc (suc (suc k))))) 4 (and_right (nat_le 1 (suc (suc (suc (suc (suc k)))))) (nat_le (suc (suc (suc (suc (suc k))))) 4) h) in absurd (omega arith)

-- a schedule's kind is read again
pub kind_of-kind_text : (k : ℕ) → is_within 1 4 k ≡ true → schedule_kind_of (kind_text k) ≡ Some k
kind_of-kind_text = by_kind (λ k. schedule_kind_of (kind_text k) ≡ Some k) refl refl refl refl

-- a schedule's kind is a word
pub plain-kind_text : (k : ℕ) → is_within 1 4 k ≡ true → is_plain (kind_text k) ≡ true
plain-kind_text = by_kind (λ k. is_plain (kind_text k) ≡ true) refl refl refl refl

chunk_alone : (c : ℕ) → c < 2 ^ 64 → slice_split is_comma (decimal c) ≡ decimal c ∷ []
chunk_alone c h = slice_split_none is_comma (decimal c) (no_comma c h)

pub kind_within : (s : Sched) → is_schedule s ≡ true → is_within 1 4 s.kind ≡ true
kind_within s h = and_left (is_within 1 4 s.kind) (nat_le s.chunk MAX_CHUNK) h

pub chunk_within : (s : Sched) → is_schedule s ≡ true → nat_le s.chunk MAX_CHUNK ≡ true
chunk_within s h = and_right (is_within 1 4 s.kind) (nat_le s.chunk MAX_CHUNK) h

pub chunk_small : (s : Sched) → is_schedule s ≡ true → s.chunk < 2 ^ 64
chunk_small s h = below_word MAX_CHUNK s.chunk (omega arith) (chunk_within s h)

-- a schedule is cut into its kind and its chunk
pub pieces-schedule : (s : Sched) → is_schedule s ≡ true
    → slice_split is_comma (schedule_text s) ≡ kind_text s.kind ∷ decimal s.chunk ∷ []
pieces-schedule s h =
    by_kind
    (λ k. slice_split is_comma (kind_text k ++ 44 ∷ decimal s.chunk) ≡ kind_text k ∷ decimal s.chunk ∷ [])
    (ap (λ ps. codes "static" ∷ ps) (chunk_alone s.chunk (chunk_small s h)))
    (ap (λ ps. codes "dynamic" ∷ ps) (chunk_alone s.chunk (chunk_small s h)))
    (ap (λ ps. codes "guided" ∷ ps) (chunk_alone s.chunk (chunk_small s h)))
    (ap (λ ps. codes "auto" ∷ ps) (chunk_alone s.chunk (chunk_small s h)))
    s.kind (kind_within s h)

-- words on both sides of a comma are a word
plain_pair : (v w : List ℕ) → is_plain v ≡ true → is_plain w ≡ true → is_plain (v ++ 44 ∷ w) ≡ true
plain_pair v w h k =
    and_true (nat_le 1 (length (v ++ 44 ∷ w))) (list_all is_ink (v ++ 44 ∷ w))
    (le-leb 1 (length (v ++ 44 ∷ w)) (omega (arith, length-append v (44 ∷ w))))
    (list_all-append is_ink v (44 ∷ w) ∙ and_true (list_all is_ink v) (list_all is_ink w) (and_right (nat_le 1 (length v)) (list_all is_ink v) h) (and_right (nat_le 1 (length w)) (list_all is_ink w) k))

-- a schedule is a word
pub plain-schedule_text : (s : Sched) → is_schedule s ≡ true → is_plain (schedule_text s) ≡ true
plain-schedule_text s h =
    plain_pair (kind_text s.kind) (decimal s.chunk) (plain-kind_text s.kind (kind_within s h))
    (plain-decimal s.chunk (chunk_small s h))

plain-listed : (n : ℕ) (ns : List ℕ) → list_all is_size (n ∷ ns) ≡ true
    → is_plain (decimal n ++ listed_behind ns) ≡ true
plain-listed n [] h =
    ap is_plain (append-nil (decimal n)) ∙ plain-decimal n (size_small n (and_left (is_size n) true h))
plain-listed n (m ∷ ns) h =
    plain_pair (decimal n) (decimal m ++ listed_behind ns)
    (plain-decimal n (size_small n (and_left (is_size n) (list_all is_size (m ∷ ns)) h)))
    (plain-listed m ns (and_right (is_size n) (list_all is_size (m ∷ ns)) h))

-- a list of sizes is a word
pub plain-list_text : (ns : List ℕ) → are_sizes ns ≡ true → is_plain (list_text ns) ≡ true
plain-list_text [] h = absurd (cc)
plain-list_text (n ∷ ns) h =
    plain-listed n ns (and_right (is_within 1 MAX_SIZES (length (n ∷ ns))) (list_all is_size (n ∷ ns)) h)
