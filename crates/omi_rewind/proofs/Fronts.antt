-- Fronts of a run: the words and the events behind its first steps.
use Rattle.std.proofs.Common.{◌≡◌, ◌≤◌, ◌<◌, ◌+◌, ◌++◌, ℕ, zero, suc, true, false, cond, List, [], ◌∷◌, length, take, Some, refl, sym, ap, ◌∙◌, subst, arith}
use Rattle.std.specs.Prelude.{nat_le, slice_get}
use Rattle.std.specs.List.{AllByRecursion}
use Rattle.std.proofs.lemmas.Bool.Decides.{nat_tests}
use Rattle.std.proofs.lemmas.List.{append-nil, length-set}
use Rattle.std.proofs.lemmas.List.Elements.{filter-append}
use Rattle.omi_model.proofs.Slots.{none_some, some_same}
use Rattle.omi_model.specs.declared.event.Event.{Event}
use Rattle.omi_run_lists.specs.declared.made.Made.{Made}
use Rattle.omi_word.specs.Memory.{IsWordOf, address_of, left_of, place_of, word_at, words_after}
use Rattle.omi_rewind.specs.Rewound.{Rewound, events_until, steps_in, words_at, words_behind}

-- ---- lists

-- a front stays when elements are added behind it
pub same_front : {A : Type 0} (n : ℕ) (xs ys : List A) → n ≤ length xs → take n (xs ++ ys) ≡ take n xs
same_front zero xs ys within = refl
same_front (suc n) [] ys within = absurd (omega (arith, within))
same_front {A} (suc n) (x ∷ xs) ys within =
    ap {B = List A} (λ zs. x ∷ zs) (same_front n xs ys (omega (arith, within)))

-- the longest front is the list
pub whole_front : {A : Type 0} (xs : List A) → take (length xs) xs ≡ xs
whole_front [] = refl
whole_front {A} (x ∷ xs) = ap {B = List A} (λ zs. x ∷ zs) (whole_front xs)

-- a front with the element behind it
pub front_more : {A : Type 0} (n : ℕ) (xs : List A) (x : A) → slice_get xs n ≡ Some x
    → take (suc n) xs ≡ take n xs ++ x ∷ []
front_more n [] x is = absurd (none_some refl is)
front_more {A} zero (y ∷ ys) x is = ap {B = List A} (λ z. z ∷ []) (some_same refl is)
front_more {A} (suc n) (y ∷ ys) x is = ap {B = List A} (λ zs. y ∷ zs) (front_more n ys x is)

-- ---- words

-- one list of steps behind another one
pub behind_two : (words : List ℕ) (xs ys : List Made)
    → words_behind words (xs ++ ys) ≡ words_behind (words_behind words xs) ys
behind_two words [] ys = refl
behind_two words (m ∷ ms) ys = behind_two (words_after words m.op) ms ys

-- the number of words stays
pub count_behind : (words : List ℕ) (ms : List Made) → length (words_behind words ms) ≡ length words
count_behind words [] = refl
count_behind words (m ∷ ms) =
    count_behind (words_after words m.op) ms
    ∙ length-set words (place_of (address_of m.op)) (left_of m.op (word_at words (address_of m.op)))

-- and so a word stands at the same addresses
pub word_there : (a b : List ℕ) (address : ℕ) → length b ≡ length a → IsWordOf a address → IsWordOf b address
word_there a b address same is =
    record { aligned = is.aligned; above = is.above; below = subst (λ n. place_of address < n) (sym same) is.below }

-- the words behind the first steps stay in a run that goes on
pub words_stay : (a b : Rewound) → b.first ≡ a.first → (more : List Made)
    → b.run.made.items ≡ a.run.made.items ++ more → (n : ℕ) → n ≤ steps_in a → words_at b n ≡ words_at a n
words_stay a b first more are n within =
    ap (λ ws. words_behind ws (take n b.run.made.items)) first
    ∙ ap (λ (ms : List Made). words_behind a.first (take n ms)) are
    ∙ ap (words_behind a.first) (same_front n a.run.made.items more within)

-- one step more
pub words_next : (a : Rewound) (n : ℕ) (m : Made) → slice_get a.run.made.items n ≡ Some m
    → words_at a (n + 1) ≡ words_after (words_at a n) m.op
words_next a n m is =
    let one : n + 1 ≡ suc n = omega arith in
    ap (words_at a) one
    ∙ ap (words_behind a.first) (front_more n a.run.made.items m is)
    ∙ behind_two a.first (take n a.run.made.items) (m ∷ [])

-- ---- events

abbrev Numbered : Type 0
Numbered = ℕ × ℕ × Event

low_test : (a b : ℕ) → a ≤ b → nat_le a b ≡ true
low_test a b low = grind (arith, nat_tests)

high_test : (a b : ℕ) → b < a → nat_le a b ≡ false
high_test a b high = grind (arith, nat_tests)

-- all events up to the last step
pub until_all : (n : ℕ) (es : List Numbered) → AllByRecursion (λ (e : Numbered). e.0 ≤ n) es
    → events_until n es ≡ es
until_all n [] all = refl
until_all n (e ∷ es) (here, rest) =
    ap {B = List Numbered} (λ b. cond b (e ∷ events_until n es) (events_until n es)) (low_test e.0 n here)
    ∙ ap {B = List Numbered} (λ zs. e ∷ zs) (until_all n es rest)

-- none of those of later steps
pub until_none : (n : ℕ) (es : List Numbered) → AllByRecursion (λ (e : Numbered). n < e.0) es
    → events_until n es ≡ []
until_none n [] all = refl
until_none n (e ∷ es) (here, rest) =
    ap {B = List Numbered} (λ b. cond b (e ∷ events_until n es) (events_until n es)) (high_test e.0 n here)
    ∙ until_none n es rest

-- the events of the first steps stay in a run that goes on
pub until_stay : (n : ℕ) (es more : List Numbered) → AllByRecursion (λ (e : Numbered). n < e.0) more
    → events_until n (es ++ more) ≡ events_until n es
until_stay n es more all =
    filter-append (λ (e : Numbered). nat_le e.0 n) es more
    ∙ ap {B = List Numbered} (λ zs. events_until n es ++ zs) (until_none n more all)
    ∙ append-nil (events_until n es)

-- a fact of each of two lists
pub all_two : {A : Type 0} (P : A → Type 0) (xs ys : List A) → AllByRecursion P xs → AllByRecursion P ys
    → AllByRecursion P (xs ++ ys)
all_two P [] ys all more = more
all_two P (x ∷ xs) ys (here, rest) more = (here, all_two P xs ys rest more)

-- a weaker fact
pub all_weaker : {A : Type 0} (P Q : A → Type 0) → ((x : A) → P x → Q x) → (xs : List A)
    → AllByRecursion P xs → AllByRecursion Q xs
all_weaker P Q gives [] all = tt
all_weaker P Q gives (x ∷ xs) (here, rest) = (gives x here, all_weaker P Q gives xs rest)
