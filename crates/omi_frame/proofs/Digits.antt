-- The hexadecimal digits of a number, one after the other.
use Rattle.std.proofs.Common.{◌≡◌, ◌==◌, ◌<◌, ◌≤◌, ℕ, zero, suc, ◌-◌, ◌*◌, ◌/◌, ◌%◌, ◌^◌, Bool, true, false, List, [], ◌∷◌, ◌++◌, if◌then◌else◌, refl, sym, ap, ◌∙◌, arith, append_assoc, pow-suc, eqb-true, eq-eqb, ne_eqb}
use Rattle.std.specs.Prelude.{codes}
use Rattle.std.specs.Fmt.{digit_glyph, digits, digits_onto}
use Rattle.omi_text.specs.Numbers.{hexadecimal}

-- the last digit that is left, and one of more
digits_onto_last : (i n : ℕ) (acc : List ℕ) → 0 < i → n / 16 ≡ 0
    → digits_onto i 16 false n acc ≡ digit_glyph false (n % 16) ∷ acc
digits_onto_last zero n acc some none = absurd (omega arith)
digits_onto_last (suc k) n acc some none =
    ap
    (λ (b : Bool). if b then digit_glyph false (n % 16) ∷ acc else digits_onto k 16 false (n / 16) (digit_glyph false (n % 16) ∷ acc))
    (eq-eqb (n / 16) 0 none)

digits_onto_step : (i n : ℕ) (acc : List ℕ) → 0 < i → (n / 16 ≡ 0 → ⊥)
    → digits_onto i 16 false n acc ≡ digits_onto (i - 1) 16 false (n / 16) (digit_glyph false (n % 16) ∷ acc)
digits_onto_step zero n acc some more = absurd (omega arith)
digits_onto_step (suc k) n acc some more =
    let one : k ≡ suc k - 1 = omega arith in
    ap
    (λ (b : Bool). if b then digit_glyph false (n % 16) ∷ acc else digits_onto k 16 false (n / 16) (digit_glyph false (n % 16) ∷ acc))
    (ne_eqb (n / 16) 0 more)
    ∙ ap (λ (j : ℕ). digits_onto j 16 false (n / 16) (digit_glyph false (n % 16) ∷ acc)) one

-- what follows the digits
onto_append : (k n : ℕ) (acc : List ℕ) → digits_onto k 16 false n acc ≡ digits_onto k 16 false n [] ++ acc
onto_append zero n acc = refl
onto_append (suc k) n acc = go (λ more. onto_append k (n / 16) more) (n / 16 == 0)
  where
    glyph : ℕ
    glyph = digit_glyph false (n % 16)

    go : ((more : List ℕ) → digits_onto k 16 false (n / 16) more ≡ digits_onto k 16 false (n / 16) [] ++ more)
        → (b : Bool)
        → (if b then glyph ∷ acc else digits_onto k 16 false (n / 16) (glyph ∷ acc)) ≡ (if b then glyph ∷ [] else digits_onto k 16 false (n / 16) (glyph ∷ [])) ++ acc
    go again true = refl
    go again false =
        again (glyph ∷ acc)
        ∙ sym (append_assoc (digits_onto k 16 false (n / 16) []) (glyph ∷ []) acc)
        ∙ sym (ap (λ (xs : List ℕ). xs ++ acc) (again (glyph ∷ [])))

-- and one of more: its last digit stands behind those of a sixteenth
pub last_digit : (k n : ℕ) → 0 < k → 16 ≤ n
    → digits_onto k 16 false n [] ≡ digits_onto (k - 1) 16 false (n / 16) [] ++ digit_glyph false (n % 16) ∷ []
last_digit k n some great =
    digits_onto_step k n [] some (λ none. omega (arith, great, none))
    ∙ onto_append (k - 1) (n / 16) (digit_glyph false (n % 16) ∷ [])

-- more room for digits than there are changes nothing
pub enough_digits : (j i n : ℕ) (acc : List ℕ) → 0 < j → j ≤ i → n < 16 ^ j
    → digits_onto i 16 false n acc ≡ digits_onto j 16 false n acc
enough_digits zero i n acc some room few = absurd (omega arith)
enough_digits (suc j) i n acc some room few =
    go
    (λ some_left few_left. enough_digits j (i - 1) (n / 16) (digit_glyph false (n % 16) ∷ acc) some_left (omega (arith, room)) few_left)
    (n / 16 == 0) refl
  where
    power : 16 ^ suc j ≡ 16 ^ j * 16
    power = pow-suc 16 j

    positive : (k : ℕ) → n < 16 ^ suc k → 16 ≤ n → 0 < k
    positive zero below great = absurd (omega (arith, below, great))
    positive (suc k) below great = omega arith

    go : (0 < j → n / 16 < 16 ^ j → digits_onto (i - 1) 16 false (n / 16) (digit_glyph false (n % 16) ∷ acc) ≡ digits_onto j 16 false (n / 16) (digit_glyph false (n % 16) ∷ acc))
        → (b : Bool) → n / 16 == 0 ≡ b → digits_onto i 16 false n acc ≡ digits_onto (suc j) 16 false n acc
    go again true e =
        let none : n / 16 ≡ 0 = eqb-true (n / 16) 0 e in
        digits_onto_last i n acc (omega (arith, room)) none
        ∙ sym (digits_onto_last (suc j) n acc (omega arith) none)
    go again false e =
        let more : n / 16 ≡ 0 → ⊥ = λ none. let wrong : n / 16 == 0 ≡ true = eq-eqb (n / 16) 0 none in cc in
        let great : 16 ≤ n = omega (arith, more) in
        let behind : suc j - 1 ≡ j = omega arith in
        digits_onto_step i n acc (omega (arith, room)) more
        ∙ again (positive j few great) (omega (arith, few, power))
        ∙ sym (ap (λ (k : ℕ). digits_onto k 16 false (n / 16) (digit_glyph false (n % 16) ∷ acc)) behind)
        ∙ sym (digits_onto_step (suc j) n acc (omega arith) more)

-- sixteen digits are enough for a word
pub hexadecimal_is : (n : ℕ) → n < 2 ^ 64 → codes "0x" ++ digits_onto 16 16 false n [] ≡ hexadecimal n
unfolding hexadecimal digits
hexadecimal_is n small =
    ap (λ (xs : List ℕ). codes "0x" ++ xs)
    (sym (enough_digits 16 64 n [] (omega arith) (omega arith) (omega (arith, small))))
