-- What a word is, by what stands at its front and round its first `=`.
use Rattle.std.proofs.Common.{◌≡◌, ◌≢◌, ◌∙◌, ◌<◌, ◌+◌, ◌==◌, ◌||◌, ℕ, suc, Bool, true, false, cond, refl, sym, ap, List, [], ◌∷◌, Option, Some, None, Bor, length, take, arith, lit<}
use Rattle.std.specs.List.{list_any, after_first, before_first, position_or_len}
use Rattle.std.proofs.Math.Seq.{take-length}
use Rattle.std.proofs.lemmas.Str.Pattern.{IsSplitOnceResult, split_once_first}
use borrow.Author.Tests.{eqb-true}
use Rattle.omi_line.specs.Word.{OptionName, Positional, Given, Named, RefusedWord, hyphen_kind, is_equals, word_kind, long_kind, option_kind, option_named}

-- a word that doesn't begin with a hyphen
pub no_hyphen : (word : List ℕ) → ((rest : List ℕ) → word ≢ 45 ∷ rest) → Positional ≡ word_kind word
no_hyphen [] none = refl
no_hyphen (byte ∷ text) none = go (byte == 45) refl
  where
    go : (b : Bool) → (byte == 45) ≡ b → Positional ≡ cond b (hyphen_kind text) Positional
    go true is = absurd (none text (ap (λ (n : ℕ). n ∷ text) (eqb-true byte 45 is)))
    go false is = refl

one_hyphen : (text : List ℕ) → ((rest : List ℕ) → text ≢ 45 ∷ rest) → (length text == 0) ≡ false
    → RefusedWord ≡ hyphen_kind text
one_hyphen [] none some = absurd (cc)
one_hyphen (byte ∷ text) none some = go (byte == 45) refl
  where
    go : (b : Bool) → (byte == 45) ≡ b → RefusedWord ≡ cond b (long_kind text) RefusedWord
    go true is = absurd (none text (ap (λ (n : ℕ). n ∷ text) (eqb-true byte 45 is)))
    go false is = refl

-- a word that begins with one hyphen, and has more bytes
pub refused_word : (word text : List ℕ) → word ≡ 45 ∷ text → ((rest : List ℕ) → text ≢ 45 ∷ rest)
    → (length text == 0) ≡ false → RefusedWord ≡ word_kind word
refused_word word text is none some = one_hyphen text none some ∙ ap word_kind (sym is)

any_equals : (text : List ℕ) → position_or_len is_equals text < length text → list_any is_equals text ≡ true
any_equals [] some = absurd (omega (arith, some))
any_equals (byte ∷ text) some = go (byte == 61) refl (any_equals text)
  where
    go : (b : Bool) → (byte == 61) ≡ b
        → (position_or_len is_equals text < length text → list_any is_equals text ≡ true)
        → (b || list_any is_equals text) ≡ true
    go true is next = refl
    go false is next = next
        (let less : 1 + position_or_len is_equals text < suc (length text) = rw is at some in omega (arith, less))

none_equals : (text : List ℕ) → position_or_len is_equals text ≡ length text → list_any is_equals text ≡ false
none_equals [] all = refl
none_equals (byte ∷ text) all = go (byte == 61) refl (none_equals text)
  where
    go : (b : Bool) → (byte == 61) ≡ b
        → (position_or_len is_equals text ≡ length text → list_any is_equals text ≡ false)
        → (b || list_any is_equals text) ≡ false
    go true is next = let none : 0 ≡ suc (length text) = rw is at all in absurd (omega (arith, none))
    go false is next = next
        (let same : 1 + position_or_len is_equals text ≡ suc (length text) = rw is at all in omega (arith, same))

long_is : (text : List ℕ) → (length text == 0) ≡ false
    → option_kind (option_named (before_first is_equals text)) text ≡ long_kind text
long_is [] some = absurd (cc)
long_is (byte ∷ text) some = refl

-- what stands round the first `=`
module _ (text : List ℕ) (r : Option (Bor (List ℕ) × Bor (List ℕ))) (split : IsSplitOnceResult 61 text r)
    (some : (length text == 0) ≡ false) where
  pub given : (x : Bor (List ℕ) × Bor (List ℕ)) → r ≡ Some x → (name : OptionName) → Some name ≡ option_named x.0.now
      → Given name x.1.now ≡ long_kind text
  given x is name named =
      let (inside, front, back) = rw is at (split_once_first 61 text r split (lit< tt)) in
      let option : option_named (before_first is_equals text) ≡ Some name = ap option_named (sym front) ∙ sym named in
      let kind : option_kind (Some name) text ≡ Given name x.1.now =
      ap (λ (b : Bool). cond b (Given name (after_first is_equals text)) (Named name)) (any_equals text inside)
      ∙ ap (Given name) (sym back) in
      sym kind ∙ ap (λ (o : Option OptionName). option_kind o text) (sym option) ∙ long_is text some

  pub refused : (x : Bor (List ℕ) × Bor (List ℕ)) → r ≡ Some x → None ≡ option_named x.0.now
      → RefusedWord ≡ long_kind text
  refused x is named =
      let (inside, front, back) = rw is at (split_once_first 61 text r split (lit< tt)) in
      let option : option_named (before_first is_equals text) ≡ None = ap option_named (sym front) ∙ sym named in
      ap (λ (o : Option OptionName). option_kind o text) (sym option) ∙ long_is text some

  front_all : r ≡ None → before_first is_equals text ≡ text
  front_all is =
      let all = rw is at (split_once_first 61 text r split (lit< tt)) in
      ap (λ (n : ℕ). take n text) all ∙ take-length text

  pub named : r ≡ None → (name : OptionName) → Some name ≡ option_named text → Named name ≡ long_kind text
  named is name found =
      let all = rw is at (split_once_first 61 text r split (lit< tt)) in
      let option : option_named (before_first is_equals text) ≡ Some name = ap option_named (front_all is) ∙ sym found in
      let kind : option_kind (Some name) text ≡ Named name =
      ap (λ (b : Bool). cond b (Given name (after_first is_equals text)) (Named name)) (none_equals text all) in
      sym kind ∙ ap (λ (o : Option OptionName). option_kind o text) (sym option) ∙ long_is text some

  pub unnamed : r ≡ None → None ≡ option_named text → RefusedWord ≡ long_kind text
  unnamed is found =
      let option : option_named (before_first is_equals text) ≡ None = ap option_named (front_all is) ∙ sym found in
      ap (λ (o : Option OptionName). option_kind o text) (sym option) ∙ long_is text some
