-- The symbol table and the layout table of an image, read back.
use Rattle.std.proofs.Common.{◌≡◌, ℕ, zero, suc, ◌+◌, ◌^◌, ◌<◌, ◌≤◌, Bool, true, false, cond, List, ◌∷◌, length, get_or, take, drop, Option, Some, None, refl, sym, ap, ◌∙◌, arith}
use Rattle.std.specs.Prelude.{codes, nat_le, find}
use Rattle.std.specs.Option.{option_map, option_and_then}
use Rattle.std.proofs.Math.Seq.{drop-cons}
use Rattle.std.proofs.Math.Nat.{mod-eq_of_lt}
use Rattle.std.proofs.lemmas.List.{ext_get_or, get_or-take, get_or-drop, length-take-le, length-drop}
use Rattle.omi_word.specs.Memory.{address_at, place_of}
use Rattle.omi_layout.specs.declared.limits.TheConstants.{FRONT_WORDS, TABLE_WORDS}
use Rattle.omi_layout.specs.Front.{front}
use Rattle.omi_layout.specs.Valid.{IsValid}
use Rattle.omi_word.specs.Words.{Words, words_of}
use Rattle.omi_word.specs.SymbolTable.{Symbol, words_from, symbols_from, symbols_in, symbol_in, symbol_of, is_named}
use Rattle.omi_layout.specs.Given.{wrapped, GivesLayout, HasTables}
use Rattle.omi_layout.proofs.Mapped.{image_word, stands}

-- words that are mapped one after the other are read
read_words : (g : Words) (words : List ℕ) (n at : ℕ)
    → ((p : ℕ) → p < at + n → g (address_at p) ≡ Some (get_or words p 0)) → at + n ≤ length words
    → words_from g (address_at at) n ≡ Some (take n (drop at words))
read_words g words zero at each long = refl
read_words g words (suc n) at each long =
    let next : address_at at + 8 ≡ address_at (at + 1) = omega arith in
    let more : words_from g (address_at at + 8) n ≡ Some (take n (drop (suc at) words)) =
    ap (λ a. words_from g a n) next
    ∙ read_words g words n (at + 1) (λ p h. each p (omega arith)) (omega arith)
    ∙ (let one : at + 1 ≡ suc at = omega arith in ap (λ a. Some (take n (drop a words))) one) in
    let cut : drop at words ≡ get_or words at 0 ∷ drop (suc at) words = drop-cons words at 0 (omega arith) in
    ap
    (option_and_then (λ (word : ℕ). option_map (λ (rest : List ℕ). word ∷ rest) (words_from g (address_at at + 8) n)))
    (each at (omega arith))
    ∙ ap (option_map (λ (rest : List ℕ). get_or words at 0 ∷ rest)) more
    ∙ sym (ap (λ (ws : List ℕ). Some (take (suc n) ws)) cut)

-- a memory has the words of another, and may have more
Extends : Words → Words → Type 0
Extends g h = (addr x : ℕ) → g addr ≡ Some x → h addr ≡ Some x

module _ (g h : Words) (more : (addr x : ℕ) → g addr ≡ Some x → h addr ≡ Some x) where
  words_kept : (n a : ℕ) (xs : List ℕ) → words_from g a n ≡ Some xs → words_from h a n ≡ Some xs
  words_kept zero a xs is = is
  words_kept (suc n) a xs is = first (λ ys e. words_kept n (a + 8) ys e) (g a) refl is
    where
      rest : ((ys : List ℕ) → words_from g (a + 8) n ≡ Some ys → words_from h (a + 8) n ≡ Some ys)
          → (x : ℕ) (o : Option (List ℕ)) → words_from g (a + 8) n ≡ o
          → option_map (λ (ys : List ℕ). x ∷ ys) o ≡ Some xs
          → option_map (λ (ys : List ℕ). x ∷ ys) (words_from h (a + 8) n) ≡ Some xs
      rest kept x None e f = absurd (cc)
      rest kept x (Some ys) e f = ap (option_map (λ (zs : List ℕ). x ∷ zs)) (kept ys e) ∙ f

      first : ((ys : List ℕ) → words_from g (a + 8) n ≡ Some ys → words_from h (a + 8) n ≡ Some ys)
          → (o : Option ℕ) → g a ≡ o
          → option_and_then (λ (x : ℕ). option_map (λ (ys : List ℕ). x ∷ ys) (words_from g (a + 8) n)) o ≡ Some xs
          → words_from h a (suc n) ≡ Some xs
      first kept None e f = absurd (cc)
      first kept (Some x) e f =
          ap (option_and_then (λ (y : ℕ). option_map (λ (ys : List ℕ). y ∷ ys) (words_from h (a + 8) n)))
          (more a x e)
          ∙ rest kept x (words_from g (a + 8) n) refl f

  symbols_kept : (n a : ℕ) (xs : List Symbol) → symbols_from g a n ≡ Some xs → symbols_from h a n ≡ Some xs
  symbols_kept zero a xs is = is
  symbols_kept (suc n) a xs is = first (λ ys e. symbols_kept n (a + 40) ys e) (words_from g a 5) refl is
    where
      rest : ((ys : List Symbol) → symbols_from g (a + 40) n ≡ Some ys → symbols_from h (a + 40) n ≡ Some ys)
          → (x : Symbol) (o : Option (List Symbol)) → symbols_from g (a + 40) n ≡ o
          → option_map (λ (ys : List Symbol). x ∷ ys) o ≡ Some xs
          → option_map (λ (ys : List Symbol). x ∷ ys) (symbols_from h (a + 40) n) ≡ Some xs
      rest kept x None e f = absurd (cc)
      rest kept x (Some ys) e f = ap (option_map (λ (zs : List Symbol). x ∷ zs)) (kept ys e) ∙ f

      first : ((ys : List Symbol) → symbols_from g (a + 40) n ≡ Some ys → symbols_from h (a + 40) n ≡ Some ys)
          → (o : Option (List ℕ)) → words_from g a 5 ≡ o
          → option_and_then (λ (five : List ℕ). option_map (λ (ys : List Symbol). symbol_of five ∷ ys) (symbols_from g (a + 40) n)) o ≡ Some xs
          → symbols_from h a (suc n) ≡ Some xs
      first kept None e f = absurd (cc)
      first kept (Some five) e f =
          ap
          (option_and_then (λ (ws : List ℕ). option_map (λ (ys : List Symbol). symbol_of ws ∷ ys) (symbols_from h (a + 40) n)))
          (words_kept 5 a five e)
          ∙ rest kept (symbol_of five) (symbols_from g (a + 40) n) refl f

  table_kept : (xs : List Symbol) → symbols_in g ≡ Some xs → symbols_in h ≡ Some xs
  table_kept xs is = first (g 65536) refl is
    where
      few : (count : ℕ) (b : Bool) → cond b (symbols_from g 65544 count) None ≡ Some xs
          → cond b (symbols_from h 65544 count) None ≡ Some xs
      few count true f = symbols_kept count 65544 xs f
      few count false f = absurd (cc)

      first : (o : Option ℕ) → g 65536 ≡ o
          → option_and_then (λ (count : ℕ). cond (nat_le count 16) (symbols_from g 65544 count) None) o ≡ Some xs → symbols_in h ≡ Some xs
      first None e f = absurd (cc)
      first (Some count) e f =
          ap (option_and_then (λ (n : ℕ). cond (nat_le n 16) (symbols_from h 65544 n) None))
          (more 65536 count e)
          ∙ few count (nat_le count 16) f

  symbol_kept : (name : List ℕ) (x : ℕ) → symbol_in g name ≡ Some x → symbol_in h name ≡ Some x
  symbol_kept name x is = go (symbols_in g) refl is
    where
      go : (o : Option (List Symbol)) → symbols_in g ≡ o
          → option_and_then (λ (symbols : List Symbol). option_map (λ (symbol : Symbol). symbol.address) (find (is_named name) symbols)) o ≡ Some x
          → symbol_in h name ≡ Some x
      go None e f = absurd (cc)
      go (Some symbols) e f =
          ap
          (option_and_then (λ (all : List Symbol). option_map (λ (symbol : Symbol). symbol.address) (find (is_named name) all)))
          (table_kept symbols e)
          ∙ f

-- the symbol of the tables that are published
named_table : symbol_in (words_of front) (codes "omi_layout") ≡ Some 65880
named_table = refl

front_length : length front ≡ 43
front_length = refl

module _ (w words : List ℕ) (v : IsValid w) (has : HasTables w words) where
  front_kept : (addr x : ℕ) → words_of front addr ≡ Some x → words_of words addr ≡ Some x
  front_kept addr x is =
      let s = stands front addr x is in
      let here : place_of addr < 43 = omega (arith, s.within, front_length) in
      ap (words_of words) s.at
      ∙ image_word words (place_of addr) (omega (arith, here, has.long))
      ∙ ap Some (has.symbols (place_of addr) here ∙ sym s.word)

  table_word : (p : ℕ) → p < FRONT_WORDS → wrapped (words_of words) (address_at p) ≡ Some (get_or words p 0)
  table_word p h =
      let low : address_at p < 2 ^ 64 = omega arith in
      ap (words_of words) (mod-eq_of_lt low) ∙ image_word words p (omega (arith, h, has.long))

  table_is : take TABLE_WORDS (drop 43 words) ≡ w
  table_is = ext_get_or 0 (take TABLE_WORDS (drop 43 words)) w (long ∙ sym v.words)
      (λ i h. let within : i < TABLE_WORDS = omega (arith, h, long) in get_or-take TABLE_WORDS (drop 43 words) i 0 within ∙ get_or-drop 43 words i 0 ∙ has.table i within)
    where
      long : length (take TABLE_WORDS (drop 43 words)) ≡ TABLE_WORDS
      long = length-take-le TABLE_WORDS (drop 43 words) (omega (arith, length-drop 43 words, has.long))

  pub tables_give : GivesLayout (words_of words) w
  tables_give = record {
    address = 65880;
    symbol = symbol_kept (words_of front) (words_of words) front_kept (codes "omi_layout") 65880 named_table;
    table = read_words (wrapped (words_of words)) words TABLE_WORDS 43 (λ p h. table_word p (omega (arith, h))) (omega (arith, has.long)) ∙ ap Some table_is;
  }
