-- Words give at most one layout; and where they give none, there is one cause.
use Rattle.std.proofs.Common.{◌≡◌, ℕ, zero, suc, ◌+◌, ◌*◌, ◌%◌, ◌^◌, ◌<◌, Bool, true, false, List, ◌∷◌, Option, Some, None, refl, sym, ap, ap₂, subst, ◌∙◌, arith, nat_lt, ltb-true}
use Rattle.std.specs.Prelude.{codes, IsSome}
use Rattle.std.specs.Option.{option_map, option_and_then}
use Rattle.std.proofs.lemmas.Bool.Decides.{nat_tests}
use Rattle.omi_layout.specs.declared.limits.TheConstants.{TABLE_WORDS}
use Rattle.omi_layout.specs.declared.fault.LayoutFault.{LayoutFault}
use Rattle.omi_layout.specs.declared.fault.LayoutFault.TheVariants.{Version, Overlap, OutOfRecord, BadArena}
use Rattle.omi_layout.specs.declared.reading.LayoutError.TheVariants.{NoSymbol, Unmapped, Refused}
use Rattle.omi_layout.specs.Given.{wrapped}
use Rattle.omi_layout.specs.NoLayout.{IsUnmapped, IsLayoutRefused, table_address}
use Rattle.omi_layout.specs.OneAnswer.{OneLayout, OneCause, NotBoth}
use Rattle.omi_word.specs.Words.{Words}
use Rattle.omi_word.specs.SymbolTable.{words_from, symbol_in}
use Rattle.omi_layout.specs.Valid.{IsValid, RefusesTable, overlap, word_named}

-- the least number of a kind is one
least_one : (f g : ℕ) → (f < g → ⊥) → (g < f → ⊥) → f ≡ g
least_one f g a b = go (nat_lt f g) refl (nat_lt g f) refl
  where
    go : (x : Bool) → nat_lt f g ≡ x → (y : Bool) → nat_lt g f ≡ y → f ≡ g
    go true e y e' = absurd (a (ltb-true f g e))
    go false e true e' = absurd (b (ltb-true g f e'))
    go false e false e' = grind (arith, nat_tests)

clash : (b : Bool) → b ≡ true → b ≡ false → ⊥
clash b x y = cc

-- a valid table is refused for no fault
valid_not_refused : (w : List ℕ) (f : LayoutFault) → IsValid w → RefusesTable w f → ⊥
valid_not_refused w (Version n) v r = clash _ v.known r.unknown
valid_not_refused w (OutOfRecord f) v r = clash _ (v.inside f r.is) r.out
valid_not_refused w (Overlap f g) v r = clash _ r.overlaps (v.apart f r.first g r.second r.order)
valid_not_refused w (BadArena p) v r = clash _ (v.arenas p r.is) r.bad

-- a table is refused for one fault
one_fault : (w : List ℕ) (e f : LayoutFault) → RefusesTable w e → RefusesTable w f → e ≡ f
one_fault w (Version n) (Version m) a b = ap Version (a.is ∙ sym b.is)
one_fault w (Version n) (OutOfRecord f) a b = absurd (clash _ b.known a.unknown)
one_fault w (Version n) (Overlap f g) a b = absurd (clash _ b.known a.unknown)
one_fault w (Version n) (BadArena p) a b = absurd (clash _ b.known a.unknown)
one_fault w (OutOfRecord f) (Version m) a b = absurd (clash _ a.known b.unknown)
one_fault w (OutOfRecord f) (OutOfRecord g) a b =
    ap OutOfRecord
    (least_one f g (λ h. clash _ (b.least f a.is h) a.out) (λ h. clash _ (a.least g b.is h) b.out))
one_fault w (OutOfRecord f) (Overlap g h) a b = absurd (clash _ (b.inside f a.is) a.out)
one_fault w (OutOfRecord f) (BadArena p) a b = absurd (clash _ (b.inside f a.is) a.out)
one_fault w (Overlap f g) (Version m) a b = absurd (clash _ a.known b.unknown)
one_fault w (Overlap f g) (OutOfRecord h) a b = absurd (clash _ (a.inside h b.is) b.out)
one_fault w (Overlap f g) (Overlap h k) a b =
    let first : f ≡ h =
    least_one f h (λ low. clash _ a.overlaps (b.least f a.first low g a.second a.order))
    (λ low. clash _ b.overlaps (a.least h b.first low k b.second b.order)) in
    let theirs : overlap w f k ≡ true = subst (λ x. overlap w x k ≡ true) (sym first) b.overlaps in
    let mine : overlap w h g ≡ true = subst (λ x. overlap w x g ≡ true) first a.overlaps in
    let second : g ≡ k =
    least_one g k (λ low. clash _ mine (b.least_other g (omega (arith, a.order, first)) low))
    (λ low. clash _ theirs (a.least_other k (omega (arith, b.order, first)) low)) in
    ap₂ Overlap first second
one_fault w (Overlap f g) (BadArena p) a b =
    absurd (clash _ a.overlaps (b.apart f a.first g a.second a.order))
one_fault w (BadArena p) (Version m) a b = absurd (clash _ a.known b.unknown)
one_fault w (BadArena p) (OutOfRecord f) a b = absurd (clash _ (a.inside f b.is) b.out)
one_fault w (BadArena p) (Overlap f g) a b =
    absurd (clash _ b.overlaps (a.apart f b.first g b.second b.order))
one_fault w (BadArena p) (BadArena q) a b =
    ap BadArena
    (least_one p q (λ h. clash _ (b.least p a.is h) a.bad) (λ h. clash _ (a.least q b.is h) b.bad))

-- where words are read, each of them is mapped
each_mapped : (f : Words) (n a : ℕ) (xs : List ℕ) → words_from f a n ≡ Some xs → (j : ℕ) → j < n
    → f (a + 8 * j) ≡ None → ⊥
each_mapped f zero a xs is j h none = omega (arith, h)
each_mapped f (suc n) a xs is j h none =
    first (f a) refl (λ ys e i low. each_mapped f n (a + 8) ys e i low) is j h none
  where
    first : (o : Option ℕ) → f a ≡ o
        → ((ys : List ℕ) → words_from f (a + 8) n ≡ Some ys → (i : ℕ) → i < n → f ((a + 8) + 8 * i) ≡ None → ⊥)
        → option_and_then (λ (word : ℕ). option_map (λ (rest : List ℕ). word ∷ rest) (words_from f (a + 8) n)) o ≡ Some xs → (j : ℕ) → j < suc n → f (a + 8 * j) ≡ None → ⊥
    first None e later is j h none = cc
    first (Some x) e later is zero h none =
        let here : a + 8 * 0 ≡ a = omega arith in let both : Some x ≡ None = sym e ∙ sym (ap f here) ∙ none in cc both
    first (Some x) e later is (suc j) h none = rest (words_from f (a + 8) n) refl is
      where
        rest : (o : Option (List ℕ)) → words_from f (a + 8) n ≡ o
            → option_map (λ (rest : List ℕ). x ∷ rest) o ≡ Some xs → ⊥
        rest None e' is' = cc
        rest (Some ys) e' is' =
            later ys e' j (omega (arith, h))
            (let same : (a + 8) + 8 * j ≡ a + 8 * suc j = omega arith in ap f same ∙ none)

one_some : (o : Option ℕ) (a b : ℕ) → o ≡ Some a → o ≡ Some b → a ≡ b
one_some o a b x y = let both : Some a ≡ Some b = sym x ∙ y in cc

one_table : (o : Option (List ℕ)) (a b : List ℕ) → o ≡ Some a → o ≡ Some b → a ≡ b
one_table o a b x y = let both : Some a ≡ Some b = sym x ∙ y in cc both

no_symbol : (o : Option ℕ) (a : ℕ) → o ≡ None → o ≡ Some a → ⊥
no_symbol o a x y = let both : None ≡ Some a = sym x ∙ y in cc both

-- a table that was read has no unmapped word
unmapped_not_read : (words : Words) (addr address : ℕ) (table : List ℕ)
    → symbol_in words (codes "omi_layout") ≡ Some address
    → words_from (wrapped words) address TABLE_WORDS ≡ Some table → IsUnmapped words addr → ⊥
unmapped_not_read words addr address table symbol read u =
    let same : u.address ≡ address = one_some _ u.address address u.symbol symbol in
    each_mapped (wrapped words) TABLE_WORDS address table read u.at u.within
    (ap words (ap (λ (a : ℕ). (a + 8 * u.at) % 2 ^ 64) (sym same)) ∙ ap words (sym u.is) ∙ u.none)

pub one_layout : OneLayout
one_layout = λ words w v a b.
    let address : a.address ≡ b.address = one_some _ a.address b.address a.symbol b.symbol in
    one_table _ w v (ap (λ x. words_from (wrapped words) x TABLE_WORDS) (sym address) ∙ a.table) b.table

same_table : (words : Words) (addr addr' : ℕ) (f f' : LayoutFault) (a : IsLayoutRefused words addr f) (b : IsLayoutRefused words addr' f')
    → (a.address ≡ b.address) × (a.table ≡ b.table)
same_table words addr addr' f f' a b =
    let address : a.address ≡ b.address = one_some _ a.address b.address a.symbol b.symbol in
    (address, one_table _ a.table b.table (ap (λ x. words_from (wrapped words) x TABLE_WORDS) (sym address) ∙ a.read) b.read)

-- the first unmapped word is one
first_unmapped : (words : Words) (x y : ℕ) → IsUnmapped words x → IsUnmapped words y → x ≡ y
first_unmapped words x y a b =
    a.is ∙ ap₂ table_address address at ∙ sym b.is
  where
    address : a.address ≡ b.address
    address = one_some _ a.address b.address a.symbol b.symbol

    none_some : (o : Option ℕ) → o ≡ None → IsSome o → ⊥
    none_some None e is = cc
    none_some (Some n) e is = cc

    at : a.at ≡ b.at
    at = least_one a.at b.at
        (λ low. none_some _ (ap words (ap (λ (z : ℕ). table_address z a.at) (sym address)) ∙ ap words (sym a.is) ∙ a.none) (b.before a.at low))
        (λ low. none_some _ (ap words (ap (λ (z : ℕ). table_address z b.at) address) ∙ ap words (sym b.is) ∙ b.none) (a.before b.at low))

pub one_cause : OneCause
one_cause words NoSymbol NoSymbol a b = refl
one_cause words NoSymbol (Unmapped y) a b = absurd (no_symbol _ b.address a b.symbol)
one_cause words NoSymbol (Refused y f) a b = absurd (no_symbol _ b.address a b.symbol)
one_cause words (Unmapped x) NoSymbol a b = absurd (no_symbol _ a.address b a.symbol)
one_cause words (Unmapped x) (Unmapped y) a b = ap Unmapped (first_unmapped words x y a b)
one_cause words (Unmapped x) (Refused y f) a b =
    absurd (unmapped_not_read words x b.address b.table b.symbol b.read a)
one_cause words (Refused x e) NoSymbol a b = absurd (no_symbol _ a.address b a.symbol)
one_cause words (Refused x e) (Unmapped y) a b =
    absurd (unmapped_not_read words y a.address a.table a.symbol a.read b)
one_cause words (Refused x e) (Refused y f) a b =
    let same = same_table words x y e f a b in
    let fault : e ≡ f =
    one_fault b.table e f (subst (λ (t : List ℕ). RefusesTable t e) same.1 a.refused) b.refused in
    ap₂ Refused (a.is ∙ ap₂ (λ z q. table_address z (word_named q)) same.0 fault ∙ sym b.is) fault

pub not_both : NotBoth
not_both words w NoSymbol v a b = no_symbol _ a.address b a.symbol
not_both words w (Unmapped y) v a b = unmapped_not_read words y a.address w a.symbol a.table b
not_both words w (Refused y f) v a b =
    let address : a.address ≡ b.address = one_some _ a.address b.address a.symbol b.symbol in
    let table : w ≡ b.table =
    one_table _ w b.table (ap (λ x. words_from (wrapped words) x TABLE_WORDS) (sym address) ∙ a.table) b.read in
    valid_not_refused w f v (subst (λ (t : List ℕ). RefusesTable t f) (sym table) b.refused)
