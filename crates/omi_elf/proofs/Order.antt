-- A stable sort by start puts segments in the order of the definition.
use Rattle.std.proofs.Common.{◌≡◌, ℕ, ◌<◌, ◌≤◌, Bool, true, false, cond, eqb, leb, List, [], ◌∷◌, refl, sym, ap, ◌∙◌, arith, inl, inr}
use Rattle.std.specs.Prelude.{filter}
use Rattle.std.proofs.lemmas.Bool.{leb-true, leb-false, eq-eqb, ne_eqb, cases_eq, cases_order, cases_Bool}
use Rattle.omi_elf.specs.declared.program_header.ProgramHeader.{ProgramHeader}
use Rattle.omi_elf.specs.Segments.{in_place, by_start}

-- each starts at this address or above
abbrev pub StartFrom : ℕ → List ProgramHeader → Type 0
StartFrom n [] = Unit {0}
StartFrom n (h ∷ hs) = (n ≤ h.p_vaddr) × StartFrom n hs

-- in order of start
abbrev pub Rises : List ProgramHeader → Type 0
Rises [] = Unit {0}
Rises (h ∷ hs) = StartFrom h.p_vaddr hs × Rises hs

-- those that start at an address
abbrev pub starting : ℕ → List ProgramHeader → List ProgramHeader
starting n hs = filter (λ h. eqb h.p_vaddr n) hs

pub StartFrom-lower : (m n : ℕ) (hs : List ProgramHeader) → m ≤ n → StartFrom n hs → StartFrom m hs
StartFrom-lower m n [] le s = tt
StartFrom-lower m n (h ∷ hs) le s = (omega (arith, s.0), StartFrom-lower m n hs le s.1)

-- none starts below
pub none_starting : (m n : ℕ) (hs : List ProgramHeader) → m < n → StartFrom n hs → starting m hs ≡ []
none_starting m n [] lt s = refl
none_starting m n (h ∷ hs) lt s =
    let e = ne_eqb h.p_vaddr m (λ q. omega (arith, q, s.0)) in rw e (none_starting m n hs lt s.1)

same_by : (b : Bool) (x : ProgramHeader) (xs ys : List ProgramHeader) → cond b (x ∷ xs) xs ≡ cond b (x ∷ ys) ys → xs ≡ ys
same_by true x xs ys e = cc
same_by false x xs ys e = e

pub same_tails : (n : ℕ) (x : ProgramHeader) (xs : List ProgramHeader) (y : ProgramHeader) (ys : List ProgramHeader)
    → x ≡ y → starting n (x ∷ xs) ≡ starting n (y ∷ ys) → starting n xs ≡ starting n ys
same_tails n x xs y ys e h =
    same_by (eqb x.p_vaddr n) x (starting n xs) (starting n ys) (h ∙ ap (λ (z : ProgramHeader). starting n (z ∷ ys)) (sym e))

-- the first of one list starts where the first of the other does
pub least_first : (x : ProgramHeader) (xs : List ProgramHeader) (y : ProgramHeader) (ys : List ProgramHeader)
    → Rises (x ∷ xs) → Rises (y ∷ ys) → ((n : ℕ) → starting n (x ∷ xs) ≡ starting n (y ∷ ys))
    → x.p_vaddr ≡ y.p_vaddr
least_first x xs y ys r s h =
    let ex = eq-eqb x.p_vaddr x.p_vaddr refl in
    let ey = eq-eqb y.p_vaddr y.p_vaddr refl in
    let hx = h x.p_vaddr in
    let hy = h y.p_vaddr in
    elim (cases_order x.p_vaddr y.p_vaddr) [
      | inl same ↦ same
      | inr other ↦ elim other [
        | inl below ↦
            let none = none_starting x.p_vaddr y.p_vaddr (y ∷ ys) below (omega arith, s.0) in
            let e = hx ∙ none in let z = rw ex at e in absurd (let t : x ∷ starting x.p_vaddr xs ≡ [] = z in cc)
        | inr above ↦
            let none = none_starting y.p_vaddr x.p_vaddr (x ∷ xs) above (omega arith, r.0) in
            let e = sym hy ∙ none in let z = rw ey at e in absurd (let t : y ∷ starting y.p_vaddr ys ≡ [] = z in cc)
      ]
    ]

-- in order of start there is one list with these at each address
pub one_order : (xs ys : List ProgramHeader) → Rises xs → Rises ys
    → ((n : ℕ) → starting n xs ≡ starting n ys) → xs ≡ ys
one_order [] [] r s h = refl
one_order [] (y ∷ ys) r s h =
    let e = eq-eqb y.p_vaddr y.p_vaddr refl in
    let q = h y.p_vaddr in absurd (let z = rw e at q in cc)
one_order (x ∷ xs) [] r s h =
    let e = eq-eqb x.p_vaddr x.p_vaddr refl in
    let q = h x.p_vaddr in absurd (let z = rw e at q in cc)
one_order (x ∷ xs) (y ∷ ys) r s h =
    let same : x.p_vaddr ≡ y.p_vaddr = least_first x xs y ys r s h in
    let ex = eq-eqb x.p_vaddr x.p_vaddr refl in
    let ey = eq-eqb y.p_vaddr x.p_vaddr (sym same) in
    let q = h x.p_vaddr in
    let heads : x ∷ starting x.p_vaddr xs ≡ y ∷ starting x.p_vaddr ys = rw (ex, ey) at q in
    let head : x ≡ y = cc in
    let tails : (n : ℕ) → starting n xs ≡ starting n ys = λ n. same_tails n x xs y ys head (h n) in
    let rest = one_order xs ys r.1 s.1 tails in
    cc

-- ---- the order of the definition

pub in_place-from : (n : ℕ) (h : ProgramHeader) (hs : List ProgramHeader) → n ≤ h.p_vaddr → StartFrom n hs
    → StartFrom n (in_place h hs)
in_place-from n h [] le s = (le, tt)
in_place-from n h (g ∷ gs) le s =
    elim (cases_Bool (leb h.p_vaddr g.p_vaddr)) [
      | inl t ↦ rw t (le, s)
      | inr f ↦ rw f (s.0, in_place-from n h gs le s.1)
    ]

pub in_place-rises : (h : ProgramHeader) (hs : List ProgramHeader) → Rises hs → Rises (in_place h hs)
in_place-rises h [] r = (tt, tt)
in_place-rises h (g ∷ gs) r =
    elim (cases_Bool (leb h.p_vaddr g.p_vaddr)) [
      | inl t ↦
          let le = leb-true h.p_vaddr g.p_vaddr t in
          rw t ((le, StartFrom-lower h.p_vaddr g.p_vaddr gs le r.0), r)
      | inr f ↦
          let lt = leb-false h.p_vaddr g.p_vaddr f in
          rw f (in_place-from g.p_vaddr h gs (omega arith) r.0, in_place-rises h gs r.1)
    ]

pub by_start-rises : (hs : List ProgramHeader) → Rises (by_start hs)
by_start-rises [] = tt
by_start-rises (h ∷ hs) = in_place-rises h (by_start hs) (by_start-rises hs)

-- a segment goes in front of those that start where it does
pub in_place-starting : (n : ℕ) (h : ProgramHeader) (hs : List ProgramHeader)
    → starting n (in_place h hs) ≡ starting n (h ∷ hs)
in_place-starting n h [] = refl
in_place-starting n h (g ∷ gs) =
    elim (cases_Bool (leb h.p_vaddr g.p_vaddr)) [
      | inl t ↦ rw t refl
      | inr f ↦
          let lt = leb-false h.p_vaddr g.p_vaddr f in
          rw f (elim (cases_eq h.p_vaddr n) [
            | inl e ↦
                let a = eq-eqb h.p_vaddr n e in
                let b = ne_eqb g.p_vaddr n (λ q. omega (arith, q, e, lt)) in
                let rest = in_place-starting n h gs in
                rw (b, rest, a) refl
            | inr e ↦
                let a = ne_eqb h.p_vaddr n e in
                let rest = in_place-starting n h gs in
                rw (rest, a) refl
          ])
    ]

pub by_start-starting : (n : ℕ) (hs : List ProgramHeader) → starting n (by_start hs) ≡ starting n hs
by_start-starting n [] = refl
by_start-starting n (h ∷ hs) =
    in_place-starting n h (by_start hs)
    ∙ ap (λ (ys : List ProgramHeader). cond (eqb h.p_vaddr n) (h ∷ ys) ys) (by_start-starting n hs)
